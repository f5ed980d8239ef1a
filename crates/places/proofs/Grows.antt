-- What stands at a place stands there in every longer input: a number, and a CRC with its end byte.
use mathlib.Core.Path.{◌≡◌, refl, sym, ap, ◌∙◌, subst}
use mathlib.Core.Bool.{Bool, true, false}
use mathlib.Core.List.{List, ◌++◌}
use Prim.Native.Nat.{ℕ, ◌+◌, ◌-◌, ◌≤◌, ◌<◌}
use native.Mathlib.Omega.{arith}
use lib.ListN.{length, take, drop, length-append, get_or-append}
use lib.Dec.{leb}
use lib.Seq.{length-take-le, take-append-le}
use borrow.Author.Tests.{leb-true, leb-false, le-leb, lt-leb}
use Rattle.refusals.specs.Read.{Read, got, refused, Refusal, then, guard, eof, mismatch, span_at}
use Rattle.refusals.proofs.Read.{span_room}
use Rattle.tlf.specs.declared.TypeLengthField.{TypeLengthField}
use Rattle.numbers.specs.Numbers.{number, bytes_at_claim, fits_width, Raw, raw_from, raw_at, unsigned_at}
use Rattle.crc_x25.specs.Crc.{crc_of}
use Rattle.trailer.specs.Trailer.{swapped, crc_from}
use Rattle.places.specs.Stands.{SameBefore, TagAt, CrcAt}
use Rattle.places.proofs.Before.{same_long, same_part}
use Rattle.places.proofs.Seen.{Taken, Seen, seen_weak, seen_then, looked_over_lem}
use Rattle.places.proofs.Lengths.{cut_eof, fixed_got, fixed_refused, tlf_seen}

-- n bytes taken: their value, or 10
pub bytes_seen : {A : Type 0} {P : Refusal → ℕ → Type 0} (read : List ℕ → Read A) (value : List ℕ → A) (at n : ℕ)
    → ((t : List ℕ) → at + n ≤ length t → read t ≡ got (value (take n (drop at t))) (at + n))
    → ((t : List ℕ) → at ≤ length t → length t < at + n → read t ≡ refused (eof (length t)))
    → (s : List ℕ) → P (eof (length s)) (length s + 1) → at ≤ length s → Seen P read s at (read s)
bytes_seen {A} {P} read value at n is short s over h = by (leb (at + n) (length s)) refl
  where
    cut : (m : ℕ) → at ≤ m → m < at + n → m ≤ length s → read (take m s) ≡ refused (eof m)
    cut m p i j = short (take m s) (omega (arith, length-take-le m s j)) (omega (arith, length-take-le m s j)) ∙ cut_eof s m j

    by : (b : Bool) → leb (at + n) (length s) ≡ b → Seen P read s at (read s)
    by true e =
        let k = leb-true (at + n) (length s) e in
        rw (is s k)
        (record {
          seen = record {
            low = omega arith;
            high = k;
            looked = record { cut = cut; alike = λ t w. is t (same_long k w) ∙ ap (λ (l : List ℕ). got (value l) (at + n)) (same_part at n (omega arith) w) ∙ sym (is s k) };
          };
        })
    by false e =
        let k = leb-false (at + n) (length s) e in
        rw (short s h k)
        (record { seen = record { behind = length s + 1; low = omega arith; looked = looked_over_lem _ s at (λ m p j. cut m p (omega arith) j); what = over } })

-- nothing is asked of a refusal
abbrev Anyhow : Refusal → ℕ → Type 0
Anyhow f q = Unit {0}

pub number_bytes_is : (at n : ℕ) (t : List ℕ) → at + n ≤ length t → bytes_at_claim t at n ≡ got (number 0 (take n (drop at t))) (at + n)
unfolding bytes_at_claim then
number_bytes_is at n t h = rw (span_room t at n h)

pub number_bytes_short : (at n : ℕ) (t : List ℕ) → at ≤ length t → length t < at + n → bytes_at_claim t at n ≡ refused (eof (length t))
unfolding bytes_at_claim then span_at guard
number_bytes_short at n t h k = rw (le-leb at (length t) h, lt-leb n (length t - at) (omega arith))

pub number_bytes_seen : {P : Refusal → ℕ → Type 0} (at n : ℕ) (s : List ℕ) → P (eof (length s)) (length s + 1) → at ≤ length s → Seen P (λ t. bytes_at_claim t at n) s at (bytes_at_claim s at n)
number_bytes_seen at n s over h = bytes_seen _ (number 0) at n (number_bytes_is at n) (number_bytes_short at n) s over h

unsigned_seen : (width : ℕ) (s : List ℕ) (at : ℕ) → at ≤ length s → Seen Anyhow (λ t. unsigned_at width t at) s at (unsigned_at width s at)
unfolding unsigned_at raw_at raw_from guard
unsigned_seen width s at h =
    seen_then _ _ s at
    (seen_then _ _ s at (seen_weak _ (λ f q w. tt) (tlf_seen s at h)) (λ t n e l k. judged t n k (fits_width false width t))) (λ r m e l k. fixed_got s m _ k)
  where
    judged : (t : TypeLengthField) (n : ℕ) → n ≤ length s → (b : Bool)
        → Seen {A = Raw} Anyhow (λ u. guard b (mismatch at) (then (bytes_at_claim u n t.len) λ v end. got (record { len = t.len; value = v }) end)) s n (guard b (mismatch at) (then (bytes_at_claim s n t.len) λ v end. got (record { len = t.len; value = v }) end))
    judged t n k true = seen_then _ (λ v end u. got (record { len = t.len; value = v }) end) s n (number_bytes_seen n t.len s tt k) (λ v m e l i. fixed_got s m _ i)
    judged t n k false = fixed_refused s n (mismatch at) tt

-- a number that is found needs what is before the next place
pub unsigned_taken : (width : ℕ) (s : List ℕ) (at v n : ℕ) → at ≤ length s → unsigned_at width s at ≡ got v n → Taken (λ t. unsigned_at width t at) s at n
unsigned_taken width s at v n h e =
    let w : Seen Anyhow (λ t. unsigned_at width t at) s at (got v n) = subst (λ (r : Read ℕ). Seen Anyhow (λ t. unsigned_at width t at) s at r) e (unsigned_seen width s at h) in
    w.seen

same_longer : (n : ℕ) (u v : List ℕ) → n ≤ length u → SameBefore n u (u ++ v)
same_longer n u v h = record { bytes = take-append-le n u v h }

pub crc_same : {s t : List ℕ} {q : ℕ} (start at : ℕ) → at ≤ q → SameBefore q s t → crc_from t start at ≡ crc_from s start at
unfolding crc_from
crc_same {s} {t} {q} start at h w = by (leb start at) refl
  where
    by : (b : Bool) → leb start at ≡ b → crc_of (take (at - start) (drop start t)) ≡ crc_of (take (at - start) (drop start s))
    by true e = let k = leb-true start at e in ap crc_of (same_part start (at - start) (omega arith) w)
    by false e = let k = leb-false start at e in let o : at - start ≡ 0 = omega arith in rw o

pub tag_grows : (width tag p : ℕ) (u v : List ℕ) → p ≤ length u → TagAt width tag p u → TagAt width tag p (u ++ v)
tag_grows width tag p u v h t =
    let w = unsigned_taken width u p tag t.next h t.is in
    let l = w.looked in
    record { next = t.next; is = l.alike (u ++ v) (same_longer t.next u v w.high) ∙ t.is }

pub crc_grows : (start p : ℕ) (u v : List ℕ) → p ≤ length u → CrcAt start p u → CrcAt start p (u ++ v)
crc_grows start p u v h t =
    let w = unsigned_taken 2 u p _ t.next h t.is in
    let l = w.looked in
    let c : crc_from (u ++ v) start p ≡ crc_from u start p = crc_same {q = p} start p (omega arith) (same_longer p u v h) in
    let i = t.within in
    record {
      next = t.next;
      is = l.alike (u ++ v) (same_longer t.next u v w.high) ∙ t.is ∙ ap (λ (x : ℕ). got (swapped x) t.next) (sym c);
      within = omega (arith, i, length-append u v);
      end = get_or-append u v 0 t.next i ∙ t.end;
    }
