-- Where the readings of an end byte and of a trailer refuse: the end byte is judged before the CRC.
use mathlib.Core.Path.{subst, ◌≡◌, refl, sym, ap, ◌∙◌}
use mathlib.Core.Bool.{Bool, true, false}
use mathlib.Core.List.{List, [], ◌∷◌, ◌++◌}
use Prim.Native.Nat.{ℕ, zero, suc, ◌^◌, ◌+◌, ◌/◌, ◌%◌, ◌-◌, ◌≤◌, ◌<◌}
use native.Mathlib.Omega.{arith}
use lib.ListN.{length, get_or, take, drop, length-take, get_or-eq_default, length-append}
use lib.Dec.{leb, eqb}
use lib.Seq.{length-take-le, get_or-append-add, get_or-take, get_or-drop, get_or_at}
use borrow.Author.Tests.{leb-true, leb-false, lt-ltb, le-ltb, eq-eqb, ne_eqb, eqb-true, eqb-false}
use Rattle.refusals.specs.Read.{Read, got, refused, then, guard, eof, crc_mismatch, wrong_end, byte_at}
use Rattle.refusals.proofs.Read.{ok_at}
use Rattle.numbers.specs.Numbers.{number, unsigned_at}
use Rattle.numbers.proofs.Ahead.{unsigned_found}
use Rattle.crc_x25.specs.Crc.{crc_of}
use Rattle.crc_x25.proofs.Laws.{crc_fits}
use Rattle.trailer.specs.Trailer.{message_end_at, swapped, crc_from, trailer_at}
use Rattle.places.specs.Stands.{Element, Closed, EndByte, Instead, CrcAt, over, other_crc, other_end}
use Rattle.places.specs.Readers.{NotTen, More}
use Rattle.places.proofs.Before.{same_all, same_long, same_byte, same_front, length_front, none_fits, one_fits}
use Rattle.places.proofs.Seen.{Seen, Onward, looked_over_lem, onward_then, seen_on}
use Rattle.places.proofs.Lengths.{cut_eof, fixed_got, fixed_refused, not_ten_guard}
use Rattle.places.proofs.Grows.{crc_same}
use Rattle.places.proofs.Locates.{Stood, Locates, locates_taken, closed_of, more_then, more_none}
use Rattle.places.proofs.Elements.{Mended, mended_accepts, Passes, element_at_lem}
use Rattle.places.proofs.Fields.{locates_unsigned, passes_unsigned, passes_then}
use Rattle.places.proofs.Tags.{unsigned_front, number_refused, mended_by}

-- ---- the end byte

pub end_cut : (t : List ℕ) (at : ℕ) → length t ≤ at → message_end_at t at ≡ refused (eof (length t))
unfolding message_end_at byte_at then guard
end_cut t at h = rw (le-ltb at (length t) h)

end_is : (t : List ℕ) (at b : ℕ) → at < length t → get_or t at 0 ≡ b → message_end_at t at ≡ guard (eqb b 0x00) (wrong_end at) (got tt (at + 1))
unfolding message_end_at byte_at then guard
end_is t at b h e = rw (lt-ltb at (length t) h, e)

-- 00 at an input's end
end_zero : (s : List ℕ) (at : ℕ) → length s ≡ at → message_end_at (s ++ 0x00 ∷ []) at ≡ got tt (length (s ++ 0x00 ∷ []))
unfolding guard
end_zero s at h =
    let l : at + 1 ≡ length (s ++ 0x00 ∷ []) = omega (arith, length-append s (0x00 ∷ [])) in
    end_is (s ++ 0x00 ∷ []) at 0x00 (omega arith) (get_or_at s 0x00 [] 0 at h) ∙ ap (λ (n : ℕ). got tt n) l

-- ---- a trailer

-- what is behind the CRC
behind_crc : ℕ → ℕ → ℕ → ℕ → List ℕ → Read (Unit {0})
behind_crc start at crc n t = then (message_end_at t n) λ end m. guard (eqb crc (swapped (crc_from t start at))) (crc_mismatch at) (got tt m)

whole : ℕ → ℕ → List ℕ → Read (Unit {0})
whole start at t = then (unsigned_at 2 t at) λ crc n. behind_crc start at crc n t

right_crc : ℕ → List ℕ
right_crc c = 0x63 ∷ c / 256 ∷ c % 256 ∷ 0x00 ∷ []

front_crc : (s : List ℕ) (at c : ℕ) → at ≤ length s → unsigned_at 2 (take at s ++ right_crc c) at ≡ got c (at + 3)
unfolding right_crc number
front_crc s at c h =
    let o : number 0 (c / 256 ∷ c % 256 ∷ []) ≡ c = omega arith in
    let p : at + 1 + 2 ≡ at + 3 = omega arith in
    unsigned_front 2 s (c / 256 ∷ c % 256 ∷ []) (0x00 ∷ []) at (omega arith) (omega arith) (omega arith) h
    ∙ ap (λ (v : ℕ). got v (at + 1 + 2)) o ∙ ap (λ (n : ℕ). got c n) p

front_length : (s : List ℕ) (at c : ℕ) → at ≤ length s → length (take at s ++ right_crc c) ≡ at + 4
unfolding right_crc
front_length s at c h = length_front s (right_crc c) at h

front_zero : (s : List ℕ) (at c : ℕ) → at ≤ length s → get_or (take at s ++ right_crc c) (at + 3) 0 ≡ 0
unfolding right_crc
front_zero s at c h = ap (λ (n : ℕ). get_or (take at s ++ right_crc c) (n + 3) 0) (sym (length-take-le at s h)) ∙ get_or-append-add (take at s) (right_crc c) 3 0

front_end : (s : List ℕ) (at c : ℕ) → at ≤ length s → message_end_at (take at s ++ right_crc c) (at + 3) ≡ got tt (at + 4)
unfolding right_crc guard
front_end s at c h =
    let o : at + 3 + 1 ≡ at + 4 = omega arith in
    end_is (take at s ++ right_crc c) (at + 3) 0 (omega (arith, front_length s at c h)) (front_zero s at c h) ∙ ap (λ (n : ℕ). got tt n) o

right_trailer : (s : List ℕ) (start at c : ℕ) → at ≤ length s → c ≡ swapped (crc_from s start at) → whole start at (take at s ++ right_crc c) ≡ got tt (at + 4)
unfolding whole behind_crc then guard
right_trailer s start at c h e =
    let k : crc_from (take at s ++ right_crc c) start at ≡ crc_from s start at = crc_same start at (omega arith) (same_front s (right_crc c) at h) in
    rw (front_crc s at c h, front_end s at c h, k, eq-eqb c (swapped (crc_from s start at)) e)

-- the CRC of bytes has two
two_fit : (c i : ℕ) → c < 2 ^ 16 → get_or (right_crc c) i 0 < 256
unfolding right_crc
two_fit c zero h = omega arith
two_fit c (suc zero) h = omega arith
two_fit c (suc (suc zero)) h = omega arith
two_fit c (suc (suc (suc i))) h = one_fits 0x00 (omega arith) i

part_fits : (s : List ℕ) (a n : ℕ) → ((i : ℕ) → get_or s i 0 < 256) → (i : ℕ) → get_or (take n (drop a s)) i 0 < 256
part_fits s a n h i = by (leb n i) refl
  where
    by : (b : Bool) → leb n i ≡ b → get_or (take n (drop a s)) i 0 < 256
    by true e = let k = leb-true n i e in let z = get_or-eq_default (take n (drop a s)) 0 {n = i} (omega (arith, length-take n (drop a s))) in omega (arith, z)
    by false e = let k = leb-false n i e in omega (arith, get_or-take n (drop a s) i 0 k, get_or-drop a s i 0, h (a + i))

crc_bytes_fit : (s : List ℕ) (start at : ℕ) → ((i : ℕ) → get_or s i 0 < 256) → (i : ℕ) → get_or (right_crc (swapped (crc_from s start at))) i 0 < 256
unfolding crc_from
crc_bytes_fit s start at h i =
    let c = crc_fits (take (at - start) (drop start s)) (part_fits s start (at - start) h) in
    two_fit (swapped (crc_of (take (at - start) (drop start s)))) i (omega (arith, c))

-- with the right CRC and 00 the message is accepted
right_instead : (start at : ℕ) (s : List ℕ) → at ≤ length s → Instead (whole start at) s at (CrcAt start at)
right_instead start at s h =
    let c : ℕ = swapped (crc_from s start at) in
    let u : List ℕ = take at s ++ right_crc c in
    let k : crc_from u start at ≡ crc_from s start at = crc_same start at (omega arith) (same_front s (right_crc c) at h) in
    record {
      others = right_crc c;
      bytes = λ b. crc_bytes_fit s start at b;
      value = tt;
      accepted = right_trailer s start at c h refl ∙ ap (λ (n : ℕ). got tt n) (sym (front_length s at c h));
      holds = record {
        next = at + 3;
        is = front_crc s at c h ∙ ap (λ (x : ℕ). got (swapped x) (at + 3)) (sym k);
        within = omega (arith, front_length s at c h);
        end = front_zero s at c h;
      };
    }

mended_trailer : (start at : ℕ) → Mended (whole start at) at
mended_trailer start at = mended_by (CrcAt start at) (right_instead start at)

passes_whole : (start at : ℕ) → Passes (whole start at) at
unfolding whole
passes_whole start at = passes_then _ (λ v m t. behind_crc start at v m t) at (passes_unsigned 2 at)

-- the end byte, in a trailer whose CRC was read up to n
end_seen : (s : List ℕ) (start at crc n : ℕ) → at < n → n ≤ length s → unsigned_at 2 s at ≡ got crc n → Onward (whole start at) (behind_crc start at crc n) s at n
    → Seen (Stood (whole start at) s at start) (behind_crc start at crc n) s n (behind_crc start at crc n s)
unfolding behind_crc then guard
end_seen s start at crc n l h e o = by (leb (length s) n) refl
  where
    T : List ℕ → Read (Unit {0})
    T = whole start at

    B : List ℕ → Read (Unit {0})
    B = behind_crc start at crc n

    cut : (m : ℕ) → m ≤ n → m ≤ length s → B (take m s) ≡ refused (eof m)
    cut m p j = rw (end_cut (take m s) n (omega (arith, length-take-le m s j))) (cut_eof s m j)

    element : Element T s at
    element = element_at_lem (passes_whole start at) s (omega arith)

    judged : n < length s → get_or s n 0 ≡ 0x00 → (b : Bool) → eqb crc (swapped (crc_from s start at)) ≡ b → Seen {A = Unit {0}} (Stood T s at start) (λ t. guard b (crc_mismatch at) (got tt (n + 1))) s (n + 1) (guard {A = Unit {0}} b (crc_mismatch at) (got tt (n + 1)))
    judged r end true k = fixed_got s (n + 1) tt (omega arith)
    judged r end false k = fixed_refused s (n + 1) (crc_mismatch at) (record { stands = other_crc crc at n element (right_instead start at s (omega arith)) e r end (eqb-false crc (swapped (crc_from s start at)) k); begun = omega arith; before = omega arith })

    u : List ℕ
    u = take n s ++ 0x00 ∷ []

    zero_is : T u ≡ guard (eqb crc (swapped (crc_from u start at))) (crc_mismatch at) (got tt (length u))
    zero_is = o.goes_on_claim u (same_front s (0x00 ∷ []) n h) ∙ rw (end_zero (take n s) n (length-take-le n s h))

    zero_closed : (b : Bool) → Closed n u (guard {A = Unit {0}} b (crc_mismatch at) (got tt (length u)))
    zero_closed true = refl
    zero_closed false = (refl, l)

    end_byte_claim : EndByte T s n
    end_byte_claim =
        record {
          judged = λ t w i x. o.goes_on_claim t w ∙ rw (end_is t n (get_or t n 0) i refl, ne_eqb (get_or t n 0) 0x00 x);
          more = [];
          bytes = λ f. none_fits;
          closed = subst (λ (r : Read (Unit {0})). Closed n u r) (sym zero_is) (zero_closed (eqb crc (swapped (crc_from u start at))));
        }

    on : n < length s → (b : Bool) → eqb (get_or s n 0) 0x00 ≡ b → Seen (Stood T s at start) B s n (B s)
    on k true z =
        let o₁ : Onward B (λ t. guard (eqb crc (swapped (crc_from s start at))) (crc_mismatch at) (got tt (n + 1))) s n (n + 1) =
        record { low = omega arith; cut = λ m p i j. cut m (omega arith) j; goes_on_claim = λ t w. rw (end_is t n (get_or s n 0) (omega (arith, same_long (omega arith) w)) (same_byte n (omega arith) w), z, crc_same start at (omega arith) w) } in
        rw (o₁.goes_on_claim s (same_all (n + 1) s))
        (seen_on _ o₁ (λ f q i p. p) (judged k (eqb-true (get_or s n 0) 0x00 z) (eqb crc (swapped (crc_from s start at))) refl))
    on k false z =
        let o₁ : Onward B (λ t. refused (wrong_end n)) s n (n + 1) =
        record { low = omega arith; cut = λ m p i j. cut m (omega arith) j; goes_on_claim = λ t w. rw (end_is t n (get_or s n 0) (omega (arith, same_long (omega arith) w)) (same_byte n (omega arith) w), z) } in
        rw (o₁.goes_on_claim s (same_all (n + 1) s))
        (seen_on _ o₁ (λ f q i p. p) (fixed_refused s (n + 1) (wrong_end n) (record { stands = other_end n end_byte_claim k (eqb-false (get_or s n 0) 0x00 z); begun = omega arith; before = omega arith })))

    by : (b : Bool) → leb (length s) n ≡ b → Seen (Stood T s at start) B s n (B s)
    by true z =
        let k = leb-true (length s) n z in
        rw (end_cut s n k)
        (record {
          seen = record {
            behind = length s + 1;
            low = omega arith;
            looked = looked_over_lem B s n (λ m p j. cut m (omega arith) j);
            what = record { stands = over; begun = omega arith; before = omega arith };
          };
        })
    by false z = on (leb-false (length s) n z) (eqb (get_or s n 0) 0x00) refl

-- with 00 behind it a CRC is judged
end_missing : (start at crc n : ℕ) (u : List ℕ) → n ≤ length u → More (behind_crc start at crc n) u
unfolding behind_crc then guard
end_missing start at crc n u h = by (leb (length u) n) refl
  where
    judged : (v : List ℕ) (b : Bool) → NotTen (then (guard b (wrong_end n) (got tt (n + 1))) λ (end : Unit {0}) m. guard {A = Unit {0}} (eqb crc (swapped (crc_from v start at))) (crc_mismatch at) (got tt m))
    judged v true = not_ten_guard (eqb crc (swapped (crc_from v start at))) (crc_mismatch at) (got tt (n + 1)) (λ k. omega (arith, k)) tt
    judged v false = λ k. omega (arith, k)

    by : (b : Bool) → leb (length u) n ≡ b → More (behind_crc start at crc n) u
    by true e =
        let k = leb-true (length u) n e in
        record { more = 0x00 ∷ []; bytes = one_fits 0x00 (omega arith); not_ten = rw (end_is (u ++ 0x00 ∷ []) n 0x00 (omega (arith, length-append u (0x00 ∷ []))) (get_or_at u 0x00 [] 0 n (omega arith))) (judged (u ++ 0x00 ∷ []) true) }
    by false e = more_none (rw (end_is u n (get_or u n 0) (leb-false (length u) n e) refl) (judged u (eqb (get_or u n 0) 0x00)))

locates_whole : (start at : ℕ) → Locates (whole start at) at start
unfolding whole then
locates_whole start at =
    record {
      seen = λ s h. by s h (unsigned_at 2 s at) refl ((locates_unsigned 2 (omega arith) at start).seen s h);
      missing = λ s h.
          more_then U (behind_crc start at) s at h ((locates_unsigned 2 (omega arith) at start).missing s h)
          (λ u v n i e. locates_taken (locates_unsigned 2 (omega arith) at start) u v n i e) (λ u crc n e i. end_missing start at crc n u i);
      accepts = λ s h. mended_accepts (mended_trailer start at) s h;
    }
  where
    U : List ℕ → Read ℕ
    U t = unsigned_at 2 t at

    by : (s : List ℕ) → at ≤ length s → (x : Read ℕ) → unsigned_at 2 s at ≡ x → Seen (Stood U s at start) U s at x
        → Seen (Stood (whole start at) s at start) (whole start at) s at (then x λ crc n. behind_crc start at crc n s)
    by s h (refused f) e w = number_refused 2 (behind_crc start at) at start (mended_trailer start at) s f h e w
    by s h (got crc n) e w =
        let v = w.seen in
        let a = ok_at (sym e) (unsigned_found 2 s at) in
        let f = a.1 in
        let o = onward_then U (behind_crc start at) s at crc n e v in
        seen_on (behind_crc start at crc n s) o (λ g q i p. p) (end_seen s start at crc n f.ahead v.high e o)

pub locates_trailer : (start at : ℕ) → Locates (λ t. trailer_at t start at) at start
unfolding trailer_at whole behind_crc
locates_trailer start at = locates_whole start at

pub passes_trailer : (start at : ℕ) → Passes (λ t. trailer_at t start at) at
unfolding trailer_at whole behind_crc
passes_trailer start at = passes_whole start at

-- ---- the end byte by itself

pub locates_end : (at start : ℕ) → Locates (λ t. message_end_at t at) at start
unfolding guard
locates_end at start =
    record {
      seen = λ s h. by s h (leb (length s) at) refl;
      missing = λ s h. told s h (leb (length s) at) refl;
      accepts = λ s h. record { more = 0x00 ∷ []; fit = λ f. one_fits 0x00 (omega arith); value = tt; is = end_zero s at h };
    }
  where
    E : List ℕ → Read (Unit {0})
    E t = message_end_at t at

    told : (s : List ℕ) → at ≤ length s → (b : Bool) → leb (length s) at ≡ b → More E s
    told s h true e =
        let k = leb-true (length s) at e in
        record { more = 0x00 ∷ []; bytes = one_fits 0x00 (omega arith); not_ten = rw (end_is (s ++ 0x00 ∷ []) at 0x00 (omega (arith, length-append s (0x00 ∷ []))) (get_or_at s 0x00 [] 0 at (omega arith))) tt }
    told s h false e = more_none (rw (end_is s at (get_or s at 0) (leb-false (length s) at e) refl) (not_ten_guard (eqb (get_or s at 0) 0x00) (wrong_end at) (got tt (at + 1)) (λ k. omega (arith, k)) tt))

    cut : (s : List ℕ) (m : ℕ) → m ≤ at → m ≤ length s → E (take m s) ≡ refused (eof m)
    cut s m p j = end_cut (take m s) at (omega (arith, length-take-le m s j)) ∙ cut_eof s m j

    judged : (s : List ℕ) → at < length s → (b : Bool) → eqb (get_or s at 0) 0x00 ≡ b
        → Seen {A = Unit {0}} (Stood E s at start) (λ t. guard b (wrong_end at) (got tt (at + 1))) s (at + 1) (guard {A = Unit {0}} b (wrong_end at) (got tt (at + 1)))
    judged s k true z = fixed_got s (at + 1) tt (omega arith)
    judged s k false z =
        fixed_refused s (at + 1) (wrong_end at)
        (record {
          stands = other_end at (record { judged = λ t w i x. rw (end_is t at (get_or t at 0) i refl, ne_eqb (get_or t at 0) 0x00 x); more = []; bytes = λ f. none_fits; closed = closed_of at (take at s ++ 0x00 ∷ []) (E (take at s ++ 0x00 ∷ [])) tt (end_zero (take at s) at (length-take-le at s (omega arith))) }) k (eqb-false (get_or s at 0) 0x00 z);
          begun = omega arith;
          before = omega arith;
        })

    by : (s : List ℕ) → at ≤ length s → (b : Bool) → leb (length s) at ≡ b → Seen (Stood E s at start) E s at (E s)
    by s h true z =
        rw (end_cut s at (leb-true (length s) at z))
        (record {
          seen = record {
            behind = length s + 1;
            low = omega arith;
            looked = looked_over_lem E s at (λ m p j. let k = leb-true (length s) at z in cut s m (omega arith) j);
            what = record { stands = over; begun = h; before = omega arith };
          };
        })
    by s h false z =
        let k = leb-false (length s) at z in
        let o : Onward E (λ t. guard (eqb (get_or s at 0) 0x00) (wrong_end at) (got tt (at + 1))) s at (at + 1) =
        record { low = omega arith; cut = λ m p i j. cut s m (omega arith) j; goes_on_claim = λ t w. end_is t at (get_or s at 0) (omega (arith, same_long (omega arith) w)) (same_byte at (omega arith) w) } in
        rw (o.goes_on_claim s (same_all (at + 1) s)) (seen_on _ o (λ f q i p. p) (judged s k (eqb (get_or s at 0) 0x00) refl))
