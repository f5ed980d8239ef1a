-- What the bytes of a number and of a Boolean are read as, and what they leave; once over the width and over the length field's form.
use mathlib.Core.Path.{◌≡◌, refl}
use mathlib.Core.List.{List, [], ◌∷◌, ◌++◌, append_assoc}
use mathlib.Core.Bool.{Bool, true, false, not}
use Prim.Native.Nat.{ℕ, ◌≤◌}
use lib.ListN.{length}
use lib.Dec.{eqb}
use borrow.Author.Tests.{le-leb}
use Rattle.refusals.proofs.Rest.{Reads, Is, gets_is, gets_guard, gets_got, byte_gets}
use Rattle.tlf.specs.Lengths.{tlf_at}
use Rattle.tlf.specs.declared.Ty.{Ty}
use Rattle.tlf.specs.declared.Ty.TheVariants.{Boolean, Integer, Unsigned}
use Rattle.numbers.specs.Numbers.{number, is_number, raw_from, raw_at, unsigned_at, signed_of, signed_at, bool_from, bool_at}
use Rattle.numbers.proofs.Numbers.{bytes_gets}

raw_reads : (signed : Bool) (width : ℕ) (ty : Ty) (x : List ℕ) {b : List ℕ} → is_number signed ty ≡ true → 1 ≤ length x → length x ≤ width
    → Reads tlf_at (Is (record { ty = ty; len = length x })) b → Reads (raw_at signed width) (Is (record { len = length x; value = number 0 x })) (b ++ x)
unfolding raw_at raw_from
raw_reads signed width ty x t low high r =
    record {
      reads = λ l h.
          gets_is _ _ (r.reads _ (rw append_assoc at h)) (λ n k. gets_guard _ _ _ (rw (t, le-leb 1 (length x) low, le-leb (length x) width high))
          (gets_is _ _ (bytes_gets x (length x) l refl k) (λ m q. gets_got refl q)));
    }

-- length bytes that say as many bytes as x has, 1 to the width, and x
pub unsigned_reads : (width : ℕ) (x : List ℕ) {b : List ℕ} → 1 ≤ length x → length x ≤ width
    → Reads tlf_at (Is (record { ty = Unsigned; len = length x })) b → Reads (unsigned_at width) (Is (number 0 x)) (b ++ x)
unfolding unsigned_at
unsigned_reads width x low high r =
    let q = raw_reads false width Unsigned x refl low high r in
    record { reads = λ l h. gets_is _ _ (q.reads l h) (λ n k. gets_got refl k) }

pub signed_reads : (width : ℕ) (x : List ℕ) {b : List ℕ} → 1 ≤ length x → length x ≤ width
    → Reads tlf_at (Is (record { ty = Integer; len = length x })) b → Reads (signed_at width) (Is (signed_of (length x) (number 0 x))) (b ++ x)
unfolding signed_at
signed_reads width x low high r =
    let q = raw_reads true width Integer x refl low high r in
    record { reads = λ l h. gets_is _ _ (q.reads l h) (λ n k. gets_got refl k) }

-- length bytes of a Boolean, and one byte
pub bool_reads : (v : ℕ) {b : List ℕ} → Reads tlf_at (Is (record { ty = Boolean; len = 1 })) b → Reads bool_at (Is (not (eqb v 0))) (b ++ (v ∷ []))
unfolding bool_at bool_from
bool_reads v r =
    record {
      reads = λ l h.
          gets_is _ _ (r.reads _ (rw append_assoc at h)) (λ n k. gets_guard _ _ _ refl
          (gets_is _ _ (byte_gets k) (λ m q. gets_got refl q)));
    }
