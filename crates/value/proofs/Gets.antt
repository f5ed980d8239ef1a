-- What the bytes of a time, a status and a value are read as, and what they leave: one law for each form, one line for each of its fields.
use mathlib.Core.Path.{refl}
use mathlib.Core.List.{List, ◌++◌, append_assoc}
use mathlib.Core.Bool.{Bool}
use Prim.Native.Nat.{ℕ}
use lib.IntN.{ℤ}
use Rattle.refusals.specs.declared.Span.{Span}
use Rattle.refusals.proofs.Rest.{Reads, Is, Made, gets_is, gets_guard, gets_made}
use Rattle.tlf.specs.Lengths.{tlf_at}
use Rattle.tlf.specs.declared.Ty.TheVariants.{OctetString, Boolean, Integer, Unsigned, ListOf}
use Rattle.tlf.specs.declared.TypeLengthField.{TypeLengthField}
use Rattle.tlf.proofs.Gets.{list_of_reads}
use Rattle.numbers.specs.Numbers.{unsigned_at, signed_at, bool_at}
use Rattle.octet_string.specs.Strings.{octets_at}
use Rattle.value.specs.Values.{time_at, narrowest, status_of, status_at, Value, truth, bytes, signed, unsigned, list_time, signed_value, unsigned_value, list_type_at, value_of_claim, value_at}

-- a time that is a list of 2: tag 1 and u32
pub time_reads : {P : List ℕ → ℕ → Type 0} {b₀ b₁ b₂ : List ℕ}
    → Reads tlf_at (Is (record { ty = ListOf; len = 2 })) b₀
    → Reads (unsigned_at 1) (Is 1) b₁
    → Reads (unsigned_at 4) P b₂
    → Reads time_at P (b₀ ++ b₁ ++ b₂)
unfolding time_at
time_reads r₀ r₁ r₂ =
    record {
      reads = λ l h.
          gets_is _ _ (r₀.reads _ (simp append_assoc at h)) (λ n₀ k₀. gets_guard _ _ _ refl
          (gets_is _ _ (r₁.reads _ k₀) (λ n₁ k₁. gets_guard _ _ _ refl
          (r₂.reads l k₁))));
    }

-- a time that is an Unsigned of four bytes: `b` are its length bytes
pub bare_time_reads : {P : List ℕ → ℕ → Type 0} {b : List ℕ} (x : List ℕ)
    → Reads tlf_at (Is (record { ty = Unsigned; len = 4 })) b
    → Reads (unsigned_at 4) P (b ++ x)
    → Reads time_at P (b ++ x)
unfolding time_at
bare_time_reads x r q = record { reads = λ l h. gets_is _ _ (r.reads _ (rw append_assoc at h)) (λ n k. q.reads l h) }

-- a status at the narrowest width that holds its length: `b` are its length bytes
pub status_reads : {P : List ℕ → ℕ → Type 0} {b : List ℕ} (t : TypeLengthField) (x : List ℕ)
    → Reads tlf_at (Is t) b
    → Reads (unsigned_at (narrowest t.len)) P (b ++ x)
    → Reads status_at (Made (λ v. record { width = narrowest t.len; number = v }) P) (b ++ x)
unfolding status_at status_of
status_reads t x r q = record { reads = λ l h. gets_is _ _ (r.reads _ (rw append_assoc at h)) (λ n k. gets_made _ _ (q.reads l h)) }

-- a value goes by its type and length: `b` are its length bytes
value_of_reads : {P : List ℕ → Value Span → Type 0} {b : List ℕ} (t : TypeLengthField) (x : List ℕ)
    → Reads tlf_at (Is t) b
    → Reads (value_of_claim t.ty t.len) P (b ++ x)
    → Reads value_at P (b ++ x)
unfolding value_at
value_of_reads t x r q = record { reads = λ l h. gets_is _ _ (r.reads _ (rw append_assoc at h)) (λ n k. q.reads l h) }

pub truth_value_reads : {P : List ℕ → Bool → Type 0} {b : List ℕ} (x : List ℕ)
    → Reads tlf_at (Is (record { ty = Boolean; len = 1 })) b
    → Reads bool_at P (b ++ x)
    → Reads value_at (Made truth P) (b ++ x)
unfolding value_of_claim
truth_value_reads x r q = value_of_reads _ x r (record { reads = λ l h. gets_made truth _ (q.reads l h) })

pub bytes_value_reads : (len : ℕ) {P : List ℕ → Span → Type 0} {b : List ℕ} (x : List ℕ)
    → Reads tlf_at (Is (record { ty = OctetString; len = len })) b
    → Reads octets_at P (b ++ x)
    → Reads value_at (Made bytes P) (b ++ x)
unfolding value_of_claim
bytes_value_reads len x r q = value_of_reads _ x r (record { reads = λ l h. gets_made bytes _ (q.reads l h) })

-- the four widths of a signed number
pub signed_value_reads : (len : ℕ) {P : List ℕ → ℤ → Type 0} {b : List ℕ} (x : List ℕ)
    → Reads tlf_at (Is (record { ty = Integer; len = len })) b
    → Reads (signed_at (narrowest len)) P (b ++ x)
    → Reads value_at (Made (signed (narrowest len)) P) (b ++ x)
unfolding value_of_claim signed_value
signed_value_reads len x r q = value_of_reads _ x r (record { reads = λ l h. gets_made (signed (narrowest len)) _ (q.reads l h) })

-- the four widths of an unsigned number
pub unsigned_value_reads : (len : ℕ) {P : List ℕ → ℕ → Type 0} {b : List ℕ} (x : List ℕ)
    → Reads tlf_at (Is (record { ty = Unsigned; len = len })) b
    → Reads (unsigned_at (narrowest len)) P (b ++ x)
    → Reads value_at (Made (unsigned (narrowest len)) P) (b ++ x)
unfolding value_of_claim unsigned_value
unsigned_value_reads len x r q = value_of_reads _ x r (record { reads = λ l h. gets_made (unsigned (narrowest len)) _ (q.reads l h) })

-- a list of 2: tag 1 and a time
pub list_value_reads : {P : List ℕ → ℕ → Type 0} {b₀ b₁ b₂ : List ℕ}
    → Reads tlf_at (Is (record { ty = ListOf; len = 2 })) b₀
    → Reads (unsigned_at 1) (Is 1) b₁
    → Reads time_at P b₂
    → Reads value_at (Made list_time P) (b₀ ++ b₁ ++ b₂)
unfolding value_at value_of_claim list_type_at
list_value_reads r₀ r₁ r₂ =
    let q₀ = list_of_reads 2 r₀ in
    record {
      reads = λ l h.
          gets_is _ _ (r₀.reads _ (simp append_assoc at h)) (λ n k.
          gets_is _ _ (q₀.reads _ (simp append_assoc at h)) (λ n₀ k₀.
          gets_is _ _ (r₁.reads _ k₀) (λ n₁ k₁. gets_guard _ _ _ refl
          (gets_made list_time _ (r₂.reads l k₁)))));
    }
