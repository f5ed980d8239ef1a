-- How many bytes a field takes at most: what is written into an array of the code's own fits it, and a short entry takes at most 512.
use mathlib.Core.Path.{◌≡◌, refl}
use mathlib.Core.List.{List, [], ◌∷◌}
use mathlib.Core.Bool.{Bool, true, false, cond}
use mathlib.Core.Option.{Option, some, none}
use Prim.Native.Nat.{ℕ, zero, suc, ◌/◌, ◌^◌, ◌≤◌}
use native.Mathlib.Omega.{arith}
use lib.ListN.{length, take, drop, length-append, length-take}
use lib.IntN.{ℤ}
use lib.Dec.{leb, ltb}
use lib.Signed.{mag}
use borrow.Author.Tests.{leb-true}
use Rattle.refusals.specs.declared.Span.{Span}
use Rattle.refusals.proofs.Read.{and_left, and_right}
use Rattle.byte_count.specs.Count.{unsigned_count}
use Rattle.byte_count.proofs.Least.{first_within}
use Rattle.tlf.specs.Written.{total, length_bytes, typed}
use Rattle.tlf.specs.declared.Ty.{Ty}
use Rattle.tlf.specs.declared.Ty.TheVariants.{OctetString, Boolean, Integer, Unsigned, ListOf}
use Rattle.octet_string.specs.Strings.{span_within, part_of}
use Rattle.value.specs.Values.{Status, Value, truth, bytes, signed, unsigned, list_time}
use Rattle.common.specs.Fields.{ListEntry}
use Rattle.streaming.specs.Meaning.{each, status_means, value_means, entry_means}
use Rattle.writer.specs.Fields.{length_count, write_tlf, in_bytes, signed_count, low_bytes, write_unsigned, write_signed, write_bool, write_octets, write_optional, write_present, write_time, write_status, write_value, write_entry}
use Rattle.writer.specs.Cut.{short_field, short_value, short_entry}

length_bytes_lem : (k v : ℕ) → length (length_bytes k v) ≡ k
unfolding length_bytes
length_bytes_lem zero v = refl
length_bytes_lem (suc k) v = omega (arith, length_bytes_lem k v)

typed_length : (ty : Ty) (n v : ℕ) → length (typed ty n v) ≡ n
unfolding typed
typed_length ty zero v = refl
typed_length ty (suc k) v = omega (arith, length_bytes_lem k v)

pub bytes_length : (n v : ℕ) → length (in_bytes n v) ≡ n
unfolding in_bytes
bytes_length zero v = refl
bytes_length (suc k) v = omega (arith, bytes_length k v)

pub tlf_bound : (ty : Ty) (len : ℕ) → length (write_tlf ty len) ≤ 17
unfolding write_tlf length_count
tlf_bound ty len =
    let p : ℕ → Bool = λ n. ltb (total ty len n) (16 ^ n) in
    omega (arith, typed_length ty (length_count ty len) (total ty len (length_count ty len)), first_within 16 1 p)

pub unsigned_bound : (v : ℕ) → length (write_unsigned v) ≤ 26
unfolding write_unsigned unsigned_count
unsigned_bound v =
    let p : ℕ → Bool = λ n. ltb v (256 ^ n) in
    simp length-append (omega (arith, tlf_bound Unsigned (unsigned_count v), bytes_length (unsigned_count v) v, first_within 8 1 p))

pub signed_bound : (z : ℤ) → length (write_signed z) ≤ 26
unfolding write_signed signed_count
signed_bound z =
    let p : ℕ → Bool = λ n. ltb (mag z) (256 ^ n / 2) in
    simp length-append (omega (arith, tlf_bound Integer (signed_count z), bytes_length (signed_count z) (low_bytes (signed_count z) z), first_within 8 1 p))

pub time_bound : (t : ℕ) → length (write_time t) ≤ 69
unfolding write_time
time_bound t = simp length-append (omega (arith, tlf_bound ListOf 2, unsigned_bound 1, unsigned_bound t))

pub optional_bound : {A : Type 0} (write : A → List ℕ) (n : ℕ) (m : Option A) → 1 ≤ n → ((a : A) → length (write a) ≤ n) → length (write_optional write m) ≤ n
unfolding write_optional
optional_bound write n none low h = low
optional_bound write n (some a) low h = h a

-- a part is no longer than its span says
part_bound : (s : List ℕ) (p : Span) → length (part_of s p) ≤ p.len
unfolding part_of
part_bound s p = by (span_within s p)
  where
    by : (b : Bool) → length (cond b (take p.len (drop p.start s)) []) ≤ p.len
    by true = omega (arith, length-take p.len (drop p.start s))
    by false = omega arith

octets_bound : (s : List ℕ) (p : Span) → leb p.len 64 ≡ true → length (write_octets (part_of s p)) ≤ 81
unfolding write_octets
octets_bound s p h = simp length-append (omega (arith, tlf_bound OctetString (length (part_of s p)), part_bound s p, leb-true p.len 64 h))

present_bound : (x : List ℕ) (n : ℕ) → 2 ≤ n → length (write_octets x) ≤ n → length (write_present x) ≤ n
unfolding write_present
present_bound [] n low h = low
present_bound (b ∷ x) n low h = h

field_bound : (s : List ℕ) (m : Option Span) → short_field m ≡ true → length (write_optional write_present (each (part_of s) m)) ≤ 81
unfolding write_optional
field_bound s none h = omega arith
field_bound s (some p) h = present_bound (part_of s p) 81 (omega arith) (octets_bound s p h)

value_bound : (s : List ℕ) (v : Value Span) → short_value v ≡ true → length (write_value (value_means s v)) ≤ 112
unfolding write_value write_bool
value_bound s (truth b) h = simp length-append (omega (arith, tlf_bound Boolean 1))
value_bound s (bytes p) h = omega (arith, octets_bound s p h)
value_bound s (signed width z) h = omega (arith, signed_bound z)
value_bound s (unsigned width v) h = omega (arith, unsigned_bound v)
value_bound s (list_time t) h = simp length-append (omega (arith, tlf_bound ListOf 2, unsigned_bound 1, time_bound t))

status_bound : (x : Status) → length (write_status x) ≤ 26
unfolding write_status
status_bound x = unsigned_bound x.number

pub entry_bound : (s : List ℕ) (e : ListEntry Span) → short_entry e ≡ true → length (write_entry (entry_means s e)) ≤ 512
unfolding write_entry
entry_bound s e h =
    let name = and_left (leb e.obj_name.len 64) _ h in
    let rest = and_right (leb e.obj_name.len 64) _ h in
    let low : 1 ≤ 26 = omega arith in
    simp length-append
    (omega (
      arith,
      tlf_bound ListOf 7,
      octets_bound s e.obj_name name,
      optional_bound write_status 26 (each status_means e.status) low status_bound,
      optional_bound write_time 69 e.val_time (omega arith) time_bound,
      optional_bound write_unsigned 26 e.unit low unsigned_bound,
      optional_bound write_signed 26 e.scaler low signed_bound,
      value_bound s e.value (and_left (short_value e.value) _ rest),
      field_bound s e.value_signature (and_right (short_value e.value) _ rest),
    ))
