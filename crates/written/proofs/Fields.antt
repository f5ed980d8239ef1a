-- Strings, optional fields, times, statuses, values and entries as written are read back.
use mathlib.Core.Path.{◌≡◌, refl, sym, ap, ◌∙◌}
use mathlib.Core.List.{List, [], ◌∷◌, append_assoc}
use mathlib.Core.Bool.{cond}
use mathlib.Core.Option.{Option, some, none}
use Prim.Native.Nat.{ℕ, suc, ◌/◌, ◌^◌, ◌≤◌, ◌<◌}
use native.Mathlib.Omega.{arith}
use lib.ListN.{length, length-append}
use lib.Dec.{leb}
use lib.IntN.{ℤ}
use lib.Signed.{mag}
use borrow.Author.Tests.{ltb-true, leb-true}
use Rattle.refusals.specs.Read.{Read}
use Rattle.tlf.specs.Lengths.{tlf_at}
use Rattle.tlf.specs.declared.Ty.TheVariants.{OctetString, Unsigned, ListOf}
use Rattle.refusals.proofs.Rest.{Reads, Is}
use Rattle.tlf.specs.Written.{typed, length_bytes}
use Rattle.tlf.proofs.Gets.{typed_reads}
use Rattle.numbers.specs.Numbers.{unsigned_at, signed_at}
use Rattle.numbers.proofs.Numbers.{pow_up}
use Rattle.octet_string.specs.Strings.{octets_at, part_of}
use Rattle.octet_string.specs.Optional.{optional}
use Rattle.octet_string.proofs.Gets.{Part, octets_reads, absent_reads, present_reads}
use Rattle.value.specs.Values.{Status, Value, truth, bytes, signed, unsigned, list_time, narrowest, time_at, status_at, value_at}
use Rattle.value.proofs.Gets.{time_reads, status_reads, truth_value_reads, bytes_value_reads, signed_value_reads, unsigned_value_reads, list_value_reads}
use Rattle.common.specs.Fields.{ListEntry, entry_at}
use Rattle.common.proofs.Gets.{entry_reads}
use Rattle.streaming.specs.Meaning.{each, status_means, value_means, entry_means}
use Rattle.writer.specs.Fields.{write_tlf, in_bytes, signed_count, low_bytes, write_unsigned, write_signed, write_bool, write_octets, write_optional, write_present, write_time, write_status, write_value, write_entry}
use Rattle.byte_count.specs.Count.{unsigned_count}
use Rattle.written.specs.Fits.{Each, StatusFits, WideValueFits, EntryFits}
use Rattle.byte_count.proofs.Least.{pick}
use Rattle.written.proofs.Short.{Short, back, reads_weak}
use Rattle.written.proofs.Lens.{tlf_reads, not_so, list_reads, head_reads, NotOne, tlf_not_one}
use Rattle.written.proofs.Nums.{unsigned_count_lem, signed_count_lem, unsigned_tlf, signed_tlf, bool_tlf, written_unsigned, written_signed, written_bool, unsigned_not_one, signed_not_one}

octets_tlf : (x : List ℕ) → length x ≤ 1048576 → Reads tlf_at (Is (record { ty = OctetString; len = length x })) (write_tlf OctetString (length x))
octets_tlf x h = tlf_reads OctetString (length x) h not_so

octets_short : (x : List ℕ) → Short (write_octets x) → length x ≤ 1048576
unfolding write_octets
octets_short x h = let k : Short x = back (write_tlf OctetString (length x)) h in k.short

pub written_octets : (x : List ℕ) → Short (write_octets x) → Reads octets_at (Part x) (write_octets x)
unfolding write_octets
written_octets x h = octets_reads x (octets_tlf x (octets_short x h))

-- present and empty: two length bytes that count themselves
pub written_present : (x : List ℕ) → Short (write_present x) → Reads octets_at (Part x) (write_present x)
unfolding write_present typed length_bytes
written_present [] h = octets_reads [] (typed_reads OctetString 2 0 (omega arith) (omega arith) (omega arith) not_so)
written_present (b ∷ x) h = written_octets (b ∷ x) h

pub present_not_one : (x : List ℕ) → Short (write_present x) → NotOne (write_present x)
unfolding write_present write_octets
present_not_one [] h = λ e. omega arith
present_not_one (b ∷ x) h = tlf_not_one OctetString (suc (length x)) (b ∷ x) (let k : Short (b ∷ x) = back (write_tlf OctetString (suc (length x))) h in k.short) (omega arith)

-- an optional field, once over the field's own reading, what is seen of it, and its writing
pub written_optional : {A X : Type 0} (read : List ℕ → ℕ → Read A) (see : List ℕ → A → X) (write : X → List ℕ) (Q : X → Type 0) (m : Option X)
    → ((x : X) → Q x → Reads read (λ s a. see s a ≡ x) (write x)) → ((x : X) → Q x → NotOne (write x)) → Each Q m
    → Reads (optional read) (λ s a. each (see s) a ≡ m) (write_optional write m)
unfolding write_optional
written_optional read see write Q none r n q = reads_weak (λ s a e. rw e) (absent_reads read)
written_optional read see write Q (some x) r n q = reads_weak (λ s a h. rw h.is (ap some h.has)) (present_reads read (write x) (n x q) (r x q))

each_same : {A : Type 0} (m : Option A) → each (λ (x : A). x) m ≡ m
each_same none = refl
each_same (some a) = refl

-- where the value itself is seen
written_plain : {A : Type 0} (read : List ℕ → ℕ → Read A) (write : A → List ℕ) (Q : A → Type 0) (m : Option A)
    → ((x : A) → Q x → Reads read (Is x) (write x)) → ((x : A) → Q x → NotOne (write x)) → Each Q m
    → Reads (optional read) (Is m) (write_optional write m)
written_plain read write Q m r n q = reads_weak (λ s a e. sym (each_same a) ∙ e) (written_optional read (λ s a. a) write Q m r n q)

each_short : (m : Option (List ℕ)) → Short (write_optional write_present m) → Each (λ x. Short (write_present x)) m
unfolding write_optional
each_short none h = tt
each_short (some x) h = h

pub written_opt_string : (m : Option (List ℕ)) → Short (write_optional write_present m) → Reads (optional octets_at) (λ s a. each (part_of s) a ≡ m) (write_optional write_present m)
written_opt_string m h = written_optional octets_at part_of write_present (λ x. Short (write_present x)) m written_present present_not_one (each_short m h)

pub written_opt_u8 : (m : Option ℕ) → Each (λ v. v < 256 ^ 1) m → Reads (optional (unsigned_at 1)) (Is m) (write_optional write_unsigned m)
written_opt_u8 m q = written_plain (unsigned_at 1) write_unsigned (λ v. v < 256 ^ 1) m (λ x f. written_unsigned 1 x (omega arith) (omega arith) f) (λ x f. unsigned_not_one 1 x (omega arith) (omega arith) f) q

pub written_opt_i8 : (m : Option ℤ) → Each (λ z. mag z < 256 ^ 1 / 2) m → Reads (optional (signed_at 1)) (Is m) (write_optional write_signed m)
written_opt_i8 m q = written_plain (signed_at 1) write_signed (λ z. mag z < 256 ^ 1 / 2) m (λ x f. written_signed 1 x (omega arith) (omega arith) f) (λ x f. signed_not_one 1 x (omega arith) (omega arith) f) q

pub written_one : (w : ℕ) → 1 ≤ w → w ≤ 8 → 1 < 256 ^ w → Reads (unsigned_at w) (Is 1) (write_unsigned 1)
written_one w low high h = written_unsigned w 1 low high h

pub written_time : (t : ℕ) → t < 256 ^ 4 → Reads time_at (Is t) (write_time t)
unfolding write_time
written_time t h = time_reads (list_reads 2 (omega arith)) (written_one 1 (omega arith) (omega arith) (omega arith)) (written_unsigned 4 t (omega arith) (omega arith) h)

time_not_one : (t : ℕ) → NotOne (write_time t)
unfolding write_time
time_not_one t = rw (append_assoc (write_tlf ListOf 2)) (tlf_not_one ListOf 2 _ (omega arith) (omega arith))

pub written_opt_time : (m : Option ℕ) → Each (λ t. t < 256 ^ 4) m → Reads (optional time_at) (Is m) (write_optional write_time m)
written_opt_time m q = written_plain time_at write_time (λ t. t < 256 ^ 4) m written_time (λ x f. time_not_one x) q

-- a width that holds so many bytes
record Width (len w : ℕ) : Type 0 where
  low : 1 ≤ w
  high : w ≤ 8
  holds : len ≤ w

narrows : (len : ℕ) → len ≤ 8 → Width len (narrowest len)
narrows len h =
    pick (Width len) (leb len 1) 1 _ (λ t. record { low = omega arith; high = omega arith; holds = leb-true len 1 t }) (λ f.
    pick (Width len) (leb len 2) 2 _ (λ t. record { low = omega arith; high = omega arith; holds = leb-true len 2 t }) (λ g.
    pick (Width len) (leb len 4) 4 8 (λ t. record { low = omega arith; high = omega arith; holds = leb-true len 4 t }) (λ i.
    record { low = omega arith; high = omega arith; holds = h })))

-- an unsigned number, read at the narrowest width that holds its length
narrow_unsigned : (v : ℕ) → v < 256 ^ 8 → Reads (unsigned_at (narrowest (unsigned_count v))) (Is v) (write_unsigned v)
narrow_unsigned v h =
    let c = unsigned_count_lem v 8 (omega arith) h in
    let w = narrows (unsigned_count v) (omega (arith, c.below)) in
    let small : v < 256 ^ unsigned_count v = ltb-true _ _ c.holds in
    written_unsigned (narrowest (unsigned_count v)) v w.low w.high (omega (arith, small, pow_up (unsigned_count v) (narrowest (unsigned_count v)) w.holds))

narrow_signed : (z : ℤ) → mag z < 256 ^ 8 / 2 → Reads (signed_at (narrowest (signed_count z))) (Is z) (write_signed z)
narrow_signed z h =
    let c = signed_count_lem z 8 (omega arith) (omega arith) h in
    let w = narrows (signed_count z) (omega (arith, c.below)) in
    let small : mag z < 256 ^ signed_count z / 2 = ltb-true _ _ c.holds in
    written_signed (narrowest (signed_count z)) z w.low w.high (omega (arith, small, pow_up (signed_count z) (narrowest (signed_count z)) w.holds))

pub written_status : (x : Status) → StatusFits x → Reads status_at (λ s a. status_means a ≡ x) (write_status x)
unfolding write_status write_unsigned
written_status x f =
    let v = x.number in
    reads_weak (λ s a h. rw (h.is, h.has, ← f.width))
    (status_reads (record { ty = Unsigned; len = unsigned_count v }) (in_bytes (unsigned_count v) v) (unsigned_tlf 8 v (omega arith) (omega arith) f.number) (narrow_unsigned v f.number))

status_not_one : (x : Status) → StatusFits x → NotOne (write_status x)
unfolding write_status
status_not_one x f = unsigned_not_one 8 x.number (omega arith) (omega arith) f.number

pub written_opt_status : (m : Option Status) → Each StatusFits m → Reads (optional status_at) (λ s a. each status_means a ≡ m) (write_optional write_status m)
written_opt_status m q = written_optional status_at (λ s. status_means) write_status StatusFits m written_status status_not_one q

pub written_value : (v : Value (List ℕ)) → WideValueFits v → Short (write_value v) → Reads value_at (λ s a. value_means s a ≡ v) (write_value v)
unfolding write_value write_bool write_octets write_signed write_unsigned
written_value (truth b) f h = reads_weak (λ s a k. rw (k.is, k.has)) (truth_value_reads (cond b 0x01 0x00 ∷ []) bool_tlf (written_bool b))
written_value (bytes x) f h = reads_weak (λ s a k. rw k.is (ap bytes k.has)) (bytes_value_reads (length x) x (octets_tlf x (octets_short x h)) (written_octets x h))
written_value (signed w z) f h =
    let n = signed_count z in
    reads_weak (λ s a k. rw (k.is, k.has, f.0)) (signed_value_reads n (in_bytes n (low_bytes n z)) (signed_tlf 8 z (omega arith) (omega arith) f.1) (narrow_signed z f.1))
written_value (unsigned w v) f h =
    let n = unsigned_count v in
    reads_weak (λ s a k. rw (k.is, k.has, f.0)) (unsigned_value_reads n (in_bytes n v) (unsigned_tlf 8 v (omega arith) (omega arith) f.1) (narrow_unsigned v f.1))
written_value (list_time t) f h = reads_weak (λ s a k. rw (k.is, k.has)) (list_value_reads (list_reads 2 (omega arith)) (written_one 1 (omega arith) (omega arith) (omega arith)) (written_time t f))

pub written_entry : (e : ListEntry (List ℕ)) → EntryFits e → Short (write_entry e) → Reads entry_at (λ s a. entry_means s a ≡ e) (write_entry e)
unfolding write_entry
written_entry e f h =
    let k = simp length-append at h.short in
    reads_weak (λ s a k. rw (k.obj_name, k.status, k.val_time, k.unit, k.scaler, k.value, k.value_signature))
    (entry_reads
    (head_reads 7 (omega arith))
    (written_octets e.obj_name (record { short = omega (arith, k) }))
    (written_opt_status e.status f.status)
    (written_opt_time e.val_time f.val_time)
    (written_opt_u8 e.unit f.unit)
    (written_opt_i8 e.scaler f.scaler)
    (written_value e.value f.value (record { short = omega (arith, k) }))
    (written_opt_string e.value_signature (record { short = omega (arith, k) })))
