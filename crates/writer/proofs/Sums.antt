-- The register over what is written, and bytes that stand in an array of the code's own.
use mathlib.Core.Path.{◌≡◌, refl, sym, ap}
use mathlib.Core.List.{List, [], ◌∷◌, ◌++◌}
use mathlib.Core.Option.{Option, some, none}
use Prim.Native.Nat.{ℕ, ◌≤◌}
use native.Mathlib.Omega.{arith}
use lib.ListN.{length, length-append}
use Rattle.decided.specs.Part.{LentPart}
use Rattle.byte_count.specs.Count.{first_that}
use Rattle.tlf.specs.Written.{length_bytes, typed}
use Rattle.tlf.specs.declared.Ty.{Ty}
use Rattle.tlf.specs.declared.Ty.TheVariants.{OctetString, ListOf}
use Rattle.octet_string.specs.Strings.{part_of}
use Rattle.common.specs.Fields.{OpenResponse, CloseResponse}
use Rattle.message.specs.Messages.{ListEnd}
use Rattle.crc_x25.specs.Crc.{start, byte_step, register}
use Rattle.crc_x25.proofs.Laws.{register_append}
use Rattle.writer.specs.Fields.{length_count, write_tlf, write_unsigned, write_octets, write_optional, write_present, write_time}
use Rattle.writer.specs.Messages.{open_bytes, close_bytes, list_end_bytes}
use Rattle.writer.specs.Cut.{PutsOn, head_bytes}
use Rattle.writer.specs.declared.Output.{Output}
use Rattle.writer.specs.declared.Head.{Head}
use Rattle.writer.proofs.Puts.{adds_then, adds_as, WasPut, was_put}
use Rattle.writer.proofs.Bounds.{tlf_bound, unsigned_bound, time_bound, optional_bound}

-- what a part that is handed back holds
pub handed_bytes : {r p : LentPart} → r ≡ p → r.bytes ≡ p.bytes
handed_bytes e = ap (λ (x : LentPart). x.bytes) e

-- a short list's head is one byte
pub short_list_one : write_tlf ListOf 1 ≡ 0x71 ∷ []
unfolding write_tlf length_count first_that typed length_bytes
short_list_one = refl

pub short_list_two : write_tlf ListOf 2 ≡ 0x72 ∷ []
unfolding write_tlf length_count first_that typed length_bytes
short_list_two = refl

pub short_list_six : write_tlf ListOf 6 ≡ 0x76 ∷ []
unfolding write_tlf length_count first_that typed length_bytes
short_list_six = refl

sum_byte : (r b : ℕ) (l : List ℕ) → l ≡ b ∷ [] → byte_step r b ≡ register r l
unfolding register
sum_byte r b l h = rw h

-- an optional string: present and empty, present, absent
pub sum_empty : (r : ℕ) (x : List ℕ) → length x ≡ 0 → byte_step (byte_step r 0x80) 0x02 ≡ register r (write_optional write_present (some x))
unfolding write_optional write_present register
sum_empty r [] h = refl
sum_empty r (b ∷ x) h = absurd (omega arith)

pub sum_present : (r : ℕ) (x : List ℕ) → (length x ≡ 0 → ⊥) → register r (write_octets x) ≡ register r (write_optional write_present (some x))
unfolding write_optional write_present
sum_present r [] h = absurd (h refl)
sum_present r (b ∷ x) h = refl

pub sum_absent : (r : ℕ) → byte_step r 0x01 ≡ register r (write_optional write_present none)
unfolding write_optional register
sum_absent r = refl

pub sum_octets : (r : ℕ) (x : List ℕ) → register (register r (write_tlf OctetString (length x))) x ≡ register r (write_octets x)
unfolding write_octets
sum_octets r x = sym (register_append r (write_tlf OctetString (length x)) x)

pub length_stands : (ty : Ty) (len : ℕ) {w n : Output} → w.at ≡ 0 → length w.out.now ≡ 32 → PutsOn w (write_tlf ty len) n → WasPut w (write_tlf ty len) n
length_stands ty len e l p = was_put _ p (omega (arith, tlf_bound ty len)) (omega arith)

-- the head: its first byte, its string, and its numbers from an array
abbrev pub head_numbers : ℕ → ℕ → ℕ → List ℕ
head_numbers group abort tag = write_unsigned group ++ write_unsigned abort ++ write_tlf ListOf 2 ++ write_unsigned tag

head_numbers_bound : (group abort tag : ℕ) → length (head_numbers group abort tag) ≤ 95
head_numbers_bound group abort tag = simp length-append (omega (arith, unsigned_bound group, unsigned_bound abort, tlf_bound ListOf 2, unsigned_bound tag))

pub head_numbers_stand : (group abort tag : ℕ) {w a b c d : Output} → w.at ≡ 0 → length w.out.now ≡ 128
    → PutsOn w (write_unsigned group) a → PutsOn a (write_unsigned abort) b → PutsOn b (0x72 ∷ []) c → PutsOn c (write_unsigned tag) d → WasPut w (head_numbers group abort tag) d
head_numbers_stand group abort tag e l p q r t =
    let v = write_unsigned group in
    let w = write_unsigned abort in
    let x = write_tlf ListOf 2 in
    was_put _ (adds_then (v ++ w ++ x) _ (adds_then (v ++ w) x (adds_then v w p q) (adds_as (sym short_list_two) r)) t) (omega (arith, head_numbers_bound group abort tag)) (omega arith)

pub sum_head : (s : List ℕ) (head : Head) (tag : ℕ)
    → register (register (byte_step start 0x76) (write_octets (part_of s head.transaction_id))) (head_numbers head.group_no head.abort_on_error tag) ≡ register start (head_bytes s head tag)
unfolding head_bytes
sum_head s head tag = rw (sum_byte start 0x76 _ short_list_six) (simp register_append)

-- an open response: its strings, then time and version from an array
abbrev pub open_numbers : OpenResponse (List ℕ) → List ℕ
open_numbers x = write_optional write_time x.ref_time ++ write_optional write_unsigned x.sml_version

open_numbers_bound : (x : OpenResponse (List ℕ)) → length (open_numbers x) ≤ 95
open_numbers_bound x =
    simp length-append
    (omega (arith, optional_bound write_time 69 x.ref_time (omega arith) time_bound, optional_bound write_unsigned 26 x.sml_version (omega arith) unsigned_bound))

pub open_numbers_stand : (x : OpenResponse (List ℕ)) {w a b : Output} → w.at ≡ 0 → length w.out.now ≡ 128
    → PutsOn w (write_optional write_time x.ref_time) a → PutsOn a (write_optional write_unsigned x.sml_version) b → WasPut w (open_numbers x) b
open_numbers_stand x e l p q = was_put _ (adds_then (write_optional write_time x.ref_time) _ p q) (omega (arith, open_numbers_bound x)) (omega arith)

pub sum_open : (r : ℕ) (x : OpenResponse (List ℕ))
    → register (register (register (register (register (byte_step r 0x76) (write_optional write_present x.codepage)) (write_optional write_present x.client_id)) (write_octets x.req_file_id)) (write_octets x.server_id)) (open_numbers x) ≡ register r (open_bytes x)
unfolding open_bytes
sum_open r x = rw (sum_byte r 0x76 _ short_list_six) (simp register_append)

pub sum_close : (r : ℕ) (x : CloseResponse (List ℕ)) → register (byte_step r 0x71) (write_optional write_present x.global_signature) ≡ register r (close_bytes x)
unfolding close_bytes
sum_close r x = rw (sum_byte r 0x71 _ short_list_one) (simp register_append)

pub sum_list_end : (r : ℕ) (x : ListEnd (List ℕ)) → register (register r (write_optional write_present x.list_signature)) (write_optional write_time x.act_gateway_time) ≡ register r (list_end_bytes x)
unfolding list_end_bytes
sum_list_end r x = simp register_append

pub time_stands : (m : Option ℕ) {w n : Output} → w.at ≡ 0 → length w.out.now ≡ 128 → PutsOn w (write_optional write_time m) n → WasPut w (write_optional write_time m) n
time_stands m e l p = was_put _ p (omega (arith, optional_bound write_time 69 m (omega arith) time_bound)) (omega arith)
