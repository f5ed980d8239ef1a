-- What is written are bytes.
use mathlib.Core.List.{List, [], ◌∷◌, ◌++◌}
use mathlib.Core.Bool.{Bool, true, false, cond}
use mathlib.Core.Option.{Option, some, none}
use Prim.Native.Nat.{ℕ, zero, suc, ◌+◌, ◌*◌, ◌/◌, ◌%◌, ◌^◌, ◌<◌}
use native.Mathlib.Omega.{arith}
use lib.ListN.{length, get_or}
use lib.IntN.{ℤ}
use Rattle.tlf.proofs.Gets.{ty_small}
use Rattle.tlf.specs.declared.Ty.{Ty}
use Rattle.tlf.specs.declared.Ty.TheVariants.{OctetString, Boolean, Integer, Unsigned, ListOf}
use Rattle.tlf.specs.Written.{ty_number, total, more_bit, length_bytes, typed}
use Rattle.value.specs.Values.{Status, Value, truth, bytes, signed, unsigned, list_time}
use Rattle.common.specs.Fields.{OpenResponse, CloseResponse, ListEntry}
use Rattle.message.specs.Messages.{ListStart, ListEnd, Body, open_body, close_body, list_body, MessageStart}
use Rattle.events.specs.Message.{Content}
use Rattle.writer.specs.Fields.{length_count, write_tlf, in_bytes, signed_count, low_bytes, write_unsigned, write_signed, write_bool, write_octets, write_optional, write_present, write_time, write_status, write_value, write_entry}
use Rattle.byte_count.specs.Count.{unsigned_count}
use Rattle.writer.specs.Messages.{open_bytes, close_bytes, list_start_bytes, list_end_bytes, write_body, write_start}
use Rattle.written.specs.Messages.{write_entries, write_end, write_content}
use Rattle.written.specs.Fits.{Each, OnlyBytes, WideValueFits, EntryFits, OpenFits, CloseFits, ListStartFits, ListEndFits, BodyFits, StartFits, EntriesFit, EndFits, ContentFits}

pub none_bytes : OnlyBytes []
none_bytes = record { byte = λ i. omega arith }

pub more_bytes : {b : ℕ} {x : List ℕ} → b < 2 ^ 8 → OnlyBytes x → OnlyBytes (b ∷ x)
more_bytes {b} {x} h k = record { byte = at }
  where
    at : (i : ℕ) → get_or (b ∷ x) i 0 < 2 ^ 8
    at zero = h
    at (suc i) = k.byte i

both : (a b : List ℕ) → OnlyBytes a → OnlyBytes b → OnlyBytes (a ++ b)
both [] b h k = k
both (x ∷ a) b h k = more_bytes (h.byte 0) (both a b (record { byte = λ i. h.byte (suc i) }) k)

one_byte : (b : ℕ) → b < 2 ^ 8 → OnlyBytes (b ∷ [])
one_byte b h = more_bytes h none_bytes

more_small : (k d : ℕ) → d < 128 → more_bit k + d < 2 ^ 8
more_small zero d h = omega arith
more_small (suc k) d h = omega arith

length_small : (k v : ℕ) → OnlyBytes (length_bytes k v)
unfolding length_bytes
length_small zero v = none_bytes
length_small (suc k) v = more_bytes (more_small k (v / 16 ^ k % 16) (omega arith)) (length_small k v)

typed_small : (ty : Ty) (k v : ℕ) → OnlyBytes (typed ty k v)
unfolding typed
typed_small ty zero v = none_bytes
typed_small ty (suc k) v = more_bytes (omega (arith, more_small k (16 * ty_number ty + v / 16 ^ k % 16) (omega (arith, ty_small ty)))) (length_small k v)

tlf_bytes : (ty : Ty) (len : ℕ) → OnlyBytes (write_tlf ty len)
unfolding write_tlf
tlf_bytes ty len = typed_small ty (length_count ty len) (total ty len (length_count ty len))

digits_bytes : (n v : ℕ) → OnlyBytes (in_bytes n v)
unfolding in_bytes
digits_bytes zero v = none_bytes
digits_bytes (suc k) v = more_bytes (omega arith) (digits_bytes k v)

unsigned_small : (v : ℕ) → OnlyBytes (write_unsigned v)
unfolding write_unsigned
unsigned_small v = both (write_tlf Unsigned (unsigned_count v)) (in_bytes (unsigned_count v) v) (tlf_bytes Unsigned (unsigned_count v)) (digits_bytes (unsigned_count v) v)

signed_small : (z : ℤ) → OnlyBytes (write_signed z)
unfolding write_signed
signed_small z =
    let n = signed_count z in
    both (write_tlf Integer n) (in_bytes n (low_bytes n z)) (tlf_bytes Integer n) (digits_bytes n (low_bytes n z))

truth_small : (b : Bool) → cond b 0x01 0x00 < 2 ^ 8
truth_small true = omega arith
truth_small false = omega arith

octets_small : (x : List ℕ) → OnlyBytes x → OnlyBytes (write_octets x)
unfolding write_octets
octets_small x h = both (write_tlf OctetString (length x)) x (tlf_bytes OctetString (length x)) h

present_small : (x : List ℕ) → OnlyBytes x → OnlyBytes (write_present x)
unfolding write_present
present_small [] h = more_bytes (omega arith) (one_byte 0x02 (omega arith))
present_small (b ∷ x) h = octets_small (b ∷ x) h

optional_small : {A : Type 0} (write : A → List ℕ) (Q : A → Type 0) (m : Option A) → ((a : A) → Q a → OnlyBytes (write a)) → Each Q m → OnlyBytes (write_optional write m)
unfolding write_optional
optional_small write Q none f q = one_byte 0x01 (omega arith)
optional_small write Q (some a) f q = f a q

always_small : {A : Type 0} (write : A → List ℕ) (m : Option A) → ((a : A) → OnlyBytes (write a)) → OnlyBytes (write_optional write m)
unfolding write_optional
always_small write none f = one_byte 0x01 (omega arith)
always_small write (some a) f = f a

string_small : (m : Option (List ℕ)) → Each OnlyBytes m → OnlyBytes (write_optional write_present m)
string_small m q = optional_small write_present OnlyBytes m present_small q

time_small : (t : ℕ) → OnlyBytes (write_time t)
unfolding write_time
time_small t = both (write_tlf ListOf 2 ++ write_unsigned 1) (write_unsigned t) (both (write_tlf ListOf 2) (write_unsigned 1) (tlf_bytes ListOf 2) (unsigned_small 1)) (unsigned_small t)

status_small : (x : Status) → OnlyBytes (write_status x)
unfolding write_status
status_small x = unsigned_small x.number

value_small : (v : Value (List ℕ)) → WideValueFits v → OnlyBytes (write_value v)
unfolding write_value write_bool
value_small (truth b) f = both (write_tlf Boolean 1) (cond b 0x01 0x00 ∷ []) (tlf_bytes Boolean 1) (one_byte _ (truth_small b))
value_small (bytes x) f = octets_small x f
value_small (signed w z) f = signed_small z
value_small (unsigned w v) f = unsigned_small v
value_small (list_time t) f = both (write_tlf ListOf 2 ++ write_unsigned 1) (write_time t) (both (write_tlf ListOf 2) (write_unsigned 1) (tlf_bytes ListOf 2) (unsigned_small 1)) (time_small t)

-- one field more behind the bytes a
infixl 5 ◌and◌
◌and◌ : {a b : List ℕ} → OnlyBytes a → OnlyBytes b → OnlyBytes (a ++ b)
◌and◌ {a} {b} h k = both a b h k

pub entry_small : (e : ListEntry (List ℕ)) → EntryFits e → OnlyBytes (write_entry e)
unfolding write_entry
entry_small e f =
    tlf_bytes ListOf 7
    and octets_small e.obj_name f.obj_name
    and always_small write_status e.status status_small
    and always_small write_time e.val_time time_small
    and always_small write_unsigned e.unit unsigned_small
    and always_small write_signed e.scaler signed_small
    and value_small e.value f.value
    and string_small e.value_signature f.value_signature

pub open_small : (x : OpenResponse (List ℕ)) → OpenFits x → OnlyBytes (open_bytes x)
unfolding open_bytes
open_small x f =
    tlf_bytes ListOf 6
    and string_small x.codepage f.codepage
    and string_small x.client_id f.client_id
    and octets_small x.req_file_id f.req_file_id
    and octets_small x.server_id f.server_id
    and always_small write_time x.ref_time time_small
    and always_small write_unsigned x.sml_version unsigned_small

pub close_small : (x : CloseResponse (List ℕ)) → CloseFits x → OnlyBytes (close_bytes x)
unfolding close_bytes
close_small x f = tlf_bytes ListOf 1 and string_small x.global_signature f.global_signature

pub list_start_small : (x : ListStart (List ℕ)) → ListStartFits x → OnlyBytes (list_start_bytes x)
unfolding list_start_bytes
list_start_small x f =
    tlf_bytes ListOf 7
    and string_small x.client_id f.client_id
    and octets_small x.server_id f.server_id
    and string_small x.list_name f.list_name
    and always_small write_time x.act_sensor_time time_small
    and tlf_bytes ListOf x.num_vals

pub list_end_small : (x : ListEnd (List ℕ)) → ListEndFits x → OnlyBytes (list_end_bytes x)
unfolding list_end_bytes
list_end_small x f = string_small x.list_signature f.list_signature and always_small write_time x.act_gateway_time time_small

pub body_small : (x : Body (List ℕ)) → BodyFits x → OnlyBytes (write_body x)
unfolding write_body
body_small (open_body x) f = tlf_bytes ListOf 2 and unsigned_small 0x00000101 and open_small x f
body_small (close_body x) f = tlf_bytes ListOf 2 and unsigned_small 0x00000201 and close_small x f
body_small (list_body x) f = tlf_bytes ListOf 2 and unsigned_small 0x00000701 and list_start_small x f

pub start_small : (m : MessageStart (List ℕ)) → StartFits m → OnlyBytes (write_start m)
unfolding write_start
start_small m f =
    tlf_bytes ListOf 6
    and octets_small m.transaction_id f.transaction_id
    and unsigned_small m.group_no
    and unsigned_small m.abort_on_error
    and body_small m.message_body f.message_body

entries_small : (es : List (ListEntry (List ℕ))) → EntriesFit es → OnlyBytes (write_entries es)
unfolding write_entries
entries_small [] f = none_bytes
entries_small (e ∷ es) f = entry_small e f.0 and entries_small es f.1

end_small : (x : Option (ListEnd (List ℕ))) → EndFits x → OnlyBytes (write_end x)
unfolding write_end
end_small none f = absurd f
end_small (some x) f = list_end_small x f

pub content_small : (y : Body (List ℕ)) (c : Content (List ℕ)) → ContentFits y c → OnlyBytes (write_content c)
unfolding write_content write_entries write_end
content_small (open_body x) c f = rw (f.0, f.1) none_bytes
content_small (close_body x) c f = rw (f.0, f.1) none_bytes
content_small (list_body x) c f = entries_small c.entries f.1 and end_small c.end f.2

pub message_small : (m : MessageStart (List ℕ)) (c : Content (List ℕ)) → StartFits m → ContentFits m.message_body c → OnlyBytes (write_start m ++ write_content c)
message_small m c f g = start_small m f and content_small m.message_body c g
