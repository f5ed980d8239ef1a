-- The laws of what is left, put together: the bytes of a list and of a close response, wherever they stand, are read as these responses, and what follows them is left.
use mathlib.Core.Path.{refl}
use mathlib.Core.List.{List, [], ◌∷◌, ◌++◌}
use mathlib.Core.Option.{some, none}
use Prim.Native.Nat.{ℕ, ◌+◌, ◌≤◌, ◌<◌}
use native.Mathlib.Omega.{arith}
use lib.ListN.{length}
use lib.IntN.{negsuc}
use Rattle.crc_x25.specs.Crc.{reflect, polynomial, bit_step, bit_steps, byte_step, register, final_xor, crc_of}
use Rattle.refusals.specs.Read.{Read}
use Rattle.refusals.specs.declared.Span.{Span}
use Rattle.refusals.proofs.Rest.{Reads, Is, Made, OneMore, none_reads, more_reads}
use Rattle.tlf.specs.Lengths.{tlf_at, list_of_at}
use Rattle.tlf.specs.declared.Ty.{Ty}
use Rattle.tlf.specs.declared.Ty.TheVariants.{OctetString, Integer, Unsigned, ListOf}
use Rattle.tlf.specs.Written.{ty_number, total, length_bytes, typed}
use Rattle.tlf.proofs.Gets.{typed_reads, typed_not_one, list_of_reads}
use Rattle.numbers.specs.Numbers.{number, unsigned_at, signed_of, signed_at}
use Rattle.numbers.proofs.Gets.{unsigned_reads, signed_reads}
use Rattle.octet_string.specs.Strings.{octets_at}
use Rattle.octet_string.specs.Optional.{optional}
use Rattle.octet_string.proofs.Gets.{Part, octets_reads, absent_reads, present_reads}
use Rattle.value.specs.Values.{bytes, signed, time_at, status_at}
use Rattle.value.proofs.Gets.{time_reads, bare_time_reads, status_reads, bytes_value_reads, signed_value_reads}
use Rattle.common.specs.Fields.{ListEntry, entry_at}
use Rattle.common.proofs.Gets.{CloseHas, EntryHas, close_reads, entry_reads}
use Rattle.message.specs.Messages.{MessageStart, close_body, list_body, start_at, list_end_at}
use Rattle.message.proofs.Gets.{ListStartHas, ListEndHas, StartHas, list_start_reads, list_end_reads, close_content_reads, list_content_reads, body_reads, start_reads}
use Rattle.trailer.specs.Trailer.{swapped}
use Rattle.trailer.proofs.Gets.{message_end_reads}
use Rattle.events.specs.Message.{message_at}
use Rattle.events.proofs.Cuts.{list_message, close_message}
use Rattle.events.proofs.Gets.{ContentHas, MessageHas, close_body_rest, list_body_rest, message_reads}

-- one length byte
one_entry : (ty : Ty) (len : ℕ) → total ty len 1 < 16 → Reads tlf_at (Is (record { ty = ty; len = len })) (typed ty 1 (total ty len 1))
one_entry ty len h = typed_reads ty 1 len (omega arith) (omega arith) (omega arith) (λ e. refl)

list : (n : ℕ) → n < 16 → Reads (list_of_at n) (Is tt) (typed ListOf 1 n)
list n h = list_of_reads n (one_entry ListOf n h)

string : (x : List ℕ) → length x + 1 < 16 → Reads octets_at (Part x) (typed OctetString 1 (length x + 1) ++ x)
string x h = octets_reads x (one_entry OctetString (length x) h)

there : (x : List ℕ) → 1 ≤ length x → length x + 1 < 16 → Reads (optional octets_at) (Made some (Part x)) (typed OctetString 1 (length x + 1) ++ x)
there x low h = present_reads octets_at _ (typed_not_one OctetString 1 (length x) x (omega arith) (omega arith) (omega arith)) (string x h)

unsigned_field : (w : ℕ) (x : List ℕ) → 1 ≤ length x → length x ≤ w → length x + 1 < 16 → Reads (unsigned_at w) (Is (number 0 x)) (typed Unsigned 1 (length x + 1) ++ x)
unsigned_field w x low high h = unsigned_reads w x low high (one_entry Unsigned (length x) h)

-- the field is there: its type is not that of a string
field : {A : Type 0} {P : List ℕ → A → Type 0} (read : List ℕ → ℕ → Read A) (ty : Ty) (len : ℕ) (x : List ℕ) → 2 ≤ ty_number ty → total ty len 1 < 16
    → Reads read P (typed ty 1 (total ty len 1) ++ x) → Reads (optional read) (Made some P) (typed ty 1 (total ty len 1) ++ x)
field read ty len x high h r = present_reads read _ (typed_not_one ty 1 len x (omega arith) (omega arith) (omega arith)) r

abbrev close_head : List ℕ
close_head = 0x76 ∷ 0x03 ∷ 0xdd ∷ 0x43 ∷ 0x62 ∷ 0x00 ∷ 0x62 ∷ 0x00 ∷ 0x72 ∷ 0x63 ∷ 0x02 ∷ 0x01 ∷ 0x71 ∷ 0x01 ∷ []

abbrev pub CloseStarts : List ℕ → MessageStart Span → Type 0
CloseStarts = StartHas (Part (0xdd ∷ 0x43 ∷ [])) (Is 0) (Is 0) (Made close_body (CloseHas (Is none)))

close_start_lem : Reads start_at CloseStarts close_head
unfolding typed length_bytes number
close_start_lem =
    let zero-byte = unsigned_field 1 (0x00 ∷ []) (omega arith) (omega arith) (omega arith) in
    start_reads
    (list 6 (omega arith))
    (string (0xdd ∷ 0x43 ∷ []) (omega arith))
    zero-byte
    zero-byte
    (body_reads 0x00000201 (list 2 (omega arith)) (unsigned_field 4 (0x02 ∷ 0x01 ∷ []) (omega arith) (omega arith) (omega arith))
    (λ place. close_content_reads place (close_reads (list 1 (omega arith)) (absent_reads octets_at))))

close_crc : Reads (unsigned_at 2) (Is (swapped (crc_of close_head))) (0x63 ∷ 0x0f ∷ 0x5b ∷ [])
unfolding typed length_bytes number reflect polynomial bit_step bit_steps byte_step register final_xor crc_of
close_crc = unsigned_field 2 (0x0f ∷ 0x5b ∷ []) (omega arith) (omega arith) (omega arith)

pub close_message_claim : Reads message_at (MessageHas CloseStarts (ContentHas (Is []) (Is none))) close_message
close_message_claim = message_reads close_head [] close_start_lem (λ s x h. close_body_rest h.message_body) close_crc message_end_reads

-- a list response up to its entries' list, and its entries and end
abbrev list_head : List ℕ
list_head =
    0x76 ∷ 0x02 ∷ 0x07 ∷ 0x62 ∷ 0x00 ∷ 0x62 ∷ 0x00 ∷ 0x72 ∷ 0x63 ∷ 0x07 ∷ 0x01 ∷ 0x77 ∷ 0x02 ∷ 0x01 ∷ 0x03 ∷ 0x02 ∷ 0x03 ∷ 0x02 ∷ 0x04 ∷ 0x72 ∷ 0x62 ∷ 0x01 ∷ 0x62 ∷ 0x2b ∷ 0x72 ∷ []

abbrev list_content : List ℕ
list_content =
    0x77 ∷ 0x02 ∷ 0x05 ∷ 0x63 ∷ 0x01 ∷ 0x80 ∷ 0x72 ∷ 0x62 ∷ 0x01 ∷ 0x65 ∷ 0x00 ∷ 0x00 ∷ 0x01 ∷ 0x00 ∷ 0x62 ∷ 0x1e ∷ 0x52 ∷ 0xff ∷ 0x03 ∷ 0x06 ∷ 0x07 ∷ 0x02 ∷ 0x08 ∷ 0x77 ∷ 0x02 ∷ 0x09 ∷ 0x62 ∷ 0x05 ∷ 0x01 ∷ 0x01 ∷ 0x01 ∷ 0x54 ∷ 0xff ∷ 0x00 ∷ 0x01 ∷ 0x01 ∷ 0x02 ∷ 0x0a ∷ 0x65 ∷ 0x00 ∷ 0x00 ∷ 0x00 ∷ 0x09 ∷ []

-- what the list response says, field by field
abbrev pub FirstEntry : List ℕ → ListEntry Span → Type 0
FirstEntry =
    EntryHas (Part (5 ∷ [])) (Made some (Made (λ v. record { width = 2; number = v }) (Is 384))) (Made some (Is 256)) (Made some (Is 30)) (Made some (Is (negsuc 0))) (Made bytes (Part (6 ∷ 7 ∷ []))) (Made some (Part (8 ∷ [])))

abbrev pub SecondEntry : List ℕ → ListEntry Span → Type 0
SecondEntry = EntryHas (Part (9 ∷ [])) (Made some (Made (λ v. record { width = 1; number = v }) (Is 5))) (Is none) (Is none) (Is none) (Made (signed 4) (Is (negsuc 65534))) (Is none)

abbrev pub ListStarts : List ℕ → MessageStart Span → Type 0
ListStarts =
    StartHas (Part (7 ∷ [])) (Is 0) (Is 0) (Made list_body (ListStartHas (Made some (Part (1 ∷ []))) (Part (2 ∷ 3 ∷ [])) (Made some (Part (4 ∷ []))) (Made some (Is 43)) 2))

list_start_claim : Reads start_at ListStarts list_head
unfolding typed length_bytes number
list_start_claim =
    let zero-byte = unsigned_field 1 (0x00 ∷ []) (omega arith) (omega arith) (omega arith) in
    let tag = unsigned_field 1 (0x01 ∷ []) (omega arith) (omega arith) (omega arith) in
    let time = time_reads (one_entry ListOf 2 (omega arith)) tag (unsigned_field 4 (0x2b ∷ []) (omega arith) (omega arith) (omega arith)) in
    start_reads
    (list 6 (omega arith))
    (string (7 ∷ []) (omega arith))
    zero-byte
    zero-byte
    (body_reads 0x00000701 (list 2 (omega arith)) (unsigned_field 4 (0x07 ∷ 0x01 ∷ []) (omega arith) (omega arith) (omega arith))
    (λ place. list_content_reads place (list_start_reads
    (list 7 (omega arith))
    (there (1 ∷ []) (omega arith) (omega arith))
    (string (2 ∷ 3 ∷ []) (omega arith))
    (there (4 ∷ []) (omega arith) (omega arith))
    (field time_at ListOf 2 _ (omega arith) (omega arith) time)
    (one_entry ListOf 2 (omega arith)))))

first_entry : Reads entry_at FirstEntry (0x77 ∷ 0x02 ∷ 0x05 ∷ 0x63 ∷ 0x01 ∷ 0x80 ∷ 0x72 ∷ 0x62 ∷ 0x01 ∷ 0x65 ∷ 0x00 ∷ 0x00 ∷ 0x01 ∷ 0x00 ∷ 0x62 ∷ 0x1e ∷ 0x52 ∷ 0xff ∷ 0x03 ∷ 0x06 ∷ 0x07 ∷ 0x02 ∷ 0x08 ∷ [])
unfolding typed length_bytes number signed_of
first_entry =
    let tag = unsigned_field 1 (0x01 ∷ []) (omega arith) (omega arith) (omega arith) in
    let status = status_reads _ (0x01 ∷ 0x80 ∷ []) (one_entry Unsigned 2 (omega arith)) (unsigned_field 2 (0x01 ∷ 0x80 ∷ []) (omega arith) (omega arith) (omega arith)) in
    let time = time_reads (one_entry ListOf 2 (omega arith)) tag (unsigned_field 4 (0x00 ∷ 0x00 ∷ 0x01 ∷ 0x00 ∷ []) (omega arith) (omega arith) (omega arith)) in
    let scaler = signed_reads 1 (0xff ∷ []) (omega arith) (omega arith) (one_entry Integer 1 (omega arith)) in
    let value = bytes_value_reads 2 (6 ∷ 7 ∷ []) (one_entry OctetString 2 (omega arith)) (string (6 ∷ 7 ∷ []) (omega arith)) in
    entry_reads
    (list 7 (omega arith))
    (string (5 ∷ []) (omega arith))
    (field status_at Unsigned 2 _ (omega arith) (omega arith) status)
    (field time_at ListOf 2 _ (omega arith) (omega arith) time)
    (field (unsigned_at 1) Unsigned 1 _ (omega arith) (omega arith) (unsigned_field 1 (0x1e ∷ []) (omega arith) (omega arith) (omega arith)))
    (field (signed_at 1) Integer 1 _ (omega arith) (omega arith) scaler)
    value
    (there (8 ∷ []) (omega arith) (omega arith))

second_entry : Reads entry_at SecondEntry (0x77 ∷ 0x02 ∷ 0x09 ∷ 0x62 ∷ 0x05 ∷ 0x01 ∷ 0x01 ∷ 0x01 ∷ 0x54 ∷ 0xff ∷ 0x00 ∷ 0x01 ∷ 0x01 ∷ [])
unfolding typed length_bytes number signed_of
second_entry =
    let status = status_reads _ (0x05 ∷ []) (one_entry Unsigned 1 (omega arith)) (unsigned_field 1 (0x05 ∷ []) (omega arith) (omega arith) (omega arith)) in
    let value = signed_value_reads 3 (0xff ∷ 0x00 ∷ 0x01 ∷ []) (one_entry Integer 3 (omega arith)) (signed_reads 4 (0xff ∷ 0x00 ∷ 0x01 ∷ []) (omega arith) (omega arith) (one_entry Integer 3 (omega arith))) in
    entry_reads
    (list 7 (omega arith))
    (string (9 ∷ []) (omega arith))
    (field status_at Unsigned 1 _ (omega arith) (omega arith) status)
    (absent_reads time_at)
    (absent_reads (unsigned_at 1))
    (absent_reads (signed_at 1))
    value
    (absent_reads octets_at)

list_end_claim : Reads list_end_at (ListEndHas (Made some (Part (10 ∷ []))) (Made some (Is 9))) (0x02 ∷ 0x0a ∷ 0x65 ∷ 0x00 ∷ 0x00 ∷ 0x00 ∷ 0x09 ∷ [])
unfolding typed length_bytes number
list_end_claim =
    let time = bare_time_reads (0 ∷ 0 ∷ 0 ∷ 9 ∷ []) (one_entry Unsigned 4 (omega arith)) (unsigned_field 4 (0 ∷ 0 ∷ 0 ∷ 9 ∷ []) (omega arith) (omega arith) (omega arith)) in
    list_end_reads (there (10 ∷ []) (omega arith) (omega arith)) (field time_at Unsigned 4 _ (omega arith) (omega arith) time)

list_crc : Reads (unsigned_at 2) (Is (swapped (crc_of (list_head ++ list_content)))) (0x63 ∷ 0x29 ∷ 0x11 ∷ [])
unfolding typed length_bytes number reflect polynomial bit_step bit_steps byte_step register final_xor crc_of
list_crc = unsigned_field 2 (0x29 ∷ 0x11 ∷ []) (omega arith) (omega arith) (omega arith)

pub list_message_lem : Reads message_at (MessageHas ListStarts (ContentHas (OneMore FirstEntry (OneMore SecondEntry (Is []))) (Made some (ListEndHas (Made some (Part (10 ∷ []))) (Made some (Is 9)))))) list_message
list_message_lem =
    message_reads list_head list_content list_start_claim
    (λ s x h. list_body_rest h.message_body (more_reads 1 first_entry (more_reads 0 second_entry (none_reads entry_at))) list_end_claim)
    list_crc
    message_end_reads
