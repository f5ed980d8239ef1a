-- rule: what an event is in 24 numbers.
use Rattle.std.specs.Prelude.{ℕ, zero, suc, ◌-◌, ◌^◌, cond, List, [], ◌∷◌, ◌++◌, ℤ, pos, negsuc, replicate}
use Rattle.std.proofs.Math.Option.{Option, some, none}
use Rattle.refusals.specs.declared.Span.{Span}
use Rattle.value.specs.Values.{Status, Value, truth, bytes, signed, unsigned, list_time}
use Rattle.common.specs.Fields.{ListEntry}
use Rattle.message.specs.Messages.{MessageStart, ListEnd, Body, open_body, close_body, list_body}
use Rattle.streaming.specs.Next.{start_event, entry_event, end_event, Said, event, no_event, failed, alone}

-- ---- fields

-- a number
abbrev pub number_word : ℕ → List ℕ
number_word n = n ∷ []

-- a number that may be below 0: in 64 bits, two's complement
abbrev pub twos_complement : ℤ → ℕ
twos_complement (pos n) = n
twos_complement (negsuc n) = 2 ^ 64 - suc n

abbrev pub signed_word : ℤ → List ℕ
signed_word z = twos_complement z ∷ []

-- a string: where it starts in the input, and its length
abbrev pub span_words : Span → List ℕ
span_words s = s.start ∷ s.len ∷ []

-- a status: its width in bytes, and the number
abbrev pub status_words : Status → List ℕ
status_words s = s.width ∷ s.number ∷ []

-- an optional field of so many words: 1 and they; absent, 0 and as many zeros
abbrev pub field_words : {A : Type 0} → ℕ → (A → List ℕ) → Option A → List ℕ
field_words n words (some x) = 1 ∷ words x
field_words n words none = 0 ∷ replicate n 0

-- a value: its kind; of a signed or unsigned number its width in bytes; the number, 1 of true, a time's seconds; of a string start and length
abbrev pub value_words : Value Span → List ℕ
value_words (truth b) = 1 ∷ 0 ∷ cond b 1 0 ∷ 0 ∷ 0 ∷ []
value_words (bytes s) = 2 ∷ 0 ∷ 0 ∷ span_words s
value_words (signed width z) = 3 ∷ width ∷ twos_complement z ∷ 0 ∷ 0 ∷ []
value_words (unsigned width n) = 4 ∷ width ∷ n ∷ 0 ∷ 0 ∷ []
value_words (list_time n) = 5 ∷ 0 ∷ n ∷ 0 ∷ 0 ∷ []

-- ---- events, each field in its order; behind it the words that it takes, counted from 0

-- a message's body
abbrev pub body_words : Body Span → List ℕ
body_words (open_body b) =
    1 ∷ field_words 2 span_words b.codepage  -- 5, 6 to 8
    ++ field_words 2 span_words b.client_id  -- 9 to 11
    ++ span_words b.req_file_id  -- 12, 13
    ++ span_words b.server_id  -- 14, 15
    ++ field_words 1 number_word b.ref_time  -- 16, 17
    ++ field_words 1 number_word b.sml_version  -- 18, 19
body_words (close_body b) = 2 ∷ field_words 2 span_words b.global_signature  -- 5, 6 to 8
body_words (list_body b) =
    3 ∷ field_words 2 span_words b.client_id  -- 5, 6 to 8
    ++ span_words b.server_id  -- 9, 10
    ++ field_words 2 span_words b.list_name  -- 11 to 13
    ++ field_words 1 number_word b.act_sensor_time  -- 14, 15
    ++ number_word b.num_vals  -- 16

abbrev pub start_words : MessageStart Span → List ℕ
start_words m =
    1 ∷ span_words m.transaction_id  -- 0, 1, 2
    ++ number_word m.group_no  -- 3
    ++ number_word m.abort_on_error  -- 4
    ++ body_words m.message_body  -- from 5 on

abbrev pub end_words : ListEnd Span → List ℕ
end_words e =
    2 ∷ field_words 2 span_words e.list_signature  -- 0, 1 to 3
    ++ field_words 1 number_word e.act_gateway_time  -- 4, 5

abbrev pub entry_words : ListEntry Span → List ℕ
entry_words e =
    3 ∷ span_words e.obj_name  -- 0, 1, 2
    ++ field_words 2 status_words e.status  -- 3 to 5
    ++ field_words 1 number_word e.val_time  -- 6, 7
    ++ field_words 1 number_word e.unit  -- 8, 9
    ++ field_words 1 signed_word e.scaler  -- 10, 11
    ++ value_words e.value  -- 12 to 16
    ++ field_words 2 span_words e.value_signature  -- 17 to 19

-- no event; the three events; a refusal at a place, and one at none: number, kind, place
abbrev pub said_words : Said → List ℕ
said_words no_event = 0 ∷ []
said_words (event (start_event m)) = start_words m
said_words (event (end_event e)) = end_words e
said_words (event (entry_event e)) = entry_words e
said_words (failed f) = 4 ∷ f.number ∷ f.kind ∷ f.place ∷ []
said_words (alone number) = 5 ∷ number ∷ 0 ∷ 0 ∷ []

-- the first n words, zeros behind the last
unfoldable pub with_zeros : ℕ → List ℕ → List ℕ
with_zeros zero l = []
with_zeros (suc n) [] = 0 ∷ with_zeros n []
with_zeros (suc n) (x ∷ l) = x ∷ with_zeros n l

-- what a call of the reader says, in 24 numbers
abbrev pub event_words : Said → List ℕ
event_words s = with_zeros 24 (said_words s)
