-- An open, a list and a close response cut after every byte: 10, at the place where the input ends.
use mathlib.Core.Path.{◌≡◌, refl}
use mathlib.Core.List.{List, [], ◌∷◌}
use mathlib.Core.Option.{Option, some}
use Prim.Native.Nat.{ℕ, zero, suc}
use lib.ListN.{take}
use Rattle.crc_x25.specs.Crc.{reflect, polynomial, bit_step, bit_steps, byte_step, register, final_xor, crc_of}
use Rattle.refusals.specs.Read.{Refusal, then, guard, need, eof, byte_at, span_at}
use Rattle.tlf.specs.Lengths.{tlf_at, length_from, less_own, list_of_at}
use Rattle.numbers.specs.Numbers.{number, bytes_at_claim, raw_from, raw_at, unsigned_at, signed_of, signed_at, bool_from, bool_at}
use Rattle.octet_string.specs.Strings.{octets_at}
use Rattle.octet_string.specs.Optional.{absent_at, optional}
use Rattle.value.specs.Values.{time_at, status_of, status_at, signed_value, unsigned_value, list_type_at, value_of_claim, value_at}
use Rattle.common.specs.Fields.{open_at, close_at, entry_at}
use Rattle.message.specs.Messages.{list_start_at, list_end_at, content_at, body_at, start_at}
use Rattle.trailer.specs.Trailer.{message_end_at, crc_from, trailer_at}
use Rattle.events.specs.Events.{says_first, at_start_claim, inside, entries_from, content_from, messages_from, events_of}
use Rattle.events.specs.Telling.{first_refusal}

abbrev pub open_message : List ℕ
open_message = 0x76 ∷ 0x02 ∷ 0x01 ∷ 0x62 ∷ 0x01 ∷ 0x62 ∷ 0x02 ∷ 0x72 ∷ 0x63 ∷ 0x01 ∷ 0x01 ∷ 0x76 ∷ 0x03 ∷ 0x0a ∷ 0x0b ∷ 0x02 ∷ 0x0c ∷ 0x03 ∷ 0x0d ∷ 0x0e ∷ 0x02 ∷ 0x0f ∷ 0x65 ∷ 0x00 ∷ 0x00 ∷ 0x00 ∷ 0x2a ∷ 0x62 ∷ 0x01 ∷ 0x63 ∷ 0x29 ∷ 0x6e ∷ 0x00 ∷ []

abbrev pub list_message : List ℕ
list_message = 0x76 ∷ 0x02 ∷ 0x07 ∷ 0x62 ∷ 0x00 ∷ 0x62 ∷ 0x00 ∷ 0x72 ∷ 0x63 ∷ 0x07 ∷ 0x01 ∷ 0x77 ∷ 0x02 ∷ 0x01 ∷ 0x03 ∷ 0x02 ∷ 0x03 ∷ 0x02 ∷ 0x04 ∷ 0x72 ∷ 0x62 ∷ 0x01 ∷ 0x62 ∷ 0x2b ∷ 0x72 ∷ 0x77 ∷ 0x02 ∷ 0x05 ∷ 0x63 ∷ 0x01 ∷ 0x80 ∷ 0x72 ∷ 0x62 ∷ 0x01 ∷ 0x65 ∷ 0x00 ∷ 0x00 ∷ 0x01 ∷ 0x00 ∷ 0x62 ∷ 0x1e ∷ 0x52 ∷ 0xff ∷ 0x03 ∷ 0x06 ∷ 0x07 ∷ 0x02 ∷ 0x08 ∷ 0x77 ∷ 0x02 ∷ 0x09 ∷ 0x62 ∷ 0x05 ∷ 0x01 ∷ 0x01 ∷ 0x01 ∷ 0x54 ∷ 0xff ∷ 0x00 ∷ 0x01 ∷ 0x01 ∷ 0x02 ∷ 0x0a ∷ 0x65 ∷ 0x00 ∷ 0x00 ∷ 0x00 ∷ 0x09 ∷ 0x63 ∷ 0x29 ∷ 0x11 ∷ 0x00 ∷ []

abbrev pub close_message : List ℕ
close_message = 0x76 ∷ 0x03 ∷ 0xdd ∷ 0x43 ∷ 0x62 ∷ 0x00 ∷ 0x62 ∷ 0x00 ∷ 0x72 ∷ 0x63 ∷ 0x02 ∷ 0x01 ∷ 0x71 ∷ 0x01 ∷ 0x63 ∷ 0x0f ∷ 0x5b ∷ 0x00 ∷ []

-- the first refusal of an input's first k bytes, for each k from n down to 1
unfoldable pub cuts : List ℕ → ℕ → List (Option Refusal)
cuts s zero = []
cuts s (suc k) = first_refusal (events_of (take (suc k) s)).first ∷ cuts s k

unfoldable pub ends_of_input : ℕ → List (Option Refusal)
ends_of_input zero = []
ends_of_input (suc k) = some (eof (suc k)) ∷ ends_of_input k

pub record Cuts : Type 0 where
  pub open_cut : cuts open_message 32 ≡ ends_of_input 32
  pub list_cut : cuts list_message 71 ≡ ends_of_input 71
  pub close_cut : cuts close_message 17 ≡ ends_of_input 17

pub all_cuts : Cuts
unfolding then guard need byte_at span_at tlf_at length_from less_own list_of_at number bytes_at_claim raw_from raw_at unsigned_at signed_of signed_at bool_from bool_at octets_at absent_at optional time_at status_of status_at signed_value unsigned_value list_type_at value_of_claim value_at open_at close_at entry_at message_end_at list_start_at list_end_at content_at body_at start_at reflect polynomial bit_step bit_steps byte_step register final_xor crc_of crc_from trailer_at says_first at_start_claim inside entries_from content_from messages_from events_of first_refusal cuts ends_of_input
all_cuts = record { open_cut = refl; list_cut = refl; close_cut = refl }
