-- rule: a decoder's record in 28 plain bytes (document 02, Q-11): kind, small count, way of searching, 0; the CRC register in two bytes, and two zeros; fill, CRC index, raw length, noise and capacity in four bytes each, low byte first.
use Rattle.std.specs.Prelude.{List, [], ◌∷◌, ◌++◌, ℕ, zero, suc, ◌+◌, ◌*◌, ◌%◌, ◌/◌, ◌<◌, ◌≤◌, drop, get_or}
use Rattle.refusals.specs.Numbers.{count_stop}
use Rattle.decoder.specs.declared.DecodeState.{DecodeState}
use Rattle.decoder.specs.declared.DecodeState.TheVariants.{LookingForMessageStart, ParsingNormal, ParsingEscChars, ParsingEscPayload, Done}
use Rattle.decoder.specs.declared.Decoder.{Decoder}

-- ---- numbers

-- a number's k low bytes, the lowest first
unfoldable pub low_first : ℕ → ℕ → List ℕ
low_first zero v = []
low_first (suc k) v = v % 256 ∷ low_first k (v / 256)

-- the number in k bytes of l from `at` on
unfoldable pub number_at_claim : List ℕ → ℕ → ℕ → ℕ
number_at_claim l at zero = 0
number_at_claim l at (suc k) = get_or l at 0 + 256 * number_at_claim l (suc at) k

-- ---- the state

-- its kind, in the order of the Rust's DecodeState
abbrev pub kind_no : DecodeState → ℕ
kind_no (LookingForMessageStart n noise) = 0
kind_no ParsingNormal = 1
kind_no (ParsingEscChars n) = 2
kind_no (ParsingEscPayload n) = 3
kind_no Done = 4

-- its small count: start bytes matched, 1b waiting, or bytes behind an escape
abbrev pub small_count : DecodeState → ℕ
small_count (LookingForMessageStart n noise) = n
small_count ParsingNormal = 0
small_count (ParsingEscChars n) = n
small_count (ParsingEscPayload n) = n
small_count Done = 0

abbrev pub noise_count : DecodeState → ℕ
noise_count (LookingForMessageStart n noise) = noise
noise_count ParsingNormal = 0
noise_count (ParsingEscChars n) = 0
noise_count (ParsingEscPayload n) = 0
noise_count Done = 0

-- the state that these say. A kind over 4 is none: it is read as Done, whose kind is another, so that the bytes are refused (`unpack_of`)
unfoldable pub state_in : ℕ → ℕ → ℕ → DecodeState
state_in zero n noise = LookingForMessageStart n noise
state_in (suc zero) n noise = ParsingNormal
state_in (suc (suc zero)) n noise = ParsingEscChars n
state_in (suc (suc (suc zero))) n noise = ParsingEscPayload n
state_in (suc (suc (suc (suc k)))) n noise = Done

-- ---- the record

-- behind a payload CRC index and raw length are not used, and 0. Small count and noise have no place in a record whose state doesn't use them; the CRC register is no count, and stays
abbrev pub used_in : DecodeState → ℕ → ℕ
used_in (LookingForMessageStart n noise) x = x
used_in ParsingNormal x = x
used_in (ParsingEscChars n) x = x
used_in (ParsingEscPayload n) x = x
used_in Done x = 0

-- the record, its unused counts 0
abbrev pub tidied : Decoder → Decoder
tidied d =
    record {
      capacity = d.capacity;
      fill = d.fill;
      raw_msg_len = used_in d.state d.raw_msg_len;
      crc = d.crc;
      way = d.way;
      crc_idx = used_in d.state d.crc_idx;
      state = d.state;
    }

-- what the record's types give, 16 bits for the CRC register and 32 for raw length and noise: every record of the code is such. What else is packed in a width is bounded by what is 4 and 5
pub record Narrow (d : Decoder) : Type 0 where
  pub crc : d.crc < 65536
  pub raw : d.raw_msg_len ≤ count_stop
  pub noise : noise_count d.state ≤ count_stop

-- kind, small count, way, 0, CRC register, and two zeros
abbrev pub head_of : ℕ → ℕ → ℕ → ℕ → List ℕ
head_of kind small way crc = (kind ∷ small ∷ way ∷ 0 ∷ []) ++ (low_first 2 crc ++ (0 ∷ 0 ∷ []))

-- fill, CRC index, raw length, noise and capacity
abbrev pub counts_of : ℕ → ℕ → ℕ → ℕ → ℕ → List ℕ
counts_of fill idx raw noise capacity = low_first 4 fill ++ (low_first 4 idx ++ (low_first 4 raw ++ (low_first 4 noise ++ low_first 4 capacity)))

-- the 28 bytes
unfoldable pub packed_bytes : Decoder → List ℕ
packed_bytes d =
    head_of (kind_no d.state) (small_count d.state) d.way d.crc
    ++ counts_of d.fill d.crc_idx d.raw_msg_len (noise_count d.state) d.capacity

-- l with the record in its first 28 bytes
unfoldable pub packed_in : Decoder → List ℕ → List ℕ
packed_in d l = packed_bytes (tidied d) ++ drop 28 l

-- the record whose fields the bytes say
unfoldable pub record_in : List ℕ → Decoder
record_in l =
    record {
      capacity = number_at_claim l 24 4;
      fill = number_at_claim l 8 4;
      raw_msg_len = number_at_claim l 16 4;
      crc = number_at_claim l 4 2;
      way = get_or l 2 0;
      crc_idx = number_at_claim l 12 4;
      state = state_in (get_or l 0 0) (get_or l 1 0) (number_at_claim l 20 4);
    }
