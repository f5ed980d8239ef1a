-- check: the bench sheet of document 01, B1 to B14, as one table of inputs and outcomes; B14 as document 02 (Q-2) has it, and beside the table B5 in the second way of searching (Q-7).
use Rattle.std.specs.Prelude.{◌≡◌, List, [], ◌∷◌, ◌++◌, map, ℕ, suc, replicate, ℤ, negsuc}
use Rattle.std.proofs.Math.Option.{Option, some}
use Rattle.refusals.specs.Read.{Read, got, Refusal}
use Rattle.refusals.specs.Read as L
use Rattle.refusals.specs.declared.Span.{Span}
use Rattle.tlf.specs.Lengths.{tlf_at}
use Rattle.tlf.specs.declared.Ty.TheVariants.{OctetString}
use Rattle.tlf.specs.declared.TypeLengthField.{TypeLengthField}
use Rattle.numbers.specs.Numbers.{unsigned_at, signed_at}
use Rattle.octet_string.specs.Strings.{octets_at}
use Rattle.octet_string.specs.Optional.{optional}
use Rattle.encoder.specs.Encode.{AfterEncode, after_encode, length_is}
use Rattle.decoder.specs.Push.{second_way, in_way, sized}
use Rattle.decoder.specs.Record.{DecoderAnswer, nothing, payload, count, refusal}
use Rattle.decoder.specs.Run.{push, finalize}
use Rattle.decoder.specs.declared.Setup.{Setup}
use Rattle.marks.specs.Decoders.{Machine, answers}
use Rattle.marks.specs.Mark3.{Encode}

-- ---- what is tried, and what comes out

-- what a row tries
pub data Input : Type 0 where
  encode : List ℕ → ℕ → Input  -- a payload, and the length of an output of bytes ff
  decode : Setup → List ℕ → Input  -- a new decoder, with a buffer of bytes 00; bytes to push, and then finalize
  length_field : List ℕ → Input  -- what stands at the first of these bytes: type and length
  optional_string : List ℕ → Input  -- an octet string that may be absent
  as_i32 : List ℕ → Input  -- a number of at most four bytes, signed
  as_u8 : List ℕ → Input  -- a number of one byte, unsigned

-- the number of an operation, the first being 1, and its answer
pub record SheetSaid : Type 0 where
  pub at : ℕ
  pub answer : DecoderAnswer

-- what comes of it; the last four are what the definitions of crates tlf, octet_string and numbers find
pub data Outcome : Type 0 where
  sheet_encoded : AfterEncode → Outcome  -- encode's answer, and the output
  sheet_events : List SheetSaid → Outcome  -- all answers but `nothing`
  sheet_field : Read TypeLengthField → Outcome
  sheet_string : Read (Option Span) → Outcome
  sheet_signed : Read ℤ → Outcome
  sheet_unsigned : Read ℕ → Outcome

-- operation n answers a
abbrev pub sheet_said : ℕ → DecoderAnswer → SheetSaid
sheet_said n a = record { at = n; answer = a }

-- all answers but `nothing`, the first being that of operation n
unfoldable pub said_from : ℕ → List DecoderAnswer → List SheetSaid
said_from n [] = []
said_from n (nothing ∷ more) = said_from (suc n) more
said_from n (payload bytes ∷ more) = sheet_said n (payload bytes) ∷ said_from (suc n) more
said_from n (count k ∷ more) = sheet_said n (count k) ∷ said_from (suc n) more
said_from n (refusal k values ∷ more) = sheet_said n (refusal k values) ∷ said_from (suc n) more

-- what comes out of a decoder, an encode and the definitions of the length and number rules
abbrev pub outcome : {S : Type 0} → Machine S → Encode → Input → Outcome
outcome M enc (encode P n) = sheet_encoded (enc P (replicate n 0xff))
outcome M enc (decode C bytes) = sheet_events (said_from 1 (answers M (M.new C) (replicate C.capacity 0x00) (map push bytes ++ finalize ∷ [])))
outcome M enc (length_field bytes) = sheet_field (tlf_at bytes 0)
outcome M enc (optional_string bytes) = sheet_string (optional octets_at bytes 0)
outcome M enc (as_i32 bytes) = sheet_signed (signed_at 4 bytes 0)
outcome M enc (as_u8 bytes) = sheet_unsigned (unsigned_at 1 bytes 0)

-- ---- the sheet

-- a row of the sheet: what is tried, and what document 01 expects
pub record Row : Type 0 where
  pub number : ℕ  -- of document 01's B1 to B14
  pub input : Input
  pub expected : Outcome

-- the row of this number, input and outcome
abbrev pub row : ℕ → Input → Outcome → Row
row n i e = record { number = n; input = i; expected = e }

-- B1's payload
abbrev pub payload1 : List ℕ
payload1 = 0x12 ∷ 0x34 ∷ 0x56 ∷ 0x78 ∷ []

-- B1's frame
abbrev pub frame1 : List ℕ
frame1 = 0x1b ∷ 0x1b ∷ 0x1b ∷ 0x1b ∷ 0x01 ∷ 0x01 ∷ 0x01 ∷ 0x01 ∷ 0x12 ∷ 0x34 ∷ 0x56 ∷ 0x78 ∷ 0x1b ∷ 0x1b ∷ 0x1b ∷ 0x1b ∷ 0x1a ∷ 0x00 ∷ 0xb8 ∷ 0x7b ∷ []

-- B1's frame ending 7a
abbrev pub spoilt1 : List ℕ
spoilt1 = 0x1b ∷ 0x1b ∷ 0x1b ∷ 0x1b ∷ 0x01 ∷ 0x01 ∷ 0x01 ∷ 0x01 ∷ 0x12 ∷ 0x34 ∷ 0x56 ∷ 0x78 ∷ 0x1b ∷ 0x1b ∷ 0x1b ∷ 0x1b ∷ 0x1a ∷ 0x00 ∷ 0xb8 ∷ 0x7a ∷ []

-- B2's frame
abbrev pub frame2 : List ℕ
frame2 = 0x1b ∷ 0x1b ∷ 0x1b ∷ 0x1b ∷ 0x01 ∷ 0x01 ∷ 0x01 ∷ 0x01 ∷ 0x13 ∷ 0x24 ∷ 0x35 ∷ 0x46 ∷ 0x1b ∷ 0x1b ∷ 0x1b ∷ 0x1b ∷ 0x1a ∷ 0x00 ∷ 0xb1 ∷ 0xa1 ∷ []

-- start, aa bb, B1's frame
abbrev pub two_starts : List ℕ
two_starts = 0x1b ∷ 0x1b ∷ 0x1b ∷ 0x1b ∷ 0x01 ∷ 0x01 ∷ 0x01 ∷ 0x01 ∷ 0xaa ∷ 0xbb ∷ frame1

-- start, 1b1b1b1b 02000000
abbrev pub wrong_escape : List ℕ
wrong_escape = 0x1b ∷ 0x1b ∷ 0x1b ∷ 0x1b ∷ 0x01 ∷ 0x01 ∷ 0x01 ∷ 0x01 ∷ 0x1b ∷ 0x1b ∷ 0x1b ∷ 0x1b ∷ 0x02 ∷ 0x00 ∷ 0x00 ∷ 0x00 ∷ []

-- a string of so many bytes behind its length bytes
abbrev pub string_of : ℕ → ℕ → Outcome
string_of n next = sheet_field (got (record { ty = OctetString; len = n }) next)

-- refused by document 01's number, of an 11 the kind (1 overflow, 2 reserved, 3 underflow, 4 next byte's type, 5 type), at a place
abbrev pub refused_as : ℕ → ℕ → ℕ → Refusal
refused_as number kind place = record { number = number; kind = kind; place = place }

-- the rows that the fakes fall at, by name: B3, the payload at byte 20
abbrev pub b3 : Row
b3 = row 3 (decode (sized 8) frame1) (sheet_events (sheet_said 20 (payload payload1) ∷ []))

-- one byte of noise, then the payload
abbrev pub b6 : Row
b6 = row 6 (decode (sized 8) (0x00 ∷ frame1)) (sheet_events (sheet_said 9 (refusal 6 (1 ∷ [])) ∷ sheet_said 21 (payload payload1) ∷ []))

-- two payloads encoded into an output of 20 bytes
abbrev pub b1 : Row
b1 = row 1 (encode payload1 20) (sheet_encoded (after_encode (length_is 20) frame1))

abbrev pub b2 : Row
b2 = row 2 (encode (0x13 ∷ 0x24 ∷ 0x35 ∷ 0x46 ∷ []) 20) (sheet_encoded (after_encode (length_is 20) frame2))

-- B5 in the second way, as document 02 (Q-7) has it: the stray byte is told at the ninth, and the payload comes at the last
abbrev pub b5_second : Row
b5_second = row 5 (decode (in_way second_way 8) (0x1b ∷ frame1)) (sheet_events (sheet_said 9 (refusal 6 (1 ∷ [])) ∷ sheet_said 21 (payload payload1) ∷ []))

-- The sheet, B1 to B14 in order, decoders in the first way. OutOfMemory is 3, DiscardedBytes is 6, InvalidEsc 7, InvalidMessage 8: read CRC, computed CRC, aligned (0), p
abbrev pub sheet : List Row
sheet =
    b1
    ∷ b2
    ∷ b3
    ∷ row 4 (decode (sized 7) frame1) (sheet_events (sheet_said 20 (refusal 3 []) ∷ []))
    ∷ row 5 (decode (sized 8) (0x1b ∷ frame1)) (sheet_events (sheet_said 22 (refusal 6 (21 ∷ [])) ∷ []))
    ∷ b6
    ∷ row 7 (decode (sized 8) two_starts) (sheet_events (sheet_said 18 (refusal 6 (10 ∷ [])) ∷ sheet_said 30 (payload payload1) ∷ []))
    ∷ row 8 (decode (sized 8) wrong_escape) (sheet_events (sheet_said 16 (refusal 7 (0x02 ∷ 0x00 ∷ 0x00 ∷ 0x00 ∷ [])) ∷ []))
    ∷ row 9 (decode (sized 8) spoilt1) (sheet_events (sheet_said 20 (refusal 8 (0x7ab8 ∷ 0x7bb8 ∷ 0 ∷ 0 ∷ [])) ∷ []))
    ∷ row 10 (length_field (0x07 ∷ [])) (string_of 6 1)
    ∷ row 10 (length_field (0x83 ∷ 0x02 ∷ [])) (string_of 48 2)
    ∷ row 10 (optional_string (0x80 ∷ 0x02 ∷ [])) (sheet_string (got (some (record { start = 2; len = 0 })) 2))
    ∷ row 11 (length_field (0x00 ∷ [])) (sheet_field (L.refused (refused_as 11 3 0)))
    ∷ row 11 (length_field (0xc2 ∷ [])) (sheet_field (L.refused (refused_as 11 2 0)))
    ∷ row 11 (length_field (0x10 ∷ [])) (sheet_field (L.refused (refused_as 11 5 0)))
    ∷ row 11 (length_field (0x81 ∷ 0x12 ∷ [])) (sheet_field (L.refused (refused_as 11 4 0)))
    ∷ row 11 (length_field (0x81 ∷ 0x82 ∷ [])) (sheet_field (L.refused (refused_as 10 0 2)))
    ∷ row 12 (as_i32 (0x52 ∷ 0xff ∷ [])) (sheet_signed (got (negsuc 0) 2))
    ∷ row 13 (as_u8 (0x63 ∷ 0x00 ∷ 0x05 ∷ [])) (sheet_unsigned (L.refused (refused_as 12 0 0)))
    ∷ row 14 (length_field (0x81 ∷ 0x80 ∷ 0x80 ∷ 0x80 ∷ 0x80 ∷ 0x80 ∷ 0x80 ∷ 0x80 ∷ 0x0a ∷ [])) (sheet_field (L.refused (refused_as 11 1 0)))
    ∷ []

-- a row holds of a decoder and an encode; the whole sheet does
abbrev pub Holds : {S : Type 0} → Machine S → Encode → Row → Type 0
Holds M enc r = outcome M enc r.input ≡ r.expected

abbrev pub Bench : {S : Type 0} → Machine S → Encode → Type 0
Bench M enc = map (λ (r : Row). outcome M enc r.input) sheet ≡ map (λ (r : Row). r.expected) sheet
