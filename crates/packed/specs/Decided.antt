-- check: mark 1 of crate packed. Its contracts allow one outcome for each input, and its views lose nothing. Each crate has such a file.
use Rattle.std.specs.Prelude.{◌≡◌, Bool, List, ℕ, Result}
use Rattle.decided.specs.One.{One, With, Beside, Injective}
use Rattle.decided.specs.Part.{LentPart, part_at}
use Rattle.decoder.specs.Record.{Event, answer_asked}
use Rattle.refusals.specs.declared.BadSpan.{BadSpan}
use Rattle.decoder.specs.declared.Decoder.{Decoder}
use Rattle.in_place.specs.declared.Taken.{Taken}
use Rattle.packed.specs.Packed.{filled, pack_into, unpacked_as, unpack_of, kept_push, push_packed, tried, plain_packed, kept_slice, slice_packed, kept_event, finalize_packed, kept_reset, reset_packed, payload_packed, ask_packed}
use Rattle.packed.specs.declared.BadState.{BadState}
use Rattle.packed.specs.declared.PackError.{PackError}

-- every view that a contract cites, of the answer together with the bytes that are lent, and with the lent memory
pub record Views : Type 0 where
  pub packing : Injective (λ (r : With (Result (Unit {0}) PackError)). filled r.answer r.memory)
  pub unpacking : Injective unpacked_as
  pub pushed_over : Injective (λ (r : With (Beside Event (List ℕ))). kept_push r.answer.answer r.answer.lent r.memory)
  pub tried_over : Injective (λ (r : With (Beside Bool (List ℕ))). tried r.answer.answer r.answer.lent r.memory)
  pub sliced_over : Injective (λ (r : With (Beside Taken (List ℕ))). kept_slice r.answer.answer r.answer.lent r.memory)
  pub finalized_over : Injective (λ (r : Beside Event (List ℕ)). kept_event r.answer r.lent)
  pub was_reset_over : Injective (λ (r : Beside (Result ℕ BadState) (List ℕ)). kept_reset r.answer r.lent)

-- every public function: over its parameters, what its `ensures` allows. A slice that is lent stands for what it holds at the call
pub record Decided : Type 0 where
  pub pack : (d : Decoder) (out : List ℕ) → One (λ (r : With (Result (Unit {0}) PackError)). filled r.answer r.memory ≡ pack_into d out)
  pub unpack : (bytes : List ℕ) → One (λ (r : Result Decoder BadState). unpacked_as r ≡ unpack_of bytes)
  pub push_plain : (bytes buf : List ℕ) (b : ℕ) → One (λ (r : With (Beside Bool (List ℕ))). tried r.answer.answer r.answer.lent r.memory ≡ plain_packed bytes buf b)
  pub push_packed_claim : (bytes buf : List ℕ) (b : ℕ)
      → One (λ (r : With (Beside Event (List ℕ))). kept_push r.answer.answer r.answer.lent r.memory ≡ push_packed bytes buf b)
  pub push_slice_packed : (bytes buf chunk : List ℕ)
      → One (λ (r : With (Beside Taken (List ℕ))). kept_slice r.answer.answer r.answer.lent r.memory ≡ slice_packed bytes buf chunk)
  pub finalize_packed_claim : (bytes : List ℕ) → One (λ (r : Beside Event (List ℕ)). kept_event r.answer r.lent ≡ finalize_packed bytes)
  pub reset_packed_claim : (bytes : List ℕ) → One (λ (r : Beside (Result ℕ BadState) (List ℕ)). kept_reset r.answer r.lent ≡ reset_packed bytes)
  pub payload_packed_claim : (bytes : List ℕ) (buf : LentPart) → One (λ (r : LentPart). r ≡ part_at buf 0 (payload_packed bytes buf.bytes))
  pub ask_payload_packed : (bytes buf : List ℕ) → One (λ (r : Result (Unit {0}) BadSpan). answer_asked r ≡ ask_packed bytes buf)
