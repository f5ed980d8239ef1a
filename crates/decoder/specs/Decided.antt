-- check: mark 1 of crate decoder. Its contracts allow one outcome for each input, and its views lose nothing. Each crate has such a file.
use Rattle.std.specs.Prelude.{◌≡◌, Bool, List, ℕ, Result}
use Rattle.decoder.specs.Push.{in_way, sized, starts}
use Rattle.decoder.specs.Record.{after_push, after_finalize, after_reset, answer_asked}
use Rattle.decoder.specs.Record.{new_record, recounted, push_record, finalize_record, reset_record, ask_record, payload_record, bad_decoder, wrong_buffer}
use Rattle.decoder.specs.declared.DecodeState.{DecodeState}
use Rattle.decoder.specs.declared.Decoder.{Decoder}
use Rattle.decoder.specs.declared.Pushed.{Pushed}
use Rattle.decoder.specs.declared.Finalized.{Finalized}
use Rattle.decoder.specs.declared.AfterReset.{AfterReset}
use Rattle.refusals.specs.declared.BadSpan.{BadSpan}
use Rattle.decided.specs.One.{One, With, Injective}
use Rattle.decided.specs.Part.{LentPart, part_at}

-- every view that a contract cites; where memory is lent, the view of the answer together with it
pub record Views : Type 0 where
  pub pushed : Injective (λ (r : With Pushed). after_push r.answer r.memory)
  pub finalized : Injective after_finalize
  pub was_reset : Injective after_reset
  pub asked : Injective answer_asked

-- every public function: over its parameters, what its `ensures` allows. A slice that is lent stands for what it holds at the call
pub record Decided : Type 0 where
  pub new : (capacity : ℕ) → One (λ (r : Decoder). r ≡ new_record (sized capacity))
  pub with_way : (capacity way : ℕ) → One (λ (r : Decoder). r ≡ new_record (in_way way capacity))
  pub recounted : (d : Decoder) (fill raw : ℕ) (s : DecodeState) → One (λ (r : Decoder). r ≡ recounted d fill raw s)
  pub matching : (n b : ℕ) → One (λ (r : Bool). r ≡ starts n b)
  pub bad_decoder_claim : (d : Decoder) → One (λ (r : Bool). r ≡ bad_decoder d)
  pub wrong_buffer_claim : (recorded lent : ℕ) → One (λ (r : Bool). r ≡ wrong_buffer recorded lent)
  pub push_byte_claim : (self : Decoder) (buf : List ℕ) (b : ℕ) → One (λ (r : With Pushed). after_push r.answer r.memory ≡ push_record self buf b)
  pub push_any : (d : Decoder) (buf : List ℕ) (b : ℕ) → One (λ (r : With Pushed). after_push r.answer r.memory ≡ push_record d buf b)
  pub finalize : (self : Decoder) → One (λ (r : Finalized). after_finalize r ≡ finalize_record self)
  pub reset : (self : Decoder) → One (λ (r : AfterReset). after_reset r ≡ reset_record self)
  pub ask_payload : (self : Decoder) (buf : List ℕ) → One (λ (r : Result (Unit {0}) BadSpan). answer_asked r ≡ ask_record self buf)
  pub payload : (self : Decoder) (buf : LentPart) → One (λ (r : LentPart). r ≡ part_at buf 0 (payload_record self buf.bytes))
