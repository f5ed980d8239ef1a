-- check: mark 1 of crate sartrogheo. Its contracts allow one outcome for each input: the number that a call gives, and what everything that it may write holds then. Each crate has such a file.
use Rattle.std.specs.Prelude.{◌≡◌, List, [], ◌∷◌, ℕ}
use Rattle.decided.specs.One.{One, Beside}
use Rattle.crc_x25.specs.Crc.{crc_of}
use Rattle.sartrogheo.specs.Calls.{reply, sgh_decoder_new, sgh_push_byte, sgh_push_slice, sgh_payload, sgh_finalize, sgh_reset, sgh_encode}
use Rattle.sartrogheo.specs.Streams.{sgh_encoder_new, sgh_encoder_next, sgh_next_event}
use Rattle.sartrogheo.specs.Writes.{sgh_write_event}
use Rattle.sartrogheo.specs.Wholes.{sgh_read_message}
use Rattle.sartrogheo.specs.Indexes.{sgh_build_index, sgh_look_up}
use Rattle.sartrogheo.specs.Walks.{sgh_read_item, sgh_walk}
use Rattle.sartrogheo.specs.Losses.{sgh_next_loss, sgh_watch_slice, sgh_watch_end}

-- every public function: over its parameters, what its `ensures` allows. What is lent stands for what it holds at the call; each thing that may be written stands beside the number, the last one outermost
pub record Decided : Type 0 where
  pub sgh_decoder_new_claim : (bytes : List ℕ) (capacity way : ℕ) → One (λ (r : Beside ℕ (List ℕ)). reply r.answer (r.lent ∷ []) ≡ sgh_decoder_new bytes capacity way)
  pub sgh_push_byte_claim : (bytes buf : List ℕ) (byte : ℕ) (values : List ℕ)
      → One (λ (r : Beside (Beside (Beside ℕ (List ℕ)) (List ℕ)) (List ℕ)). reply r.answer.answer.answer (r.answer.answer.lent ∷ r.answer.lent ∷ r.lent ∷ []) ≡ sgh_push_byte bytes buf byte values)
  pub sgh_push_slice_claim : (bytes buf chunk : List ℕ) (taken : ℕ) (values : List ℕ)
      → One (λ (r : Beside (Beside (Beside (Beside ℕ (List ℕ)) (List ℕ)) ℕ) (List ℕ)). reply r.answer.answer.answer.answer (r.answer.answer.answer.lent ∷ r.answer.answer.lent ∷ (r.answer.lent ∷ []) ∷ r.lent ∷ []) ≡ sgh_push_slice bytes buf chunk values)
  pub sgh_payload_claim : (bytes buf : List ℕ) (len : ℕ) → One (λ (r : Beside ℕ ℕ). reply r.answer ((r.lent ∷ []) ∷ []) ≡ sgh_payload bytes buf)
  pub sgh_finalize_claim : (bytes values : List ℕ) → One (λ (r : Beside (Beside ℕ (List ℕ)) (List ℕ)). reply r.answer.answer (r.answer.lent ∷ r.lent ∷ []) ≡ sgh_finalize bytes values)
  pub sgh_reset_claim : (bytes values : List ℕ) → One (λ (r : Beside (Beside ℕ (List ℕ)) (List ℕ)). reply r.answer.answer (r.answer.lent ∷ r.lent ∷ []) ≡ sgh_reset bytes values)
  pub sgh_encode_claim : (payload out : List ℕ) (len : ℕ) → One (λ (r : Beside (Beside ℕ (List ℕ)) ℕ). reply r.answer.answer (r.answer.lent ∷ (r.lent ∷ []) ∷ []) ≡ sgh_encode payload out)
  pub sgh_encoder_new_claim : (encoder : List ℕ) → One (λ (r : List ℕ). r ≡ sgh_encoder_new)
  pub sgh_encoder_next_claim : (encoder payload : List ℕ) (byte : ℕ)
      → One (λ (r : Beside (Beside ℕ (List ℕ)) ℕ). reply r.answer.answer (r.answer.lent ∷ (r.lent ∷ []) ∷ []) ≡ sgh_encoder_next encoder payload byte)
  pub sgh_crc : (bytes : List ℕ) → One (λ (r : ℕ). r ≡ crc_of bytes)
  pub sgh_next_event_claim : (input reader event : List ℕ) → One (λ (r : Beside (Beside ℕ (List ℕ)) (List ℕ)). reply r.answer.answer (r.answer.lent ∷ r.lent ∷ []) ≡ sgh_next_event input reader)
  pub sgh_write_event_claim : (out strings event writer : List ℕ) → One (λ (r : Beside (Beside ℕ (List ℕ)) (List ℕ)). reply r.answer.answer (r.answer.lent ∷ r.lent ∷ []) ≡ sgh_write_event out strings event writer)
  pub sgh_read_message_claim : (input : List ℕ) (at : ℕ) (table message : List ℕ) → One (λ (r : Beside (Beside ℕ (List ℕ)) (List ℕ)). reply r.answer.answer (r.answer.lent ∷ r.lent ∷ []) ≡ sgh_read_message input at table)
  pub sgh_build_index_claim : (input : List ℕ) (at : ℕ) (table index : List ℕ) → One (λ (r : Beside (Beside ℕ (List ℕ)) (List ℕ)). reply r.answer.answer (r.answer.lent ∷ r.lent ∷ []) ≡ sgh_build_index input at table)
  pub sgh_look_up_claim : (input table name row : List ℕ) → One (λ (r : Beside ℕ (List ℕ)). reply r.answer (r.lent ∷ []) ≡ sgh_look_up input table name row)
  pub sgh_read_item_claim : (input : List ℕ) (at : ℕ) (item : List ℕ) → One (λ (r : Beside ℕ (List ℕ)). reply r.answer (r.lent ∷ []) ≡ sgh_read_item input at)
  pub sgh_walk_claim : (input : List ℕ) (at : ℕ) (element : List ℕ) → One (λ (r : Beside ℕ (List ℕ)). reply r.answer (r.lent ∷ []) ≡ sgh_walk input at)
  pub sgh_next_loss_claim : (recording : List ℕ) (way : ℕ) (buf : List ℕ) (from : ℕ) (loss : List ℕ)
      → One (λ (r : Beside (Beside ℕ (List ℕ)) (List ℕ)). reply r.answer.answer (r.answer.lent ∷ r.lent ∷ []) ≡ sgh_next_loss recording way buf from)
  pub sgh_watch_slice_claim : (bytes watch buf chunk : List ℕ) (taken : ℕ) (loss : List ℕ)
      → One (λ (r : Beside (Beside (Beside (Beside (Beside ℕ (List ℕ)) (List ℕ)) (List ℕ)) ℕ) (List ℕ)).
      reply r.answer.answer.answer.answer.answer (r.answer.answer.answer.answer.lent ∷ r.answer.answer.answer.lent ∷ r.answer.answer.lent ∷ (r.answer.lent ∷ []) ∷ r.lent ∷ []) ≡ sgh_watch_slice bytes watch buf chunk)
  pub sgh_watch_end_claim : (bytes watch loss : List ℕ)
      → One (λ (r : Beside (Beside (Beside ℕ (List ℕ)) (List ℕ)) (List ℕ)). reply r.answer.answer.answer (r.answer.answer.lent ∷ r.answer.lent ∷ r.lent ∷ []) ≡ sgh_watch_end bytes watch)
