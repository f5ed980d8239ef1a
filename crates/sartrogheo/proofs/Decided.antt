-- A reply is one number, and one content of each thing that a call may write.
use mathlib.Core.Path.{◌≡◌, sym, ap, ◌∙◌}
use mathlib.Core.List.{List, [], ◌∷◌}
use Prim.Native.Nat.{ℕ}
use lib.ListN.{get_or}
use Rattle.decided.specs.One.{One, Beside}
use Rattle.sartrogheo.specs.Calls.{Reply, reply}
use Rattle.sartrogheo.specs.Decided.{Decided}

equal : {R : Type 0} (x : R) → One (λ (r : R). r ≡ x)
equal x r r' h h' = h ∙ sym h'

-- the content of the thing at place i, and of a single number there
lent_at_lem : ℕ → Reply → List ℕ
lent_at_lem i x = get_or x.lent i []

single : ℕ → Reply → ℕ
single i x = get_or (lent_at_lem i x) 0 0

number_of : Reply → ℕ
number_of x = x.number

module _ (x : Reply) where
  one_list : One (λ (r : Beside ℕ (List ℕ)). reply r.answer (r.lent ∷ []) ≡ x)
  unfolding lent_at_lem number_of
  one_list r r' h h' = λ i. record { answer = ap number_of (h ∙ sym h') i; lent = ap (lent_at_lem 0) (h ∙ sym h') i }

  one_number : One (λ (r : Beside ℕ ℕ). reply r.answer ((r.lent ∷ []) ∷ []) ≡ x)
  unfolding lent_at_lem single number_of
  one_number r r' h h' = λ i. record { answer = ap number_of (h ∙ sym h') i; lent = ap (single 0) (h ∙ sym h') i }

  two_lists : One (λ (r : Beside (Beside ℕ (List ℕ)) (List ℕ)). reply r.answer.answer (r.answer.lent ∷ r.lent ∷ []) ≡ x)
  unfolding lent_at_lem number_of
  two_lists r r' h h' = λ i. record { answer = record { answer = ap number_of (h ∙ sym h') i; lent = ap (lent_at_lem 0) (h ∙ sym h') i }; lent = ap (lent_at_lem 1) (h ∙ sym h') i }

  list_number : One (λ (r : Beside (Beside ℕ (List ℕ)) ℕ). reply r.answer.answer (r.answer.lent ∷ (r.lent ∷ []) ∷ []) ≡ x)
  unfolding lent_at_lem single number_of
  list_number r r' h h' = λ i. record { answer = record { answer = ap number_of (h ∙ sym h') i; lent = ap (lent_at_lem 0) (h ∙ sym h') i }; lent = ap (single 1) (h ∙ sym h') i }

  three_lists : One (λ (r : Beside (Beside (Beside ℕ (List ℕ)) (List ℕ)) (List ℕ)). reply r.answer.answer.answer (r.answer.answer.lent ∷ r.answer.lent ∷ r.lent ∷ []) ≡ x)
  unfolding lent_at_lem number_of
  three_lists r r' h h' = λ i.
      record {
        answer = record { answer = record { answer = ap number_of (h ∙ sym h') i; lent = ap (lent_at_lem 0) (h ∙ sym h') i }; lent = ap (lent_at_lem 1) (h ∙ sym h') i };
        lent = ap (lent_at_lem 2) (h ∙ sym h') i;
      }

  slice_told_all : One (λ (r : Beside (Beside (Beside (Beside ℕ (List ℕ)) (List ℕ)) ℕ) (List ℕ)). reply r.answer.answer.answer.answer (r.answer.answer.answer.lent ∷ r.answer.answer.lent ∷ (r.answer.lent ∷ []) ∷ r.lent ∷ []) ≡ x)
  unfolding lent_at_lem single number_of
  slice_told_all r r' h h' = λ i.
      record {
        answer =
            record {
              answer = record { answer = record { answer = ap number_of (h ∙ sym h') i; lent = ap (lent_at_lem 0) (h ∙ sym h') i }; lent = ap (lent_at_lem 1) (h ∙ sym h') i };
              lent = ap (single 2) (h ∙ sym h') i;
            };
        lent = ap (lent_at_lem 3) (h ∙ sym h') i;
      }

  watch_told_all : One (λ (r : Beside (Beside (Beside (Beside (Beside ℕ (List ℕ)) (List ℕ)) (List ℕ)) ℕ) (List ℕ)).
      reply r.answer.answer.answer.answer.answer (r.answer.answer.answer.answer.lent ∷ r.answer.answer.answer.lent ∷ r.answer.answer.lent ∷ (r.answer.lent ∷ []) ∷ r.lent ∷ []) ≡ x)
  unfolding lent_at_lem single number_of
  watch_told_all r r' h h' = λ i.
      record {
        answer =
            record {
              answer =
                  record {
                    answer = record { answer = record { answer = ap number_of (h ∙ sym h') i; lent = ap (lent_at_lem 0) (h ∙ sym h') i }; lent = ap (lent_at_lem 1) (h ∙ sym h') i };
                    lent = ap (lent_at_lem 2) (h ∙ sym h') i;
                  };
              lent = ap (single 3) (h ∙ sym h') i;
            };
        lent = ap (lent_at_lem 4) (h ∙ sym h') i;
      }

pub decided : Decided
decided =
    record {
      sgh_decoder_new_claim = λ bytes capacity way. one_list _;
      sgh_push_byte_claim = λ bytes buf byte values. three_lists _;
      sgh_push_slice_claim = λ bytes buf chunk taken values. slice_told_all _;
      sgh_payload_claim = λ bytes buf len. one_number _;
      sgh_finalize_claim = λ bytes values. two_lists _;
      sgh_reset_claim = λ bytes values. two_lists _;
      sgh_encode_claim = λ payload out len. list_number _;
      sgh_encoder_new_claim = λ encoder. equal _;
      sgh_encoder_next_claim = λ encoder payload byte. list_number _;
      sgh_crc = λ bytes. equal _;
      sgh_next_event_claim = λ input reader event. two_lists _;
      sgh_write_event_claim = λ out strings event writer. two_lists _;
      sgh_read_message_claim = λ input at table message. two_lists _;
      sgh_build_index_claim = λ input at table index. two_lists _;
      sgh_look_up_claim = λ input table name row. one_list _;
      sgh_read_item_claim = λ input at item. one_list _;
      sgh_walk_claim = λ input at element. one_list _;
      sgh_next_loss_claim = λ recording way buf from loss. two_lists _;
      sgh_watch_slice_claim = λ bytes watch buf chunk taken loss. watch_told_all _;
      sgh_watch_end_claim = λ bytes watch loss. three_lists _;
    }
