-- check: fakes of a library, and which claim is false of each.
use Rattle.std.specs.Prelude.{cond, List, [], ◌∷◌, ℕ, ◌-◌, ◌%◌, length, set, replicate, eqb}
use Rattle.crc_x25.specs.Crc.{crc_of}
use Rattle.sartrogheo.specs.Calls.{Reply, reply, sgh_decoder_new, sgh_push_byte, sgh_push_slice, sgh_payload, sgh_finalize, sgh_reset, sgh_encode}
use Rattle.sartrogheo.specs.Streams.{sgh_encoder_new, sgh_encoder_next, sgh_next_event}
use Rattle.sartrogheo.specs.Writes.{sgh_write_event}
use Rattle.sartrogheo.specs.Wholes.{sgh_read_message}
use Rattle.walk.specs.Walk.{item_at}
use Rattle.sartrogheo.specs.Indexes.{sgh_build_index, sgh_look_up}
use Rattle.sartrogheo.specs.Walks.{item_no, item_words, sgh_read_item, sgh_walk}
use Rattle.sartrogheo.specs.Losses.{sgh_next_loss, sgh_watch_slice, sgh_watch_end}
use Rattle.words.specs.Back.{word_at}
use Rattle.marks.specs.Library.{Library, lent_at, first_at, HearsNew, HearsDecoder, HearsEncode, HearsEncoder, HearsReader, HearsWriter, HearsWhole, HearsIndex, HearsWalk, HearsLosses}

-- ours, but for the calls that make a decoder, push a slice, ask for the payload and finalize; or for those over frames and messages
abbrev pub with_decoder : (List ℕ → ℕ → ℕ → Reply) → (List ℕ → List ℕ → List ℕ → List ℕ → Reply) → (List ℕ → List ℕ → Reply) → (List ℕ → List ℕ → Reply) → Library
with_decoder new slice payload finalize =
    record {
      decoder_new = new;
      push_byte = sgh_push_byte;
      push_slice = slice;
      payload_len = payload;
      finalizes = finalize;
      resets = sgh_reset;
      encodes = sgh_encode;
      encoder_new = sgh_encoder_new;
      encoder_next = sgh_encoder_next;
      crc = crc_of;
      next_event = sgh_next_event;
      write_event = sgh_write_event;
      read_message = sgh_read_message;
      build_index = sgh_build_index;
      finds_row = sgh_look_up;
      read_item = sgh_read_item;
      walks_over = sgh_walk;
      loses_next = sgh_next_loss;
      watches_slice = sgh_watch_slice;
      watches_end = sgh_watch_end;
    }

abbrev pub with_messages : (List ℕ → List ℕ → Reply) → (List ℕ → List ℕ → ℕ → Reply) → (List ℕ → List ℕ → Reply) → (List ℕ → List ℕ → List ℕ → List ℕ → Reply) → Library
with_messages encode next event write =
    record {
      decoder_new = sgh_decoder_new;
      push_byte = sgh_push_byte;
      push_slice = sgh_push_slice;
      payload_len = sgh_payload;
      finalizes = sgh_finalize;
      resets = sgh_reset;
      encodes = encode;
      encoder_new = sgh_encoder_new;
      encoder_next = next;
      crc = crc_of;
      next_event = event;
      write_event = write;
      read_message = sgh_read_message;
      build_index = sgh_build_index;
      finds_row = sgh_look_up;
      read_item = sgh_read_item;
      walks_over = sgh_walk;
      loses_next = sgh_next_loss;
      watches_slice = sgh_watch_slice;
      watches_end = sgh_watch_end;
    }

abbrev pub with_frames : (List ℕ → List ℕ → Reply) → (List ℕ → List ℕ → ℕ → Reply) → (List ℕ → List ℕ → Reply) → Library
with_frames encode next event = with_messages encode next event sgh_write_event

-- makes a decoder, and says that it didn't
abbrev pub denies_new : Library
denies_new = with_decoder (λ l capacity way. reply 4 (lent_at (sgh_decoder_new l capacity way) 0 ∷ [])) sgh_push_slice sgh_payload sgh_finalize

-- finalize says 6 and leaves the values as they were
abbrev pub keeps_values : Library
keeps_values = with_decoder sgh_decoder_new sgh_push_slice sgh_payload (λ l v. reply (sgh_finalize l v).number (lent_at (sgh_finalize l v) 0 ∷ v ∷ []))

-- the payload is the whole buffer
abbrev pub hands_buffer : Library
hands_buffer = with_decoder sgh_decoder_new sgh_push_slice (λ l m. reply 0 ((length m ∷ []) ∷ [])) sgh_finalize

-- a payload always stands there, an empty one too
abbrev pub pays_always : Library
pays_always = with_decoder sgh_decoder_new sgh_push_slice (λ l m. reply 0 (lent_at (sgh_payload l m) 0 ∷ [])) sgh_finalize

-- a slice doesn't count its last byte as taken
abbrev pub leaves_last : Library
leaves_last =
    with_decoder sgh_decoder_new (λ l m chunk v. (let r : Reply = sgh_push_slice l m chunk v in reply r.number (lent_at r 0 ∷ lent_at r 1 ∷ ((first_at r 2 - 1) ∷ []) ∷ lent_at r 3 ∷ []))) sgh_payload sgh_finalize

-- a slice is answered rightly, and the decoder stays as it was
abbrev pub forgets_slice : Library
forgets_slice =
    with_decoder sgh_decoder_new (λ l m chunk v. (let r : Reply = sgh_push_slice l m chunk v in reply r.number (l ∷ lent_at r 1 ∷ lent_at r 2 ∷ lent_at r 3 ∷ []))) sgh_payload sgh_finalize

-- encode does nothing, and says that all is good
abbrev pub encodes_nothing : Library
encodes_nothing = with_frames (λ p out. reply 0 (out ∷ (0 ∷ []) ∷ [])) sgh_encoder_next sgh_next_event

-- an Encoder whose numbers stay as they were
abbrev pub forgets_count : Library
forgets_count = with_frames sgh_encode (λ w p old. reply (sgh_encoder_next w p old).number (w ∷ lent_at (sgh_encoder_next w p old) 1 ∷ [])) sgh_next_event

-- a refusal without its place
abbrev pub loses_place : Library
loses_place = with_frames sgh_encode sgh_encoder_next (λ s r. reply (sgh_next_event s r).number (lent_at (sgh_next_event s r) 0 ∷ set (lent_at (sgh_next_event s r) 1) 3 0 ∷ []))

-- a scaler of eight bits, whose sign is lost in 64
abbrev pub loses_sign : Library
loses_sign = with_frames sgh_encode sgh_encoder_next (λ s r. reply (sgh_next_event s r).number (lent_at (sgh_next_event s r) 0 ∷ set (lent_at (sgh_next_event s r) 1) 11 (word_at (lent_at (sgh_next_event s r) 1) 11 % 256) ∷ []))

-- an entry whose kind is left out
abbrev pub loses_kind : Library
loses_kind = with_frames sgh_encode sgh_encoder_next (λ s r. reply (sgh_next_event s r).number (lent_at (sgh_next_event s r) 0 ∷ set (lent_at (sgh_next_event s r) 1) 0 0 ∷ []))

-- what is written stands there, and the writer stays where it was
abbrev pub forgets_place : Library
forgets_place = with_messages sgh_encode sgh_encoder_next sgh_next_event (λ out strings e w. reply (sgh_write_event out strings e w).number (lent_at (sgh_write_event out strings e w) 0 ∷ w ∷ []))

-- an ended writer whose other numbers are left as they were
abbrev pub leaves_numbers : Library
leaves_numbers = with_messages sgh_encode sgh_encoder_next sgh_next_event (λ out strings e w.
    let r : Reply = sgh_write_event out strings e w in
    reply r.number (lent_at r 0 ∷ (word_at (lent_at r 1) 0 ∷ word_at (lent_at r 1) 1 ∷ word_at w 2 ∷ word_at w 3 ∷ []) ∷ []))

-- an event that is none is taken for one that is not due
abbrev pub mistakes_words : Library
mistakes_words = with_messages sgh_encode sgh_encoder_next sgh_next_event (λ out strings e w. reply 17 (out ∷ w ∷ []))

-- ours, but for the calls that read a whole message, build an index, and look a name up
abbrev pub with_tables : (List ℕ → ℕ → List ℕ → Reply) → (List ℕ → ℕ → List ℕ → Reply) → (List ℕ → List ℕ → List ℕ → List ℕ → Reply) → Library
with_tables read build find =
    record {
      decoder_new = sgh_decoder_new;
      push_byte = sgh_push_byte;
      push_slice = sgh_push_slice;
      payload_len = sgh_payload;
      finalizes = sgh_finalize;
      resets = sgh_reset;
      encodes = sgh_encode;
      encoder_new = sgh_encoder_new;
      encoder_next = sgh_encoder_next;
      crc = crc_of;
      next_event = sgh_next_event;
      write_event = sgh_write_event;
      read_message = read;
      build_index = build;
      finds_row = find;
      read_item = sgh_read_item;
      walks_over = sgh_walk;
      loses_next = sgh_next_loss;
      watches_slice = sgh_watch_slice;
      watches_end = sgh_watch_end;
    }

abbrev pub with_whole : (List ℕ → ℕ → List ℕ → Reply) → Library
with_whole read = with_tables read sgh_build_index sgh_look_up

-- the table in its reply, and the words
abbrev pub words_by : (List ℕ → List ℕ) → Reply → Reply
words_by f r = reply r.number (lent_at r 0 ∷ f (lent_at r 1) ∷ [])

-- a refusal's place is 0
abbrev pub places_at_zero : Library
places_at_zero = with_whole (λ s at t. words_by (λ w. set w 3 0) (sgh_read_message s at t))

-- the place where it was asked, in place of the one behind the message
abbrev pub next_untold : Library
next_untold = with_whole (λ s at t. words_by (λ w. set w 49 at) (sgh_read_message s at t))

-- the words of the end are left as 1
abbrev pub end_left : Library
end_left = with_whole (λ s at t. words_by (λ w. set w 47 1) (sgh_read_message s at t))

-- of an index's refusal the number is told, and not its place
abbrev pub index_place_lost : Library
index_place_lost = with_tables sgh_read_message (λ s at t. words_by (λ w. set w 4 0) (sgh_build_index s at t)) sgh_look_up

-- behind a refusal the table holds zeros
abbrev pub index_clears : Library
index_clears = with_tables sgh_read_message (λ s at t. let r : Reply = sgh_build_index s at t in reply r.number (cond (eqb r.number 0) (lent_at r 0) (replicate (length t) 0) ∷ lent_at r 1 ∷ [])) sgh_look_up

-- behind a refusal the number of rows is 1
abbrev pub rows_left : Library
rows_left = with_tables sgh_read_message (λ s at t. words_by (λ w. cond (eqb (word_at w 2) 0) w (set w 0 1)) (sgh_build_index s at t)) sgh_look_up

-- none is told as a row of zeros
abbrev pub none_is_zeros : Library
none_is_zeros = with_tables sgh_read_message sgh_build_index (λ s t name row. let r : Reply = sgh_look_up s t name row in cond (eqb r.number 102) (reply 0 ((0 ∷ 0 ∷ 0 ∷ 0 ∷ []) ∷ [])) r)

-- the entry is told alone, and the name's place left
abbrev pub name_left : Library
name_left = with_tables sgh_read_message sgh_build_index (λ s t name row. let r : Reply = sgh_look_up s t name row in reply r.number ((word_at row 0 ∷ word_at row 1 ∷ word_at (lent_at r 0) 2 ∷ word_at (lent_at r 0) 3 ∷ []) ∷ []))

-- a row that isn't found is cleared
abbrev pub row_cleared : Library
row_cleared = with_tables sgh_read_message sgh_build_index (λ s t name row. let r : Reply = sgh_look_up s t name row in reply r.number (cond (eqb r.number 0) (lent_at r 0) (0 ∷ 0 ∷ 0 ∷ 0 ∷ []) ∷ []))

-- ours, but for the calls for any content
abbrev pub with_content : (List ℕ → ℕ → Reply) → (List ℕ → ℕ → Reply) → Library
with_content item walk =
    record {
      decoder_new = sgh_decoder_new;
      push_byte = sgh_push_byte;
      push_slice = sgh_push_slice;
      payload_len = sgh_payload;
      finalizes = sgh_finalize;
      resets = sgh_reset;
      encodes = sgh_encode;
      encoder_new = sgh_encoder_new;
      encoder_next = sgh_encoder_next;
      crc = crc_of;
      next_event = sgh_next_event;
      write_event = sgh_write_event;
      read_message = sgh_read_message;
      build_index = sgh_build_index;
      finds_row = sgh_look_up;
      read_item = item;
      walks_over = walk;
      loses_next = sgh_next_loss;
      watches_slice = sgh_watch_slice;
      watches_end = sgh_watch_end;
    }

-- the words in its reply
abbrev pub only_words_by : (List ℕ → List ℕ) → Reply → Reply
only_words_by f r = reply r.number (f (lent_at r 0) ∷ [])

-- of a walk's refusal the number is told, and not its place
abbrev pub walk_place_lost : Library
walk_place_lost = with_content sgh_read_item (λ s at. only_words_by (λ w. set w 4 0) (sgh_walk s at))

-- behind a refusal the bytes that were lent are told
abbrev pub walk_bytes_left : Library
walk_bytes_left = with_content sgh_read_item (λ s at. only_words_by (λ w. cond (eqb (word_at w 2) 0) w (set w 0 (length s))) (sgh_walk s at))

-- every leaf is a string
abbrev pub item_type_lost : Library
item_type_lost = with_content (λ s at. only_words_by (λ w. set w 1 0) (sgh_read_item s at)) sgh_walk

-- an input that is too long is read too
abbrev pub item_of_any_length : Library
item_of_any_length = with_content (λ s at. reply (item_no (item_at s at)) (item_words (item_at s at) ∷ [])) sgh_walk

-- ours, but for the calls for lost bytes
abbrev pub with_losses : (List ℕ → ℕ → List ℕ → ℕ → Reply) → (List ℕ → List ℕ → List ℕ → List ℕ → Reply) → Library
with_losses next slice =
    record {
      decoder_new = sgh_decoder_new;
      push_byte = sgh_push_byte;
      push_slice = sgh_push_slice;
      payload_len = sgh_payload;
      finalizes = sgh_finalize;
      resets = sgh_reset;
      encodes = sgh_encode;
      encoder_new = sgh_encoder_new;
      encoder_next = sgh_encoder_next;
      crc = crc_of;
      next_event = sgh_next_event;
      write_event = sgh_write_event;
      read_message = sgh_read_message;
      build_index = sgh_build_index;
      finds_row = sgh_look_up;
      read_item = sgh_read_item;
      walks_over = sgh_walk;
      loses_next = next;
      watches_slice = slice;
      watches_end = sgh_watch_end;
    }

-- causes are counted from 1 to 9, and told by that number
abbrev pub cause_counted : ℕ → ℕ
cause_counted bits = cond (eqb bits 4) 3 (cond (eqb bits 8) 4 (cond (eqb bits 16) 5 (cond (eqb bits 32) 6 (cond (eqb bits 64) 7 (cond (eqb bits 128) 8 (cond (eqb bits 256) 9 bits))))))

abbrev pub causes_counted : Library
causes_counted = with_losses (λ r way m from. words_by (λ w. set w 0 (cause_counted (word_at w 0))) (sgh_next_loss r way m from)) sgh_watch_slice

-- bytes are counted from 0
abbrev pub losses_from_zero : Library
losses_from_zero = with_losses (λ r way m from. words_by (λ w. set (set w 1 (word_at w 1 - 1)) 2 (word_at w 2 - 1)) (sgh_next_loss r way m from)) sgh_watch_slice

-- first and last are told in the other order
abbrev pub losses_swapped : Library
losses_swapped = with_losses (λ r way m from. words_by (λ w. set (set w 1 (word_at w 2)) 2 (word_at w 1)) (sgh_next_loss r way m from)) sgh_watch_slice

-- a slice is answered rightly, and the watch stays as it was
abbrev pub forgets_watch : Library
forgets_watch = with_losses sgh_next_loss (λ l v m chunk. let r : Reply = sgh_watch_slice l v m chunk in reply r.number (lent_at r 0 ∷ v ∷ lent_at r 2 ∷ lent_at r 3 ∷ lent_at r 4 ∷ []))

pub record FallLibraries : Type 0 where
  pub denies_new_claim : HearsNew denies_new → ⊥
  pub keeps_values_claim : HearsDecoder keeps_values → ⊥
  pub hands_buffer_claim : HearsDecoder hands_buffer → ⊥
  pub pays_always_claim : HearsDecoder pays_always → ⊥
  pub leaves_last_claim : HearsDecoder leaves_last → ⊥
  pub slice_forgets : HearsDecoder forgets_slice → ⊥
  pub encodes_nothing_claim : HearsEncode encodes_nothing → ⊥
  pub forgets_count_claim : HearsEncoder forgets_count → ⊥
  pub loses_place_claim : HearsReader loses_place → ⊥
  pub loses_sign_claim : HearsReader loses_sign → ⊥
  pub loses_kind_claim : HearsReader loses_kind → ⊥
  pub forgets_place_claim : HearsWriter forgets_place → ⊥
  pub leaves_numbers_claim : HearsWriter leaves_numbers → ⊥
  pub mistakes_words_claim : HearsWriter mistakes_words → ⊥
  pub places_at_zero_claim : HearsWhole places_at_zero → ⊥
  pub next_untold_claim : HearsWhole next_untold → ⊥
  pub end_left_claim : HearsWhole end_left → ⊥
  pub index_place_lost_claim : HearsIndex index_place_lost → ⊥
  pub index_clears_claim : HearsIndex index_clears → ⊥
  pub rows_left_claim : HearsIndex rows_left → ⊥
  pub none_is_zeros_claim : HearsIndex none_is_zeros → ⊥
  pub name_left_claim : HearsIndex name_left → ⊥
  pub row_cleared_claim : HearsIndex row_cleared → ⊥
  pub walk_place_lost_claim : HearsWalk walk_place_lost → ⊥
  pub walk_bytes_left_claim : HearsWalk walk_bytes_left → ⊥
  pub item_type_lost_claim : HearsWalk item_type_lost → ⊥
  pub item_of_any_length_claim : HearsWalk item_of_any_length → ⊥
  pub causes_counted_claim : HearsLosses causes_counted → ⊥
  pub losses_from_zero_claim : HearsLosses losses_from_zero → ⊥
  pub losses_swapped_claim : HearsLosses losses_swapped → ⊥
  pub forgets_watch_claim : HearsLosses forgets_watch → ⊥
