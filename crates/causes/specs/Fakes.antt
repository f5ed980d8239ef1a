-- check: tools that name losses, and watchers, that are wrong in one way each; a claim is false of each.
use Rattle.std.specs.Prelude.{◌≡◌, Bool, true, false, cond, not, ◌&&◌, ◌||◌, List, [], ◌∷◌, ◌++◌, ℕ, suc, ◌+◌, ◌-◌, ◌%◌, length, take, drop, get_or, replicate, eqb, ltb}
use Rattle.refusals.specs.Numbers.{bad_state_no, wrong_buffer_no, discarded_bytes_no, invalid_esc_no, invalid_message_no, decoder_out_of_memory_no, limit}
use Rattle.decoder.specs.Push.{first_way, second_way, in_way}
use Rattle.decoder.specs.Record.{DecoderAnswer, nothing, payload, count, refusal, After, new_record, unknown_way, bad_decoder, wrong_buffer, push_record, finalize_record}
use Rattle.decoder.specs.declared.DecodeState.{DecodeState}
use Rattle.decoder.specs.declared.DecodeState.TheVariants.{LookingForMessageStart, ParsingNormal, ParsingEscChars, ParsingEscPayload, Done}
use Rattle.decoder.specs.declared.Decoder.{Decoder}
use Rattle.decoder_slice.specs.Slice.{says_nothing}
use Rattle.losses.specs.Loss.{begins_in_start, has_start, wrong_pads, cause_of, piece_of, LossSaid, lost_is, none_lost, loss_refused, LossAfter, loss_after, is_refusal, hands_out, next_loss}
use Rattle.losses.specs.Watch.{look, look_behind, watched, watch_new, WatchSaid, quietly, kept_over, lost_over, watch_refused, WatchAfter, watch_after, over_of, moved_on, sight_at, bad_watch, watch_slice, watch_end}
use Rattle.losses.specs.declared.Cause.{Cause}
use Rattle.losses.specs.declared.Cause.TheVariants.{Noise, Unfinished, Hidden, Cut, UnknownEscape, NoRoom, Invalid}
use Rattle.losses.specs.declared.Loss.{Loss}
use Rattle.losses.specs.declared.Look.{Look}
use Rattle.losses.specs.declared.Watch.{Watch}
use Rattle.causes.specs.Tools.{Tool, RefusesWayFirst, RefusesTooLarge, AccountsExactly, LeavesPushes, buffer_behind}
use Rattle.causes.specs.Watchers.{Watcher, WatchesAsCalled, RefusesAtSlices}

-- ---- the next loss with other rules

pub record LossRules : Type 0 where
  -- the place before the first search, by where the call begins
  pub begins : ℕ → ℕ
  -- an answer of a push, and one of finalize, that is told as a loss
  pub tells_push : DecoderAnswer → Bool
  pub tells_end : DecoderAnswer → Bool
  -- was a frame running? By the bytes before the one that brought the answer, and the decoder behind it
  pub running : List ℕ → Decoder → Bool
  -- the piece of the bytes since the search or frame began, at a push, and at finalize
  pub piece : DecoderAnswer → List ℕ → List ℕ
  pub piece_at_end : List ℕ → List ℕ
  -- where a whole start is looked for, of these bytes and the piece
  pub sought : List ℕ → List ℕ → List ℕ
  -- the cause: at the end? in a frame? does a start lie in the piece? the piece's length, the answer
  pub cause : Bool → Bool → Bool → ℕ → DecoderAnswer → Cause
  -- its first place by whether a frame was running and how many bytes stand before it; its last one: at the end? the answer, the bytes before, the piece's length
  pub first : Bool → ℕ → ℕ
  pub last : Bool → DecoderAnswer → ℕ → ℕ → ℕ
  -- how many bytes stand before the next search, behind a frame of so many bytes
  pub behind_frame : ℕ → ℕ → ℕ

abbrev pub lost_by : LossRules → Bool → Bool → DecoderAnswer → ℕ → List ℕ → List ℕ → Loss
lost_by R at_end running a begun g piece =
    record {
      cause = R.cause at_end running (has_start (R.sought g piece)) (length piece) a;
      first = R.first running begun;
      last = R.last at_end a begun (length piece);
    }

unfoldable pub loss_behind_by : LossRules → Decoder → List ℕ → ℕ → List ℕ → List ℕ → LossAfter
loss_behind_by R d m begun h [] =
    let a : DecoderAnswer = (finalize_record d).answer in
    loss_after (cond (R.tells_end a) (lost_is (lost_by R true (R.running h (finalize_record d).decoder) a begun h (R.piece_at_end h))) none_lost) m
loss_behind_by R d m begun h (b ∷ bytes) =
    let a : After = push_record d m b in
    let g : List ℕ = h ++ b ∷ [] in
    cond (R.tells_push a.answer) (loss_after (lost_is (lost_by R false (R.running h a.decoder) a.answer begun g (R.piece a.answer g))) a.memory)
    (cond (hands_out a.answer) (loss_behind_by R a.decoder a.memory (R.behind_frame begun (length g)) [] bytes) (loss_behind_by R a.decoder a.memory begun g bytes))

-- with what is refused before all else, by the way and the buffer
abbrev pub loss_by : (ℕ → List ℕ → LossAfter → LossAfter) → LossRules → Tool
loss_by checks R recording way m from = checks way m (loss_behind_by R (new_record (in_way way (length m))) m (R.begins from) [] (drop from recording))

-- ---- ours

-- 4 for the way; 5 for the buffer
abbrev pub way_checked : ℕ → List ℕ → LossAfter → LossAfter
way_checked way m a = cond (unknown_way way) (loss_after (loss_refused bad_state_no) m) a

abbrev pub length_checked : ℕ → List ℕ → LossAfter → LossAfter
length_checked way m a = cond (ltb limit (length m)) (loss_after (loss_refused wrong_buffer_no) m) a

abbrev pub both_checked : ℕ → List ℕ → LossAfter → LossAfter
both_checked way m a = way_checked way m (length_checked way m a)

abbrev pub as_it_came : List ℕ → List ℕ
as_it_came l = l

abbrev pub of_the_piece : List ℕ → List ℕ → List ℕ
of_the_piece g piece = piece

abbrev pub began_as_frame : List ℕ → Decoder → Bool
began_as_frame h d = begins_in_start h

abbrev pub first_place : Bool → ℕ → ℕ
first_place running begun = suc begun

abbrev pub last_place : Bool → DecoderAnswer → ℕ → ℕ → ℕ
last_place at_end a begun long = begun + long

abbrev pub passed_on : ℕ → ℕ → ℕ
passed_on begun long = begun + long

abbrev pub the_call : ℕ → ℕ
the_call from = from

abbrev pub our_loss_rules : LossRules
our_loss_rules =
    record {
      begins = the_call;
      tells_push = is_refusal;
      tells_end = is_refusal;
      running = began_as_frame;
      piece = piece_of;
      piece_at_end = as_it_came;
      sought = of_the_piece;
      cause = cause_of;
      first = first_place;
      last = last_place;
      behind_frame = passed_on;
    }

-- ---- ours, but for one part

abbrev pub by_checks : (ℕ → List ℕ → LossAfter → LossAfter) → Tool
by_checks checks = loss_by checks our_loss_rules

abbrev pub by_places : (ℕ → ℕ) → (Bool → ℕ → ℕ) → (Bool → DecoderAnswer → ℕ → ℕ → ℕ) → (ℕ → ℕ → ℕ) → Tool
by_places begins first last behind_frame = loss_by both_checked (record { begins = begins; tells_push = is_refusal; tells_end = is_refusal; running = began_as_frame; piece = piece_of; piece_at_end = as_it_came; sought = of_the_piece; cause = cause_of; first = first; last = last; behind_frame = behind_frame })

abbrev pub by_telling : (DecoderAnswer → Bool) → (DecoderAnswer → Bool) → Tool
by_telling tells_push tells_end = loss_by both_checked (record { begins = the_call; tells_push = tells_push; tells_end = tells_end; running = began_as_frame; piece = piece_of; piece_at_end = as_it_came; sought = of_the_piece; cause = cause_of; first = first_place; last = last_place; behind_frame = passed_on })

abbrev pub by_pieces : (DecoderAnswer → List ℕ → List ℕ) → (List ℕ → List ℕ) → Tool
by_pieces piece piece_at_end = loss_by both_checked (record { begins = the_call; tells_push = is_refusal; tells_end = is_refusal; running = began_as_frame; piece = piece; piece_at_end = piece_at_end; sought = of_the_piece; cause = cause_of; first = first_place; last = last_place; behind_frame = passed_on })

abbrev pub by_sight : (List ℕ → Decoder → Bool) → (List ℕ → List ℕ → List ℕ) → Tool
by_sight running sought = loss_by both_checked (record { begins = the_call; tells_push = is_refusal; tells_end = is_refusal; running = running; piece = piece_of; piece_at_end = as_it_came; sought = sought; cause = cause_of; first = first_place; last = last_place; behind_frame = passed_on })

abbrev pub by_cause : (Bool → Bool → Bool → ℕ → DecoderAnswer → Cause) → Tool
by_cause cause = loss_by both_checked (record { begins = the_call; tells_push = is_refusal; tells_end = is_refusal; running = began_as_frame; piece = piece_of; piece_at_end = as_it_came; sought = of_the_piece; cause = cause; first = first_place; last = last_place; behind_frame = passed_on })

-- ---- hidden starts

-- the new start's eight bytes are looked at too, so that everything before a start is hidden
abbrev pub of_all_bytes : List ℕ → List ℕ → List ℕ
of_all_bytes g piece = g

abbrev pub hidden_in_the_new_start : Tool
hidden_in_the_new_start = by_sight began_as_frame of_all_bytes

-- the same in the second way alone: what stands before a start that is found is hidden there
abbrev pub hidden_in_the_second_way : Tool
hidden_in_the_second_way recording way = cond (eqb way second_way) (hidden_in_the_new_start recording way) (next_loss recording way)

-- a start that lies in a frame's own piece, as its first bytes do, is hidden
abbrev pub hides_first : Bool → Bool → Bool → ℕ → DecoderAnswer → Cause
hides_first at_end running hides long a = cause_of at_end (running && not hides) hides long a

abbrev pub frames_are_hidden : Tool
frames_are_hidden = by_cause hides_first

-- ---- causes

-- ours, but for one cause that is told as another
abbrev pub noise_for_cut : Cause → Cause
noise_for_cut Cut = Noise
noise_for_cut Noise = Noise
noise_for_cut Unfinished = Unfinished
noise_for_cut Hidden = Hidden
noise_for_cut UnknownEscape = UnknownEscape
noise_for_cut NoRoom = NoRoom
noise_for_cut (Invalid crc misaligned pads) = Invalid crc misaligned pads

abbrev pub for_unfinished : Cause → Cause → Cause
for_unfinished other Unfinished = other
for_unfinished other Cut = Cut
for_unfinished other Noise = Noise
for_unfinished other Hidden = Hidden
for_unfinished other UnknownEscape = UnknownEscape
for_unfinished other NoRoom = NoRoom
for_unfinished other (Invalid crc misaligned pads) = Invalid crc misaligned pads

abbrev pub unfinished_for_room : Cause → Cause
unfinished_for_room NoRoom = Unfinished
unfinished_for_room Unfinished = Unfinished
unfinished_for_room Cut = Cut
unfinished_for_room Noise = Noise
unfinished_for_room Hidden = Hidden
unfinished_for_room UnknownEscape = UnknownEscape
unfinished_for_room (Invalid crc misaligned pads) = Invalid crc misaligned pads

abbrev pub renamed : (Cause → Cause) → Tool
renamed other = by_cause (λ at_end running hides long a. other (cause_of at_end running hides long a))

abbrev pub cut_told_as_noise : Tool
cut_told_as_noise = renamed noise_for_cut

abbrev pub unfinished_told_as_cut : Tool
unfinished_told_as_cut = renamed (for_unfinished Cut)

abbrev pub unfinished_told_as_noise : Tool
unfinished_told_as_noise = renamed (for_unfinished Noise)

abbrev pub room_told_as_unfinished : Tool
room_told_as_unfinished = renamed unfinished_for_room

-- every piece is noise
abbrev pub only_noise : Cause → Cause
only_noise c = Noise

abbrev pub always_noise : Tool
always_noise = renamed only_noise

-- whether a frame was running is asked of the state behind the answer
abbrev pub in_a_frame : DecodeState → Bool
in_a_frame (LookingForMessageStart n noise) = false
in_a_frame ParsingNormal = true
in_a_frame (ParsingEscChars n) = true
in_a_frame (ParsingEscPayload k) = true
in_a_frame Done = false

abbrev pub runs_behind : List ℕ → Decoder → Bool
runs_behind h d = in_a_frame d.state

abbrev pub cause_of_the_new_state : Tool
cause_of_the_new_state = by_sight runs_behind of_the_piece

-- ---- the three causes of an end sequence

-- of several only the first is named
abbrev pub only_its_first : Cause → Cause
only_its_first (Invalid crc misaligned pads) = Invalid crc (misaligned && not crc) (pads && not (crc || misaligned))
only_its_first NoRoom = NoRoom
only_its_first Unfinished = Unfinished
only_its_first Cut = Cut
only_its_first Noise = Noise
only_its_first Hidden = Hidden
only_its_first UnknownEscape = UnknownEscape

abbrev pub first_cause_only : Tool
first_cause_only = renamed only_its_first

-- the CRC is named with each of them
abbrev pub with_crc : Cause → Cause
with_crc (Invalid crc misaligned pads) = Invalid true misaligned pads
with_crc NoRoom = NoRoom
with_crc Unfinished = Unfinished
with_crc Cut = Cut
with_crc Noise = Noise
with_crc Hidden = Hidden
with_crc UnknownEscape = UnknownEscape

abbrev pub crc_always_named : Tool
crc_always_named = renamed with_crc

-- ours, but for how alignment and pads are judged, by the piece's length and the pad count
abbrev pub judged_by : (ℕ → List ℕ → Bool) → (ℕ → ℕ → Bool) → Bool → Bool → Bool → ℕ → DecoderAnswer → Cause
judged_by misaligned pads at_end running hides long nothing = Noise
judged_by misaligned pads at_end running hides long (payload bytes) = Noise
judged_by misaligned pads at_end running hides long (count k) = Noise
judged_by misaligned pads at_end running hides long (refusal k v) =
    cond (eqb k invalid_message_no) (Invalid (not (eqb (get_or v 0 0) (get_or v 1 0))) (misaligned long v) (pads long (get_or v 3 0))) (cause_of at_end running hides long (refusal k v))

abbrev pub says_misaligned : ℕ → List ℕ → Bool
says_misaligned long v = eqb (get_or v 2 0) 1

-- pads are wrong over three alone
abbrev pub over_three_alone : ℕ → ℕ → Bool
over_three_alone long p = ltb 3 p

abbrev pub pads_over_three_only : Tool
pads_over_three_only = by_cause (judged_by says_misaligned over_three_alone)

-- or over the piece's length, start and end sequence counted as data
abbrev pub over_the_piece : ℕ → ℕ → Bool
over_the_piece long p = ltb 3 p || ltb long p

abbrev pub pads_of_the_piece : Tool
pads_of_the_piece = by_cause (judged_by says_misaligned over_the_piece)

-- the payload must be a multiple of four, its pads taken off
abbrev pub off_without_pads : ℕ → List ℕ → Bool
off_without_pads long v = not (eqb ((long - get_or v 3 0) % 4) 0)

abbrev pub aligned_without_pads : Tool
aligned_without_pads = by_cause (judged_by off_without_pads wrong_pads)

-- ---- places

-- a frame's piece begins behind its start sequence
abbrev pub behind_its_start : Bool → ℕ → ℕ
behind_its_start running begun = cond running (begun + 9) (suc begun)

abbrev pub frame_from_its_ninth_byte : Tool
frame_from_its_ninth_byte = by_places the_call behind_its_start last_place passed_on

-- a piece ends with the start that ends it
abbrev pub is_dropped : DecoderAnswer → Bool
is_dropped nothing = false
is_dropped (payload bytes) = false
is_dropped (count k) = false
is_dropped (refusal k v) = eqb k discarded_bytes_no

abbrev pub start_ends_it : Bool → DecoderAnswer → ℕ → ℕ → ℕ
start_ends_it at_end a begun long = begun + long + cond (is_dropped a && not at_end) 8 0

abbrev pub last_with_the_new_start : Tool
last_with_the_new_start = by_places the_call first_place start_ends_it passed_on

-- bytes are counted from 0
abbrev pub place_from_zero : Bool → ℕ → ℕ
place_from_zero running begun = begun

abbrev pub last_from_zero : Bool → DecoderAnswer → ℕ → ℕ → ℕ
last_from_zero at_end a begun long = begun + long - 1

abbrev pub bytes_from_zero : Tool
bytes_from_zero = by_places the_call place_from_zero last_from_zero passed_on

-- behind a payload the place is still the one before its frame
abbrev pub not_passed_on : ℕ → ℕ → ℕ
not_passed_on begun long = begun

abbrev pub payload_not_passed : Tool
payload_not_passed = by_places the_call first_place last_place not_passed_on

-- places are counted from where the call begins; that place is added twice
abbrev pub no_place : ℕ → ℕ
no_place from = 0

abbrev pub places_from_the_call : Tool
places_from_the_call = by_places no_place first_place last_place passed_on

abbrev pub twice_place : ℕ → ℕ
twice_place from = from + from

abbrev pub call_added_twice : Tool
call_added_twice = by_places twice_place first_place last_place passed_on

-- ---- pieces

-- what is lost at the recording's end is less by eight, as where a start follows
abbrev pub less_eight : List ℕ → List ℕ
less_eight h = take (length h - 8) h

abbrev pub end_less_eight : Tool
end_less_eight = by_pieces piece_of less_eight

-- an unknown escape's four bytes are not lost
abbrev pub is_escape_refusal : DecoderAnswer → Bool
is_escape_refusal nothing = false
is_escape_refusal (payload bytes) = false
is_escape_refusal (count k) = false
is_escape_refusal (refusal k v) = eqb k invalid_esc_no

abbrev pub less_its_four : DecoderAnswer → List ℕ → List ℕ
less_its_four a h = cond (is_escape_refusal a) (take (length h - 4) h) (piece_of a h)

abbrev pub escape_without_its_four : Tool
escape_without_its_four = by_pieces less_its_four as_it_came

-- ---- what is told at all

abbrev pub never_told : DecoderAnswer → Bool
never_told a = false

-- what is left at the end is not told
abbrev pub end_forgotten : Tool
end_forgotten = by_telling is_refusal never_told

-- something is told there in any case
abbrev pub any_answer : DecoderAnswer → Bool
any_answer a = true

abbrev pub empty_piece_at_the_end : Tool
empty_piece_at_the_end = by_telling is_refusal any_answer

-- a frame that was kept is told as a loss
abbrev pub or_hands_out : DecoderAnswer → Bool
or_hands_out a = is_refusal a || hands_out a

abbrev pub kept_told_as_lost : Tool
kept_told_as_lost = by_telling or_hands_out is_refusal

-- no room is told by no loss: the search goes on
abbrev pub is_full_refusal : DecoderAnswer → Bool
is_full_refusal nothing = false
is_full_refusal (payload bytes) = false
is_full_refusal (count k) = false
is_full_refusal (refusal k v) = eqb k decoder_out_of_memory_no

abbrev pub but_for_room : DecoderAnswer → Bool
but_for_room a = is_refusal a && not (is_full_refusal a)

abbrev pub room_not_told : Tool
room_not_told = by_telling but_for_room is_refusal

-- nothing is ever lost; everything is refused
abbrev pub always_whole : Tool
always_whole recording way m from = both_checked way m (loss_after none_lost (buffer_behind way m (drop from recording)))

abbrev pub refuses_all_calls : Tool
refuses_all_calls recording way m from = way_checked way m (loss_after (loss_refused wrong_buffer_no) m)

-- two pieces that touch are told as one, with the first one's cause
abbrev pub joined_to : Loss → LossSaid → Loss
joined_to l (lost_is k) = cond (eqb k.first (suc l.last)) (record { cause = l.cause; first = l.first; last = k.last }) l
joined_to l none_lost = l
joined_to l (loss_refused n) = l

abbrev pub merged_with : (ℕ → LossSaid) → LossSaid → LossSaid
merged_with next (lost_is l) = lost_is (joined_to l (next l.last))
merged_with next none_lost = none_lost
merged_with next (loss_refused n) = loss_refused n

abbrev pub pieces_merged : Tool
pieces_merged recording way m from =
    let a : LossAfter = next_loss recording way m from in
    loss_after (merged_with (λ at. (next_loss recording way m at).said) a.said) a.memory

-- a piece for each byte of noise
abbrev pub first_byte_of : Loss → LossSaid
first_byte_of l = lost_is (record { cause = l.cause; first = l.first; last = l.first })

abbrev pub first_byte_of_noise : LossSaid → LossSaid
first_byte_of_noise (lost_is l) = noise_alone l.cause
  where
    noise_alone : Cause → LossSaid
    noise_alone Noise = first_byte_of l
    noise_alone Unfinished = lost_is l
    noise_alone Cut = lost_is l
    noise_alone Hidden = lost_is l
    noise_alone UnknownEscape = lost_is l
    noise_alone NoRoom = lost_is l
    noise_alone (Invalid crc misaligned pads) = lost_is l
first_byte_of_noise none_lost = none_lost
first_byte_of_noise (loss_refused n) = loss_refused n

abbrev pub noise_byte_by_byte : Tool
noise_byte_by_byte recording way m from =
    let a : LossAfter = next_loss recording way m from in
    loss_after (first_byte_of_noise a.said) a.memory

-- ---- the call

-- a place past the recording's end is 4
abbrev pub past_the_end_refused : Tool
past_the_end_refused recording way m from = both_checked way m (cond (ltb (length recording) from) (loss_after (loss_refused bad_state_no) m) (next_loss recording way m from))

-- a later call begins a byte behind the loss's last one
abbrev pub skips_a_byte : Tool
skips_a_byte recording way m from = next_loss recording way m (cond (eqb from 0) 0 (suc from))

-- each call begins at the recording's first byte
abbrev pub from_the_first_byte : Tool
from_the_first_byte recording way m from = next_loss recording way m 0

-- one way of searching for all calls
abbrev pub searches_only_by : ℕ → Tool
searches_only_by its recording way m from = way_checked way m (next_loss recording its m from)

abbrev pub first_way_only : Tool
first_way_only = searches_only_by first_way

abbrev pub second_way_only : Tool
second_way_only = searches_only_by second_way

-- a buffer of its own, of eight bytes
abbrev pub own_buffer : Tool
own_buffer recording way m from = both_checked way m (loss_after (next_loss recording way (replicate 8 0) from).said (next_loss recording way m from).memory)

-- ---- what is refused

-- 5 is judged before 4
abbrev pub length_first : ℕ → List ℕ → LossAfter → LossAfter
length_first way m a = length_checked way m (way_checked way m a)

abbrev pub capacity_before_way : Tool
capacity_before_way = by_checks length_first

abbrev pub any_way_is_taken : Tool
any_way_is_taken = by_checks length_checked

abbrev pub any_length_lent : Tool
any_length_lent = by_checks way_checked

-- a buffer that is longer by one byte is taken
abbrev pub one_more_lent : ℕ → List ℕ → LossAfter → LossAfter
one_more_lent way m a = way_checked way m (cond (ltb (limit + 1) (length m)) (loss_after (loss_refused wrong_buffer_no) m) a)

abbrev pub lent_one_more : Tool
lent_one_more = by_checks one_more_lent

-- ---- the buffer

abbrev pub leaves_instead : (List ℕ → ℕ → List ℕ → ℕ → List ℕ) → Tool
leaves_instead left recording way m from = both_checked way m (loss_after (next_loss recording way m from).said (left recording way m from))

-- it is cleared; it is as it was; all that is behind the place was pushed
abbrev pub zeroes_for : List ℕ → ℕ → List ℕ → ℕ → List ℕ
zeroes_for recording way m from = replicate (length m) 0

abbrev pub buffer_cleared : Tool
buffer_cleared = leaves_instead zeroes_for

abbrev pub as_lent : List ℕ → ℕ → List ℕ → ℕ → List ℕ
as_lent recording way m from = m

abbrev pub buffer_kept : Tool
buffer_kept = leaves_instead as_lent

abbrev pub all_pushed : List ℕ → ℕ → List ℕ → ℕ → List ℕ
all_pushed recording way m from = buffer_behind way m (drop from recording)

abbrev pub reads_to_the_end : Tool
reads_to_the_end = leaves_instead all_pushed

-- ---- watchers

-- the look behind an answer, by the one before it; the state with which a slice begins; how many bytes of a slice are taken, of so many that were read, by its length; what the end says
pub record WatchRules : Type 0 where
  pub look_then : Look → DecoderAnswer → Look
  pub opens : Watch → Watch
  pub takes : ℕ → ℕ → ℕ
  pub at_the_end : Watch → LossSaid

unfoldable pub watches_by : WatchRules → ℕ → Watch → List ℕ → List ℕ → WatchAfter
watches_by R n w m [] = watch_after quietly w n m
watches_by R n w m (b ∷ bytes) =
    let a : After = push_record w.decoder m b in
    cond (says_nothing a.answer) (watches_by R (suc n) (moved_on w a.decoder b) a.memory bytes)
    (watch_after (sight_at w a.answer) (watched a.decoder (suc w.pushed) (w.begun + over_of a.answer (suc w.pushed - w.begun)) (R.look_then w.look a.answer)) (R.takes (suc n) (suc n + length bytes)) a.memory)

abbrev pub watch_slice_by : WatchRules → Watch → List ℕ → List ℕ → WatchAfter
watch_slice_by R w m bytes =
    cond (bad_watch w (length bytes) || bad_decoder w.decoder) (watch_after (watch_refused bad_state_no) w 0 m)
    (cond (wrong_buffer w.decoder.capacity (length m)) (watch_after (watch_refused wrong_buffer_no) w 0 m) (watches_by R 0 (R.opens w) m bytes))

abbrev pub watcher_by : WatchRules → Watcher
watcher_by R = record {
  State = Watch;
  new = λ capacity way. watch_new capacity way 0;
  slice = λ w m c. let a = watch_slice_by R w m c in record { said = a.seen; state = a.watch; taken = a.taken; memory = a.memory };
  end = R.at_the_end;
}

abbrev pub by_the_answer : Look → DecoderAnswer → Look
by_the_answer l a = look_behind a

abbrev pub slice_goes_on : Watch → Watch
slice_goes_on w = w

abbrev pub those_read : ℕ → ℕ → ℕ
those_read n long = n

abbrev pub end_says : Watch → LossSaid
end_says w = (watch_end w).told

abbrev pub our_watch_rules : WatchRules
our_watch_rules = record { look_then = by_the_answer; opens = slice_goes_on; takes = those_read; at_the_end = end_says }

-- what was seen of a start is not forgotten behind a frame or a loss
abbrev pub as_before : Look → DecoderAnswer → Look
as_before l a = l

abbrev pub look_not_cleared : Watcher
look_not_cleared = watcher_by (record { look_then = as_before; opens = slice_goes_on; takes = those_read; at_the_end = end_says })

-- places are counted from each slice's first byte
abbrev pub places_anew : Watch → Watch
places_anew w = watched w.decoder 0 0 w.look

abbrev pub places_from_the_slice : Watcher
places_from_the_slice = watcher_by (record { look_then = by_the_answer; opens = places_anew; takes = those_read; at_the_end = end_says })

-- a start that two slices cut is not seen
abbrev pub unmatched_again : Watch → Watch
unmatched_again w = watched w.decoder w.pushed w.begun (look 0 w.look.start_end)

abbrev pub cut_start_not_seen : Watcher
cut_start_not_seen = watcher_by (record { look_then = by_the_answer; opens = unmatched_again; takes = those_read; at_the_end = end_says })

-- what is left of a slice behind a frame or a loss is taken with it
abbrev pub whole_slice : ℕ → ℕ → ℕ
whole_slice n long = long

abbrev pub rest_of_the_slice_taken : Watcher
rest_of_the_slice_taken = watcher_by (record { look_then = by_the_answer; opens = slice_goes_on; takes = whole_slice; at_the_end = end_says })

-- the end says nothing
abbrev pub no_loss_left : Watch → LossSaid
no_loss_left w = none_lost

abbrev pub watcher_forgets_the_end : Watcher
watcher_forgets_the_end = watcher_by (record { look_then = by_the_answer; opens = slice_goes_on; takes = those_read; at_the_end = no_loss_left })

-- where a frame is told the buffer is cleared already, so that its payload is gone
abbrev pub wiped_at : WatchSaid → List ℕ → List ℕ
wiped_at quietly m = m
wiped_at (kept_over first last) m = replicate (length m) 0
wiped_at (lost_over l) m = m
wiped_at (watch_refused n) m = m

abbrev pub payload_wiped : Watcher
payload_wiped = record {
  State = Watch;
  new = λ capacity way. watch_new capacity way 0;
  slice = λ w m c. let a = watch_slice w m c in record { said = a.seen; state = a.watch; taken = a.taken; memory = wiped_at a.seen a.memory };
  end = end_says;
}

-- an unknown way is taken as the first
abbrev pub watcher_of_any_way : Watcher
watcher_of_any_way = record {
  State = Watch;
  new = λ capacity way. watch_new capacity (cond (eqb way second_way) second_way first_way) 0;
  slice = λ w m c. let a = watch_slice w m c in record { said = a.seen; state = a.watch; taken = a.taken; memory = a.memory };
  end = end_says;
}

-- ---- what falls

pub record FallTools : Type 0 where
  -- with our parts it is ours
  pub ours : (recording : List ℕ) (way : ℕ) (m : List ℕ) (from : ℕ) → loss_by both_checked our_loss_rules recording way m from ≡ next_loss recording way m from
  -- the programs that take other parts, the ways to judge an end and to leave a buffer, given ours
  pub our_parts : (by_places the_call first_place last_place passed_on ≡ loss_by both_checked our_loss_rules) × (by_telling is_refusal is_refusal ≡ loss_by both_checked our_loss_rules) × (by_pieces piece_of as_it_came ≡ loss_by both_checked our_loss_rules)
      × (by_sight began_as_frame of_the_piece ≡ loss_by both_checked our_loss_rules) × (by_cause cause_of ≡ loss_by both_checked our_loss_rules)
  pub our_judging : (at_end running hides : Bool) (long : ℕ) (a : DecoderAnswer) → judged_by says_misaligned wrong_pads at_end running hides long a ≡ cause_of at_end running hides long a
  pub our_buffer : (recording : List ℕ) (way : ℕ) (m : List ℕ) (from : ℕ) → leaves_instead (λ r w n f. (next_loss r w n f).memory) recording way m from ≡ next_loss recording way m from
  pub our_slices : (w : Watch) (m bytes : List ℕ) → watch_slice_by our_watch_rules w m bytes ≡ watch_slice w m bytes
  pub new_start_hidden : AccountsExactly hidden_in_the_new_start → ⊥
  pub second_way_hidden : AccountsExactly hidden_in_the_second_way → ⊥
  pub frames_hidden : AccountsExactly frames_are_hidden → ⊥
  pub cut_noise : AccountsExactly cut_told_as_noise → ⊥
  pub unfinished_cut : AccountsExactly unfinished_told_as_cut → ⊥
  pub unfinished_noise : AccountsExactly unfinished_told_as_noise → ⊥
  pub room_unfinished : AccountsExactly room_told_as_unfinished → ⊥
  pub always_noise_claim : AccountsExactly always_noise → ⊥
  pub new_state : AccountsExactly cause_of_the_new_state → ⊥
  pub first_cause : AccountsExactly first_cause_only → ⊥
  pub always_crc : AccountsExactly crc_always_named → ⊥
  pub over_three_claim : AccountsExactly pads_over_three_only → ⊥
  pub pads_of_piece : AccountsExactly pads_of_the_piece → ⊥
  pub aligned_payload : AccountsExactly aligned_without_pads → ⊥
  pub ninth_byte : AccountsExactly frame_from_its_ninth_byte → ⊥
  pub with_new_start : AccountsExactly last_with_the_new_start → ⊥
  pub from_zero : AccountsExactly bytes_from_zero → ⊥
  pub not_passed : AccountsExactly payload_not_passed → ⊥
  pub from_the_call : AccountsExactly places_from_the_call → ⊥
  pub added_twice : AccountsExactly call_added_twice → ⊥
  pub less_eight_claim : AccountsExactly end_less_eight → ⊥
  pub without_four : AccountsExactly escape_without_its_four → ⊥
  pub merged : AccountsExactly pieces_merged → ⊥
  pub byte_by_byte : AccountsExactly noise_byte_by_byte → ⊥
  pub end_forgotten_claim : AccountsExactly end_forgotten → ⊥
  pub empty_piece : AccountsExactly empty_piece_at_the_end → ⊥
  pub kept_lost : AccountsExactly kept_told_as_lost → ⊥
  pub room_not_told_claim : AccountsExactly room_not_told → ⊥
  pub always_whole_claim : AccountsExactly always_whole → ⊥
  pub refuses_all_claim : AccountsExactly refuses_all_calls → ⊥
  pub past_end : AccountsExactly past_the_end_refused → ⊥
  pub skips : AccountsExactly skips_a_byte → ⊥
  pub from_first : AccountsExactly from_the_first_byte → ⊥
  pub first_way_claim : AccountsExactly first_way_only → ⊥
  pub second_way_claim : AccountsExactly second_way_only → ⊥
  pub own_buffer_claim : AccountsExactly own_buffer → ⊥
  pub capacity_first : RefusesWayFirst capacity_before_way → ⊥
  pub any_way : RefusesWayFirst any_way_is_taken → ⊥
  pub any_lent : RefusesTooLarge any_length_lent → ⊥
  pub one_more_lent_claim : RefusesTooLarge lent_one_more → ⊥
  pub cleared : LeavesPushes buffer_cleared → ⊥
  pub kept_buffer : LeavesPushes buffer_kept → ⊥
  pub reads_on : LeavesPushes reads_to_the_end → ⊥
  pub look_kept : WatchesAsCalled look_not_cleared → ⊥
  pub from_the_slice : WatchesAsCalled places_from_the_slice → ⊥
  pub cut_start : WatchesAsCalled cut_start_not_seen → ⊥
  pub rest_taken : WatchesAsCalled rest_of_the_slice_taken → ⊥
  pub forgets_end : WatchesAsCalled watcher_forgets_the_end → ⊥
  pub payload_wiped_claim : WatchesAsCalled payload_wiped → ⊥
  pub watcher_any_way : RefusesAtSlices watcher_of_any_way → ⊥
