-- claim: what every writer of messages must do. What accepted calls wrote is read back, what fits is accepted, entries are counted, refusals come in one order and change nothing.
use Rattle.std.specs.Prelude.{ℕ, ◌+◌, ◌-◌, ◌≤◌, ◌<◌, ◌≡◌, Bool, true, false, List, [], ◌∷◌, map, length, take, drop}
use Rattle.refusals.specs.Numbers.{bad_state_no, wrong_number_no, bad_span_no, output_too_short_no}
use Rattle.refusals.specs.Read.{got}
use Rattle.refusals.specs.declared.Span.{Span}
use Rattle.crc_x25.specs.Crc.{start, register}
use Rattle.common.specs.Fields.{OpenResponse, CloseResponse, ListEntry}
use Rattle.message.specs.Messages.{ListStart, ListEnd, open_body, close_body, list_body}
use Rattle.streaming.specs.Next.{start_event, entry_event, end_event}
use Rattle.streaming.specs.Meaning.{entry_means, list_end_means, start_means, strings_of}
use Rattle.writer.specs.Fields.{write_entry}
use Rattle.writer.specs.Messages.{write_start, list_end_bytes}
use Rattle.writer.specs.Calls.{put_in, WriteOutcome, to, not_written, AfterWrite, entry_due, end_due, after_entry, end_bytes, all_within, start_with}
use Rattle.writer.specs.declared.Head.{Head}
use Rattle.writer.specs.declared.ListState.{ListState}
use Rattle.writer.specs.declared.ListState.TheVariants.{Entries, Ended}
use Rattle.writer.specs.declared.ListWriter.{ListWriter}
use Rattle.events.specs.Message.{Message, message_at}
use Rattle.written.specs.Messages.{write_message, message_means}
use Rattle.written.specs.Fits.{StartFits, EntriesFit, ListEndFits}
use Rattle.written.specs.Calls.{Writer, begun_to, list_to, lone_message, whole_list}

-- what holds of the answer and the output, where a call is accepted
abbrev pub Accepting : {A : Type 0} → (A → List ℕ → Type 0) → WriteOutcome A → List ℕ → Type 0
Accepting P (to w) o = P w o
Accepting P (not_written n) o = Unit {0}

pub record Accepted {A : Type 0} (P : A → List ℕ → Type 0) (l : AfterWrite A) : Type 0 where
  pub holds : Accepting P l.answer l.output

-- a call that is accepted
pub record TakenWith {A : Type 0} (P : A → List ℕ → Type 0) (l : AfterWrite A) : Type 0 where
  pub writer : A
  pub output : List ℕ
  pub is : l ≡ record { answer = to writer; output = output }
  pub has : P writer output

-- refused with this number, and the output as it was
abbrev pub RefusedWith : {A : Type 0} → ℕ → List ℕ → AfterWrite A → Type 0
RefusedWith n out l = l ≡ record { answer = not_written n; output = out }

-- of two sentences each follows from the other
pub record ExactlyIf (P Q : Type 0) : Type 0 where
  pub if : Q → P
  pub only_if : P → Q

-- `o` is the output with a message of this meaning from one place to the other, and else as it was
pub record Back (m : Message (List ℕ)) (out : List ℕ) (at next : ℕ) (o : List ℕ) : Type 0 where
  pub found : Message Span
  pub is : message_at o at ≡ got found next
  pub means : message_means o found ≡ m
  pub before : take at o ≡ take at out
  pub behind : drop next o ≡ drop next out
  pub same_length : length o ≡ length out

-- in an output of at most 1,048,576 bytes
pub record WritesBack (W : Writer) : Type 0 where
  pub opens : (out : List ℕ) (at : ℕ) (strings : List ℕ) (head : Head) (x : OpenResponse Span) → StartFits (start_means strings (start_with head (open_body x))) → length out ≤ 1048576
      → Accepted (λ next o. Back (message_means strings (lone_message head (open_body x))) out at next o) (W.opens out at strings head x)
  pub closes : (out : List ℕ) (at : ℕ) (strings : List ℕ) (head : Head) (x : CloseResponse Span) → StartFits (start_means strings (start_with head (close_body x))) → length out ≤ 1048576
      → Accepted (λ next o. Back (message_means strings (lone_message head (close_body x))) out at next o) (W.closes out at strings head x)
  pub lists : (out : List ℕ) (at : ℕ) (strings : List ℕ) (head : Head) (list : ListStart Span) (es : List (ListEntry Span)) (x : ListEnd Span)
      → StartFits (start_means strings (start_with head (list_body list))) → EntriesFit (map (entry_means strings) es) → ListEndFits (list_end_means strings x) → length out ≤ 1048576
      → Accepted (λ w o. Back (message_means strings (whole_list head list es x)) out at w.place o) (list_to W out at strings head list es x)

-- the bytes alone are a message of this meaning, and nothing stands behind it
pub record ReadAlone (m : Message (List ℕ)) (b : List ℕ) : Type 0 where
  pub found : Message Span
  pub is : message_at b 0 ≡ got found (length b)
  pub means : message_means b found ≡ m

-- what was written from one place to the other, of at most 1,048,576 bytes, however long the output is
abbrev pub AloneFrom : Message (List ℕ) → ℕ → ℕ → List ℕ → Type 0
AloneFrom m at next o = next - at ≤ 1048576 → ReadAlone m (take (next - at) (drop at o))

pub record ReadsAlone (W : Writer) : Type 0 where
  pub opens : (out : List ℕ) (at : ℕ) (strings : List ℕ) (head : Head) (x : OpenResponse Span) → StartFits (start_means strings (start_with head (open_body x)))
      → Accepted (λ next o. AloneFrom (message_means strings (lone_message head (open_body x))) at next o) (W.opens out at strings head x)
  pub closes : (out : List ℕ) (at : ℕ) (strings : List ℕ) (head : Head) (x : CloseResponse Span) → StartFits (start_means strings (start_with head (close_body x)))
      → Accepted (λ next o. AloneFrom (message_means strings (lone_message head (close_body x))) at next o) (W.closes out at strings head x)
  pub lists : (out : List ℕ) (at : ℕ) (strings : List ℕ) (head : Head) (list : ListStart Span) (es : List (ListEntry Span)) (x : ListEnd Span)
      → StartFits (start_means strings (start_with head (list_body list))) → EntriesFit (map (entry_means strings) es) → ListEndFits (list_end_means strings x)
      → Accepted (λ w o. AloneFrom (message_means strings (whole_list head list es x)) at w.place o) (list_to W out at strings head list es x)

-- one accepted call of a list: its bytes at the place and all else as it was, the place behind them, and the state
abbrev pub PutBehind : List ℕ → ℕ → List ℕ → ListState → ListWriter → List ℕ → Type 0
PutBehind out at b state w o = (w ≡ record { place = at + length b; state = state }) × (o ≡ put_in out at b)

-- exactly the bytes of the definitions, and a list has as many entries as it announces
pub record PutsExactly (W : Writer) : Type 0 where
  pub opens : (out : List ℕ) (at : ℕ) (strings : List ℕ) (head : Head) (x : OpenResponse Span)
      → let b = write_message (message_means strings (lone_message head (open_body x))) in Accepted (λ next o. (next ≡ at + length b) × (o ≡ put_in out at b)) (W.opens out at strings head x)
  pub closes : (out : List ℕ) (at : ℕ) (strings : List ℕ) (head : Head) (x : CloseResponse Span)
      → let b = write_message (message_means strings (lone_message head (close_body x))) in Accepted (λ next o. (next ≡ at + length b) × (o ≡ put_in out at b)) (W.closes out at strings head x)
  pub lists : (out : List ℕ) (at : ℕ) (strings : List ℕ) (head : Head) (list : ListStart Span) (es : List (ListEntry Span)) (x : ListEnd Span)
      → let b = write_message (message_means strings (whole_list head list es x)) in
      Accepted (λ w o. (w.place ≡ at + length b) × (o ≡ put_in out at b) × (list.num_vals ≡ length es)) (list_to W out at strings head list es x)
  pub starts : (out : List ℕ) (at : ℕ) (strings : List ℕ) (head : Head) (list : ListStart Span)
      → let b = write_start (start_means strings (start_with head (list_body list))) in Accepted (PutBehind out at b (Entries list.num_vals (register start b))) (W.starts out at strings head list)
  pub adds : (out : List ℕ) (w : ListWriter) (strings : List ℕ) (e : ListEntry Span)
      → let b = write_entry (entry_means strings e) in Accepted (PutBehind out w.place b (after_entry w.state b)) (W.adds out w strings e)
  pub ends : (out : List ℕ) (w : ListWriter) (strings : List ℕ) (x : ListEnd Span)
      → let b = end_bytes w.state (list_end_bytes (list_end_means strings x)) in Accepted (PutBehind out w.place b Ended) (W.ends out w strings x)

-- every string of each entry lies within the strings
abbrev pub AllGood : List ℕ → List (ListEntry Span) → Type 0
AllGood strings [] = Unit {0}
AllGood strings (e ∷ es) = (all_within strings (strings_of (entry_event e)) ≡ true) × AllGood strings es

-- good spans, the announced number and room behind the place
pub record TakesWhatFits (W : Writer) : Type 0 where
  pub opens : (out : List ℕ) (at : ℕ) (strings : List ℕ) (head : Head) (x : OpenResponse Span) → all_within strings (strings_of (start_event (start_with head (open_body x)))) ≡ true
      → at + length (write_message (message_means strings (lone_message head (open_body x)))) ≤ length out → TakenWith (λ next o. Unit {0}) (W.opens out at strings head x)
  pub closes : (out : List ℕ) (at : ℕ) (strings : List ℕ) (head : Head) (x : CloseResponse Span) → all_within strings (strings_of (start_event (start_with head (close_body x)))) ≡ true
      → at + length (write_message (message_means strings (lone_message head (close_body x)))) ≤ length out → TakenWith (λ next o. Unit {0}) (W.closes out at strings head x)
  pub lists : (out : List ℕ) (at : ℕ) (strings : List ℕ) (head : Head) (list : ListStart Span) (es : List (ListEntry Span)) (x : ListEnd Span)
      → all_within strings (strings_of (start_event (start_with head (list_body list)))) ≡ true → AllGood strings es → all_within strings (strings_of (end_event x)) ≡ true → list.num_vals ≡ length es
      → at + length (write_message (message_means strings (whole_list head list es x))) ≤ length out → TakenWith (λ w o. Unit {0}) (list_to W out at strings head list es x)

-- behind an accepted start that announces n and k accepted entries an entry is 17 exactly if k is n, an end exactly if k is less; behind an accepted end both are
pub record Counts (W : Writer) : Type 0 where
  pub entries : (out : List ℕ) (at : ℕ) (strings : List ℕ) (head : Head) (list : ListStart Span) (es : List (ListEntry Span)) (more : List ℕ) (e : ListEntry Span)
      → Accepted (λ w o. ExactlyIf (RefusedWith wrong_number_no o (W.adds o w more e)) (length es ≡ list.num_vals)) (begun_to W out at strings head list es)
  pub ends : (out : List ℕ) (at : ℕ) (strings : List ℕ) (head : Head) (list : ListStart Span) (es : List (ListEntry Span)) (more : List ℕ) (x : ListEnd Span)
      → Accepted (λ w o. ExactlyIf (RefusedWith wrong_number_no o (W.ends o w more x)) (length es < list.num_vals)) (begun_to W out at strings head list es)
  pub behind : (out : List ℕ) (at : ℕ) (strings : List ℕ) (head : Head) (list : ListStart Span) (es : List (ListEntry Span)) (x : ListEnd Span) (more : List ℕ) (e : ListEntry Span) (y : ListEnd Span)
      → Accepted (λ w o. RefusedWith wrong_number_no o (W.adds o w more e) × RefusedWith wrong_number_no o (W.ends o w more y)) (list_to W out at strings head list es x)

-- one call: the first of 4, 17, 16, 18 that is true, and none where none is
pub record FirstTrue {A : Type 0} (out : List ℕ) (at : ℕ) (due good : Bool) (b : List ℕ) (l : AfterWrite A) : Type 0 where
  pub beyond : length out < at → RefusedWith bad_state_no out l
  pub not_due : at ≤ length out → due ≡ false → RefusedWith wrong_number_no out l
  pub bad_span : at ≤ length out → due ≡ true → good ≡ false → RefusedWith bad_span_no out l
  pub no_room_claim : at ≤ length out → due ≡ true → good ≡ true → length out < at + length b → RefusedWith output_too_short_no out l
  pub else : due ≡ true → good ≡ true → at + length b ≤ length out → TakenWith (λ w o. Unit {0}) l

pub record RefusesInOrder (W : Writer) : Type 0 where
  pub opens : (out : List ℕ) (at : ℕ) (strings : List ℕ) (head : Head) (x : OpenResponse Span)
      → FirstTrue out at true (all_within strings (strings_of (start_event (start_with head (open_body x))))) (write_message (message_means strings (lone_message head (open_body x)))) (W.opens out at strings head x)
  pub closes : (out : List ℕ) (at : ℕ) (strings : List ℕ) (head : Head) (x : CloseResponse Span)
      → FirstTrue out at true (all_within strings (strings_of (start_event (start_with head (close_body x))))) (write_message (message_means strings (lone_message head (close_body x)))) (W.closes out at strings head x)
  pub starts : (out : List ℕ) (at : ℕ) (strings : List ℕ) (head : Head) (list : ListStart Span)
      → FirstTrue out at true (all_within strings (strings_of (start_event (start_with head (list_body list))))) (write_start (start_means strings (start_with head (list_body list)))) (W.starts out at strings head list)
  pub adds : (out : List ℕ) (w : ListWriter) (strings : List ℕ) (e : ListEntry Span)
      → FirstTrue out w.place (entry_due w.state) (all_within strings (strings_of (entry_event e))) (write_entry (entry_means strings e)) (W.adds out w strings e)
  pub ends : (out : List ℕ) (w : ListWriter) (strings : List ℕ) (x : ListEnd Span)
      → FirstTrue out w.place (end_due w.state) (all_within strings (strings_of (end_event x))) (end_bytes w.state (list_end_bytes (list_end_means strings x))) (W.ends out w strings x)

-- all that a writer of messages must do
pub record GoodWriter (W : Writer) : Type 0 where
  pub back : WritesBack W
  pub alone : ReadsAlone W
  pub exactly : PutsExactly W
  pub takes : TakesWhatFits W
  pub counts : Counts W
  pub order : RefusesInOrder W
