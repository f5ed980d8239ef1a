-- claim: all that is claimed of the writer: of its fields and messages, of its five calls, and of the code's records.
use Rattle.std.specs.Prelude.{ℕ, ◌+◌, ◌≤◌, ◌≡◌, List, [], ◌∷◌, ◌++◌, map, length, ℤ}
use Rattle.std.proofs.Math.Option.{some}
use Rattle.refusals.specs.Read.{got}
use Rattle.refusals.specs.declared.Span.{Span}
use Rattle.tlf.specs.Lengths.{tlf_at}
use Rattle.tlf.specs.declared.Ty.{Ty}
use Rattle.numbers.specs.Numbers.{unsigned_at, signed_at}
use Rattle.octet_string.specs.Strings.{octets_at}
use Rattle.octet_string.specs.Optional.{optional}
use Rattle.common.specs.Fields.{ListEntry}
use Rattle.common.specs.Answers.{open_response, close_response, list_entry}
use Rattle.common.specs.declared.OpenResponse as Opens
use Rattle.common.specs.declared.CloseResponse as Closes
use Rattle.common.specs.declared.ListEntry as Entries
use Rattle.message.specs.Answers.{list_start, list_end}
use Rattle.message.specs.Messages.{ListStart, ListEnd, open_body, close_body, list_body}
use Rattle.message.specs.declared.GetListResponseStart.{GetListResponseStart}
use Rattle.message.specs.declared.GetListResponseEnd.{GetListResponseEnd}
use Rattle.streaming.specs.Meaning.{entry_means, list_end_means, start_means}
use Rattle.writer.specs.Fields.{write_tlf, write_unsigned, write_signed}
use Rattle.writer.specs.Calls.{start_with}
use Rattle.writer.specs.declared.Head.{Head}
use Rattle.events.specs.Message.{Message, message_at}
use Rattle.written.specs.Messages.{write_message, message_means}
use Rattle.written.specs.Fits.{OnlyBytes, EntryFits, StartFits, EntriesFit, ListEndFits, MessageFits}
use Rattle.written.specs.Round.{ReadBack, ToldTo, message_told, write_messages, messages_told, MessagesFit}
use Rattle.written.specs.Calls.{Writer, our_writer, list_to, whole_list}
use Rattle.written.specs.Writers.{Accepted, WritesBack, GoodWriter}
use Rattle.written.specs.Typed.{EntryTyped, OpenTyped, ListStartTyped, ListEndTyped, HeadTyped}
use Rattle.written.specs.Jobs.{TellsSeveral}
use Rattle.written.specs.Bench.{WrittenBench}

-- an optional string of two bytes is read there, present and empty
pub record EmptyThere (s : List ℕ) (at : ℕ) : Type 0 where
  pub found : Span
  pub is : optional octets_at s at ≡ got (some found) (at + 2)
  pub no_bytes : found.len ≡ 0

-- whatever is read as a number, or as a type and length, is no shorter than what is written for it, wherever it stands
pub record Fewest : Type 0 where
  pub unsigneds : (w v : ℕ) (s : List ℕ) (at n : ℕ) → w ≤ 8 → OnlyBytes s → unsigned_at w s at ≡ got v n → at + length (write_unsigned v) ≤ n
  pub signeds : (w : ℕ) (z : ℤ) (s : List ℕ) (at n : ℕ) → w ≤ 8 → OnlyBytes s → signed_at w s at ≡ got z n → at + length (write_signed z) ≤ n
  pub lengths : (ty : Ty) (len : ℕ) (s : List ℕ) (at n : ℕ) → tlf_at s at ≡ got (record { ty = ty; len = len }) n → at + length (write_tlf ty len) ≤ n
  -- 80 02 is read as present and empty, behind any bytes and whatever follows, and no other two bytes are
  pub present : (pre l : List ℕ) → EmptyThere (pre ++ (0x80 ∷ 0x02 ∷ l)) (length pre)
  pub empty : (b : List ℕ) (p : Span) → OnlyBytes b → length b ≡ 2 → optional octets_at b 0 ≡ got (some p) 2 → p.len ≡ 0 → b ≡ 0x80 ∷ 0x02 ∷ []

-- messages, wherever they stand in an input of at most 1,048,576 bytes
pub record BackInFull : Type 0 where
  pub message : (m : Message (List ℕ)) (pre l : List ℕ) → MessageFits m → length (pre ++ (write_message m ++ l)) ≤ 1048576 → ReadBack m pre l
  pub events : (m : Message (List ℕ)) (pre l : List ℕ) → MessageFits m → length (pre ++ (write_message m ++ l)) ≤ 1048576
      → ToldTo (pre ++ (write_message m ++ l)) (length pre) (length pre + length (write_message m)) (message_told m)
  pub several : (ms : List (Message (List ℕ))) (pre l : List ℕ) → MessagesFit ms → length (pre ++ (write_messages ms ++ l)) ≤ 1048576
      → ToldTo (pre ++ (write_messages ms ++ l)) (length pre) (length pre + length (write_messages ms)) (messages_told ms)
  pub again : (s : List ℕ) (at : ℕ) (x : Message Span) (n : ℕ) (pre l : List ℕ) → OnlyBytes s → message_at s at ≡ got x n
      → length (pre ++ (write_message (message_means s x) ++ l)) ≤ 1048576 → ReadBack (message_means s x) pre l
  -- what any writer that writes back wrote by the calls of a list, the event reader tells
  pub calls : (W : Writer) → WritesBack W → (out : List ℕ) (at : ℕ) (strings : List ℕ) (head : Head) (list : ListStart Span) (es : List (ListEntry Span)) (x : ListEnd Span)
      → StartFits (start_means strings (start_with head (list_body list))) → EntriesFit (map (entry_means strings) es) → ListEndFits (list_end_means strings x) → length out ≤ 1048576
      → Accepted (λ w o. ToldTo o at w.place (message_told (message_means strings (whole_list head list es x)))) (list_to W out at strings head list es x)
  -- and so several messages that any good writer wrote, each behind the one before
  pub several_calls : (W : Writer) → GoodWriter W → TellsSeveral W

-- every record of the code fits, and every message that was read
pub record AlwaysFits : Type 0 where
  pub entry : (s : List ℕ) → OnlyBytes s → (x : Entries.ListEntry) → EntryTyped x → EntryFits (entry_means s (list_entry x))
  pub end : (s : List ℕ) → OnlyBytes s → (x : GetListResponseEnd) → ListEndTyped x → ListEndFits (list_end_means s (list_end x))
  pub opening : (s : List ℕ) → OnlyBytes s → (head : Head) (x : Opens.OpenResponse) → HeadTyped head → OpenTyped x → StartFits (start_means s (start_with head (open_body (open_response x))))
  pub closing : (s : List ℕ) → OnlyBytes s → (head : Head) (x : Closes.CloseResponse) → HeadTyped head → StartFits (start_means s (start_with head (close_body (close_response x))))
  pub listing : (s : List ℕ) → OnlyBytes s → (head : Head) (x : GetListResponseStart) → HeadTyped head → ListStartTyped x → StartFits (start_means s (start_with head (list_body (list_start x))))
  pub read : (s : List ℕ) (at : ℕ) (x : Message Span) (n : ℕ) → OnlyBytes s → message_at s at ≡ got x n → MessageFits (message_means s x)

pub record WrittenClaims : Type 0 where
  pub fewest : Fewest
  pub back : BackInFull
  pub writer : GoodWriter our_writer
  pub fits : AlwaysFits
  pub bench : WrittenBench
