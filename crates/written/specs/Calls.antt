-- claim: any writer of messages, ours, and the calls of a list one after the other, each with the writer and the output that the one before left.
use Rattle.std.specs.Prelude.{ℕ, List, [], ◌∷◌}
use Rattle.std.proofs.Math.Option.{some, none}
use Rattle.refusals.specs.declared.Span.{Span}
use Rattle.common.specs.Fields.{OpenResponse, CloseResponse, ListEntry}
use Rattle.message.specs.Messages.{ListStart, ListEnd, Body, open_body, close_body, list_body}
use Rattle.writer.specs.Calls.{WriteOutcome, to, not_written, AfterWrite, start_with, whole_to, start_to, entry_to, end_to}
use Rattle.writer.specs.declared.Head.{Head}
use Rattle.writer.specs.declared.ListWriter.{ListWriter}
use Rattle.events.specs.Message.{Message}

-- five calls, which take the output, a place or what the call before left, the strings and a record of spans
pub record Writer : Type 0 where
  pub opens : List ℕ → ℕ → List ℕ → Head → OpenResponse Span → AfterWrite ℕ
  pub closes : List ℕ → ℕ → List ℕ → Head → CloseResponse Span → AfterWrite ℕ
  pub starts : List ℕ → ℕ → List ℕ → Head → ListStart Span → AfterWrite ListWriter
  pub adds : List ℕ → ListWriter → List ℕ → ListEntry Span → AfterWrite ListWriter
  pub ends : List ℕ → ListWriter → List ℕ → ListEnd Span → AfterWrite ListWriter

-- by the definitions that the contracts of the code cite
abbrev pub our_writer : Writer
our_writer =
    record {
      opens = λ out at strings head x. whole_to out at strings head (open_body x);
      closes = λ out at strings head x. whole_to out at strings head (close_body x);
      starts = start_to;
      adds = entry_to;
      ends = end_to;
    }

-- goes on with the writer and the output that the call before left; a refusal ends it
unfoldable pub then_call : {A : Type 0} → AfterWrite A → (A → List ℕ → AfterWrite A) → AfterWrite A
then_call {A} l k = go l.answer
  where
    go : WriteOutcome A → AfterWrite A
    go (to w) = k w l.output
    go (not_written n) = l

unfoldable pub entries_to : Writer → List ℕ → ListWriter → List ℕ → List (ListEntry Span) → AfterWrite ListWriter
entries_to W out w strings [] = record { answer = to w; output = out }
entries_to W out w strings (e ∷ es) = then_call (W.adds out w strings e) λ v next. entries_to W next v strings es

-- a start and entries
unfoldable pub begun_to : Writer → List ℕ → ℕ → List ℕ → Head → ListStart Span → List (ListEntry Span) → AfterWrite ListWriter
begun_to W out at strings head list es = then_call (W.starts out at strings head list) λ w o. entries_to W o w strings es

-- a start, entries and an end
unfoldable pub list_to : Writer → List ℕ → ℕ → List ℕ → Head → ListStart Span → List (ListEntry Span) → ListEnd Span → AfterWrite ListWriter
list_to W out at strings head list es x = then_call (begun_to W out at strings head list es) λ w o. W.ends o w strings x

-- the message that an open or a close call is to write: nothing between start and trailer
abbrev pub lone_message : Head → Body Span → Message Span
lone_message head body = record { start = start_with head body; content = record { entries = []; end = none } }

-- that of a list's calls
abbrev pub whole_list : Head → ListStart Span → List (ListEntry Span) → ListEnd Span → Message Span
whole_list head list es x = record { start = start_with head (list_body list); content = record { entries = es; end = some x } }
