-- claim: several messages, each written behind the one before by handing on the place.
use Rattle.std.specs.Prelude.{ℕ, ◌≤◌, List, [], ◌∷◌, map, length}
use Rattle.refusals.specs.declared.Span.{Span}
use Rattle.common.specs.Fields.{OpenResponse, CloseResponse, ListEntry}
use Rattle.message.specs.Messages.{ListStart, ListEnd, open_body, close_body, list_body}
use Rattle.streaming.specs.Meaning.{entry_means, list_end_means, start_means}
use Rattle.writer.specs.Calls.{WriteOutcome, to, not_written, AfterWrite, start_with}
use Rattle.writer.specs.declared.Head.{Head}
use Rattle.writer.specs.declared.ListWriter.{ListWriter}
use Rattle.events.specs.Message.{Message}
use Rattle.written.specs.Messages.{message_means}
use Rattle.written.specs.Fits.{StartFits, EntriesFit, ListEndFits}
use Rattle.written.specs.Round.{ToldTo, messages_told}
use Rattle.written.specs.Calls.{Writer, then_call, list_to, lone_message, whole_list}
use Rattle.written.specs.Writers.{Accepted}

-- what one message is written from
pub data MessageJob : Type 0 where
  open_job : Head → OpenResponse Span → MessageJob
  close_job : Head → CloseResponse Span → MessageJob
  list_job : Head → ListStart Span → List (ListEntry Span) → ListEnd Span → MessageJob

abbrev pub job_message : MessageJob → Message Span
job_message (open_job head x) = lone_message head (open_body x)
job_message (close_job head x) = lone_message head (close_body x)
job_message (list_job head list es x) = whole_list head list es x

abbrev pub job_means : List ℕ → MessageJob → Message (List ℕ)
job_means strings j = message_means strings (job_message j)

abbrev pub JobFits : List ℕ → MessageJob → Type 0
JobFits strings (open_job head x) = StartFits (start_means strings (start_with head (open_body x)))
JobFits strings (close_job head x) = StartFits (start_means strings (start_with head (close_body x)))
JobFits strings (list_job head list es x) = StartFits (start_means strings (start_with head (list_body list))) × EntriesFit (map (entry_means strings) es) × ListEndFits (list_end_means strings x)

abbrev pub JobsFit : List ℕ → List MessageJob → Type 0
JobsFit strings [] = Unit {0}
JobsFit strings (j ∷ js) = JobFits strings j × JobsFit strings js

-- of a list's writer the place
abbrev pub writer_place : WriteOutcome ListWriter → WriteOutcome ℕ
writer_place (to w) = to w.place
writer_place (not_written n) = not_written n

abbrev pub place_after : AfterWrite ListWriter → AfterWrite ℕ
place_after l = record { answer = writer_place l.answer; output = l.output }

unfoldable pub job_to : Writer → List ℕ → ℕ → List ℕ → MessageJob → AfterWrite ℕ
job_to W out at strings (open_job head x) = W.opens out at strings head x
job_to W out at strings (close_job head x) = W.closes out at strings head x
job_to W out at strings (list_job head list es x) = place_after (list_to W out at strings head list es x)

unfoldable pub jobs_to : Writer → List ℕ → ℕ → List ℕ → List MessageJob → AfterWrite ℕ
jobs_to W out at strings [] = record { answer = to at; output = out }
jobs_to W out at strings (j ∷ js) = then_call (job_to W out at strings j) λ next o. jobs_to W o next strings js

-- where all are accepted, the event reader tells them in their order, from the first place to the last
pub record TellsSeveral (W : Writer) : Type 0 where
  pub several : (out : List ℕ) (at : ℕ) (strings : List ℕ) (js : List MessageJob) → JobsFit strings js → length out ≤ 1048576 → at ≤ length out
      → Accepted (λ next o. ToldTo o at next (messages_told (map (job_means strings) js))) (jobs_to W out at strings js)
