-- All that is claimed of the writer, proved.
use mathlib.Core.List.{List, map}
use Prim.Native.Nat.{ℕ, ◌≤◌}
use native.Mathlib.Omega.{arith}
use lib.ListN.{length}
use Rattle.refusals.specs.declared.Span.{Span}
use Rattle.common.specs.Fields.{ListEntry}
use Rattle.message.specs.Messages.{ListStart, ListEnd, list_body}
use Rattle.streaming.specs.Meaning.{entry_means, list_end_means, start_means}
use Rattle.writer.specs.Calls.{start_with}
use Rattle.writer.specs.declared.Head.{Head}
use Rattle.events.specs.Message.{Message}
use Rattle.written.specs.Messages.{message_means}
use Rattle.written.specs.Fits.{StartFits, EntriesFit, ListEndFits}
use Rattle.written.specs.Round.{ToldTo, message_told}
use Rattle.written.specs.Calls.{Writer, list_to, whole_list}
use Rattle.written.specs.Writers.{Accepted, Back, WritesBack}
use Rattle.written.specs.Claims.{WrittenClaims}
use Rattle.written.proofs.Fewest.{fewest_unsigned, fewest_signed, shortest_length}
use Rattle.written.proofs.Empty.{empty_there, only_empty}
use Rattle.written.proofs.Round.{message_back}
use Rattle.written.proofs.Events.{means_told, events_back, back_to_back}
use Rattle.written.proofs.Again.{read_fits, written_again}
use Rattle.written.proofs.Calls.{accept_weak}
use Rattle.written.proofs.Writers.{good_writer}
use Rattle.written.proofs.Typed.{entry_fits, list_end_fits, open_start_fits, close_start_fits, list_body_fits}
use Rattle.written.proofs.Jobs.{tells_several}
use Rattle.written.proofs.Bench.{written_bench}

-- a message that stands in an output is told by the event reader
back_told : (m : Message (List ℕ)) (out : List ℕ) (at next : ℕ) (o : List ℕ) → length out ≤ 1048576 → Back m out at next o → ToldTo o at next (message_told m)
back_told m out at next o h b = means_told o at next b.found m b.is b.means (omega (arith, h, b.same_length))

pub calls_told : (W : Writer) → WritesBack W → (out : List ℕ) (at : ℕ) (strings : List ℕ) (head : Head) (list : ListStart Span) (es : List (ListEntry Span)) (x : ListEnd Span)
    → StartFits (start_means strings (start_with head (list_body list))) → EntriesFit (map (entry_means strings) es) → ListEndFits (list_end_means strings x) → length out ≤ 1048576
    → Accepted (λ w o. ToldTo o at w.place (message_told (message_means strings (whole_list head list es x)))) (list_to W out at strings head list es x)
calls_told W good out at strings head list es x f g i h = accept_weak (λ w o b. back_told _ out at w.place o h b) (good.lists out at strings head list es x f g i h)

pub written_claims : WrittenClaims
written_claims =
    record {
      fewest = record { unsigneds = fewest_unsigned; signeds = fewest_signed; lengths = shortest_length; present = empty_there; empty = only_empty };
      back = record { message = message_back; events = events_back; several = back_to_back; again = written_again; calls = calls_told; several_calls = tells_several };
      writer = good_writer;
      fits = record { entry = entry_fits; end = list_end_fits; opening = open_start_fits; closing = close_start_fits; listing = list_body_fits; read = read_fits };
      bench = written_bench;
    }
