-- Each view can be undone, so a contract allows one outcome for each input.
use mathlib.Core.Path.{◌≡◌, ap}
use Rattle.decoder.specs.Record.{after}
use Rattle.decoder.proofs.Answers.{one_push}
use Rattle.decoder_slice.specs.Slice.{Took, after_slice}
use Rattle.decoder_slice.specs.declared.Sliced.{Sliced}
use Rattle.decided.specs.One.{With}
use Rattle.decided.proofs.Laws.{injective}
use Rattle.decoder_slice.specs.Decided.{Views, Decided}

pub slice_both : (r r' : With Sliced) → after_slice r.answer r.memory ≡ after_slice r'.answer r'.memory → r ≡ r'
slice_both r r' h =
    let p = one_push (record { decoder = r.answer.decoder; event = r.answer.event })
    (record { decoder = r'.answer.decoder; event = r'.answer.event }) r.memory r'.memory
    (ap (λ (t : Took). after t.answer t.decoder t.memory) h) in
    let n : r.answer.taken ≡ r'.answer.taken = ap (λ (t : Took). t.taken) h in
    λ i. record { answer = record { decoder = (p.0 i).decoder; event = (p.0 i).event; taken = n i }; memory = p.1 i }

pub views : Views
views =
    record {
      sliced = slice_both;
    }

pub decided : Decided
decided =
    record {
      push_slice_claim = λ d buf chunk. injective (λ (r : With Sliced). after_slice r.answer r.memory) views.sliced _;
    }
