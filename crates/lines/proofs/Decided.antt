-- The view can be undone, so the contract allows one outcome for each input.
use Rattle.std.specs.Prelude.{ℕ, Result, Ok, Err}
use mathlib.Core.Path.{◌≡◌, refl, ap}
use Rattle.lines.specs.Lines.{LineAnswer, line_length, no_line, line_answer, AfterLine, after_line}
use Rattle.lines.specs.declared.OutputTooShort.{OutputTooShort}
use Rattle.decided.specs.One.{With}
use Rattle.decided.proofs.Laws.{injective, undone}
use Rattle.lines.specs.Decided.{Views, Decided}

written_from : LineAnswer → Result ℕ OutputTooShort
written_from (line_length n) = Ok n
written_from (no_line k) = Err (record {})

written_back : (r : Result ℕ OutputTooShort) → written_from (line_answer r) ≡ r
unfolding written_from
written_back (Ok n) = refl
written_back (Err short) = refl

line_one : (r r' : With (Result ℕ OutputTooShort)) → after_line (line_answer r.answer) r.memory ≡ after_line (line_answer r'.answer) r'.memory → r ≡ r'
line_one r r' h =
    let a : r.answer ≡ r'.answer = undone line_answer written_from written_back _ _ (ap (λ (l : AfterLine). l.answer) h) in
    let m : r.memory ≡ r'.memory = ap (λ (l : AfterLine). l.output) h in
    λ i. record { answer = a i; memory = m i }

pub views : Views
views = record { line = line_one }

pub decided : Decided
decided = record { write_line = λ event payload out. injective (λ (r : With (Result ℕ OutputTooShort)). after_line (line_answer r.answer) r.memory) views.line _ }
