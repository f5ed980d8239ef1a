-- check: mark 1 of crate octet_string. Its contracts allow one outcome for each input, and its views lose nothing. Each crate has such a file.
use Rattle.std.specs.Prelude.{◌≡◌, Bool, List, ℕ, Result}
use Rattle.refusals.specs.Answers.{as_it_is, reads_as}
use Rattle.refusals.specs.declared.BadSpan.{BadSpan}
use Rattle.refusals.specs.declared.Fault.{Fault}
use Rattle.refusals.specs.declared.Span.{Span}
use Rattle.octet_string.specs.Strings.{octets_at, part_of, part_start, span_refusal}
use Rattle.octet_string.specs.Optional.{absent_at}
use Rattle.octet_string.specs.Answers.{span_check}
use Rattle.decided.specs.One.{One, Injective}
use Rattle.decided.specs.Part.{LentPart, part_at}

-- every view that a contract cites
pub record Views : Type 0 where
  pub check : Injective span_check

-- every public function: over its parameters, what its `ensures` allows. A slice that is lent stands for what it holds at the call
pub record Decided : Type 0 where
  pub parse_octet_str : (input : List ℕ) (at : ℕ) → One (λ (r : Result (Span × ℕ) Fault). reads_as as_it_is r ≡ octets_at input at)
  pub octet_str : (input : LentPart) (span : Span) → One (λ (r : LentPart). r ≡ part_at input (part_start input.bytes span) (part_of input.bytes span))
  pub check_span : (input : List ℕ) (span : Span) → One (λ (r : Result (Unit {0}) BadSpan). span_check r ≡ span_refusal input span)
  pub is_absent : (input : List ℕ) (at : ℕ) → One (λ (r : Bool). r ≡ absent_at input at)
