-- An entry written again and again: what is still to be written makes the whole.
use mathlib.Core.Path.{◌≡◌, refl}
use mathlib.Core.List.{List}
use Prim.Native.Nat.{ℕ, suc, ◌+◌, ◌-◌, ◌≤◌, ◌<◌}
use native.Mathlib.Omega.{arith}
use Rattle.refusals.specs.declared.Span.{Span}
use Rattle.common.specs.Fields.{ListEntry}
use Rattle.writer.specs.Calls.{to, not_written, entry_to}
use Rattle.writer.specs.Answers.{after_write}
use Rattle.writer.specs.declared.ListWriter.{ListWriter}
use Rattle.bench.specs.Bench.{CountedIn, counted, written_times}

-- n are written, and the rest makes the whole
pub record WithRest (n : ℕ) (rest whole : CountedIn) : Type 0 where
  pub number : n + rest.number ≡ whole.number
  pub memory : rest.memory ≡ whole.memory

pub rest_first : (k : ℕ) (out : List ℕ) (w : ListWriter) (strings : List ℕ) (e : ListEntry Span) → WithRest 0 (written_times (k - 0) out w strings e) (written_times k out w strings e)
rest_first k out w strings e = let m : k - 0 ≡ k = omega arith in rw m (record { number = omega arith; memory = refl })

pub rest_taken : (k n : ℕ) (out : List ℕ) (w : ListWriter) (strings : List ℕ) (e : ListEntry Span) (v : ListWriter) (next : List ℕ) (whole : CountedIn) → n < k
    → after_write (to v) next ≡ entry_to out w strings e → WithRest n (written_times (k - n) out w strings e) whole → WithRest (n + 1) (written_times (k - (n + 1)) next v strings e) whole
unfolding written_times
rest_taken k n out w strings e v next whole h q r =
    let m : k - n ≡ suc (k - (n + 1)) = omega arith in
    let s : WithRest n (counted (suc (written_times (k - (n + 1)) next v strings e).number) (written_times (k - (n + 1)) next v strings e).memory) whole = rw (m, ← q) at r in
    record { number = omega (arith, s.number); memory = s.memory }

pub rest_refused_claim : (k n : ℕ) (out : List ℕ) (w : ListWriter) (strings : List ℕ) (e : ListEntry Span) (number : ℕ) (next : List ℕ) (whole : CountedIn) → n < k
    → after_write (not_written number) next ≡ entry_to out w strings e → WithRest n (written_times (k - n) out w strings e) whole → counted n next ≡ whole
unfolding written_times
rest_refused_claim k n out w strings e number next whole h q r =
    let m : k - n ≡ suc (k - (n + 1)) = omega arith in
    let s : WithRest n (counted 0 next) whole = rw (m, ← q) at r in
    let a : n ≡ whole.number = omega (arith, s.number) in
    λ i. record { number = a i; memory = s.memory i }

pub rest_done : (k n : ℕ) (out : List ℕ) (w : ListWriter) (strings : List ℕ) (e : ListEntry Span) (whole : CountedIn) → n ≤ k → k ≤ n → WithRest n (written_times (k - n) out w strings e) whole → counted k out ≡ whole
unfolding written_times
rest_done k n out w strings e whole h h' r =
    let m : k - n ≡ 0 = omega arith in
    let s : WithRest n (counted 0 out) whole = rw m at r in
    let a : k ≡ whole.number = omega (arith, s.number) in
    λ i. record { number = a i; memory = s.memory i }
