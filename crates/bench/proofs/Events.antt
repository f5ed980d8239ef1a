-- The events that a reader still gives, a call at a time.
use mathlib.Core.Path.{◌≡◌, sym, ap, ◌∙◌}
use mathlib.Core.Bool.{Bool, true, false, cond}
use mathlib.Core.List.{List}
use Prim.Native.Nat.{ℕ, suc, ◌+◌, ◌-◌, ◌<◌, ◌≤◌}
use native.Mathlib.Nat.{zero-add}
use native.Mathlib.Numerals.{unary_clauses}
use native.Mathlib.Omega.{arith}
use lib.ListN.{length}
use Rattle.streaming.specs.Next.{ReaderAfter, next_at}
use Rattle.bench.specs.Bench.{is_event, events_from, events}

-- one call more is one event more, or none
module _ (s : List ℕ) (p start pending n m : ℕ) (a : ReaderAfter) (h : n < m) (e : a ≡ next_at s p start pending) where
  step : (t : Bool) → is_event a.answer ≡ t
      → events_from (m - n) s p start pending ≡ cond t (suc (events_from (m - (n + 1)) s a.place a.start a.pending)) 0
  unfolding events_from
  step t f =
      let k : m - n ≡ suc (m - (n + 1)) = omega arith in
      ap (λ (x : ℕ). events_from x s p start pending) k
      ∙ ap (λ (x : ReaderAfter). cond (is_event x.answer) (suc (events_from (m - (n + 1)) s x.place x.start x.pending)) 0) (sym e)
      ∙ ap (λ (x : Bool). cond x (suc (events_from (m - (n + 1)) s a.place a.start a.pending)) 0) f

  pub events_more : is_event a.answer ≡ true → n + 1 + events_from (m - (n + 1)) s a.place a.start a.pending ≡ n + events_from (m - n) s p start pending
  events_more f = omega (arith, step true f)

  pub no_more_lem : is_event a.answer ≡ false → n ≡ n + events_from (m - n) s p start pending
  no_more_lem f = omega (arith, step false f)

pub none_left_lem : (s : List ℕ) (p start pending n m : ℕ) → n ≤ m → m ≤ n → m ≡ n + events_from (m - n) s p start pending
unfolding events_from
none_left_lem s p start pending n m h h' =
    let k : m - n ≡ 0 = omega arith in
    let z : events_from (m - n) s p start pending ≡ 0 = ap (λ (x : ℕ). events_from x s p start pending) k in
    omega (arith, z)

pub none_yet : (s : List ℕ) → 0 + events_from (length s - 0) s 0 0 0 ≡ events s
none_yet s = simp unary_clauses (zero-add (events s))
