-- What the code's tests on an event and on counts say of the definitions.
use Prim.Native.Nat.{ℕ, ◌+◌, ◌-◌, ◌<◌, ◌≤◌, ◌^◌}
use mathlib.Core.Path.{◌≡◌, refl, sym}
use mathlib.Core.Bool.{Bool, true, false, ◌||◌, false≢true}
use native.Mathlib.Omega.{arith}
use borrow.Author.Tests.{le-ltb, ltb-false}
use lib.Dec.{ltb}
use Rattle.decoder.specs.Record.{bad_decoder, finalize_record}
use Rattle.losses.specs.Watch.{no_look, bad_watch, watched, said_at_end, end_after, watch_end}
use Rattle.losses.specs.declared.Watch.{Watch}

-- ---- counts

or_none : (a b : Bool) → (a || b) ≡ false → (a ≡ false) × (b ≡ false)
or_none true b e = absurd (false≢true (sym e))
or_none false b e = (refl, e)

module _ (w : Watch) (n : ℕ) where
  pub good_watch : bad_watch w n ≡ false → (w.begun ≤ w.pushed) × (w.pushed + n < 2 ^ 64 - 1)
  unfolding bad_watch
  good_watch e =
      let b = or_none (ltb w.pushed w.begun) (ltb 18446744073709551614 (w.pushed + n)) e in
      let le : w.pushed + n ≤ 18446744073709551614 = ltb-false 18446744073709551614 (w.pushed + n) b.1 in
      (ltb-false w.pushed w.begun b.0, omega arith)

  pub is_good_watch : w.begun ≤ w.pushed → w.pushed + n < 2 ^ 64 - 1 → bad_watch w n ≡ false
  unfolding bad_watch
  is_good_watch h m = rw (le-ltb w.pushed w.begun h, le-ltb 18446744073709551614 (w.pushed + n) (omega arith))

-- ---- the recording's end

module _ (w : Watch) where
  pub end_good : bad_watch w 0 ≡ false → bad_decoder w.decoder ≡ false
      → end_after (said_at_end w (finalize_record w.decoder).answer) (watched (finalize_record w.decoder).decoder w.pushed w.pushed no_look) ≡ watch_end w
  unfolding watch_end
  end_good e b = rw (e, b)
