-- Words written one by one, or some at once, over others.
use Prim.Native.Nat.{ℕ, suc, ◌+◌, ◌<◌}
use mathlib.Core.Path.{◌≡◌, refl}
use mathlib.Core.List.{List, [], ◌∷◌}
use native.Mathlib.Omega.{arith}
use native.Mathlib.Numerals.{add-one}
use lib.ListN.{length, set}
use lib.Seq.{set_split, drop-set-lt, drop-drop}
use Rattle.std.proofs.lemmas.Grind.{take-set_at}
use Rattle.std.proofs.lemmas.List.{append_assoc}
use borrow.Rule.Slice.PartMut.{put_mid}
use Rattle.words.specs.Cut.{put_at}

pub one_over : (l : List ℕ) (at x : ℕ) → at < length l → set l at x ≡ put_at l at (x ∷ [])
unfolding put_at
one_over l at x h = rw add-one (set_split l at x h)

pub part_over : (l m : List ℕ) (at k : ℕ) → length m ≡ k → put_mid at k l m ≡ put_at l at m
unfolding put_at
part_over l m at k e = rw (e, drop-drop)

pub one_then_over : (l m : List ℕ) (at x : ℕ) → at < length l → put_at (set l at x) (at + 1) m ≡ put_at l at (x ∷ m)
unfolding put_at
one_then_over l m at x h =
    let end : at + 1 + length m ≡ at + suc (length m) = omega arith in
    rw (take-set_at l at (at + 1) x refl h, append_assoc, drop-set-lt (at + 1 + length m) l at x (omega arith), end)
