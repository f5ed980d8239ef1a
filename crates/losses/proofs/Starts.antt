-- The two tests for a whole start sequence, and what they say of the bytes.
use mathlib.Core.Path.{◌≡◌, refl, ap, sym, ◌∙◌}
use mathlib.Core.Bool.{Bool, true, false, false≢true, ◌||◌}
use mathlib.Core.List.{List, [], ◌∷◌, ◌++◌}
use Prim.Native.Nat.{ℕ}
use lib.ListN.{drop, take, take-append-drop}
use Rattle.frame.specs.Frame.{start_seq, same}
use Rattle.frame.proofs.Same.{same_true}
use Rattle.search.specs.Found.{HasStart, NoneWhole}
use Rattle.losses.specs.Loss.{begins_in_start, has_start}

pub never_true : (t : Bool) → (t ≡ true → ⊥) → t ≡ false
never_true true n = absurd (n refl)
never_true false n = refl

-- ---- at the beginning

pub begins_true : (w : List ℕ) → begins_in_start w ≡ true → w ≡ start_seq ++ drop 8 w
begins_true w t = sym (take-append-drop 8 w) ∙ ap (λ (l : List ℕ). l ++ drop 8 w) (same_true (take 8 w) start_seq t)

pub begins_start : (z : List ℕ) → begins_in_start (start_seq ++ z) ≡ true
unfolding same
begins_start z = refl

-- ---- anywhere

or_true : (a b : Bool) {G : Type 0} → a || b ≡ true → (a ≡ true → G) → (b ≡ true → G) → G
or_true true b e f g = f refl
or_true false b e f g = g e

or_second : (a b : Bool) → b ≡ true → a || b ≡ true
or_second true b e = refl
or_second false b e = e

pub has_start_true : (w : List ℕ) → has_start w ≡ true → HasStart w
unfolding has_start
has_start_true [] t = absurd (false≢true t)
has_start_true (b ∷ l) t =
    or_true (begins_in_start (b ∷ l)) (has_start l) t
    (λ e. record { before = []; behind = drop 8 (b ∷ l); is = begins_true (b ∷ l) e })
    (λ e. let r : HasStart l = has_start_true l e in record { before = b ∷ r.before; behind = r.behind; is = ap (λ (k : List ℕ). b ∷ k) r.is })

has_at : (x z : List ℕ) → has_start (x ++ (start_seq ++ z)) ≡ true
unfolding has_start same
has_at [] z = refl
has_at (b ∷ x) z = or_second (begins_in_start (b ∷ (x ++ (start_seq ++ z)))) (has_start (x ++ (start_seq ++ z))) (has_at x z)

pub has_start_of : (w : List ℕ) → HasStart w → has_start w ≡ true
has_start_of w h = rw h.is (has_at h.before h.behind)

pub has_start_none : (w : List ℕ) → has_start w ≡ false → NoneWhole w
has_start_none w f h = false≢true (sym f ∙ has_start_of w h)

pub none_has_start : (w : List ℕ) → NoneWhole w → has_start w ≡ false
none_has_start w n = never_true (has_start w) (λ t. n (has_start_true w t))

pub none_at_first : (w : List ℕ) → NoneWhole w → begins_in_start w ≡ false
none_at_first w n = never_true (begins_in_start w) (λ t. n (record { before = []; behind = drop 8 w; is = begins_true w t }))
