-- A view that can be undone loses nothing, and a description by such a view allows one outcome.
use mathlib.Core.Path.{◌≡◌, sym, ap, ◌∙◌}
use Rattle.decided.specs.One.{One, Injective}

-- a description that names the outcome itself
pub one_outcome : {R : Type 0} (s : R) → One (λ (r : R). r ≡ s)
one_outcome s r r' e e' = e ∙ sym e'

-- a view that loses nothing
pub injective : {R A : Type 0} (view : R → A) → Injective view → (s : A) → One (λ (r : R). view r ≡ s)
injective view h s r r' e e' = h r r' (e ∙ sym e')

-- a view that can be undone loses nothing
pub undone : {R A : Type 0} (view : R → A) (back : A → R) → ((r : R) → back (view r) ≡ r) → Injective view
undone view back h r r' e = sym (h r) ∙ ap back e ∙ h r'
