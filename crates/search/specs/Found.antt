-- claim: bytes that end with the start sequence, and bytes in which one lies whole.
use Rattle.std.specs.Prelude.{◌≡◌, List, ◌++◌, ℕ}
use Rattle.frame.specs.Frame.{start_seq}

pub record EndsInStart (h : List ℕ) : Type 0 where
  pub before : List ℕ
  pub is : h ≡ before ++ start_seq

pub record HasStart (h : List ℕ) : Type 0 where
  pub before : List ℕ
  pub behind : List ℕ
  pub is : h ≡ before ++ (start_seq ++ behind)

-- none lies whole in h
abbrev pub NoneWhole : List ℕ → Type 0
NoneWhole h = HasStart h → ⊥
