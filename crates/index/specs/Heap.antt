-- cut: heaps and shuffles of a sequence, by index; f k is the row at k.
use Rattle.std.specs.Prelude.{ℕ, ◌+◌, ◌*◌, ◌<◌, ◌≤◌, ◌≡◌, List, Bool, false, cond, length, drop, eqb}
use Rattle.index.specs.Rows.{nth_row}

-- i and j for each other, any other index for itself
unfoldable pub swap : ℕ → ℕ → ℕ → ℕ
swap i j k = cond (eqb k i) j (cond (eqb k j) i k)

-- f is g with its first n places shuffled
pub record Shuffle {A : Type 0} (n : ℕ) (f g : ℕ → A) : Type 0 where
  pub to : ℕ → ℕ
  pub back : ℕ → ℕ
  pub is : (k : ℕ) → f k ≡ g (to k)
  pub there : (k : ℕ) → back (to k) ≡ k
  pub again : (k : ℕ) → to (back k) ≡ k
  pub within : (k : ℕ) → k < n → to k < n
  pub stays : (k : ℕ) → n ≤ k → to k ≡ k

-- x is not behind y
abbrev pub Upto : {A : Type 0} → (A → A → Bool) → A → A → Type 0
Upto lt x y = lt y x ≡ false

-- q is one of the two places under p
abbrev pub Under : ℕ → ℕ → Type 0
Under p q = (2 * p + 1 ≤ q) × (q ≤ 2 * p + 2)

-- from lo on, no place below end is behind the one that it is under
pub record Heap {A : Type 0} (lt : A → A → Bool) (lo end : ℕ) (f : ℕ → A) : Type 0 where
  pub down : (p q : ℕ) → lo ≤ p → Under p q → q < end → Upto lt (f q) (f p)

-- the same but for what stands under i; that is not behind what i is under
pub record HeapBut {A : Type 0} (lt : A → A → Bool) (lo end i : ℕ) (f : ℕ → A) : Type 0 where
  pub down : (p q : ℕ) → lo ≤ p → Under p q → q < end → (p ≡ i → ⊥) → Upto lt (f q) (f p)
  pub over : (p q : ℕ) → lo ≤ p → Under p i → Under i q → q < end → Upto lt (f q) (f p)

-- c is i or a place under it, and holds what none of these is behind
pub record Top {A : Type 0} (lt : A → A → Bool) (end i c : ℕ) (f : ℕ → A) : Type 0 where
  pub inside : c < end
  pub near : (c ≡ i → ⊥) → Under i c
  pub own : Upto lt (f i) (f c)
  pub all : (q : ℕ) → Under i q → q < end → Upto lt (f q) (f c)

-- from end on each of the n is in its place
pub record Done {A : Type 0} (lt : A → A → Bool) (end n : ℕ) (f : ℕ → A) : Type 0 where
  pub placed : (j k : ℕ) → j < k → end ≤ k → k < n → Upto lt (f j) (f k)

-- the table t is u with its first n rows shuffled
pub record RowsKept (n : ℕ) (t u : List ℕ) : Type 0 where
  pub long : length t ≡ length u
  pub rest : drop (4 * n) t ≡ drop (4 * n) u
  pub rows : Shuffle n (nth_row t) (nth_row u)

-- r is i or j, and holds what neither is behind; a j from end on is none
pub record LargerOf {A : Type 0} (lt : A → A → Bool) (end i j r : ℕ) (f : ℕ → A) : Type 0 where
  pub inside : r < end
  pub one : (r ≡ i → ⊥) → r ≡ j
  pub own : Upto lt (f i) (f r)
  pub new : j < end → Upto lt (f j) (f r)
