-- Any way of sorting gives what inserting one after the other gives: two strictly ordered lists with the same elements are equal.
use Prim.Native.Nat.{ℕ, zero, suc, ◌<◌, ◌≤◌}
use mathlib.Core.Path.{◌≡◌, refl, sym, ◌∙◌, subst}
use mathlib.Core.List.Memᴰ
use mathlib.Core.List.{List, [], ◌∷◌, Memᴰ}
use mathlib.Core.Bool.{Bool, true, false, true≢false}
use mathlib.Core.Logic.{◌⊎◌, inl, inr, ⊎_elim}
use native.Mathlib.Omega.{arith}
use Rattle.frame.proofs.Cases.{by_test, by_lt}
use Rattle.index.specs.Index.{insert, sorted}
use Rattle.index.specs.Heap.{Shuffle, Done}
use Rattle.index.proofs.Swap.{back_within, back_is, to_apart}
use Rattle.index.proofs.Heap.{Order}

-- the first n elements of a sequence
unfoldable pub tab : {A : Type 0} → (ℕ → A) → ℕ → List A
tab f zero = []
tab f (suc n) = f 0 ∷ tab (λ k. f (suc k)) n

pub data Ordered {A : Type 0} (lt : A → A → Bool) : List A → Type 0 where
  none : Ordered lt []
  more : {a : A} {l : List A} → ((x : A) → Memᴰ x l → lt a x ≡ true) → Ordered lt l → Ordered lt (a ∷ l)

abbrev pub Comparable : {A : Type 0} → (A → A → Bool) → A → A → Type 0
Comparable lt x y = (lt x y ≡ true) ⊎ (lt y x ≡ true)

pub data Apart {A : Type 0} (lt : A → A → Bool) : List A → Type 0 where
  none_apart : Apart lt []
  joins : {a : A} {l : List A} → ((x : A) → Memᴰ x l → Comparable lt a x) → Apart lt l → Apart lt (a ∷ l)

module _ {A : Type 0} (lt : A → A → Bool) (o : Order lt) where
  pub less_trans : (x y z : A) → lt x y ≡ true → lt y z ≡ true → lt x z ≡ true
  less_trans x y z p q = go (lt x z) refl
    where
      go : (t : Bool) → lt x z ≡ t → lt x z ≡ true
      go true e = e
      go false e = absurd (true≢false (sym q ∙ o.passes z x y e (o.asym x y p)))

  less_not : (x : A) → lt x x ≡ true → ⊥
  less_not x e = true≢false (sym e ∙ o.asym x x e)

  -- ---- inserting
  insert_in : (r x : A) (l : List A) → Memᴰ x (insert lt r l) → (x ≡ r) ⊎ Memᴰ x l
  unfolding insert
  insert_in r x [] m = Memᴰ.cases_cons m
  insert_in r x (q ∷ qs) m =
      by_test (λ v. Memᴰ x v → (x ≡ r) ⊎ Memᴰ x (q ∷ qs)) (lt r q) _ _
      (λ t n. Memᴰ.cases_cons n)
      (λ t n. ⊎_elim (λ e. inr (Memᴰ.head e)) (λ k. ⊎_elim (λ e. inl e) (λ z. inr (Memᴰ.tail z)) (insert_in r x qs k)) (Memᴰ.cases_cons n))
      m

  in_new : (r : A) (l : List A) → Memᴰ r (insert lt r l)
  unfolding insert
  in_new r [] = Memᴰ.head refl
  in_new r (q ∷ qs) = by_test (λ v. Memᴰ r v) (lt r q) _ _ (λ t. Memᴰ.head refl) (λ t. Memᴰ.tail (in_new r qs))

  in_old : (r x : A) (l : List A) → Memᴰ x l → Memᴰ x (insert lt r l)
  unfolding insert
  in_old r x [] m = absurd (Memᴰ.not-nil m)
  in_old r x (q ∷ qs) m =
      by_test (λ v. Memᴰ x v) (lt r q) _ _
      (λ t. Memᴰ.tail m)
      (λ t. ⊎_elim (λ e. Memᴰ.head e) (λ k. Memᴰ.tail (in_old r x qs k)) (Memᴰ.cases_cons m))

  comparable_is : {x y : A} → Comparable lt x y → lt x y ≡ false → lt y x ≡ true
  comparable_is (inl t) f = absurd (true≢false (sym t ∙ f))
  comparable_is (inr t) f = t

  insert_ordered : (r : A) (l : List A) → Ordered lt l → ((x : A) → Memᴰ x l → Comparable lt r x) → Ordered lt (insert lt r l)
  unfolding insert
  insert_ordered r [] w c = more (λ x m. absurd (Memᴰ.not-nil m)) none
  insert_ordered r (q ∷ qs) (more h w) c =
      by_test (Ordered lt) (lt r q) _ _
      (λ t. more (λ x m. ⊎_elim (λ e. rw e t) (λ k. less_trans r q x t (h x k)) (Memᴰ.cases_cons m)) (more h w))
      (λ f. more
      (λ x m. ⊎_elim (λ e. rw e (comparable_is (c q (Memᴰ.head refl)) f)) (λ k. h x k) (insert_in r x qs m))
      (insert_ordered r qs w (λ x m. c x (Memᴰ.tail m))))

  -- ---- sorting
  pub sorted_in : (x : A) (l : List A) → Memᴰ x (sorted lt l) → Memᴰ x l
  unfolding sorted
  sorted_in x [] m = m
  sorted_in x (r ∷ rs) m = ⊎_elim (λ e. Memᴰ.head e) (λ k. Memᴰ.tail (sorted_in x rs k)) (insert_in r x (sorted lt rs) m)

  pub in_sorted : (x : A) (l : List A) → Memᴰ x l → Memᴰ x (sorted lt l)
  unfolding sorted
  in_sorted x [] m = m
  in_sorted x (r ∷ rs) m =
      ⊎_elim (λ e. subst (λ (v : A). Memᴰ v (insert lt r (sorted lt rs))) (sym e) (in_new r (sorted lt rs)))
      (λ k. in_old r x (sorted lt rs) (in_sorted x rs k)) (Memᴰ.cases_cons m)

  pub sorted_ordered : (l : List A) → Apart lt l → Ordered lt (sorted lt l)
  unfolding sorted
  sorted_ordered [] none_apart = none
  sorted_ordered (r ∷ rs) (joins c a) = insert_ordered r (sorted lt rs) (sorted_ordered rs a) (λ x m. c x (sorted_in x rs m))

  -- ---- only one list is strictly ordered and has these elements
  same_head : (a b : A) (k l : List A) → Ordered lt (a ∷ k) → Ordered lt (b ∷ l) → Memᴰ a (b ∷ l) → Memᴰ b (a ∷ k) → a ≡ b
  same_head a b k l (more h v) (more g w) m n =
      ⊎_elim (λ e. e) (λ i. ⊎_elim (λ e. sym e) (λ j. absurd (true≢false (sym (h b j) ∙ o.asym b a (g a i)))) (Memᴰ.cases_cons n)) (Memᴰ.cases_cons m)

  -- what is behind the head is none of it
  rest_in : (a b x : A) (k l : List A) → a ≡ b → Ordered lt (a ∷ k) → Memᴰ x k → Memᴰ x (b ∷ l) → Memᴰ x l
  rest_in a b x k l e (more h v) m n = ⊎_elim (λ i. absurd (less_not a (subst (λ (z : A). lt a z ≡ true) (i ∙ sym e) (h x m)))) (λ i. i) (Memᴰ.cases_cons n)

  pub unique : (k l : List A) → Ordered lt k → Ordered lt l → ((x : A) → Memᴰ x k → Memᴰ x l) → ((x : A) → Memᴰ x l → Memᴰ x k) → k ≡ l
  unique [] [] v w f g = refl
  unique [] (b ∷ l) v w f g = absurd (Memᴰ.not-nil (g b (Memᴰ.head refl)))
  unique (a ∷ k) [] v w f g = absurd (Memᴰ.not-nil (f a (Memᴰ.head refl)))
  unique (a ∷ k) (b ∷ l) (more h v) (more i w) f g =
      let e : a ≡ b = same_head a b k l (more h v) (more i w) (f a (Memᴰ.head refl)) (g b (Memᴰ.head refl)) in
      let t : k ≡ l = unique k l v w
      (λ x m. rest_in a b x k l e (more h v) m (f x (Memᴰ.tail m)))
      (λ x m. rest_in b a x l k (sym e) (more i w) m (g x (Memᴰ.tail m))) in
      cc

-- ---- the first n of a sequence
pub record FoundAt {A : Type 0} (f : ℕ → A) (n : ℕ) (x : A) : Type 0 where
  pub at : ℕ
  pub low : at < n
  pub is : x ≡ f at

tab_found : {A : Type 0} (f : ℕ → A) (n : ℕ) (x : A) → Memᴰ x (tab f n) → FoundAt f n x
unfolding tab
tab_found f zero x m = absurd (Memᴰ.not-nil m)
tab_found f (suc n) x m =
    ⊎_elim (λ e. record { at = 0; low = omega arith; is = e })
    (λ k. let w = tab_found (λ k. f (suc k)) n x k in record { at = suc w.at; low = omega (arith, w.low); is = w.is })
    (Memᴰ.cases_cons m)

pub found_tab : {A : Type 0} (f : ℕ → A) (n k : ℕ) (x : A) → k < n → x ≡ f k → Memᴰ x (tab f n)
unfolding tab
found_tab f zero k x h e = absurd (omega arith)
found_tab f (suc n) zero x h e = Memᴰ.head e
found_tab f (suc n) (suc k) x h e = Memᴰ.tail (found_tab (λ k. f (suc k)) n k x (omega arith) e)

module _ {A : Type 0} (lt : A → A → Bool) where
  tab_ordered : (f : ℕ → A) (n : ℕ) → ((j k : ℕ) → j < k → k < n → lt (f j) (f k) ≡ true) → Ordered lt (tab f n)
  unfolding tab
  tab_ordered f zero h = none
  tab_ordered f (suc n) h =
      more (λ x m. let w = tab_found (λ k. f (suc k)) n x m in subst (λ (v : A). lt (f 0) v ≡ true) (sym w.is) (h 0 (suc w.at) (omega arith) (omega (arith, w.low))))
      (tab_ordered (λ k. f (suc k)) n (λ j k l b. h (suc j) (suc k) (omega arith) (omega arith)))

  tab_apart : (f : ℕ → A) (n : ℕ) → ((j k : ℕ) → j < k → k < n → Comparable lt (f j) (f k)) → Apart lt (tab f n)
  unfolding tab
  tab_apart f zero h = none_apart
  tab_apart f (suc n) h =
      joins (λ x m. let w = tab_found (λ k. f (suc k)) n x m in subst (λ (v : A). Comparable lt (f 0) v) (sym w.is) (h 0 (suc w.at) (omega arith) (omega (arith, w.low))))
      (tab_apart (λ k. f (suc k)) n (λ j k l b. h (suc j) (suc k) (omega arith) (omega arith)))

  turned : {x y : A} → Comparable lt x y → Comparable lt y x
  turned (inl e) = inr e
  turned (inr e) = inl e

  -- the shuffled elements, each placed, are the sorted ones
  module _ (o : Order lt) (n : ℕ) (f g : ℕ → A) (d : Done lt 1 n f) (s : Shuffle n f g) (a : (j k : ℕ) → j < k → k < n → Comparable lt (g j) (g k)) where
    strict : (j k : ℕ) → j < k → k < n → lt (f j) (f k) ≡ true
    strict j k l b = comparable_is lt o (subst (λ (v : A). Comparable lt v (f j)) (sym (s.is k)) (subst (λ (v : A). Comparable lt (g (s.to k)) v) (sym (s.is j)) either_way)) (d.placed j k l (omega arith) b)
      where
        either_way : Comparable lt (g (s.to k)) (g (s.to j))
        either_way =
            by_lt {A = ℕ} (λ v. Comparable lt (g (s.to k)) (g (s.to j))) (s.to k) (s.to j) 0 0
            (λ h. a (s.to k) (s.to j) h (s.within j (omega arith)))
            (λ h. turned (a (s.to j) (s.to k) (apart h (to_apart s j k (λ e. omega arith))) (s.within k b)))
          where
            apart : {x y : ℕ} → x ≤ y → (x ≡ y → ⊥) → x < y
            apart h n = omega arith

    pub placed_sorted : tab f n ≡ sorted lt (tab g n)
    placed_sorted =
        unique lt o (tab f n) (sorted lt (tab g n)) (tab_ordered f n strict) (sorted_ordered lt o (tab g n) (tab_apart g n a))
        (λ x m. let w = tab_found f n x m in in_sorted lt o x (tab g n) (found_tab g n (s.to w.at) x (s.within w.at w.low) (w.is ∙ s.is w.at)))
        (λ x m. let w = tab_found g n x (sorted_in lt o x (tab g n) m) in found_tab f n (s.back w.at) x (back_within s w.at w.low) (w.is ∙ back_is s w.at))
