-- The order of rows is strict, what is not before passes on, and rows with different starts are one before the other.
use Prim.Native.Nat.{ℕ, ◌<◌, ◌≤◌}
use mathlib.Core.List.{List}
use mathlib.Core.Path.{◌≡◌, refl, sym, ap, ◌∙◌, subst}
use mathlib.Core.Bool.{Bool, true, false, cond, true≢false}
use mathlib.Core.Logic.{◌⊎◌, inl, inr}
use native.Mathlib.Omega.{arith}
use borrow.Author.Tests.{lt-ltb, le-ltb, ltb-true, ltb-false}
use lib.Dec.{ltb}
use Rattle.whole.specs.Whole.{EntryRow}
use Rattle.octet_string.specs.Strings.{part_of}
use Rattle.index.specs.Index.{before, has_name}
use Rattle.frame.proofs.Cases.{by_lt}
use Rattle.frame.specs.Frame.{same}
use Rattle.frame.proofs.Same.{same_true, same_self}
use Rattle.std.specs.declared.cmp.Ordering.{Ordering}
use Rattle.std.specs.Ordering.{ordering_index}
use Rattle.std.specs.Bool.{◌==◌}
use Rattle.name_order.specs.Order.{lower, compared}
use Rattle.std.specs.declared.cmp.Ordering.TheVariants.{Less, Equal, Greater}
use Rattle.name_order.proofs.Lower as L
use Rattle.name_order.proofs.Lower.{Lower, true_lower, lower_asym, lower_trans, Compared, comparing}
use Rattle.name_order.proofs.Compared.{not_lower, same_not, says_less, says_equal, says_greater}

-- the test over the names x and y and the places a and b
unfoldable key : List ℕ → List ℕ → ℕ → ℕ → Bool
key x y a b = cond (lower x y) true (cond (lower y x) false (ltb a b))

-- not behind: by name, or the names are the same and it starts no later
data KeyUpto (x y : List ℕ) (a b : ℕ) : Type 0 where
  by_name_lem : Lower x y → KeyUpto x y a b
  by_place_claim : x ≡ y → a ≤ b → KeyUpto x y a b

key_name : (x y : List ℕ) (a b : ℕ) → Lower x y → key x y a b ≡ true
unfolding key
key_name x y a b r = rw (true_lower r)

key_place : (x y : List ℕ) (a b : ℕ) → x ≡ y → key x y a b ≡ ltb a b
unfolding key
key_place x y a b e = rw (not_lower x y (same_not x y e), not_lower y x (same_not y x (sym e)))

key_behind : (x y : List ℕ) (a b : ℕ) → Lower y x → key x y a b ≡ false
unfolding key
key_behind x y a b r = rw (not_lower x y (λ t. lower_asym t r), true_lower r)

upto_key : (x y : List ℕ) (a b : ℕ) → KeyUpto x y a b → key y x b a ≡ false
upto_key x y a b (by_name_lem r) = key_behind y x b a r
upto_key x y a b (by_place_claim e h) = key_place y x b a (sym e) ∙ le-ltb b a h

key_upto : (x y : List ℕ) (a b : ℕ) → key y x b a ≡ false → KeyUpto x y a b
key_upto x y a b f = go (comparing x y)
  where
    go : Compared x y → KeyUpto x y a b
    go (L.less_name r) = by_name_lem r
    go (L.equal_names e) = by_place_claim e (ltb-false b a (sym (key_place y x b a (sym e)) ∙ f))
    go (L.greater_name r) = absurd (true≢false (sym (key_name y x b a r) ∙ f))

upto_trans : (x y z : List ℕ) (a b c : ℕ) → KeyUpto x y a b → KeyUpto y z b c → KeyUpto x z a c
upto_trans x y z a b c (by_name_lem r) (by_name_lem t) = by_name_lem (lower_trans r t)
upto_trans x y z a b c (by_name_lem r) (by_place_claim e h) = by_name_lem (subst (λ (w : List ℕ). Lower x w) e r)
upto_trans x y z a b c (by_place_claim e h) (by_name_lem t) = by_name_lem (subst (λ (w : List ℕ). Lower w z) (sym e) t)
upto_trans x y z a b c (by_place_claim e h) (by_place_claim f i) = by_place_claim (e ∙ f) (omega arith)

key_asym : (x y : List ℕ) (a b : ℕ) → key x y a b ≡ true → key y x b a ≡ false
key_asym x y a b t = go (comparing x y)
  where
    go : Compared x y → key y x b a ≡ false
    go (L.less_name r) = key_behind y x b a r
    go (L.equal_names e) =
        let h : a < b = ltb-true a b (sym (key_place x y a b e) ∙ t) in
        key_place y x b a (sym e) ∙ le-ltb b a (omega arith)
    go (L.greater_name r) = absurd (true≢false (sym t ∙ key_behind x y a b r))

key_apart : (x y : List ℕ) (a b : ℕ) → (a ≡ b → ⊥) → (key x y a b ≡ true) ⊎ (key y x b a ≡ true)
key_apart x y a b n = go (comparing x y)
  where
    go : Compared x y → (key x y a b ≡ true) ⊎ (key y x b a ≡ true)
    go (L.less_name r) = inl (key_name x y a b r)
    go (L.equal_names e) =
        by_lt {A = ℕ} (λ v. (key x y a b ≡ true) ⊎ (key y x b a ≡ true)) a b 0 0
        (λ h. inl (key_place x y a b e ∙ lt-ltb a b h))
        (λ h. inr (key_place y x b a (sym e) ∙ lt-ltb b a (omega arith)))
    go (L.greater_name r) = inr (key_name y x b a r)

module _ (s : List ℕ) where
  pub before_asym : (p q : EntryRow) → before s p q ≡ true → before s q p ≡ false
  unfolding before key
  before_asym p q e = key_asym (part_of s p.name) (part_of s q.name) p.entry.start q.entry.start e

  pub upto_before : (p q r : EntryRow) → before s q p ≡ false → before s r q ≡ false → before s r p ≡ false
  unfolding before key
  upto_before p q r e f =
      upto_key _ _ p.entry.start r.entry.start
      (upto_trans (part_of s p.name) (part_of s q.name) (part_of s r.name) _ q.entry.start _ (key_upto _ _ _ _ e) (key_upto _ _ _ _ f))

  pub apart_before : (p q : EntryRow) → (p.entry.start ≡ q.entry.start → ⊥) → (before s p q ≡ true) ⊎ (before s q p ≡ true)
  unfolding before key
  apart_before p q n = key_apart (part_of s p.name) (part_of s q.name) p.entry.start q.entry.start n

  -- rows with one name stand in the order of their entries
  pub place_before : (p q : EntryRow) → part_of s p.name ≡ part_of s q.name → before s p q ≡ ltb p.entry.start q.entry.start
  unfolding before key
  place_before p q e = key_place (part_of s p.name) (part_of s q.name) p.entry.start q.entry.start e

-- ---- by the outcome of comparing names

module _ (s : List ℕ) (p q : EntryRow) where
  pub before_less : compared (part_of s p.name) (part_of s q.name) ≡ Less → before s p q ≡ true
  unfolding before key
  before_less e = key_name _ _ p.entry.start q.entry.start (says_less _ _ e)

  pub before_equal : compared (part_of s p.name) (part_of s q.name) ≡ Equal → before s p q ≡ ltb p.entry.start q.entry.start
  before_equal e = place_before s p q (says_equal _ _ e)

  pub before_greater : compared (part_of s p.name) (part_of s q.name) ≡ Greater → before s p q ≡ false
  unfolding before key
  before_greater e = key_behind _ _ p.entry.start q.entry.start (says_greater _ _ e)

-- exactly that name
module _ (s name : List ℕ) (r : EntryRow) where
  named_so : compared (part_of s r.name) name ≡ Equal → has_name s name r ≡ true
  unfolding has_name
  named_so e = rw (says_equal _ _ e) (same_self _)

  named_not : (part_of s r.name ≡ name → ⊥) → has_name s name r ≡ false
  unfolding has_name
  named_not n = go (same (part_of s r.name) name) refl
    where
      go : (t : Bool) → same (part_of s r.name) name ≡ t → same (part_of s r.name) name ≡ false
      go true e = absurd (n (same_true _ _ e))
      go false e = e

  named_index : (o : Ordering) → o ≡ compared (part_of s r.name) name → (ordering_index o == 1) ≡ has_name s name r
  named_index Less e = sym (named_not (λ q. same_not _ _ q (says_less _ _ (sym e))))
  named_index Equal e = sym (named_so (sym e))
  named_index Greater e = sym (named_not (λ q. same_not _ _ (sym q) (says_greater _ _ (sym e))))

  pub named_as : (x : List ℕ) (o : Ordering) → x ≡ part_of s r.name → o ≡ compared x name → (ordering_index o == 1) ≡ has_name s name r
  named_as x o q e = named_index o (e ∙ ap (λ (z : List ℕ). compared z name) q)
