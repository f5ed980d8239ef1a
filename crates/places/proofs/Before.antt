-- What two inputs with the same bytes before a place have in common.
use mathlib.Core.Path.{◌≡◌, refl, sym, ap, ◌∙◌}
use mathlib.Core.Bool.{Bool, true, false}
use mathlib.Core.List.{List, [], ◌∷◌, ◌++◌}
use Prim.Native.Nat.{ℕ, zero, suc, ◌+◌, ◌≤◌, ◌<◌}
use native.Mathlib.Nat.{zero-add, suc-add}
use native.Mathlib.Omega.{arith}
use lib.ListN.{length, get_or, take, drop, replicate, length-append}
use lib.Dec.{leb}
use lib.Seq.{take-take, take_all, take-nil, drop-nil, get_or-take, length-take-le, take_at, get_or_at}
use borrow.Author.Tests.{leb-true, leb-false}
use Rattle.places.specs.Stands.{SameBefore}

pub same_all : (n : ℕ) (s : List ℕ) → SameBefore n s s
same_all n s = record { bytes = refl }

pub same_less : {s t : List ℕ} {m n : ℕ} → m ≤ n → SameBefore n s t → SameBefore m s t
same_less {s} {t} {m} {n} h e = record { bytes = sym (take-take m n t h) ∙ ap (λ (l : List ℕ). take m l) e.bytes ∙ take-take m n s h }

-- a cut has the bytes before it
pub same_cut : (s : List ℕ) {m n : ℕ} → n ≤ m → SameBefore n s (take m s)
same_cut s {m} {n} h = record { bytes = take-take n m s h }

pub same_byte : {s t : List ℕ} {n : ℕ} (i : ℕ) → i < n → SameBefore n s t → get_or t i 0 ≡ get_or s i 0
same_byte {s} {t} {n} i h e = sym (get_or-take n t i 0 h) ∙ ap (λ (l : List ℕ). get_or l i 0) e.bytes ∙ get_or-take n s i 0 h

pub same_long : {s t : List ℕ} {n : ℕ} → n ≤ length s → SameBefore n s t → n ≤ length t
same_long {s} {t} {n} h e = by (leb n (length t)) refl
  where
    by : (p : Bool) → leb n (length t) ≡ p → n ≤ length t
    by true q = leb-true n (length t) q
    by false q =
        let k = leb-false n (length t) q in
        omega (arith, ap length (sym (take_all n t (omega arith)) ∙ e.bytes), length-take-le n s h)

-- one that has the same bytes up to a place behind the end is the same
pub same_whole : {s t : List ℕ} {n : ℕ} → length s < n → SameBefore n s t → t ≡ s
same_whole {s} {t} {n} h e = by (leb n (length t)) refl
  where
    by : (p : Bool) → leb n (length t) ≡ p → t ≡ s
    by true q = let k = leb-true n (length t) q in absurd (omega (arith, ap length (e.bytes ∙ take_all n s (omega arith)), length-take-le n t k))
    by false q = let k = leb-false n (length t) q in sym (take_all n t (omega arith)) ∙ e.bytes ∙ take_all n s (omega arith)

part_cut : (a b : ℕ) (l : List ℕ) → take b (drop a l) ≡ drop a (take (a + b) l)
part_cut zero b l = ap (λ (k : ℕ). take k l) (sym (zero-add b))
part_cut (suc a) b [] = take-nil b ∙ sym (drop-nil (suc a)) ∙ ap (λ (l : List ℕ). drop (suc a) l) (sym (take-nil (suc a + b)))
part_cut (suc a) b (x ∷ l) = part_cut a b l ∙ ap (λ (k : ℕ). drop (suc a) (take k (x ∷ l))) (sym (suc-add a b))

pub same_part : {s t : List ℕ} {n : ℕ} (a b : ℕ) → a + b ≤ n → SameBefore n s t → take b (drop a t) ≡ take b (drop a s)
same_part {s} {t} a b h e = part_cut a b t ∙ ap (λ (l : List ℕ). drop a l) (same_less h e).bytes ∙ sym (part_cut a b s)

-- ---- bytes put behind the first p

pub length_front : (s b : List ℕ) (p : ℕ) → p ≤ length s → length (take p s ++ b) ≡ p + length b
length_front s b p h = omega (arith, length-append (take p s) b, length-take-le p s h)

pub same_front : (s b : List ℕ) (p : ℕ) → p ≤ length s → SameBefore p s (take p s ++ b)
same_front s b p h = record { bytes = take_at (take p s) b p (length-take-le p s h) }

pub byte_front : (s b : List ℕ) (x p : ℕ) → p ≤ length s → get_or (take p s ++ x ∷ b) p 0 ≡ x
byte_front s b x p h = get_or_at (take p s) x b 0 p (length-take-le p s h)

-- ---- lists of bytes

pub none_fits : (i : ℕ) → get_or [] i 0 < 256
none_fits i = omega arith

pub one_fits : (b : ℕ) → b < 256 → (i : ℕ) → get_or (b ∷ []) i 0 < 256
one_fits b h zero = h
one_fits b h (suc i) = omega arith

pub both_fit : (l k : List ℕ) → ((i : ℕ) → get_or l i 0 < 256) → ((i : ℕ) → get_or k i 0 < 256) → (i : ℕ) → get_or (l ++ k) i 0 < 256
both_fit [] k f g i = g i
both_fit (x ∷ l) k f g zero = f 0
both_fit (x ∷ l) k f g (suc i) = both_fit l k (λ j. f (suc j)) g i

pub zeros_fit : (n i : ℕ) → get_or (replicate n 0) i 0 < 256
zeros_fit zero i = omega arith
zeros_fit (suc n) zero = omega arith
zeros_fit (suc n) (suc i) = zeros_fit n i

take_fits : (n : ℕ) (l : List ℕ) → ((i : ℕ) → get_or l i 0 < 256) → (i : ℕ) → get_or (take n l) i 0 < 256
take_fits zero l h i = omega arith
take_fits (suc n) [] h i = omega arith
take_fits (suc n) (x ∷ l) h zero = h 0
take_fits (suc n) (x ∷ l) h (suc i) = take_fits n l (λ j. h (suc j)) i

pub front_fits : (s b : List ℕ) (p : ℕ) → ((i : ℕ) → get_or s i 0 < 256) → ((i : ℕ) → get_or b i 0 < 256) → (i : ℕ) → get_or (take p s ++ b) i 0 < 256
front_fits s b p f g = both_fit (take p s) b (take_fits p s f) g
