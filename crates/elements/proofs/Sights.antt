-- Who reads items by the grammar's pieces sees every element.
use mathlib.Core.Path.{◌≡◌, refl, sym, ap, ◌∙◌, subst}
use mathlib.Core.List.{List, [], ◌∷◌, ◌++◌, append_assoc, append-nil}
use Prim.Native.Nat.{ℕ, zero, suc, ◌+◌, ◌-◌, ◌≤◌, ◌<◌}
use native.Mathlib.Omega.{arith}
use lib.ListN.{length, length-append}
use Rattle.refusals.specs.Read.{got}
use Rattle.refusals.proofs.Read.{ok_at, Ahead}
use Rattle.refusals.proofs.Rest.{Rest, rest_length, rest_skip, rest_next}
use Rattle.tlf.specs.declared.TypeLengthField.{TypeLengthField}
use Rattle.tlf.proofs.Lengths.{tlf_ok}
use Rattle.walk.specs.Walk.{Item, end_mark, leaf, list_item}
use Rattle.elements.specs.Grammar.{HeadBytes, Elements, no_element, first_mark, first_leaf, first_list}
use Rattle.elements.specs.ItemReaders.{ItemReader, mark_stands, leaf_stands, list_stands, ReadsItems}
use Rattle.elements.proofs.Walked.{rest_apart}
use Rattle.elements.specs.Sights.{Sight, sight, sights, wanted_behind, see_item, see_step, sees_by, AlwaysSeesElements}

-- a list that wants no more is closed
sees_closed : (I : ItemReader) (many : ℕ) (s wants : List ℕ) (at : ℕ) → sees_by I many s (zero ∷ wants) at ≡ sees_by I many s wants at
unfolding sees_by see_step
sees_closed I zero s wants at = refl
sees_closed I (suc many) s wants at = refl

sees_none : (I : ItemReader) (many : ℕ) (s : List ℕ) (at : ℕ) → sees_by I many s [] at ≡ []
unfolding sees_by see_step
sees_none I zero s at = refl
sees_none I (suc many) s at = refl

-- one item is seen, and what is behind it
sees_one : (I : ItemReader) (many : ℕ) (s : List ℕ) (k : ℕ) (wants : List ℕ) (at n : ℕ) (i : Item) → I s at ≡ got i n
    → sees_by I (suc many) s (suc k ∷ wants) at ≡ see_item (sees_by I many s) (length wants) (k ∷ wants) at (got i n)
unfolding sees_by see_step
sees_one I many s k wants at n i e = rw e

pub head_some : (t : TypeLengthField) (b : List ℕ) → HeadBytes t b → 0 < length b
head_some t b h = let a : Ahead b 0 (length b) = ok_at (sym h.is) (tlf_ok b 0) in omega (arith, a.ahead)

-- no more is seen than there are bytes
few_sights : {d k leaves : ℕ} {b : List ℕ} (depth p : ℕ) (w : Elements d k b leaves) → length (sights depth p w) ≤ length b
unfolding sights
few_sights depth p no_element = omega arith
few_sights depth p (first_mark w) = omega (arith, few_sights depth (p + 1) w)
few_sights depth p (first_leaf {more = more} t head content h f n w) =
    omega (arith, few_sights depth (p + length head + t.len) w, head_some t head h, length-append head (content ++ more), length-append content more)
few_sights depth p (first_list {more = more} t head content h f v w) =
    omega (
      arith,
      few_sights (suc depth) (p + length head) v,
      few_sights depth (p + length head + length content) w,
      head_some t head h,
      length-append head (content ++ more),
      length-append content more,
      length-append (sights (suc depth) (p + length head) v) (sights depth (p + length head + length content) w),
    )

rest_to : {s : List ℕ} {p q : ℕ} {l : List ℕ} → Rest s p l → p ≡ q → Rest s q l
rest_to {s} {p} {q} {l} r e = subst (λ (n : ℕ). Rest s n l) e r

-- an item, and then what is behind it
sees_on : (I : ItemReader) (many : ℕ) (s : List ℕ) (k : ℕ) (wants : List ℕ) (at n depth : ℕ) (i : Item) (x : List Sight) → I s at ≡ got i n → depth ≡ length wants → sees_by I many s (wanted_behind i (k ∷ wants)) n ≡ x
    → sees_by I (suc many) s (suc k ∷ wants) at ≡ sight depth at i ∷ x
sees_on I many s k wants at n depth i x e d h = sees_one I many s k wants at n i e ∙ rw (d, h)

SeesRow : ItemReader → List ℕ → {d k leaves : ℕ} {b : List ℕ} → Elements d k b leaves → ℕ → ℕ → Type 0
SeesRow I s {k = k} {b = b} w many want =
    (depth p f j q : ℕ) (wants l : List ℕ) → many ≡ length (sights depth p w) + f → want ≡ k + j → depth ≡ length wants → q ≡ p + length b → Rest s p (b ++ l)
    → sees_by I many s (want ∷ wants) p ≡ sights depth p w ++ sees_by I f s (j ∷ wants) q

-- a row of k elements is seen, and then what is behind it
sees_row : (I : ItemReader) → ReadsItems I → (s : List ℕ) {d k leaves : ℕ} {b : List ℕ} (w : Elements d k b leaves) (many want : ℕ) → SeesRow I s w many want
unfolding SeesRow sights
sees_row I g s no_element many want depth p f j q wants l a c e z r =
    let x : many ≡ f = omega arith in
    let y : want ≡ j = omega arith in
    let v : q ≡ p = omega arith in
    rw (x, y, v)
sees_row I g s (first_mark w) zero want depth p f j q wants l a c e z r = absurd (omega arith)
sees_row I g s (first_mark w) (suc many) zero depth p f j q wants l a c e z r = absurd (omega arith)
sees_row I g s (first_mark {more = more} w) (suc many) (suc want) depth p f j q wants l a c e z r =
    sees_on I many s want wants p (p + 1) depth end_mark _ (g.if s p end_mark (p + 1) r.inside (mark_stands (more ++ l) r.bytes)) e
    (sees_row I g s w many want depth (p + 1) f j q wants l (omega arith) (omega arith) e (omega arith) (rest_next r))
sees_row I g s (first_leaf t head content h b n w) zero want depth p f j q wants l a c e z r = absurd (omega arith)
sees_row I g s (first_leaf t head content h b n w) (suc many) zero depth p f j q wants l a c e z r = absurd (omega arith)
sees_row I g s (first_leaf {more = more} t head content h b n w) (suc many) (suc want) depth p f j q wants l a c e z r =
    let m : ℕ = p + length head + t.len in
    let i : Item = leaf t.ty (record { start = p + length head; len = t.len }) in
    let r₁ = rest_apart head content more l r in
    let r₂ = rest_skip content (rest_skip head r₁) in
    sees_on I many s want wants p m depth i _ (g.if s p i m r.inside (leaf_stands t head content (more ++ l) r₁.bytes h b n)) e
    (sees_row I g s w many want depth m f j q wants l (omega arith) (omega arith) e (omega (arith, z, n, length-append head (content ++ more), length-append content more)) (rest_to r₂ (omega (arith, n))))
sees_row I g s (first_list t head content h b v w) zero want depth p f j q wants l a c e z r = absurd (omega arith)
sees_row I g s (first_list t head content h b v w) (suc many) zero depth p f j q wants l a c e z r = absurd (omega arith)
sees_row I g s (first_list {more = more} t head content h b v w) (suc many) (suc want) depth p f j q wants l a c e z r =
    let m : ℕ = p + length head in
    let m₁ : ℕ = p + length head + length content in
    let A : List Sight = sights (suc depth) m v in
    let B : List Sight = sights depth m₁ w in
    let r₁ = rest_apart head content more l r in
    let r₂ = rest_skip head r₁ in
    let f₁ : ℕ = length B + f in
    let inner = sees_row I g s v many t.len (suc depth) m f₁ 0 m₁ (want ∷ wants) (more ++ l) (omega (arith, a, length-append A B)) (omega arith) (omega (arith, e)) refl r₂ in
    let outer = sees_row I g s w f₁ want depth m₁ f j q wants l refl (omega arith) e (omega (arith, z, length-append head (content ++ more), length-append content more)) (rest_skip content r₂) in
    sees_on I many s want wants p m depth (list_item t.len) _ (g.if s p (list_item t.len) m r.inside (list_stands t head (content ++ (more ++ l)) r₁.bytes h b)) e
    (inner ∙ ap (λ (x : List Sight). A ++ x) (sees_closed I f₁ s (want ∷ wants) m₁ ∙ outer) ∙ sym (append_assoc A B (sees_by I f s (j ∷ wants) q)))

pub always_sees_elements : AlwaysSeesElements
unfolding SeesRow
always_sees_elements I g s at element rest leaves h e w =
    let r : Rest s at (element ++ rest) = record { inside = h; bytes = e } in
    let n : ℕ = length (sights 0 at w) in
    let few = few_sights 0 at w in
    let f : ℕ = suc (length s) - n in
    let b = at + length element in
    sees_row I g s w (suc (length s)) 1 0 at f 0 b [] rest (omega (arith, few, rest_length r, length-append element rest)) (omega arith) refl refl r
    ∙ ap (λ (x : List Sight). sights 0 at w ++ x) (sees_closed I f s [] b ∙ sees_none I f s b) ∙ append-nil (sights 0 at w)
