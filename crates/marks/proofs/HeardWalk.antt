-- What a caller of the library hears of a walk and of an item is what ours says; and so of every library that is heard so.
use mathlib.Core.Path.{◌≡◌, refl, sym, ap, ◌∙◌, subst}
use mathlib.Core.Bool.{Bool, true, false, true≢false}
use mathlib.Core.List.{List, [], ◌∷◌}
use Prim.Native.Nat.{ℕ, zero, suc, ◌≤◌, ◌<◌}
use native.Mathlib.Omega.{arith}
use lib.ListN.{length}
use lib.Dec.{leb}
use borrow.Author.Tests.{lt-ltb, le-ltb, leb-true, leb-false, ne_eqb}
use Rattle.refusals.specs.Numbers.{input_too_long_no, limit}
use Rattle.refusals.specs.Read.{Read, got, refused, Refusal}
use Rattle.refusals.proofs.Read.{ok_at}
use Rattle.tlf.specs.Lengths.{is_list}
use Rattle.tlf.specs.Written.{ty_number}
use Rattle.tlf.specs.declared.Ty.{Ty}
use Rattle.tlf.specs.declared.Ty.TheVariants.{OctetString, Boolean, Integer, Unsigned, ListOf}
use Rattle.walk.specs.Walk.{Item, item_at, WalkSaid, walk_is, walk_broken, walk_refused, deepest, walk_at}
use Rattle.walk.specs.Cut.{element_at}
use Rattle.elements.specs.Walkers.{Walker, our_walker, WrongItem, cut_head, cut_content, wrong_head, WrongElement, by_itself, sixteen_open, GoodWalker, LooksNoFurther, EndsWithMessages}
use Rattle.elements.specs.ItemReaders.{ItemReader, our_item_reader}
use Rattle.elements.specs.Sights.{Sight, see_item, see_step, sees_by, SeesIn}
use Rattle.elements.proofs.Walkers.{walk_short, never_by_number, our_walker_lem, never_looks_further, always_ends_with_messages}
use Rattle.elements.proofs.Items.{ItemIs, mark_there, leaf_there, list_there, item_is}
use Rattle.elements.proofs.ItemReaders.{our_items_lem}
use Rattle.elements.proofs.Sights.{always_sees_elements}
use Rattle.sartrogheo.specs.Calls.{good_no, Reply, reply}
use Rattle.sartrogheo.specs.Walks.{item_no, item_words, sgh_read_item, walk_no, walk_words, sgh_walk}
use Rattle.marks.specs.Library.{Library, our_library, walk_heard, walker_by, ty_heard, item_heard, item_reader_by, HearsWalk}

-- ---- a walk

-- what is wrong with an element is 10, 11 or 19
lost_number : {s : List ℕ} {p : ℕ} {f : Refusal} {q : ℕ} → WrongItem s p f q → (10 ≤ f.number) × (f.number ≤ 19)
lost_number (cut_head e) = (omega arith, omega arith)
lost_number (cut_content t n e l k) = (omega arith, omega arith)
lost_number (wrong_head kind q e n) = (omega arith, omega arith)

wrong_number : {s : List ℕ} {d p : ℕ} {f : Refusal} {q : ℕ} → WrongElement s d p f q → (10 ≤ f.number) × (f.number ≤ 19)
wrong_number (by_itself f q w) = lost_number w
wrong_number (sixteen_open t n z e l) = (omega arith, omega arith)

abbrev WalkSayable : WalkSaid → Type 0
WalkSayable (walk_is bytes leaves) = Unit {0}
WalkSayable (walk_broken f) = (10 ≤ f.number) × (f.number ≤ 19)
WalkSayable (walk_refused n) = n ≡ input_too_long_no

walk_heard_lem : (x : WalkSaid) → WalkSayable x → walk_heard (walk_no x) (walk_words x) ≡ x
walk_heard_lem (walk_is bytes leaves) h = refl
walk_heard_lem (walk_broken f) h = rw (ne_eqb f.number 0 (λ e. omega (arith, h, e)), ne_eqb f.number 9 (λ e. omega (arith, h, e)))
walk_heard_lem (walk_refused n) h = rw h

never_nine : (s : List ℕ) (at n : ℕ) → length s ≤ limit → walk_at s at ≡ walk_refused n → ⊥
never_nine s at n h e = never_by_number (element_at deepest s at) at n (sym (walk_short s at h) ∙ e)

walk_sayable : (s : List ℕ) (at : ℕ) → WalkSayable (walk_at s at)
walk_sayable s at = by (leb (length s) limit) refl
  where
    short : length s ≤ limit → (x : WalkSaid) → walk_at s at ≡ x → WalkSayable x
    short h (walk_is bytes leaves) e = tt
    short h (walk_broken f) e = wrong_number (our_walker_lem.refuses.only_if s at f h e).wrong
    short h (walk_refused n) e = absurd (never_nine s at n h e)

    by : (b : Bool) → leb (length s) limit ≡ b → WalkSayable (walk_at s at)
    by true e = short (leb-true (length s) limit e) (walk_at s at) refl
    by false e = rw (our_walker_lem.nine s at (leb-false (length s) limit e)) refl

walks_heard : (s : List ℕ) (at : ℕ) → walker_by our_library s at ≡ walk_at s at
unfolding sgh_walk
walks_heard s at = walk_heard_lem (walk_at s at) (walk_sayable s at)

walk_words_lem : (s : List ℕ) (at : ℕ) → sgh_walk s at ≡ reply (sgh_walk s at).number (walk_words (walker_by our_library s at) ∷ [])
unfolding sgh_walk
walk_words_lem s at = ap (λ (l : List ℕ). reply (walk_no (walk_at s at)) (l ∷ [])) (ap walk_words (sym (walks_heard s at)))

-- ---- an item

ty_heard_lem : (ty : Ty) → is_list ty ≡ false → ty_heard (ty_number ty) ≡ ty
ty_heard_lem OctetString h = refl
ty_heard_lem Boolean h = refl
ty_heard_lem Integer h = refl
ty_heard_lem Unsigned h = refl
ty_heard_lem ListOf h = absurd (true≢false h)

item_got : (s : List ℕ) (p n : ℕ) (i : Item) → ItemIs s p n i → item_heard good_no (item_words (got i n)) ≡ got i n
item_got s p n i (mark_there e z) = refl
item_got s p n i (leaf_there t m c e l z w) = rw (ty_heard_lem t.ty l)
item_got s p n i (list_there t e l) = refl

item_heard_lem : (s : List ℕ) (p : ℕ) (x : Read Item) → item_at s p ≡ x → item_heard (item_no x) (item_words x) ≡ x
item_heard_lem s p (got i n) e = item_got s p n i (ok_at (sym e) (item_is s p))
item_heard_lem s p (refused f) e =
    let h = lost_number (our_items_lem.only_refuses s p f e).wrong in
    rw (ne_eqb f.number 0 (λ k. omega (arith, h, k)))

items_heard : (s : List ℕ) (at : ℕ) → length s ≤ limit → item_reader_by our_library s at ≡ item_at s at
unfolding sgh_read_item
items_heard s at h = rw (le-ltb limit (length s) h) (item_heard_lem s at (item_at s at) refl)

item_long : (s : List ℕ) (at : ℕ) → limit < length s → item_reader_by our_library s at ≡ refused (record { number = input_too_long_no; kind = 0; place = 0 })
unfolding sgh_read_item
item_long s at h = rw (lt-ltb limit (length s) h)

short_words : (s : List ℕ) (at : ℕ) → length s ≤ limit → sgh_read_item s at ≡ reply (sgh_read_item s at).number (item_words (item_at s at) ∷ [])
unfolding sgh_read_item
short_words s at h = rw (le-ltb limit (length s) h)

long_words : (s : List ℕ) (at : ℕ) → limit < length s → sgh_read_item s at ≡ reply (sgh_read_item s at).number (item_words (refused (record { number = input_too_long_no; kind = 0; place = 0 })) ∷ [])
unfolding sgh_read_item
long_words s at h = rw (lt-ltb limit (length s) h)

item_words_claim : (s : List ℕ) (at : ℕ) → sgh_read_item s at ≡ reply (sgh_read_item s at).number (item_words (item_reader_by our_library s at) ∷ [])
item_words_claim s at = by (leb (length s) limit) refl
  where
    told : Read Item → Reply
    told x = reply (sgh_read_item s at).number (item_words x ∷ [])

    by : (b : Bool) → leb (length s) limit ≡ b → sgh_read_item s at ≡ told (item_reader_by our_library s at)
    by true e = let h = leb-true (length s) limit e in short_words s at h ∙ ap told (sym (items_heard s at h))
    by false e = let h = leb-false (length s) limit e in long_words s at h ∙ ap told (sym (item_long s at h))

pub hears_walk : HearsWalk our_library
hears_walk = record { walks = walks_heard; words = walk_words_lem; items = items_heard; long = item_long; item_words_claim = item_words_claim }

-- ---- of every library that is heard so

module _ (L : Library) (h : HearsWalk L) where
  same_walker : walker_by L ≡ our_walker
  same_walker = λ i s at. h.walks s at i

  pub walk_by_lem : GoodWalker (walker_by L)
  walk_by_lem = subst (λ (W : Walker). GoodWalker W) (sym same_walker) our_walker_lem

  pub looks_by : LooksNoFurther (walker_by L)
  looks_by = never_looks_further (walker_by L) walk_by_lem

  pub ends_by : EndsWithMessages (walker_by L)
  ends_by = always_ends_with_messages (walker_by L) walk_by_lem

-- who reads items alike sees alike
step_alike : (I J : ItemReader) (s : List ℕ) → ((p : ℕ) → I s p ≡ J s p) → (on go : List ℕ → ℕ → List Sight) → ((w : List ℕ) (n : ℕ) → on w n ≡ go w n) → (wants : List ℕ) (at : ℕ) → see_step I on s wants at ≡ see_step J go s wants at
unfolding see_step
step_alike I J s h on go g [] at = refl
step_alike I J s h on go g (zero ∷ wants) at = step_alike I J s h on go g wants at
step_alike I J s h on go g (suc k ∷ wants) at = ap (see_item on (length wants) (k ∷ wants) at) (h at) ∙ by (J s at)
  where
    by : (r : Read Item) → see_item on (length wants) (k ∷ wants) at r ≡ see_item go (length wants) (k ∷ wants) at r
    by (got i n) = ap (λ (l : List Sight). record { depth = length wants; place = at; item = i } ∷ l) (g _ n)
    by (refused f) = refl

sees_alike : (I J : ItemReader) (s : List ℕ) → ((p : ℕ) → I s p ≡ J s p) → (many : ℕ) (wants : List ℕ) (at : ℕ) → sees_by I many s wants at ≡ sees_by J many s wants at
unfolding sees_by
sees_alike I J s h zero wants at = refl
sees_alike I J s h (suc many) wants at = step_alike I J s h (sees_by I many s) (sees_by J many s) (λ w n. sees_alike I J s h many w n) wants at

pub sees_by_lem : (L : Library) → HearsWalk L → (s : List ℕ) → length s ≤ limit → SeesIn (item_reader_by L) s
sees_by_lem L h s short at element rest leaves k e w =
    sees_alike (item_reader_by L) our_item_reader s (λ p. h.items s p short) (suc (length s)) (1 ∷ []) at
    ∙ always_sees_elements our_item_reader our_items_lem s at element rest leaves k e w
