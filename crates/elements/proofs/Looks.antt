-- How far the walk looks: what is measured needs its own bytes, and a refusal what was judged.
use mathlib.Core.Path.{◌≡◌, refl, sym, ap, ◌∙◌}
use mathlib.Core.List.{List}
use mathlib.Core.Bool.{Bool, true, false, cond}
use mathlib.Core.Option.{some, none}
use Prim.Native.Nat.{ℕ, zero, suc, ◌+◌, ◌-◌, ◌≤◌, ◌<◌}
use native.Mathlib.Omega.{arith}
use lib.ListN.{length, take}
use lib.Seq.{length-take-le}
use lib.Dec.{leb}
use borrow.Author.Tests.{leb-true, leb-false, lt-ltb, le-ltb, le-leb, lt-leb}
use Rattle.refusals.specs.Read.{Read, got, refused, Refusal, then, guard, need, eof, span_at}
use Rattle.refusals.proofs.Read.{Ok, ok_at, Ahead, span_room}
use Rattle.tlf.specs.Lengths.{tlf_at, is_list}
use Rattle.tlf.specs.declared.TypeLengthField.{TypeLengthField}
use Rattle.tlf.proofs.Lengths.{tlf_ok}
use Rattle.tlf.proofs.Ends.{tlf_end}
use Rattle.walk.specs.Walk.{Item, end_mark, leaf, list_item, is_end_mark, item_at, too_deep}
use Rattle.walk.specs.Cut.{elements_at, behind_item, element_by, element_at}
use Rattle.walk.proofs.Items.{mark_room, item_ok}
use Rattle.places.specs.Stands.{SameBefore, Looked}
use Rattle.places.proofs.Before.{same_less, same_byte, same_long, same_whole, same_cut}
use Rattle.places.proofs.Seen.{Seen, seen_weak, seen_then}
use Rattle.places.proofs.Lengths.{HeadWrong, no_head, bad_head, fixed_got, fixed_refused, tlf_seen}
use Rattle.places.proofs.Grows.{bytes_seen}
use Rattle.elements.specs.Walkers.{cut_head, cut_content, wrong_head, WrongElement, by_itself, sixteen_open}
use Rattle.elements.proofs.Items.{no_zero, span_cut, ItemIs, mark_there, leaf_there, list_there, item_is}

-- what is known of a refusal of the element at p: what is wrong at some place, if a list is too deep there, and how far it was judged
pub record JudgedTo (s : List ℕ) (p : ℕ) (f : Refusal) (q : ℕ) : Type 0 where
  pub depth : ℕ
  pub place : ℕ
  pub wrong : WrongElement s depth place f q
  pub begun : p ≤ f.place
  pub before : f.place < q

-- a refusal is what the reading says of this input
seen_told : {A : Type 0} {P : Refusal → ℕ → Type 0} {read : List ℕ → Read A} {s : List ℕ} {at : ℕ} → Seen P read s at (read s) → Seen (λ f q. P f q × (read s ≡ refused f)) read s at (read s)
seen_told {A} {P} {read} {s} {at} h = by (read s) refl h
  where
    by : (r : Read A) → read s ≡ r → Seen P read s at r → Seen (λ f q. P f q × (read s ≡ refused f)) read s at r
    by (got a n) e w = record { seen = w.seen }
    by (refused f) e w = let v = w.seen in record { seen = record { behind = v.behind; low = v.low; looked = v.looked; what = (v.what, e) } }

-- ---- an item

head_judged : (s : List ℕ) (p : ℕ) (f : Refusal) (q : ℕ) → p ≤ length s → is_end_mark s p ≡ false → HeadWrong s p f q → tlf_at s p ≡ refused f → JudgedTo s p f q
head_judged s p f q h m no_head e = record { depth = zero; place = p; wrong = by_itself _ _ (cut_head e); begun = h; before = omega arith }
head_judged s p f q h m (bad_head kind k lt l) e = record { depth = zero; place = p; wrong = by_itself _ _ (wrong_head kind k e (no_zero s p lt m)); begun = omega arith; before = l }

-- the n bytes at a place, within the input
SpanOver : List ℕ → Refusal → ℕ → Type 0
SpanOver s f q = (f ≡ eof (length s)) × (q ≡ length s + 1)

span_short : (at n : ℕ) (t : List ℕ) → at ≤ length t → length t < at + n → span_at t at n ≡ refused (eof (length t))
unfolding span_at guard
span_short at n t h k = rw (le-leb at (length t) h, lt-leb n (length t - at) (omega arith))

span_seen : (s : List ℕ) (n len : ℕ) → n ≤ length s → Seen (SpanOver s) (λ t. span_at t n len) s n (span_at s n len)
unfolding SpanOver
span_seen s n len h = bytes_seen (λ t. span_at t n len) (λ l. record { start = n; len = len }) n len (λ t k. span_room t n len k) (span_short n len) s (refl, refl) h

content_judged : (s : List ℕ) (p : ℕ) (t : TypeLengthField) (n : ℕ) (f : Refusal) (q : ℕ) → tlf_at s p ≡ got t n → is_list t.ty ≡ false → SpanOver s f q → span_at s n t.len ≡ refused f → JudgedTo s p f q
unfolding SpanOver
content_judged s p t n f q e l o x =
    let a : Ahead s p n = ok_at (sym e) (tlf_ok s p) in
    rw (o.0, o.1) (record { depth = zero; place = p; wrong = by_itself _ _ (cut_content t n e l (span_cut s n t.len f a.within x).1); begun = omega (arith, a.ahead, a.within); before = omega arith })

-- what follows length bytes
abbrev behind_head : TypeLengthField → ℕ → Bool → List ℕ → Read Item
behind_head t n b u = cond b (got (list_item t.len) n) (then (span_at u n t.len) λ content m. got (leaf t.ty content) m)

typed_seen : (s : List ℕ) (p : ℕ) (t : TypeLengthField) (n : ℕ) → tlf_at s p ≡ got t n → n ≤ length s → (b : Bool) → is_list t.ty ≡ b → Seen (JudgedTo s p) (behind_head t n b) s n (behind_head t n b s)
typed_seen s p t n e h true l = fixed_got s n _ h
typed_seen s p t n e h false l =
    seen_then _ (λ content m u. got (leaf t.ty content) m) s n (seen_weak _ (λ f q w. content_judged s p t n f q e l w.0 w.1) (seen_told (span_seen s n t.len h)))
    (λ content m i j k. fixed_got s m _ k)

abbrev unmarked_at : ℕ → List ℕ → Read Item
unmarked_at p u = then (tlf_at u p) λ t n. behind_head t n (is_list t.ty) u

unmarked_seen : (s : List ℕ) (p : ℕ) → p ≤ length s → is_end_mark s p ≡ false → Seen (JudgedTo s p) (unmarked_at p) s p (unmarked_at p s)
unmarked_seen s p h m =
    seen_then _ (λ t n u. behind_head t n (is_list t.ty) u) s p (seen_weak _ (λ f q w. head_judged s p f q h m w.0 w.1) (seen_told (tlf_seen s p h)))
    (λ t n e l k. typed_seen s p t n e k (is_list t.ty) refl)

-- an end mark, or none, stands in every input that has the same bytes up to it
same_mark : (s t : List ℕ) (p : ℕ) → SameBefore (p + 1) s t → is_end_mark t p ≡ is_end_mark s p
unfolding is_end_mark
same_mark s t p w = by (leb (p + 1) (length s)) refl
  where
    by : (b : Bool) → leb (p + 1) (length s) ≡ b → is_end_mark t p ≡ is_end_mark s p
    by true e =
        let k = leb-true (p + 1) (length s) e in
        rw (lt-ltb p (length t) (omega (arith, same_long k w)), lt-ltb p (length s) (omega arith), same_byte p (omega arith) w)
    by false e = let k = leb-false (p + 1) (length s) e in ap (λ (l : List ℕ). is_end_mark l p) (same_whole (omega arith) w)

-- where the input ends there is none
no_mark_there : (t : List ℕ) (p : ℕ) → length t ≤ p → is_end_mark t p ≡ false
unfolding is_end_mark
no_mark_there t p h = rw (le-ltb p (length t) h)

-- nor where it is cut
cut_mark : (s : List ℕ) (p m : ℕ) → m ≤ length s → is_end_mark s p ≡ false → is_end_mark (take m s) p ≡ false
cut_mark s p m h e = by (leb (p + 1) m) refl
  where
    by : (b : Bool) → leb (p + 1) m ≡ b → is_end_mark (take m s) p ≡ false
    by true k = same_mark s (take m s) p (same_cut s (leb-true (p + 1) m k)) ∙ e
    by false k = let l = leb-false (p + 1) m k in no_mark_there (take m s) p (omega (arith, length-take-le m s h))

item_unmarked : (t : List ℕ) (p : ℕ) → is_end_mark t p ≡ false → item_at t p ≡ unmarked_at p t
unfolding item_at
item_unmarked t p e = rw e

item_marked : (t : List ℕ) (p : ℕ) → is_end_mark t p ≡ true → item_at t p ≡ got end_mark (p + 1)
unfolding item_at
item_marked t p e = rw e

looked_unmarked : (s : List ℕ) (p q : ℕ) → p < q → is_end_mark s p ≡ false → Looked (unmarked_at p) s p q → Looked (λ t. item_at t p) s p q
looked_unmarked s p q l e w =
    record {
      cut = λ m i j k. item_unmarked (take m s) p (cut_mark s p m k e) ∙ w.cut m i j k;
      alike = λ t h. item_unmarked t p (same_mark s t p (same_less (omega arith) h) ∙ e) ∙ w.alike t h ∙ sym (item_unmarked s p e);
    }

item_seen_by : (s : List ℕ) (p : ℕ) → is_end_mark s p ≡ false → (r : Read Item) → Ok (λ i n. Ahead s p n) r → Seen (JudgedTo s p) (unmarked_at p) s p r → Seen (JudgedTo s p) (λ t. item_at t p) s p r
item_seen_by s p e (got i n) a w = let v = w.seen in let h = a.holds in record { seen = record { low = v.low; high = v.high; looked = looked_unmarked s p n h.ahead e v.looked } }
item_seen_by s p e (refused f) a w =
    let v = w.seen in
    let j = v.what in
    record { seen = record { behind = v.behind; low = v.low; looked = looked_unmarked s p v.behind (omega (arith, j.begun, j.before)) e v.looked; what = j } }

item_short : (s : List ℕ) (p m : ℕ) → m ≤ p → m ≤ length s → item_at (take m s) p ≡ refused (eof m)
unfolding item_at then
item_short s p m h k =
    let l = length-take-le m s k in
    rw (no_mark_there (take m s) p (omega (arith, l)), tlf_end (take m s) p (omega (arith, l)), l)

pub item_seen : (s : List ℕ) (p : ℕ) → p ≤ length s → Seen (JudgedTo s p) (λ t. item_at t p) s p (item_at s p)
item_seen s p h = by (is_end_mark s p) refl
  where
    by : (b : Bool) → is_end_mark s p ≡ b → Seen (JudgedTo s p) (λ t. item_at t p) s p (item_at s p)
    by true e =
        let k = mark_room s p e in
        rw (item_marked s p e)
        (record {
          seen = record {
            low = omega arith;
            high = omega arith;
            looked = record {
              cut = λ m i j l. item_short s p m (omega arith) l;
              alike = λ t w. item_marked t p (same_mark s t p w ∙ e) ∙ sym (item_marked s p e);
            };
          };
        })
    by false e = rw (item_unmarked s p e) (item_seen_by s p e (unmarked_at p s) (rw (item_unmarked s p e) at (item_ok s p)) (unmarked_seen s p h e))

-- ---- elements

-- what is known from a later place on is known from an earlier one on
judged_on : (s : List ℕ) (p n : ℕ) → p ≤ n → (f : Refusal) (q : ℕ) → JudgedTo s n f q → JudgedTo s p f q
judged_on s p n h f q j = record { depth = j.depth; place = j.place; wrong = j.wrong; begun = omega (arith, j.begun); before = j.before }

abbrev pub ElementSeen : ℕ → List ℕ → Type 0
ElementSeen d s = (p : ℕ) → p ≤ length s → Seen (JudgedTo s p) (λ t. element_at d t p) s p (element_at d s p)

row_seen : (d : ℕ) (s : List ℕ) → ElementSeen d s → (k sum p : ℕ) → p ≤ length s → Seen (JudgedTo s p) (λ t. elements_at (element_at d t) k sum p) s p (elements_at (element_at d s) k sum p)
unfolding elements_at
row_seen d s h zero sum p w = fixed_got s p _ w
row_seen d s h (suc k) sum p w =
    seen_then _ (λ a n t. elements_at (element_at d t) k (sum + a) n) s p (h p w)
    (λ a n e l i. seen_weak _ (λ f q j. judged_on s p n l f q j) (row_seen d s h k (sum + a) n i))

none_seen : (s : List ℕ) (p n : ℕ) (i : Item) → n ≤ length s → ItemIs s p n i → Seen (JudgedTo s p) (λ t. behind_item none p i n) s n (behind_item none p i n)
unfolding behind_item need
none_seen s p n i h (mark_there e z) = fixed_got s n _ h
none_seen s p n i h (leaf_there t m c e l z w) = fixed_got s n _ h
none_seen s p n i h (list_there t e l) =
    let a : Ahead s p n = ok_at (sym e) (tlf_ok s p) in
    fixed_refused s n (too_deep p) (record { depth = zero; place = p; wrong = sixteen_open t n refl e l; begun = omega arith; before = a.ahead })

some_seen : (d : ℕ) (s : List ℕ) (p n : ℕ) (i : Item) → ElementSeen d s → p ≤ n → n ≤ length s → Seen (JudgedTo s p) (λ t. behind_item (some (element_at d t)) p i n) s n (behind_item (some (element_at d s)) p i n)
unfolding behind_item need
some_seen d s p n end_mark g l h = fixed_got s n _ h
some_seen d s p n (leaf ty c) g l h = fixed_got s n _ h
some_seen d s p n (list_item k) g l h = seen_weak _ (λ f q j. judged_on s p n l f q j) (row_seen d s g k 0 n h)

pub element_seen : (d : ℕ) (s : List ℕ) → ElementSeen d s
unfolding element_at element_by
element_seen zero s p h = seen_then _ (λ i n t. behind_item none p i n) s p (item_seen s p h) (λ i n e l k. none_seen s p n i k (ok_at (sym e) (item_is s p)))
element_seen (suc d) s p h =
    seen_then _ (λ i n t. behind_item (some (element_at d t)) p i n) s p (item_seen s p h)
    (λ i n e l k. some_seen d s p n i (λ m w. element_seen d s m w) l k)
