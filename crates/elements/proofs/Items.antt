-- What an item that was read stands for, and what an item that was refused lacks.
use mathlib.Core.Path.{◌≡◌, refl, sym, ap, ◌∙◌, subst}
use mathlib.Core.List.{List}
use mathlib.Core.Bool.{Bool, true, false}
use Prim.Native.Nat.{ℕ, zero, ◌+◌, ◌-◌, ◌≤◌, ◌<◌}
use native.Mathlib.Omega.{arith}
use lib.ListN.{length, get_or}
use lib.Dec.{leb}
use borrow.Author.Tests.{leb-true, leb-false, lt-ltb, le-leb, lt-leb, eq-eqb}
use Rattle.refusals.specs.Read.{Read, got, refused, Refusal, then, guard, eof, span_at}
use Rattle.refusals.specs.declared.Span.{Span}
use Rattle.refusals.proofs.Read.{Ok, ok_any, ok_got, ok_then, ok_cond, ok_at, Ahead, span_ok, span_room}
use Rattle.tlf.specs.Lengths.{tlf_at, is_list}
use Rattle.tlf.specs.declared.TypeLengthField.{TypeLengthField}
use Rattle.tlf.proofs.Lengths.{tlf_ok}
use Rattle.walk.specs.Walk.{Item, end_mark, leaf, list_item, is_end_mark, item_at, too_deep}
use Rattle.walk.proofs.Items.{mark_byte, marked_refused, no_mark}
use Rattle.places.specs.Readers.{LengthRefusal, end_of_input, bad_length_bytes}
use Rattle.places.proofs.Lengths.{length_refusals}
use Rattle.one_call.proofs.Outcomes.{never_both}
use Rattle.one_call.proofs.Runs.{no_confusion}
use Rattle.elements.specs.Walkers.{WrongItem, cut_head, cut_content, wrong_head, WrongElement, by_itself, sixteen_open}

-- ---- read

pub data ItemIs (s : List ℕ) (p n : ℕ) : Item → Type 0 where
  mark_there : is_end_mark s p ≡ true → n ≡ p + 1 → ItemIs s p n end_mark
  leaf_there : (t : TypeLengthField) (m : ℕ) (content : Span) → tlf_at s p ≡ got t m → is_list t.ty ≡ false → n ≡ m + t.len → n ≤ length s → ItemIs s p n (leaf t.ty content)
  list_there : (t : TypeLengthField) → tlf_at s p ≡ got t n → is_list t.ty ≡ true → ItemIs s p n (list_item t.len)

pub item_is : (s : List ℕ) (p : ℕ) → Ok (λ i n. ItemIs s p n i) (item_at s p)
unfolding item_at
item_is s p =
    ok_cond (is_end_mark s p) _ _ (λ e. ok_got _ _ (mark_there e refl))
    (λ e. ok_then _ _ (ok_any (tlf_at s p)) (λ t n h.
    ok_cond (is_list t.ty) _ _ (λ f. ok_got _ _ (list_there t h f))
    (λ f. ok_then _ _ (span_ok s n t.len) (λ x m i. ok_got _ _ (leaf_there t n x h f i.next_is i.within)))))

-- a list is no leaf and no end mark
abbrev pub list_no : Item → ℕ
list_no end_mark = 0
list_no (leaf ty content) = 0
list_no (list_item k) = 1

-- ---- refused

pub not_both : {A : Type 0} {r : Read A} {a : A} {n : ℕ} {f : Refusal} → r ≡ got a n → r ≡ refused f → ⊥
not_both e g = never_both (sym e ∙ g)

abbrev refused_or : {A : Type 0} → Refusal → Read A → Refusal
refused_or g (got a n) = g
refused_or g (refused f) = f

pub refusal_same : {A : Type 0} {f g : Refusal} → ◌≡◌ {A = Read A} (refused f) (refused g) → f ≡ g
refusal_same {f = f} e = ap (refused_or f) e

-- the item at q is refused, or a list where none may open
pub data LostItem (s : List ℕ) (e q : ℕ) : Refusal → Type 0 where
  refused_item : (f : Refusal) → item_at s q ≡ refused f → LostItem s e q f
  deep_item : (k n : ℕ) → e ≡ zero → item_at s q ≡ got (list_item k) n → LostItem s e q (too_deep q)

-- a place behind what was judged: of an item, and of an element
pub record WrongItemTo (s : List ℕ) (q : ℕ) (f : Refusal) : Type 0 where
  pub judged : ℕ
  pub wrong : WrongItem s q f judged

pub record WrongTo (s : List ℕ) (e q : ℕ) (f : Refusal) : Type 0 where
  pub judged : ℕ
  pub wrong : WrongElement s e q f judged

pub no_zero : (s : List ℕ) (q : ℕ) → q < length s → is_end_mark s q ≡ false → get_or s q 0 ≡ 0x00 → ⊥
unfolding is_end_mark
no_zero s q h e z = no_confusion (sym (rw (lt-ltb q (length s) h, eq-eqb (get_or s q 0) 0 z)) ∙ e)

-- what the length reader refuses
head_wrong : (s : List ℕ) (q : ℕ) (f : Refusal) → is_end_mark s q ≡ false → tlf_at s q ≡ refused f → LengthRefusal s q f → WrongItemTo s q f
head_wrong s q f m h end_of_input = record { judged = length s + 1; wrong = cut_head h }
head_wrong s q f m h (bad_length_bytes kind lt) = record { judged = q + 1; wrong = wrong_head kind (q + 1) h (no_zero s q lt m) }

-- a leaf's content that isn't there
pub span_cut : (s : List ℕ) (n len : ℕ) (f : Refusal) → n ≤ length s → span_at s n len ≡ refused f → (f ≡ eof (length s)) × (length s < n + len)
unfolding span_at guard
span_cut s n len f h e = by (leb (n + len) (length s)) refl
  where
    by : (b : Bool) → leb (n + len) (length s) ≡ b → (f ≡ eof (length s)) × (length s < n + len)
    by true k = absurd (not_both (span_room s n len (leb-true (n + len) (length s) k)) e)
    by false k =
        let l = leb-false (n + len) (length s) k in
        (sym (refusal_same {A = Span} (sym (rw (le-leb n (length s) h, lt-leb len (length s - n) (omega arith))) ∙ e)), l)

item_refused : (s : List ℕ) (q : ℕ) (f : Refusal) (b : Bool) → is_end_mark s q ≡ b → item_at s q ≡ refused f → WrongItemTo s q f
unfolding item_at then
item_refused s q f true m h = absurd (not_both {a = end_mark} {n = q + 1} (rw m) h)
item_refused s q f false m h = by (tlf_at s q) refl
  where
    told : (t : TypeLengthField) (n : ℕ) (g : Refusal) → tlf_at s q ≡ got t n → is_list t.ty ≡ false → span_at s n t.len ≡ refused g → item_at s q ≡ refused g
    told t n g i l x = rw (m, i, l, x)

    spanned : (t : TypeLengthField) (n : ℕ) → tlf_at s q ≡ got t n → is_list t.ty ≡ false → (x : Read Span) → span_at s n t.len ≡ x → WrongItemTo s q f
    spanned t n i l (got c k) x = absurd (not_both {a = leaf t.ty c} {n = k} (rw (m, i, l, x)) h)
    spanned t n i l (refused g) x =
        let a : Ahead s q n = ok_at (sym i) (tlf_ok s q) in
        let same : g ≡ f = refusal_same {A = Item} (sym (told t n g i l x) ∙ h) in
        let w = span_cut s n t.len g a.within x in
        subst (λ (r : Refusal). WrongItemTo s q r) (sym w.0 ∙ same) (record { judged = length s + 1; wrong = cut_content t n i l w.1 })

    typed : (t : TypeLengthField) (n : ℕ) → tlf_at s q ≡ got t n → (l : Bool) → is_list t.ty ≡ l → WrongItemTo s q f
    typed t n i true l = absurd (not_both {a = list_item t.len} {n = n} (rw (m, i, l)) h)
    typed t n i false l = spanned t n i l (span_at s n t.len) refl

    passes : (g : Refusal) → tlf_at s q ≡ refused g → item_at s q ≡ refused g
    passes g i = rw (m, i)

    by : (x : Read TypeLengthField) → tlf_at s q ≡ x → WrongItemTo s q f
    by (got t n) i = typed t n i (is_list t.ty) refl
    by (refused g) i =
        let same : g ≡ f = refusal_same {A = Item} (sym (passes g i) ∙ h) in
        let j : tlf_at s q ≡ refused f = i ∙ ap (λ (r : Refusal). refused r) same in
        head_wrong s q f m j (length_refusals s q f j)

pub wrong_read : (s : List ℕ) (q : ℕ) (f : Refusal) → item_at s q ≡ refused f → WrongItemTo s q f
wrong_read s q f h = item_refused s q f (is_end_mark s q) refl h

pub wrong_item : (s : List ℕ) (e q : ℕ) (f : Refusal) → LostItem s e q f → WrongTo s e q f
wrong_item s e q f (refused_item g h) = let w = wrong_read s q g h in record { judged = w.judged; wrong = by_itself g w.judged w.wrong }
wrong_item s e q f (deep_item k n z h) = by (list_item k) (ok_at (sym h) (item_is s q)) refl
  where
    by : (i : Item) → ItemIs s q n i → i ≡ list_item k → WrongTo s e q (too_deep q)
    by i (mark_there m x) y = let v : ◌≡◌ {A = ℕ} 0 1 = ap list_no y in absurd (omega (arith, v))
    by i (leaf_there t m c x l o w) y = let v : ◌≡◌ {A = ℕ} 0 1 = ap list_no y in absurd (omega (arith, v))
    by i (list_there t x l) y = record { judged = n; wrong = sixteen_open t n z x l }

unmarked : (s : List ℕ) (q : ℕ) (f : Refusal) → (◌≡◌ {A = ℕ} 11 f.number → ⊥) → tlf_at s q ≡ refused f → is_end_mark s q ≡ false
unmarked s q f k h = by (is_end_mark s q) refl
  where
    by : (b : Bool) → is_end_mark s q ≡ b → is_end_mark s q ≡ false
    by true m = absurd (k (ap (λ (r : Refusal). r.number) (refusal_same {A = TypeLengthField} (sym (marked_refused s q m) ∙ h))))
    by false m = m

no_zero_unmarked : (s : List ℕ) (q : ℕ) → (get_or s q 0 ≡ 0x00 → ⊥) → is_end_mark s q ≡ false
no_zero_unmarked s q z = by (is_end_mark s q) refl
  where
    by : (b : Bool) → is_end_mark s q ≡ b → is_end_mark s q ≡ false
    by true m = absurd (z (mark_byte s q m))
    by false m = m

head_told : (s : List ℕ) (q : ℕ) (f : Refusal) → is_end_mark s q ≡ false → tlf_at s q ≡ refused f → item_at s q ≡ refused f
unfolding item_at then
head_told s q f m h = rw (m, h)

content_told : (s : List ℕ) (q : ℕ) (t : TypeLengthField) (n : ℕ) → tlf_at s q ≡ got t n → is_list t.ty ≡ false → length s < n + t.len → item_at s q ≡ refused (eof (length s))
unfolding item_at then span_at guard
content_told s q t n h l c =
    let a : Ahead s q n = ok_at (sym h) (tlf_ok s q) in
    rw (no_mark s q h, h, l, le-leb n (length s) a.within, lt-leb t.len (length s - n) (omega (arith, a.within)))

list_told : (s : List ℕ) (q : ℕ) (t : TypeLengthField) (n : ℕ) → tlf_at s q ≡ got t n → is_list t.ty ≡ true → item_at s q ≡ got (list_item t.len) n
unfolding item_at then
list_told s q t n h l = rw (no_mark s q h, h, l)

-- and back
pub item_lost : (s : List ℕ) (q : ℕ) (f : Refusal) (n : ℕ) → WrongItem s q f n → item_at s q ≡ refused f
item_lost s q f n (cut_head h) = head_told s q _ (unmarked s q (eof (length s)) (λ (k : ◌≡◌ {A = ℕ} 11 10). omega (arith, k)) h) h
item_lost s q f n (cut_content t m h l c) = content_told s q t m h l c
item_lost s q f n (wrong_head kind k h z) = head_told s q _ (no_zero_unmarked s q z) h

-- what is wrong with an element is wrong with its item, or it is a list too deep
pub item_wrong : (s : List ℕ) (e q : ℕ) (f : Refusal) (n : ℕ) → WrongElement s e q f n → LostItem s e q f
item_wrong s e q f n (by_itself g k w) = refused_item _ (item_lost s q g k w)
item_wrong s e q f n (sixteen_open t m z h l) = deep_item t.len m z (list_told s q t m h l)
