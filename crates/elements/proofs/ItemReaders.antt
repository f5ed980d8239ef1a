-- Ours reads items exactly by the grammar's pieces, and who does so reads as ours does.
use mathlib.Core.Path.{◌≡◌, refl, sym, ap, ◌∙◌, subst}
use mathlib.Core.Bool.{Bool, true, false}
use mathlib.Core.List.{List, ◌∷◌, ◌++◌}
use Prim.Native.Nat.{ℕ, ◌+◌, ◌-◌, ◌≤◌}
use native.Mathlib.Omega.{arith}
use lib.ListN.{length, drop, length-append, take-append-drop, length-drop}
use lib.Seq.{drop-drop}
use lib.Dec.{leb}
use borrow.Author.Tests.{leb-true, leb-false, lt-ltb}
use Rattle.refusals.specs.Read.{Read, got, refused, then, span_at}
use Rattle.refusals.specs.declared.Span.{Span}
use Rattle.refusals.proofs.Read.{Ok, ok_got, ok_any, ok_then, ok_cond, ok_both, ok_at, Ahead, Inside, span_ok, span_room}
use Rattle.refusals.proofs.Places.{from_place}
use Rattle.refusals.proofs.Rest.{Rest, rest_length, rest_byte, rest_place}
use Rattle.tlf.specs.Lengths.{tlf_at, is_list}
use Rattle.tlf.specs.declared.TypeLengthField.{TypeLengthField}
use Rattle.tlf.proofs.Lengths.{tlf_ok}
use Rattle.walk.specs.Walk.{Item, end_mark, leaf, list_item, is_end_mark, item_at}
use Rattle.walk.proofs.Items.{mark_room, mark_byte, item_ok, no_mark}
use Rattle.elements.specs.Grammar.{HeadBytes}
use Rattle.elements.specs.ItemReaders.{our_item_reader, ItemStands, mark_stands, leaf_stands, list_stands, ReadsItems, OnlyOurItems}
use Rattle.elements.proofs.Local.{head_gets, read_head, part_from, part_length}
use Rattle.elements.proofs.Items.{wrong_read, item_lost}

-- ---- what stands there is read

head_read : (t : TypeLengthField) (head : List ℕ) → HeadBytes t head → (s : List ℕ) (p : ℕ) (l : List ℕ) → p ≤ length s → drop p s ≡ head ++ l → tlf_at s p ≡ got t (p + length head)
head_read t head h s p l k e =
    let r : Rest s p (head ++ l) = record { inside = k; bytes = e } in
    let g = head_gets t head h l r in
    let n : g.next ≡ p + length head = rest_place head r g.left in
    g.is ∙ ap (λ (x : TypeLengthField). got x g.next) g.has ∙ ap (λ (m : ℕ). got t m) n

room_left : (s : List ℕ) (p : ℕ) (head content rest : List ℕ) → p ≤ length s → drop p s ≡ head ++ (content ++ rest) → p + length head + length content ≤ length s
room_left s p head content rest h e =
    let x : length (drop p s) ≡ length (head ++ (content ++ rest)) = ap length e in
    omega (arith, x, length-drop p s, length-append head (content ++ rest), length-append content rest)

mark_read : (s : List ℕ) (p : ℕ) (rest : List ℕ) → p ≤ length s → drop p s ≡ 0x00 ∷ rest → item_at s p ≡ got end_mark (p + 1)
unfolding item_at is_end_mark
mark_read s p rest h e =
    let r : Rest s p (0x00 ∷ rest) = record { inside = h; bytes = e } in
    rw (lt-ltb p (length s) (omega (arith, rest_length r)), rest_byte r)

leaf_read : (s : List ℕ) (p : ℕ) (t : TypeLengthField) (n : ℕ) → tlf_at s p ≡ got t n → is_list t.ty ≡ false → n + t.len ≤ length s → item_at s p ≡ got (leaf t.ty (record { start = n; len = t.len })) (n + t.len)
unfolding item_at then
leaf_read s p t n e l h = rw (no_mark s p e, e, l, span_room s n t.len h)

list_read : (s : List ℕ) (p : ℕ) (t : TypeLengthField) (n : ℕ) → tlf_at s p ≡ got t n → is_list t.ty ≡ true → item_at s p ≡ got (list_item t.len) n
unfolding item_at then
list_read s p t n e l = rw (no_mark s p e, e, l)

stands_read : (s : List ℕ) (p : ℕ) (i : Item) (n : ℕ) → p ≤ length s → ItemStands s p i n → item_at s p ≡ got i n
stands_read s p i n h (mark_stands rest e) = mark_read s p rest h e
stands_read s p i n h (leaf_stands t head content rest e b l c) =
    leaf_read s p t (p + length head) (head_read t head b s p (content ++ rest) h e) l (omega (arith, room_left s p head content rest h e, c))
stands_read s p i n h (list_stands t head rest e b l) = list_read s p t (p + length head) (head_read t head b s p rest h e) l

-- ---- what is read stands there

bytes_there : (s : List ℕ) (p n : ℕ) → drop p s ≡ part_from s p n ++ drop (n - p) (drop p s)
bytes_there s p n = sym (take-append-drop (n - p) (drop p s))

drop_on : (s : List ℕ) (p n : ℕ) → p ≤ n → drop (n - p) (drop p s) ≡ drop n s
drop_on s p n h = let y : p + (n - p) ≡ n = omega arith in drop-drop (n - p) p s ∙ ap (λ (k : ℕ). drop k s) y

list_stands_lem : (s : List ℕ) (p n : ℕ) (t : TypeLengthField) → tlf_at s p ≡ got t n → is_list t.ty ≡ true → ItemStands s p (list_item t.len) n
list_stands_lem s p n t e l =
    let a : Ahead s p n = ok_at (sym e) (tlf_ok s p) in
    let z : p + length (part_from s p n) ≡ n = omega (arith, part_length s p n a.within, a.ahead) in
    subst (λ (m : ℕ). ItemStands s p (list_item t.len) m) z (list_stands t (part_from s p n) (drop (n - p) (drop p s)) (bytes_there s p n) (read_head s p n t e) l)

leaf_stands_lem : (s : List ℕ) (p n : ℕ) (t : TypeLengthField) → tlf_at s p ≡ got t n → is_list t.ty ≡ false → n + t.len ≤ length s
    → ItemStands s p (leaf t.ty (record { start = n; len = t.len })) (n + t.len)
leaf_stands_lem s p n t e l h =
    let a : Ahead s p n = ok_at (sym e) (tlf_ok s p) in
    let m : ℕ = n + t.len in
    let z : p + length (part_from s p n) ≡ n = omega (arith, part_length s p n a.within, a.ahead) in
    let there : drop p s ≡ part_from s p n ++ (part_from s n m ++ drop (m - n) (drop n s)) =
    bytes_there s p n ∙ ap (λ (l : List ℕ). part_from s p n ++ l) (drop_on s p n (omega (arith, a.ahead)) ∙ bytes_there s n m) in
    subst (λ (k : ℕ). ItemStands s p (leaf t.ty (record { start = k; len = t.len })) (k + t.len)) z
    (leaf_stands t (part_from s p n) (part_from s n m) (drop (m - n) (drop n s)) there (read_head s p n t e) l (part_length s n m h ∙ omega arith))

mark_stands_lem : (s : List ℕ) (p : ℕ) → is_end_mark s p ≡ true → ItemStands s p end_mark (p + 1)
mark_stands_lem s p e = mark_stands (drop (p + 1) s) (from_place s p (mark_room s p e) ∙ ap (λ (b : ℕ). b ∷ drop (p + 1) s) (mark_byte s p e))

abbrev LeafStands : List ℕ → ℕ → TypeLengthField → Read Span → Type 0
LeafStands s p t (got c m) = ItemStands s p (leaf t.ty c) m
LeafStands s p t (refused f) = Unit {0}

leaf_spanned : (s : List ℕ) (p n : ℕ) (t : TypeLengthField) (c : Span) (m : ℕ) → tlf_at s p ≡ got t n → is_list t.ty ≡ false → span_at s n t.len ≡ got c m → Inside s n t.len c m
    → ItemStands s p (leaf t.ty c) m
leaf_spanned s p n t c m e l x i =
    let h : n + t.len ≤ length s = omega (arith, i.next_is, i.within) in
    let w : ◌≡◌ {A = Read Span} (got (record { start = n; len = t.len }) (n + t.len)) (got c m) = sym (span_room s n t.len h) ∙ x in
    subst (λ (r : Read Span). LeafStands s p t r) w (leaf_stands_lem s p n t e l h)

pub item_stands : (s : List ℕ) (p : ℕ) → Ok (λ i n. ItemStands s p i n) (item_at s p)
unfolding item_at
item_stands s p =
    ok_cond (is_end_mark s p) _ _ (λ e. ok_got _ _ (mark_stands_lem s p e))
    (λ e. ok_then _ _ (ok_any (tlf_at s p)) (λ t n h.
    ok_cond (is_list t.ty) _ _ (λ f. ok_got _ _ (list_stands_lem s p n t h f))
    (λ f. ok_then _ _ (ok_both (ok_any (span_at s n t.len)) (span_ok s n t.len)) (λ x m i. ok_got _ _ (leaf_spanned s p n t x m h f i.0 i.1)))))

-- ---- ours

pub our_items_lem : ReadsItems our_item_reader
our_items_lem =
    record {
      if = stands_read;
      only_if = λ s p i n h e. ok_at (sym e) (item_stands s p);
      refuses = λ s p f b. item_lost s p f b.judged_to b.wrong;
      only_refuses = λ s p f e. let w = wrong_read s p f e in record { judged_to = w.judged; wrong = w.wrong };
    }

pub only_our_items : OnlyOurItems
only_our_items I g s p = by (item_at s p) refl (leb p (length s)) refl
  where
    by : (x : Read Item) → item_at s p ≡ x → (b : Bool) → leb p (length s) ≡ b → I s p ≡ item_at s p
    by (refused f) e b k = g.refuses s p f (our_items_lem.only_refuses s p f e) ∙ sym e
    by (got i n) e true k = let h = leb-true p (length s) k in g.if s p i n h (our_items_lem.only_if s p i n h e) ∙ sym e
    by (got i n) e false k =
        let a : Ahead s p n = ok_at (sym e) (item_ok s p) in
        let l = leb-false p (length s) k in
        absurd (omega (arith, a.ahead, a.within))
