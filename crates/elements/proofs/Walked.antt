-- From the walk to the grammar: what was walked over is an element, and what was arrived at begins inside one.
use mathlib.Core.Path.{◌≡◌, refl, sym, ap, ◌∙◌}
use mathlib.Core.List.{List, [], ◌∷◌, ◌++◌, append_assoc}
use mathlib.Core.Bool.{true, false}
use mathlib.Core.Option.{some, none}
use Prim.Native.Nat.{ℕ, zero, suc, ◌+◌, ◌-◌, ◌≤◌, ◌<◌}
use native.Mathlib.Omega.{arith}
use lib.ListN.{length, drop, length-append}
use lib.Seq.{take-add, drop-drop, drop-cons}
use Rattle.refusals.specs.Read.{got, need}
use Rattle.refusals.proofs.Read.{Ok, ok_got, ok_then, ok_weak, ok_at, Ahead}
use Rattle.refusals.proofs.Rest.{Rest, rest_length}
use Rattle.tlf.specs.Lengths.{is_list}
use Rattle.tlf.specs.declared.TypeLengthField.{TypeLengthField}
use Rattle.tlf.proofs.Lengths.{tlf_ok}
use Rattle.walk.specs.Walk.{Item, end_mark, leaf, list_item, is_end_mark, item_at}
use Rattle.walk.specs.Cut.{elements_at, behind_item, element_by, element_at}
use Rattle.walk.proofs.Items.{mark_room, mark_byte, item_ok}
use Rattle.walk.proofs.Counts.{element_ok, row_ok}
use Rattle.elements.specs.Grammar.{HeadBytes, Elements, no_element, first_mark, first_leaf, first_list, UpTo, at_itself, inside_list}
use Rattle.elements.proofs.Local.{part_from, part_length, read_head}
use Rattle.elements.proofs.Grammar.{list_gets, elements_get}
use Rattle.elements.proofs.Items.{list_no, ItemIs, mark_there, leaf_there, list_there, item_is}
use Rattle.elements.proofs.Arrives.{Arrives, arrived, deeper}

pub part_add : (s : List ℕ) (p n m : ℕ) → p ≤ n → n ≤ m → part_from s p m ≡ part_from s p n ++ part_from s n m
part_add s p n m h k =
    let x : m - p ≡ n - p + (m - n) = omega arith in
    let y : p + (n - p) ≡ n = omega arith in
    rw (x, take-add (n - p) (m - n) (drop p s), drop-drop (n - p) p s, y)

part_none : (s : List ℕ) (p : ℕ) → part_from s p p ≡ []
part_none s p = let z : p - p ≡ 0 = omega arith in rw z

-- the bytes from p to n, before a row, make a row of one element more
pub record Adds (d : ℕ) (s : List ℕ) (p a n : ℕ) : Type 0 where
  pub adds : (k l : ℕ) (bs : List ℕ) → Elements d k bs l → Elements d (suc k) (part_from s p n ++ bs) (a + l)
  pub low : p ≤ n

mark_part : (s : List ℕ) (p : ℕ) → is_end_mark s p ≡ true → part_from s p (p + 1) ≡ 0x00 ∷ []
mark_part s p e =
    let z : p + 1 - p ≡ 1 = omega arith in
    rw (z, drop-cons s p 0 (mark_room s p e), mark_byte s p e)

mark_adds : (d : ℕ) (s : List ℕ) (p n : ℕ) → is_end_mark s p ≡ true → n ≡ p + 1 → Adds d s p 1 n
mark_adds d s p n e z = record { adds = λ k l bs w. rw (z, mark_part s p e) (first_mark w); low = omega arith }

leaf_adds : (d : ℕ) (s : List ℕ) (p n m : ℕ) (t : TypeLengthField) → HeadBytes t (part_from s p n) → is_list t.ty ≡ false → p ≤ n → m ≡ n + t.len → m ≤ length s → Adds d s p 1 m
leaf_adds d s p n m t h f a e q =
    record {
      adds = λ k l bs w.
          rw (part_add s p n m a (omega arith), append_assoc (part_from s p n) (part_from s n m) bs)
          (first_leaf t (part_from s p n) (part_from s n m) h f (part_length s n m q ∙ omega arith) w);
      low = omega arith;
    }

record Rows (d : ℕ) (s : List ℕ) (k sum p a n : ℕ) : Type 0 where
  leaves : ℕ
  is : a ≡ sum + leaves
  row : Elements d k (part_from s p n) leaves
  low : p ≤ n

row_is : (d : ℕ) (s : List ℕ) → ((p : ℕ) → Ok (Adds d s p) (element_at d s p)) → (k sum p : ℕ) → Ok (Rows d s k sum p) (elements_at (element_at d s) k sum p)
unfolding elements_at
row_is d s h zero sum p = ok_got _ _ (record { leaves = 0; is = omega arith; row = rw (part_none s p) no_element; low = omega arith })
row_is d s h (suc k) sum p =
    ok_then _ _ (h p) (λ a n q.
    ok_weak (λ b m r.
    record {
      leaves = a + r.leaves;
      is = omega (arith, r.is);
      row = rw (part_add s p n m q.low r.low) (q.adds k r.leaves (part_from s n m) r.row);
      low = omega (arith, q.low, r.low);
    }) (row_is d s h k (sum + a) n))

list_adds : (d : ℕ) (s : List ℕ) (p n a m : ℕ) (t : TypeLengthField) → HeadBytes t (part_from s p n) → is_list t.ty ≡ true → p ≤ n → Rows d s t.len 0 n a m → Adds (suc d) s p a m
list_adds d s p n a m t h f q r =
    let z : a ≡ r.leaves = omega (arith, r.is) in
    record {
      adds = λ k l bs w.
          rw (z, part_add s p n m q r.low, append_assoc (part_from s p n) (part_from s n m) bs)
          (first_list t (part_from s p n) (part_from s n m) h f r.row w);
      low = omega (arith, q, r.low);
    }

none_is : (s : List ℕ) (p n : ℕ) (i : Item) → ItemIs s p n i → Ok (Adds zero s p) (behind_item none p i n)
unfolding behind_item need
none_is s p n i (mark_there e z) = ok_got _ _ (mark_adds zero s p n e z)
none_is s p n i (leaf_there t m c e l z w) = let a : Ahead s p m = ok_at (sym e) (tlf_ok s p) in ok_got _ _ (leaf_adds zero s p m n t (read_head s p m t e) l (omega (arith, a.ahead)) z w)
none_is s p n i (list_there t e l) = record { holds = tt }

some_is : (d : ℕ) (s : List ℕ) (p n : ℕ) (i : Item) → ((m : ℕ) → Ok (Adds d s m) (element_at d s m)) → ItemIs s p n i → Ok (Adds (suc d) s p) (behind_item (some (element_at d s)) p i n)
unfolding behind_item need
some_is d s p n i h (mark_there e z) = ok_got _ _ (mark_adds (suc d) s p n e z)
some_is d s p n i h (leaf_there t m c e l z w) = let a : Ahead s p m = ok_at (sym e) (tlf_ok s p) in ok_got _ _ (leaf_adds (suc d) s p m n t (read_head s p m t e) l (omega (arith, a.ahead)) z w)
some_is d s p n i h (list_there t e l) =
    let b : Ahead s p n = ok_at (sym e) (tlf_ok s p) in
    ok_weak (λ a m r. list_adds d s p n a m t (read_head s p n t e) l (omega (arith, b.ahead)) r) (row_is d s h t.len 0 n)

pub element_adds : (d : ℕ) (s : List ℕ) (p : ℕ) → Ok (Adds d s p) (element_at d s p)
unfolding element_at element_by
element_adds zero s p = ok_then _ _ (item_is s p) (λ i n q. none_is s p n i q)
element_adds (suc d) s p = ok_then _ _ (item_is s p) (λ i n q. some_is d s p n i (λ m. element_adds d s m) q)

-- ---- a place inside an element

abbrev count_in : Item → ℕ
count_in end_mark = 0
count_in (leaf ty content) = 0
count_in (list_item k) = k

row_within_lem : (d : ℕ) (s : List ℕ) (k n a m : ℕ) → n ≤ length s → elements_at (element_at d s) k 0 n ≡ got a m → m ≤ length s
row_within_lem d s k n a m h e = (ok_at (sym e) (row_ok s (element_at d s) (element_ok d s) k 0 n h)).2

-- the bytes from p to q lead from an element to one inside it
pub record LeadsTo (s : List ℕ) (e q d p : ℕ) : Type 0 where
  pub up_to : UpTo e d (part_from s p q)
  pub low : p ≤ q
  pub high : q ≤ length s

list_leads : (d : ℕ) (s : List ℕ) (e q p k n j a m : ℕ) (i : Item) → ItemIs s p n i → i ≡ list_item k → j < k → elements_at (element_at d s) j 0 n ≡ got a m → LeadsTo s e q d m → LeadsTo s e q (suc d) p
list_leads d s e q p k n j a m i (mark_there h z) x f r t = let o : ◌≡◌ {A = ℕ} 0 1 = ap list_no x in absurd (omega (arith, o))
list_leads d s e q p k n j a m i (leaf_there u v c h l z w) x f r t = let o : ◌≡◌ {A = ℕ} 0 1 = ap list_no x in absurd (omega (arith, o))
list_leads d s e q p k n j a m i (list_there u h l) x f r t =
    let b : Ahead s p n = ok_at (sym h) (tlf_ok s p) in
    let c : Rows d s j 0 n a m = ok_at (sym r) (row_is d s (element_adds d s) j 0 n) in
    let y : u.len ≡ k = ap count_in x in
    record {
      up_to =
          rw (part_add s p n q (omega (arith, b.ahead)) (omega (arith, c.low, t.low)), part_add s n m q c.low t.low)
          (inside_list {k = j} u (part_from s p n) (part_from s n m) (read_head s p n u h) l (omega (arith, y)) c.row t.up_to);
      low = omega (arith, b.ahead, c.low, t.low);
      high = t.high;
    }

pub leads_to : {s : List ℕ} {e q d p : ℕ} → Arrives s e q d p → p ≤ length s → LeadsTo s e q d p
leads_to {s} {e} {q} arrived h = record { up_to = rw (part_none s q) at_itself; low = omega arith; high = h }
leads_to {s} {e} {q} (deeper d p k n j a m i l r t) h =
    list_leads d s e q p k n j a m (list_item k) (ok_at (sym i) (item_is s p)) refl l r (leads_to t (row_within_lem d s j n a m (ok_at (sym i) (item_ok s p)).within r))

-- ---- and back

pub rest_apart : {s : List ℕ} {p : ℕ} (head content b l : List ℕ) → Rest s p ((head ++ (content ++ b)) ++ l) → Rest s p (head ++ (content ++ (b ++ l)))
rest_apart head content b l r = simp append_assoc at r

pub arrives : {e d : ℕ} {b : List ℕ} → UpTo e d b → (s : List ℕ) (p : ℕ) (l : List ℕ) → Rest s p (b ++ l) → (q : ℕ) → q ≡ p + length b → Arrives s e q d p
arrives {e} at_itself s p l r q z = let y : q ≡ p = omega arith in rw y arrived
arrives (inside_list {d = d} {k = k} {b = b} t head content h f few w u) s p l r q z =
    let r₁ = rest_apart head content b l r in
    let g = list_gets t head h f (content ++ (b ++ l)) r₁ in
    let c = elements_get w s g.next (b ++ l) 0 g.left in
    let i : item_at s p ≡ got (list_item t.len) g.next = g.is ∙ ap (λ (x : Item). got x g.next) g.has in
    deeper d p t.len g.next k c.value c.next i few c.is
    (arrives u s c.next l c.left q
    (omega (arith, z, rest_length r, rest_length c.left, length-append (head ++ (content ++ b)) l, length-append b l)))
