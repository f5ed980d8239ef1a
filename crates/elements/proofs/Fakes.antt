-- A claim is false of each wrong walk and each wrong reader of items.
use mathlib.Core.Path.{◌≡◌, refl, sym, ap, ◌∙◌, subst}
use mathlib.Core.Bool.{Bool, true, false, cond, not, ◌||◌}
use mathlib.Core.List.{List, [], ◌∷◌}
use Prim.Native.Nat.{ℕ, zero, suc, ◌+◌, ◌≤◌, ◌<◌}
use native.Mathlib.Omega.{arith}
use lib.ListN.{length, replicate, length-replicate}
use lib.Dec.{ltb, leb}
use borrow.Author.Tests.{le-ltb}
use Rattle.refusals.specs.Numbers.{input_too_long_no, limit}
use Rattle.refusals.specs.Read.{Read, got, refused, Refusal, then, guard, need, eof, byte_at, span_at}
use Rattle.refusals.specs.Answers.{underflow, invalid_ty}
use Rattle.tlf.specs.Lengths.{tlf_at, length_from, less_own}
use Rattle.walk.specs.Walk.{too_deep, is_end_mark, Item, end_mark, leaf, list_item, item_at, take_item, walk_step, pass, WalkSaid, walk_is, walk_broken, walk_refused, measured, walk_at}
use Rattle.tlf.specs.declared.Ty.TheVariants.{OctetString}
use Rattle.walk.specs.Cut.{behind_item}
use Rattle.places.proofs.Seen.{is_got}
use Rattle.whole.specs.Whole.{Fair, AfterWhole}
use Rattle.one_call.specs.Bench.{open_input}
use Rattle.one_call.proofs.Bench.{whole_bench}
use Rattle.one_call.proofs.Readers.{ours_good}
use Rattle.elements.specs.Walkers.{Walker, MeasuresExactly, RefusesExactly, NineFirst, LooksNoFurther, EndsWithMessages}
use Rattle.elements.specs.ItemReaders.{ItemReader, ReadsItems}
use Rattle.elements.specs.Grammar.{HeadBytes, no_element, first_leaf}
use Rattle.elements.specs.Sights.{Sight, sights, see_step, sees_by, SeesElements}
use Rattle.elements.specs.Bench.{in_sixteen}
use Rattle.elements.specs.Fakes.{our_rules, is_list_item, take_by, step_by, pass_by, walk_by, end_mark_is_no_leaf, list_is_a_leaf, none_is_a_leaf, empty_is_no_leaf, end_mark_is_one, two_bytes_mark, no_mark_alone, seventeen_open, fifteen_open, deep_behind_its_length, none_never_deep, leaves_too_deep, deep_before_its_length, depth_not_given_back, list_one_short, leaf_without_content, one_taken_off, first_element_again, content_is_judged, behind_only, rest_refused, places_from_element, names_the_element, limit_one_more, any_length, beyond_is_bad, walk_refuses_all, content_with_its_length, lists_passed_over, mark_is_a_string, content_left, none_at_the_end, mark_closes_its_list, deep_behind_its_elements, step_ever, pass_ever, leaves_of_the_last, elements_by, recursed_at, FallWalkers}
use Rattle.elements.proofs.Walkers.{walk_kind, never_by_number, our_walker_lem}
use Rattle.elements.proofs.ItemReaders.{our_items_lem}

-- ---- ours

step_ours : (on go : List ℕ → ℕ → ℕ → Read ℕ) → ((w : List ℕ) (l n : ℕ) → on w l n ≡ go w l n) → (s wants : List ℕ) (leaves at : ℕ) → step_by our_rules on s wants leaves at ≡ walk_step go s wants leaves at
unfolding step_by walk_step take_item then guard
step_ours on go h s [] leaves at = refl
step_ours on go h s (zero ∷ wants) leaves at = step_ours on go h s wants leaves at
step_ours on go h s (suc k ∷ wants) leaves at = by (item_at s at)
  where
    w : List ℕ
    w = k ∷ wants

    ours : Read Item → Read ℕ
    ours r = then (then r λ i n. guard (not (is_list_item i) || leb (length w) 16) (too_deep at) (got i n)) (take_by our_rules on w leaves)

    opened : (b : Bool) (j n : ℕ) → then (guard b (too_deep at) (got (list_item j) n)) (take_by our_rules on w leaves) ≡ guard b (too_deep at) (go (j ∷ w) leaves n)
    opened true j n = let z : leaves + 0 ≡ leaves = omega arith in rw z (h (j ∷ w) leaves n)
    opened false j n = refl

    by : (r : Read Item) → ours r ≡ then r (take_item go w leaves at)
    by (refused f) = refl
    by (got end_mark n) = h w (leaves + 1) n
    by (got (leaf ty content) n) = h w (leaves + 1) n
    by (got (list_item j) n) = opened (leb (length w) 16) j n

pass_ours : (many : ℕ) (s wants : List ℕ) (leaves at : ℕ) → pass_by our_rules many s wants leaves at ≡ pass many s wants leaves at
unfolding pass_by pass
pass_ours zero s wants leaves at = refl
pass_ours (suc many) s wants leaves at = step_ours (pass_by our_rules many s) (pass many s) (λ w l n. pass_ours many s w l n) s wants leaves at

ours_walks : (s : List ℕ) (at : ℕ) → walk_by our_rules s at ≡ walk_at s at
unfolding walk_at
ours_walks s at = ap (λ (r : Read ℕ). cond (ltb limit (length s)) (walk_refused input_too_long_no) (measured at r)) (pass_ours (suc (length s)) s (1 ∷ []) 0 at)

-- ---- what ours says at an input, and another doesn't

-- the numbers of an answer: bytes and leaves, or number and place
abbrev first_no : WalkSaid → ℕ
first_no (walk_is bytes leaves) = bytes
first_no (walk_broken f) = f.number
first_no (walk_refused n) = n

abbrev second_no : WalkSaid → ℕ
second_no (walk_is bytes leaves) = leaves
second_no (walk_broken f) = f.place
second_no (walk_refused n) = 0

measures_falls : (W : Walker) (s : List ℕ) (at bytes leaves : ℕ) → length s ≤ limit → walk_at s at ≡ walk_is bytes leaves → (W s at ≡ walk_is bytes leaves → ⊥) → MeasuresExactly W → ⊥
measures_falls W s at bytes leaves h e n m = n (m.if s at bytes leaves h (our_walker_lem.measures.only_if s at bytes leaves h e))

refuses_falls : (W : Walker) (s : List ℕ) (at : ℕ) (r : Refusal) → length s ≤ limit → walk_at s at ≡ walk_broken r → (W s at ≡ walk_broken r → ⊥) → RefusesExactly W → ⊥
refuses_falls W s at r h e n m = n (m.if s at r h (our_walker_lem.refuses.only_if s at r h e))

items_fall : (I : ItemReader) (s : List ℕ) (at n : ℕ) (i : Item) → at ≤ length s → item_at s at ≡ got i n → (I s at ≡ got i n → ⊥) → ReadsItems I → ⊥
items_fall I s at n i h e not-it r = not-it (r.if s at i n h (our_items_lem.only_if s at i n h e))

-- ---- leaves, end marks, depth, lists

falls_mark_no_leaf : MeasuresExactly end_mark_is_no_leaf → ⊥
unfolding then guard need byte_at span_at tlf_at length_from less_own is_end_mark item_at take_item walk_step pass walk_at step_by pass_by
falls_mark_no_leaf = measures_falls end_mark_is_no_leaf (0x00 ∷ []) 0 1 1 (omega arith) refl (λ e. let z : ◌≡◌ {A = ℕ} 0 1 = ap second_no e in omega (arith, z))

falls_list_a_leaf : MeasuresExactly list_is_a_leaf → ⊥
unfolding then guard need byte_at span_at tlf_at length_from less_own is_end_mark item_at take_item walk_step pass walk_at step_by pass_by
falls_list_a_leaf = measures_falls list_is_a_leaf (0x71 ∷ 0x01 ∷ []) 0 2 1 (omega arith) refl (λ e. let z : ◌≡◌ {A = ℕ} 2 1 = ap second_no e in omega (arith, z))

falls_none_a_leaf : MeasuresExactly none_is_a_leaf → ⊥
unfolding then guard need byte_at span_at tlf_at length_from less_own is_end_mark item_at take_item walk_step pass walk_at step_by pass_by
falls_none_a_leaf = measures_falls none_is_a_leaf (0x70 ∷ []) 0 1 0 (omega arith) refl (λ e. let z : ◌≡◌ {A = ℕ} 1 0 = ap second_no e in omega (arith, z))

falls_empty_no_leaf : MeasuresExactly empty_is_no_leaf → ⊥
unfolding then guard need byte_at span_at tlf_at length_from less_own is_end_mark item_at take_item walk_step pass walk_at step_by pass_by
falls_empty_no_leaf = measures_falls empty_is_no_leaf (0x01 ∷ []) 0 1 1 (omega arith) refl (λ e. let z : ◌≡◌ {A = ℕ} 0 1 = ap second_no e in omega (arith, z))

falls_mark_is_one : MeasuresExactly end_mark_is_one → ⊥
unfolding then guard need byte_at span_at tlf_at length_from less_own is_end_mark item_at take_item walk_step pass walk_at step_by pass_by
falls_mark_is_one = measures_falls end_mark_is_one (0x00 ∷ []) 0 1 1 (omega arith) refl (λ e. let z : ◌≡◌ {A = ℕ} 1 0 = ap walk_kind e in omega (arith, z))

falls_mark_in_two : RefusesExactly two_bytes_mark → ⊥
unfolding then guard need byte_at span_at tlf_at length_from less_own is_end_mark item_at take_item walk_step pass walk_at step_by pass_by
falls_mark_in_two = refuses_falls two_bytes_mark (0x80 ∷ 0x00 ∷ []) 0 (underflow 0) (omega arith) refl (λ e. let z : ◌≡◌ {A = ℕ} 0 1 = ap walk_kind e in omega (arith, z))

falls_closes_its_list : MeasuresExactly mark_closes_its_list → ⊥
unfolding then guard need byte_at span_at tlf_at length_from less_own is_end_mark item_at take_item walk_step pass walk_at step_by pass_by
falls_closes_its_list = measures_falls mark_closes_its_list (0x72 ∷ 0x00 ∷ 0x01 ∷ []) 0 3 2 (omega arith) refl (λ e. let z : ◌≡◌ {A = ℕ} 2 3 = ap first_no e in omega (arith, z))

falls_no_mark_alone : MeasuresExactly no_mark_alone → ⊥
unfolding then guard need byte_at span_at tlf_at length_from less_own is_end_mark item_at take_item walk_step pass walk_at step_by pass_by
falls_no_mark_alone = measures_falls no_mark_alone (0x00 ∷ []) 0 1 1 (omega arith) refl (λ e. let z : ◌≡◌ {A = ℕ} 1 0 = ap walk_kind e in omega (arith, z))

falls_seventeen : RefusesExactly seventeen_open → ⊥
unfolding then guard need byte_at span_at tlf_at length_from less_own is_end_mark item_at take_item walk_step pass walk_at step_by pass_by
falls_seventeen = refuses_falls seventeen_open (in_sixteen (0x70 ∷ [])) 0 (too_deep 16) (omega arith) refl (λ e. let z : ◌≡◌ {A = ℕ} 0 1 = ap walk_kind e in omega (arith, z))

falls_fifteen : MeasuresExactly fifteen_open → ⊥
unfolding then guard need byte_at span_at tlf_at length_from less_own is_end_mark item_at take_item walk_step pass walk_at step_by pass_by
falls_fifteen = measures_falls fifteen_open (in_sixteen (0x01 ∷ [])) 0 17 1 (omega arith) refl (λ e. let z : ◌≡◌ {A = ℕ} 1 0 = ap walk_kind e in omega (arith, z))

falls_deep_behind : RefusesExactly deep_behind_its_length → ⊥
unfolding then guard need byte_at span_at tlf_at length_from less_own is_end_mark item_at take_item walk_step pass walk_at step_by pass_by
falls_deep_behind = refuses_falls deep_behind_its_length (in_sixteen (0x70 ∷ [])) 0 (too_deep 16) (omega arith) refl (λ e. let z : ◌≡◌ {A = ℕ} 17 16 = ap second_no e in omega (arith, z))

falls_none_never_deep : RefusesExactly none_never_deep → ⊥
unfolding then guard need byte_at span_at tlf_at length_from less_own is_end_mark item_at take_item walk_step pass walk_at step_by pass_by
falls_none_never_deep = refuses_falls none_never_deep (in_sixteen (0x70 ∷ [])) 0 (too_deep 16) (omega arith) refl (λ e. let z : ◌≡◌ {A = ℕ} 0 1 = ap walk_kind e in omega (arith, z))

falls_leaves_deep : MeasuresExactly leaves_too_deep → ⊥
unfolding then guard need byte_at span_at tlf_at length_from less_own is_end_mark item_at take_item walk_step pass walk_at step_by pass_by
falls_leaves_deep = measures_falls leaves_too_deep (in_sixteen (0x01 ∷ [])) 0 17 1 (omega arith) refl (λ e. let z : ◌≡◌ {A = ℕ} 1 0 = ap walk_kind e in omega (arith, z))

falls_deep_before : RefusesExactly deep_before_its_length → ⊥
unfolding then guard need byte_at span_at tlf_at length_from less_own is_end_mark item_at take_item walk_step pass walk_at step_by pass_by
falls_deep_before = refuses_falls deep_before_its_length (in_sixteen (0xf1 ∷ [])) 0 (eof 17) (omega arith) refl (λ e. let z : ◌≡◌ {A = ℕ} 19 10 = ap first_no e in omega (arith, z))

falls_deep_behind_elements : RefusesExactly deep_behind_its_elements → ⊥
unfolding then guard need byte_at span_at tlf_at length_from less_own is_end_mark item_at take_item walk_step pass walk_at step_by pass_by
falls_deep_behind_elements = refuses_falls deep_behind_its_elements (in_sixteen (0x71 ∷ 0x10 ∷ [])) 0 (too_deep 16) (omega arith) refl (λ e. let z : ◌≡◌ {A = ℕ} 11 19 = ap first_no e in omega (arith, z))

falls_not_given_back : MeasuresExactly depth_not_given_back → ⊥
unfolding then guard need byte_at span_at tlf_at length_from less_own is_end_mark item_at take_item walk_step pass walk_at step_by pass_by step_ever pass_ever
falls_not_given_back = measures_falls depth_not_given_back (0xf1 ∷ 0x00 ∷ replicate 16 0x70) 0 18 0 (omega arith) refl (λ e. let z : ◌≡◌ {A = ℕ} 1 0 = ap walk_kind e in omega (arith, z))

falls_one_short : MeasuresExactly list_one_short → ⊥
unfolding then guard need byte_at span_at tlf_at length_from less_own is_end_mark item_at take_item walk_step pass walk_at step_by pass_by
falls_one_short = measures_falls list_one_short (0x71 ∷ 0x01 ∷ []) 0 2 1 (omega arith) refl (λ e. let z : ◌≡◌ {A = ℕ} 1 2 = ap first_no e in omega (arith, z))

falls_no_content : MeasuresExactly leaf_without_content → ⊥
unfolding then guard need byte_at span_at tlf_at length_from less_own is_end_mark item_at take_item walk_step pass walk_at step_by pass_by
falls_no_content = measures_falls leaf_without_content (0x02 ∷ 0x41 ∷ []) 0 2 1 (omega arith) refl (λ e. let z : ◌≡◌ {A = ℕ} 1 2 = ap first_no e in omega (arith, z))

falls_one_off : MeasuresExactly one_taken_off → ⊥
unfolding then guard need byte_at span_at tlf_at length_from less_own is_end_mark item_at take_item walk_step pass walk_at step_by pass_by
falls_one_off = measures_falls one_taken_off (0x80 ∷ 0x03 ∷ 0x41 ∷ 0x42 ∷ []) 0 3 1 (omega arith) refl (λ e. let z : ◌≡◌ {A = ℕ} 4 3 = ap first_no e in omega (arith, z))

falls_again : MeasuresExactly first_element_again → ⊥
unfolding then guard need byte_at span_at tlf_at length_from less_own is_end_mark item_at take_item walk_step pass walk_at step_by pass_by behind_item elements_by recursed_at
falls_again = measures_falls first_element_again (0x72 ∷ 0x01 ∷ 0x02 ∷ 0x41 ∷ []) 0 4 2 (omega arith) refl (λ e. let z : ◌≡◌ {A = ℕ} 2 4 = ap first_no e in omega (arith, z))

falls_of_the_last : MeasuresExactly leaves_of_the_last → ⊥
unfolding then guard need byte_at span_at tlf_at length_from less_own is_end_mark item_at take_item walk_step pass walk_at step_by pass_by behind_item elements_by recursed_at
falls_of_the_last = measures_falls leaves_of_the_last (0x72 ∷ 0x01 ∷ 0x01 ∷ []) 0 3 2 (omega arith) refl (λ e. let z : ◌≡◌ {A = ℕ} 1 2 = ap second_no e in omega (arith, z))

falls_judged_content : MeasuresExactly content_is_judged → ⊥
unfolding then guard need byte_at span_at tlf_at length_from less_own is_end_mark item_at take_item walk_step pass walk_at step_by pass_by
falls_judged_content = measures_falls content_is_judged (0x41 ∷ []) 0 1 1 (omega arith) refl (λ e. let z : ◌≡◌ {A = ℕ} 1 0 = ap walk_kind e in omega (arith, z))

falls_place_for_bytes : MeasuresExactly behind_only → ⊥
unfolding then guard need byte_at span_at tlf_at length_from less_own is_end_mark item_at take_item walk_step pass walk_at step_by pass_by
falls_place_for_bytes = measures_falls behind_only (0x00 ∷ 0x01 ∷ []) 1 1 1 (omega arith) refl (λ e. let z : ◌≡◌ {A = ℕ} 2 1 = ap first_no e in omega (arith, z))

falls_rest_refused : MeasuresExactly rest_refused → ⊥
unfolding then guard need byte_at span_at tlf_at length_from less_own is_end_mark item_at take_item walk_step pass walk_at step_by pass_by
falls_rest_refused = measures_falls rest_refused (0x00 ∷ 0xff ∷ []) 0 1 1 (omega arith) refl (λ e. let z : ◌≡◌ {A = ℕ} 1 0 = ap walk_kind e in omega (arith, z))

-- 00 is measured, and with a byte behind it refused
falls_rest_looked_at : LooksNoFurther rest_refused → ⊥
unfolding then guard need byte_at span_at tlf_at length_from less_own is_end_mark item_at take_item walk_step pass walk_at
falls_rest_looked_at h =
    let m = h.found (0x00 ∷ []) 0 1 1 (record { short = omega arith; inside = omega arith }) refl in
    let z : ◌≡◌ {A = ℕ} 1 0 = ap walk_kind (m.looks.alike (0x00 ∷ 0xff ∷ []) (omega arith) (record { bytes = refl })) in
    omega (arith, z)

falls_from_the_element : RefusesExactly places_from_element → ⊥
unfolding then guard need byte_at span_at tlf_at length_from less_own is_end_mark item_at take_item walk_step pass walk_at step_by pass_by
falls_from_the_element = refuses_falls places_from_element (0x00 ∷ 0x10 ∷ []) 1 (invalid_ty 1) (omega arith) refl (λ e. let z : ◌≡◌ {A = ℕ} 0 1 = ap second_no e in omega (arith, z))

falls_the_element : RefusesExactly names_the_element → ⊥
unfolding then guard need byte_at span_at tlf_at length_from less_own is_end_mark item_at take_item walk_step pass walk_at step_by pass_by
falls_the_element = refuses_falls names_the_element (0x71 ∷ 0x10 ∷ []) 0 (invalid_ty 1) (omega arith) refl (λ e. let z : ◌≡◌ {A = ℕ} 0 1 = ap second_no e in omega (arith, z))

-- ---- the limit

long_zeros : (n : ℕ) → limit < n → limit < length (replicate {A = ℕ} n 0)
long_zeros n h = subst (λ (k : ℕ). limit < k) (sym (length-replicate {A = ℕ} n 0)) h

long_taken : (s : List ℕ) → length s ≡ limit + 1 → limit_one_more s 0 ≡ walk_refused input_too_long_no → ⊥
long_taken s h e = never_by_number (pass_by our_rules (suc (length s)) s (1 ∷ []) 0 0) 0 input_too_long_no (sym (rw (le-ltb (limit + 1) (length s) (omega arith))) ∙ e)

falls_one_more : NineFirst limit_one_more → ⊥
falls_one_more j = by (limit + 1) refl
  where
    by : (n : ℕ) → n ≡ limit + 1 → ⊥
    by n h = long_taken (replicate n 0) (length-replicate {A = ℕ} n 0 ∙ h) (j (replicate n 0) 0 (long_zeros n (omega arith)))

falls_any_length : NineFirst any_length → ⊥
falls_any_length j = by (limit + 1) refl
  where
    by : (n : ℕ) → n ≡ limit + 1 → ⊥
    by n h = never_by_number (pass_by our_rules (suc (length (replicate n 0))) (replicate n 0) (1 ∷ []) 0 0) 0 input_too_long_no (j (replicate n 0) 0 (long_zeros n (omega arith)))

falls_none_at_the_end : RefusesExactly none_at_the_end → ⊥
unfolding then guard need byte_at span_at tlf_at length_from less_own is_end_mark item_at take_item walk_step pass walk_at step_by pass_by
falls_none_at_the_end = refuses_falls none_at_the_end [] 0 (eof 0) (omega arith) refl (λ e. let z : ◌≡◌ {A = ℕ} 0 1 = ap walk_kind e in omega (arith, z))

falls_beyond_bad : RefusesExactly beyond_is_bad → ⊥
unfolding then guard need byte_at span_at tlf_at length_from less_own is_end_mark item_at take_item walk_step pass walk_at
falls_beyond_bad = refuses_falls beyond_is_bad [] 1 (eof 0) (omega arith) refl (λ e. let z : ◌≡◌ {A = ℕ} 2 1 = ap walk_kind e in omega (arith, z))

-- ---- messages

falls_all_refused : EndsWithMessages walk_refuses_all → ⊥
falls_all_refused h =
    let f : Fair open_input 0 = record { short = omega arith; inside = omega arith } in
    let w = ours_good.accepts.only_if open_input 0 [] _ _ _ _ f (ap (λ (a : AfterWhole). a.answer) whole_bench.opens) in
    let e = h open_input 0 25 w.whole f w.runs in
    let z : ◌≡◌ {A = ℕ} 1 0 = ap walk_kind e.is in
    omega (arith, z)

-- ---- items

abbrev content_start : Read Item → ℕ
content_start (got end_mark n) = 0
content_start (got (leaf ty content) n) = content.start
content_start (got (list_item k) n) = 0
content_start (refused f) = 0

abbrev place_next : Read Item → ℕ
place_next (got i n) = n
place_next (refused f) = 0

abbrev is_mark : Read Item → ℕ
is_mark (got end_mark n) = 1
is_mark (got (leaf ty content) n) = 0
is_mark (got (list_item k) n) = 0
is_mark (refused f) = 0

falls_with_its_length : ReadsItems content_with_its_length → ⊥
unfolding then guard need byte_at span_at tlf_at length_from less_own is_end_mark item_at take_item walk_step pass walk_at step_by pass_by
falls_with_its_length = items_fall content_with_its_length (0x02 ∷ 0x41 ∷ []) 0 2 (leaf OctetString (record { start = 1; len = 1 })) (omega arith) refl (λ e. let z : ◌≡◌ {A = ℕ} 0 1 = ap content_start e in omega (arith, z))

falls_passed_over : ReadsItems lists_passed_over → ⊥
unfolding then guard need byte_at span_at tlf_at length_from less_own is_end_mark item_at take_item walk_step pass walk_at step_by pass_by
falls_passed_over = items_fall lists_passed_over (0x71 ∷ 0x01 ∷ []) 0 1 (list_item 1) (omega arith) refl (λ e. let z : ◌≡◌ {A = ℕ} 2 1 = ap place_next e in omega (arith, z))

falls_content_left : ReadsItems content_left → ⊥
unfolding then guard need byte_at span_at tlf_at length_from less_own is_end_mark item_at take_item walk_step pass walk_at step_by pass_by
falls_content_left r =
    let e = r.refuses (0x03 ∷ 0x41 ∷ []) 0 (eof 2) (our_items_lem.only_refuses (0x03 ∷ 0x41 ∷ []) 0 (eof 2) refl) in
    let z : ◌≡◌ {A = ℕ} 1 0 = ap is_got e in
    omega (arith, z)

falls_a_string : ReadsItems mark_is_a_string → ⊥
unfolding then guard need byte_at span_at tlf_at length_from less_own is_end_mark item_at take_item walk_step pass walk_at step_by pass_by
falls_a_string = items_fall mark_is_a_string (0x00 ∷ []) 0 1 end_mark (omega arith) refl (λ e. let z : ◌≡◌ {A = ℕ} 0 1 = ap is_mark e in omega (arith, z))

a_head : HeadBytes (record { ty = OctetString; len = 1 }) (0x02 ∷ [])
unfolding then guard need byte_at tlf_at length_from less_own
a_head = record { is = refl }

abbrev start_seen : List Sight → ℕ
start_seen [] = 9
start_seen (x ∷ l) = content_start (got x.item 0)

falls_other_sights : SeesElements content_with_its_length → ⊥
unfolding then guard need byte_at span_at tlf_at length_from less_own is_end_mark item_at sees_by see_step sights
falls_other_sights h =
    let e = h (0x02 ∷ 0x41 ∷ []) 0 (0x02 ∷ 0x41 ∷ []) [] 1 (omega arith) refl (first_leaf (record { ty = OctetString; len = 1 }) (0x02 ∷ []) (0x41 ∷ []) a_head refl refl no_element) in
    let z : ◌≡◌ {A = ℕ} 0 1 = ap start_seen e in
    omega (arith, z)

pub fall_walkers : FallWalkers
fall_walkers =
    record {
      ours = ours_walks;
      mark_no_leaf = falls_mark_no_leaf;
      list_a_leaf = falls_list_a_leaf;
      none_a_leaf = falls_none_a_leaf;
      empty_no_leaf = falls_empty_no_leaf;
      mark_is_one = falls_mark_is_one;
      mark_in_two = falls_mark_in_two;
      closes_its_list = falls_closes_its_list;
      no_mark_alone_claim = falls_no_mark_alone;
      seventeen = falls_seventeen;
      fifteen = falls_fifteen;
      deep_behind = falls_deep_behind;
      none_never_deep_claim = falls_none_never_deep;
      leaves_deep = falls_leaves_deep;
      deep_before = falls_deep_before;
      deep_behind_elements = falls_deep_behind_elements;
      not_given_back = falls_not_given_back;
      one_short = falls_one_short;
      no_content_claim = falls_no_content;
      one_off_claim = falls_one_off;
      again = falls_again;
      of_the_last = falls_of_the_last;
      judged_content = falls_judged_content;
      place_for_bytes = falls_place_for_bytes;
      rest_refused_claim = falls_rest_refused;
      rest_looked_at = falls_rest_looked_at;
      from_the_element = falls_from_the_element;
      the_element = falls_the_element;
      one_more = falls_one_more;
      any_length_claim = falls_any_length;
      beyond_bad = falls_beyond_bad;
      none_at_the_end_claim = falls_none_at_the_end;
      all_refused = falls_all_refused;
      with_its_length_claim = falls_with_its_length;
      passed_over = falls_passed_over;
      content_left_claim = falls_content_left;
      a_string = falls_a_string;
      other_sights = falls_other_sights;
    }
