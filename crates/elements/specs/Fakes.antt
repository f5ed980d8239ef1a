-- check: walks and readers of items that are wrong in one way each; a claim is false of each.
use Rattle.std.specs.Prelude.{ℕ, zero, suc, ◌+◌, ◌-◌, Bool, true, false, cond, not, ◌&&◌, ◌||◌, List, [], ◌∷◌, ◌≡◌, length, get_or, ltb, leb, eqb}
use Rattle.std.proofs.Math.Option.{none}
use Rattle.refusals.specs.Numbers.{bad_state_no, input_too_long_no, limit}
use Rattle.refusals.specs.Read.{Read, got, refused, then, guard, eof, mismatch, wrong_end, span_at}
use Rattle.refusals.specs.Answers.{underflow}
use Rattle.tlf.specs.Lengths.{tlf_at, type_bits, is_list, is_boolean}
use Rattle.tlf.specs.declared.Ty.TheVariants.{OctetString}
use Rattle.walk.specs.Walk.{too_deep, deepest, is_end_mark, Item, end_mark, leaf, list_item, item_at, WalkSaid, walk_is, walk_broken, walk_refused, measured, walk_at}
use Rattle.walk.specs.Cut.{behind_item}
use Rattle.elements.specs.Walkers.{Walker, MeasuresExactly, RefusesExactly, NineFirst, LooksNoFurther, EndsWithMessages}
use Rattle.elements.specs.ItemReaders.{ItemReader, ReadsItems}
use Rattle.elements.specs.Sights.{SeesElements}

-- ---- the pass with other rules

-- how an item is read, 19 with it, given how many numbers `wants` has; how many leaves it is; how many elements a list wants; how many the innermost list still wants behind an end mark
pub record PassRules : Type 0 where
  pub item : ℕ → List ℕ → ℕ → Read Item
  pub leaves : Item → ℕ
  pub wanted : ℕ → ℕ
  pub behind_mark : ℕ → ℕ

abbrev pub marked_by : PassRules → List ℕ → List ℕ
marked_by R [] = []
marked_by R (k ∷ wants) = R.behind_mark k ∷ wants

abbrev pub take_by : PassRules → (List ℕ → ℕ → ℕ → Read ℕ) → List ℕ → ℕ → Item → ℕ → Read ℕ
take_by R on wants leaves end_mark n = on (marked_by R wants) (leaves + R.leaves end_mark) n
take_by R on wants leaves (leaf ty content) n = on wants (leaves + R.leaves (leaf ty content)) n
take_by R on wants leaves (list_item k) n = on (R.wanted k ∷ wants) (leaves + R.leaves (list_item k)) n

unfoldable pub step_by : PassRules → (List ℕ → ℕ → ℕ → Read ℕ) → List ℕ → List ℕ → ℕ → ℕ → Read ℕ
step_by R on s [] leaves at = got leaves at
step_by R on s (zero ∷ wants) leaves at = step_by R on s wants leaves at
step_by R on s (suc k ∷ wants) leaves at = then (R.item (length (k ∷ wants)) s at) (take_by R on (k ∷ wants) leaves)

unfoldable pub pass_by : PassRules → ℕ → List ℕ → List ℕ → ℕ → ℕ → Read ℕ
pass_by R zero s wants leaves at = refused (eof (length s))
pass_by R (suc many) s wants leaves at = step_by R (pass_by R many s) s wants leaves at

abbrev pub walk_by : PassRules → Walker
walk_by R s at = cond (ltb limit (length s)) (walk_refused input_too_long_no) (measured at (pass_by R (suc (length s)) s (1 ∷ []) 0 at))

abbrev pub is_list_item : Item → Bool
is_list_item end_mark = false
is_list_item (leaf ty content) = false
is_list_item (list_item k) = true

-- `most` lists may be open; 19 stands at a place made of the list's own and the next one; `judged` are the items that may be too deep
abbrev pub item_within : ℕ → (ℕ → ℕ → ℕ) → (Item → Bool) → ItemReader → ℕ → List ℕ → ℕ → Read Item
item_within most place judged read numbers s at = then (read s at) λ i n. guard (not (judged i) || leb numbers most) (too_deep (place at n)) (got i n)

abbrev pub own_place : ℕ → ℕ → ℕ
own_place at n = at

abbrev pub behind_itself : ℕ → ℕ → ℕ
behind_itself at n = n

abbrev pub leaves_of : Item → ℕ
leaves_of end_mark = 1
leaves_of (leaf ty content) = 1
leaves_of (list_item k) = 0

abbrev pub as_announced : ℕ → ℕ
as_announced k = k

-- ours: 19 for a list where `wants` has more than sixteen numbers, behind its length bytes
abbrev pub our_items : ℕ → List ℕ → ℕ → Read Item
our_items = item_within deepest own_place is_list_item item_at

abbrev pub our_rules : PassRules
our_rules = record { item = our_items; leaves = leaves_of; wanted = as_announced; behind_mark = as_announced }

-- ours, but for how an item is read; but for what opens; but for how many leaves an item is
abbrev pub walks_by_items : ItemReader → Walker
walks_by_items read = walk_by (record { item = item_within deepest own_place is_list_item read; leaves = leaves_of; wanted = as_announced; behind_mark = as_announced })

abbrev pub walks_by_opening : (ℕ → List ℕ → ℕ → Read Item) → Walker
walks_by_opening item = walk_by (record { item = item; leaves = leaves_of; wanted = as_announced; behind_mark = as_announced })

abbrev pub walks_by_leaves : (Item → ℕ) → Walker
walks_by_leaves leaves = walk_by (record { item = our_items; leaves = leaves; wanted = as_announced; behind_mark = as_announced })

-- ---- leaves

-- an end mark counts nothing
abbrev pub leaves_without_marks : Item → ℕ
leaves_without_marks end_mark = 0
leaves_without_marks (leaf ty content) = 1
leaves_without_marks (list_item k) = 0

abbrev pub end_mark_is_no_leaf : Walker
end_mark_is_no_leaf = walks_by_leaves leaves_without_marks

-- a list is counted beside its elements
abbrev pub leaves_with_lists : Item → ℕ
leaves_with_lists end_mark = 1
leaves_with_lists (leaf ty content) = 1
leaves_with_lists (list_item k) = 1

abbrev pub list_is_a_leaf : Walker
list_is_a_leaf = walks_by_leaves leaves_with_lists

-- a list of none is a leaf
abbrev pub leaves_with_none : Item → ℕ
leaves_with_none end_mark = 1
leaves_with_none (leaf ty content) = 1
leaves_with_none (list_item k) = cond (eqb k 0) 1 0

abbrev pub none_is_a_leaf : Walker
none_is_a_leaf = walks_by_leaves leaves_with_none

-- what is empty is no leaf, a field that is absent above all
abbrev pub leaves_present : Item → ℕ
leaves_present end_mark = 1
leaves_present (leaf ty content) = cond (eqb content.len 0) 0 1
leaves_present (list_item k) = 0

abbrev pub empty_is_no_leaf : Walker
empty_is_no_leaf = walks_by_leaves leaves_present

-- ---- end marks

-- ours, but for what an end mark is, which takes so many bytes
abbrev pub item_marked_by : (List ℕ → ℕ → Bool) → ℕ → ItemReader
item_marked_by marked bytes s at = cond (marked s at) (got end_mark (at + bytes)) (cond (is_end_mark s at) (refused (underflow at)) (item_at s at))

abbrev pub byte_is : ℕ → List ℕ → ℕ → Bool
byte_is b s at = ltb at (length s) && eqb (get_or s at 0) b

-- 01 is the end mark
abbrev pub end_mark_is_one : Walker
end_mark_is_one = walks_by_items (item_marked_by (byte_is 0x01) 1)

-- 80 00, a length of none in two bytes, is an end mark too
abbrev pub end_mark_in_two : ItemReader
end_mark_in_two s at = cond (byte_is 0x80 s at && byte_is 0x00 s (at + 1)) (got end_mark (at + 2)) (item_at s at)

abbrev pub two_bytes_mark : Walker
two_bytes_mark = walks_by_items end_mark_in_two

-- 00 is an end mark in a list alone
abbrev pub mark_in_lists : ℕ → List ℕ → ℕ → Read Item
mark_in_lists numbers s at = cond (is_end_mark s at && leb numbers 1) (refused (underflow at)) (our_items numbers s at)

abbrev pub no_mark_alone : Walker
no_mark_alone = walks_by_opening mark_in_lists

-- an end mark closes the list that it stands in
abbrev pub none_left : ℕ → ℕ
none_left k = 0

abbrev pub mark_closes_its_list : Walker
mark_closes_its_list = walk_by (record { item = our_items; leaves = leaves_of; wanted = as_announced; behind_mark = none_left })

-- ---- depth

abbrev pub seventeen_open : Walker
seventeen_open = walks_by_opening (item_within 17 own_place is_list_item item_at)

abbrev pub fifteen_open : Walker
fifteen_open = walks_by_opening (item_within 15 own_place is_list_item item_at)

-- 19 stands behind the list's length bytes
abbrev pub deep_behind_its_length : Walker
deep_behind_its_length = walks_by_opening (item_within deepest behind_itself is_list_item item_at)

-- a list of none opens nothing
abbrev pub is_list_of_some : Item → Bool
is_list_of_some end_mark = false
is_list_of_some (leaf ty content) = false
is_list_of_some (list_item k) = ltb 0 k

abbrev pub none_never_deep : Walker
none_never_deep = walks_by_opening (item_within deepest own_place is_list_of_some item_at)

-- leaves are judged too
abbrev pub is_any : Item → Bool
is_any i = true

abbrev pub leaves_too_deep : Walker
leaves_too_deep = walks_by_opening (item_within deepest own_place is_any item_at)

-- 19 by the type of the first byte, before the length bytes are judged
abbrev pub deep_by_type : ℕ → List ℕ → ℕ → Read Item
deep_by_type numbers s at = guard (not (ltb at (length s) && eqb (type_bits (get_or s at 0)) 7) || leb numbers deepest) (too_deep at) (item_at s at)

abbrev pub deep_before_its_length : Walker
deep_before_its_length = walks_by_opening deep_by_type

-- the elements of a list that is too deep are walked over first
abbrev pub if_walked : WalkSaid → WalkSaid → WalkSaid
if_walked (walk_is bytes leaves) said = said
if_walked (walk_broken f) said = walk_broken f
if_walked (walk_refused n) said = said

abbrev pub deep_behind_its_elements : Walker
deep_behind_its_elements s at = if_walked (walks_by_opening (λ numbers t p. item_at t p) s at) (walk_at s at)

-- a list that was closed still counts: `lists` is how many were opened
abbrev pub take_ever : (List ℕ → ℕ → ℕ → ℕ → Read ℕ) → List ℕ → ℕ → ℕ → ℕ → Item → ℕ → Read ℕ
take_ever on wants lists leaves at end_mark n = on wants lists (leaves + 1) n
take_ever on wants lists leaves at (leaf ty content) n = on wants lists (leaves + 1) n
take_ever on wants lists leaves at (list_item k) n = guard (ltb lists deepest) (too_deep at) (on (k ∷ wants) (suc lists) leaves n)

unfoldable pub step_ever : (List ℕ → ℕ → ℕ → ℕ → Read ℕ) → List ℕ → List ℕ → ℕ → ℕ → ℕ → Read ℕ
step_ever on s [] lists leaves at = got leaves at
step_ever on s (zero ∷ wants) lists leaves at = step_ever on s wants lists leaves at
step_ever on s (suc k ∷ wants) lists leaves at = then (item_at s at) (take_ever on (k ∷ wants) lists leaves at)

unfoldable pub pass_ever : ℕ → List ℕ → List ℕ → ℕ → ℕ → ℕ → Read ℕ
pass_ever zero s wants lists leaves at = refused (eof (length s))
pass_ever (suc many) s wants lists leaves at = step_ever (pass_ever many s) s wants lists leaves at

abbrev pub depth_not_given_back : Walker
depth_not_given_back s at = cond (ltb limit (length s)) (walk_refused input_too_long_no) (measured at (pass_ever (suc (length s)) s (1 ∷ []) 0 0 at))

-- ---- lists and leaves

-- a list's number counts the list too
abbrev pub one_less : ℕ → ℕ
one_less k = k - 1

abbrev pub list_one_short : Walker
list_one_short = walk_by (record { item = our_items; leaves = leaves_of; wanted = one_less; behind_mark = as_announced })

-- what follows a leaf, by its place and the one behind its length bytes
abbrev pub leaf_by : (List ℕ → ℕ → ℕ → ℕ → Read ℕ) → ItemReader
leaf_by end s at =
    cond (is_end_mark s at) (got end_mark (at + 1))
    (then (tlf_at s at) λ t n.
    cond (is_list t.ty) (got (list_item t.len) n)
    (then (end s at n t.len) λ m k. got (leaf t.ty (record { start = n; len = t.len })) k))

-- a leaf is its length bytes
abbrev pub no_content : List ℕ → ℕ → ℕ → ℕ → Read ℕ
no_content s at n len = got n n

abbrev pub leaf_without_content : Walker
leaf_without_content = walks_by_items (leaf_by no_content)

-- of two length bytes one is taken off
abbrev pub one_off : List ℕ → ℕ → ℕ → ℕ → Read ℕ
one_off s at n len = then (span_at s n (len + (n - at - 1))) λ p m. got m m

abbrev pub one_taken_off : Walker
one_taken_off = walks_by_items (leaf_by one_off)

-- the recursion with another sum, and another place for the next element, given the list's first one and the place behind the last one
unfoldable pub elements_by : (ℕ → ℕ → ℕ) → (ℕ → ℕ → ℕ) → (ℕ → Read ℕ) → ℕ → ℕ → ℕ → ℕ → Read ℕ
elements_by add place read zero sum at n = got sum n
elements_by add place read (suc k) sum at n = then (read (place at n)) λ a m. elements_by add place read k (add sum a) at m

abbrev pub behind_by : (ℕ → ℕ → ℕ) → (ℕ → ℕ → ℕ) → (ℕ → Read ℕ) → Item → ℕ → Read ℕ
behind_by add place read end_mark n = got 1 n
behind_by add place read (leaf ty content) n = got 1 n
behind_by add place read (list_item k) n = elements_by add place read k 0 n n

unfoldable pub recursed_at : (ℕ → ℕ → ℕ) → (ℕ → ℕ → ℕ) → ℕ → List ℕ → ℕ → Read ℕ
recursed_at add place zero s at = then (item_at s at) (behind_item none at)
recursed_at add place (suc d) s at = then (item_at s at) (behind_by add place (recursed_at add place d s))

abbrev pub recurses_by : (ℕ → ℕ → ℕ) → (ℕ → ℕ → ℕ) → Walker
recurses_by add place s at = cond (ltb limit (length s)) (walk_refused input_too_long_no) (measured at (recursed_at add place deepest s at))

abbrev pub added_up : ℕ → ℕ → ℕ
added_up sum a = sum + a

-- every element of a list is read at the first one's place
abbrev pub first_element_again : Walker
first_element_again = recurses_by added_up own_place

-- the leaves of a list are those of its last element
abbrev pub leaves_of_the_last : Walker
leaves_of_the_last = recurses_by behind_itself behind_itself

-- a Boolean must have a byte
abbrev pub is_empty_truth : Item → Bool
is_empty_truth end_mark = false
is_empty_truth (leaf ty content) = is_boolean ty && eqb content.len 0
is_empty_truth (list_item k) = false

abbrev pub truths_have_a_byte : ItemReader
truths_have_a_byte s at = then (item_at s at) λ i n. guard (not (is_empty_truth i)) (mismatch at) (got i n)

abbrev pub content_is_judged : Walker
content_is_judged = walks_by_items truths_have_a_byte

-- ---- the answer

-- the place behind the element
abbrev pub behind_only : Walker
behind_only s at = cond (ltb limit (length s)) (walk_refused input_too_long_no) (measured 0 (pass_by our_rules (suc (length s)) s (1 ∷ []) 0 at))

-- what follows must be nothing
abbrev pub only_all_bytes : ℕ → ℕ → WalkSaid → WalkSaid
only_all_bytes end at (walk_is bytes leaves) = cond (eqb (at + bytes) end) (walk_is bytes leaves) (walk_broken (wrong_end (at + bytes)))
only_all_bytes end at (walk_broken f) = walk_broken f
only_all_bytes end at (walk_refused n) = walk_refused n

abbrev pub rest_refused : Walker
rest_refused s at = only_all_bytes (length s) at (walk_at s at)

-- a refusal's place is counted from the element on
abbrev pub placed_by : (ℕ → ℕ) → WalkSaid → WalkSaid
placed_by g (walk_is bytes leaves) = walk_is bytes leaves
placed_by g (walk_broken f) = walk_broken (record { number = f.number; kind = f.kind; place = g f.place })
placed_by g (walk_refused n) = walk_refused n

abbrev pub places_from_element : Walker
places_from_element s at = placed_by (λ p. p - at) (walk_at s at)

-- every refusal is named where the element begins
abbrev pub names_the_element : Walker
names_the_element s at = placed_by (λ p. at) (walk_at s at)

-- an input that is longer by one byte is taken
abbrev pub limit_one_more : Walker
limit_one_more s at = cond (ltb (limit + 1) (length s)) (walk_refused input_too_long_no) (measured at (pass_by our_rules (suc (length s)) s (1 ∷ []) 0 at))

-- no input is too long
abbrev pub any_length : Walker
any_length s at = measured at (pass_by our_rules (suc (length s)) s (1 ∷ []) 0 at)

-- a place beyond the input is 4
abbrev pub beyond_is_bad : Walker
beyond_is_bad s at = cond (ltb limit (length s)) (walk_refused input_too_long_no) (cond (ltb (length s) at) (walk_refused bad_state_no) (walk_at s at))

-- where nothing is left, nothing is taken
abbrev pub none_at_the_end : Walker
none_at_the_end s at = cond (ltb limit (length s)) (walk_refused input_too_long_no) (cond (eqb at (length s)) (walk_is 0 0) (walk_at s at))

-- everything is refused
abbrev pub walk_refuses_all : Walker
walk_refuses_all s at = cond (ltb limit (length s)) (walk_refused input_too_long_no) (walk_broken (eof (length s)))

-- ---- readers of items

-- a leaf's content has its length bytes
abbrev pub with_its_length : ℕ → Item → Item
with_its_length at end_mark = end_mark
with_its_length at (leaf ty content) = leaf ty (record { start = at; len = content.start + content.len - at })
with_its_length at (list_item k) = list_item k

abbrev pub content_with_its_length : ItemReader
content_with_its_length s at = then (item_at s at) λ i n. got (with_its_length at i) n

-- what follows a list is told in place of its first element
abbrev pub behind_the_list : WalkSaid → ℕ → Item → ℕ → ℕ
behind_the_list (walk_is bytes leaves) at i n = cond (is_list_item i) (at + bytes) n
behind_the_list (walk_broken f) at i n = n
behind_the_list (walk_refused m) at i n = n

abbrev pub lists_passed_over : ItemReader
lists_passed_over s at = then (item_at s at) λ i n. got i (behind_the_list (walk_at s at) at i n)

-- what there is of a content that is cut is the content
abbrev pub content_left : ItemReader
content_left s at =
    cond (is_end_mark s at) (got end_mark (at + 1))
    (then (tlf_at s at) λ t n.
    cond (is_list t.ty) (got (list_item t.len) n)
    (cond (leb (n + t.len) (length s)) (got (leaf t.ty (record { start = n; len = t.len })) (n + t.len)) (got (leaf t.ty (record { start = n; len = length s - n })) (length s))))

-- an end mark is an empty string
abbrev pub mark_is_a_string : ItemReader
mark_is_a_string s at = cond (is_end_mark s at) (got (leaf OctetString (record { start = at + 1; len = 0 })) (at + 1)) (item_at s at)

pub record FallWalkers : Type 0 where
  pub ours : (s : List ℕ) (at : ℕ) → walk_by our_rules s at ≡ walk_at s at
  pub mark_no_leaf : MeasuresExactly end_mark_is_no_leaf → ⊥
  pub list_a_leaf : MeasuresExactly list_is_a_leaf → ⊥
  pub none_a_leaf : MeasuresExactly none_is_a_leaf → ⊥
  pub empty_no_leaf : MeasuresExactly empty_is_no_leaf → ⊥
  pub mark_is_one : MeasuresExactly end_mark_is_one → ⊥
  pub mark_in_two : RefusesExactly two_bytes_mark → ⊥
  pub closes_its_list : MeasuresExactly mark_closes_its_list → ⊥
  pub no_mark_alone_claim : MeasuresExactly no_mark_alone → ⊥
  pub seventeen : RefusesExactly seventeen_open → ⊥
  pub fifteen : MeasuresExactly fifteen_open → ⊥
  pub deep_behind : RefusesExactly deep_behind_its_length → ⊥
  pub none_never_deep_claim : RefusesExactly none_never_deep → ⊥
  pub leaves_deep : MeasuresExactly leaves_too_deep → ⊥
  pub deep_before : RefusesExactly deep_before_its_length → ⊥
  pub deep_behind_elements : RefusesExactly deep_behind_its_elements → ⊥
  pub not_given_back : MeasuresExactly depth_not_given_back → ⊥
  pub one_short : MeasuresExactly list_one_short → ⊥
  pub no_content_claim : MeasuresExactly leaf_without_content → ⊥
  pub one_off_claim : MeasuresExactly one_taken_off → ⊥
  pub again : MeasuresExactly first_element_again → ⊥
  pub of_the_last : MeasuresExactly leaves_of_the_last → ⊥
  pub judged_content : MeasuresExactly content_is_judged → ⊥
  pub place_for_bytes : MeasuresExactly behind_only → ⊥
  pub rest_refused_claim : MeasuresExactly rest_refused → ⊥
  pub rest_looked_at : LooksNoFurther rest_refused → ⊥
  pub from_the_element : RefusesExactly places_from_element → ⊥
  pub the_element : RefusesExactly names_the_element → ⊥
  pub one_more : NineFirst limit_one_more → ⊥
  pub any_length_claim : NineFirst any_length → ⊥
  pub beyond_bad : RefusesExactly beyond_is_bad → ⊥
  pub none_at_the_end_claim : RefusesExactly none_at_the_end → ⊥
  pub all_refused : EndsWithMessages walk_refuses_all → ⊥
  pub with_its_length_claim : ReadsItems content_with_its_length → ⊥
  pub passed_over : ReadsItems lists_passed_over → ⊥
  pub content_left_claim : ReadsItems content_left → ⊥
  pub a_string : ReadsItems mark_is_a_string → ⊥
  pub other_sights : SeesElements content_with_its_length → ⊥
