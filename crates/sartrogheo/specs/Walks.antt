-- rule: what the library's calls for any content answer in plain numbers, and what they leave in all that they are lent.
use Rattle.std.specs.Prelude.{cond, List, [], ◌∷◌, ℕ, length, ltb}
use Rattle.refusals.specs.Numbers.{input_too_long_no, limit}
use Rattle.refusals.specs.Read.{Read, got, refused}
use Rattle.tlf.specs.Written.{ty_number}
use Rattle.walk.specs.Walk.{Item, end_mark, leaf, list_item, item_at, WalkSaid, walk_is, walk_broken, walk_refused, walk_at}
use Rattle.sartrogheo.specs.Calls.{Reply, reply, good_no}

abbrev pub item_no : Read Item → ℕ
item_no (got item next) = good_no
item_no (refused f) = f.number

-- what begins at a place in nine numbers: 1 an end mark, 2 a leaf or 3 a list; of a leaf the number of its type, and where its content starts and how long it is; of a list how many elements it has; the next place;
-- number, kind and place of a refusal
abbrev pub item_words : Read Item → List ℕ
item_words (got end_mark next) = 1 ∷ 0 ∷ 0 ∷ 0 ∷ 0 ∷ next ∷ 0 ∷ 0 ∷ 0 ∷ []
item_words (got (leaf ty content) next) = 2 ∷ ty_number ty ∷ content.start ∷ content.len ∷ 0 ∷ next ∷ 0 ∷ 0 ∷ 0 ∷ []
item_words (got (list_item count) next) = 3 ∷ 0 ∷ 0 ∷ 0 ∷ count ∷ next ∷ 0 ∷ 0 ∷ 0 ∷ []
item_words (refused f) = 0 ∷ 0 ∷ 0 ∷ 0 ∷ 0 ∷ 0 ∷ f.number ∷ f.kind ∷ f.place ∷ []

-- 9 comes first, as of the walk
unfoldable pub sgh_read_item : List ℕ → ℕ → Reply
sgh_read_item input at =
    cond (ltb limit (length input)) (reply input_too_long_no ((0 ∷ 0 ∷ 0 ∷ 0 ∷ 0 ∷ 0 ∷ input_too_long_no ∷ 0 ∷ 0 ∷ []) ∷ []))
    (reply (item_no (item_at input at)) (item_words (item_at input at) ∷ []))

abbrev pub walk_no : WalkSaid → ℕ
walk_no (walk_is bytes leaves) = good_no
walk_no (walk_broken f) = f.number
walk_no (walk_refused n) = n

-- what the walk says in five numbers: how many bytes the element takes, and how many leaves it has; number, kind and place of a refusal
abbrev pub walk_words : WalkSaid → List ℕ
walk_words (walk_is bytes leaves) = bytes ∷ leaves ∷ 0 ∷ 0 ∷ 0 ∷ []
walk_words (walk_broken f) = 0 ∷ 0 ∷ f.number ∷ f.kind ∷ f.place ∷ []
walk_words (walk_refused n) = 0 ∷ 0 ∷ n ∷ 0 ∷ 0 ∷ []

unfoldable pub sgh_walk : List ℕ → ℕ → Reply
sgh_walk input at =
    let a : WalkSaid = walk_at input at in
    reply (walk_no a) (walk_words a ∷ [])
