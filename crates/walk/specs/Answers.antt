-- view: the documents' number and values for each answer of the walk.
use Rattle.std.specs.Prelude.{ℕ, Result, Ok, Err}
use Rattle.std.proofs.Math.Option.{Option, some, none}
use Rattle.refusals.specs.Numbers.{input_too_long_no}
use Rattle.refusals.specs.Read.{Read, got, refused}
use Rattle.refusals.specs.Answers.{fault_of, reads_as}
use Rattle.refusals.specs.declared.Fault.{Fault}
use Rattle.walk.specs.Walk.{Item, end_mark, leaf, list_item, too_deep, WalkSaid, walk_is, walk_broken, walk_refused}
use Rattle.walk.specs.declared.Item as Items
use Rattle.walk.specs.declared.Item.TheVariants as ItemC
use Rattle.walk.specs.declared.Extent.{Extent}
use Rattle.walk.specs.declared.WalkError.{WalkError}
use Rattle.walk.specs.declared.WalkError.TheVariants as WalkErrorC

abbrev pub item_of : Items.Item → Item
item_of ItemC.EndMark = end_mark
item_of (ItemC.Leaf ty content) = leaf ty content
item_of (ItemC.List count) = list_item count

abbrev pub item_read : Result (Items.Item × ℕ) Fault → Read Item
item_read = reads_as item_of

-- none: 9, which is judged before any element
abbrev pub reached : Result (ℕ × ℕ) WalkError → Option (Read ℕ)
reached (Ok r) = some (got r.0 r.1)
reached (Err (WalkErrorC.Fault f)) = some (refused (fault_of f))
reached (Err (WalkErrorC.TooDeep place)) = some (refused (too_deep place))
reached (Err WalkErrorC.InputTooLong) = none

abbrev pub walked : Result Extent WalkError → WalkSaid
walked (Ok extent) = walk_is extent.bytes extent.leaves
walked (Err (WalkErrorC.Fault f)) = walk_broken (fault_of f)
walked (Err (WalkErrorC.TooDeep place)) = walk_broken (too_deep place)
walked (Err WalkErrorC.InputTooLong) = walk_refused input_too_long_no
