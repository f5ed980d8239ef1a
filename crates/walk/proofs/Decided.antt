-- Each view can be undone, so a contract allows one outcome for each input.
use mathlib.Core.Path.{◌≡◌, refl}
use mathlib.Core.Bool.{cond}
use lib.Dec.{eqb}
use Rattle.std.specs.Prelude.{Result, Ok, Err}
use Rattle.refusals.specs.Numbers.{too_deep_no}
use Rattle.refusals.specs.Read.{Refusal}
use Rattle.refusals.specs.Answers.{fault_of}
use Rattle.refusals.specs.declared.Fault.{Fault}
use Rattle.refusals.specs.declared.ParseError.{ParseError}
use Rattle.refusals.specs.declared.ParseError.TheVariants.{UnexpectedEOF, InvalidTlf, TlfMismatch, CrcMismatch, MsgEndMismatch, UnexpectedVariant}
use Rattle.refusals.proofs.Undone.{fault_from, fault_back, reads_once}
use Rattle.walk.specs.Walk.{Item, end_mark, leaf, list_item, WalkSaid, walk_is, walk_broken, walk_refused}
use Rattle.walk.specs.Answers.{item_of, item_read, walked}
use Rattle.walk.specs.declared.Item as Items
use Rattle.walk.specs.declared.Item.TheVariants as ItemC
use Rattle.walk.specs.declared.Extent.{Extent}
use Rattle.walk.specs.declared.WalkError.{WalkError}
use Rattle.walk.specs.declared.WalkError.TheVariants as WalkErrorC
use Rattle.decided.proofs.Laws.{injective, undone}
use Rattle.walk.specs.Decided.{Views, Decided}

item_from : Item → Items.Item
item_from end_mark = ItemC.EndMark
item_from (leaf ty content) = ItemC.Leaf ty content
item_from (list_item count) = ItemC.List count

item_back : (x : Items.Item) → item_from (item_of x) ≡ x
unfolding item_from
item_back ItemC.EndMark = refl
item_back (ItemC.Leaf ty content) = refl
item_back (ItemC.List count) = refl

-- 19 is a case of its own, and no reading's
broken_from : Refusal → WalkError
broken_from f = cond (eqb f.number too_deep_no) (WalkErrorC.TooDeep f.place) (WalkErrorC.Fault (fault_from f))

walked_from : WalkSaid → Result Extent WalkError
walked_from (walk_is bytes leaves) = Ok (record { bytes = bytes; leaves = leaves })
walked_from (walk_broken f) = Err (broken_from f)
walked_from (walk_refused n) = Err WalkErrorC.InputTooLong

not_deep : (e : ParseError) (f : Fault) → f.error ≡ e → broken_from (fault_of f) ≡ WalkErrorC.Fault (fault_from (fault_of f))
unfolding broken_from
not_deep UnexpectedEOF f h = rw h
not_deep (InvalidTlf kind) f h = rw h
not_deep TlfMismatch f h = rw h
not_deep UnexpectedVariant f h = rw h
not_deep CrcMismatch f h = rw h
not_deep MsgEndMismatch f h = rw h

walked_back : (w : Result Extent WalkError) → walked_from (walked w) ≡ w
unfolding walked_from broken_from
walked_back (Ok extent) = refl
walked_back (Err (WalkErrorC.Fault f)) = rw (not_deep f.error f refl, fault_back f)
walked_back (Err (WalkErrorC.TooDeep place)) = refl
walked_back (Err WalkErrorC.InputTooLong) = refl

pub views : Views
views = record { item = reads_once item_of (undone item_of item_from item_back); walk = undone walked walked_from walked_back }

pub decided : Decided
decided = record { parse_item = λ input at. injective item_read views.item _; walk = λ input at. injective walked views.walk _ }
