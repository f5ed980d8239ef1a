-- An item takes at least a byte, and ends within the input; and no length bytes begin with an end mark.
use mathlib.Core.Path.{◌≡◌, refl, sym}
use mathlib.Core.List.{List}
use mathlib.Core.Bool.{Bool, true, false}
use Prim.Native.Nat.{ℕ, ◌<◌}
use native.Mathlib.Nat.{add-sub_cancel_left}
use native.Mathlib.Omega.{arith}
use lib.ListN.{length, get_or}
use lib.Dec.{ltb, eqb}
use borrow.Author.Tests.{ltb-true, eqb-true, lt-ltb}
use Rattle.refusals.specs.Read.{got, refused, then, guard, need, byte_at}
use Rattle.refusals.specs.Answers.{underflow}
use Rattle.tlf.specs.Lengths.{is_list, less_own, tlf_at}
use Rattle.tlf.specs.declared.TypeLengthField.{TypeLengthField}
use Rattle.refusals.proofs.Read.{Ok, ok_any, ok_got, ok_then, ok_cond, ok_weak, ok_at, Ahead, span_ok, and_left, and_right}
use Rattle.tlf.proofs.Lengths.{tlf_ok, length_stop}
use Rattle.walk.specs.Walk.{is_end_mark, item_at}

pub mark_room : (s : List ℕ) (at : ℕ) → is_end_mark s at ≡ true → at < length s
unfolding is_end_mark
mark_room s at e = ltb-true at (length s) (and_left _ (eqb (get_or s at 0) 0) e)

pub item_ok : (s : List ℕ) (at : ℕ) → Ok (λ i n. Ahead s at n) (item_at s at)
unfolding item_at
item_ok s at =
    ok_cond (is_end_mark s at) _ _ (λ e. let h = mark_room s at e in ok_got _ _ (record { ahead = omega arith; within = omega arith }))
    (λ e. ok_then _ _ (tlf_ok s at) (λ t n a. ok_cond (is_list t.ty) _ _ (λ e₁. ok_got _ _ a)
    (λ e₁. ok_then _ _ (span_ok s n t.len) (λ p m i. ok_got _ _ (record { ahead = omega (arith, a.ahead, i.next_is); within = i.within })))))

pub mark_byte : (s : List ℕ) (at : ℕ) → is_end_mark s at ≡ true → get_or s at 0 ≡ 0
unfolding is_end_mark
mark_byte s at e = eqb-true (get_or s at 0) 0 (and_right (ltb at (length s)) _ e)

zero_refused : (s : List ℕ) (at : ℕ) → at < length s → get_or s at 0 ≡ 0 → tlf_at s at ≡ refused (underflow at)
unfolding tlf_at byte_at then guard need less_own
zero_refused s at h e = rw (lt-ltb _ _ h, e, length_stop, add-sub_cancel_left at 1)

-- no length field is read at an end mark
pub marked_refused : (s : List ℕ) (at : ℕ) → is_end_mark s at ≡ true → tlf_at s at ≡ refused (underflow at)
marked_refused s at e = zero_refused s at (mark_room s at e) (mark_byte s at e)

no_mark_by : (s : List ℕ) (at : ℕ) (b : Bool) → is_end_mark s at ≡ b → Ok (λ t n. is_end_mark s at ≡ false) (tlf_at s at)
no_mark_by s at true e = rw (marked_refused s at e) (record { holds = tt })
no_mark_by s at false e = ok_weak (λ t n q. e) (ok_any (tlf_at s at))

pub no_mark : (s : List ℕ) (at : ℕ) {t : TypeLengthField} {n : ℕ} → tlf_at s at ≡ got t n → is_end_mark s at ≡ false
no_mark s at e = ok_at (sym e) (no_mark_by s at (is_end_mark s at) refl)
