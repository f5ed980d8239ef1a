-- The readings that name another place fall.
use mathlib.Core.Path.{◌≡◌, refl, sym, ap, ◌∙◌, subst}
use mathlib.Core.List.{List, [], ◌∷◌}
use Prim.Native.Nat.{ℕ}
use native.Mathlib.Omega.{arith}
use lib.ListN.{length}
use Rattle.refusals.specs.Read.{Read, got, refused, then, guard, need, eof, mismatch, wrong_end, byte_at, span_at}
use Rattle.refusals.specs.declared.Span.{Span}
use Rattle.refusals.proofs.Read.{span_room}
use Rattle.refusals.proofs.Codes.{refusal_number, refusal_place}
use Rattle.tlf.specs.Lengths.{length_from, less_own, tlf_at, list_of_at}
use Rattle.tlf.specs.declared.Ty.TheVariants.{Boolean, Unsigned}
use Rattle.tlf.specs.declared.TypeLengthField.{TypeLengthField}
use borrow.Author.Tests.{lt-ltb}
use Rattle.tlf.proofs.Short.{field_one}
use Rattle.octet_string.specs.Strings.{octets_at}
use Rattle.common.specs.Fields.{entry_at}
use Rattle.places.specs.Stands.{Closed}
use Rattle.places.specs.Readers.{NotTen, Located}
use Rattle.places.specs.Fakes.{names_the_entry, names_the_last_byte, names_the_next, tells_ten, tells_fifteen, names_its_own_place, FallReaders}
use Rattle.places.proofs.Seen.{is_got}
use Rattle.places.proofs.Named.{bad_length_place, element_place, mismatch_instead, end_place}

-- 77 10: the fault stands at 1
the_entry_claim : Located names_the_entry 0 0 → ⊥
unfolding names_the_entry then guard need byte_at span_at tlf_at length_from less_own list_of_at octets_at entry_at
the_entry_claim h =
    let b = h.broke (0x77 ∷ 0x10 ∷ []) _ (omega arith) refl in
    let n : ◌≡◌ {A = ℕ} 0 11 = ap refusal_number (bad_length_place b.stands refl) in
    omega (arith, n)

-- e0 03: an Unsigned of one byte, by two length bytes, of which the second is a sound length field by itself
the_last_byte : Located names_the_last_byte 0 0 → ⊥
unfolding names_the_last_byte then guard need byte_at span_at tlf_at length_from less_own
the_last_byte h =
    let b = h.broke (0xe0 ∷ 0x03 ∷ []) _ (omega arith) refl in
    let e = element_place b.stands (λ n. omega (arith, n)) (λ n. omega (arith, n)) in
    let n : ◌≡◌ {A = ℕ} 0 1 = ap refusal_place (e.passed (0xe0 ∷ 0x10 ∷ []) _ (record { bytes = refl }) refl) in
    omega (arith, n)

-- 62 00: an Unsigned of one byte, and whatever follows
one_byte_head : (x : List ℕ) → tlf_at (0x62 ∷ 0x00 ∷ x) 0 ≡ got (record { ty = Unsigned; len = 1 }) 1
one_byte_head x = field_one (0x62 ∷ 0x00 ∷ x) 0 6 2 Unsigned (omega arith) refl (omega arith) (omega arith) refl refl (omega arith)

next_refuses : (x : List ℕ) (a : Span) (n : ℕ) → names_the_next (0x62 ∷ 0x00 ∷ x) ≡ got a n → ⊥
unfolding names_the_next then
next_refuses x a n e = by (tlf_at (0x62 ∷ 0x00 ∷ x) 2) refl
  where
    by : (r : Read TypeLengthField) → tlf_at (0x62 ∷ 0x00 ∷ x) 2 ≡ r → ⊥
    by (got t m) k =
        let y : names_the_next (0x62 ∷ 0x00 ∷ x) ≡ refused (mismatch 2) = rw (one_byte_head x, span_room (0x62 ∷ 0x00 ∷ x) 1 1 (omega arith), k) in
        let z : ◌≡◌ {A = ℕ} 0 1 = ap is_got (sym y ∙ e) in
        omega (arith, z)
    by (refused f) k =
        let y : names_the_next (0x62 ∷ 0x00 ∷ x) ≡ refused f = rw (one_byte_head x, span_room (0x62 ∷ 0x00 ∷ x) 1 1 (omega arith), k) in
        let z : ◌≡◌ {A = ℕ} 0 1 = ap is_got (sym y ∙ e) in
        omega (arith, z)

ten_refuses : (x : List ℕ) → tells_ten (0x62 ∷ 0x00 ∷ x) ≡ refused (eof (length (0x62 ∷ 0x00 ∷ x)))
unfolding tells_ten octets_at then guard
ten_refuses x = rw (one_byte_head x)

-- 62 00 01: an empty string stands behind it, and nothing there is accepted
the_next : Located names_the_next 0 0 → ⊥
unfolding names_the_next then guard need byte_at span_at tlf_at length_from less_own
the_next h =
    let b = h.broke (0x62 ∷ 0x00 ∷ 0x01 ∷ []) _ (omega arith) refl in
    let i = mismatch_instead b.stands refl in
    next_refuses i.others i.value _ i.accepted

-- 42, and then a byte
fifteen_refuses : (b : ℕ) (x : List ℕ) → tells_fifteen (0x42 ∷ b ∷ x) ≡ refused (wrong_end 1)
unfolding tells_fifteen then byte_at guard
fifteen_refuses b x =
    rw (field_one (0x42 ∷ b ∷ x) 0 4 2 Boolean (omega arith) refl (omega arith) (omega arith) refl refl (omega arith), lt-ltb 1 (length (0x42 ∷ b ∷ x)) (omega arith))

-- 42 01: with 00 for the 01 it is 15 all the same
fifteen : Located tells_fifteen 0 0 → ⊥
fifteen h =
    let b = h.broke (0x42 ∷ 0x01 ∷ []) (wrong_end 1) (omega arith) (fifteen_refuses 0x01 []) in
    let e = end_place b.stands refl in
    let c : Closed {A = Span} 1 (0x42 ∷ 0x00 ∷ e.more) (refused (wrong_end 1)) = subst (λ (x : Read Span). Closed 1 (0x42 ∷ 0x00 ∷ e.more) x) (fifteen_refuses 0x00 e.more) e.closed in
    let n : ◌≡◌ {A = ℕ} 15 14 = c.0 in
    omega (arith, n)

ten : Located tells_ten 0 0 → ⊥
ten h =
    let m = h.missing (0x62 ∷ 0x00 ∷ []) (omega arith) in
    let n : NotTen {A = Span} (refused (eof (length (0x62 ∷ 0x00 ∷ m.more)))) = subst (λ (x : Read Span). NotTen x) (ten_refuses m.more) m.not_ten in
    n refl

-- no byte
its_own_place : Located names_its_own_place 5 0 → ⊥
unfolding names_its_own_place guard
its_own_place h = let z : ◌≡◌ {A = ℕ} 5 0 = ap refusal_place (h.beyond [] (omega arith)) in omega (arith, z)

pub fall_readers : FallReaders
fall_readers = record { the_entry_claim = the_entry_claim; the_last_byte = the_last_byte; the_next = the_next; ten = ten; fifteen = fifteen; its_own_place = its_own_place }
