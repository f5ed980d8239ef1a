-- The short way of a push: what its test says of record, buffer and byte, and that the step is then a store.
use Prim.Native.Nat.{ℕ, ◌+◌, ◌<◌, ◌^◌}
use mathlib.Core.Path.{◌≡◌, refl}
use mathlib.Core.List.{List, [], ◌∷◌}
use mathlib.Core.Bool.{Bool, true, false, cond, not}
use native.Mathlib.Omega.{arith}
use borrow.Author.Tests.{leb-false, ltb-false, eqb-true, le-ltb}
use lib.ListN.{length}
use lib.Seq.{sets}
use lib.Dec.{ltb, leb, eqb}
use Rattle.decoder.specs.Record.{unknown_way, bad_decoder, wrong_buffer, push_record}
use Rattle.decoder.specs.Cut.{told_cut, cut, quiet, stored_on, is_normal, plain_byte_claim, normal_step, step_cut}
use Rattle.decoder.specs.declared.Decoder.{Decoder}
use Rattle.decoder.specs.declared.DecodeState.{DecodeState}
use Rattle.decoder.specs.declared.DecodeState.TheVariants.{LookingForMessageStart, ParsingNormal, ParsingEscChars, ParsingEscPayload, Done}
use Rattle.decoder.proofs.Tests.{lt_room}
use Rattle.decoder.proofs.Tied.{push_step}

pub record IsPlain (d : Decoder) (lent b : ℕ) : Type 0 where
  pub byte : eqb b 0x1b ≡ false
  pub room : d.fill < lent
  pub index : ltb d.fill d.crc_idx ≡ false
  pub raw : ltb d.raw_msg_len 8 ≡ false
  pub lent_is : eqb lent d.capacity ≡ true
  pub small : ltb 1048576 lent ≡ false
  pub way : unknown_way d.way ≡ false
  pub state : d.state ≡ ParsingNormal

not_left : (t x : Bool) → cond t false x ≡ true → (t ≡ false) × (x ≡ true)
not_left true x e = (cc, cc)
not_left false x e = (refl, e)

not_right : (t x : Bool) → cond t x false ≡ true → (t ≡ true) × (x ≡ true)
not_right true x e = (refl, e)
not_right false x e = (cc, cc)

pub not_yes : (t : Bool) → not t ≡ false → t ≡ true
not_yes true e = refl
not_yes false e = cc

pub not_not : (t : Bool) → not t ≡ true → t ≡ false
not_not true e = cc
not_not false e = refl

normal_is : (s : DecodeState) → is_normal s ≡ true → s ≡ ParsingNormal
normal_is (LookingForMessageStart n noise) e = cc
normal_is ParsingNormal e = refl
normal_is (ParsingEscChars n) e = cc
normal_is (ParsingEscPayload k) e = cc
normal_is Done e = cc

pub plain_says : (d : Decoder) (lent b : ℕ) → plain_byte_claim d lent b ≡ true → IsPlain d lent b
unfolding plain_byte_claim
plain_says d lent b e =
    let p₂ = not_right (is_normal d.state) _ e in
    let p₁ = not_left (eqb b 0x1b) _ p₂.1 in
    let p₃ = not_left (leb lent d.fill) _ p₁.1 in
    let p₄ = not_left (ltb d.fill d.crc_idx) _ p₃.1 in
    let p₅ = not_left (ltb d.raw_msg_len 8) _ p₄.1 in
    let p₆ = not_right (eqb lent d.capacity) _ p₅.1 in
    let p₇ = not_left (ltb 1048576 lent) _ p₆.1 in
    record {
      byte = p₁.0;
      room = leb-false lent d.fill p₃.0;
      index = p₄.0;
      raw = p₅.0;
      lent_is = p₆.0;
      small = p₇.0;
      way = not_not (unknown_way d.way) p₇.1;
      state = normal_is d.state p₂.0;
    }

pub plain_good : (d : Decoder) (lent b : ℕ) → IsPlain d lent b → bad_decoder d ≡ false
unfolding bad_decoder
plain_good d lent b p =
    let c : lent ≡ d.capacity = eqb-true _ _ p.lent_is in
    let f : ltb d.capacity d.fill ≡ false = le-ltb d.capacity d.fill (omega (arith, p.room, c)) in
    rw (p.way, f, p.index, p.state, p.raw)

plain_right : (d : Decoder) (lent b : ℕ) → IsPlain d lent b → wrong_buffer d.capacity lent ≡ false
unfolding wrong_buffer
plain_right d lent b p = rw (p.lent_is, p.small)

-- the fill has room to grow
pub plain_fits : (d : Decoder) (lent b : ℕ) → plain_byte_claim d lent b ≡ true → d.fill + 1 < 2 ^ 64
plain_fits d lent b e =
    let p = plain_says d lent b e in
    omega (arith, p.room, ltb-false 1048576 lent p.small)

-- the law of the short way
pub push_plain : (d : Decoder) (m : List ℕ) (b : ℕ) → plain_byte_claim d (length m) b ≡ true
    → told_cut (cut (quiet (stored_on d 1 ParsingNormal)) (sets m d.fill (b ∷ []))) ≡ push_record d m b
unfolding step_cut normal_step
push_plain d m b e =
    let p = plain_says d (length m) b e in
    push_step d m b ParsingNormal (cut (quiet (stored_on d 1 ParsingNormal)) (sets m d.fill (b ∷ []))) (plain_good d _ b p) (plain_right d _ b p) p.state (rw (p.byte, lt_room _ _ p.room))
