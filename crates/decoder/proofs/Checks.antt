-- What the public functions answer, by what the code's tests said, over any record.
use Prim.Native.Nat.{ℕ, ◌≤◌}
use mathlib.Core.List.{List, []}
use mathlib.Core.Path.{◌≡◌, refl, sym, ◌∙◌}
use mathlib.Core.Bool.{Bool, true, false, cond}
use native.Mathlib.Omega.{arith}
use lib.ListN.{length, take}
use Rattle.decoder.specs.Record.{nothing, refusal, state_as, bad_decoder, wrong_buffer, stands, has_payload, payload_record, ask_record}
use Rattle.decoder.specs.Cut.{is_done, payload_in}
use Rattle.decoder.specs.declared.DecodeState.{DecodeState}
use Rattle.decoder.specs.declared.DecodeState.TheVariants.{LookingForMessageStart, ParsingNormal, ParsingEscChars, ParsingEscPayload, Done}
use Rattle.decoder.specs.declared.Decoder.{Decoder}
use Rattle.decoder.proofs.Valid.{sane, right_buffer}

-- ---- the payload

stands_is : (d : Decoder) (m : List ℕ) (s : DecodeState) → is_done s ≡ stands (state_as s d m)
stands_is d m (LookingForMessageStart n noise) = refl
stands_is d m ParsingNormal = refl
stands_is d m (ParsingEscChars n) = refl
stands_is d m (ParsingEscPayload k) = refl
stands_is d m Done = refl

module _ (d : Decoder) (m : List ℕ) where
  has_is : payload_in d (length m) ≡ has_payload d m
  unfolding payload_in has_payload
  has_is = rw (stands_is d m d.state)

  pub payload_is : payload_in d (length m) ≡ true → take d.fill m ≡ payload_record d m
  unfolding payload_record
  payload_is e = rw (sym has_is ∙ e)

  pub payload_no_lem : payload_in d (length m) ≡ false → [] ≡ payload_record d m
  unfolding payload_record
  payload_no_lem e = rw (sym has_is ∙ e)

  pub ask_is : payload_in d (length m) ≡ true → nothing ≡ ask_record d m
  unfolding ask_record
  ask_is e = rw (sym has_is ∙ e)

  pub ask_no : payload_in d (length m) ≡ false → refusal 16 [] ≡ ask_record d m
  unfolding ask_record
  ask_no e = rw (sym has_is ∙ e)

both_false : (a b : Bool) → cond a false b ≡ true → (a ≡ false) × (b ≡ true)
both_false true b e = (cc, cc)
both_false false b e = (refl, e)

pub payload_room : (d : Decoder) (lent : ℕ) → payload_in d lent ≡ true → d.fill ≤ lent
unfolding payload_in
payload_room d lent e =
    let p = both_false (bad_decoder d) _ e in
    let q = both_false (wrong_buffer d.capacity lent) _ p.1 in
    omega (arith, (sane d p.0).0, (right_buffer d.capacity lent q.0).0)
