-- A record that is not refused with 4 stays so and keeps its setup, whatever buffer is lent at each push; so no record reached from a new one whose way is known is ever refused with 4.
use mathlib.Core.Path.{◌≡◌, refl, ◌∙◌}
use mathlib.Core.Bool.{false}
use mathlib.Core.List.{List}
use Prim.Native.Nat.{ℕ}
use native.Mathlib.Omega.{arith}
use lib.ListN.{length}
use Rattle.frame.proofs.Cases.{by_test}
use Rattle.decoder.specs.Push.{Setup, fresh}
use Rattle.decoder.specs.Record.{Left, setup, bad_decoder, wrong_buffer, push_record, finalize_record, reset_record, new_record}
use Rattle.decoder.specs.declared.Decoder.{Decoder}
use Rattle.decoder.proofs.Split.{cases}
use Rattle.decoder.proofs.Search.{Known}
use Rattle.decoder.proofs.Valid.{not_bad, sane_way}
use Rattle.decoder.proofs.Faithful.{Fit, push_is_step}

fresh_good : (C : Setup) → Known C → bad_decoder (new_record C) ≡ false
fresh_good C w = not_bad C fresh w (omega arith)

-- what holds of a push's record if it holds of the record as it was and of the step's
push_case : (P : Decoder → Type 0) (d : Decoder) (m : List ℕ) (b : ℕ) → P d → (Fit d m → P (push_record d m b).decoder) → P (push_record d m b).decoder
unfolding push_record
push_case P d m b old new =
    cases (bad_decoder d) (λ e. rw e old) (λ e.
    cases (wrong_buffer d.capacity (length m)) (λ w. rw (e, w) old) (λ w. new (record { state = e; buffer = w })))

pub push_good_stays : (d : Decoder) (m : List ℕ) (b : ℕ) → bad_decoder d ≡ false → bad_decoder (push_record d m b).decoder ≡ false
push_good_stays d m b e = push_case (λ (x : Decoder). bad_decoder x ≡ false) d m b e (λ f. (push_is_step d m b f).fit.state)

pub push_setup : (d : Decoder) (m : List ℕ) (b : ℕ) → setup (push_record d m b).decoder ≡ setup d
push_setup d m b = push_case (λ (x : Decoder). setup x ≡ setup d) d m b refl (λ f. (push_is_step d m b f).setup')

pub finalize_good_stays : (d : Decoder) → bad_decoder d ≡ false → bad_decoder (finalize_record d).decoder ≡ false
unfolding finalize_record
finalize_good_stays d e = rw e (fresh_good (setup d) (sane_way d e))

pub finalize_setup : (d : Decoder) → setup (finalize_record d).decoder ≡ setup d
unfolding finalize_record
finalize_setup d = by_test (λ (x : Left). setup x.decoder ≡ setup d) (bad_decoder d) _ _ (λ e. refl) (λ e. refl)

-- reset makes any record good whose way is known
pub reset_good : (d : Decoder) → Known (setup d) → bad_decoder (reset_record d).decoder ≡ false
unfolding reset_record
reset_good d w = fresh_good (setup d) w

pub reset_setup : (d : Decoder) → setup (reset_record d).decoder ≡ setup d
unfolding reset_record
reset_setup d = refl

-- the records that a new one of setup C comes to, with any buffers lent
pub data Reached (C : Setup) : Decoder → Type 0 where
  by_new : Reached C (new_record C)
  by_push : {d : Decoder} (m : List ℕ) (b : ℕ) → Reached C d → Reached C (push_record d m b).decoder
  by_finalize : {d : Decoder} → Reached C d → Reached C (finalize_record d).decoder
  by_reset : {d : Decoder} → Reached C d → Reached C (reset_record d).decoder

pub reached_good : (C : Setup) (d : Decoder) → Known C → Reached C d → (bad_decoder d ≡ false) × (setup d ≡ C)
unfolding reset_record
reached_good C d w by_new = (fresh_good C w, refl)
reached_good C d w (by_push {d = e} m b r) =
    let h = reached_good C e w r in
    (push_good_stays e m b h.0, push_setup e m b ∙ h.1)
reached_good C d w (by_finalize {d = e} r) =
    let h = reached_good C e w r in
    (finalize_good_stays e h.0, finalize_setup e ∙ h.1)
reached_good C d w (by_reset {d = e} r) =
    let h = reached_good C e w r in
    (reset_good e (sane_way e h.0), h.1)
