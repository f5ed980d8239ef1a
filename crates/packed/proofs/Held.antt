-- What is known of bytes that are unpacked, and each call over them.
use mathlib.Core.Path.{◌≡◌, refl, sym, ap, ◌∙◌}
use mathlib.Core.Bool.{true, false}
use mathlib.Core.List.{List, [], ◌∷◌}
use Prim.Native.Nat.{ℕ, suc, ◌<◌, ◌≤◌}
use native.Mathlib.Omega.{arith}
use lib.ListN.{length}
use lib.Dec.{ltb}
use borrow.Author.Tests.{lt-ltb, le-ltb, ltb-true, ltb-false}
use Rattle.refusals.specs.Numbers.{bad_state_no, wrong_buffer_no, output_too_short_no, limit}
use Rattle.frame.specs.Frame.{same}
use Rattle.frame.proofs.Same.{same_true}
use Rattle.decoder.specs.declared.Setup.{Setup}
use Rattle.decoder.specs.Record.{DecoderAnswer, nothing, refusal, After, setup, after_push, bad_decoder, wrong_buffer, push_record}
use Rattle.decoder.specs.declared.Decoder.{Decoder}
use Rattle.decoder.specs.declared.Pushed.{Pushed}
use Rattle.decoder.proofs.Split.{cases}
use Rattle.decoder.proofs.Valid.{sane}
use Rattle.decoder.proofs.Reached.{push_good_stays, push_setup}
use Rattle.decoder_slice.specs.Slice.{Took, says_nothing, after_slice, pushes_from, slice_record}
use Rattle.decoder_slice.specs.declared.Sliced.{Sliced}
use Rattle.decoder_slice.proofs.Runs.{never}
use Rattle.packed.specs.Layout.{low_first, number_at_claim, packed_bytes, packed_in, record_in}
use Rattle.packed.specs.Packed.{answering, pack_into, holds, no_record, unpack_of, kept_push, push_packed, kept_slice, slice_packed}

pub never_held : {G : Type 0} {n : ℕ} {d : Decoder} → no_record n ≡ holds d → G
never_held h =
    let z : ◌≡◌ {A = ℕ} 0 1 = cc in
    absurd (omega arith)

-- ---- packing

module _ (d : Decoder) (out : List ℕ) where
  pub pack_bad : bad_decoder d ≡ true → pack_into d out ≡ answering (refusal bad_state_no []) out
  unfolding pack_into
  pack_bad b = simp b

  pub pack_over : bad_decoder d ≡ false → limit < d.capacity → pack_into d out ≡ answering (refusal wrong_buffer_no []) out
  unfolding pack_into
  pack_over b o = simp (b, lt-ltb _ _ o)

  pub pack_short : bad_decoder d ≡ false → d.capacity ≤ limit → length out < 28 → pack_into d out ≡ answering (refusal output_too_short_no []) out
  unfolding pack_into
  pack_short b o s = simp (b, le-ltb _ _ o, lt-ltb _ _ s)

  pub pack_good : bad_decoder d ≡ false → d.capacity ≤ limit → 28 ≤ length out → pack_into d out ≡ answering nothing (packed_in d out)
  unfolding pack_into
  pack_good b o s = simp (b, le-ltb _ _ o, le-ltb _ _ s)

-- a record that packing accepts, and an output with room
pub record Packs (d : Decoder) (out : List ℕ) : Type 0 where
  pub good : bad_decoder d ≡ false
  pub small : d.capacity ≤ limit
  pub room : 28 ≤ length out

pub packs : (d : Decoder) (out : List ℕ) → says_nothing (pack_into d out).answer ≡ true → Packs d out
unfolding pack_into
packs d out said =
    cases (bad_decoder d) (λ b. never (rw b at said)) (λ b.
    cases (ltb limit d.capacity) (λ o. never (rw (b, o) at said)) (λ o.
    cases (ltb (length out) 28) (λ s. never (rw (b, o, s) at said)) (λ s. record { good = b; small = ltb-false _ _ o; room = ltb-false _ _ s })))

-- ---- unpacking

module _ (l : List ℕ) where
  -- packing what the bytes say is refused: so are they
  refused_as_lem : (a : DecoderAnswer) → says_nothing a ≡ false → pack_into (record_in l) l ≡ answering a l → no_record bad_state_no ≡ unpack_of l
  unfolding unpack_of
  refused_as_lem a not e = rw (e, not)

  pub unpack_bad : bad_decoder (record_in l) ≡ true → no_record bad_state_no ≡ unpack_of l
  unpack_bad b = refused_as_lem _ refl (pack_bad (record_in l) l b)

  pub unpack_over : limit < (record_in l).capacity → no_record bad_state_no ≡ unpack_of l
  unpack_over o = cases (bad_decoder (record_in l)) unpack_bad (λ b. refused_as_lem _ refl (pack_over (record_in l) l b o))

  pub unpack_short : length l < 28 → no_record bad_state_no ≡ unpack_of l
  unpack_short s =
      cases (bad_decoder (record_in l)) unpack_bad (λ b.
      cases (ltb limit (record_in l).capacity) (λ o. unpack_over (ltb-true _ _ o)) (λ o. refused_as_lem _ refl (pack_short (record_in l) l b (ltb-false _ _ o) s)))

  -- else packing it again decides
  module _ (b : bad_decoder (record_in l) ≡ false) (o : (record_in l).capacity ≤ limit) (room : 28 ≤ length l) where
    accepted_as : pack_into (record_in l) l ≡ answering nothing (packed_in (record_in l) l)
    accepted_as = pack_good (record_in l) l b o room

    pub unpack_same : same (packed_in (record_in l) l) l ≡ true → holds (record_in l) ≡ unpack_of l
    unfolding unpack_of
    unpack_same t = rw (accepted_as, t)

    pub unpack_other : same (packed_in (record_in l) l) l ≡ false → no_record bad_state_no ≡ unpack_of l
    unfolding unpack_of
    unpack_other t = rw (accepted_as, t)

-- bytes that hold the record d
pub record HoldsRecord (l : List ℕ) (d : Decoder) : Type 0 where
  pub is : d ≡ record_in l
  pub good : bad_decoder d ≡ false
  pub small : d.capacity ≤ limit
  pub room : 28 ≤ length l
  pub again : packed_in d l ≡ l  -- packing it again changes nothing

pub holds_record : (l : List ℕ) (d : Decoder) → unpack_of l ≡ holds d → HoldsRecord l d
unfolding unpack_of
holds_record l d e =
    cases (says_nothing (pack_into (record_in l) l).answer)
    (λ yes.
    let p = packs (record_in l) l yes in
    let f : pack_into (record_in l) l ≡ answering nothing (packed_in (record_in l) l) = pack_good (record_in l) l p.good p.small p.room in
    cases (same (pack_into (record_in l) l).output l)
    (λ t.
    let i : d ≡ record_in l = cc (rw (yes, t) at e) in
    record { is = i; good = rw i p.good; small = rw i p.small; room = p.room; again = rw i (same_true _ _ (rw f at t)) })
    (λ t. never_held (rw (yes, t) at e)))
    (λ not. never_held (rw not at e))

-- ---- the calls

-- the fill stands in the bytes
fill_back : (d : Decoder) (l : List ℕ) → d.fill < 4294967296 → number_at_claim (packed_in d l) 8 4 ≡ d.fill
unfolding packed_in packed_bytes low_first number_at_claim
fill_back d l h = omega arith

-- a record that is good stays so over a slice, and keeps its setup
pub record Stays (d e : Decoder) : Type 0 where
  pub good : bad_decoder e ≡ false
  pub setup' : setup e ≡ setup d

pushes_stay : (bs : List ℕ) (n : ℕ) (d : Decoder) (m : List ℕ) → bad_decoder d ≡ false → Stays d (pushes_from n d m bs).decoder
unfolding pushes_from
pushes_stay [] n d m g = record { good = g; setup' = refl }
pushes_stay (b ∷ bs) n d m g =
    let one : Stays d (push_record d m b).decoder = record { good = push_good_stays d m b g; setup' = push_setup d m b } in
    cases (says_nothing (push_record d m b).answer)
    (λ yes.
    let more = pushes_stay bs (suc n) (push_record d m b).decoder (push_record d m b).memory one.good in
    rw yes (record { good = more.good; setup' = more.setup' ∙ one.setup' }))
    (λ not. rw not one)

pub slice_stays : (d : Decoder) (m chunk : List ℕ) → bad_decoder d ≡ false → Stays d (slice_record d m chunk).decoder
unfolding slice_record
slice_stays d m chunk g =
    cases (wrong_buffer d.capacity (length m)) (λ w. rw (g, w) (record { good = g; setup' = refl })) (λ w. rw (g, w) (pushes_stay chunk 0 d m g))

-- a record that a call leaves of one that bytes hold has a fill of 32 bits
fill_small : (d e : Decoder) → d.capacity ≤ limit → Stays d e → e.fill < 4294967296
fill_small d e small s =
    let c : e.capacity ≡ d.capacity = ap (λ (x : Setup). x.capacity) s.setup' in
    omega (arith, (sane e s.good).0)

module _ (l : List ℕ) (d : Decoder) (e : unpack_of l ≡ holds d) where
  pub held_room : 28 ≤ length l
  held_room = (holds_record l d e).room

  pub push_held_lem : (r : Pushed) (m' m : List ℕ) (b : ℕ) → after_push r m' ≡ push_record d m b → kept_push r.event (packed_in r.decoder l) m' ≡ push_packed l m b
  unfolding push_packed
  push_held_lem r m' m b q =
      let h = holds_record l d e in
      let is : (push_record d m b).decoder ≡ r.decoder = ap (λ (a : After). a.decoder) (sym q) in
      let s : Stays d r.decoder = record { good = rw is at (push_good_stays d m b h.good); setup' = rw is at (push_setup d m b) } in
      rw (e, ← q, fill_back r.decoder l (fill_small d r.decoder h.small s))

  pub slice_held_lem : (r : Sliced) (m' m chunk : List ℕ) → after_slice r m' ≡ slice_record d m chunk
      → kept_slice (record { event = r.event; taken = r.taken }) (packed_in r.decoder l) m' ≡ slice_packed l m chunk
  unfolding slice_packed
  slice_held_lem r m' m chunk q =
      let h = holds_record l d e in
      let is : (slice_record d m chunk).decoder ≡ r.decoder = ap (λ (a : Took). a.decoder) (sym q) in
      let s : Stays d r.decoder = rw is at (slice_stays d m chunk h.good) in
      rw (e, ← q, fill_back r.decoder l (fill_small d r.decoder h.small s))
