-- The short way of a push over the bytes: what its tests say of the record that they hold, and that the byte is stored in place.
use mathlib.Core.Path.{◌≡◌, refl, sym, ap, ◌∙◌}
use mathlib.Core.Bool.{true, false}
use mathlib.Core.List.{List, [], ◌∷◌}
use Prim.Native.Nat.{ℕ, suc, ◌+◌, ◌*◌, ◌<◌, ◌≤◌}
use native.Mathlib.Omega.{arith}
use lib.ListN.{length, get_or}
use lib.Seq.{sets}
use lib.Dec.{eqb, ltb, leb}
use borrow.Author.Tests.{eq-eqb, ne_eqb, lt-ltb, le-ltb, lt-leb, eqb-true, ltb-true, ltb-false, leb-true, leb-false}
use Rattle.refusals.specs.Numbers.{limit}
use Rattle.frame.specs.Frame.{same}
use Rattle.decoder.specs.Push.{stopped}
use Rattle.decoder.specs.Record.{After, nothing, unknown_way, recounted, bad_decoder, wrong_buffer}
use Rattle.decoder.specs.Cut.{quiet, stored_on, plain_byte_claim}
use Rattle.decoder.specs.declared.DecodeState.{DecodeState}
use Rattle.decoder.specs.declared.DecodeState.TheVariants.{LookingForMessageStart, ParsingNormal, ParsingEscChars, ParsingEscPayload, Done}
use Rattle.decoder.specs.declared.Decoder.{Decoder}
use Rattle.decoder.proofs.Split.{cases}
use Rattle.decoder.proofs.Valid.{sane, sane_way, sane_normal}
use Rattle.decoder.proofs.Plain.{not_yes, plain_says, plain_good, push_plain}
use Rattle.decoder_slice.proofs.Runs.{never}
use Rattle.packed.specs.Layout.{low_first, number_at_claim, state_in, packed_bytes, packed_in, record_in}
use Rattle.packed.specs.Packed.{Unpacked, holds, no_record, unpack_of, kept_bytes, push_held, push_packed, plain_for, plain_held, Tried, tried, plain_packed}
use Rattle.packed.specs.Cut.{normal_head, normal_in, PlainIn, plain_bytes, plain_memory}
use Rattle.packed.proofs.Again.{noise_left}
use Rattle.packed.proofs.Held.{HoldsRecord, unpack_same, holds_record, push_held_lem}

-- the kind of ParsingNormal and a known way, and 0 in all that such a record doesn't use
pub record NormalIn (l : List ℕ) : Type 0 where
  pub kind : get_or l 0 0 ≡ 1
  pub small : get_or l 1 0 ≡ 0
  pub known : unknown_way (get_or l 2 0) ≡ false
  pub third : get_or l 3 0 ≡ 0
  pub sixth : get_or l 6 0 ≡ 0
  pub seventh : get_or l 7 0 ≡ 0
  pub noise : number_at_claim l 20 4 ≡ 0

-- the bytes l, each below 256
module _ (l : List ℕ) (small : (i : ℕ) → get_or l i 0 < 256) where
  -- the first four as a number
  head_says : (way : ℕ) → unknown_way way ≡ false → way < 256 → number_at_claim l 0 4 ≡ 1 + 65536 * way → number_at_claim l 6 2 ≡ 0 → number_at_claim l 20 4 ≡ 0 → NormalIn l
  unfolding number_at_claim
  head_says way known less h six noise =
      let b0 = small 0 in
      let b1 = small 1 in
      let b2 = small 2 in
      let b3 = small 3 in
      let w : get_or l 2 0 ≡ way = omega (arith, b0, b1, b2, b3, h, less) in
      record {
        kind = omega (arith, b0, b1, b2, b3, h, less);
        small = omega (arith, b0, b1, b2, b3, h, less);
        known = rw w known;
        third = omega (arith, b0, b1, b2, b3, h, less);
        sixth = omega (arith, six);
        seventh = omega (arith, six);
        noise = noise;
      }

  normal_says : normal_in l ≡ true → NormalIn l
  unfolding normal_in normal_head
  normal_says t =
      cases (eqb (number_at_claim l 6 2) 0)
      (λ six. cases (eqb (number_at_claim l 20 4) 0)
      (λ noise. cases (eqb (number_at_claim l 0 4) 0x10001)
      (λ first. head_says 1 refl (omega arith) (eqb-true _ _ first) (eqb-true _ _ six) (eqb-true _ _ noise))
      (λ other. cases (eqb (number_at_claim l 0 4) 0x20001)
      (λ second. head_says 2 refl (omega arith) (eqb-true _ _ second) (eqb-true _ _ six) (eqb-true _ _ noise))
      (λ none. never (rw (other, none) at t))))
      (λ noisy. cases (normal_head (number_at_claim l 0 4)) (λ h. never (rw (h, six, noisy) at t)) (λ h. never (rw h at t))))
      (λ full. cases (normal_head (number_at_claim l 0 4)) (λ h. never (rw (h, full) at t)) (λ h. never (rw h at t)))

  module _ (lent b : ℕ) (p : PlainIn l lent b) where
    d : Decoder
    d = record_in l

    state_is : d.state ≡ ParsingNormal
    unfolding d record_in state_in
    state_is = rw (normal_says p.normal).kind

    plain_byte : plain_byte_claim d lent b ≡ true
    unfolding d record_in state_in plain_byte_claim
    plain_byte = rw ((normal_says p.normal).kind, ne_eqb _ _ p.byte, lt-leb _ _ p.room, le-ltb _ _ p.index, le-ltb _ _ p.raw, eq-eqb _ _ p.capacity, le-ltb _ _ p.small, (normal_says p.normal).known)

    holds_it : unpack_of l ≡ holds d
    unfolding d record_in
    holds_it =
        let normal = normal_says p.normal in
        let s = state_is in
        let again : same (packed_in d l) l ≡ true =
        sym (noise_left l small d p.long refl (record { kind = rw (s, normal.kind); count = rw (s, normal.small); third = normal.third; sixth = normal.sixth; seventh = normal.seventh; index = rw s; raw = rw s }))
        ∙ rw (s, normal.noise) in
        sym (unpack_same l (plain_good d lent b (plain_says d lent b plain_byte)) (omega (arith, p.capacity, p.small)) p.long again)

    plain_for_lem : plain_for d.state d.fill d.capacity lent b ≡ true
    unfolding d record_in state_in wrong_buffer
    plain_for_lem = rw ((normal_says p.normal).kind, ne_eqb _ _ p.byte, eq-eqb _ _ p.capacity, le-ltb _ _ p.small, lt-ltb _ _ p.room)

    pub plain_held_lem : plain_held (unpack_of l) lent b ≡ true
    plain_held_lem = rw (holds_it, plain_for_lem)

    -- the bytes with two counts in place are those of the record with these counts
    in_place : (fill raw : ℕ) → sets (sets l 8 (low_first 4 fill)) 16 (low_first 4 raw) ≡ packed_in (recounted d fill raw ParsingNormal) l
    unfolding packed_in packed_bytes low_first
    in_place fill raw =
        let h = holds_record l d holds_it in
        let whole : packed_in d l ≡ l = h.again in
        ap (λ (x : List ℕ). sets (sets x 8 (low_first 4 fill)) 16 (low_first 4 raw)) (sym whole) ∙ rw state_is

    plain_pushed : (m : List ℕ) → length m ≡ lent → kept_bytes nothing (plain_bytes l) (plain_memory l m b) ≡ push_packed l m b
    unfolding plain_bytes plain_memory d record_in
    plain_pushed m long =
        let q = push_plain d m b (rw long plain_byte) in
        rw (in_place (number_at_claim l 8 4 + 1) (stopped (suc (number_at_claim l 16 4)))) (push_held_lem l d holds_it (quiet (stored_on d 1 ParsingNormal)) (sets m d.fill (b ∷ [])) m b q)

    pub plain_stored : (m : List ℕ) → length m ≡ lent → tried true (plain_bytes l) (plain_memory l m b) ≡ plain_packed l m b
    unfolding plain_packed
    plain_stored m long =
        let k = plain_pushed m long in
        let t : plain_held (unpack_of l) (length m) b ≡ true = rw long plain_held_lem in
        rw (t, sym k)

-- what is said of the record and a byte says it of the bytes
normal_back : (d : Decoder) (l : List ℕ) → d.state ≡ ParsingNormal → unknown_way d.way ≡ false → normal_in (packed_in d l) ≡ true
unfolding normal_in normal_head number_at_claim packed_in packed_bytes low_first
normal_back d l s known =
    cases (eqb d.way 1) (λ first. let w : d.way ≡ 1 = eqb-true _ _ first in rw (s, w)) (λ other. let w : d.way ≡ 2 = eqb-true _ _ (not_yes _ (rw other at known)) in rw (s, w))

-- a record that no push refuses as bad needs no more tests
module _ (d : Decoder) (lent b : ℕ) (g : bad_decoder d ≡ false) where
  normal_plain : d.state ≡ ParsingNormal → plain_for ParsingNormal d.fill d.capacity lent b ≡ true → plain_byte_claim d lent b ≡ true
  unfolding plain_byte_claim wrong_buffer
  normal_plain s t =
      cases (eqb b 0x1b) (λ e. never (rw e at t)) (λ e.
      cases (eqb lent d.capacity)
      (λ c. cases (ltb limit lent) (λ o. never (rw (e, c, o) at t)) (λ o.
      let room = ltb-true d.fill lent (rw (e, c, o) at t) in
      rw (s, e, lt-leb _ _ room, le-ltb d.fill d.crc_idx (sane d g).1, le-ltb _ _ (sane_normal d g s), c, o, sane_way d g)))
      (λ c. never (rw (e, c) at t)))

  for_plain : plain_for d.state d.fill d.capacity lent b ≡ true → plain_byte_claim d lent b ≡ true
  for_plain t = by_state d.state refl
    where
      by_state : (s : DecodeState) → d.state ≡ s → plain_byte_claim d lent b ≡ true
      by_state (LookingForMessageStart n noise) s = never (rw s at t)
      by_state ParsingNormal s = normal_plain s (rw s at t)
      by_state (ParsingEscChars n) s = never (rw s at t)
      by_state (ParsingEscPayload n) s = never (rw s at t)
      by_state Done s = never (rw s at t)

plain_of : (l : List ℕ) (lent b : ℕ) → HoldsRecord l (record_in l) → plain_for (record_in l).state (record_in l).fill (record_in l).capacity lent b ≡ true → PlainIn l lent b
unfolding record_in
plain_of l lent b h t =
    let p = plain_says (record_in l) lent b (for_plain (record_in l) lent b h.good t) in
    let back : packed_in (record_in l) l ≡ l = h.again in
    record {
      long = h.room;
      normal = ap normal_in (sym back) ∙ normal_back (record_in l) l p.state p.way;
      byte = λ e. never (sym p.byte ∙ eq-eqb _ _ e);
      room = p.room;
      index = ltb-false _ _ p.index;
      raw = ltb-false _ _ p.raw;
      capacity = eqb-true _ _ p.lent_is;
      small = ltb-false _ _ p.small;
    }

pub plain_in : (l : List ℕ) (lent b : ℕ) → plain_held (unpack_of l) lent b ≡ true → PlainIn l lent b
plain_in l lent b t = held_or (unpack_of l) refl
  where
    held_or : (u : Unpacked) → unpack_of l ≡ u → PlainIn l lent b
    held_or (no_record n) e = never (rw e at t)
    held_or (holds d) e =
        let h = holds_record l d e in
        let is : d ≡ record_in l = h.is in
        plain_of l lent b (rw (sym is) h) (rw (e, is) at t)

pub not_plain : (l : List ℕ) (lent b : ℕ) → (PlainIn l lent b → ⊥) → false ≡ plain_held (unpack_of l) lent b
not_plain l lent b n = cases (plain_held (unpack_of l) lent b) (λ t. absurd (n (plain_in l lent b t))) (λ f. sym f)

-- the last test decides
pub plain_if : (l : List ℕ) → ((i : ℕ) → get_or l i 0 < 256) → (lent b : ℕ) → (lent ≤ limit → PlainIn l lent b) → leb lent limit ≡ plain_held (unpack_of l) lent b
plain_if l bytes lent b p =
    cases (leb lent limit)
    (λ yes. yes ∙ sym (plain_held_lem l bytes lent b (p (leb-true _ _ yes))))
    (λ not. not ∙ not_plain l lent b (λ q. let over = leb-false lent limit not in omega (arith, q.small, over)))

pub left_undone : (l m : List ℕ) (b : ℕ) → plain_held (unpack_of l) (length m) b ≡ false → tried false l m ≡ plain_packed l m b
unfolding plain_packed
left_undone l m b not = rw not

-- ---- what a caller learns

plain_nothing : (l m : List ℕ) (b : ℕ) → plain_held (unpack_of l) (length m) b ≡ true → (push_packed l m b).answer ≡ nothing
unfolding push_packed
plain_nothing l m b t = held_or (unpack_of l) refl t
  where
    held_or : (u : Unpacked) → unpack_of l ≡ u → plain_held u (length m) b ≡ true → (push_held u l m b).answer ≡ nothing
    held_or (no_record n) e h = never h
    held_or (holds d) e h = ap (λ (a : After). a.answer) (sym (push_plain d m b (for_plain d (length m) b (holds_record l d e).good h)))

module _ (l m l' m' : List ℕ) (b : ℕ) where
  pub did_push : tried true l' m' ≡ plain_packed l m b → kept_bytes nothing l' m' ≡ push_packed l m b
  unfolding plain_packed
  did_push q =
      cases (plain_held (unpack_of l) (length m) b)
      (λ t.
      let q' : tried true l' m' ≡ tried true (push_packed l m b).bytes (push_packed l m b).memory = rw t at q in
      let bytes : l' ≡ (push_packed l m b).bytes = ap (λ (x : Tried). x.bytes) q' in
      let memory : m' ≡ (push_packed l m b).memory = ap (λ (x : Tried). x.memory) q' in
      let answer = plain_nothing l m b t in
      rw (bytes, memory, sym answer))
      (λ f. never (sym (ap (λ (x : Tried). x.did) (rw f at q))))

  pub did_not : tried false l' m' ≡ plain_packed l m b → (l' ≡ l) × (m' ≡ m)
  unfolding plain_packed
  did_not q =
      cases (plain_held (unpack_of l) (length m) b)
      (λ t. never (ap (λ (x : Tried). x.did) (rw t at q)))
      (λ f.
      let q' : tried false l' m' ≡ tried false l m = rw f at q in
      (ap (λ (x : Tried). x.bytes) q', ap (λ (x : Tried). x.memory) q'))
