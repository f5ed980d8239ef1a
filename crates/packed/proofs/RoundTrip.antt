-- What is packed comes back, its unused counts 0, and no call tells the two apart.
use mathlib.Core.Path.{◌≡◌, refl, sym, ap, ◌∙◌}
use mathlib.Core.Bool.{false}
use mathlib.Core.List.{List, [], ◌∷◌, ◌++◌}
use Prim.Native.Nat.{ℕ, ◌<◌, ◌≤◌}
use native.Mathlib.Omega.{arith}
use lib.ListN.{length, take, drop, get_or, length-drop, take-append-drop}
use borrow.Author.Tests.{le-ltb}
use Rattle.refusals.specs.Numbers.{limit, count_stop}
use Rattle.frame.proofs.Same.{same_self}
use Rattle.decoder.specs.Record.{After, bad_decoder, wrong_buffer, has_payload, pushed, push_record, finalize_record, reset_record}
use Rattle.decoder.specs.declared.DecodeState.{DecodeState}
use Rattle.decoder.specs.declared.DecodeState.TheVariants.{LookingForMessageStart, ParsingNormal, ParsingEscChars, ParsingEscPayload, Done}
use Rattle.decoder.specs.declared.Decoder.{Decoder}
use Rattle.decoder.proofs.Split.{cases}
use Rattle.decoder.proofs.Valid.{sane, sane_way}
use Rattle.decoder_slice.specs.Slice.{Took, pushes_from, slice_record}
use Rattle.packed.specs.Layout.{low_first, number_at_claim, kind_no, small_count, noise_count, used_in, state_in, tidied, Narrow, packed_bytes, packed_in, record_in}
use Rattle.packed.specs.Packed.{holds, unpack_of}
use Rattle.packed.proofs.Again.{top, number_under, noise_below}
use Rattle.packed.proofs.Held.{Packs, unpack_same}

-- ---- behind a payload, or not

done_or : {G : Type 0} (s : DecodeState) → (s ≡ Done → G) → ((s ≡ Done → ⊥) → G) → G
done_or (LookingForMessageStart n noise) f g = g (λ h. let z : ◌≡◌ {A = ℕ} 0 1 = cc in omega arith)
done_or ParsingNormal f g = g (λ h. let z : ◌≡◌ {A = ℕ} 0 1 = cc in omega arith)
done_or (ParsingEscChars n) f g = g (λ h. let z : ◌≡◌ {A = ℕ} 0 1 = cc in omega arith)
done_or (ParsingEscPayload n) f g = g (λ h. let z : ◌≡◌ {A = ℕ} 0 1 = cc in omega arith)
done_or Done f g = f refl

used_all : (s : DecodeState) (x : ℕ) → (s ≡ Done → ⊥) → used_in s x ≡ x
used_all (LookingForMessageStart n noise) x h = refl
used_all ParsingNormal x h = refl
used_all (ParsingEscChars n) x h = refl
used_all (ParsingEscPayload n) x h = refl
used_all Done x h = absurd (h refl)

used_twice : (s : DecodeState) (x : ℕ) → used_in s (used_in s x) ≡ used_in s x
used_twice (LookingForMessageStart n noise) x = refl
used_twice ParsingNormal x = refl
used_twice (ParsingEscChars n) x = refl
used_twice (ParsingEscPayload n) x = refl
used_twice Done x = refl

used_least : (s : DecodeState) (x y : ℕ) → x ≤ y → used_in s x ≤ y
used_least s x y h = done_or s (λ e. rw e (omega arith)) (λ e. rw (used_all s x e) h)

-- only behind a payload may the two differ
pub tidy_is : (d : Decoder) → (d.state ≡ Done → ⊥) → tidied d ≡ d
tidy_is d h =
    let p = used_all d.state d.raw_msg_len h in
    let q = used_all d.state d.crc_idx h in
    λ i. record { capacity = d.capacity; fill = d.fill; raw_msg_len = p i; crc = d.crc; way = d.way; crc_idx = q i; state = d.state }

-- and there only by these two counts
pub tidy_zero : (d : Decoder) → d.raw_msg_len ≡ 0 → d.crc_idx ≡ 0 → tidied d ≡ d
tidy_zero d r x =
    done_or d.state
    (λ e.
    let p : used_in d.state d.raw_msg_len ≡ d.raw_msg_len = rw (e, r) in
    let q : used_in d.state d.crc_idx ≡ d.crc_idx = rw (e, x) in
    λ i. record { capacity = d.capacity; fill = d.fill; raw_msg_len = p i; crc = d.crc; way = d.way; crc_idx = q i; state = d.state })
    (λ e. tidy_is d e)

tidy_twice : (d : Decoder) → tidied (tidied d) ≡ tidied d
tidy_twice d =
    let p = used_twice d.state d.raw_msg_len in
    let q = used_twice d.state d.crc_idx in
    λ i. record { capacity = d.capacity; fill = d.fill; raw_msg_len = p i; crc = d.crc; way = d.way; crc_idx = q i; state = d.state }

pub tidy_good : (d : Decoder) → bad_decoder d ≡ false → bad_decoder (tidied d) ≡ false
unfolding bad_decoder
tidy_good d g =
    done_or d.state
    (λ e. rw (sane_way d g, le-ltb d.capacity d.fill (sane d g).0, e, le-ltb d.fill 0 (omega arith)))
    (λ e. ap bad_decoder (tidy_is d e) ∙ g)

-- ---- the fields come back

module _ (d : Decoder) (l : List ℕ) where
  state_back : (s : DecodeState) → state_in (kind_no s) (small_count s) (noise_count s) ≡ s
  unfolding state_in
  state_back (LookingForMessageStart n noise) = refl
  state_back ParsingNormal = refl
  state_back (ParsingEscChars n) = refl
  state_back (ParsingEscPayload n) = refl
  state_back Done = refl

  bytes_back : (get_or (packed_in d l) 0 0 ≡ kind_no d.state) × (get_or (packed_in d l) 1 0 ≡ small_count d.state) × (get_or (packed_in d l) 2 0 ≡ d.way)
  unfolding packed_in packed_bytes
  bytes_back = (refl, refl, refl)

  crc_back : d.crc < 65536 → number_at_claim (packed_in d l) 4 2 ≡ d.crc
  unfolding packed_in packed_bytes low_first number_at_claim
  crc_back h = omega arith

  fill_back : d.fill < 4294967296 → number_at_claim (packed_in d l) 8 4 ≡ d.fill
  unfolding packed_in packed_bytes low_first number_at_claim
  fill_back h = omega arith

  index_back : used_in d.state d.crc_idx < 4294967296 → number_at_claim (packed_in d l) 12 4 ≡ used_in d.state d.crc_idx
  unfolding packed_in packed_bytes low_first number_at_claim
  index_back h = omega arith

  raw_back : used_in d.state d.raw_msg_len < 4294967296 → number_at_claim (packed_in d l) 16 4 ≡ used_in d.state d.raw_msg_len
  unfolding packed_in packed_bytes low_first number_at_claim
  raw_back h = omega arith

  noise_back : noise_count d.state < 4294967296 → number_at_claim (packed_in d l) 20 4 ≡ noise_count d.state
  unfolding packed_in packed_bytes low_first number_at_claim
  noise_back h = omega arith

  capacity_back : d.capacity < 4294967296 → number_at_claim (packed_in d l) 24 4 ≡ d.capacity
  unfolding packed_in packed_bytes low_first number_at_claim
  capacity_back h = omega arith

  pub record_back : Narrow d → bad_decoder d ≡ false → d.capacity ≤ limit → record_in (packed_in d l) ≡ tidied d
  unfolding record_in
  record_back n g c =
      let s = sane d g in
      let fill : d.fill < 4294967296 = omega arith in
      let idx : used_in d.state d.crc_idx < 4294967296 = omega (arith, used_least d.state d.crc_idx d.fill s.1) in
      let raw : used_in d.state d.raw_msg_len < 4294967296 = omega (arith, used_least d.state d.raw_msg_len count_stop n.raw) in
      let noise : noise_count d.state < 4294967296 = omega arith in
      let capacity : d.capacity < 4294967296 = omega arith in
      rw
      (capacity_back capacity, fill_back fill, raw_back raw, crc_back n.crc, index_back idx, noise_back noise, bytes_back.0, bytes_back.1, bytes_back.2, state_back d.state)

  -- packing twice into the same bytes is packing the second time
  pub packed_over : (e : Decoder) → packed_in e (packed_in d l) ≡ packed_in e l
  unfolding packed_in packed_bytes low_first
  packed_over e = refl

  pub packed_tidy : packed_in (tidied d) l ≡ packed_in d l
  unfolding packed_in
  packed_tidy = rw (tidy_twice d)

  pub packed_room : 28 ≤ length (packed_in d l)
  unfolding packed_in packed_bytes low_first
  packed_room = omega arith

  pub packed_long : 28 ≤ length l → length (packed_in d l) ≡ length l
  unfolding packed_in packed_bytes low_first
  packed_long h = simp length-drop (omega arith)

  -- the bytes behind the 28 stay, and those are all that packing looks at of a record
  pub packed_rest : drop 28 (packed_in d l) ≡ drop 28 l
  unfolding packed_in packed_bytes low_first
  packed_rest = refl

  pub packed_first : (out : List ℕ) → take 28 (packed_in d out) ≡ take 28 l → packed_in d l ≡ l
  unfolding packed_in packed_bytes low_first
  packed_first out e = ap (λ (x : List ℕ). x ++ drop 28 l) e ∙ take-append-drop 28 l

  -- what packing gives is unpacked
  pub comes_back : Narrow d → Packs d l → unpack_of (packed_in d l) ≡ holds (tidied d)
  comes_back n p =
      let again : packed_in (tidied d) (packed_in d l) ≡ packed_in d l = packed_over (tidied d) ∙ packed_tidy in
      let back : record_in (packed_in d l) ≡ tidied d = record_back n p.good p.small in
      sym (unpack_same (packed_in d l) (rw back (tidy_good d p.good)) (rw back p.small) packed_room (rw (back, again) (same_self (packed_in d l)))) ∙ ap holds back

-- what bytes say is as wide as the record's types
pub bytes_narrow : (l : List ℕ) → ((i : ℕ) → get_or l i 0 < 256) → Narrow (record_in l)
unfolding record_in top
bytes_narrow l small =
    record {
      crc = omega (arith, number_under l small 4 2);
      raw = omega (arith, number_under l small 16 4);
      noise = omega (arith, noise_below l small (get_or l 0 0) (get_or l 1 0) (number_at_claim l 20 4) (number_under l small 20 4));
    }

-- ---- no call tells a record and its tidied one apart

-- an answer and the memory are equal, and the records that are left pack alike
pub record Alike (a e : After) (l : List ℕ) : Type 0 where
  pub answers : a.answer ≡ e.answer
  pub memories : a.memory ≡ e.memory
  pub packings : packed_in a.decoder l ≡ packed_in e.decoder l

same_alike : (a e : After) (l : List ℕ) → a ≡ e → Alike a e l
same_alike a e l h = record { answers = ap (λ (x : After). x.answer) h; memories = ap (λ (x : After). x.memory) h; packings = ap (λ (x : After). packed_in x.decoder l) h }

module _ (d : Decoder) (g : bad_decoder d ≡ false) where
  -- with the right buffer they are one
  pub tidy_right : (m : List ℕ) (b : ℕ) → wrong_buffer d.capacity (length m) ≡ false → push_record (tidied d) m b ≡ push_record d m b
  unfolding push_record pushed
  tidy_right m b w =
      done_or d.state (λ e. rw (tidy_good d g, g, w, e)) (λ e. ap (λ (x : Decoder). push_record x m b) (tidy_is d e))

  pub tidy_push : (m : List ℕ) (b : ℕ) (l : List ℕ) → Alike (push_record (tidied d) m b) (push_record d m b) l
  unfolding push_record
  tidy_push m b l =
      cases (wrong_buffer d.capacity (length m))
      (λ w. rw (tidy_good d g, g, w) (record { answers = refl; memories = refl; packings = packed_tidy d l }))
      (λ w. same_alike (push_record (tidied d) m b) (push_record d m b) l (tidy_right m b w))

  pub tidy_finalize : finalize_record (tidied d) ≡ finalize_record d
  unfolding finalize_record
  tidy_finalize = done_or d.state (λ e. rw (tidy_good d g, g, e)) (λ e. ap finalize_record (tidy_is d e))

  pub tidy_reset : reset_record (tidied d) ≡ reset_record d
  unfolding reset_record
  tidy_reset = done_or d.state (λ e. rw e) (λ e. ap reset_record (tidy_is d e))

  pub tidy_payload : (m : List ℕ) → has_payload (tidied d) m ≡ has_payload d m
  unfolding has_payload
  tidy_payload m = done_or d.state (λ e. rw (tidy_good d g, g, e)) (λ e. ap (λ (x : Decoder). has_payload x m) (tidy_is d e))

-- a slice: what differs is what an empty one, or a refused one, leaves
pub record AlikeSlice (t u : Took) (l : List ℕ) : Type 0 where
  pub answers : t.answer ≡ u.answer
  pub takens : t.taken ≡ u.taken
  pub memories : t.memory ≡ u.memory
  pub packings : packed_in t.decoder l ≡ packed_in u.decoder l

pub tidy_slice : (d : Decoder) → bad_decoder d ≡ false → (m chunk l : List ℕ) → AlikeSlice (slice_record (tidied d) m chunk) (slice_record d m chunk) l
unfolding slice_record pushes_from
tidy_slice d g m [] l =
    cases (wrong_buffer d.capacity (length m))
    (λ w. rw (tidy_good d g, g, w) (record { answers = refl; takens = refl; memories = refl; packings = packed_tidy d l }))
    (λ w. rw (tidy_good d g, g, w) (record { answers = refl; takens = refl; memories = refl; packings = packed_tidy d l }))
tidy_slice d g m (b ∷ bs) l =
    cases (wrong_buffer d.capacity (length m))
    (λ w. rw (tidy_good d g, g, w) (record { answers = refl; takens = refl; memories = refl; packings = packed_tidy d l }))
    (λ w. rw (tidy_good d g, g, w, tidy_right d g m b w) (record { answers = refl; takens = refl; memories = refl; packings = refl }))
