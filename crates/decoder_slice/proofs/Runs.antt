-- One byte more of a stretch that says nothing.
use Rattle.std.specs.Prelude.{Ok, Err}
use Prim.Native.Nat.{ℕ, zero, suc, ◌+◌, ◌-◌, ◌<◌, ◌≤◌}
use mathlib.Core.List.{List, [], ◌∷◌}
use mathlib.Core.Path.{◌≡◌, refl, sym, ap, ◌∙◌, subst}
use mathlib.Core.Bool.{true, false}
use native.Mathlib.Omega.{arith}
use native.Mathlib.Nat.{add-zero}
use native.Mathlib.Numerals.{add-one}
use borrow.Author.Tests.{le-ltb, lt-ltb, le-leb, eq-eqb, ne_eqb}
use lib.Dec.{ltb, T}
use lib.ListN.{length, set, take, drop, get_or, drop_of_length-le, length-drop}
use lib.Seq.{sets, length-sets, length-take-le}
use Rattle.std.proofs.lemmas.List.{get_or-drop}
use Rattle.std.proofs.lemmas.Grind.{take_at_read}
use borrow.Rule.Slice.PartMut.{put_mid}
use Rattle.decoder.proofs.Stores.{sets_more, put_sets}
use Rattle.refusals.proofs.Places.{from_place}
use Rattle.decoder.specs.declared.DecodeState.{DecodeState}
use Rattle.decoder.specs.declared.DecodeState.TheVariants.{LookingForMessageStart, ParsingNormal, ParsingEscChars, ParsingEscPayload, Done}
use Rattle.decoder.specs.declared.Decoder.{Decoder}
use Rattle.decoder.specs.declared.DecodeErr.TheVariants.{DiscardedBytes, InvalidEsc, OutOfMemory, InvalidMessage, BadState, WrongBuffer}
use Rattle.decoder.specs.declared.Pushed.{Pushed}
use Rattle.decoder.specs.declared.AfterReset.{AfterReset}
use Rattle.decoder.specs.Push.{stopped, matched_behind, more_noise, searching}
use Rattle.decoder.specs.Record.{Event, nothing, answer_of, After, after, after_push, Left, after_reset, push_record, reset_record, unknown_way, bad_in, bad_decoder, wrong_buffer, setup, new_record}
use Rattle.decoder.specs.Cut.{told_cut, stored_on, pushed_on, in_state, step_cut, normal_step, wait_step, escape_step}
use Rattle.decoder.proofs.Split.{cases}
use Rattle.decoder.proofs.Faithful.{Fit, push_is_step}
use Rattle.decoder.proofs.Tied.{tied, push_step}
use Rattle.decoder.proofs.Runs.{new_fit}
use Rattle.decoder.proofs.Search.{matched_most, noise_grows}
use Rattle.decoder.proofs.Valid.{sane, sane_way, right_buffer}
use Rattle.decoder_slice.specs.Slice.{Took, took, says_nothing, pushes_from}
use Rattle.decoder_slice.specs.Stretch.{moved_by, FrameWithBuffer, Goes, Plain, Escapes}
use Rattle.decoder_slice.specs.declared.Stretch.{Stretch}

pub never : {A : Type 0} → false ≡ true → A
never e = absurd (subst T (sym e) tt)

runs_quietly : (u : ℕ) (d : Decoder) (m : List ℕ) (b : ℕ) (bs : List ℕ) (d' : Decoder) (m' : List ℕ) → push_record d m b ≡ after nothing d' m'
    → pushes_from (u + 1) d' m' bs ≡ pushes_from u d m (b ∷ bs)
unfolding pushes_from
runs_quietly u d m b bs d' m' e = rw (add-one u, e)

loud : (u : ℕ) (d : Decoder) (m : List ℕ) (b : ℕ) (bs : List ℕ) (a : After) → push_record d m b ≡ a → says_nothing a.answer ≡ false
    → took a.answer a.decoder (u + 1) a.memory ≡ pushes_from u d m (b ∷ bs)
unfolding pushes_from
loud u d m b bs a e q = rw (add-one u, e, q)

hushed : (u : ℕ) (d : Decoder) (m : List ℕ) (b : ℕ) (bs : List ℕ) (a : After) → push_record d m b ≡ a → says_nothing a.answer ≡ true
    → pushes_from (u + 1) a.decoder a.memory bs ≡ pushes_from u d m (b ∷ bs)
unfolding pushes_from
hushed u d m b bs a e q = rw (add-one u, e, q)

quiet_next : (u : ℕ) (d : Decoder) (m s : List ℕ) (i : ℕ) (d' : Decoder) (m' : List ℕ) → i < length s → push_record d m (get_or s i 0) ≡ after nothing d' m'
    → pushes_from (u + 1) d' m' (drop (i + 1) s) ≡ pushes_from u d m (drop i s)
quiet_next u d m s i d' m' h e = runs_quietly u d m (get_or s i 0) (drop (i + 1) s) d' m' e ∙ ap (pushes_from u d m) (sym (from_place s i h))

-- what an event says doesn't hang on a payload's bytes
same_said : (e : Event) (bytes : List ℕ) → says_nothing (answer_of e []) ≡ says_nothing (answer_of e bytes)
same_said (Ok false) bytes = refl
same_said (Ok true) bytes = refl
same_said (Err (DiscardedBytes n)) bytes = refl
same_said (Err (InvalidEsc a b c d)) bytes = refl
same_said (Err OutOfMemory) bytes = refl
same_said (Err (InvalidMessage read computed misaligned p)) bytes = refl
same_said (Err BadState) bytes = refl
same_said (Err WrongBuffer) bytes = refl

-- a single push that says something, or nothing
pub loud_next : (u : ℕ) (d : Decoder) (m s : List ℕ) (i : ℕ) (r : Pushed) (m' : List ℕ) → i < length s → after_push r m' ≡ push_record d m (get_or s i 0) → says_nothing (answer_of r.event []) ≡ false
    → took (after_push r m').answer r.decoder (u + 1) m' ≡ pushes_from u d m (drop i s)
loud_next u d m s i r m' h e q =
    loud u d m (get_or s i 0) (drop (i + 1) s) (after_push r m') (sym e) (sym (same_said r.event _) ∙ q) ∙ ap (pushes_from u d m) (sym (from_place s i h))

pub silent_next : (u : ℕ) (d : Decoder) (m s : List ℕ) (i : ℕ) (r : Pushed) (m' : List ℕ) → i < length s → after_push r m' ≡ push_record d m (get_or s i 0) → says_nothing (answer_of r.event []) ≡ true
    → pushes_from (u + 1) r.decoder m' (drop (i + 1) s) ≡ pushes_from u d m (drop i s)
silent_next u d m s i r m' h e q =
    hushed u d m (get_or s i 0) (drop (i + 1) s) (after_push r m') (sym e) (sym (same_said r.event _) ∙ q) ∙ ap (pushes_from u d m) (sym (from_place s i h))

-- a push that says nothing was not refused, and what it leaves would not be either
module _ (d : Decoder) (m : List ℕ) (b : ℕ) where
  bad_says : bad_decoder d ≡ true → says_nothing (push_record d m b).answer ≡ false
  unfolding push_record
  bad_says e = rw e

  wrong_says : bad_decoder d ≡ false → wrong_buffer d.capacity (length m) ≡ true → says_nothing (push_record d m b).answer ≡ false
  unfolding push_record
  wrong_says e w = rw (e, w)

  pub silent_fit : (r : Pushed) (m' : List ℕ) → after_push r m' ≡ push_record d m b → says_nothing (answer_of r.event []) ≡ true
      → (bad_decoder r.decoder ≡ false) × (wrong_buffer r.decoder.capacity (length m') ≡ false)
  silent_fit r m' e q =
      let said : says_nothing (push_record d m b).answer ≡ true = ap (λ (a : After). says_nothing a.answer) (sym e) ∙ sym (same_said r.event _) ∙ q in
      cases (bad_decoder d) (λ t. never (sym (bad_says t) ∙ said)) (λ g.
      cases (wrong_buffer d.capacity (length m)) (λ w. never (sym (wrong_says g w) ∙ said)) (λ w.
      let f = (push_is_step d m b (record { state = g; buffer = w })).fit in
      (subst (λ (a : After). bad_decoder a.decoder ≡ false) (sym e) f.state, subst (λ (a : After). wrong_buffer a.decoder.capacity (length a.memory) ≡ false) (sym e) f.buffer)))

pub pushes_done : (u : ℕ) (d : Decoder) (m s : List ℕ) (i : ℕ) → length s ≤ i → pushes_from u d m (drop i s) ≡ took nothing d u m
unfolding pushes_from
pushes_done u d m s i h = rw drop_of_length-le

-- a record that is not refused, and its buffer
fit : (d : Decoder) (m : List ℕ) → unknown_way d.way ≡ false → d.crc_idx ≤ d.fill → d.fill ≤ d.capacity → length m ≡ d.capacity → d.capacity ≤ 1048576
    → bad_in d.fill d.crc_idx d.raw_msg_len d.state ≡ false → Fit d m
unfolding bad_decoder wrong_buffer
fit d m w i f l small b =
    record {
      state = rw (w, le-ltb d.capacity d.fill f, le-ltb d.fill d.crc_idx i) b;
      buffer = rw (l, eq-eqb d.capacity d.capacity refl, le-ltb 1048576 d.capacity small);
    }

-- nothing yet
pub at_first_lem : (d : Decoder) (s : DecodeState) → d.raw_msg_len ≤ 4294967295 → moved_by d 0 0 s ≡ in_state d s
at_first_lem d s h =
    let e : stopped (d.raw_msg_len + 0) ≡ d.raw_msg_len = omega arith in
    rw (add-zero, e)

-- one byte more of a stretch, in states t and t'
runs_more : (d : Decoder) (j j' k : ℕ) (t t' : DecodeState) (m m' s : List ℕ) (i : ℕ) → i + k < length s
    → push_record (moved_by d j k t) m (get_or s (i + k) 0)
    ≡ after nothing (pushed_on (moved_by d j' k t) t') m'
    → pushes_from (i + (k + 1)) (moved_by d j' (k + 1) t') m' (drop (i + (k + 1)) s) ≡ pushes_from (i + k) (moved_by d j k t) m (drop (i + k) s)
runs_more d j j' k t t' m m' s i hs p =
    let e : i + k + 1 ≡ i + (k + 1) = omega arith in
    let r : stopped (suc (stopped (d.raw_msg_len + k))) ≡ stopped (d.raw_msg_len + (k + 1)) = omega arith in
    rw (← e, ← r) (quiet_next (i + k) (moved_by d j k t) m s (i + k) _ _ hs p)

-- an ordinary byte
plain_byte : (d : Decoder) (f : ℕ) (m : List ℕ) (b : ℕ) → d.fill ≡ f → f + 1 ≤ length m → (b ≡ 0x1b → ⊥)
    → told_cut (step_cut ParsingNormal d m b) ≡ after nothing (stored_on d 1 ParsingNormal) (set m d.fill b)
unfolding step_cut normal_step
plain_byte d f m b e h n = simp (ne_eqb b 0x1b n, e, le-leb (f + 1) (length m) h)

pub plain_next : (d : Decoder) (m s : List ℕ) (i k : ℕ) → unknown_way d.way ≡ false → d.crc_idx ≤ d.fill → 8 ≤ d.raw_msg_len → length m ≡ d.capacity → d.capacity ≤ 1048576
    → d.fill + k < length m → i + k < length s → (get_or s (i + k) 0 ≡ 0x1b → ⊥)
    → pushes_from (i + (k + 1)) (moved_by d (k + 1) (k + 1) ParsingNormal) (set m (d.fill + k) (get_or s (i + k) 0)) (drop (i + (k + 1)) s)
    ≡ pushes_from (i + k) (moved_by d k k ParsingNormal) m (drop (i + k) s)
plain_next d m s i k w ix raw l small h hs n =
    let g : Decoder = moved_by d k k ParsingNormal in
    let f : d.fill + k + 1 ≡ d.fill + (k + 1) = omega arith in
    let b : ltb (stopped (d.raw_msg_len + k)) 8 ≡ false = le-ltb (stopped (d.raw_msg_len + k)) 8 (omega arith) in
    let p = sym (tied g m (get_or s (i + k) 0) (fit g m w (omega arith) (omega arith) l small b))
    ∙ plain_byte g (d.fill + k) m (get_or s (i + k) 0) refl (omega arith) n in
    runs_more d k (k + 1) k ParsingNormal ParsingNormal m _ s i hs (rw (← f) p)

pub first_goes : (d : Decoder) (t : DecodeState) (m s : List ℕ) (i : ℕ) → d.raw_msg_len ≤ 4294967295 → Goes (moved_by d 0 0 t) (i + 0) m i (in_state d t) m s
first_goes d t m s i h = rw (add-zero i) (ap (λ (x : Decoder). pushes_from i x m (drop i s)) (at_first_lem d t h))

-- a byte of a search that does not end it
search_byte : (d : Decoder) (noise q : ℕ) (m : List ℕ) (b : ℕ) → d.fill ≡ 0 → d.crc_idx ≡ 0 → d.crc ≡ 0xffff → (matched_behind d.way q b ≡ 8 → ⊥)
    → told_cut (step_cut (LookingForMessageStart q noise) d m b) ≡ after nothing (pushed_on d (LookingForMessageStart (matched_behind d.way q b) (more_noise noise q (matched_behind d.way q b)))) m
unfolding step_cut searching
search_byte d noise q m b f x c n = simp (f, x, c, ne_eqb (matched_behind d.way q b) 8 n)

-- behind k bytes of a search, of which and of n before q are matched, the noise is all the others; q' are matched with one byte more
pub search_next : (d : Decoder) (noise n q q' : ℕ) (s : List ℕ) (i k : ℕ) → unknown_way d.way ≡ false → d.fill ≡ 0 → d.crc_idx ≡ 0 → d.crc ≡ 0xffff → d.capacity ≤ 1048576
    → i + k < length s → q < 8 → q ≤ n + k → q' ≡ matched_behind d.way q (get_or s (i + k) 0) → (q' ≡ 8 → ⊥)
    → (q' ≤ n + (k + 1)) × (q' < 8) × ((m : List ℕ) → length m ≡ d.capacity
    → pushes_from (i + (k + 1)) (moved_by d 0 (k + 1) (LookingForMessageStart q' (stopped (noise + (n + (k + 1) - q'))))) m (drop (i + (k + 1)) s)
    ≡ pushes_from (i + k) (moved_by d 0 k (LookingForMessageStart q (stopped (noise + (n + k - q))))) m (drop (i + k) s))
search_next d noise n q q' s i k w f x ff small hs h g e ne =
    let b : ℕ = get_or s (i + k) 0 in
    let y : ℕ = stopped (noise + (n + k - q)) in
    let now : Decoder = moved_by d 0 k (LookingForMessageStart q y) in
    let z : d.fill + 0 ≡ 0 = omega arith in
    let most : q' ≤ suc q = omega (arith, e, matched_most d.way q b) in
    let grows : more_noise y q q' ≡ stopped (noise + (n + k - q) + (suc q - q')) = noise_grows y (noise + (n + k - q)) q q' refl most in
    let all : noise + (n + k - q) + (suc q - q') ≡ noise + (n + (k + 1) - q') = omega arith in
    let bad : bad_in (d.fill + 0) d.crc_idx (stopped (d.raw_msg_len + k)) (LookingForMessageStart q y) ≡ false = simp (z, le-ltb 7 q (omega arith)) in (
      omega arith,
      omega arith,
      λ m l.
          ap (λ (v : ℕ). pushes_from (i + (k + 1)) (moved_by d 0 (k + 1) (LookingForMessageStart q' v)) m (drop (i + (k + 1)) s)) (ap stopped (sym all) ∙ sym grows)
          ∙ ap (λ (v : ℕ). pushes_from (i + (k + 1)) (moved_by d 0 (k + 1) (LookingForMessageStart v (more_noise y q v))) m (drop (i + (k + 1)) s)) e
          ∙ runs_more d 0 0 k (LookingForMessageStart q y) _ m m s i hs
          (sym (tied now m b (fit now m w (omega arith) (omega arith) l small bad)) ∙ search_byte now y q m b z x ff (λ v. ne (e ∙ v))),
    )

pub first_search : (d : Decoder) (noise n : ℕ) (m s : List ℕ) (i : ℕ) → d.raw_msg_len ≤ 4294967295 → noise ≤ 4294967295
    → Goes (moved_by d 0 0 (LookingForMessageStart n (stopped (noise + (n + 0 - n))))) (i + 0) m i (in_state d (LookingForMessageStart n noise)) m s
first_search d noise n m s i h g =
    let e : stopped (noise + (n + 0 - n)) ≡ noise = omega arith in
    rw e (first_goes d (LookingForMessageStart n noise) m s i h)

-- where a search stops behind k bytes
pub search_there : (d : Decoder) (noise n q : ℕ) (s : List ℕ) (i k : ℕ) (r : Stretch) → r.decoder ≡ moved_by d 0 k (LookingForMessageStart q (stopped (noise + (n + k - q)))) → r.at ≡ i + k → i + k ≤ length s
    → ((m : List ℕ) → length m ≡ d.capacity → Goes (moved_by d 0 k (LookingForMessageStart q (stopped (noise + (n + k - q))))) (i + k) m i (in_state d (LookingForMessageStart n noise)) m s)
    → (r.at ≤ length s) × (i ≤ r.at) × ((m : List ℕ) → length m ≡ d.capacity → Goes r.decoder r.at m i (in_state d (LookingForMessageStart n noise)) m s)
search_there d noise n q s i k r e a h goes = (omega arith, omega arith, λ m l. rw (e, a) (goes m l))

-- a further 1b
wait_byte : (d : Decoder) (q : ℕ) (m : List ℕ) (b : ℕ) → b ≡ 0x1b → (q ≡ 3 → ⊥)
    → told_cut (step_cut (ParsingEscChars q) d m b)
    ≡ after nothing (pushed_on d (ParsingEscChars (q + 1))) m
unfolding step_cut wait_step
wait_byte d q m b e n = simp (eq-eqb b 0x1b e, ne_eqb q 3 n)

pub wait_next : (d : Decoder) (q : ℕ) (m s : List ℕ) (i k : ℕ) → unknown_way d.way ≡ false → d.crc_idx ≤ d.fill → d.fill ≤ d.capacity → 8 ≤ d.raw_msg_len → length m ≡ d.capacity → d.capacity ≤ 1048576
    → i + k < length s → 1 ≤ q → q ≤ 3 → get_or s (i + k) 0 ≡ 0x1b → (q ≡ 3 → ⊥)
    → pushes_from (i + (k + 1)) (moved_by d 0 (k + 1) (ParsingEscChars (q + 1))) m (drop (i + (k + 1)) s)
    ≡ pushes_from (i + k) (moved_by d 0 k (ParsingEscChars q)) m (drop (i + k) s)
wait_next d q m s i k w ix f raw l small hs h1 h3 e n =
    let g : Decoder = moved_by d 0 k (ParsingEscChars q) in
    let z : q ≡ 0 → ⊥ = λ w. omega arith in
    let b : bad_in (d.fill + 0) d.crc_idx (stopped (d.raw_msg_len + k)) (ParsingEscChars q) ≡ false = simp (le-ltb (stopped (d.raw_msg_len + k)) 8 (omega arith), ne_eqb q 0 z, le-ltb 3 q h3) in
    runs_more d 0 0 k (ParsingEscChars q) _ m m s i hs
    (sym (tied g m (get_or s (i + k) 0) (fit g m w (omega arith) (omega arith) l small b)) ∙ wait_byte g q m (get_or s (i + k) 0) e n)

-- one of the first three behind an escape
judged_byte : (d : Decoder) (q f : ℕ) (m : List ℕ) (b : ℕ) → d.fill ≡ f → f + 1 ≤ length m → q < 3
    → told_cut (step_cut (ParsingEscPayload q) d m b) ≡ after nothing (stored_on d 1 (ParsingEscPayload (q + 1))) (set m d.fill b)
unfolding step_cut escape_step
judged_byte d q f m b e h n = simp (e, le-leb (f + 1) (length m) h, lt-ltb q 3 n)

pub judged_next : (d : Decoder) (n : ℕ) (m s : List ℕ) (i k : ℕ) → unknown_way d.way ≡ false → d.crc_idx + n ≤ d.fill → 8 ≤ d.raw_msg_len → length m ≡ d.capacity → d.capacity ≤ 1048576
    → d.fill + k < length m → i + k < length s → n + k < 3
    → pushes_from (i + (k + 1)) (moved_by d (k + 1) (k + 1) (ParsingEscPayload (n + (k + 1)))) (set m (d.fill + k) (get_or s (i + k) 0)) (drop (i + (k + 1)) s)
    ≡ pushes_from (i + k) (moved_by d k k (ParsingEscPayload (n + k))) m (drop (i + k) s)
judged_next d n m s i k w ix raw l small h hs h3 =
    let g : Decoder = moved_by d k k (ParsingEscPayload (n + k)) in
    let f : d.fill + k + 1 ≡ d.fill + (k + 1) = omega arith in
    let q : n + k + 1 ≡ n + (k + 1) = omega arith in
    let b : bad_in (d.fill + k) d.crc_idx (stopped (d.raw_msg_len + k)) (ParsingEscPayload (n + k)) ≡ false =
    simp (le-ltb (stopped (d.raw_msg_len + k)) 8 (omega arith), le-ltb 3 (n + k) (omega arith), le-ltb (d.fill + k) (d.crc_idx + (n + k)) (omega arith)) in
    let p = sym (tied g m (get_or s (i + k) 0) (fit g m w (omega arith) (omega arith) l small b))
    ∙ judged_byte g (n + k) (d.fill + k) m (get_or s (i + k) 0) refl (omega arith) h3 in
    runs_more d k (k + 1) k (ParsingEscPayload (n + k)) (ParsingEscPayload (n + (k + 1))) m _ s i hs (rw (← f, ← q) p)

-- ---- stretches

-- a part of s that is copied, one byte more
sets_take : (m s : List ℕ) (f i k : ℕ) → i + k < length s
    → set (sets m f (take k (drop i s))) (f + k) (get_or s (i + k) 0) ≡ sets m f (take (k + 1) (drop i s))
sets_take m s f i k h =
    let left : length (drop i s) ≡ length s - i = length-drop i s in
    let size : length (take k (drop i s)) ≡ k = length-take-le k (drop i s) (omega (arith, left)) in
    let here : get_or (drop i s) k 0 ≡ get_or s (i + k) 0 = get_or-drop i s k 0 in
    ap (λ (n : ℕ). set (sets m f (take k (drop i s))) (f + n) (get_or s (i + k) 0)) (sym size)
    ∙ ap (λ (b : ℕ). set (sets m f (take k (drop i s))) (f + length (take k (drop i s))) b) (sym here)
    ∙ sets_more m f (take k (drop i s)) (get_or (drop i s) k 0)
    ∙ ap (sets m f) (sym (take_at_read (drop i s) k 0 (omega (arith, left))).1)

-- k bytes that are stored, where each of them is
module _ (d : Decoder) (t : ℕ → DecodeState) (m s : List ℕ) (i n : ℕ) (raw : d.raw_msg_len ≤ 4294967295) (room : i + n ≤ length s)
    (one : (k : ℕ) (w : List ℕ) → k < n → length w ≡ length m
    → pushes_from (i + (k + 1)) (moved_by d (k + 1) (k + 1) (t (k + 1))) (set w (d.fill + k) (get_or s (i + k) 0)) (drop (i + (k + 1)) s)
    ≡ pushes_from (i + k) (moved_by d k k (t k)) w (drop (i + k) s)) where
  pub stored_run : (k : ℕ) → k ≤ n → Goes (moved_by d k k (t k)) (i + k) (sets m d.fill (take k (drop i s))) i (in_state d (t 0)) m s
  stored_run zero h = first_goes d (t 0) m s i raw
  stored_run (suc k) h =
      let before : List ℕ = sets m d.fill (take k (drop i s)) in
      rw (← add-one k, ← sets_take m s d.fill i k (omega (arith, h, room))) (one k before (omega (arith, h)) (length-sets m d.fill (take k (drop i s))) ∙ stored_run k (omega (arith, h)))

-- and the code's words for where it stops
pub stored_there : (d d' : Decoder) (t t' : DecodeState) (m s part : List ℕ) (i k to : ℕ) → to ≡ i + k → d' ≡ moved_by d k k t → part ≡ take k (drop i s) → d.fill + k ≤ length m → i + k ≤ length s
    → Goes (moved_by d k k t) (i + k) (sets m d.fill (take k (drop i s))) i (in_state d t') m s
    → Goes d' to (put_mid d.fill (d.fill + k - d.fill) m part) i (in_state d t') m s
stored_there d d' t t' m s part i k to at e copied fit inside goes =
    let size : length part ≡ k = ap length copied ∙ length-take-le k (drop i s) (omega (arith, length-drop i s, inside)) in
    rw (at, e, put_sets m d.fill k part fit size, copied) goes

pub plain_run : (d : Decoder) (m s : List ℕ) (i k : ℕ) → unknown_way d.way ≡ false → d.crc_idx ≤ d.fill → 8 ≤ d.raw_msg_len → d.raw_msg_len ≤ 4294967295 → length m ≡ d.capacity → d.capacity ≤ 1048576
    → d.fill + k ≤ length m → i + k ≤ length s → Plain s i (i + k)
    → Goes (moved_by d k k ParsingNormal) (i + k) (sets m d.fill (take k (drop i s))) i (in_state d ParsingNormal) m s
plain_run d m s i k w ix raw big l small h hs p =
    stored_run d (λ n. ParsingNormal) m s i k big hs
    (λ j v lt e. plain_next d v s i j w ix raw (e ∙ l) small (omega (arith, e, lt, h)) (omega (arith, lt, hs)) (p (i + j) (omega arith) (omega (arith, lt))))
    k (omega arith)

pub judged_run : (d : Decoder) (n : ℕ) (m s : List ℕ) (i k : ℕ) → unknown_way d.way ≡ false → d.crc_idx + n ≤ d.fill → 8 ≤ d.raw_msg_len → d.raw_msg_len ≤ 4294967295 → length m ≡ d.capacity → d.capacity ≤ 1048576
    → d.fill + k ≤ length m → i + k ≤ length s → n + k ≤ 3
    → Goes (moved_by d k k (ParsingEscPayload (n + k))) (i + k) (sets m d.fill (take k (drop i s))) i (in_state d (ParsingEscPayload n)) m s
judged_run d n m s i k w ix raw big l small h hs h3 =
    let goes = stored_run d (λ j. ParsingEscPayload (n + j)) m s i k big hs
    (λ j v lt e. judged_next d n v s i j w ix raw (e ∙ l) small (omega (arith, e, lt, h)) (omega (arith, lt, hs)) (omega (arith, lt, h3)))
    k (omega arith) in
    rw (add-zero n) at goes

pub wait_run : (d : Decoder) (n : ℕ) (m s : List ℕ) (i : ℕ) → unknown_way d.way ≡ false → d.crc_idx ≤ d.fill → d.fill ≤ d.capacity → 8 ≤ d.raw_msg_len → d.raw_msg_len ≤ 4294967295 → length m ≡ d.capacity → d.capacity ≤ 1048576
    → 1 ≤ n → (k : ℕ) → n + k ≤ 3 → i + k ≤ length s → Escapes s i (i + k)
    → Goes (moved_by d 0 k (ParsingEscChars (n + k))) (i + k) m i (in_state d (ParsingEscChars n)) m s
wait_run d n m s i w ix f raw big l small h1 zero h3 hs p =
    let e : n + 0 ≡ n = omega arith in
    rw e (first_goes d (ParsingEscChars n) m s i big)
wait_run d n m s i w ix f raw big l small h1 (suc k) h3 hs p =
    let q : n + k + 1 ≡ n + (k + 1) = omega arith in
    rw (← add-one k, ← q)
    (wait_next d (n + k) m s i k w ix f raw l small (omega (arith, hs)) (omega (arith, h1)) (omega (arith, h3)) (p (i + k) (omega arith) (omega arith)) (λ e. omega (arith, e, h3))
    ∙ wait_run d n m s i w ix f raw big l small h1 k (omega (arith, h3)) (omega (arith, hs)) (λ y a b. p y a (omega (arith, b))))

pub same_state : (d : Decoder) (s : DecodeState) → d.state ≡ s → in_state d s ≡ d
same_state d s e = ap (in_state d) (sym e)

pub at_state : (d : Decoder) (t : DecodeState) (m s : List ℕ) (i : ℕ) {x : Took} → d.state ≡ t → x ≡ pushes_from i (in_state d t) m (drop i s) → x ≡ pushes_from i d m (drop i s)
at_state d t m s i e h = h ∙ ap (λ (g : Decoder). pushes_from i g m (drop i s)) (same_state d t e)

-- behind a payload the next byte begins a fresh search
fresh_push : (d : Decoder) (m : List ℕ) (b : ℕ) → d.state ≡ Done → bad_decoder d ≡ false → wrong_buffer d.capacity (length m) ≡ false
    → push_record (new_record (setup d)) m b ≡ push_record d m b
unfolding step_cut
fresh_push d m b s e w =
    sym (tied (new_record (setup d)) m b (new_fit (setup d) m (sane_way d e) (right_buffer _ _ w).0 (omega (arith, right_buffer d.capacity (length m) w))))
    ∙ push_step d m b Done _ e w s refl

pub fresh_goes : (d : Decoder) (m s : List ℕ) (i : ℕ) → d.state ≡ Done → bad_decoder d ≡ false → wrong_buffer d.capacity (length m) ≡ false → i < length s
    → pushes_from i (new_record (setup d)) m (drop i s) ≡ pushes_from i d m (drop i s)
unfolding pushes_from
fresh_goes d m s i e g w h = rw (from_place s i h, fresh_push d m (get_or s i 0) e g w)

-- reset makes that search
pub reset_fresh : (r : AfterReset) (d : Decoder) → after_reset r ≡ reset_record d → r.decoder ≡ new_record (setup d)
unfolding reset_record
reset_fresh r d h = ap (λ (x : Left). x.decoder) h

pub right_capacity : (C n : ℕ) → wrong_buffer C n ≡ false → C ≤ 1048576
right_capacity C n e = omega (arith, right_buffer C n e)

-- a record inside a frame, with its buffer
pub frames_at : (d : Decoder) (m : List ℕ) → bad_decoder d ≡ false → wrong_buffer d.capacity (length m) ≡ false → (k : ℕ) → 8 ≤ d.raw_msg_len → d.crc_idx + k ≤ d.fill → FrameWithBuffer d k (length m)
frames_at d m bad wrong k raw seen =
    let l = (right_buffer d.capacity (length m) wrong).0 in
    (sane_way d bad, l, right_capacity d.capacity (length m) wrong, seen, omega (arith, l, (sane d bad).0), raw)
