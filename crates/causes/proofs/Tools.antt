-- The next loss, as it is defined, is a good tool's answer, and every good tool answers so.
use mathlib.Core.Path.{◌≡◌, refl, ap, sym, ◌∙◌, subst}
use mathlib.Core.Bool.{Bool, true, false, cond, ◌&&◌}
use mathlib.Core.List.{List, [], ◌∷◌, ◌++◌, map}
use Prim.Native.Nat.{ℕ, zero, suc, ◌+◌, ◌-◌, ◌≤◌, ◌<◌}
use native.Mathlib.Omega.{arith}
use lib.ListN.{length, take, drop, length-append, length-take}
use borrow.Author.Tests.{le-ltb, lt-ltb}
use Rattle.refusals.specs.Numbers.{limit}
use Rattle.frame.proofs.Cases.{by_le, either}
use Rattle.decoder.specs.Push.{first_way, second_way, in_way, State, PushEvent, fresh, step}
use Rattle.decoder.specs.Record.{DecoderAnswer, nothing, payload, count, refusal, After, after, numbered, setup, state_of, new_record, push_record, finalize_record}
use Rattle.decoder.specs.Run.{KnownWay, is_first, is_second, Op, push, act, behind}
use Rattle.decoder.specs.declared.Decoder.{Decoder}
use Rattle.decoder.specs.declared.Setup.{Setup}
use Rattle.decoder.proofs.Search.{known_is, unknown_is}
use Rattle.decoder.proofs.States.{act_state, answer_state}
use Rattle.decoder.proofs.Faithful.{Fit}
use Rattle.decoder.proofs.Runs.{Acts, acts, new_fit}
use Rattle.since.specs.Bytes.{grown_since}
use Rattle.since.specs.Since.{AllBytes, frame_head}
use Rattle.since.specs.Exactly.{ReadExactly, SaysExactly, goes_on_exactly, start_found_exactly, start_inside_exactly, no_room_exactly, no_escape_exactly, no_message_exactly, frame_ends_exactly}
use Rattle.since.proofs.KeptExactly.{kept_exactly, reads_fresh_exactly}
use Rattle.losses.specs.Loss.{begins_in_start, has_start, cause_of, piece_of, loss_at, LossSaid, lost_is, none_lost, loss_refused, LossAfter, loss_after, is_refusal, hands_out, next_behind, next_loss}
use Rattle.losses.specs.declared.Loss.{Loss}
use Rattle.causes.specs.Tools.{Tool, Accounts, AccountsExactly, ends_at_start, pushed_for, buffer_behind, GoodTool}
use Rattle.causes.proofs.Next.{next_in_state, next_over}
use Rattle.causes.proofs.Accounts.{accounts_new}
use Rattle.causes.proofs.Only.{accounts_one}

-- ---- the checks

abbrev new_next : List ℕ → ℕ → List ℕ → ℕ → LossAfter
new_next recording way m from = next_behind (new_record (in_way way (length m))) m from [] (drop from recording)

module _ (recording : List ℕ) (way : ℕ) (m : List ℕ) (from : ℕ) where
  loss_way : (KnownWay way → ⊥) → next_loss recording way m from ≡ loss_after (loss_refused 4) m
  unfolding next_loss
  loss_way n = rw (unknown_is way n)

  loss_large : KnownWay way → limit < length m → next_loss recording way m from ≡ loss_after (loss_refused 5) m
  unfolding next_loss
  loss_large k lt = rw (known_is way k, lt-ltb limit (length m) lt)

  pub loss_new : KnownWay way → length m ≤ limit → next_loss recording way m from ≡ new_next recording way m from
  unfolding next_loss
  loss_new k le = rw (known_is way k, le-ltb limit (length m) le)

  pub loss_said : KnownWay way → length m ≤ limit → (next_loss recording way m from).said ≡ next_in_state (in_way way (length m)) fresh from [] (drop from recording)
  loss_said k le = ap (λ (a : LossAfter). a.said) (loss_new k le) ∙ next_over (drop from recording) (new_record (in_way way (length m))) m from [] (new_fit (in_way way (length m)) m (known_is way k) refl le)

bytes_drop : (n : ℕ) (l : List ℕ) → AllBytes l → AllBytes (drop n l)
bytes_drop zero l b = b
bytes_drop (suc n) [] b = tt
bytes_drop (suc n) (x ∷ l) b = bytes_drop n l b.1

-- ---- the buffer

-- the answer before them does not matter
behind_again : (a b : After) (os : List Op) → a.decoder ≡ b.decoder → a.memory ≡ b.memory → (behind a os).memory ≡ (behind b os).memory
unfolding behind
behind_again a b [] d m = m
behind_again a b (o ∷ os) d m = ap (λ (x : After). (behind x os).memory) (λ i. act (d i) (m i) o)

-- so many of the bytes were pushed for what was said, and the buffer is what they leave; n were pushed before
record Leaves (n from many : ℕ) (d : Decoder) (m bytes : List ℕ) (a : LossAfter) : Type 0 where
  more : ℕ
  counted : pushed_for many from a.said ≡ n + more
  left : a.memory ≡ (behind (after nothing d m) (map push (take more bytes))).memory

push_first : (d : Decoder) (m bytes : List ℕ) (b k : ℕ) → (behind (after nothing d m) (map push (take (suc k) (b ∷ bytes)))).memory ≡ (behind (after nothing (push_record d m b).decoder (push_record d m b).memory) (map push (take k bytes))).memory
unfolding behind act
push_first d m bytes b k = behind_again (push_record d m b) (after nothing (push_record d m b).decoder (push_record d m b).memory) (map push (take k bytes)) refl refl

from_step : (d : Decoder) (m : List ℕ) (begun : ℕ) (h : List ℕ) (b : ℕ) (bytes : List ℕ) (A : DecoderAnswer) → (push_record d m b).answer ≡ A
    → let d' : Decoder = (push_record d m b).decoder in
    let m' : List ℕ = (push_record d m b).memory in
    let g : List ℕ = h ++ b ∷ [] in
    next_behind d m begun h (b ∷ bytes) ≡ cond (is_refusal A) (loss_after (lost_is (loss_at false A begun h (piece_of A g))) m') (cond (hands_out A) (next_behind d' m' (begun + length g) [] bytes) (next_behind d' m' begun g bytes))
unfolding next_behind
from_step d m begun h b bytes A e =
    let d' : Decoder = (push_record d m b).decoder in
    let m' : List ℕ = (push_record d m b).memory in
    let g : List ℕ = h ++ b ∷ [] in
    ap (λ (A : DecoderAnswer). cond (is_refusal A) (loss_after (lost_is (loss_at false A begun h (piece_of A g))) m') (cond (hands_out A) (next_behind d' m' (begun + length g) [] bytes) (next_behind d' m' begun g bytes))) e

pub dropped_ends : (running hides : Bool) (long : ℕ) (v : List ℕ) → ends_at_start (cause_of false running hides long (refusal 6 v)) ≡ true
unfolding cause_of
dropped_ends true hides long v = refl
dropped_ends false true long v = refl
dropped_ends false false long v = refl

-- how many bytes are counted for a loss
module _ (many from : ℕ) (l : Loss) where
  counted_start : ends_at_start l.cause ≡ true → l.last - from < many → pushed_for many from (lost_is l) ≡ l.last - from + 8
  counted_start e lt = rw (e, lt-ltb (l.last - from) many lt)

  counted_alone : ends_at_start l.cause ≡ false → pushed_for many from (lost_is l) ≡ l.last - from
  counted_alone e = rw e (omega arith)

  counted_last : many ≤ l.last - from → pushed_for many from (lost_is l) ≡ l.last - from
  counted_last le = rw (le-ltb (l.last - from) many le, and_false (ends_at_start l.cause)) (omega arith)
    where
      and_false : (t : Bool) → t && false ≡ false
      and_false true = refl
      and_false false = refl

abbrev LeavesFrom : ℕ → ℕ → List ℕ → Type 0
LeavesFrom from many bytes = (n : ℕ) (d : Decoder) (m : List ℕ) (begun : ℕ) (h : List ℕ) → Fit d m → ReadExactly (setup d) h (state_of d m) → begun + length h ≡ from + n → from ≤ begun → many ≡ n + length bytes
    → Leaves n from many d m bytes (next_behind d m begun h bytes)

module _ (from many : ℕ) (bytes : List ℕ) (ih : LeavesFrom from many bytes) (n : ℕ) (d : Decoder) (m : List ℕ) (begun : ℕ) (h : List ℕ) (b : ℕ) (fit : Fit d m)
    (place : begun + length h ≡ from + n) (le : from ≤ begun) (all : many ≡ suc n + length bytes) where
  abbrev d' : Decoder
  d' = (push_record d m b).decoder

  abbrev m' : List ℕ
  m' = (push_record d m b).memory

  abbrev g : List ℕ
  g = h ++ b ∷ []

  long_g : length g ≡ suc (length h)
  long_g = simp length-append (omega arith)

  acted : Acts d m (push b) (act d m (push b))
  acted = acts d m (push b) fit

  -- a refusal that is no 6
  leaves_alone : (k : ℕ) (v : List ℕ) → (push_record d m b).answer ≡ refusal k v → piece_of (refusal k v) g ≡ g → ends_at_start (cause_of false (begins_in_start h) (has_start g) (length g) (refusal k v)) ≡ false
      → Leaves n from many d m (b ∷ bytes) (next_behind d m begun h (b ∷ bytes))
  unfolding behind act
  leaves_alone k v e piece alone =
      let l : Loss = loss_at false (refusal k v) begun h g in
      rw (from_step d m begun h b bytes (refusal k v) e, piece)
      (record { more = 1; counted = counted_alone many from l alone ∙ omega (arith, long_g, place, le); left = refl })

  -- a 6, whose piece is all but the last eight bytes
  leaves_start : (v : List ℕ) → (push_record d m b).answer ≡ refusal 6 v → 8 ≤ length g → Leaves n from many d m (b ∷ bytes) (next_behind d m begun h (b ∷ bytes))
  unfolding behind act
  leaves_start v e ge =
      let w : List ℕ = take (length g - 8) g in
      let l : Loss = loss_at false (refusal 6 v) begun h w in
      let size : length w ≡ length g - 8 = length-take (length g - 8) g ∙ omega arith in
      rw (from_step d m begun h b bytes (refusal 6 v) e)
      (record { more = 1; counted = counted_start many from l (dropped_ends (begins_in_start h) (has_start w) (length w) v) (omega (arith, size, long_g, place, le, all)) ∙ omega (arith, size, long_g, place, le, ge); left = refl })

  -- no refusal
  leaves_on : (A : DecoderAnswer) → (push_record d m b).answer ≡ A → (begun' : ℕ) (h' : List ℕ)
      → cond (is_refusal A) (loss_after (lost_is (loss_at false A begun h (piece_of A g))) m') (cond (hands_out A) (next_behind d' m' (begun + length g) [] bytes) (next_behind d' m' begun g bytes)) ≡ next_behind d' m' begun' h' bytes
      → ReadExactly (setup d) h' (step (setup d) (state_of d m) b).state → begun' + length h' ≡ from + suc n → from ≤ begun' → Leaves n from many d m (b ∷ bytes) (next_behind d m begun h (b ∷ bytes))
  unfolding act_state act
  leaves_on A e begun' h' is reads place' le' =
      let r : ReadExactly (setup d') h' (state_of d' m') = rw (acted.setup', acted.view') reads in
      let k = ih (suc n) d' m' begun' h' acted.fit r place' le' all in
      rw (from_step d m begun h b bytes A e ∙ is)
      (record { more = suc k.more; counted = k.counted ∙ omega arith; left = k.left ∙ sym (push_first d m bytes b k.more) })

  leaves_event : (e : PushEvent) → (push_record d m b).answer ≡ numbered e → ReadExactly (setup d) (grown_since (numbered e) h b) (step (setup d) (state_of d m) b).state → SaysExactly (setup d) g e
      → Leaves n from many d m (b ∷ bytes) (next_behind d m begun h (b ∷ bytes))
  unfolding cause_of frame_head
  leaves_event e is r goes_on_exactly = leaves_on (numbered e) is begun g refl r (omega (arith, long_g, place)) le
  leaves_event e is r (start_found_exactly k x found misses none some c) = leaves_start (k ∷ []) is (let l : length g ≡ length x + 8 = ap length found ∙ simp length-append in omega arith)
  leaves_event e is r (start_inside_exactly k D found clean fits c) = leaves_start (k ∷ []) is (let l : length g ≡ length (frame_head D) + 8 = ap length found ∙ simp length-append in omega arith)
  leaves_event e is r (no_room_exactly f) = leaves_alone 3 [] is refl refl
  leaves_event e is r (no_escape_exactly {a = w} {b = x} {c = y} {d = z} f) = leaves_alone 7 (w ∷ x ∷ y ∷ z ∷ []) is refl refl
  leaves_event e is r (no_message_exactly D f sum aligned wrong) = leaves_alone 8 _ is refl refl
  leaves_event e is r (frame_ends_exactly P f) = leaves_on (numbered e) is (begun + length g) [] refl r (omega (arith, long_g, place)) (omega (arith, le))

leaves_from : (from many : ℕ) (bytes : List ℕ) → LeavesFrom from many bytes
unfolding behind next_behind act_state answer_state act
leaves_from from many [] n d m begun h fit reads place le all = by_final (finalize_record d).answer
  where
    by_final : (A : DecoderAnswer) → Leaves n from many d m [] (loss_after (cond (is_refusal A) (lost_is (loss_at true A begun h h)) none_lost) m)
    by_final nothing = record { more = 0; counted = omega (arith, all); left = refl }
    by_final (payload P) = record { more = 0; counted = omega (arith, all); left = refl }
    by_final (count k) = record { more = 0; counted = omega (arith, all); left = refl }
    by_final (refusal k v) = record { more = 0; counted = counted_last many from (loss_at true (refusal k v) begun h h) (omega (arith, place, all)) ∙ omega (arith, place); left = refl }
leaves_from from many (b ∷ bytes) n d m begun h fit reads place le all =
    let s : State = state_of d m in
    let o = kept_exactly (setup d) h s b reads in
    leaves_event from many bytes (leaves_from from many bytes) n d m begun h b fit place le (all ∙ omega arith) (step (setup d) s b).event (acts d m (push b) fit).answer o.reads o.told

-- ---- ours

pub our_tool : GoodTool next_loss
our_tool = record {
  way_first = loss_way;
  too_large_claim = loss_large;
  accounts = λ recording way m from fine known le.
      subst (Accounts way (length m) (drop from recording) from) (sym (loss_said recording way m from known le)) (accounts_new (in_way way (length m)) known (drop from recording) from (bytes_drop from recording fine));
  pushes = λ recording way m from fine known le.
      let C : Setup = in_way way (length m) in
      let bytes : List ℕ = drop from recording in
      let k = leaves_from from (length bytes) bytes 0 (new_record C) m from [] (new_fit C m (known_is way known) refl le) (reads_fresh_exactly C) (omega arith) (omega arith) (omega arith) in
      let e : pushed_for (length bytes) from (new_next recording way m from).said ≡ k.more = k.counted ∙ omega arith in
      rw (loss_new recording way m from known le, e) k.left;
}

-- what is said is determined by the account alone
pub only_said : (T : Tool) → AccountsExactly T → (recording : List ℕ) (way : ℕ) (m : List ℕ) (from : ℕ) → AllBytes recording → KnownWay way → length m ≤ limit
    → (T recording way m from).said ≡ (next_loss recording way m from).said
only_said T good recording way m from fine known le =
    sym (accounts_one (in_way way (length m)) known (drop from recording) from (bytes_drop from recording fine) (T recording way m from).said (good recording way m from fine known le)) ∙ sym (loss_said recording way m from known le)

-- and the only one, for recordings of bytes
module _ (T : Tool) (good : GoodTool T) (recording : List ℕ) (way : ℕ) (m : List ℕ) (from : ℕ) (fine : AllBytes recording) where
  only_known : KnownWay way → length m ≤ limit → T recording way m from ≡ next_loss recording way m from
  only_known known le =
      let bytes : List ℕ = drop from recording in
      let said' : (T recording way m from).said ≡ (next_loss recording way m from).said = only_said T good.accounts recording way m from fine known le in
      let left' : (T recording way m from).memory ≡ (next_loss recording way m from).memory =
      good.pushes recording way m from fine known le ∙ ap (λ (s : LossSaid). buffer_behind way m (take (pushed_for (length bytes) from s) bytes)) said' ∙ sym (our_tool.pushes recording way m from fine known le) in
      (λ i. loss_after (said' i) (left' i))

  only_checked : KnownWay way → T recording way m from ≡ next_loss recording way m from
  only_checked known =
      by_le {A = ℕ} (λ v. T recording way m from ≡ next_loss recording way m from) (length m) limit 0 0 (only_known known)
      (λ lt. good.too_large_claim recording way m from known lt ∙ sym (loss_large recording way m from known lt))

  pub only_our_tool : T recording way m from ≡ next_loss recording way m from
  only_our_tool =
      either way first_way (λ e. only_checked (is_first e)) (λ not1. either way second_way (λ e. only_checked (is_second e)) (λ not2.
      let none : KnownWay way → ⊥ = λ k. elim k [ is_first e ↦ not1 e | is_second e ↦ not2 e ] in
      good.way_first recording way m from none ∙ sym (loss_way recording way m from none)))
