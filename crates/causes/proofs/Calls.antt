-- Calls from the first byte on tell the losses of the one run, one for each refusal, leave its buffer, and with the frames between the pieces are the recording.
use mathlib.Core.Path.{◌≡◌, refl, ap, sym, ◌∙◌, subst}
use mathlib.Core.Bool.{Bool, true, false, cond}
use mathlib.Core.List.{List, [], ◌∷◌, ◌++◌, append_assoc, map}
use Prim.Native.Nat.{ℕ, zero, suc, ◌+◌, ◌-◌, ◌≤◌, ◌<◌}
use native.Mathlib.Omega.{arith}
use lib.ListN.{length, take, drop, replicate, length-append, length-take}
use lib.Seq.{drop-drop, drop-append_seam}
use Rattle.refusals.specs.Numbers.{limit}
use Rattle.frame.specs.Frame.{start_seq, esc_seq}
use Rattle.frame.proofs.Cases.{by_le, either}
use Rattle.search.specs.Found.{HasStart}
use Rattle.decoder.specs.Push.{first_way, second_way, in_way, State, discarded, Out, fresh, step, finalized}
use Rattle.decoder.specs.Record.{DecoderAnswer, nothing, payload, count, refusal, numbered, After, after, setup, state_of, new_record, written, wrote, pushed, push_record}
use Rattle.decoder.specs.Run.{is_first, is_second, KnownWay, push, finalize, act, behind}
use Rattle.decoder.specs.declared.Decoder.{Decoder}
use Rattle.decoder.specs.declared.Setup.{Setup}
use Rattle.decoder.proofs.Search.{known_is}
use Rattle.decoder.proofs.Saw.{saw}
use Rattle.decoder.proofs.States.{run_state, state_behind, act_state, answer_state}
use Rattle.decoder.proofs.Faithful.{Fit, fit_length, fill_view, push_good, push_is_step}
use Rattle.decoder.proofs.Runs.{acts, leads, new_fit, run_new}
use Rattle.since.specs.Bytes.{grown_since}
use Rattle.since.specs.Since.{frame_head, AllBytes}
use Rattle.since.specs.Exactly.{ReadExactly, SaysExactly, none_for_data, none_behind_escape}
use Rattle.since.proofs.KeptExactly.{kept_exactly, reads_fresh_exactly}
use Rattle.losses.specs.Loss.{piece_of, loss_at, LossSaid, lost_is, none_lost, loss_refused, LossAfter, loss_after, is_refusal, hands_out, next_behind, next_loss}
use Rattle.losses.specs.declared.Loss.{Loss}
use Rattle.causes.specs.Causes.{Reason, is_noise, is_unfinished, is_hidden, is_cut, is_escape, is_room_claim, is_crc, is_misaligned, is_pads, TrueOf, open_in_data, open_behind_escape}
use Rattle.causes.specs.Tools.{Tool, Accounts, LostNext, pushed_for, buffer_behind, AlwaysByLength, AlwaysWithin}
use Rattle.causes.specs.Calls.{Calls, calls_over, calls_again, Place, place_of_loss, places_from, final_answer, TellsEvery, AlwaysTellsAll}
use Rattle.causes.proofs.Next.{next_in_state}
use Rattle.causes.proofs.Tools.{loss_new, loss_said, our_tool, only_our_tool}
use Rattle.causes.proofs.Seen.{seen_in, end_in, seen_losses}
use Rattle.causes.proofs.Parts.{parted_new}
use Rattle.causes.proofs.Counted.{counts_from}
use Rattle.causes.proofs.Links.{LeftBy, quiet_left, paid_left, start_left, gone_left, left_saw, ends_start, losses_in, wrote_to, memory_of, next_memory, LinkedTo, linked_from}

-- ---- a piece for each refusal of the run

abbrev Places : Setup → State → ℕ → List ℕ → List ℕ → Type 0
Places C s at h bytes =
    places_from at (at + length h) (run_state C s (map push bytes)) (numbered (finalized (state_behind C s (map push bytes)))) ≡ map place_of_loss (losses_in C s at h bytes)

final_places : (at n : ℕ) (h : List ℕ) (a : DecoderAnswer) → n ≡ at + length h → places_from at n [] a ≡ map place_of_loss (cond (is_refusal a) (loss_at true a at h h ∷ []) [])
unfolding places_from
final_places at n h nothing e = refl
final_places at n h (payload P) e = refl
final_places at n h (count k) e = refl
final_places at n h (refusal k v) e = rw e

module _ (C : Setup) (bytes : List ℕ) (ih : (s : State) (at : ℕ) (h : List ℕ) → ReadExactly C h s → Places C s at h bytes) (at : ℕ) (h : List ℕ) (b : ℕ) where
  abbrev g : List ℕ
  g = h ++ b ∷ []

  abbrev answered : Out → List Place
  answered o = places_from at (at + length h) (numbered o.event ∷ run_state C o.state (map push bytes)) (numbered (finalized (state_behind C o.state (map push bytes))))

  abbrev losses_by : Out → List Loss
  losses_by o =
      let a : DecoderAnswer = numbered o.event in
      cond (is_refusal a) (loss_at false a at h (piece_of a g) ∷ losses_in C o.state (at + length (piece_of a g)) (grown_since a h b) bytes)
      (cond (hands_out a) (losses_in C o.state (at + length g) [] bytes) (losses_in C o.state at g bytes))

  grew : suc (at + length h) ≡ at + length g
  grew = simp length-append (omega arith)

  -- a piece of so many bytes, behind which h' has begun
  places_lost : (t : State) (l : Loss) (last n : ℕ) (h' : List ℕ) → ReadExactly C h' t → l.first ≡ suc at → l.last ≡ last → n ≡ last + length h'
      → ◌≡◌ {A = List Place} (record { first = suc at; last = last } ∷ places_from last n (run_state C t (map push bytes)) (numbered (finalized (state_behind C t (map push bytes)))))
      (map place_of_loss (l ∷ losses_in C t last h' bytes))
  places_lost t l last n h' r first' last' place =
      let behind' = ap (λ (k : ℕ). places_from last k (run_state C t (map push bytes)) (numbered (finalized (state_behind C t (map push bytes))))) place ∙ ih t last h' r in
      (λ i. record { first = sym first' i; last = sym last' i } ∷ behind' i)

  places_event : (o : Out) → LeftBy o → ReadExactly C (grown_since (numbered o.event) h b) o.state → SaysExactly C g o.event → answered o ≡ map place_of_loss (losses_by o)
  unfolding places_from
  places_event o (quiet_left t) r said' =
      ap (λ (k : ℕ). places_from at k (run_state C t (map push bytes)) (numbered (finalized (state_behind C t (map push bytes))))) grew ∙ ih t at g r
  places_event o (paid_left P) r said' =
      let here : (at + length g) + 0 ≡ suc (at + length h) = omega (arith, grew) in
      ap (λ (k : ℕ). places_from k k (run_state C o.state (map push bytes)) (numbered (finalized (state_behind C o.state (map push bytes))))) (sym (let q : at + length g ≡ suc (at + length h) = sym grew in q))
      ∙ ap (λ (k : ℕ). places_from (at + length g) k (run_state C o.state (map push bytes)) (numbered (finalized (state_behind C o.state (map push bytes))))) (let q : at + length g ≡ (at + length g) + 0 = omega arith in q)
      ∙ ih o.state (at + length g) [] r
  places_event o (start_left k) r said' =
      let w = ends_start C g k (discarded k) refl said' in
      let long : length g ≡ length w.0 + 8 = ap length w.1 ∙ simp length-append in
      let size : length (take (length g - 8) g) ≡ length g - 8 = length-take (length g - 8) g ∙ omega arith in
      let last : suc (at + length h) - 8 ≡ at + length (take (length g - 8) g) = omega (arith, size, long, grew) in
      rw last (places_lost o.state (loss_at false (refusal 6 (k ∷ [])) at h (take (length g - 8) g)) (at + length (take (length g - 8) g)) (suc (at + length h)) start_seq r refl refl (omega (arith, size, long, grew)))
  places_event o (gone_left e k v q ne of) r said' =
      let r' : ReadExactly C [] fresh = reads_fresh_exactly C in
      rw (q, ne, grew) (places_lost fresh (loss_at false (refusal k v) at h g) (at + length g) (at + length g) [] r' refl refl (omega arith))

places_is : (C : Setup) (bytes : List ℕ) (s : State) (at : ℕ) (h : List ℕ) → ReadExactly C h s → Places C s at h bytes
unfolding run_state state_behind act_state answer_state losses_in
places_is C [] s at h r = final_places at (at + length h) h (numbered (finalized s)) refl
places_is C (b ∷ bytes) s at h r =
    let o = kept_exactly C h s b r in
    places_event C bytes (places_is C bytes) at h b (step C s b) (left_saw C s b (step C s b) (saw C s b)) o.reads o.told

-- ---- over the record

memory_of_lem : (d : Decoder) (m : List ℕ) (b : ℕ) → Fit d m → (push_record d m b).memory ≡ wrote_to (setup d) (state_of d m) m b
unfolding pushed
memory_of_lem d m b f =
    ap (λ (a : After). a.memory) (push_good d m b f) ∙ ap (λ (n : ℕ). written m n (wrote (setup d) (state_of d m) b)) (fill_view d m f.state (fit_length d m f))

memory_is : (bytes : List ℕ) (a : After) → Fit a.decoder a.memory → (behind a (map push bytes)).memory ≡ memory_of (setup a.decoder) (state_of a.decoder a.memory) a.memory bytes
unfolding behind act memory_of
memory_is [] a f = refl
memory_is (b ∷ bytes) a f =
    let s = push_is_step a.decoder a.memory b f in
    memory_is bytes (push_record a.decoder a.memory b) s.fit ∙ rw (s.setup', s.view', memory_of_lem a.decoder a.memory b f)

next_memory_lem : (bytes : List ℕ) (d : Decoder) (m : List ℕ) (at : ℕ) (h : List ℕ) → Fit d m → (next_behind d m at h bytes).memory ≡ next_memory (setup d) (state_of d m) m bytes
unfolding next_behind next_memory
next_memory_lem [] d m at h f = refl
next_memory_lem (b ∷ bytes) d m at h f =
    let s = push_is_step d m b f in
    let d' : Decoder = (push_record d m b).decoder in
    let m' : List ℕ = (push_record d m b).memory in
    let g : List ℕ = h ++ b ∷ [] in
    let on : (n : ℕ) (k : List ℕ) → (next_behind d' m' n k bytes).memory ≡ next_memory (setup d) (step (setup d) (state_of d m) b).state (wrote_to (setup d) (state_of d m) m b) bytes =
    λ n k. next_memory_lem bytes d' m' n k s.fit ∙ rw (s.setup', s.view', memory_of_lem d m b f) in
    let A : DecoderAnswer = (push_record d m b).answer in
    memory_cond (is_refusal A) _ _
    ∙ ap (λ (x : List ℕ). cond (is_refusal A) m' x) (memory_cond (hands_out A) _ _ ∙ both (hands_out A) (on (at + length g) []) (on at g))
    ∙ (λ i. cond (is_refusal (s.answer i)) (memory_of_lem d m b f i) (next_memory (setup d) (step (setup d) (state_of d m) b).state (wrote_to (setup d) (state_of d m) m b) bytes))
  where
    memory_cond : (t : Bool) (x y : LossAfter) → (cond t x y).memory ≡ cond t x.memory y.memory
    memory_cond true x y = refl
    memory_cond false x y = refl

    both : (t : Bool) {x y z : List ℕ} → x ≡ z → y ≡ z → cond t x y ≡ z
    both true p q = p
    both false p q = q

-- ---- no piece is empty

head_one : (D z : List ℕ) → 1 ≤ length (frame_head D ++ z)
unfolding frame_head
head_one D z = simp length-append (omega arith)

behind_one : (D l : List ℕ) → 1 ≤ length (frame_head D ++ esc_seq ++ l)
behind_one D l = subst (λ (x : List ℕ). 1 ≤ length x) (sym (append_assoc (frame_head D) esc_seq l)) (head_one D (esc_seq ++ l))

alone_one : (D : List ℕ) → 1 ≤ length (frame_head D)
unfolding frame_head
alone_one D = omega arith

piece_some : (way C : ℕ) (w rest : List ℕ) (r : Reason) → TrueOf way C w rest r → 1 ≤ length w
piece_some way C w rest is_noise t = t.0
piece_some way C w rest is_hidden t = let h : HasStart w = t.1 in let n : length w ≡ length h.before + (8 + length h.behind) = ap length h.is ∙ simp length-append (omega arith) in omega arith
piece_some way C w rest is_cut t = rw t.is (alone_one t.D)
piece_some way C w rest is_unfinished (e, open_in_data E r is clean few fits) = rw is (head_one E (replicate r 0x1b))
piece_some way C w rest is_unfinished (e, open_behind_escape D l is o few fits) = rw is (behind_one D l)
piece_some way C w rest is_escape (four, t) = rw t.is (behind_one t.D four)
piece_some way C w rest is_room_claim (none_for_data E r b is clean few ne fits over) = rw is (alone_one (E ++ (replicate r 0x1b ++ b ∷ [])))
piece_some way C w rest is_room_claim (none_behind_escape D l is o some most fits) = rw is (behind_one D l)
piece_some way C w rest is_crc t = rw t.is.is (behind_one t.D _)
piece_some way C w rest is_misaligned t = rw t.is.is (behind_one t.D _)
piece_some way C w rest is_pads t = rw t.is.is (behind_one t.D _)

-- ---- one call behind another

long_behind : (way : ℕ) (m bytes : List ℕ) → KnownWay way → length m ≤ limit → length (buffer_behind way m bytes) ≡ length m
long_behind way m bytes known le =
    let C : Setup = in_way way (length m) in
    let r = leads (map push bytes) (after nothing (new_record C) m) (new_fit C m (known_is way known) refl le) in
    fit_length _ _ r.fit ∙ ap (λ (x : Setup). x.capacity) r.setup'

module _ (recording : List ℕ) (way : ℕ) (capacity : ℕ) (fine : AllBytes recording) (known : KnownWay way) (le : capacity ≤ limit) where
  abbrev C : Setup
  C = in_way way capacity

  record Told (at : ℕ) (m : List ℕ) : Type 0 where
    calls : Calls next_loss recording way at m (losses_in C fresh at [] (drop at recording)) (memory_of C fresh m (drop at recording))

  -- what one call says, with what is behind it
  record OneCall (at : ℕ) (m : List ℕ) (said : LossSaid) (m₁ : List ℕ) : Type 0 where
    is : next_loss recording way m at ≡ loss_after said m₁
    accounts : Accounts way capacity (drop at recording) at said
    linked : LinkedTo C at (drop at recording) m₁ said (losses_in C fresh at [] (drop at recording)) (memory_of C fresh m (drop at recording))

  one_call : (at : ℕ) (m : List ℕ) → length m ≡ capacity → OneCall at m (next_in_state C fresh at [] (drop at recording)) (next_memory C fresh m (drop at recording))
  one_call at m size =
      let bytes : List ℕ = drop at recording in
      let S : Setup = in_way way (length m) in
      let same' : S ≡ C = ap (in_way way) size in
      let fits : length m ≤ limit = omega (arith, size, le) in
      let fit : Fit (new_record S) m = new_fit S m (known_is way known) refl fits in
      let said' : (next_loss recording way m at).said ≡ next_in_state C fresh at [] bytes = loss_said recording way m at known fits ∙ ap (λ (x : Setup). next_in_state x fresh at [] bytes) same' in
      let left' : (next_loss recording way m at).memory ≡ next_memory C fresh m bytes =
      ap (λ (a : LossAfter). a.memory) (loss_new recording way m at known fits) ∙ next_memory_lem bytes (new_record S) m at [] fit ∙ ap (λ (x : Setup). next_memory x fresh m bytes) same' in
      record {
        is = (λ i. loss_after (said' i) (left' i));
        accounts = subst (λ (n : ℕ). Accounts way n bytes at (next_in_state C fresh at [] bytes)) size (subst (Accounts way (length m) bytes at) said' (our_tool.accounts recording way m at fine known fits));
        linked = linked_from C bytes fresh at [] m (reads_fresh_exactly C);
      }

  -- the buffer keeps its length
  long_memory : (at : ℕ) (m : List ℕ) → length m ≡ capacity → length (next_memory C fresh m (drop at recording)) ≡ capacity
  long_memory at m size =
      let fits : length m ≤ limit = omega (arith, size, le) in
      let k = one_call at m size in
      ap length (sym (ap (λ (a : LossAfter). a.memory) k.is) ∙ our_tool.pushes recording way m at fine known fits) ∙ long_behind way m (take (pushed_for (length (drop at recording)) at (next_loss recording way m at).said) (drop at recording)) known fits ∙ size

  -- where the next call begins
  behind_last : (at : ℕ) (l : Loss) → at ≤ l.last → drop (l.last - at) (drop at recording) ≡ drop l.last recording
  behind_last at l ge = drop-drop (l.last - at) at recording ∙ ap (λ (n : ℕ). drop n recording) (let q : at + (l.last - at) ≡ l.last = omega arith in q)

  rest_is : (at : ℕ) (l : Loss) (a : LostNext way capacity (drop at recording) at l) → at ≤ l.last → a.rest ≡ drop l.last recording
  rest_is at l a ge =
      let n : l.last - at ≡ length (a.frames ++ a.piece) = simp length-append (let q = a.last' in omega arith) in
      sym (drop-append_seam (a.frames ++ a.piece) a.rest) ∙ ap (λ (k : ℕ). drop k ((a.frames ++ a.piece) ++ a.rest)) (sym n)
      ∙ ap (drop (l.last - at)) (append_assoc a.frames a.piece a.rest ∙ sym a.is) ∙ behind_last at l ge

  shorter : (at : ℕ) (l : Loss) (a : LostNext way capacity (drop at recording) at l) → at ≤ l.last → length (drop l.last recording) < length (drop at recording)
  shorter at l a ge =
      let n : length (drop at recording) ≡ length a.frames + (length a.piece + length a.rest) = ap length a.is ∙ simp length-append in
      let r : length a.rest ≡ length (drop l.last recording) = ap length (rest_is at l a ge) in
      let some = piece_some way capacity a.piece a.rest a.reason (a.truly a.reason a.some) in
      omega arith

  told_by : (at : ℕ) (m : List ℕ) (said : LossSaid) (m₁ : List ℕ) → length m₁ ≡ capacity → OneCall at m said m₁
      → ((at' : ℕ) (m' : List ℕ) → length m' ≡ capacity → length (drop at' recording) < length (drop at recording) → Told at' m') → Told at m
  told_by at m none_lost m₁ size k more = record { calls = rw (k.linked.losses', k.linked.memory') (calls_over k.is) }
  told_by at m (lost_is l) m₁ size k more =
      let ge : at ≤ l.last = k.linked.later in
      let a : LostNext way capacity (drop at recording) at l = k.accounts in
      let next : Told l.last m₁ = more l.last m₁ size (shorter at l a ge) in
      let on = behind_last at l ge in
      let losses' : losses_in C fresh at [] (drop at recording) ≡ l ∷ losses_in C fresh l.last [] (drop l.last recording) = k.linked.losses' ∙ ap (λ (x : List ℕ). l ∷ losses_in C fresh l.last [] x) on in
      let memory' : memory_of C fresh m (drop at recording) ≡ memory_of C fresh m₁ (drop l.last recording) = k.linked.memory' ∙ ap (memory_of C fresh m₁) on in
      record {
        calls = rw (losses', memory') (calls_again k.is next.calls);
      }
  told_by at m (loss_refused n) m₁ size k more = absurd k.accounts

  told_from_lem : (fuel at : ℕ) (m : List ℕ) → length m ≡ capacity → length (drop at recording) < fuel → Told at m
  told_from_lem zero at m size lt = absurd (omega arith)
  told_from_lem (suc fuel) at m size lt =
      told_by at m (next_in_state C fresh at [] (drop at recording)) (next_memory C fresh m (drop at recording)) (long_memory at m size) (one_call at m size)
      (λ at' m' size' less. told_from_lem fuel at' m' size' (omega arith))

-- ---- the claim, of ours and of every good tool

final_of : (recording : List ℕ) (C : Setup) (m : List ℕ) → Fit (new_record C) m → final_answer (new_record C) m recording ≡ numbered (finalized (state_behind C fresh (map push recording)))
unfolding act answer_state
final_of recording C m fit =
    let a : After = behind (after nothing (new_record C) m) (map push recording) in
    let r = leads (map push recording) (after nothing (new_record C) m) fit in
    (acts a.decoder a.memory finalize r.fit).answer ∙ ap (λ (s : State). numbered (finalized s)) r.view'

-- the losses of the one run
pub our_calls : (recording : List ℕ) (way : ℕ) (m : List ℕ) → AllBytes recording → KnownWay way → length m ≤ limit
    → Calls next_loss recording way 0 m (losses_in (in_way way (length m)) fresh 0 [] recording) (buffer_behind way m recording)
our_calls recording way m fine known le =
    let C : Setup = in_way way (length m) in
    let fit : Fit (new_record C) m = new_fit C m (known_is way known) refl le in
    let t = told_from_lem recording way (length m) fine known le (suc (length recording)) 0 m refl (omega arith) in
    subst (Calls next_loss recording way 0 m (losses_in C fresh 0 [] recording)) (sym (memory_is recording (after nothing (new_record C) m) fit)) t.calls

our_tells_all : TellsEvery next_loss
our_tells_all recording way m fine known le =
    let C : Setup = in_way way (length m) in
    let fit : Fit (new_record C) m = new_fit C m (known_is way known) refl le in
    let final : final_answer (new_record C) m recording ≡ numbered (finalized (state_behind C fresh (map push recording))) = final_of recording C m fit in
    record {
      losses = losses_in C fresh 0 [] recording;
      calls = our_calls recording way m fine known le;
      each = sym (rw (run_new C m (map push recording) (known_is way known) refl le, final) (places_is C recording fresh 0 [] (reads_fresh_exactly C)));
      counted = rw (run_new C m (map push recording) (known_is way known) refl le, final) (counts_from C known recording fresh 0 [] (reads_fresh_exactly C));
      seen = seen_in C fresh 0 [] recording;
      final = end_in C fresh 0 [] recording;
      among = seen_losses C recording fresh 0 [];
      parted = rw (run_new C m (map push recording) (known_is way known) refl le) (parted_new C known recording fine);
    }

-- calls to a tool that answers as ours does
calls_as : (T : Tool) (recording : List ℕ) (way : ℕ) → ((m : List ℕ) (from : ℕ) → T recording way m from ≡ next_loss recording way m from) → {from : ℕ} {m m' : List ℕ} {losses : List Loss}
    → Calls next_loss recording way from m losses m' → Calls T recording way from m losses m'
calls_as T recording way same' (calls_over {from} {m} e) = calls_over (same' m from ∙ e)
calls_as T recording way same' (calls_again {from} {m} e more) = calls_again (same' m from ∙ e) (calls_as T recording way same' more)

pub tells_all : AlwaysTellsAll
tells_all T good recording way m fine known le =
    let t = our_tells_all recording way m fine known le in
    record { losses = t.losses; calls = calls_as T recording way (λ m from. only_our_tool T good recording way m from fine) t.calls; each = t.each; counted = t.counted; seen = t.seen; final = t.final; among = t.among; parted = t.parted }

-- ---- bounds

pub always_within : AlwaysWithin
always_within way C bytes from l a =
    let some = piece_some way C a.piece a.rest a.reason (a.truly a.reason a.some) in
    let n : length bytes ≡ length a.frames + (length a.piece + length a.rest) = ap length a.is ∙ simp length-append in
    let f = a.first' in
    let q = a.last' in
    record { first_behind = omega arith; some_bytes = omega arith; last_within = omega arith }

-- the content of the buffer does not matter
said_by_length : (recording : List ℕ) (way : ℕ) (m m' : List ℕ) (from : ℕ) → length m ≡ length m' → (next_loss recording way m from).said ≡ (next_loss recording way m' from).said
said_by_length recording way m m' from e =
    either way first_way (λ f. by_known (is_first f)) (λ not1. either way second_way (λ f. by_known (is_second f)) (λ not2.
    let none : KnownWay way → ⊥ = λ k. elim k [ is_first f ↦ not1 f | is_second f ↦ not2 f ] in
    ap (λ (a : LossAfter). a.said) (our_tool.way_first recording way m from none) ∙ sym (ap (λ (a : LossAfter). a.said) (our_tool.way_first recording way m' from none))))
  where
    by_known : KnownWay way → (next_loss recording way m from).said ≡ (next_loss recording way m' from).said
    by_known known =
        by_le {A = ℕ} (λ v. (next_loss recording way m from).said ≡ (next_loss recording way m' from).said) (length m) limit 0 0
        (λ le. loss_said recording way m from known le ∙ ap (λ (n : ℕ). next_in_state (in_way way n) fresh from [] (drop from recording)) e ∙ sym (loss_said recording way m' from known (omega (arith, e, le))))
        (λ lt. ap (λ (a : LossAfter). a.said) (our_tool.too_large_claim recording way m from known lt) ∙ sym (ap (λ (a : LossAfter). a.said) (our_tool.too_large_claim recording way m' from known (omega (arith, e, lt)))))

pub always_by_length : AlwaysByLength
always_by_length T good recording way m m' from fine e =
    ap (λ (a : LossAfter). a.said) (only_our_tool T good recording way m from fine) ∙ said_by_length recording way m m' from e ∙ sym (ap (λ (a : LossAfter). a.said) (only_our_tool T good recording way m' from fine))
