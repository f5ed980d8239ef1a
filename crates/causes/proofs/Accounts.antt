-- What is told of any bytes is an account of them: frames, then a piece that is lost for the causes that are true of it, and no others.
use mathlib.Core.Path.{◌≡◌, refl, ap, sym, ◌∙◌, subst}
use mathlib.Core.Bool.{true, false, cond}
use mathlib.Core.List.{List, [], ◌∷◌, ◌++◌, append_assoc}
use Prim.Native.Nat.{ℕ, suc, ◌+◌, ◌-◌, ◌≤◌}
use native.Mathlib.Omega.{arith}
use lib.ListN.{length, take, replicate, length-append}
use lib.Seq.{take_at}
use Rattle.frame.specs.Frame.{start_seq, esc_seq}
use Rattle.decoder.specs.Push.{State, search, body, escape, done, PushEvent, says, fresh, step, finalized}
use Rattle.decoder.specs.Record.{refusal, numbered, flag}
use Rattle.decoder.specs.Run.{KnownWay, is_first, is_second}
use Rattle.decoder.specs.declared.Setup.{Setup}
use Rattle.since.specs.Bytes.{grown_since}
use Rattle.since.specs.Since.{frame_head, InSearch, AllBytes}
use Rattle.since.specs.Exactly.{ReadExactly, SoundWithin, SaysExactly, goes_on_exactly, start_found_exactly, start_inside_exactly, no_room_exactly, no_escape_exactly, no_message_exactly, frame_ends_exactly}
use Rattle.since.proofs.Lists.{matched_long}
use Rattle.since.proofs.KeptExactly.{kept_exactly, reads_fresh_exactly}
use Rattle.losses.specs.Loss.{begins_in_start, has_start, cause_of, piece_of, loss_at, LossSaid, lost_is, none_lost, loss_refused}
use Rattle.losses.specs.declared.Loss.{Loss}
use Rattle.losses.specs.declared.Cause.{Cause}
use Rattle.losses.specs.declared.Cause.TheVariants.{Noise, Unfinished, Hidden, Cut, UnknownEscape, NoRoom}
use Rattle.losses.proofs.Starts.{none_at_first}
use Rattle.causes.specs.Causes.{Reason, is_unfinished, is_cut, is_escape, is_room_claim, open_in_data, open_behind_escape, TrueOf, Names, names_unfinished, names_cut, names_escape, names_room}
use Rattle.causes.specs.Tools.{no_frames, frame_more, LostNext, Accounts}
use Rattle.causes.proofs.Next.{next_in_state, next_step_lem, done_next}
use Rattle.causes.proofs.Unique.{all_but_last}
use Rattle.causes.proofs.Overlooked.{search_not}
use Rattle.causes.proofs.Told.{TrulyNamed, head_begins, frame_begins, search_begins, found_named, ended_named, invalid_named}
use Rattle.causes.proofs.Forward.{search_left}
use Rattle.causes.proofs.Ends.{tells_true}

-- ---- one cause that is true

module _ {way C : ℕ} {w rest : List ℕ} where
  named_cut : TrueOf way C w rest is_cut → TrulyNamed way C w rest Cut
  named_cut t = record { reason = is_cut; some = names_cut; truly = only }
    where
      only : (r : Reason) → Names Cut r → TrueOf way C w rest r
      only r names_cut = t

  named_unfinished : TrueOf way C w rest is_unfinished → TrulyNamed way C w rest Unfinished
  named_unfinished t = record { reason = is_unfinished; some = names_unfinished; truly = only }
    where
      only : (r : Reason) → Names Unfinished r → TrueOf way C w rest r
      only r names_unfinished = t

  named_escape : TrueOf way C w rest is_escape → TrulyNamed way C w rest UnknownEscape
  named_escape t = record { reason = is_escape; some = names_escape; truly = only }
    where
      only : (r : Reason) → Names UnknownEscape r → TrueOf way C w rest r
      only r names_escape = t

  named_room : TrueOf way C w rest is_room_claim → TrulyNamed way C w rest NoRoom
  named_room t = record { reason = is_room_claim; some = names_room; truly = only }
    where
      only : (r : Reason) → Names NoRoom r → TrueOf way C w rest r
      only r names_room = t

-- ---- a loss

pub lost_one : {a b : Loss} → lost_is a ≡ lost_is b → a ≡ b
lost_one {a} e = ap (λ (s : LossSaid). back s) e
  where
    back : LossSaid → Loss
    back (lost_is l) = l
    back none_lost = a
    back (loss_refused n) = a

-- what is told is a loss of the first bytes w, for causes that are true: then all that are true are named
lost_here : (C : Setup) (at : ℕ) → KnownWay C.way → (bytes w rest : List ℕ) (l : Loss) → bytes ≡ w ++ rest → next_in_state C fresh at [] bytes ≡ lost_is l → l.first ≡ suc at → l.last ≡ at + length w
    → TrulyNamed C.way C.capacity w rest l.cause → LostNext C.way C.capacity bytes at l
lost_here C at known bytes w rest l is told first last n = record {
  frames = [];
  piece = w;
  rest = rest;
  is = is;
  kept = no_frames;
  first' = first ∙ omega arith;
  last' = last ∙ omega arith;
  reason = n.reason;
  some = n.some;
  truly = n.truly;
  all = λ r t.
      let f = tells_true C at known w rest r t in
      let one : f.loss ≡ l = lost_one (sym f.told ∙ ap (next_in_state C fresh at []) (sym is) ∙ told) in
      subst (λ (x : Loss). Names x.cause r) one f.named;
}

-- ---- where nothing was read it is as from fresh

fresh_none : (C : Setup) (n noise raw : ℕ) → InSearch C [] n noise raw → search n noise raw ≡ fresh
fresh_none C n noise raw k =
    let l : 0 ≡ length k.passed + n = ap length k.here ∙ simp (length-append, matched_long n k.most) in
    let a : n ≡ 0 = omega arith in
    let d = k.dropped in
    let b : noise ≡ 0 = omega arith in
    let c : raw ≡ 0 = k.long in
    (λ i. search (a i) (b i) (c i))

head_one : (D z : List ℕ) → 1 ≤ length (frame_head D ++ z)
unfolding frame_head
head_one D z = simp length-append (omega arith)

pub none_read : (C : Setup) (t : State) (at : ℕ) (bytes : List ℕ) → ReadExactly C [] t → next_in_state C t at [] bytes ≡ next_in_state C fresh at [] bytes
none_read C (search n noise raw) at bytes k = ap (λ (s : State). next_in_state C s at [] bytes) (fresh_none C n noise raw k)
none_read C (body r m) at bytes k = absurd (let l : 0 ≡ length (frame_head m.stored ++ replicate r 0x1b) = ap length k.here in let z = head_one m.stored (replicate r 0x1b) in omega arith)
none_read C (escape j m) at bytes k = absurd (let l : 0 ≡ length (frame_head k.D ++ (esc_seq ++ k.l)) = ap length (k.here ∙ append_assoc (frame_head k.D) esc_seq k.l) in let z = head_one k.D (esc_seq ++ k.l) in omega arith)
none_read C (done P) at bytes k = done_next C P at bytes

done_still : (C : Setup) (P : List ℕ) (at : ℕ) → next_in_state C (done P) at [] [] ≡ none_lost
unfolding next_in_state finalized
done_still C P at = refl

-- ---- behind a frame

behind_frame_lem : (way C : ℕ) (w bytes : List ℕ) (at : ℕ) (P : List ℕ) → SoundWithin C w P → (s : LossSaid) → Accounts way C bytes (at + length w) s → Accounts way C (w ++ bytes) at s
behind_frame_lem way C w bytes at P sound (lost_is l) a = record {
  frames = w ++ a.frames;
  piece = a.piece;
  rest = a.rest;
  is = ap (λ (x : List ℕ). w ++ x) a.is ∙ sym (append_assoc w a.frames (a.piece ++ a.rest));
  kept = frame_more P sound a.kept;
  first' = a.first' ∙ simp length-append (omega arith);
  last' = a.last' ∙ simp length-append (omega arith);
  reason = a.reason;
  some = a.some;
  truly = a.truly;
  all = a.all;
}
behind_frame_lem way C w bytes at P sound none_lost a = frame_more P sound a
behind_frame_lem way C w bytes at P sound (loss_refused n) a = a

-- ---- finalize

module _ (C : Setup) (at : ℕ) (known : KnownWay C.way) (h : List ℕ) (s : State) (same' : next_in_state C fresh at [] (h ++ []) ≡ next_in_state C s at h []) where
  -- its refusal
  end_lost : (k : ℕ) (c : Cause) → numbered (finalized s) ≡ refusal 6 (k ∷ []) → cause_of true (begins_in_start h) (has_start h) (length h) (refusal 6 (k ∷ [])) ≡ c
      → TrulyNamed C.way C.capacity h [] c → Accounts C.way C.capacity (h ++ []) at (next_in_state C s at h [])
  unfolding next_in_state
  end_lost k c ans is n =
      let l : Loss = loss_at true (refusal 6 (k ∷ [])) at h h in
      let told : next_in_state C s at h [] ≡ lost_is l = rw ans in
      rw told (lost_here C at known (h ++ []) h [] l refl (same' ∙ told) refl refl (rw is n))

search_said : (C : Setup) (at : ℕ) (known : KnownWay C.way) (h : List ℕ) (n noise raw : ℕ) → InSearch C h n noise raw → next_in_state C fresh at [] (h ++ []) ≡ next_in_state C (search n noise raw) at h []
    → 1 ≤ length h → Accounts C.way C.capacity (h ++ []) at (next_in_state C (search n noise raw) at h [])
unfolding cause_of
search_said C at known h n noise raw k same' pos =
    end_lost C at known h (search n noise raw) same' raw (cond (has_start h) Hidden Noise) (search_left C h n noise raw k pos) (rw (search_begins C h n noise raw known k)) (ended_named C h n noise raw known k pos)

search_still : (C : Setup) (at : ℕ) (n noise raw : ℕ) → InSearch C [] n noise raw → next_in_state C (search n noise raw) at [] [] ≡ none_lost
unfolding next_in_state finalized
search_still C at n noise raw k = ap (λ (s : State). next_in_state C s at [] []) (fresh_none C n noise raw k)

closes_with : (C : Setup) (at : ℕ) (known : KnownWay C.way) (h : List ℕ) (s : State) → ReadExactly C h s → next_in_state C fresh at [] (h ++ []) ≡ next_in_state C s at h [] → Accounts C.way C.capacity (h ++ []) at (next_in_state C s at h [])
unfolding cause_of finalized
closes_with C at known h (search n noise raw) k same' = by_length h k same'
  where
    by_length : (h : List ℕ) → InSearch C h n noise raw → next_in_state C fresh at [] (h ++ []) ≡ next_in_state C (search n noise raw) at h [] → Accounts C.way C.capacity (h ++ []) at (next_in_state C (search n noise raw) at h [])
    by_length [] k e = rw (search_still C at n noise raw k) no_frames
    by_length (x ∷ h) k e = search_said C at known (x ∷ h) n noise raw k e (omega arith)
closes_with C at known h (body r m) k same' =
    end_lost C at known h (body r m) same' m.raw Unfinished refl (rw (frame_begins C h (body r m) known k))
    (named_unfinished (refl, open_in_data m.stored r k.here k.clean k.few k.fits))
closes_with C at known h (escape j m) k same' =
    let n : length m.stored ≡ length k.D + length k.l = ap length k.has ∙ length-append k.D k.l in
    end_lost C at known h (escape j m) same' m.raw Unfinished refl (rw (frame_begins C h (escape j m) known k))
    (named_unfinished (refl, open_behind_escape k.D k.l k.here k.opens (let c = k.count in let f = k.few in omega arith) (let f = k.fits in omega arith)))
closes_with C at known h (done P) k same' = by_none h k.0
  where
    by_none : (h : List ℕ) → h ≡ [] → Accounts C.way C.capacity (h ++ []) at (next_in_state C (done P) at h [])
    by_none h e = rw (e, done_still C P at) no_frames

-- ---- a push

pub bytes_front : (a b : List ℕ) → AllBytes (a ++ b) → AllBytes a
bytes_front [] b h = tt
bytes_front (x ∷ a) b h = (h.0, bytes_front a b h.1)

pub bytes_rest : (a b : List ℕ) → AllBytes (a ++ b) → AllBytes b
bytes_rest [] b h = h
bytes_rest (x ∷ a) b h = bytes_rest a b h.1

abbrev AccountsFrom : Setup → List ℕ → Type 0
AccountsFrom C rest = (at : ℕ) (h : List ℕ) (s : State) → ReadExactly C h s → AllBytes (h ++ rest) → next_in_state C fresh at [] (h ++ rest) ≡ next_in_state C s at h rest
    → Accounts C.way C.capacity (h ++ rest) at (next_in_state C s at h rest)

module _ (C : Setup) (known : KnownWay C.way) (rest : List ℕ) (ih : AccountsFrom C rest) (at : ℕ) (h : List ℕ) (b : ℕ) (s t : State)
    (bytes : AllBytes (h ++ (b ∷ rest))) (same' : next_in_state C fresh at [] (h ++ (b ∷ rest)) ≡ next_in_state C s at h (b ∷ rest)) where
  abbrev g : List ℕ
  g = h ++ b ∷ []

  abbrev all : List ℕ
  all = h ++ (b ∷ rest)

  grouped : all ≡ g ++ rest
  grouped = sym (append_assoc h (b ∷ []) rest)

  -- a refusal, of the piece w
  push_lost : (e : PushEvent) (k : ℕ) (v : List ℕ) (w more : List ℕ) (c : Cause) → step C s b ≡ says t e → numbered e ≡ refusal k v → piece_of (refusal k v) g ≡ w → all ≡ w ++ more
      → cause_of false (begins_in_start h) (has_start w) (length w) (refusal k v) ≡ c → TrulyNamed C.way C.capacity w more c → Accounts C.way C.capacity all at (next_in_state C s at h (b ∷ rest))
  push_lost e k v w more c is ans piece cut' cause n =
      let l : Loss = loss_at false (refusal k v) at h w in
      let told : next_in_state C s at h (b ∷ rest) ≡ lost_is l = next_step_lem C s at h b rest (says t e) is ∙ rw (ans, piece) in
      rw told (lost_here C at known all w more l cut' (same' ∙ told) refl refl (rw cause n))

  stepped : (e : PushEvent) → step C s b ≡ says t e → ReadExactly C (grown_since (numbered e) h b) t → SaysExactly C g e → Accounts C.way C.capacity all at (next_in_state C s at h (b ∷ rest))
  unfolding cause_of
  stepped e is r goes_on_exactly =
      let on : next_in_state C s at h (b ∷ rest) ≡ next_in_state C t at g rest = next_step_lem C s at h b rest (says t e) is in
      let more : next_in_state C fresh at [] (g ++ rest) ≡ next_in_state C t at g rest = ap (next_in_state C fresh at []) (sym grouped) ∙ same' ∙ on in
      rw (grouped, on) (ih at g t r (subst AllBytes grouped bytes) more)
  stepped e is r (start_found_exactly k x found misses none some c) =
      let eight : take (length g - 8) g ≡ x = rw found (take_at x start_seq (length (x ++ start_seq) - 8) (simp length-append (omega arith))) in
      push_lost e 6 (k ∷ []) x (start_seq ++ rest) (cond (has_start x) Hidden Noise) is refl eight (grouped ∙ rw found (append_assoc x start_seq rest)) (rw (searched known)) (found_named C.way C.capacity x rest known misses none some)
    where
      before : h ≡ x ++ take 7 start_seq
      before = all_but_last h x b found

      searched : KnownWay C.way → begins_in_start h ≡ false
      searched (is_first f) = rw before (search_not (misses f) 7 (omega arith))
      searched (is_second z) = rw before (none_at_first (x ++ take 7 start_seq) (none z))
  stepped e is r (start_inside_exactly k D found clean fits c) =
      let w : List ℕ = frame_head D in
      let eight : take (length g - 8) g ≡ w = rw found (take_at w start_seq (length (w ++ start_seq) - 8) (simp length-append (omega arith))) in
      let before : begins_in_start h ≡ true = rw (all_but_last h w b found) (head_begins D (take 7 start_seq)) in
      push_lost e 6 (k ∷ []) w (start_seq ++ rest) Cut is refl eight (grouped ∙ rw found (append_assoc w start_seq rest)) (rw before)
      (named_cut (record { D = D; is = refl; clean = clean; fits = fits; rest = rest; start = refl }))
  stepped e is r (no_room_exactly f) = push_lost e 3 [] g rest NoRoom is refl refl grouped refl (named_room f)
  stepped e is r (no_escape_exactly {a = w} {b = x} {c = y} {d = z} f) = push_lost e 7 (w ∷ x ∷ y ∷ z ∷ []) g rest UnknownEscape is refl refl grouped refl (named_escape (w ∷ x ∷ y ∷ z ∷ [], f))
  stepped e is r (no_message_exactly {read = read} {computed = computed} {mis = mis} {p = p} D f sum aligned wrong) =
      push_lost e 8 (read ∷ computed ∷ flag mis ∷ p ∷ []) g rest _ is refl refl grouped refl (invalid_named C.way C.capacity g rest D read computed mis p f sum aligned wrong)
  stepped e is r (frame_ends_exactly P f) =
      let on : next_in_state C s at h (b ∷ rest) ≡ next_in_state C t (at + length g) [] rest = next_step_lem C s at h b rest (says t e) is in
      let fine : AllBytes (g ++ rest) = subst AllBytes grouped bytes in
      rw (grouped, on) (behind_frame_lem C.way C.capacity g rest at P (f (bytes_front g rest fine)) (next_in_state C t (at + length g) [] rest)
      (ih (at + length g) [] t r (bytes_rest g rest fine) (sym (none_read C t (at + length g) rest r))))

pub accounts_from : (C : Setup) (known : KnownWay C.way) (rest : List ℕ) → AccountsFrom C rest
accounts_from C known [] at h s r bytes same' = closes_with C at known h s r same'
accounts_from C known (b ∷ rest) at h s r bytes same' =
    let o = kept_exactly C h s b r in
    stepped C known rest (accounts_from C known rest) at h b s (step C s b).state bytes same' (step C s b).event refl o.reads o.told

-- any bytes, pushed to a new decoder
pub accounts_new : (C : Setup) → KnownWay C.way → (bytes : List ℕ) (at : ℕ) → AllBytes bytes → Accounts C.way C.capacity bytes at (next_in_state C fresh at [] bytes)
accounts_new C known bytes at all' = accounts_from C known bytes at [] fresh (reads_fresh_exactly C) all' refl
