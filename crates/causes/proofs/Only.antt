-- An account of bytes is the only one: who gives one answers as the next loss is defined.
use mathlib.Core.Path.{◌≡◌, refl, ap, sym, ◌∙◌, subst}
use mathlib.Core.Bool.{Bool, true, false, false≢true}
use mathlib.Core.List.{List, [], ◌++◌, append_assoc, append-nil}
use Prim.Native.Nat.{ℕ, suc, ◌+◌}
use native.Mathlib.Omega.{arith}
use lib.ListN.{length, length-append}
use Rattle.decoder.specs.Push.{fresh, finalized}
use Rattle.decoder.specs.Run.{KnownWay}
use Rattle.decoder.specs.declared.Setup.{Setup}
use Rattle.since.specs.Since.{AllBytes}
use Rattle.since.proofs.Lists.{empty}
use Rattle.losses.specs.Loss.{LossSaid, lost_is, none_lost, loss_refused}
use Rattle.losses.specs.declared.Loss.{Loss}
use Rattle.losses.specs.declared.Cause.{Cause}
use Rattle.losses.specs.declared.Cause.TheVariants.{Noise, Unfinished, Hidden, Cut, UnknownEscape, NoRoom, Invalid}
use Rattle.causes.specs.Causes.{Reason, is_noise, is_unfinished, is_hidden, is_cut, is_escape, is_room_claim, is_crc, is_misaligned, is_pads, TrueOf, Names, names_noise, names_unfinished, names_hidden, names_cut, names_escape, names_room, names_crc, names_misaligned, names_pads}
use Rattle.causes.specs.Tools.{Frames, no_frames, frame_more, LostNext, Accounts}
use Rattle.causes.proofs.Next.{next_in_state}
use Rattle.causes.proofs.Unique.{front_same}
use Rattle.causes.proofs.Ends.{tells_true, next_behind_frame}
use Rattle.causes.proofs.Accounts.{accounts_new, bytes_rest}

-- ---- a told cause by what it names

is_noise_lem : {c : Cause} → Names c is_noise → c ≡ Noise
is_noise_lem names_noise = refl

is_unfinished_lem : {c : Cause} → Names c is_unfinished → c ≡ Unfinished
is_unfinished_lem names_unfinished = refl

is_hidden_lem : {c : Cause} → Names c is_hidden → c ≡ Hidden
is_hidden_lem names_hidden = refl

is_cut_lem : {c : Cause} → Names c is_cut → c ≡ Cut
is_cut_lem names_cut = refl

is_escape_lem : {c : Cause} → Names c is_escape → c ≡ UnknownEscape
is_escape_lem names_escape = refl

is_room : {c : Cause} → Names c is_room_claim → c ≡ NoRoom
is_room names_room = refl

-- of an end sequence
record IsEnd (c : Cause) : Type 0 where
  crc : Bool
  misaligned : Bool
  pads : Bool
  is : c ≡ Invalid crc misaligned pads

end_by_crc : {c : Cause} → Names c is_crc → IsEnd c
end_by_crc (names_crc {misaligned = m} {pads = p}) = record { crc = true; misaligned = m; pads = p; is = refl }

end_by_misaligned : {c : Cause} → Names c is_misaligned → IsEnd c
end_by_misaligned (names_misaligned {crc = a} {pads = p}) = record { crc = a; misaligned = true; pads = p; is = refl }

end_by_pads : {c : Cause} → Names c is_pads → IsEnd c
end_by_pads (names_pads {crc = a} {misaligned = m}) = record { crc = a; misaligned = m; pads = true; is = refl }

same_flag : (a b : Bool) → (a ≡ true → b ≡ true) → (b ≡ true → a ≡ true) → a ≡ b
same_flag true true f g = refl
same_flag true false f g = absurd (false≢true (f refl))
same_flag false true f g = absurd (false≢true (g refl))
same_flag false false f g = refl

crc_flag_lem : {a b c : Bool} → Names (Invalid a b c) is_crc → a ≡ true
crc_flag_lem names_crc = refl

misaligned_flag : {a b c : Bool} → Names (Invalid a b c) is_misaligned → b ≡ true
misaligned_flag names_misaligned = refl

pads_flag : {a b c : Bool} → Names (Invalid a b c) is_pads → c ≡ true
pads_flag names_pads = refl

flag_crc : {a b c : Bool} → a ≡ true → Names (Invalid a b c) is_crc
flag_crc e = rw e names_crc

flag_misaligned : {a b c : Bool} → b ≡ true → Names (Invalid a b c) is_misaligned
flag_misaligned e = rw e names_misaligned

flag_pads : {a b c : Bool} → c ≡ true → Names (Invalid a b c) is_pads
flag_pads e = rw e names_pads

abbrev NamesWithin : Cause → Cause → Type 0
NamesWithin c d = (r : Reason) → Names c r → Names d r

both_ends : (a b c x y z : Bool) → NamesWithin (Invalid a b c) (Invalid x y z) → NamesWithin (Invalid x y z) (Invalid a b c) → Invalid a b c ≡ Invalid x y z
both_ends a b c x y z f g =
    let p = same_flag a x (λ e. crc_flag_lem (f is_crc (flag_crc e))) (λ e. crc_flag_lem (g is_crc (flag_crc e))) in
    let q = same_flag b y (λ e. misaligned_flag (f is_misaligned (flag_misaligned e))) (λ e. misaligned_flag (g is_misaligned (flag_misaligned e))) in
    let r = same_flag c z (λ e. pads_flag (f is_pads (flag_pads e))) (λ e. pads_flag (g is_pads (flag_pads e))) in
    (λ i. Invalid (p i) (q i) (r i))

ends_one : (a b c : Bool) (d : Cause) → IsEnd d → NamesWithin (Invalid a b c) d → NamesWithin d (Invalid a b c) → Invalid a b c ≡ d
ends_one a b c d e f g =
    let x : NamesWithin (Invalid a b c) (Invalid e.crc e.misaligned e.pads) = subst (λ (t : Cause). NamesWithin (Invalid a b c) t) e.is f in
    let y : NamesWithin (Invalid e.crc e.misaligned e.pads) (Invalid a b c) = subst (λ (t : Cause). NamesWithin t (Invalid a b c)) e.is g in
    both_ends a b c e.crc e.misaligned e.pads x y ∙ sym e.is

-- causes that name the same, and at least one thing, are the same
pub names_one : (c d : Cause) (r : Reason) → Names c r → NamesWithin c d → NamesWithin d c → c ≡ d
names_one c d r names_noise f g = sym (is_noise_lem (f is_noise names_noise))
names_one c d r names_unfinished f g = sym (is_unfinished_lem (f is_unfinished names_unfinished))
names_one c d r names_hidden f g = sym (is_hidden_lem (f is_hidden names_hidden))
names_one c d r names_cut f g = sym (is_cut_lem (f is_cut names_cut))
names_one c d r names_escape f g = sym (is_escape_lem (f is_escape names_escape))
names_one c d r names_room f g = sym (is_room (f is_room_claim names_room))
names_one c d r (names_crc {misaligned = m} {pads = p}) f g = ends_one true m p d (end_by_crc (f is_crc names_crc)) f g
names_one c d r (names_misaligned {crc = a} {pads = p}) f g = ends_one a true p d (end_by_misaligned (f is_misaligned names_misaligned)) f g
names_one c d r (names_pads {crc = a} {misaligned = m}) f g = ends_one a m true d (end_by_pads (f is_pads names_pads)) f g

-- ---- frames are passed

pub frames_next : (C : Setup) → KnownWay C.way → {frames : List ℕ} → Frames C.capacity frames → (at : ℕ) (more : List ℕ)
    → next_in_state C fresh at [] (frames ++ more) ≡ next_in_state C fresh (at + length frames) [] more
frames_next C known no_frames at more = ap (λ (n : ℕ). next_in_state C fresh n [] more) (omega arith)
frames_next C known (frame_more {w} {l} P sound rest) at more =
    ap (next_in_state C fresh at []) (append_assoc w l more) ∙ next_behind_frame C at known w P (l ++ more) sound ∙ frames_next C known rest (at + length w) more
    ∙ ap (λ (n : ℕ). next_in_state C fresh n [] more) (simp length-append (omega arith))

-- ---- one account

module _ (C : Setup) (known : KnownWay C.way) (at : ℕ) (w rest : List ℕ) (bytes : AllBytes (w ++ rest)) (l : Loss) (reason : Reason) (some : Names l.cause reason)
    (truly : (r : Reason) → Names l.cause r → TrueOf C.way C.capacity w rest r) (all : (r : Reason) → TrueOf C.way C.capacity w rest r → Names l.cause r)
    (first : l.first ≡ suc at) (last : l.last ≡ at + length w) where
  -- ours, of the same first and last byte
  module _ (k : Loss) (kf : k.first ≡ suc at) (kl : k.last ≡ at + length w) (o : LostNext C.way C.capacity (w ++ rest) at k) where
    none_kept : o.frames ≡ []
    none_kept = empty o.frames (let a = o.first' in omega arith)

    cut' : w ++ rest ≡ o.piece ++ o.rest
    cut' = o.is ∙ ap (λ (x : List ℕ). x ++ (o.piece ++ o.rest)) none_kept

    size : length w ≡ length o.piece
    size = let a = o.last' in let b : length o.frames ≡ 0 = ap length none_kept in omega arith

    parts : (w ≡ o.piece) × (rest ≡ o.rest)
    parts = front_same w o.piece rest o.rest cut' size

    there : (r : Reason) → TrueOf C.way C.capacity o.piece o.rest r → TrueOf C.way C.capacity w rest r
    there r t = subst (λ (x : List ℕ). TrueOf C.way C.capacity x rest r) (sym parts.0) (subst (λ (y : List ℕ). TrueOf C.way C.capacity o.piece y r) (sym parts.1) t)

    back : (r : Reason) → TrueOf C.way C.capacity w rest r → TrueOf C.way C.capacity o.piece o.rest r
    back r t = subst (λ (x : List ℕ). TrueOf C.way C.capacity x o.rest r) parts.0 (subst (λ (y : List ℕ). TrueOf C.way C.capacity w y r) parts.1 t)

    same_cause : k.cause ≡ l.cause
    same_cause = names_one k.cause l.cause o.reason o.some (λ r n. all r (there r (o.truly r n))) (λ r n. o.all r (back r (truly r n)))

    same_loss : k ≡ l
    same_loss = (λ i. record { cause = same_cause i; first = (kf ∙ sym first) i; last = (kl ∙ sym last) i })

  one_here : next_in_state C fresh at [] (w ++ rest) ≡ lost_is l
  one_here =
      let f = tells_true C at known w rest reason (truly reason some) in
      let o : LostNext C.way C.capacity (w ++ rest) at f.loss = subst (Accounts C.way C.capacity (w ++ rest) at) f.told (accounts_new C known (w ++ rest) at bytes) in
      f.told ∙ ap lost_is (same_loss f.loss f.first' f.last' o)

pub accounts_one : (C : Setup) → KnownWay C.way → (bytes : List ℕ) (at : ℕ) → AllBytes bytes → (s : LossSaid) → Accounts C.way C.capacity bytes at s → next_in_state C fresh at [] bytes ≡ s
unfolding next_in_state finalized
accounts_one C known bytes at fine (lost_is l) a =
    ap (next_in_state C fresh at []) a.is ∙ frames_next C known a.kept at (a.piece ++ a.rest)
    ∙ one_here C known (at + length a.frames) a.piece a.rest (bytes_rest a.frames (a.piece ++ a.rest) (subst AllBytes a.is fine)) l a.reason a.some a.truly a.all a.first' a.last'
accounts_one C known bytes at fine none_lost a = ap (next_in_state C fresh at []) (sym (append-nil bytes)) ∙ frames_next C known a at []
accounts_one C known bytes at fine (loss_refused n) a = absurd a
