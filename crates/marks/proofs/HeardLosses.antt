-- What a caller of the library hears of lost bytes is what ours says, and what is refused leaves all as it was.
use mathlib.Core.Path.{◌≡◌, refl, sym, ap, ◌∙◌, subst}
use mathlib.Core.Bool.{Bool, true, false, cond, ◌||◌}
use mathlib.Core.List.{List, [], ◌∷◌}
use mathlib.Core.Option.{Option, some, none}
use Prim.Native.Nat.{ℕ, suc, ◌≤◌}
use native.Mathlib.Omega.{arith}
use lib.ListN.{length, drop, get_or}
use lib.Dec.{ltb}
use borrow.Author.Tests.{ne_eqb}
use Rattle.refusals.specs.Numbers.{bad_state_no, limit}
use Rattle.decoder.specs.Push.{in_way}
use Rattle.decoder.specs.Record.{DecoderAnswer, nothing, payload, count, refusal, new_record, unknown_way, bad_decoder, wrong_buffer, push_record, finalize_record}
use Rattle.decoder.specs.declared.Decoder.{Decoder}
use Rattle.decoder.proofs.Split.{cases}
use Rattle.decoder_slice.specs.Slice.{says_nothing}
use Rattle.causes.specs.Tools.{GoodTool}
use Rattle.causes.proofs.Tools.{our_tool}
use Rattle.causes.proofs.Calls.{tells_all}
use Rattle.losses.specs.Loss.{LossSaid, lost_is, none_lost, loss_refused, loss_after, is_refusal, hands_out, next_behind, next_loss}
use Rattle.losses.specs.Watch.{WatchSaid, quietly, kept_over, lost_over, watch_refused, sight_of, moved_on, watches_from, bad_watch, watch_slice, watch_end}
use Rattle.losses.specs.declared.Cause.{Cause}
use Rattle.losses.specs.declared.Cause.TheVariants.{Noise, Unfinished, Hidden, Cut, UnknownEscape, NoRoom, Invalid}
use Rattle.losses.specs.declared.Look.{Look}
use Rattle.losses.specs.declared.Loss.{Loss}
use Rattle.losses.specs.declared.Watch.{Watch}
use Rattle.packed.specs.Layout.{packed_in}
use Rattle.packed.proofs.Held.{holds_record}
use Rattle.sartrogheo.specs.Calls.{reply}
use Rattle.sartrogheo.specs.Losses.{cause_bits, loss_words, no_loss_words, loss_said_no, loss_said_words, watch_words, watch_in, sight_no, sight_words, watch_slice_or, watch_end_or, sgh_next_loss, sgh_watch_slice, sgh_watch_end}
use Rattle.sartrogheo.proofs.Losses.{watch_in_held}
use Rattle.marks.specs.Library.{LossesBy, Library, our_library, lent_at, cause_heard, loss_heard, loss_said_heard, sight_heard, next_loss_by, watch_left, SliceHeard, EndHeard, HearsLosses}

-- ---- a loss

cause_heard_lem : (c : Cause) → cause_heard (cause_bits c) ≡ c
cause_heard_lem Noise = refl
cause_heard_lem Unfinished = refl
cause_heard_lem Hidden = refl
cause_heard_lem Cut = refl
cause_heard_lem UnknownEscape = refl
cause_heard_lem NoRoom = refl
cause_heard_lem (Invalid false false false) = refl
cause_heard_lem (Invalid false false true) = refl
cause_heard_lem (Invalid false true false) = refl
cause_heard_lem (Invalid false true true) = refl
cause_heard_lem (Invalid true false false) = refl
cause_heard_lem (Invalid true false true) = refl
cause_heard_lem (Invalid true true false) = refl
cause_heard_lem (Invalid true true true) = refl

loss_heard_lem : (l : Loss) → loss_heard (loss_words l) ≡ l
loss_heard_lem l = λ i. record { cause = cause_heard_lem l.cause i; first = l.first; last = l.last }

-- ---- what is said: refused is with 4 or 5

abbrev LossSayable : LossSaid → Type 0
LossSayable (lost_is l) = Unit {0}
LossSayable none_lost = Unit {0}
LossSayable (loss_refused n) = n ≤ 5

said_heard : (x : LossSaid) → LossSayable x → loss_said_heard (loss_said_no x) (loss_said_words x) ≡ x
said_heard (lost_is l) h = ap lost_is (loss_heard_lem l)
said_heard none_lost h = refl
said_heard (loss_refused n) h = rw (ne_eqb n 103 (λ e. omega (arith, h, e)), ne_eqb n 101 (λ e. omega (arith, h, e)))

abbrev SightSayable : WatchSaid → Type 0
SightSayable quietly = Unit {0}
SightSayable (kept_over first last) = Unit {0}
SightSayable (lost_over l) = Unit {0}
SightSayable (watch_refused n) = (1 ≤ n) × (n ≤ 5)

sight_heard_lem : (x : WatchSaid) → SightSayable x → sight_heard (sight_no x) (sight_words x) ≡ x
sight_heard_lem quietly h = refl
sight_heard_lem (kept_over first last) h = refl
sight_heard_lem (lost_over l) h = ap lost_over (loss_heard_lem l)
sight_heard_lem (watch_refused n) h = rw (ne_eqb n 0 (λ e. omega (arith, h, e)), ne_eqb n 100 (λ e. omega (arith, h, e)), ne_eqb n 103 (λ e. omega (arith, h, e)))

-- ---- the next loss

from_sayable : (bytes : List ℕ) (d : Decoder) (m : List ℕ) (begun : ℕ) (h : List ℕ) → LossSayable (next_behind d m begun h bytes).said
unfolding next_behind
from_sayable [] d m begun h = cases (is_refusal (finalize_record d).answer) (λ t. rw t tt) (λ f. rw f tt)
from_sayable (b ∷ bytes) d m begun h =
    cases (is_refusal (push_record d m b).answer) (λ t. rw t tt) (λ f.
    cases (hands_out (push_record d m b).answer) (λ t. rw (f, t) (from_sayable bytes _ _ _ _)) (λ g. rw (f, g) (from_sayable bytes _ _ _ _)))

next_sayable : (recording : List ℕ) (way : ℕ) (m : List ℕ) (from : ℕ) → LossSayable (next_loss recording way m from).said
unfolding next_loss
next_sayable recording way m from =
    cases (unknown_way way) (λ t. rw t (omega arith)) (λ f.
    cases (ltb limit (length m)) (λ t. rw (f, t) (omega arith)) (λ g. rw (f, g) (from_sayable (drop from recording) (new_record (in_way way (length m))) m from [])))

module _ (recording : List ℕ) (way : ℕ) (m : List ℕ) (from : ℕ) where
  next_said_lem : loss_said_heard (loss_said_no (next_loss recording way m from).said) (loss_said_words (next_loss recording way m from).said) ≡ (next_loss recording way m from).said
  next_said_lem = said_heard (next_loss recording way m from).said (next_sayable recording way m from)

  next_heard : next_loss_by our_library recording way m from ≡ next_loss recording way m from
  unfolding sgh_next_loss
  next_heard = λ i. loss_after (next_said_lem i) (next_loss recording way m from).memory

  losses_told : sgh_next_loss recording way m from
      ≡ reply (sgh_next_loss recording way m from).number (lent_at (sgh_next_loss recording way m from) 0 ∷ loss_said_words (next_loss_by our_library recording way m from).said ∷ [])
  unfolding sgh_next_loss
  losses_told = ap (λ (x : LossSaid). reply (loss_said_no (next_loss recording way m from).said) ((next_loss recording way m from).memory ∷ loss_said_words x ∷ [])) (sym next_said_lem)

-- ---- a watch

of_a_byte : (a : DecoderAnswer) (l : Look) (begun long : ℕ) → SightSayable (sight_of a l begun long)
of_a_byte nothing l begun long = tt
of_a_byte (payload bytes) l begun long = tt
of_a_byte (count k) l begun long = tt
of_a_byte (refusal k v) l begun long = tt

bytes_sayable : (bs : List ℕ) (n : ℕ) (w : Watch) (m : List ℕ) → SightSayable (watches_from n w m bs).seen
unfolding watches_from
bytes_sayable [] n w m = tt
bytes_sayable (b ∷ bs) n w m =
    cases (says_nothing (push_record w.decoder m b).answer) (λ t. rw t (bytes_sayable bs (suc n) (moved_on w (push_record w.decoder m b).decoder b) (push_record w.decoder m b).memory)) (λ f.
    rw f (of_a_byte (push_record w.decoder m b).answer _ _ _))

slice_sayable : (w : Watch) (m chunk : List ℕ) → SightSayable (watch_slice w m chunk).seen
unfolding watch_slice
slice_sayable w m chunk =
    cases (bad_watch w (length chunk) || bad_decoder w.decoder) (λ t. rw t (omega arith, omega arith)) (λ f.
    cases (wrong_buffer w.decoder.capacity (length m)) (λ t. rw (f, t) (omega arith, omega arith)) (λ g. rw (f, g) (bytes_sayable chunk 0 w m)))

slice_heard : (w : Watch) (l v m chunk : List ℕ) → watch_in l v ≡ some w → SliceHeard (sgh_watch_slice l v m chunk) l (watch_slice w m chunk)
unfolding sgh_watch_slice
slice_heard w l v m chunk is = rw is (record { says = sight_heard_lem (watch_slice w m chunk).seen (slice_sayable w m chunk); leaves = refl })

no_slice : (l v m chunk : List ℕ) → watch_in l v ≡ none → sgh_watch_slice l v m chunk ≡ reply bad_state_no (l ∷ v ∷ m ∷ (0 ∷ []) ∷ no_loss_words ∷ [])
unfolding sgh_watch_slice
no_slice l v m chunk is = rw is

end_sayable : (w : Watch) → LossSayable (watch_end w).told
unfolding watch_end
end_sayable w =
    cases (bad_watch w 0 || bad_decoder w.decoder) (λ t. rw t (omega arith)) (λ f.
    cases (is_refusal (finalize_record w.decoder).answer) (λ t. rw (f, t) tt) (λ g. rw (f, g) tt))

end_heard_lem : (w : Watch) (l v : List ℕ) → watch_in l v ≡ some w → EndHeard (sgh_watch_end l v) l (watch_end w)
unfolding sgh_watch_end
end_heard_lem w l v is = rw is (record { says = said_heard (watch_end w).told (end_sayable w); leaves = refl })

no_end_heard : (l v : List ℕ) → watch_in l v ≡ none → sgh_watch_end l v ≡ reply bad_state_no (l ∷ v ∷ no_loss_words ∷ [])
unfolding sgh_watch_end
no_end_heard l v is = rw is

-- ---- what is refused leaves all as it was

-- behind a byte nothing is refused
abbrev NotRefused : WatchSaid → Type 0
NotRefused quietly = Unit {0}
NotRefused (kept_over first last) = Unit {0}
NotRefused (lost_over l) = Unit {0}
NotRefused (watch_refused n) = ⊥

of_no_refusal : (a : DecoderAnswer) (l : Look) (begun long : ℕ) → NotRefused (sight_of a l begun long)
of_no_refusal nothing l begun long = tt
of_no_refusal (payload bytes) l begun long = tt
of_no_refusal (count k) l begun long = tt
of_no_refusal (refusal k v) l begun long = tt

bytes_not_refused : (bs : List ℕ) (n : ℕ) (w : Watch) (m : List ℕ) → NotRefused (watches_from n w m bs).seen
unfolding watches_from
bytes_not_refused [] n w m = tt
bytes_not_refused (b ∷ bs) n w m =
    cases (says_nothing (push_record w.decoder m b).answer) (λ t. rw t (bytes_not_refused bs (suc n) (moved_on w (push_record w.decoder m b).decoder b) (push_record w.decoder m b).memory)) (λ f.
    rw f (of_no_refusal (push_record w.decoder m b).answer _ _ _))

no_number : {G : Type 0} (x : WatchSaid) → NotRefused x → 1 ≤ sight_no x → sight_no x ≤ 5 → G
no_number quietly h a b = absurd (omega (arith, a))
no_number (kept_over first last) h a b = absurd (omega (arith, b))
no_number (lost_over l) h a b = absurd (omega (arith, b))
no_number (watch_refused n) h a b = absurd h

no_end_number : {G : Type 0} (refused : Bool) (l : Loss) → 1 ≤ loss_said_no (cond refused (lost_is l) none_lost) → loss_said_no (cond refused (lost_is l) none_lost) ≤ 5 → G
no_end_number true l a b = absurd (omega (arith, b))
no_end_number false l a b = absurd (omega (arith, b))

four_numbers : (v : List ℕ) → length v ≡ 4 → v ≡ get_or v 0 0 ∷ get_or v 1 0 ∷ get_or v 2 0 ∷ get_or v 3 0 ∷ []
four_numbers (a ∷ b ∷ c ∷ d ∷ []) h = refl
four_numbers [] h = absurd (omega (arith, h))
four_numbers (a ∷ []) h = absurd (omega (arith, h))
four_numbers (a ∷ b ∷ []) h = absurd (omega (arith, h))
four_numbers (a ∷ b ∷ c ∷ []) h = absurd (omega (arith, h))
four_numbers (a ∷ b ∷ c ∷ d ∷ e ∷ v) h = absurd (omega (arith, h))

-- the watch that is held, packed again and put into its numbers, is what was lent
module _ (l v : List ℕ) (w : Watch) (four : length v ≡ 4) (is : watch_in l v ≡ some w) where
  same_bytes : packed_in w.decoder l ≡ l
  same_bytes = (holds_record l w.decoder (watch_in_held l v w is).held).again

  same_numbers : watch_words w ≡ v
  same_numbers = (watch_in_held l v w is).numbers ∙ sym (four_numbers v four)

  left_alone : (others : List (List ℕ)) → watch_left w l others ≡ l ∷ v ∷ others
  left_alone others = rw (same_bytes, same_numbers)

  slice_left : (m chunk : List ℕ) → 1 ≤ sight_no (watch_slice w m chunk).seen → sight_no (watch_slice w m chunk).seen ≤ 5
      → watch_left (watch_slice w m chunk).watch l ((watch_slice w m chunk).memory ∷ ((watch_slice w m chunk).taken ∷ []) ∷ sight_words (watch_slice w m chunk).seen ∷ []) ≡ l ∷ v ∷ m ∷ (0 ∷ []) ∷ no_loss_words ∷ []
  unfolding watch_slice
  slice_left m chunk =
      cases (bad_watch w (length chunk) || bad_decoder w.decoder) (λ t. rw t (λ a b. left_alone _)) (λ f.
      cases (wrong_buffer w.decoder.capacity (length m)) (λ t. rw (f, t) (λ a b. left_alone _)) (λ g. rw (f, g) (λ a b. no_number (watches_from 0 w m chunk).seen (bytes_not_refused chunk 0 w m) a b)))

  end_left_alone : 1 ≤ loss_said_no (watch_end w).told → loss_said_no (watch_end w).told ≤ 5 → watch_left (watch_end w).watch l (loss_said_words (watch_end w).told ∷ []) ≡ l ∷ v ∷ no_loss_words ∷ []
  unfolding watch_end
  end_left_alone =
      cases (bad_watch w 0 || bad_decoder w.decoder) (λ t. rw t (λ a b. left_alone _)) (λ f. rw f (λ a b. no_end_number (is_refusal (finalize_record w.decoder).answer) _ a b))

slice_stays_so : (l v m chunk : List ℕ) → length v ≡ 4 → 1 ≤ (sgh_watch_slice l v m chunk).number → (sgh_watch_slice l v m chunk).number ≤ 5 → (sgh_watch_slice l v m chunk).lent ≡ l ∷ v ∷ m ∷ (0 ∷ []) ∷ no_loss_words ∷ []
unfolding sgh_watch_slice
slice_stays_so l v m chunk four = by (watch_in l v) refl
  where
    by : (o : Option Watch) → watch_in l v ≡ o → 1 ≤ (watch_slice_or o l v m chunk).number → (watch_slice_or o l v m chunk).number ≤ 5 → (watch_slice_or o l v m chunk).lent ≡ l ∷ v ∷ m ∷ (0 ∷ []) ∷ no_loss_words ∷ []
    by none is a b = refl
    by (some w) is a b = slice_left l v w four is m chunk a b

end_stays_so : (l v : List ℕ) → length v ≡ 4 → 1 ≤ (sgh_watch_end l v).number → (sgh_watch_end l v).number ≤ 5 → (sgh_watch_end l v).lent ≡ l ∷ v ∷ no_loss_words ∷ []
unfolding sgh_watch_end
end_stays_so l v four = by (watch_in l v) refl
  where
    by : (o : Option Watch) → watch_in l v ≡ o → 1 ≤ (watch_end_or o l v).number → (watch_end_or o l v).number ≤ 5 → (watch_end_or o l v).lent ≡ l ∷ v ∷ no_loss_words ∷ []
    by none is a b = refl
    by (some w) is a b = end_left_alone l v w four is a b

pub hears_losses : HearsLosses our_library
hears_losses =
    record { next = next_heard; words = losses_told; slices = slice_heard; no_watch = no_slice; ends = end_heard_lem; no_end_claim = no_end_heard; slice_stays = slice_stays_so; end_stays = end_stays_so }

-- ---- of every library of which that is so

module _ (L : Library) (h : HearsLosses L) where
  same_tool : next_loss_by L ≡ next_loss
  same_tool = (λ i recording way m from. h.next recording way m from i)

  losses_by_lem : GoodTool (next_loss_by L)
  losses_by_lem = subst GoodTool (sym same_tool) our_tool

  pub tells_by : LossesBy L
  tells_by = record { losses = losses_by_lem; losses_all = tells_all (next_loss_by L) losses_by_lem }
