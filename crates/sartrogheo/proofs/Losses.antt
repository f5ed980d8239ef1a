-- Lost bytes in plain numbers, and the decoder that a watch leaves: packing accepts it, since it accepted the one before.
use mathlib.Core.Path.{◌≡◌, refl, sym, ap, ◌∙◌}
use mathlib.Core.Bool.{false, ◌||◌}
use mathlib.Core.List.{List, [], ◌∷◌}
use mathlib.Core.Option.{some, none}
use Prim.Native.Nat.{ℕ, suc}
use native.Mathlib.Omega.{arith}
use lib.ListN.{length, get_or}
use lib.Dec.{ltb}
use Rattle.std.specs.Prelude.{Result, Ok, Err}
use Rattle.decoder.specs.Record.{bad_decoder, wrong_buffer, push_record}
use Rattle.decoder.specs.declared.Decoder.{Decoder}
use Rattle.decoder.specs.declared.Setup.{Setup}
use Rattle.decoder.proofs.Split.{cases}
use Rattle.decoder.proofs.Reached.{push_good_stays, push_setup, finalize_good_stays, finalize_setup}
use Rattle.decoder_slice.specs.Slice.{says_nothing}
use Rattle.packed.specs.Layout.{packed_in}
use Rattle.packed.specs.Packed.{Filled, filled, pack_into, Unpacked, holds, no_record, unpack_of}
use Rattle.packed.specs.declared.PackError.{PackError}
use Rattle.packed.specs.declared.PackError.TheVariants as P
use Rattle.packed.proofs.Held.{pack_good, holds_record, Stays}
use Rattle.losses.specs.Watch.{look, watched, moved_on, after_watch, watches_from, bad_watch, watch_slice, after_end, watch_end}
use Rattle.losses.specs.declared.Watch.{Watch}
use Rattle.losses.specs.declared.Watched.{Watched}
use Rattle.losses.specs.declared.WatchEnded.{WatchEnded}
use Rattle.sartrogheo.specs.Losses.{watch_words, watch_held, watch_in}
use Rattle.sartrogheo.specs.Cut.{CanBePacked}

-- ---- the watch that bytes and numbers hold

never_some : {G : Type 0} {w : Watch} → none ≡ some w → G
never_some h =
    let z : ◌≡◌ {A = ℕ} 0 1 = cc in
    absurd (omega arith)

-- it is made of the decoder that the bytes hold, and of the numbers
pub record HeldWatch (l v : List ℕ) (w : Watch) : Type 0 where
  pub held : unpack_of l ≡ holds w.decoder
  pub numbers : watch_words w ≡ get_or v 0 0 ∷ get_or v 1 0 ∷ get_or v 2 0 ∷ get_or v 3 0 ∷ []

pub watch_in_held : (l v : List ℕ) (w : Watch) → watch_in l v ≡ some w → HeldWatch l v w
unfolding watch_in
watch_in_held l v w is = by (unpack_of l) refl is
  where
    one : (d : Decoder) → unpack_of l ≡ holds d → watched d (get_or v 0 0) (get_or v 1 0) (look (get_or v 2 0) (get_or v 3 0)) ≡ w → HeldWatch l v w
    one d u e = record { held = u ∙ ap (λ (x : Watch). holds x.decoder) e; numbers = sym (ap watch_words e) }

    by : (u : Unpacked) → unpack_of l ≡ u → watch_held u (get_or v 0 0) (get_or v 1 0) (get_or v 2 0) (get_or v 3 0) ≡ some w → HeldWatch l v w
    by (no_record n) u h = never_some h
    by (holds d) u h =
        cases (ltb 255 (get_or v 2 0)) (λ t. never_some (rw t at h)) (λ t.
        let some_one : some (watched d (get_or v 0 0) (get_or v 1 0) (look (get_or v 2 0) (get_or v 3 0))) ≡ some w = rw t at h in
        one d u cc)

-- ---- the decoder that is left

abbrev StaysFrom : Watch → Watch → Type 0
StaysFrom w u = Stays w.decoder u.decoder

bytes_stay : (bs : List ℕ) (n : ℕ) (w : Watch) (m : List ℕ) → bad_decoder w.decoder ≡ false → StaysFrom w (watches_from n w m bs).watch
unfolding watches_from
bytes_stay [] n w m g = record { good = g; setup' = refl }
bytes_stay (b ∷ bs) n w m g =
    let d : Decoder = w.decoder in
    let one : Stays d (push_record d m b).decoder = record { good = push_good_stays d m b g; setup' = push_setup d m b } in
    cases (says_nothing (push_record d m b).answer)
    (λ yes.
    let more = bytes_stay bs (suc n) (moved_on w (push_record d m b).decoder b) (push_record d m b).memory one.good in
    rw yes (record { good = more.good; setup' = more.setup' ∙ one.setup' }))
    (λ not. rw not one)

slice_leaves : (w : Watch) (m chunk : List ℕ) → bad_decoder w.decoder ≡ false → StaysFrom w (watch_slice w m chunk).watch
unfolding watch_slice
slice_leaves w m chunk g =
    let same_one : StaysFrom w w = record { good = g; setup' = refl } in
    cases (bad_watch w (length chunk) || bad_decoder w.decoder) (λ t. rw t same_one) (λ t.
    cases (wrong_buffer w.decoder.capacity (length m)) (λ u. rw (t, u) same_one) (λ u. rw (t, u) (bytes_stay chunk 0 w m g)))

end_leaves : (w : Watch) → bad_decoder w.decoder ≡ false → StaysFrom w (watch_end w).watch
unfolding watch_end
end_leaves w g =
    cases (bad_watch w 0 || bad_decoder w.decoder) (λ t. rw t (record { good = g; setup' = refl })) (λ t.
    rw t (record { good = finalize_good_stays w.decoder g; setup' = finalize_setup w.decoder }))

stays_packed : (l : List ℕ) (d e : Decoder) → unpack_of l ≡ holds d → (bad_decoder d ≡ false → Stays d e) → CanBePacked e l
stays_packed l d e is stays =
    let h = holds_record l d is in
    let s = stays h.good in
    let long : e.capacity ≡ d.capacity = ap (λ (C : Setup). C.capacity) s.setup' in
    record { sound = s.good; small = rw long h.small; room = h.room }

output_told : (r : Result (Unit {0}) PackError) (m : List ℕ) → (filled r m).output ≡ m
output_told (Ok a) m = refl
output_told (Err P.BadState) m = refl
output_told (Err P.WrongBuffer) m = refl
output_told (Err P.OutputTooShort) m = refl

pub packed_told : (r : Result (Unit {0}) PackError) (d : Decoder) (l l' : List ℕ) → CanBePacked d l → filled r l' ≡ pack_into d l → l' ≡ packed_in d l
packed_told r d l l' can q = sym (output_told r l') ∙ ap (λ (f : Filled). f.output) (q ∙ pack_good d l can.sound can.small can.room)

-- ---- the calls over a watch

module _ (l v : List ℕ) (w : Watch) (is : some w ≡ watch_in l v) where
  held_in : unpack_of l ≡ holds w.decoder
  held_in = (watch_in_held l v w (sym is)).held

  pub slice_can_be_packed : (r : Watched) (m m' chunk : List ℕ) → after_watch r m' ≡ watch_slice w m chunk → CanBePacked r.watch.decoder l
  slice_can_be_packed r m m' chunk q =
      stays_packed l w.decoder r.watch.decoder held_in (λ g.
      let left : Watch = r.watch in
      let s : StaysFrom w (watch_slice w m chunk).watch = slice_leaves w m chunk g in
      rw (← q) at s)

  pub end_can_be_packed : (r : WatchEnded) → after_end r ≡ watch_end w → CanBePacked r.watch.decoder l
  end_can_be_packed r q =
      stays_packed l w.decoder r.watch.decoder held_in (λ g.
      let s : StaysFrom w (watch_end w).watch = end_leaves w g in
      rw (← q) at s)
