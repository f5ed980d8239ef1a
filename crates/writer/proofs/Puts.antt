-- Bytes put behind bytes, and what a run over no output tells.
use mathlib.Core.Path.{◌≡◌, refl, sym, ap, ◌∙◌}
use mathlib.Core.List.{List, [], ◌∷◌, ◌++◌, append_assoc}
use Prim.Native.Nat.{min, ℕ, ◌+◌, ◌-◌, ◌^◌, ◌≤◌, ◌<◌}
use native.Mathlib.Omega.{arith}
use native.Mathlib.Decide.{dec_le}
use native.Mathlib.Nat.{add-zero, lt_of_not-le}
use lib.ListN.{length, take, drop, length-append, length-drop, take-append-drop}
use lib.Seq.{sets, sets-eq, length-sets, length-take-le, take_at, drop-append-add, drop-drop, drop_at}
use lib.Dec.{leb}
use borrow.Author.Tests.{le-leb, lt-leb}
use Rattle.writer.specs.Calls.{put_in}
use Rattle.writer.specs.Cut.{farthest, capped, Fits, Puts, PutsOn}
use Rattle.writer.specs.declared.Output.{Output}

-- bytes behind bytes
pub put_then : (out : List ℕ) (at : ℕ) (v w : List ℕ) → at + length v ≤ length out → put_in (put_in out at v) (at + length v) w ≡ put_in out at (v ++ w)
unfolding put_in
put_then out at v w h =
    let a = take at out in
    let d = drop (at + length v) out in
    let n : length (a ++ v) ≡ at + length v = omega (arith, length-append a v, length-take-le at out (omega arith)) in
    let e : a ++ (v ++ d) ≡ (a ++ v) ++ d = sym (append_assoc a v d) in
    let t : take (at + length v) ((a ++ v) ++ d) ≡ a ++ v = take_at (a ++ v) d (at + length v) n in
    let same : at + length v + length w ≡ at + length (v ++ w) = omega (arith, length-append v w) in
    let r : drop (at + length v + length w) ((a ++ v) ++ d) ≡ drop (at + length (v ++ w)) out =
    ap (λ (i : ℕ). drop (i + length w) ((a ++ v) ++ d)) (sym n) ∙ drop-append-add (a ++ v) d (length w) ∙ drop-drop (length w) (at + length v) out
    ∙ ap (λ (i : ℕ). drop i out) same in
    rw (e, t, r) (append_assoc a v _ ∙ ap (λ (x : List ℕ). a ++ x) (sym (append_assoc v w _)))

pub put_length : (out : List ℕ) (at : ℕ) (v : List ℕ) → at + length v ≤ length out → length (put_in out at v) ≡ length out
unfolding put_in
put_length out at v h =
    let a = take at out in
    let d = drop (at + length v) out in
    omega (arith, length-append a (v ++ d), length-append v d, length-take-le at out (omega arith), length-drop (at + length v) out)

-- a run of stores
pub sets_put : (out : List ℕ) (at : ℕ) (b : List ℕ) → at + length b ≤ length out → sets out at b ≡ put_in out at b
unfolding put_in
sets_put out at b h = sets-eq b out at h ∙ append_assoc (take at out) b _

pub cap_is : (n : ℕ) → n ≤ farthest → capped n ≡ n
unfolding capped
cap_is n h = rw (le-leb n farthest h)

pub cap_far : (n : ℕ) → farthest < n → capped n ≡ farthest
unfolding capped
cap_far n h = rw (lt-leb n farthest h)

-- as the code caps it
pub cap_min : (n : ℕ) → min n 18446744073709551615 ≡ capped n
cap_min n = by (dec_le n farthest)
  where
    by : Dec (n ≤ farthest) → min n 18446744073709551615 ≡ capped n
    by (yes h) = rw (cap_is n h) (omega arith)
    by (no h) = rw (cap_far n (lt_of_not-le h)) (omega (arith, lt_of_not-le h))

-- a place that stays at the greatest one, moved on again
pub cap_then : (m n : ℕ) → capped (capped m + n) ≡ capped (m + n)
cap_then m n = by m n (dec_le m farthest)
  where
    beyond : (x : ℕ) → Dec (x ≤ farthest) → farthest ≤ x → capped x ≡ farthest
    beyond x (yes h) k = cap_is x h ∙ omega arith
    beyond x (no h) k = cap_far x (lt_of_not-le h)

    by : (m n : ℕ) → Dec (m ≤ farthest) → capped (capped m + n) ≡ capped (m + n)
    by m n (yes h) = rw (cap_is m h)
    by m n (no h) =
        let far : farthest < m = lt_of_not-le h in
        rw (cap_far m far) (beyond (farthest + n) (dec_le (farthest + n) farthest) (omega arith) ∙ sym (cap_far (m + n) (omega arith)))

-- a place that is capped is within an output exactly where it would be
pub cap_within : (n len : ℕ) → len < farthest → leb (capped n) len ≡ leb n len
cap_within n len small = by n (dec_le n farthest)
  where
    by : (n : ℕ) → Dec (n ≤ farthest) → leb (capped n) len ≡ leb n len
    by n (yes h) = rw (cap_is n h)
    by n (no h) = let far : farthest < n = lt_of_not-le h in rw (cap_far n far) (lt-leb farthest len small ∙ sym (lt-leb n len (omega arith)))

pub puts_none : (out : List ℕ) (at : ℕ) → at ≤ farthest → Puts out at [] out at
unfolding put_in
puts_none out at h =
    record {
      place = sym (ap capped (add-zero at) ∙ cap_is at h);
      same = refl;
      bytes = λ f. sym (ap (λ (k : ℕ). take at out ++ drop k out) (add-zero at) ∙ take-append-drop at out);
    }

pub puts_then : (v w : List ℕ) {a b c : List ℕ} {at n m : ℕ} → Puts a at v b n → Puts b n w c m → Puts a at (v ++ w) c m
puts_then v w {a} {b} {c} {at} {n} {m} p q =
    let l = length-append v w in
    record {
      place = q.place ∙ ap (λ (k : ℕ). capped (k + length w)) p.place ∙ cap_then (at + length v) (length w) ∙ ap capped (omega (arith, l));
      same = q.same ∙ p.same;
      bytes = λ f. stands f;
    }
  where
    stands : Fits a at (v ++ w) → c ≡ put_in a at (v ++ w)
    stands f =
        let l = length-append v w in
        let here : at + length v ≤ length a = omega (arith, l, f.room) in
        let first_that : Fits a at v = record { room = here; small = f.small } in
        let e : n ≡ at + length v = p.place ∙ cap_is (at + length v) (omega (arith, here, f.small)) in
        let behind : Fits b n w = record { room = omega (arith, e, l, f.room, p.same); small = omega (arith, p.same, f.small) } in
        q.bytes behind ∙ ap (λ (k : ℕ). put_in b k w) e ∙ ap (λ (x : List ℕ). put_in x (at + length v) w) (p.bytes first_that) ∙ put_then a at v w here

-- where the bytes fit, the place is behind them and they stand there
pub puts_there : {a b : List ℕ} (v : List ℕ) {at n : ℕ} → Puts a at v b n → Fits a at v → (n ≡ at + length v) × (b ≡ put_in a at v)
puts_there v {at} p f = (p.place ∙ cap_is (at + length v) (omega (arith, f.room, f.small)), p.bytes f)

pub cap_le : (n : ℕ) → capped n ≤ farthest
cap_le n = by (dec_le n farthest)
  where
    by : Dec (n ≤ farthest) → capped n ≤ farthest
    by (yes h) = rw (cap_is n h) h
    by (no h) = rw (cap_far n (lt_of_not-le h)) (omega arith)

-- nothing is put behind nothing
pub adds_none : (w : Output) → PutsOn w [] w
adds_none w = record { same_output = refl; puts = λ h. puts_none w.out.now w.at h }

-- bytes put behind bytes, in one output
pub adds_then : (v w : List ℕ) {a b c : Output} → PutsOn a v b → PutsOn b w c → PutsOn a (v ++ w) c
adds_then v w {a} p q =
    record {
      same_output = q.same_output ∙ p.same_output;
      puts = λ h. puts_then v w (p.puts h) (q.puts (rw (p.puts h).place (cap_le (a.at + length v))));
    }

-- the same bytes, by another name
pub adds_as : {v w : List ℕ} {a b : Output} → v ≡ w → PutsOn a v b → PutsOn a w b
adds_as e p = rw (← e) p

-- in a loop: what is still to be put makes the whole
pub record Still (before : Output) (whole : List ℕ) (now : Output) (rest : List ℕ) : Type 0 where
  pub makes : (after : Output) → PutsOn now rest after → PutsOn before whole after

pub still_less : {before now next : Output} {whole rest : List ℕ} (b : ℕ) → Still before whole now (b ∷ rest) → PutsOn now (b ∷ []) next → Still before whole next rest
still_less {rest = rest} b s q = record { makes = λ after r. s.makes after (adds_then (b ∷ []) rest q r) }

pub still_none : {before now : Output} {whole : List ℕ} → Still before whole now [] → PutsOn before whole now
still_none {now = now} s = s.makes now (adds_none now)

-- a copy into a part of the output
pub puts_copy : (out : List ℕ) (at end : ℕ) (part new after : List ℕ) → end ≡ min (at + length part) 18446744073709551615 → end ≤ length out → new ≡ part → after ≡ take at out ++ (new ++ drop (end - at) (drop at out)) → length out < 2 ^ 63 → Puts out at part after end
unfolding put_in
puts_copy out at end part new after e h n a small =
    let k : end ≡ at + length part = omega (arith, e) in
    let d : drop (end - at) (drop at out) ≡ drop (at + length part) out = drop-drop (end - at) at out ∙ ap (λ (i : ℕ). drop i out) (omega (arith, k)) in
    let there : after ≡ put_in out at part = a ∙ rw (n, d) in
    record { place = e ∙ cap_min (at + length part); same = ap length there ∙ put_length out at part (omega (arith, k)); bytes = λ f. there }

-- where nothing fits nothing need stand
pub puts_beyond : (out : List ℕ) (at : ℕ) (b : List ℕ) (next : ℕ) → next ≡ capped (at + length b) → length out < at + length b → Puts out at b out next
puts_beyond out at b next e h = record { place = e; same = refl; bytes = λ f. absurd (omega (arith, f.room)) }

-- a run of stores, where it fits
pub puts_sets : (out : List ℕ) (at : ℕ) (b after : List ℕ) → after ≡ sets out at b → at + length b ≤ length out → length out ≤ farthest → Puts out at b after (at + length b)
puts_sets out at b after e h small =
    record {
      place = sym (cap_is (at + length b) (omega arith));
      same = ap length e ∙ length-sets out at b;
      bytes = λ f. e ∙ sets_put out at b h;
    }

-- the part that was put, from its place to the one behind it
pub part_put : (out : List ℕ) (at : ℕ) (b : List ℕ) → at + length b ≤ length out → take (at + length b - at) (drop at (put_in out at b)) ≡ b
unfolding put_in
part_put out at b h =
    let e : length b ≡ at + length b - at = omega arith in
    rw (drop_at (take at out) (b ++ drop (at + length b) out) at (length-take-le at out (omega arith))) (take_at b _ _ e)

-- the bytes had room and stand there
pub record WasPut (before : Output) (b : List ℕ) (after : Output) : Type 0 where
  pub room : before.at + length b ≤ length before.out.now
  pub place : after.at ≡ before.at + length b
  pub bytes : after.out.now ≡ put_in before.out.now before.at b
  pub inside : after.at ≤ length after.out.now
  pub part : take (after.at - before.at) (drop before.at after.out.now) ≡ b

pub was_put : (b : List ℕ) {w n : Output} → PutsOn w b n → w.at + length b ≤ length w.out.now → length w.out.now < 2 ^ 63 → WasPut w b n
was_put b {w} p room small =
    let q = p.puts (omega arith) in
    let t = puts_there b q (record { room = room; small = omega arith }) in
    record {
      room = room;
      place = t.0;
      bytes = t.1;
      inside = omega (arith, t.0, q.same);
      part = rw (t.0, t.1) (part_put w.out.now w.at b room);
    }
