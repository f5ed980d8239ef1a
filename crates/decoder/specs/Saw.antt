-- claim: the cases of a push, one for each sentence of the push rules, with what is known in each. proofs/Saw.antt proves that every push is one of them.
use Rattle.std.specs.Prelude.{◌≡◌, false, List, [], ◌∷◌, ◌++◌, ℕ, suc, ◌+◌, ◌-◌, ◌%◌, ◌≤◌, ◌<◌, length, replicate, drop, take, get_or}
use Rattle.frame.specs.Frame.{missing, esc_seq, restart_seq}
use Rattle.decoder.specs.Push.{Setup, Mem, State, search, body, escape, done, silent, discarded, pays_out, memory, bad_escape, bad_message, Out, begun, says, put, tick, opened, matched_behind, more_noise, early, computed, misaligned, pad_of, crc_read, noticed, fresh, stopped}

-- what a good end sequence has: the right CRC, a fill that is a multiple of 4, p at most 3 and at most the fill less 4
abbrev pub Passed : Mem → ℕ → ℕ → Type 0
Passed m p read = (read ≡ computed m) × (length m.stored % 4 ≡ 0) × (p ≤ 3) × (p + 4 ≤ length m.stored)

-- the four bytes behind an escape, the last of them stored in m
pub data Judged (m : Mem) (four : List ℕ) : Out → Type 0 where
  is_data : four ≡ esc_seq → Judged m four (says (body 0 m) silent)
  restarts : four ≡ restart_seq → Judged m four (says begun (discarded (m.raw - 8)))
  good : get_or four 0 0 ≡ 0x1a → Passed m (pad_of four) (crc_read four)
      → Judged m four (says (done (take (length m.stored - 4 - pad_of four) m.stored)) (pays_out (take (length m.stored - 4 - pad_of four) m.stored)))
  bad : get_or four 0 0 ≡ 0x1a → (Passed m (pad_of four) (crc_read four) → ⊥)
      → Judged m four (says fresh (bad_message (crc_read four) (computed m) (misaligned m) (pad_of four)))
  shifts : (a : ℕ) → a ≡ missing (length m.stored) → 1 ≤ a → a ≤ 3 → take (suc a) four ≡ replicate a 0x1b ++ 0x1a ∷ []
      → Judged m four (says (escape (4 - a) m) silent)
  unknown : (four ≡ esc_seq → ⊥) → (four ≡ restart_seq → ⊥) → (get_or four 0 0 ≡ 0x1a → ⊥) → early (missing (length m.stored)) four ≡ false
      → Judged m four (says fresh (bad_escape (get_or four 0 0) (get_or four 1 0) (get_or four 2 0) (get_or four 3 0)))

pub data Saw (C : Setup) : State → ℕ → Out → Type 0 where
  sought : {n noise raw b : ℕ} (k : ℕ) → k ≡ matched_behind C.way n b → (k ≡ 8 → ⊥) → Saw C (search n noise raw) b (says (search k (more_noise noise n k) (stopped (suc raw))) silent)
  began : {n noise raw b : ℕ} → matched_behind C.way n b ≡ 8 → Saw C (search n noise raw) b (says begun (noticed noise))
  again : {bytes : List ℕ} {b : ℕ} {o : Out} → Saw C fresh b o → Saw C (done bytes) b o
  waits : {n b : ℕ} {m : Mem} → b ≡ 0x1b → (n ≡ 3 → ⊥) → Saw C (body n m) b (says (body (suc n) (tick m)) silent)
  opens : {n b : ℕ} {m : Mem} → b ≡ 0x1b → n ≡ 3 → Saw C (body n m) b (says (escape 0 (opened m)) silent)
  stores : {n b : ℕ} {m : Mem} → (b ≡ 0x1b → ⊥) → length m.stored + length (replicate n 0x1b ++ b ∷ []) ≤ C.capacity
      → Saw C (body n m) b (says (body 0 (put m (replicate n 0x1b ++ b ∷ []))) silent)
  full : {n b : ℕ} {m : Mem} → (b ≡ 0x1b → ⊥) → C.capacity < length m.stored + length (replicate n 0x1b ++ b ∷ [])
      → Saw C (body n m) b (says fresh memory)
  collects : {k b : ℕ} {m : Mem} → length m.stored + 1 ≤ C.capacity → k < 3 → Saw C (escape k m) b (says (escape (suc k) (put m (b ∷ []))) silent)
  judges : {k b : ℕ} {m : Mem} {o : Out} → length m.stored + 1 ≤ C.capacity → 3 ≤ k
      → Judged (put m (b ∷ [])) (drop (length (m.stored ++ b ∷ []) - 4) (m.stored ++ b ∷ [])) o → Saw C (escape k m) b o
  full' : {k b : ℕ} {m : Mem} → C.capacity < length m.stored + 1 → Saw C (escape k m) b (says fresh memory)
