-- rule: the push rules of document 01, with document 02's second way of searching, over a state that holds only the counts that it uses and the stored bytes as a list.
use Rattle.std.specs.Prelude.{Bool, false, cond, not, List, [], ◌∷◌, ◌++◌, ℕ, suc, ◌+◌, ◌-◌, ◌*◌, ◌%◌, min, length, take, drop, get_or, replicate, eqb, ltb, leb}
use Rattle.refusals.specs.Numbers.{count_stop}
use Rattle.crc_x25.specs.Crc.{start, register, final_xor}
use Rattle.frame.specs.Frame.{esc_seq, restart_seq, start_seq, missing, same}
use Rattle.search.specs.Search.{most_matched}
-- what never changes of a decoder: the code's struct, its capacity and its way of searching
pub use Rattle.decoder.specs.declared.Setup.{Setup}

-- the ways of searching: document 01's, and that of document 02's Q-7
abbrev pub first_way : ℕ
first_way = 1

abbrev pub second_way : ℕ
second_way = 2

-- the setup of a way and a capacity
abbrev pub in_way : ℕ → ℕ → Setup
in_way way n = record { capacity = n; way = way }

-- and of this capacity, in the first way
abbrev pub sized : ℕ → Setup
sized n = in_way first_way n

-- what a running frame has: the bytes stored, the CRC register and how many stored bytes it has gone over, the raw length
pub record Mem : Type 0 where
  pub stored : List ℕ
  pub reg : ℕ
  pub idx : ℕ
  pub raw : ℕ

pub data State : Type 0 where
  search : ℕ → ℕ → ℕ → State  -- start bytes matched, noise, raw length
  body : ℕ → Mem → State  -- 0 to 3 waiting 1b; with 0 the paper's 'normal'
  escape : ℕ → Mem → State  -- 0 to 3 bytes behind an escape read
  done : List ℕ → State  -- behind a payload

pub data PushEvent : Type 0 where
  silent : PushEvent
  discarded : ℕ → PushEvent
  pays_out : List ℕ → PushEvent
  memory : PushEvent
  bad_escape : ℕ → ℕ → ℕ → ℕ → PushEvent
  bad_message : ℕ → ℕ → Bool → ℕ → PushEvent  -- CRC read, CRC computed, misaligned, pad count

pub record Out : Type 0 where
  pub state : State
  pub event : PushEvent

abbrev pub says : State → PushEvent → Out
says s e = record { state = s; event = e }

-- counts stop at 4,294,967,295
abbrev pub stopped : ℕ → ℕ
stopped n = min n count_stop

abbrev pub fresh : State
fresh = search 0 0 0

-- where a frame begins
abbrev pub begun : State
begun = body 0 (record { stored = []; reg = register start start_seq; idx = 0; raw = 8 })

-- ---- searching

-- noise over 0 is an event
abbrev pub noticed : ℕ → PushEvent
noticed noise = cond (eqb noise 0) silent (discarded noise)

-- behind n matched start bytes, is b the next one?
abbrev pub starts : ℕ → ℕ → Bool
starts n b = cond (ltb n 4) (eqb b 0x1b) (eqb b 0x01)

-- how many start bytes are matched behind n of them and the byte b. In the second way as many as the last bytes are, where of the bytes before b only the n can be among them; otherwise one more, or none
abbrev pub matched_behind : ℕ → ℕ → ℕ → ℕ
matched_behind way n b = cond (eqb way second_way) (most_matched (take n start_seq ++ b ∷ [])) (cond (starts n b) (suc n) 0)

-- the noise where k start bytes are matched behind n of them and a byte: those that aren't matched any more come to it
abbrev pub more_noise : ℕ → ℕ → ℕ → ℕ
more_noise noise n k = cond (eqb k (suc n)) noise (stopped (noise + (suc n - k)))

unfoldable pub searching : ℕ → ℕ → ℕ → ℕ → ℕ → Out
searching way n noise raw b =
    let k : ℕ = matched_behind way n b in
    cond (eqb k 8) (says begun (noticed noise)) (says (search k (more_noise noise n k) (stopped (suc raw))) silent)

-- ---- inside a frame

-- one more byte pushed, and the bytes l stored
abbrev pub put : Mem → List ℕ → Mem
put m l = record { stored = m.stored ++ l; reg = m.reg; idx = m.idx; raw = stopped (suc m.raw) }

-- one more byte pushed, and none stored
abbrev pub tick : Mem → Mem
tick m = record { stored = m.stored; reg = m.reg; idx = m.idx; raw = stopped (suc m.raw) }

-- an escape opens: its four 1b aren't stored, but the CRC goes over them
abbrev pub opened : Mem → Mem
opened m =
    record {
      stored = m.stored;
      reg = register (register m.reg (drop m.idx m.stored)) esc_seq;
      idx = length m.stored;
      raw = stopped (suc m.raw);
    }

-- bytes are stored if all of them fit
unfoldable pub store : Setup → Mem → List ℕ → (Mem → Out) → Out
store C m l then = cond (leb (length m.stored + length l) C.capacity) (then (put m l)) (says fresh memory)

-- ---- the four bytes behind an escape, stored last

-- the CRC over all but the two bytes that say it
abbrev pub computed : Mem → ℕ
computed m = final_xor (register m.reg (drop m.idx (take (length m.stored - 2) m.stored)))

abbrev pub misaligned : Mem → Bool
misaligned m = not (eqb (length m.stored % 4) 0)

-- an end sequence with pad count p and the CRC `read` is good
abbrev pub sound? : Mem → ℕ → ℕ → Bool
sound? m p read =
    cond (eqb read (computed m))
    (cond (eqb (length m.stored % 4) 0) (cond (leb p 3) (leb (p + 4) (length m.stored)) false) false)
    false

unfoldable pub finish : Mem → ℕ → ℕ → Out
finish m p read =
    let payload : List ℕ = take (length m.stored - 4 - p) m.stored in
    cond (sound? m p read) (says (done payload) (pays_out payload)) (says fresh (bad_message read (computed m) (misaligned m) p))

-- a > 0, the first a of the four are 1b and the next is 1a
abbrev pub early : ℕ → List ℕ → Bool
early a four = cond (eqb a 0) false (same (take (suc a) four) (replicate a 0x1b ++ 0x1a ∷ []))

-- what an end sequence says: 1a, the pad count, then the CRC low byte first
abbrev pub pad_of : List ℕ → ℕ
pad_of four = get_or four 1 0

abbrev pub crc_read : List ℕ → ℕ
crc_read four = get_or four 2 0 + 256 * get_or four 3 0

unfoldable pub judge : Mem → List ℕ → Out
judge m four =
    cond (same four esc_seq) (says (body 0 m) silent)
    (cond (same four restart_seq) (says begun (discarded (m.raw - 8)))
    (cond (eqb (get_or four 0 0) 0x1a) (finish m (pad_of four) (crc_read four))
    (cond (early (missing (length m.stored)) four) (says (escape (4 - missing (length m.stored)) m) silent)
    (says fresh (bad_escape (get_or four 0 0) (get_or four 1 0) (get_or four 2 0) (get_or four 3 0))))))

-- ---- a push

unfoldable pub step : Setup → State → ℕ → Out
step C (search n noise raw) b = searching C.way n noise raw b
step C (done P) b = searching C.way 0 0 0 b
step C (body n m) b =
    cond (eqb b 0x1b)
    (cond (eqb n 3) (says (escape 0 (opened m)) silent) (says (body (suc n) (tick m)) silent))
    (store C m (replicate n 0x1b ++ b ∷ []) (λ m'. says (body 0 m') silent))
step C (escape k m) b =
    store C m (b ∷ []) (λ m'.
    cond (ltb k 3) (says (escape (suc k) m') silent) (judge m' (drop (length m'.stored - 4) m'.stored)))

-- ---- finalize and reset, both of which leave the state fresh

-- no event on a fresh search or behind a payload
unfoldable pub finalized : State → PushEvent
finalized (search n noise raw) = cond (eqb n 0) (cond (eqb noise 0) silent (discarded raw)) (discarded raw)
finalized (body n m) = discarded m.raw
finalized (escape k m) = discarded m.raw
finalized (done P) = silent

unfoldable pub reset_count : State → ℕ
reset_count (search n noise raw) = raw
reset_count (body n m) = m.raw
reset_count (escape k m) = m.raw
reset_count (done P) = 0
