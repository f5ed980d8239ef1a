-- cut: what each private function answers over the record's fields and the memory. proofs/Tied.antt ties it to the push rules, for every record that is not refused.
use Rattle.std.specs.Prelude.{ℕ, suc, ◌+◌, ◌-◌, ◌*◌, ◌%◌, ◌≤◌, List, [], ◌∷◌, ◌++◌, Bool, true, false, cond, not, Ok, Err, length, get_or, take, drop, replicate, ltb, leb, eqb}
use Rattle.std.proofs.lemmas.List.Edits.{sets}
use Rattle.refusals.specs.Numbers.{limit}
use Rattle.crc_x25.specs.Crc.{start, register, final_xor}
use Rattle.frame.specs.Frame.{esc_seq, restart_seq, missing, same}
use Rattle.decoder.specs.Push as P
use Rattle.decoder.specs.Push.{Setup, Out, begun, stopped, searching, early}
use Rattle.decoder.specs.Record.{Event, After, after_push, setup, record_with, recounted, record_of, new_record, unknown_way, bad_decoder, wrong_buffer}
use Rattle.decoder.specs.declared.DecodeState.{DecodeState}
use Rattle.decoder.specs.declared.DecodeState.TheVariants.{LookingForMessageStart, ParsingNormal, ParsingEscChars, ParsingEscPayload, Done}
use Rattle.decoder.specs.declared.Decoder.{Decoder}
use Rattle.decoder.specs.declared.DecodeErr.TheVariants.{DiscardedBytes, InvalidEsc, OutOfMemory, InvalidMessage}
use Rattle.decoder.specs.declared.Pushed.{Pushed}

-- a record inside a frame whose bytes stand in the memory m, k of them behind what the CRC has gone over
abbrev pub FrameHeld : Decoder → List ℕ → ℕ → Type 0
FrameHeld d m k = (d.crc_idx + k ≤ d.fill) × (d.fill ≤ length m) × (8 ≤ d.raw_msg_len)

-- ---- the code's words for what a step says

abbrev pub code_event : P.PushEvent → Event
code_event P.silent = Ok false
code_event (P.discarded n) = Err (DiscardedBytes n)
code_event (P.pays_out bytes) = Ok true
code_event P.memory = Err OutOfMemory
code_event (P.bad_escape a b c d) = Err (InvalidEsc a b c d)
code_event (P.bad_message read computed misaligned p) = Err (InvalidMessage read computed misaligned p)

abbrev pub code : Setup → Out → Pushed
code C o = record { decoder = record_of C o.state; event = code_event o.event }

-- what a function gave, and the memory as it is then
pub record Cut : Type 0 where
  pub answer : Pushed
  pub memory : List ℕ

abbrev pub cut : Pushed → List ℕ → Cut
cut r m = record { answer = r; memory = m }

abbrev pub told_cut : Cut → After
told_cut c = after_push c.answer c.memory

-- ---- records made from a record

-- one byte more pushed and k stored, in state s
abbrev pub stored_on : Decoder → ℕ → DecodeState → Decoder
stored_on d k s = recounted d (d.fill + k) (stopped (suc d.raw_msg_len)) s

-- one byte more pushed and none stored
abbrev pub pushed_on : Decoder → DecodeState → Decoder
pushed_on d s = recounted d d.fill (stopped (suc d.raw_msg_len)) s

abbrev pub in_state : Decoder → DecodeState → Decoder
in_state d s = recounted d d.fill d.raw_msg_len s

abbrev pub quiet : Decoder → Pushed
quiet d = record { decoder = d; event = Ok false }

abbrev pub fresh_with : Setup → Event → Pushed
fresh_with C e = record { decoder = new_record C; event = e }

-- ---- storing

abbrev pub store_step : Decoder → List ℕ → List ℕ → Cut
store_step d m vs =
    cond (leb (d.fill + length vs) (length m))
    (cut (quiet (stored_on d (length vs) ParsingNormal)) (sets m d.fill vs))
    (cut (fresh_with (setup d) (Err OutOfMemory)) m)

unfoldable pub normal_step : Decoder → List ℕ → ℕ → Cut
normal_step d m b = cond (eqb b 0x1b) (cut (quiet (pushed_on d (ParsingEscChars 1))) m) (store_step d m (b ∷ []))

unfoldable pub escape_at : Decoder → List ℕ → Decoder
escape_at d m =
    record_with (setup d) d.fill (stopped (suc d.raw_msg_len))
    (register (register d.crc (take (d.fill - d.crc_idx) (drop d.crc_idx m))) esc_seq) d.fill (ParsingEscPayload 0)

unfoldable pub wait_step : Decoder → List ℕ → ℕ → ℕ → Cut
wait_step d m n b =
    cond (eqb b 0x1b)
    (cond (eqb n 3) (cut (quiet (escape_at d m)) m) (cut (quiet (pushed_on d (ParsingEscChars (n + 1)))) m))
    (store_step d m (replicate n 0x1b ++ (b ∷ [])))

-- ---- judging, where the last of the four bytes has been stored

-- the four judged bytes, and the k-th of them, of a fill f
abbrev pub four : ℕ → List ℕ → List ℕ
four f m = take 4 (drop (f - 4) m)

abbrev pub judged_at : ℕ → List ℕ → ℕ → ℕ
judged_at f m k = get_or m (f - 4 + k) 0

unfoldable pub sound : ℕ → ℕ → ℕ → ℕ → Bool
sound f read computed p = cond (eqb read computed) (cond (eqb (f % 4) 0) (cond (leb p 3) (leb (p + 4) f) false) false) false

unfoldable pub verdict : Setup → ℕ → ℕ → ℕ → ℕ → Pushed
verdict C f read computed p =
    cond (sound f read computed p)
    (record { decoder = record_with C (f - (p + 4)) 0 start 0 Done; event = Ok true })
    (fresh_with C (Err (InvalidMessage read computed (not (eqb (f % 4) 0)) p)))

abbrev pub computed_crc : Decoder → List ℕ → ℕ
computed_crc d m = final_xor (register d.crc (take (d.fill - 2 - d.crc_idx) (drop d.crc_idx m)))

unfoldable pub end_step : Decoder → List ℕ → Pushed
end_step d m =
    verdict (setup d) d.fill (judged_at d.fill m 2 + judged_at d.fill m 3 * 256) (computed_crc d m) (judged_at d.fill m 1)

unfoldable pub other_step : Decoder → List ℕ → Pushed
other_step d m =
    cond (early (missing d.fill) (four d.fill m))
    (quiet (in_state d (ParsingEscPayload (4 - missing d.fill))))
    (fresh_with (setup d) (Err (InvalidEsc (judged_at d.fill m 0) (judged_at d.fill m 1) (judged_at d.fill m 2) (judged_at d.fill m 3))))

unfoldable pub judge_step : Decoder → List ℕ → Pushed
judge_step d m =
    cond (same (four d.fill m) esc_seq)
    (quiet (in_state d ParsingNormal))
    (cond (same (four d.fill m) restart_seq)
    (record { decoder = record_of (setup d) begun; event = Err (DiscardedBytes (d.raw_msg_len - 8)) })
    (cond (eqb (judged_at d.fill m 0) 0x1a) (end_step d m) (other_step d m)))

unfoldable pub escape_step : Decoder → List ℕ → ℕ → ℕ → Cut
escape_step d m k b =
    cond (leb (d.fill + 1) (length m))
    (cond (ltb k 3)
    (cut (quiet (stored_on d 1 (ParsingEscPayload (k + 1)))) (sets m d.fill (b ∷ [])))
    (cut (judge_step (stored_on d 1 (ParsingEscPayload 3)) (sets m d.fill (b ∷ []))) (sets m d.fill (b ∷ []))))
    (cut (fresh_with (setup d) (Err OutOfMemory)) m)

-- ---- a push that is not refused

unfoldable pub step_cut : DecodeState → Decoder → List ℕ → ℕ → Cut
step_cut (LookingForMessageStart n noise) d m b = cut (code (setup d) (searching d.way n noise d.raw_msg_len b)) m
step_cut ParsingNormal d m b = normal_step d m b
step_cut (ParsingEscChars n) d m b = wait_step d m n b
step_cut (ParsingEscPayload k) d m b = escape_step d m k b
step_cut Done d m b = cut (code (setup d) (searching d.way 0 0 0 b)) m

-- ---- what payload asks

abbrev pub is_done : DecodeState → Bool
is_done (LookingForMessageStart n noise) = false
is_done ParsingNormal = false
is_done (ParsingEscChars n) = false
is_done (ParsingEscPayload k) = false
is_done Done = true

-- ---- the short way of a push

abbrev pub is_normal : DecodeState → Bool
is_normal (LookingForMessageStart n noise) = false
is_normal ParsingNormal = true
is_normal (ParsingEscChars n) = false
is_normal (ParsingEscPayload k) = false
is_normal Done = false

-- a byte of a frame that is no 1b and has room, with record and buffer as they should be
unfoldable pub plain_byte_claim : Decoder → ℕ → ℕ → Bool
plain_byte_claim d lent b =
    cond (is_normal d.state)
    (cond (eqb b 0x1b) false
    (cond (leb lent d.fill) false
    (cond (ltb d.fill d.crc_idx) false
    (cond (ltb d.raw_msg_len 8) false (cond (eqb lent d.capacity) (cond (ltb limit lent) false (not (unknown_way d.way))) false)))))
    false

-- ---- a payload in the buffer

unfoldable pub payload_in : Decoder → ℕ → Bool
payload_in d lent = cond (bad_decoder d) false (cond (wrong_buffer d.capacity lent) false (is_done d.state))
