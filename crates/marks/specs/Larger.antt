-- claim: a larger buffer takes nothing away (document 02, Q-12). Two decoders made the same way, each lent its own buffer, are given the same: up to the smaller one's first OutOfMemory they say the same, and hand back the same payloads.
use Rattle.std.specs.Prelude.{◌≡◌, Bool, false, cond, List, [], ◌∷◌, ◌++◌, map, ℕ, ◌≤◌, length, take, get_or, eqb}
use Rattle.refusals.specs.Numbers.{decoder_out_of_memory_no, limit}
use Rattle.decoder.specs.Record.{DecoderAnswer, nothing, payload, count, refusal}
use Rattle.decoder.specs.Run.{KnownWay, Op, push}
use Rattle.decoder.specs.declared.Setup.{Setup}
use Rattle.marks.specs.Decoders.{Machine, LeftBehind, answers, left_behind}
use Rattle.marks.specs.Chunks.{Slicer, each_byte, Use, one_op, slice, HeardUse, heard_use, uses_say, uses_leave}

-- is it OutOfMemory?
abbrev pub is_full : DecoderAnswer → Bool
is_full nothing = false
is_full (payload bytes) = false
is_full (count k) = false
is_full (refusal k values) = eqb k decoder_out_of_memory_no

-- what stands before the first that the test holds of
unfoldable pub before_first : {A : Type 0} → (A → Bool) → List A → List A
before_first test [] = []
before_first test (a ∷ more) = cond (test a) [] (a ∷ before_first test more)

-- the answers before the first OutOfMemory
abbrev pub before_full : List DecoderAnswer → List DecoderAnswer
before_full l = before_first is_full l

abbrev pub BeginsWith : {A : Type 0} → List A → List A → Type 0
BeginsWith l first = take (length first) l ≡ first

-- a decoder's own buffer: as long as its capacity, which is within the limit, and of any content
pub record OwnBuffer (C : Setup) (m : List ℕ) : Type 0 where
  pub long : length m ≡ C.capacity
  pub within : C.capacity ≤ limit

-- what operations on a new decoder answer, and what is handed back as the payload behind them
abbrev pub new_says : {S : Type 0} → Machine S → Setup → List ℕ → List Op → List DecoderAnswer
new_says M C m os = answers M (M.new C) m os

abbrev pub new_hands : {S : Type 0} → Machine S → Setup → List ℕ → List Op → List ℕ
new_hands {S} M C m os =
    let k : LeftBehind S = left_behind M (M.new C) m os in
    M.payload_of k.decoder k.memory

-- What the larger one, D, answers before its own first OutOfMemory begins with what the smaller one, C, answers before its first: so up to that one the answers are equal, payloads and the numbers of finalize and reset with them, and the larger one has no OutOfMemory before then.
-- And where the smaller one has none, both hand back the same. So they do behind each operation before its first: the operations may be those up to there
pub record LosesNothing {S : Type 0} (M : Machine S) (C D : Setup) (m n : List ℕ) (os : List Op) : Type 0 where
  pub says : BeginsWith (before_full (new_says M D n os)) (before_full (new_says M C m os))
  pub hands : before_full (new_says M C m os) ≡ new_says M C m os → new_hands M D n os ≡ new_hands M C m os

-- both of one way of searching, which may be an unknown one
abbrev pub Larger : {S : Type 0} → Machine S → Type 0
Larger M = (C D : Setup) (m n : List ℕ) → OwnBuffer C m → OwnBuffer D n → C.way ≡ D.way → C.capacity ≤ D.capacity → (os : List Op) → LosesNothing M C D m n os

-- ---- the same slices among the operations

-- what is heard of them; what they leave, and what is handed back then
abbrev pub new_hears : {S : Type 0} → Slicer S → Setup → List ℕ → List Use → List HeardUse
new_hears M C m us = uses_say M (M.machine.new C) m us

abbrev pub new_leaves : {S : Type 0} → Slicer S → Setup → List ℕ → List Use → LeftBehind S
new_leaves M C m us = uses_leave M (M.machine.new C) m us

abbrev pub used_hands : {S : Type 0} → Slicer S → Setup → List ℕ → List Use → List ℕ
used_hands M C m us = M.machine.payload_of (new_leaves M C m us).decoder (new_leaves M C m us).memory

-- the calls before the first that answers OutOfMemory
abbrev pub is_full_call : HeardUse → Bool
is_full_call h = is_full h.answer

abbrev pub calls_before_full : List HeardUse → List HeardUse
calls_before_full l = before_first is_full_call l

-- how many bytes call k took, counted from 0
abbrev pub taken_at : ℕ → List HeardUse → ℕ
taken_at k l = (get_or l k (heard_use nothing 0)).taken

-- Each call says the same, and takes as many bytes of a slice, up to the smaller one's first call that answers OutOfMemory. Of that slice the larger one takes at least as many bytes, so that it has no OutOfMemory at an earlier byte.
-- And where the smaller one has none, both hand back the same. M is the smaller one's and N the larger one's: the same decoder, or one that two callers use
pub record LosesNothingBySlices {S : Type 0} (M N : Slicer S) (C D : Setup) (m n : List ℕ) (us : List Use) : Type 0 where
  pub says : BeginsWith (calls_before_full (new_hears N D n us)) (calls_before_full (new_hears M C m us))
  pub takes : taken_at (length (calls_before_full (new_hears M C m us))) (new_hears M C m us) ≤ taken_at (length (calls_before_full (new_hears M C m us))) (new_hears N D n us)
  pub hands : calls_before_full (new_hears M C m us) ≡ new_hears M C m us → used_hands N D n us ≡ used_hands M C m us

abbrev pub LargerBySlices : {S : Type 0} → Slicer S → Type 0
LargerBySlices M = (C D : Setup) (m n : List ℕ) → OwnBuffer C m → OwnBuffer D n → C.way ≡ D.way → C.capacity ≤ D.capacity → (us : List Use) → LosesNothingBySlices M M C D m n us

-- and behind them the question whether a payload stands there is answered alike: `ask` says it of a decoder and its buffer
abbrev pub LargerAsked : {S : Type 0} → Slicer S → (S → List ℕ → DecoderAnswer) → Type 0
LargerAsked M ask =
    (C D : Setup) (m n : List ℕ) → OwnBuffer C m → OwnBuffer D n → C.way ≡ D.way → C.capacity ≤ D.capacity → (us : List Use)
    → calls_before_full (new_hears M C m us) ≡ new_hears M C m us → ask (new_leaves M D n us).decoder (new_leaves M D n us).memory ≡ ask (new_leaves M C m us).decoder (new_leaves M C m us).memory

-- ---- each with slices of its own

-- What was done in uses of which hs was heard: each operation, and each byte of a slice that was taken. Each use is heard, so the second case never occurs
unfoldable pub done_in : List Use → List HeardUse → List Op
done_in [] hs = []
done_in (u ∷ us) [] = []
done_in (one_op o ∷ us) (h ∷ hs) = o ∷ done_in us hs
done_in (slice chunk ∷ us) (h ∷ hs) = map push (take h.taken chunk) ++ done_in us hs

-- and an answer for each
unfoldable pub said_in : List Use → List HeardUse → List DecoderAnswer
said_in [] hs = []
said_in (u ∷ us) [] = []
said_in (one_op o ∷ us) (h ∷ hs) = h.answer ∷ said_in us hs
said_in (slice chunk ∷ us) (h ∷ hs) = each_byte h.taken h.answer ++ said_in us hs

abbrev pub new_does : {S : Type 0} → Slicer S → Setup → List ℕ → List Use → List Op
new_does M C m us = done_in us (new_hears M C m us)

abbrev pub new_says_each : {S : Type 0} → Slicer S → Setup → List ℕ → List Use → List DecoderAnswer
new_says_each M C m us = said_in us (new_hears M C m us)

pub record LosesNothingCut {S : Type 0} (M N : Slicer S) (C D : Setup) (m n : List ℕ) (us us' : List Use) : Type 0 where
  pub says : BeginsWith (before_full (new_says_each N D n us')) (before_full (new_says_each M C m us))
  pub hands : before_full (new_says_each M C m us) ≡ new_says_each M C m us → used_hands N D n us' ≡ used_hands M C m us

-- where both have done the same, however it was cut. The way is a known one: of an unknown one a slice takes no byte, but its refusal is heard, so that there are as many answers as calls
abbrev pub LargerCutAnyhow : {S : Type 0} → Slicer S → Type 0
LargerCutAnyhow M =
    (C D : Setup) (m n : List ℕ) → OwnBuffer C m → OwnBuffer D n → KnownWay C.way → C.way ≡ D.way → C.capacity ≤ D.capacity
    → (us us' : List Use) → new_does M C m us ≡ new_does M D n us' → LosesNothingCut M M C D m n us us'
