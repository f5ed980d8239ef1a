-- claim: the second way of searching, document 02's Q-7. A frame begins exactly when the last eight bytes since the search began are the start sequence, for the first time; noise in which no whole one lies hides none.
use Rattle.std.specs.Prelude.{◌≡◌, List, [], ◌∷◌, ◌++◌, map, ℕ, ◌+◌, ◌-◌, ◌≤◌, length, take, replicate}
use Rattle.refusals.specs.Numbers.{limit}
use Rattle.search.specs.Found.{EndsInStart, NoneWhole}
use Rattle.decoder.specs.Push.{second_way, stopped, begun}
use Rattle.decoder.specs.Record.{DecoderAnswer, nothing, record_of}
use Rattle.decoder.specs.Run.{Op, push}
use Rattle.decoder.specs.declared.DecodeState.{DecodeState}
use Rattle.decoder.specs.declared.DecodeState.TheVariants.{LookingForMessageStart, Done}
use Rattle.decoder.specs.declared.Decoder.{Decoder}
use Rattle.decoder.specs.declared.Setup.{Setup}
use Rattle.since.specs.Bytes.{since_from}
use Rattle.marks.specs.Decoders.{Gave, Machine, LeftBehind, answers, left_behind, searched_since, frame_says}
use Rattle.marks.specs.Mark2.{eighth}
use Rattle.marks.specs.Mark3.{Encode, Job, Suits, wrote_for}

-- ---- when a frame begins

-- what a push gives, where h are the bytes since the search began, with the one that is pushed (`Seeks d`: the decoder d searches; `Begun C d`: a frame has begun, and nothing behind its start is read)
pub record FindsStart {S : Type 0} (Seeks : S → Type 0) (Begun : Setup → S → Type 0) (C : Setup) (h : List ℕ) (a : Gave S) : Type 0 where
  pub begins : EndsInStart h → (a.answer ≡ eighth (stopped (length h - 8))) × Begun C a.decoder
  pub goes_on_claim : (EndsInStart h → ⊥) → (a.answer ≡ nothing) × Seeks a.decoder

-- In any search of a second-way decoder that operations on a new one reach, its one buffer lent each time: no whole start sequence lies in the bytes since the search began; and the frame begins with the byte with which they end in one,
-- DiscardedBytes then counting all of them but those eight (stopped at 4,294,967,295; none at 0), and with no other
abbrev pub Begins : {S : Type 0} → Machine S → (S → Type 0) → (Setup → S → Type 0) → Type 0
Begins {S} M Seeks Begun =
    (C : Setup) (m : List ℕ) → C.way ≡ second_way → length m ≡ C.capacity → C.capacity ≤ limit → (os : List Op) (b : ℕ)
    → let k : LeftBehind S = left_behind M (M.new C) m os in
    let h : List ℕ = searched_since os (answers M (M.new C) m os) in
    Seeks k.decoder
    → NoneWhole h × FindsStart Seeks Begun C (h ++ b ∷ []) (M.act k.decoder k.memory (push b))

-- And it searches wherever no whole start sequence lies in the bytes since the search or frame began (`since_from` of crate since: a DiscardedBytes leaves the eight of the new start, any other refusal none), whatever came before
abbrev pub SearchesAgain : {S : Type 0} → Machine S → (S → Type 0) → Type 0
SearchesAgain M Seeks =
    (C : Setup) (m : List ℕ) → C.way ≡ second_way → length m ≡ C.capacity → C.capacity ≤ limit → (os : List Op)
    → NoneWhole (since_from [] os (answers M (M.new C) m os)) → Seeks (left_behind M (M.new C) m os).decoder

-- ---- any noise, and a frame behind it

-- From any such search any noise, followed by an encoded payload that fits, where `Clear` (the request's is `NoneWhole`) holds of the bytes since the search began, the noise and that frame's first seven bytes together. Behind what came before, the whole list of answers is:
-- nothing for the noise; at the frame's eighth byte the count of all bytes before the frame since the search began, stopped at 4,294,967,295 (none at 0); the payload at its last byte; nothing else
abbrev pub HearsBehindNoise : {S : Type 0} → (List ℕ → Type 0) → Machine S → Encode → (S → Type 0) → Type 0
HearsBehindNoise Clear M encode Seeks =
    (C : Setup) (m : List ℕ) → C.way ≡ second_way → length m ≡ C.capacity → C.capacity ≤ limit
    → (before : List Op) (noise : List ℕ) (j : Job) → Suits C j → Seeks (left_behind M (M.new C) m before).decoder
    → let heard : List DecoderAnswer = answers M (M.new C) m before in
    let h : List ℕ = searched_since before heard in
    let frame : List ℕ = wrote_for encode j in
    Clear (h ++ noise ++ take 7 frame)
    → answers M (M.new C) m (before ++ map push (noise ++ frame))
    ≡ heard ++ (replicate (length noise) nothing ++ frame_says (eighth (stopped (length h + length noise))) frame j.payload)

-- ---- ours

-- it searches, or is behind a payload, where the next byte begins a search
pub data Seeking (s : DecodeState) : Type 0 where
  in_search : (n noise : ℕ) → s ≡ LookingForMessageStart n noise → Seeking s
  before_search : s ≡ Done → Seeking s

abbrev pub OurSeeks : Decoder → Type 0
OurSeeks d = Seeking d.state

abbrev pub OurBegun : Setup → Decoder → Type 0
OurBegun C d = d ≡ record_of C begun
