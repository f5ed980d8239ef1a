-- claim: which bytes a reached decoder has read since its search or frame began, and what its counts are by them.
use Rattle.std.specs.Prelude.{◌≡◌, cond, List, [], ◌∷◌, ◌++◌, ℕ, ◌-◌, ◌≤◌, length, eqb}
use Rattle.refusals.specs.Numbers.{discarded_bytes_no}
use Rattle.frame.specs.Frame.{start_seq}
use Rattle.search.specs.Search.{most_matched}
use Rattle.decoder.specs.Push.{second_way, State, search, body, escape, done, stopped}
use Rattle.decoder.specs.Record.{DecoderAnswer, nothing, payload, count, refusal}
use Rattle.decoder.specs.Run.{Op, push, finalize, reset}
use Rattle.decoder.specs.declared.Setup.{Setup}

-- ---- the bytes, told by the operations and their answers alone

-- with the byte b more and its answer: a DiscardedBytes leaves the eight of the new start, any other refusal and a payload leave none
abbrev pub grown_since : DecoderAnswer → List ℕ → ℕ → List ℕ
grown_since nothing h b = h ++ b ∷ []
grown_since (payload bytes) h b = []
grown_since (count k) h b = []
grown_since (refusal k values) h b = cond (eqb k discarded_bytes_no) start_seq []

abbrev pub grown_since_op : Op → DecoderAnswer → List ℕ → List ℕ
grown_since_op (push b) a h = grown_since a h b
grown_since_op finalize a h = []
grown_since_op reset a h = []

-- the second case never occurs: each operation has its answer
unfoldable pub since_from : List ℕ → List Op → List DecoderAnswer → List ℕ
since_from h [] more = h
since_from h (o ∷ os) [] = h
since_from h (o ∷ os) (a ∷ more) = since_from (grown_since_op o a h) os more

-- ---- the counts

-- the counts of a state, h being the bytes since its search or frame began: in a search those matched, which in the second way are as many start bytes as h ends with, the noise and the raw length
abbrev pub Counted : Setup → State → List ℕ → Type 0
Counted C (search n noise raw) h = (n ≤ length h) × (n ≤ 7) × (noise ≡ stopped (length h - n)) × (raw ≡ stopped (length h)) × (C.way ≡ second_way → n ≡ most_matched h)
Counted C (body r m) h = (8 ≤ length h) × (m.raw ≡ stopped (length h))
Counted C (escape k m) h = (8 ≤ length h) × (m.raw ≡ stopped (length h))
Counted C (done P) h = length h ≡ 0
