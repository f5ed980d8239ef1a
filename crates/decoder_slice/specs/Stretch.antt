-- cut: the bytes of a slice that change only counts and the buffer are taken at once.
use Rattle.std.specs.Prelude.{ℕ, ◌+◌, ◌<◌, ◌≤◌, List, ◌≡◌, false, length, drop, get_or}
use Rattle.decoder.specs.declared.Decoder.{Decoder}
use Rattle.decoder.specs.declared.DecodeState.{DecodeState}
use Rattle.decoder.specs.Push.{stopped}
use Rattle.decoder.specs.Record.{recounted, unknown_way}
use Rattle.refusals.specs.Numbers.{limit}
use Rattle.crc_x25.specs.Crc.{start}
use Rattle.decoder.specs.Cut.{in_state}
use Rattle.decoder_slice.specs.Slice.{pushes_from}
use Rattle.decoder_slice.specs.declared.Stretch.{Stretch}

-- behind k bytes of which j were stored, as a push of a slice counts them
abbrev pub moved_by : Decoder → ℕ → ℕ → DecodeState → Decoder
moved_by d j k s = recounted d (d.fill + j) (stopped (d.raw_msg_len + k)) s

-- a record inside a frame, with a buffer of `lent` bytes; the last k of those stored stand behind what the CRC has gone over
abbrev pub FrameWithBuffer : Decoder → ℕ → ℕ → Type 0
FrameWithBuffer d k lent = (unknown_way d.way ≡ false) × (lent ≡ d.capacity) × (d.capacity ≤ limit) × (d.crc_idx + k ≤ d.fill) × (d.fill ≤ lent) × (8 ≤ d.raw_msg_len)

-- a search with n start bytes matched, whose register is ffff
abbrev pub Searches : Decoder → ℕ → Type 0
Searches d n = (unknown_way d.way ≡ false) × (d.crc_idx ≡ 0) × (d.fill ≡ 0) × (d.capacity ≤ limit) × (n < 8) × (d.crc ≡ start)

-- what is left of the slice s, from `at` on, gives what it gave from `from` on
abbrev pub Goes : Decoder → ℕ → List ℕ → ℕ → Decoder → List ℕ → List ℕ → Type 0
Goes d at m from d₀ m₀ s = pushes_from at d m (drop at s) ≡ pushes_from from d₀ m₀ (drop from s)

-- a stretch of s from `from` on, which leaves the buffer m' of m
abbrev pub Reaches : Stretch → List ℕ → Decoder → List ℕ → List ℕ → ℕ → Type 0
Reaches r m' d m s from = (r.at ≤ length s) × (from ≤ r.at) × Goes r.decoder r.at m' from d m s

-- a stretch that stores nothing, of d in state t, whatever the buffer holds
abbrev pub PassesOver : Stretch → Decoder → DecodeState → List ℕ → ℕ → Type 0
PassesOver r d t s from = (r.at ≤ length s) × (from ≤ r.at) × ((m : List ℕ) → length m ≡ d.capacity → Goes r.decoder r.at m from (in_state d t) m s)

-- from, .. to - 1 are places of s
abbrev pub WithinChunk : List ℕ → ℕ → ℕ → Type 0
WithinChunk s from to = (from ≤ to) × (to ≤ length s)

-- no byte of s at from, .. to - 1 is 1b
abbrev pub Plain : List ℕ → ℕ → ℕ → Type 0
Plain s from to = (i : ℕ) → from ≤ i → i < to → get_or s i 0 ≡ 0x1b → ⊥

-- each byte of s at from, .. to - 1 is 1b
abbrev pub Escapes : List ℕ → ℕ → ℕ → Type 0
Escapes s from to = (i : ℕ) → from ≤ i → i < to → get_or s i 0 ≡ 0x1b
