-- claim: what "hidden" means of a loss that is told: exactly if a whole start lies in a search's bytes; never in the second way.
use Rattle.std.specs.Prelude.{◌≡◌, Bool, true, false, List, [], ◌++◌, ℕ, ◌≤◌, length, take}
use Rattle.refusals.specs.Numbers.{limit}
use Rattle.frame.specs.Frame.{start_seq}
use Rattle.search.specs.Found.{HasStart}
use Rattle.decoder.specs.Push.{first_way}
use Rattle.decoder.specs.Record.{nothing, after, new_record}
use Rattle.decoder.specs.Run.{KnownWay, Op, run, behind}
use Rattle.decoder.specs.declared.DecodeState.{DecodeState}
use Rattle.decoder.specs.declared.DecodeState.TheVariants.{LookingForMessageStart, ParsingNormal, ParsingEscChars, ParsingEscPayload, Done}
use Rattle.decoder.specs.declared.Setup.{Setup}
use Rattle.since.specs.Bytes.{since_from}
use Rattle.since.specs.Since.{Misses}
use Rattle.losses.specs.declared.Cause.{Cause}
use Rattle.losses.specs.declared.Loss.{Loss}
use Rattle.causes.specs.Causes.{is_hidden, Names}
use Rattle.causes.specs.Tools.{LostNext}

-- a frame's bytes: they begin with a start
pub record FromAStart (w : List ℕ) : Type 0 where
  pub rest : List ℕ
  pub is : w ≡ start_seq ++ rest

-- what stands before a start ends with one to seven first bytes of another, which the first way had matched: that is why it passed the start by
pub record BehindFirstBytes (before : List ℕ) : Type 0 where
  pub n : ℕ
  pub some : 1 ≤ n
  pub most : n ≤ 7
  pub further : List ℕ
  pub passed : Misses further
  pub earlier : before ≡ further ++ take n start_seq

pub record HiddenExactly (way : ℕ) (piece : List ℕ) (c : Cause) : Type 0 where
  pub named_if : Names c is_hidden → (way ≡ first_way) × HasStart piece × (FromAStart piece → ⊥)
  pub if_noise : (FromAStart piece → ⊥) → HasStart piece → Names c is_hidden
  pub earlier : Names c is_hidden → (s : HasStart piece) → BehindFirstBytes s.before

-- of every loss that an account tells
abbrev pub AlwaysHiddenExactly : Type 0
AlwaysHiddenExactly = (way C : ℕ) (bytes : List ℕ) (at : ℕ) (l : Loss) (a : LostNext way C bytes at l) → HiddenExactly way a.piece l.cause

-- ---- a frame was running

abbrev pub runs : DecodeState → Bool
runs (LookingForMessageStart n noise) = false
runs ParsingNormal = true
runs (ParsingEscChars n) = true
runs (ParsingEscPayload n) = true
runs Done = false

-- behind any operations on a new decoder, its one buffer lent each time: the bytes since the search or frame began begin with a start exactly if a frame is running. So a piece that doesn't is a search's, and is the noise that document 02 speaks of
pub record RunsFromAStart (C : Setup) (m : List ℕ) (os : List Op) : Type 0 where
  pub then : runs (behind (after nothing (new_record C) m) os).decoder.state ≡ true → FromAStart (since_from [] os (run (new_record C) m os))
  pub only_then : FromAStart (since_from [] os (run (new_record C) m os)) → runs (behind (after nothing (new_record C) m) os).decoder.state ≡ true

abbrev pub AlwaysRunsFromAStart : Type 0
AlwaysRunsFromAStart = (C : Setup) (m : List ℕ) (os : List Op) → KnownWay C.way → length m ≡ C.capacity → C.capacity ≤ limit → RunsFromAStart C m os
