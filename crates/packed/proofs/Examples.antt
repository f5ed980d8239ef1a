-- Some rows of document 02's Q-11, computed; tests/test_packed.py runs all of them.
use mathlib.Core.Path.{◌≡◌, refl}
use mathlib.Core.List.{List, [], ◌∷◌, ◌++◌}
use Prim.Native.Nat.{ℕ}
use lib.ListN.{replicate}
use Rattle.frame.specs.Frame.{same}
use Rattle.decoder.specs.Push.{sized, in_way, search}
use Rattle.decoder.specs.Record.{nothing, refusal, bad_decoder, record_with, new_record, record_of}
use Rattle.decoder.specs.declared.DecodeState.TheVariants.{LookingForMessageStart, ParsingEscPayload, Done}
use Rattle.packed.specs.Layout.{low_first, number_at_claim, state_in, packed_bytes, packed_in, record_in}
use Rattle.packed.specs.Packed.{answering, holds, no_record, pack_into, unpack_of}

abbrev out28 : List ℕ
out28 = replicate 28 0xee

-- a new decoder of the second way and the largest capacity
largest : pack_into (new_record (in_way 2 1048576)) out28 ≡ answering nothing (0 ∷ 0 ∷ 2 ∷ 0 ∷ 0xff ∷ 0xff ∷ replicate 20 0 ++ 0x10 ∷ 0 ∷ [])
unfolding pack_into bad_decoder packed_in packed_bytes low_first
largest = refl

-- three bytes of an escape read, one of them judged early
judged_early : pack_into (record_with (sized 8) 7 19 0xfcd2 3 (ParsingEscPayload 3)) out28
    ≡ answering nothing (3 ∷ 3 ∷ 1 ∷ 0 ∷ 0xd2 ∷ 0xfc ∷ 0 ∷ 0 ∷ 7 ∷ 0 ∷ 0 ∷ 0 ∷ 3 ∷ 0 ∷ 0 ∷ 0 ∷ 19 ∷ replicate 7 0 ++ 8 ∷ 0 ∷ 0 ∷ 0 ∷ [])
unfolding pack_into bad_decoder packed_in packed_bytes low_first
judged_early = refl

-- behind a payload, its unused counts not 0; and a search with a register of its own, into two bytes more
unused_seven : pack_into (record_with (sized 8) 4 7 0x1234 2 Done) out28 ≡ answering nothing (4 ∷ 0 ∷ 1 ∷ 0 ∷ 0x34 ∷ 0x12 ∷ 0 ∷ 0 ∷ 4 ∷ replicate 15 0 ++ 8 ∷ 0 ∷ 0 ∷ 0 ∷ [])
unfolding pack_into bad_decoder packed_in packed_bytes low_first
unused_seven = refl

two_more : pack_into (record_with (in_way 2 8) 0 9 0x1234 0 (LookingForMessageStart 2 5)) (replicate 30 0xee)
    ≡ answering nothing (0 ∷ 2 ∷ 2 ∷ 0 ∷ 0x34 ∷ 0x12 ∷ replicate 10 0 ++ 9 ∷ 0 ∷ 0 ∷ 0 ∷ 5 ∷ 0 ∷ 0 ∷ 0 ∷ 8 ∷ 0 ∷ 0 ∷ 0 ∷ 0xee ∷ 0xee ∷ [])
unfolding pack_into bad_decoder packed_in packed_bytes low_first
two_more = refl

-- an unknown way, and a capacity over the limit where there is no room; an output too short, and a bad record into none at all
unknown_way_lem : pack_into (new_record (in_way 3 8)) out28 ≡ answering (refusal 4 []) out28
unfolding pack_into bad_decoder
unknown_way_lem = refl

too_large : pack_into (new_record (sized 1048577)) (replicate 27 0) ≡ answering (refusal 5 []) (replicate 27 0)
unfolding pack_into bad_decoder
too_large = refl

too_short : pack_into (new_record (sized 8)) (replicate 27 0) ≡ answering (refusal 18 []) (replicate 27 0)
unfolding pack_into bad_decoder
too_short = refl

bad_first : pack_into (record_with (sized 1048577) 1048578 0 0xffff 0 Done) [] ≡ answering (refusal 4 []) []
unfolding pack_into bad_decoder
bad_first = refl

-- a search of the second way behind 00 1b 1b; the same with its eighth byte, which no state uses, not 0; a kind over 4
abbrev search_row : List ℕ
search_row = 0 ∷ 2 ∷ 2 ∷ 0 ∷ 0xff ∷ 0xff ∷ replicate 10 0 ++ 3 ∷ 0 ∷ 0 ∷ 0 ∷ 1 ∷ 0 ∷ 0 ∷ 0 ∷ 8 ∷ 0 ∷ 0 ∷ 0 ∷ []

seeks : unpack_of search_row ≡ holds (record_of (in_way 2 8) (search 2 1 3))
unfolding pack_into bad_decoder packed_in packed_bytes low_first unpack_of record_in number_at_claim state_in same
seeks = refl

not_zero : unpack_of (0 ∷ 2 ∷ 2 ∷ 0 ∷ 0xff ∷ 0xff ∷ 0 ∷ 1 ∷ replicate 8 0 ++ 3 ∷ 0 ∷ 0 ∷ 0 ∷ 1 ∷ 0 ∷ 0 ∷ 0 ∷ 8 ∷ 0 ∷ 0 ∷ 0 ∷ []) ≡ no_record 4
unfolding pack_into bad_decoder packed_in packed_bytes low_first unpack_of record_in number_at_claim state_in same
not_zero = refl

fifth_kind : unpack_of (5 ∷ 0 ∷ 1 ∷ 0 ∷ 0xff ∷ 0xff ∷ replicate 18 0 ++ 8 ∷ 0 ∷ 0 ∷ 0 ∷ []) ≡ no_record 4
unfolding pack_into bad_decoder packed_in packed_bytes low_first unpack_of record_in number_at_claim state_in same
fifth_kind = refl
