-- What the claim rules out: each reading of docs/WRONG-READINGS.md that is told here names another place, and the claim is false of it.
use Rattle.places.specs.Readers.{Located}
use Rattle.places.specs.Fakes.{names_the_entry, names_the_last_byte, names_the_next, tells_ten, tells_fifteen, names_its_own_place}
use Rattle.places.proofs.Fakes.{fall_readers}

fake_entry_named_at_its_list : Located names_the_entry 0 0 → ⊥
fake_entry_named_at_its_list = fall_readers.the_entry_claim

fake_mismatch_at_the_last_length_byte : Located names_the_last_byte 0 0 → ⊥
fake_mismatch_at_the_last_length_byte = fall_readers.the_last_byte

fake_mismatch_at_the_next_element : Located names_the_next 0 0 → ⊥
fake_mismatch_at_the_next_element = fall_readers.the_next

fake_mismatch_told_as_10 : Located tells_ten 0 0 → ⊥
fake_mismatch_told_as_10 = fall_readers.ten

fake_mismatch_told_as_15 : Located tells_fifteen 0 0 → ⊥
fake_mismatch_told_as_15 = fall_readers.fifteen

fake_missing_byte_named_beyond_the_end : Located names_its_own_place 5 0 → ⊥
fake_missing_byte_named_beyond_the_end = fall_readers.its_own_place
