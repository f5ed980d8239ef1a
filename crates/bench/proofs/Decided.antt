-- Each view can be undone, so a contract allows one outcome for each input.
use mathlib.Core.Path.{◌≡◌, sym, ◌∙◌}
use mathlib.Core.List.{List}
use Prim.Native.Nat.{ℕ}
use Rattle.bench.specs.Bench.{counted, took_in}
use Rattle.decided.specs.One.{With, Beside}
use Rattle.decided.proofs.Laws.{one_outcome, injective}
use Rattle.bench.specs.Decided.{Views, Decided}

count_both : (r r' : With ℕ) → counted r.answer r.memory ≡ counted r'.answer r'.memory → r ≡ r'
count_both r r' h = λ i. record { answer = (h i).number; memory = (h i).memory }

took_both : (r r' : With (Beside ℕ (List ℕ))) → took_in r.answer.answer r.answer.lent r.memory ≡ took_in r'.answer.answer r'.answer.lent r'.memory → r ≡ r'
took_both r r' h = λ i. record { answer = record { answer = (h i).taken; lent = (h i).bytes }; memory = (h i).memory }

pub views : Views
views =
    record {
      number = count_both;
      took = took_both;
    }

pub decided : Decided
decided =
    record {
      bench_push = λ src buf. injective (λ (r : With ℕ). counted r.answer r.memory) views.number _;
      bench_push_slice = λ src buf step. injective (λ (r : With ℕ). counted r.answer r.memory) views.number _;
      bench_push_slice_second = λ src buf step. injective (λ (r : With ℕ). counted r.answer r.memory) views.number _;
      bench_pack = λ bytes capacity r r' h h' i. record { answer = tt; lent = (h ∙ sym h') i };
      bench_packed = λ bytes buf chunk. injective (λ (r : With (Beside ℕ (List ℕ))). took_in r.answer.answer r.answer.lent r.memory) views.took _;
      bench_encode = λ payload out. injective (λ (r : With ℕ). counted r.answer r.memory) views.number _;
      bench_stream = λ payload. one_outcome _;
      bench_events = λ input. one_outcome _;
      bench_write = λ input out count. injective (λ (r : With ℕ). counted r.answer r.memory) views.number _;
      bench_crc = λ src. one_outcome _;
      bench_crc_byte = λ src. one_outcome _;
    }
