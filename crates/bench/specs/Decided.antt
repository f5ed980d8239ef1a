-- check: mark 1 of crate bench. Its contracts allow one outcome for each input, and its views lose nothing. Each crate has such a file.
use Rattle.std.specs.Prelude.{◌≡◌, List, ℕ}
use Rattle.crc_x25.specs.Crc.{crc_of}
use Rattle.decoder.specs.Push.{first_way, second_way, sized}
use Rattle.decoder.specs.Record.{new_record}
use Rattle.packed.specs.Packed.{pack_into}
use Rattle.common.specs.Fields.{entry_at}
use Rattle.bench.specs.Bench.{counted, payloads, took_in, took_over, encoded, streamed, events, writes_of_entry}
use Rattle.decided.specs.One.{One, With, Beside, Injective}

-- every view that a contract cites, of the answer together with the lent memory, and with the bytes of a decoder
pub record Views : Type 0 where
  pub number : Injective (λ (r : With ℕ). counted r.answer r.memory)
  pub took : Injective (λ (r : With (Beside ℕ (List ℕ))). took_in r.answer.answer r.answer.lent r.memory)

-- every public function: over its parameters, what its `ensures` allows
pub record Decided : Type 0 where
  pub bench_push : (src buf : List ℕ) → One (λ (r : With ℕ). counted r.answer r.memory ≡ payloads first_way src buf)
  pub bench_push_slice : (src buf : List ℕ) (step : ℕ) → One (λ (r : With ℕ). counted r.answer r.memory ≡ payloads first_way src buf)
  pub bench_push_slice_second : (src buf : List ℕ) (step : ℕ) → One (λ (r : With ℕ). counted r.answer r.memory ≡ payloads second_way src buf)
  pub bench_pack : (bytes : List ℕ) (capacity : ℕ) → One (λ (r : Beside (Unit {0}) (List ℕ)). r.lent ≡ (pack_into (new_record (sized capacity)) bytes).output)
  pub bench_packed : (bytes buf chunk : List ℕ) → One (λ (r : With (Beside ℕ (List ℕ))). took_in r.answer.answer r.answer.lent r.memory ≡ took_over bytes buf chunk)
  pub bench_encode : (payload out : List ℕ) → One (λ (r : With ℕ). counted r.answer r.memory ≡ encoded payload out)
  pub bench_stream : (payload : List ℕ) → One (λ (r : ℕ). r ≡ streamed payload)
  pub bench_events : (input : List ℕ) → One (λ (r : ℕ). r ≡ events input)
  pub bench_write : (input out : List ℕ) (count : ℕ) → One (λ (r : With ℕ). counted r.answer r.memory ≡ writes_of_entry (entry_at input 0) out count input)
  pub bench_crc : (src : List ℕ) → One (λ (r : ℕ). r ≡ crc_of src)
  pub bench_crc_byte : (src : List ℕ) → One (λ (r : ℕ). r ≡ crc_of src)
