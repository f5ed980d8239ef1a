-- check: mark 1 of crate encoder. Its contracts allow one outcome for each input, and its views lose nothing. Each crate has such a file.
use Rattle.std.specs.Prelude.{◌≡◌, List, ℕ, Result}
use Rattle.encoder.specs.Encode.{encode_answer, after_encode, encode_to}
use Rattle.encoder.specs.Encoder.{step_of, fresh_encoder, next_step}
use Rattle.encoder.specs.declared.EncodeError.{EncodeError}
use Rattle.encoder.specs.declared.Encoder.{Encoder}
use Rattle.encoder.specs.declared.Given.{Given}
use Rattle.decided.specs.One.{One, With, Injective}

-- every view that a contract cites; where memory is lent, the view of the answer together with it
pub record Views : Type 0 where
  pub next : Injective step_of
  pub encoded : Injective (λ (r : With (Result ℕ EncodeError)). after_encode (encode_answer r.answer) r.memory)

-- every public function: over its parameters, what its `ensures` allows. A slice that is lent stands for what it holds at the call
pub record Decided : Type 0 where
  pub new : One (λ (r : Encoder). r ≡ fresh_encoder)
  pub next : (self : Encoder) (payload : List ℕ) → One (λ (r : Given). step_of r ≡ next_step self payload)
  pub encode : (payload out : List ℕ) → One (λ (r : With (Result ℕ EncodeError)). after_encode (encode_answer r.answer) r.memory ≡ encode_to payload out)
