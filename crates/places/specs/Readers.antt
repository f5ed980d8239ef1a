-- claim: every reader says where it broke.
use Rattle.std.specs.Prelude.{ℕ, ◌^◌, ◌≤◌, ◌<◌, ◌≡◌, List, ◌++◌, length, get_or}
use Rattle.refusals.specs.Numbers.{unexpected_eof_no}
use Rattle.refusals.specs.Read.{Read, got, refused, Refusal, eof, invalid_tlf, byte_at, span_at}
use Rattle.tlf.specs.Lengths.{tlf_at, list_of_at}
use Rattle.numbers.specs.Numbers.{unsigned_at, signed_at, bool_at}
use Rattle.octet_string.specs.Strings.{octets_at}
use Rattle.octet_string.specs.Optional.{optional}
use Rattle.value.specs.Values.{time_at, status_at, value_at}
use Rattle.common.specs.Fields.{open_at, close_at, entry_at}
use Rattle.message.specs.Messages.{list_start_at, list_end_at, body_at, start_at}
use Rattle.trailer.specs.Trailer.{message_end_at, trailer_at}
use Rattle.events.specs.Message.{message_at}
use Rattle.places.specs.Stands.{Looked, Broke}

-- the length reader's refusals, wherever it is called: 10 at the input's length, and 11 at the element's first length byte
pub data LengthRefusal (s : List ℕ) (at : ℕ) : Refusal → Type 0 where
  end_of_input : LengthRefusal s at (eof (length s))
  bad_length_bytes : (kind : ℕ) → at < length s → LengthRefusal s at (invalid_tlf kind at)

-- the answer is not 10
abbrev pub NotTen : {A : Type 0} → Read A → Type 0
NotTen (got a n) = Unit {0}
NotTen (refused f) = f.number ≡ unexpected_eof_no → ⊥

-- with some bytes more the answer is not 10
pub record More {A : Type 0} (read : List ℕ → Read A) (s : List ℕ) : Type 0 where
  pub more : List ℕ
  pub bytes : (i : ℕ) → get_or more i 0 < 256
  pub not_ten : NotTen (read (s ++ more))

-- a reading from `at` on, in a message that begins at `start`
pub record Located {A : Type 0} (read : List ℕ → Read A) (at start : ℕ) : Type 0 where
  -- a refusal names the place where it broke
  pub broke : (s : List ℕ) (f : Refusal) → at ≤ length s → read s ≡ refused f → Broke read s at start f
  -- what is found needs the bytes before the next place, and no other
  pub found : (s : List ℕ) (a : A) (n : ℕ) → at ≤ length s → read s ≡ got a n → (at ≤ n) × (n ≤ length s) × Looked read s at n
  -- 10 says that bytes are missing: with some more the answer is another
  pub missing : (s : List ℕ) → at ≤ length s → More read s
  -- from a place beyond the input's end it is 10 at the input's length
  pub beyond : (s : List ℕ) → length s < at → read s ≡ refused (eof (length s))

-- one that begins with a length: what the length reader refuses there is the answer, unchanged
pub record LengthFirst {A : Type 0} (read : List ℕ → Read A) (at start : ℕ) : Type 0 where
  pub located : Located read at start
  pub passed : (s : List ℕ) (f : Refusal) → tlf_at s at ≡ refused f → read s ≡ refused f

-- of every reader, from every place
pub record Readers : Type 0 where
  -- the length reader first
  pub length_refusals : (s : List ℕ) (at : ℕ) (f : Refusal) → tlf_at s at ≡ refused f → LengthRefusal s at f
  -- bytes
  pub byte : (at start : ℕ) → Located (λ s. byte_at s at) at start
  pub span : (n at start : ℕ) → Located (λ s. span_at s at n) at start
  -- a length field, and the head of a list
  pub length_field_claim : (at start : ℕ) → LengthFirst (λ s. tlf_at s at) at start
  pub list_head_claim : (n : ℕ) → n < 2 ^ 32 → (at start : ℕ) → LengthFirst (λ s. list_of_at n s at) at start
  -- fields
  pub unsigned : (width : ℕ) → 1 ≤ width → (at start : ℕ) → LengthFirst (λ s. unsigned_at width s at) at start
  pub signed : (width : ℕ) → 1 ≤ width → (at start : ℕ) → LengthFirst (λ s. signed_at width s at) at start
  pub boolean : (at start : ℕ) → LengthFirst (λ s. bool_at s at) at start
  pub octets : (at start : ℕ) → LengthFirst (λ s. octets_at s at) at start
  pub time : (at start : ℕ) → LengthFirst (λ s. time_at s at) at start
  pub status : (at start : ℕ) → LengthFirst (λ s. status_at s at) at start
  pub value : (at start : ℕ) → LengthFirst (λ s. value_at s at) at start
  -- optional ones
  pub opt_octets : (at start : ℕ) → LengthFirst (λ s. optional octets_at s at) at start
  pub opt_unsigned : (width : ℕ) → 1 ≤ width → (at start : ℕ) → LengthFirst (λ s. optional (unsigned_at width) s at) at start
  pub opt_signed : (width : ℕ) → 1 ≤ width → (at start : ℕ) → LengthFirst (λ s. optional (signed_at width) s at) at start
  pub opt_time_claim : (at start : ℕ) → LengthFirst (λ s. optional time_at s at) at start
  pub opt_status_claim : (at start : ℕ) → LengthFirst (λ s. optional status_at s at) at start
  -- records, and what a message is made of
  pub open_response_claim : (at start : ℕ) → LengthFirst (λ s. open_at s at) at start
  pub close_response_claim : (at start : ℕ) → LengthFirst (λ s. close_at s at) at start
  pub entry : (at start : ℕ) → LengthFirst (λ s. entry_at s at) at start
  pub list_start_claim : (at start : ℕ) → LengthFirst (λ s. list_start_at s at) at start
  pub list_end_claim : (at start : ℕ) → LengthFirst (λ s. list_end_at s at) at start
  pub body : (at start : ℕ) → LengthFirst (λ s. body_at s at) at start
  pub message_start_claim : (at start : ℕ) → LengthFirst (λ s. start_at s at) at start
  pub end_byte_claim : (at start : ℕ) → Located (λ s. message_end_at s at) at start
  pub trailer : (at start : ℕ) → LengthFirst (λ s. trailer_at s start at) at start
  -- the whole message
  pub message : (at : ℕ) → LengthFirst (λ s. message_at s at) at at
