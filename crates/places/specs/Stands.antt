-- claim: what stands at the place that a refusal names, and that nothing before it was wrong, but that before a wrong end byte the CRC may be.
use Rattle.std.specs.Prelude.{ℕ, ◌+◌, ◌≤◌, ◌<◌, ◌≡◌, List, ◌∷◌, ◌++◌, length, get_or, take}
use Rattle.refusals.specs.Numbers.{crc_mismatch_no}
use Rattle.refusals.specs.Read.{Read, got, refused, Refusal, eof, invalid_tlf, mismatch, unexpected, crc_mismatch, wrong_end}
use Rattle.tlf.specs.Lengths.{tlf_at}
use Rattle.tlf.specs.declared.TypeLengthField.{TypeLengthField}
use Rattle.numbers.specs.Numbers.{unsigned_at}
use Rattle.trailer.specs.Trailer.{swapped, crc_from}

-- t has the bytes of s before p; where s ends before p, t is s
pub record SameBefore (p : ℕ) (s t : List ℕ) : Type 0 where
  pub bytes : take p t ≡ take p s

-- a reading of s from `at` on needs the bytes before q, and no other
pub record Looked {A : Type 0} (read : List ℕ → Read A) (s : List ℕ) (at q : ℕ) : Type 0 where
  -- where s is cut before q, but not before `at`, the answer is 10, at the cut
  pub cut : (m : ℕ) → at ≤ m → m < q → m ≤ length s → read (take m s) ≡ refused (eof m)
  -- an input that has the same bytes before q is answered alike
  pub alike : (t : List ℕ) → SameBefore q s t → read t ≡ read s

-- an element begins at p, within the input: whatever stands there, what the length reader refuses there is the answer, unchanged
pub record Element {A : Type 0} (read : List ℕ → Read A) (s : List ℕ) (p : ℕ) : Type 0 where
  pub within : p < length s
  pub passed : (t : List ℕ) (f : Refusal) → SameBefore p s t → tlf_at t p ≡ refused f → read t ≡ refused f

-- what stood before p was not to blame: with others from p on, which are bytes if those of s are, the input is accepted to its end, and P holds of it
pub record Instead {A : Type 0} (read : List ℕ → Read A) (s : List ℕ) (p : ℕ) (P : List ℕ → Type 0) : Type 0 where
  pub others : List ℕ
  pub bytes : ((i : ℕ) → get_or s i 0 < 256) → (i : ℕ) → get_or others i 0 < 256
  pub value : A
  pub accepted : read (take p s ++ others) ≡ got value (length (take p s ++ others))
  pub holds : P (take p s ++ others)

-- nothing is asked of it
abbrev pub Whatever : List ℕ → Type 0
Whatever s = Unit {0}

-- the number `tag` stands in an input, its length bytes from p on
pub record TagAt (width tag p : ℕ) (s : List ℕ) : Type 0 where
  pub next : ℕ
  pub is : unsigned_at width s p ≡ got tag next

-- a CRC stands in it, its length bytes from p on, and 00 behind it; the CRC is that of the bytes from `start` up to p
pub record CrcAt (start p : ℕ) (s : List ℕ) : Type 0 where
  pub next : ℕ
  pub is : unsigned_at 2 s p ≡ got (swapped (crc_from s start p)) next
  pub within : next < length s
  pub end : get_or s next 0 ≡ 0x00

-- an input is accepted to its end, or its CRC, which stands before p, is refused
abbrev pub Closed : {A : Type 0} → ℕ → List ℕ → Read A → Type 0
Closed p s (got a n) = n ≡ length s
Closed p s (refused f) = (f.number ≡ crc_mismatch_no) × (f.place < p)

-- the end byte stands at p: whatever byte stands there, if it isn't 00 the answer is 15; with 00, and more behind it, the message is closed
pub record EndByte {A : Type 0} (read : List ℕ → Read A) (s : List ℕ) (p : ℕ) : Type 0 where
  pub judged : (t : List ℕ) → SameBefore p s t → p < length t → (get_or t p 0 ≡ 0x00 → ⊥) → read t ≡ refused (wrong_end p)
  pub more : List ℕ
  pub bytes : ((i : ℕ) → get_or s i 0 < 256) → (i : ℕ) → get_or more i 0 < 256
  pub closed : Closed p (take p s ++ 0x00 ∷ more) (read (take p s ++ 0x00 ∷ more))

-- what stands at the place of a refusal, in a message that begins at `start`; the second index is the place behind what was judged: of 10 the input's length and one, of 11 `Looked` fixes it
pub data Stands {A : Type 0} (read : List ℕ → Read A) (s : List ℕ) (start : ℕ) : Refusal → ℕ → Type 0 where
  -- 10: nothing, the input ends there
  over : Stands read s start (eof (length s)) (length s + 1)
  -- 11: length bytes that the length reader refuses so; others would do
  bad_length : (kind p q : ℕ) → Element read s p → Instead read s p Whatever → tlf_at s p ≡ refused (invalid_tlf kind p) → Stands read s start (invalid_tlf kind p) q
  -- 12: sound length bytes, judged by themselves; others would do
  unwanted : (t : TypeLengthField) (p n : ℕ) → Element read s p → Instead read s p Whatever → tlf_at s p ≡ got t n → Stands read s start (mismatch p) n
  -- 13 in a body: a number that is none of the three tags; 0x101 would do
  message_tag : (tag p n : ℕ) → Element read s p → Instead read s p (TagAt 4 0x101 p) → unsigned_at 4 s p ≡ got tag n
      → (tag ≡ 0x101 → ⊥) → (tag ≡ 0x201 → ⊥) → (tag ≡ 0x701 → ⊥) → Stands read s start (unexpected p) n
  -- 13 in a time or a list value: a number that isn't 1; 1 would do
  time_tag : (tag p n : ℕ) → Element read s p → Instead read s p (TagAt 1 1 p) → unsigned_at 1 s p ≡ got tag n → (tag ≡ 1 → ⊥) → Stands read s start (unexpected p) n
  -- 14: a number that isn't the CRC of the message's bytes before it, and behind it 00, which was judged too; that CRC would do
  other_crc : (crc p n : ℕ) → Element read s p → Instead read s p (CrcAt start p) → unsigned_at 2 s p ≡ got crc n → n < length s → get_or s n 0 ≡ 0x00
      → (crc ≡ swapped (crc_from s start p) → ⊥) → Stands read s start (crc_mismatch p) (n + 1)
  -- 15: a byte that isn't 00
  other_end : (p : ℕ) → EndByte read s p → p < length s → (get_or s p 0 ≡ 0x00 → ⊥) → Stands read s start (wrong_end p) (p + 1)

-- a reading of s from `at` on, of a message that begins at `start`, is refused so, and broke at the refusal's place: cut there the answer is 10 at the cut, and, unless it is 10, with what was judged it is this refusal, whatever follows (`looked`)
pub record Broke {A : Type 0} (read : List ℕ → Read A) (s : List ℕ) (at start : ℕ) (f : Refusal) : Type 0 where
  pub refuses : read s ≡ refused f
  pub judged_to : ℕ
  pub stands : Stands read s start f judged_to
  pub looked : Looked read s at judged_to
  pub begun : at ≤ f.place
  pub before : f.place < judged_to
