-- Laws of digits: what comes behind a place, how long they are, and that decimal ones are the number's.
use Prim.Native.Nat.{ℕ, zero, suc, ◌+◌, ◌-◌, ◌*◌, ◌/◌, ◌%◌, ◌^◌, ◌<◌, ◌≤◌}
use mathlib.Core.List.{List, [], ◌∷◌, ◌++◌}
use mathlib.Core.Path.{◌≡◌, refl, ap, sym, ◌∙◌, subst}
use native.Mathlib.Omega.{arith}
use borrow.Author.Tests.{lt-ltb}
use lib.ListN.{length, set, drop, get_or, length-append, drop_of_length-le}
use lib.Seq.{sets}
use Rattle.refusals.proofs.Places.{from_place}
use Rattle.encoder.specs.Parts.{Stored}
use Rattle.encoder.proofs.Stores.{stored_then}
use Rattle.lines.specs.Lines.{digit_of, hex_of, decimal_in, decimal}

-- ---- two digits for each byte

pub hex_length : (bytes : List ℕ) → length (hex_of bytes) ≡ 2 * length bytes
unfolding hex_of
hex_length [] = refl
hex_length (b ∷ bytes) = omega (arith, hex_length bytes)

-- the digits of the byte at i, then the rest
pub hex_more : (m m' s : List ℕ) (o r i : ℕ) → i < length s → Stored m' r m o (hex_of (get_or s i 0 ∷ [])) → sets m' r (hex_of (drop (i + 1) s)) ≡ sets m o (hex_of (drop i s))
unfolding hex_of
hex_more m m' s o r i h e =
    let q : r ≡ suc (suc o) = omega (arith, e.1) in
    rw (q, e.0) (ap (λ (l : List ℕ). sets m o (hex_of l)) (sym (from_place s i h)))

pub hex_all : (m s : List ℕ) (o i : ℕ) → length s ≤ i → sets m o (hex_of (drop i s)) ≡ m
unfolding hex_of
hex_all m s o i h = rw (drop_of_length-le s h)

-- ---- decimal digits

none_of : (k : ℕ) → decimal_in k 0 ≡ []
unfolding decimal_in
none_of zero = refl
none_of (suc k) = refl

tens : ℕ → ℕ
tens zero = 1
tens (suc k) = 10 * tens k

-- as many places as hold the number are enough
enough : (k j n : ℕ) → n < tens k → n < tens j → decimal_in k n ≡ decimal_in j n
unfolding decimal_in tens
enough zero j zero h g = sym (none_of j)
enough zero j (suc n) h g = absurd (omega arith)
enough (suc k) j zero h g = sym (none_of j)
enough (suc k) zero (suc n) h g = absurd (omega arith)
enough (suc k) (suc j) (suc n) h g = ap (λ (l : List ℕ). l ++ digit_of (suc n % 10) ∷ []) (enough k j (suc n / 10) (omega arith) (omega arith))

nine_enough : (n : ℕ) → n < 2 ^ 32 → decimal_in 9 (n / 10) ≡ decimal_in 10 (n / 10)
unfolding tens
nine_enough n g = enough 9 10 (n / 10) (omega arith) (omega arith)

not_none : (n : ℕ) → 1 ≤ n → decimal_in 10 n ≡ decimal n
unfolding decimal
not_none zero h = absurd (omega arith)
not_none (suc n) h = refl

pub decimal_one : (n : ℕ) → n < 10 → decimal n ≡ digit_of n ∷ []
unfolding decimal_in decimal
decimal_one zero h = refl
decimal_one (suc n) h =
    let d : suc n / 10 ≡ 0 = omega arith in
    let m : suc n % 10 ≡ suc n = omega arith in
    rw (d, m, none_of 9)

last_behind : (n : ℕ) → decimal (suc n) ≡ decimal_in 9 (suc n / 10) ++ digit_of (suc n % 10) ∷ []
unfolding decimal_in decimal
last_behind n = refl

decimal_more : (n : ℕ) → 10 ≤ n → n < 2 ^ 32 → decimal n ≡ decimal (n / 10) ++ digit_of (n % 10) ∷ []
decimal_more zero h g = absurd (omega arith)
decimal_more (suc n) h g = last_behind n ∙ ap (λ (l : List ℕ). l ++ digit_of (suc n % 10) ∷ []) (nine_enough (suc n) g ∙ not_none (suc n / 10) (omega arith))

at_most : (k n : ℕ) → length (decimal_in k n) ≤ k
unfolding decimal_in
at_most zero n = omega arith
at_most (suc k) zero = omega arith
at_most (suc k) (suc n) = simp length-append (omega (arith, at_most k (suc n / 10)))

pub decimal_ten : (n : ℕ) → length (decimal n) ≤ 10
unfolding decimal
decimal_ten zero = omega arith
decimal_ten (suc n) = at_most 10 (suc n)

-- read from the left, the digits are the number again
read_on : ℕ → List ℕ → ℕ
read_on a [] = a
read_on a (d ∷ l) = read_on (10 * a + (d - 0x30)) l

read_append : (a : ℕ) (l k : List ℕ) → read_on a (l ++ k) ≡ read_on (read_on a l) k
unfolding read_on
read_append a [] k = refl
read_append a (d ∷ l) k = read_append (10 * a + (d - 0x30)) l k

digit_back : (d : ℕ) → d < 10 → digit_of d - 0x30 ≡ d
digit_back d h = rw (lt-ltb d 10 h) (omega arith)

places_back : (k n : ℕ) → n < tens k → read_on 0 (decimal_in k n) ≡ n
unfolding decimal_in tens read_on
places_back zero n h = omega arith
places_back (suc k) zero h = refl
places_back (suc k) (suc n) h =
    read_append 0 (decimal_in k (suc n / 10)) (digit_of (suc n % 10) ∷ [])
    ∙ omega (arith, places_back k (suc n / 10) (omega arith), digit_back (suc n % 10) (omega arith))

decimal_back : (n : ℕ) → n < 2 ^ 32 → read_on 0 (decimal n) ≡ n
unfolding decimal tens read_on
decimal_back zero h = refl
decimal_back (suc n) h = places_back 10 (suc n) (omega arith)

-- the last digit is put behind those before it
pub decimal_room : (n o N : ℕ) → 10 ≤ n → n < 2 ^ 32 → o + length (decimal n) ≤ N → o + length (decimal (n / 10)) + 1 ≤ N
decimal_room n o N t g h =
    let l : length (decimal n) ≡ length (decimal (n / 10)) + 1 = ap length (decimal_more n t g) ∙ length-append (decimal (n / 10)) (digit_of (n % 10) ∷ []) in
    omega (arith, l)

pub decimal_alone : (m : List ℕ) (o n x : ℕ) → n < 10 → x ≡ digit_of n → Stored (set m o x) (o + 1) m o (decimal n)
decimal_alone m o n x t e = rw (decimal_one n t, e) (refl, refl)

pub decimal_last : (m m' : List ℕ) (o r n x : ℕ) → 10 ≤ n → n < 2 ^ 32 → x ≡ digit_of (n % 10) → Stored m' r m o (decimal (n / 10)) → Stored (set m' r x) (r + 1) m o (decimal n)
decimal_last m m' o r n x t g e s =
    let d : Stored (set m' r x) (r + 1) m' r (digit_of (n % 10) ∷ []) = rw e (refl, refl) in
    subst (λ (l : List ℕ). Stored (set m' r x) (r + 1) m o l) (sym (decimal_more n t g)) (stored_then m m' (set m' r x) o r (r + 1) (decimal (n / 10)) (digit_of (n % 10) ∷ []) s d)
