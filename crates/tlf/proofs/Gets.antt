-- What length bytes are read as, and what they leave: a type and a length in any number of length bytes that holds it.
use mathlib.Core.Path.{◌≡◌, refl, ap, ◌∙◌}
use mathlib.Core.List.{List, ◌∷◌, ◌++◌}
use mathlib.Core.Bool.{true, false, not, ◌&&◌}
use mathlib.Core.Option.{some}
use Prim.Native.Nat.{ℕ, zero, suc, ◌+◌, ◌*◌, ◌/◌, ◌%◌, ◌^◌, ◌-◌, ◌≤◌, ◌<◌}
use native.Mathlib.Nat.{pow-suc, mod-eq_of_lt, mul_comm, one-le-pow, div-div-eq-div-mul, div-le_self, div-lt_iff_lt-mul}
use native.Mathlib.Omega.{arith}
use lib.ListN.{length, get_or}
use lib.Dec.{lit<}
use borrow.Author.Tests.{lt-ltb, le-leb, lt-leb, eq-eqb}
use Rattle.refusals.specs.Read.{got, then, guard, need, byte_at}
use Rattle.refusals.proofs.Rest.{Rest, Gets, Reads, Is, rest_length, rest_skip, rest_byte, rest_next, gets_got, gets_is, gets_guard}
use Rattle.tlf.specs.Lengths.{ty_of, is_boolean, is_list_of, longer, longest, length_from, less_own, tlf_at, list_of_at}
use Rattle.tlf.specs.Written.{ty_number, total, length_bytes, typed}
use Rattle.tlf.specs.declared.Ty.{Ty}
use Rattle.tlf.specs.declared.Ty.TheVariants.{OctetString, Boolean, Integer, Unsigned, ListOf}
use Rattle.tlf.proofs.Lengths.{length_stop}

div_up : (v k : ℕ) → v / 16 ^ suc k ≡ v / 16 ^ k / 16
div_up v k = rw (pow-suc 16 k, div-div-eq-div-mul)

len_last : (end start w i : ℕ) (l : List ℕ) → w < 2 ^ 32 → length_from end start ((0 + w % 16) ∷ l) i true (w / 16) ≡ got w (i + 1)
unfolding length_from guard
len_last end start w i l h =
    let e : longer (w / 16) (0 + w % 16) ≡ w = omega arith in
    rw (eq-eqb ((0 + w % 16) / 16 % 8) 0 (omega arith), e, le-leb w longest (omega arith), lt-leb 128 (0 + w % 16) (omega arith)) (length_stop end start l (i + 1) w)

low_four : (d : ℕ) → d < 16 → (128 + d) / 16 % 8 ≡ 0
low_four d h = let e : (128 + d) / 16 ≡ 8 = omega arith in rw e

len_more : (end start w i : ℕ) (l : List ℕ) → w < 2 ^ 32 → length_from end start ((128 + w % 16) ∷ l) i true (w / 16) ≡ length_from end start l (i + 1) true w
unfolding length_from guard
len_more end start w i l h =
    let e : longer (w / 16) (128 + w % 16) ≡ w = omega arith in
    rw (eq-eqb ((128 + w % 16) / 16 % 8) 0 (low_four (w % 16) (omega arith)), e, le-leb w longest (omega arith), le-leb 128 (128 + w % 16) (omega arith))

len_reads : (end start k v i : ℕ) (l : List ℕ) → v < 2 ^ 32
    → length_from end start (length_bytes (suc k) v ++ l) i true (v / 16 ^ suc k) ≡ got v (i + suc k)
unfolding length_bytes
len_reads end start zero v i l h = rw (div_up v 0) (let e : v / 16 ^ 0 ≡ v = omega arith in rw e (len_last end start v i l h))
len_reads end start (suc k) v i l h =
    rw (div_up v (suc k)) (len_more end start (v / 16 ^ suc k) i _ (omega (arith, div-le_self v (16 ^ suc k)))
    ∙ len_reads end start k v (i + 1) l h ∙ ap (λ (x : ℕ). got v x) (omega arith))

ty_is : (ty : Ty) (x d : ℕ) → d < 16 → ty_of ((128 * x + 16 * ty_number ty + d) / 16 % 8) ≡ some ty
ty_is OctetString x d h = let e : (128 * x + 16 * 0 + d) / 16 % 8 ≡ 0 = omega arith in rw e
ty_is Boolean x d h = let e : (128 * x + 16 * 4 + d) / 16 % 8 ≡ 4 = omega arith in rw e
ty_is Integer x d h = let e : (128 * x + 16 * 5 + d) / 16 % 8 ≡ 5 = omega arith in rw e
ty_is Unsigned x d h = let e : (128 * x + 16 * 6 + d) / 16 % 8 ≡ 6 = omega arith in rw e
ty_is ListOf x d h = let e : (128 * x + 16 * 7 + d) / 16 % 8 ≡ 7 = omega arith in rw e

pub ty_small : (ty : Ty) → ty_number ty ≤ 7
ty_small OctetString = omega arith
ty_small Boolean = omega arith
ty_small Integer = omega arith
ty_small Unsigned = omega arith
ty_small ListOf = omega arith

length_bytes_lem : (k v : ℕ) → length (length_bytes k v) ≡ k
unfolding length_bytes
length_bytes_lem zero v = refl
length_bytes_lem (suc k) v = ap suc (length_bytes_lem k v)

typed_length : (ty : Ty) (k v : ℕ) → length (typed ty (suc k) v) ≡ suc k
unfolding typed
typed_length ty k v = ap suc (length_bytes_lem k v)

not_more : (ty : Ty) → not (is_boolean ty && false) ≡ true
not_more OctetString = refl
not_more Boolean = refl
not_more Integer = refl
not_more Unsigned = refl
not_more ListOf = refl

not_boolean : (ty : Ty) (j : ℕ) → (is_boolean ty ≡ true → suc j ≡ 0) → not (is_boolean ty && true) ≡ true
not_boolean OctetString j h = refl
not_boolean Boolean j h = absurd (omega (arith, h refl))
not_boolean Integer j h = refl
not_boolean Unsigned j h = refl
not_boolean ListOf j h = refl

own_is : (ty : Ty) (p len n : ℕ) → less_own ty (p + n - p) (total ty len n) p (p + n) ≡ got (record { ty = ty; len = len }) (p + n)
unfolding less_own guard
own_is OctetString p len n = let e : len + n - (p + n - p) ≡ len = omega arith in rw (le-leb (p + n - p) (len + n) (omega arith), e)
own_is Boolean p len n = let e : len + n - (p + n - p) ≡ len = omega arith in rw (le-leb (p + n - p) (len + n) (omega arith), e)
own_is Integer p len n = let e : len + n - (p + n - p) ≡ len = omega arith in rw (le-leb (p + n - p) (len + n) (omega arith), e)
own_is Unsigned p len n = let e : len + n - (p + n - p) ≡ len = omega arith in rw (le-leb (p + n - p) (len + n) (omega arith), e)
own_is ListOf p len n = refl

typed_tlf : (ty : Ty) (k v : ℕ) {s : List ℕ} {p : ℕ} (l : List ℕ) → v < 16 ^ suc k → v < 2 ^ 32 → (is_boolean ty ≡ true → k ≡ 0)
    → Rest s p (typed ty (suc k) v ++ l) → tlf_at s p ≡ less_own ty (p + suc k - p) v p (p + suc k)
unfolding typed tlf_at byte_at need guard then length_bytes
typed_tlf ty zero v {s} {p} l small fits b h =
    let one : v / 16 ^ 0 ≡ v = omega arith in
    let q : Rest s p ((0 + 16 * ty_number ty + v) ∷ l) = rw (one, mod-eq_of_lt small) at h in
    let e : (0 + 16 * ty_number ty + v) % 16 ≡ v = omega arith in
    rw (rest_byte q, lt-ltb p (length s) (omega (arith, rest_length q)), ty_is ty 0 v small, lt-leb 128 (0 + 16 * ty_number ty + v) (omega (arith, ty_small ty)), not_more ty, e, length_stop)
typed_tlf ty (suc j) v {s} {p} l small fits b h =
    let d = v / 16 ^ suc j in
    let below : d < 16 = (div-lt_iff_lt-mul {k = 16 ^ suc j} {x = v} {y = 16} (one-le-pow (suc j) 16 (lit< tt))).1 (omega (arith, pow-suc 16 (suc j), mul_comm 16 (16 ^ suc j))) in
    let q : Rest s p ((128 + 16 * ty_number ty + d) ∷ length_bytes (suc j) v ++ l) = rw (mod-eq_of_lt below) at h in
    let e : (128 + 16 * ty_number ty + d) % 16 ≡ d = omega arith in
    rw (rest_byte q, lt-ltb p (length s) (omega (arith, rest_length q)), ty_is ty 1 d below, le-leb 128 (128 + 16 * ty_number ty + d) (omega arith), not_boolean ty j b, (rest_next q).bytes, e, len_reads (length s) p j v (p + 1) l fits)
    (ap (λ (x : ℕ). less_own ty (x - p) v p x) (omega arith))

typed_gets : (ty : Ty) (n len : ℕ) {s : List ℕ} {p : ℕ} (l : List ℕ) → 1 ≤ n → total ty len n < 16 ^ n → total ty len n < 2 ^ 32 → (is_boolean ty ≡ true → n ≡ 1)
    → Rest s p (typed ty n (total ty len n) ++ l) → Gets (Is (record { ty = ty; len = len }) s) s l (tlf_at s p)
typed_gets ty zero len l low small fits b h = absurd (omega arith)
typed_gets ty (suc k) len {s} {p} l low small fits b h =
    rw (typed_tlf ty k (total ty len (suc k)) l small fits (λ t. omega (arith, b t)) h, own_is ty p len (suc k))
    (gets_got refl (rw typed_length at (rest_skip (typed ty (suc k) (total ty len (suc k))) h)))

-- type and length in n length bytes, as many as you like; a Boolean has one
pub typed_reads : (ty : Ty) (n len : ℕ) → 1 ≤ n → total ty len n < 16 ^ n → total ty len n < 2 ^ 32 → (is_boolean ty ≡ true → n ≡ 1)
    → Reads tlf_at (Is (record { ty = ty; len = len })) (typed ty n (total ty len n))
typed_reads ty n len low small fits b = record { reads = λ l h. typed_gets ty n len l low small fits b h }

-- the first of them is not 01, that of an absent field, but for the one length byte of an empty string
pub typed_not_one : (ty : Ty) (n len : ℕ) (x : List ℕ) → 1 ≤ n → total ty len n < 16 ^ n → 2 ≤ ty_number ty + len + n → get_or (typed ty n (total ty len n) ++ x) 0 0x01 ≡ 0x01 → ⊥
unfolding typed
typed_not_one ty zero len x low small h e = omega arith
typed_not_one OctetString (suc zero) len x low small h e = omega arith
typed_not_one Boolean (suc zero) len x low small h e = omega arith
typed_not_one Integer (suc zero) len x low small h e = omega arith
typed_not_one Unsigned (suc zero) len x low small h e = omega arith
typed_not_one ListOf (suc zero) len x low small h e = omega arith
typed_not_one ty (suc (suc j)) len x low small h e = omega arith

is_list_of_claim : (n : ℕ) → is_list_of n (record { ty = ListOf; len = n }) ≡ true
is_list_of_claim n = eq-eqb n n refl

-- the head of a list of n elements
pub list_of_reads : (n : ℕ) {b : List ℕ} → Reads tlf_at (Is (record { ty = ListOf; len = n })) b → Reads (list_of_at n) (Is tt) b
unfolding list_of_at
list_of_reads n r = record { reads = λ l h. gets_is _ _ (r.reads l h) (λ m k. gets_guard _ _ _ (is_list_of_claim n) (gets_got refl k)) }
