-- Laws of the length rules: one step of the reading, and where it ends.
use mathlib.Core.Path.{◌≡◌, refl}
use mathlib.Core.List.{List, [], ◌∷◌}
use mathlib.Core.Bool.{Bool, true, false, not, ◌&&◌}
use Prim.Native.Nat.{ℕ, ◌+◌, ◌-◌, ◌^◌, ◌≤◌, ◌<◌}
use native.Mathlib.Omega.{arith}
use lib.ListN.{length, get_or, drop, drop_of_length-le, length-drop}
use lib.Dec.{leb, eqb}
use borrow.Author.Tests.{leb-true, lt-ltb}
use Rattle.refusals.specs.Read.{Read, got, refused, then, guard, need, eof, byte_at}
use Rattle.refusals.specs.Answers.{overflow, reserved, next_type, invalid_ty}
use Rattle.refusals.proofs.Places.{from_place}
use Rattle.refusals.proofs.Read.{Ok, ok_got, ok_guard, ok_cond, ok_weak, ok_then, ok_need, Ahead, byte_ok}
use Rattle.tlf.specs.Lengths.{more_follow, type_bits, length_bits, ty_of, longer, longest, length_from, less_own, is_list, is_boolean, tlf_at, list_of_at}
use Rattle.tlf.specs.declared.Ty.{Ty}
use Rattle.tlf.specs.declared.TypeLengthField.{TypeLengthField}

-- the length of the element at `at`, of which the bytes before i are read: `len` so far
unfoldable pub length_rest : ℕ → ℕ → Bool → ℕ → List ℕ → Read ℕ
length_rest at i more len s = length_from (length s) at (drop i s) i more len

-- type and length at a place whose byte is b
unfoldable pub head_from : ℕ → ℕ → List ℕ → Read TypeLengthField
head_from at b s =
    need (ty_of (type_bits b)) (invalid_ty at) λ ty.
    guard (not (is_boolean ty && more_follow b)) (reserved at)
    (then (length_rest at (at + 1) (more_follow b) (length_bits b) s) λ len end.
    less_own ty (end - at) len at end)

pub head_is : (s : List ℕ) (at b : ℕ) → at < length s → get_or s at 0 ≡ b → tlf_at s at ≡ head_from at b s
unfolding tlf_at byte_at then guard head_from length_rest
head_is s at b h e = rw (lt-ltb at (length s) h, e)

-- no more follow
pub length_stop : (end start : ℕ) (bs : List ℕ) (at len : ℕ) → length_from end start bs at false len ≡ got len at
unfolding length_from
length_stop end start [] at len = refl
length_stop end start (b ∷ bs) at len = refl

-- more follow, and the input has ended
pub length_cut : (s : List ℕ) (start i len : ℕ) → length s ≤ i → length_from (length s) start (drop i s) i true len ≡ refused (eof (length s))
unfolding length_from
length_cut s start i len h = rw (drop_of_length-le s h)

-- more follow: the byte at i is one of them
pub length_next : (s : List ℕ) (start i len : ℕ) → i < length s
    → length_from (length s) start (drop i s) i true len
    ≡ guard (eqb (type_bits (get_or s i 0)) 0) (next_type start)
    (guard (leb (longer len (get_or s i 0)) longest) (overflow start)
    (length_from (length s) start (drop (i + 1) s) (i + 1) (more_follow (get_or s i 0)) (longer len (get_or s i 0))))
unfolding length_from
length_next s start i len h = rw (from_place s i h)

-- a length that is read ends not before the place at which its reading began, and not behind the bytes
pub length_ok : (end start : ℕ) (bs : List ℕ) (i : ℕ) (more : Bool) (len : ℕ) → Ok (λ v n. (i ≤ n) × (n ≤ i + length bs)) (length_from end start bs i more len)
unfolding length_from
length_ok end start [] i more len = ok_cond more _ _ (λ e. record { holds = tt }) (λ e. ok_got _ _ (omega arith))
length_ok end start (b ∷ bs) i more len =
    ok_cond more _ _
    (λ e. ok_guard _ _ _ (λ e₁. ok_guard _ _ _ (λ e₂.
    ok_weak (λ v n (h : (i + 1 ≤ n) × (n ≤ i + 1 + length bs)). omega arith) (length_ok end start bs (i + 1) (more_follow b) (longer len b)))))
    (λ e. ok_got _ _ (omega arith))

less_own_ok : (ty : Ty) (own len start next : ℕ) → Ok (λ t n. n ≡ next) (less_own ty own len start next)
unfolding less_own
less_own_ok ty own len start next = ok_cond (is_list ty) _ _ (λ e. ok_got _ _ refl) (λ e. ok_guard _ _ _ (λ e'. ok_got _ _ refl))

-- type and length take at least a byte, and end within the input
pub tlf_ok : (s : List ℕ) (at : ℕ) → Ok (λ t n. Ahead s at n) (tlf_at s at)
unfolding tlf_at
tlf_ok s at =
    ok_then _ _ (byte_ok s at) (λ b next h. ok_need _ _ _ (λ ty. ok_guard _ _ _ (λ e.
    ok_then _ _ (length_ok (length s) at (drop next s) next _ _) (λ len end (k : (next ≤ end) × (end ≤ next + length (drop next s))).
    let a = h.2 in
    ok_weak (λ t n (q : n ≡ end). record { ahead = omega arith; within = omega (arith, length-drop next s) }) (less_own_ok ty (end - at) len at end)))))

pub list_of_ok : (k : ℕ) (s : List ℕ) (at : ℕ) → Ok (λ u n. Ahead s at n) (list_of_at k s at)
unfolding list_of_at
list_of_ok k s at = ok_then _ _ (tlf_ok s at) (λ t n a. ok_guard _ _ _ (λ e. ok_got _ _ a))

len_small : (end start : ℕ) (bs : List ℕ) (i : ℕ) (more : Bool) (len : ℕ) → len < 2 ^ 32 → Ok (λ v n. v < 2 ^ 32) (length_from end start bs i more len)
unfolding length_from
len_small end start [] i more len h = ok_cond more _ _ (λ e. record { holds = tt }) (λ e. ok_got _ _ h)
len_small end start (b ∷ bs) i more len h =
    ok_cond more _ _
    (λ e. ok_guard _ _ _ (λ e₁. ok_guard _ _ _ (λ e₂. len_small end start bs (i + 1) (more_follow b) (longer len b) (omega (arith, leb-true (longer len b) longest e₂)))))
    (λ e. ok_got _ _ h)

own_small : (ty : Ty) (own len start next : ℕ) → len < 2 ^ 32 → Ok (λ t n. t.len < 2 ^ 32) (less_own ty own len start next)
unfolding less_own
own_small ty own len start next h = ok_cond (is_list ty) _ _ (λ e. ok_got _ _ h) (λ e. ok_guard _ _ _ (λ e'. ok_got _ _ (omega arith)))

-- a length fits in 32 bits
pub tlf_small : (s : List ℕ) (at : ℕ) → Ok (λ t n. t.len < 2 ^ 32) (tlf_at s at)
unfolding tlf_at
tlf_small s at =
    ok_then _ _ (byte_ok s at) (λ b next h. ok_need _ _ _ (λ ty. ok_guard _ _ _ (λ e.
    ok_then _ _ (len_small (length s) at (drop next s) next _ _ (omega arith)) (λ len end k. own_small ty (end - at) len at end k))))
