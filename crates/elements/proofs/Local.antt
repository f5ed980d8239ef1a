-- Length bytes are read alike wherever they stand, whatever is before and behind them.
use mathlib.Core.Path.{◌≡◌, refl, sym, ap}
use mathlib.Core.List.{List, [], ◌∷◌, ◌++◌}
use mathlib.Core.Bool.{Bool, true, false, not, ◌&&◌}
use mathlib.Core.Option.{some}
use Prim.Native.Nat.{ℕ, suc, ◌+◌, ◌-◌, ◌≤◌, ◌<◌}
use native.Mathlib.Omega.{arith}
use lib.ListN.{length, get_or, take, drop, length-drop}
use lib.Seq.{take-append_seam, take-length, take-take, length-take-le}
use lib.Dec.{leb, eqb}
use borrow.Author.Tests.{lt-ltb}
use Rattle.refusals.specs.Read.{got, then, guard, need, byte_at}
use Rattle.tlf.specs.Lengths.{more_follow, type_bits, length_bits, ty_of, longer, longest, is_list, is_boolean, length_from, less_own, tlf_at}
use Rattle.tlf.specs.declared.Ty.{Ty}
use Rattle.tlf.specs.declared.TypeLengthField.{TypeLengthField}
use Rattle.refusals.proofs.Read.{Ok, ok_got, ok_then, ok_guard, ok_cond, ok_some, ok_both, ok_weak, ok_at, Ahead, byte_ok}
use Rattle.refusals.proofs.Places.{from_place}
use Rattle.tlf.proofs.Lengths.{length_stop, length_ok, tlf_ok}
use Rattle.refusals.proofs.Rest.{Rest, Gets, rest_length, rest_byte, rest_next, rest_skip, gets_got}
use Rattle.elements.specs.Grammar.{HeadBytes}

-- what begins with b
record StartsWith (m b : ℕ) (bs ys : List ℕ) : Type 0 where
  tail : List ℕ
  is : ys ≡ b ∷ tail
  same : take m tail ≡ take m bs

starts_with : (m b : ℕ) (bs ys : List ℕ) → take (suc m) ys ≡ b ∷ take m bs → StartsWith m b bs ys
starts_with m b bs [] h = let z : ◌≡◌ {A = ℕ} 0 (suc (length (take m bs))) = ap length h in absurd (omega arith)
starts_with m b bs (y ∷ ys) h =
    let p : y ≡ b = cc in
    let q : take m ys ≡ take m bs = cc in
    record { tail = ys; is = rw p; same = q }

-- the further length bytes, from other bytes that begin alike
abbrev SameLength : List ℕ → ℕ → Bool → ℕ → ℕ → ℕ → Type 0
SameLength bs i more len v n = (end start : ℕ) (ys : List ℕ) (j : ℕ) → take (n - i) ys ≡ take (n - i) bs → length_from end start ys j more len ≡ got v (j + (n - i))

length_stopped : (bs : List ℕ) (i : ℕ) (more : Bool) (len : ℕ) → more ≡ false → SameLength bs i more len len i
length_stopped bs i more len e end start ys j h = let z : j + (i - i) ≡ j = omega arith in rw (e, z) (length_stop end start ys j len)

one_byte_more : (b : ℕ) (bs : List ℕ) (more : Bool) (len v m end start j : ℕ) (ys : List ℕ) → StartsWith m b bs ys → more ≡ true → eqb (type_bits b) 0 ≡ true → leb (longer len b) longest ≡ true
    → ((zs : List ℕ) → take m zs ≡ take m bs → length_from end start zs (j + 1) (more_follow b) (longer len b) ≡ got v (j + 1 + m)) → length_from end start ys j more len ≡ got v (j + suc m)
unfolding length_from guard
one_byte_more b bs more len v m end start j ys s e g o ih =
    let y : j + suc m ≡ j + 1 + m = omega arith in
    rw (s.is, e, g, o, y) (ih s.tail s.same)

went_on : (b : ℕ) (bs : List ℕ) (i : ℕ) (more : Bool) (len v n : ℕ) → more ≡ true → eqb (type_bits b) 0 ≡ true → leb (longer len b) longest ≡ true → i + 1 ≤ n → SameLength bs (i + 1) (more_follow b) (longer len b) v n → SameLength (b ∷ bs) i more len v n
went_on b bs i more len v n e g o p ih end start ys j h =
    let z : n - i ≡ suc (n - (i + 1)) = omega arith in
    rw z (one_byte_more b bs more len v (n - (i + 1)) end start j ys (starts_with (n - (i + 1)) b bs ys (rw z at h)) e g o (λ zs k. ih end start zs (j + 1) k))

len_same : (end start : ℕ) (bs : List ℕ) (i : ℕ) (more : Bool) (len : ℕ) → Ok (SameLength bs i more len) (length_from end start bs i more len)
unfolding length_from
len_same end start [] i more len = ok_cond more _ _ (λ e. record { holds = tt }) (λ e. ok_got _ _ (length_stopped [] i more len e))
len_same end start (b ∷ bs) i more len =
    ok_cond more _ _
    (λ e. ok_guard _ _ _ (λ g. ok_guard _ _ _ (λ o.
    ok_weak (λ v n h. went_on b bs i more len v n e g o h.1.0 h.0) (ok_both (len_same end start bs (i + 1) (more_follow b) (longer len b)) (length_ok end start bs (i + 1) (more_follow b) (longer len b))))))
    (λ e. ok_got _ _ (length_stopped (b ∷ bs) i more len e))

own_same : (ty : Ty) (own len start next : ℕ) → Ok (λ t n. (n ≡ next) × ((p q : ℕ) → less_own ty own len p q ≡ got t q)) (less_own ty own len start next)
unfolding less_own guard
own_same ty own len start next =
    ok_cond (is_list ty) _ _ (λ e. ok_got (record { ty = ty; len = len }) next (refl, λ p q. rw e)) (λ e. ok_guard (leb own len) _ _ (λ g. ok_got (record { ty = ty; len = len - own }) next (refl, λ p q. rw (e, g))))

-- type and length at p, from other bytes at q that begin alike
abbrev pub SameTlf : List ℕ → ℕ → TypeLengthField → ℕ → Type 0
SameTlf s p t n = (u : List ℕ) (q : ℕ) → take (n - p) (drop q u) ≡ take (n - p) (drop p s) → tlf_at u q ≡ got t (q + (n - p))

-- m: how many length bytes follow the first
tlf_by : (b len m : ℕ) (ty : Ty) (t : TypeLengthField) (u : List ℕ) (q : ℕ) (zs : List ℕ) → Rest u q (b ∷ zs) → ty_of (type_bits b) ≡ some ty → not (is_boolean ty && more_follow b) ≡ true
    → length_from (length u) q zs (q + 1) (more_follow b) (length_bits b) ≡ got len (q + 1 + m) → ((start next : ℕ) → less_own ty (suc m) len start next ≡ got t next) → tlf_at u q ≡ got t (q + suc m)
unfolding tlf_at byte_at then guard need
tlf_by b len m ty t u q zs r e g l o =
    let h : q < length u = omega (arith, rest_length r) in
    let x : q + 1 + m ≡ q + suc m = omega arith in
    let y : q + suc m - q ≡ suc m = omega arith in
    rw (lt-ltb q (length u) h, rest_byte r, e, g, (rest_next r).bytes, l, x, y) (o q (q + suc m))

rest_of_lem : (u : List ℕ) (q b : ℕ) (zs : List ℕ) → drop q u ≡ b ∷ zs → Rest u q (b ∷ zs)
rest_of_lem u q b zs e = record { inside = omega (arith, length-drop q u, ap length e); bytes = e }

same_by : (s : List ℕ) (p b next end len : ℕ) (ty : Ty) (t : TypeLengthField) → p < length s → b ≡ get_or s p 0 → next ≡ p + 1 → next ≤ end → ty_of (type_bits b) ≡ some ty → not (is_boolean ty && more_follow b) ≡ true
    → SameLength (drop next s) next (more_follow b) (length_bits b) len end → ((start n : ℕ) → less_own ty (end - p) len start n ≡ got t n) → SameTlf s p t end
same_by s p b next end len ty t h eb en le e g l o u q k =
    let z : end - p ≡ suc (end - next) = omega arith in
    let d : drop p s ≡ b ∷ drop next s = rw (eb, en) (from_place s p h) in
    let w = starts_with (end - next) b (drop next s) (drop q u) (rw (d, z) at k) in
    rw z (tlf_by b len (end - next) ty t u q w.tail (rest_of_lem u q b w.tail w.is) e g (l (length u) q w.tail (q + 1) w.same) (rw z at o))

pub tlf_same : (s : List ℕ) (p : ℕ) → Ok (SameTlf s p) (tlf_at s p)
unfolding tlf_at
tlf_same s p =
    ok_then _ _ (byte_ok s p) (λ b next h. ok_some _ _ _ (λ ty e. ok_guard _ _ _ (λ g.
    let a = h.2 in
    ok_then _ _ (ok_both (len_same (length s) p (drop next s) next (more_follow b) (length_bits b)) (length_ok (length s) p (drop next s) next (more_follow b) (length_bits b))) (λ len end k.
    ok_weak (λ t n o. rw o.0 (same_by s p b next end len ty t (omega (arith, a.ahead, a.within)) h.0 h.1 k.1.0 e g k.0 o.1)) (own_same ty (end - p) len p end)))))

-- length bytes, wherever they stand
pub head_gets : (t : TypeLengthField) (b : List ℕ) → HeadBytes t b → {s : List ℕ} {p : ℕ} (l : List ℕ) → Rest s p (b ++ l) → Gets (λ (x : TypeLengthField). x ≡ t) s l (tlf_at s p)
head_gets t b h {s} {p} l r =
    let f : SameTlf b 0 t (length b) = ok_at (sym h.is) (tlf_same b 0) in
    let z : length b - 0 ≡ length b = omega arith in
    let w : take (length b - 0) (drop p s) ≡ take (length b - 0) (drop 0 b) = rw (z, r.bytes, take-append_seam b l, take-length b) in
    let e : tlf_at s p ≡ got t (p + length b) = rw z at (f s p w) in
    rw e (gets_got refl (rest_skip b r))

-- the bytes from p to n
abbrev pub part_from : List ℕ → ℕ → ℕ → List ℕ
part_from s p n = take (n - p) (drop p s)

pub part_length : (s : List ℕ) (p n : ℕ) → n ≤ length s → length (part_from s p n) ≡ n - p
part_length s p n h = length-take-le (n - p) (drop p s) (omega (arith, length-drop p s))

-- what was read were length bytes
pub read_head : (s : List ℕ) (p n : ℕ) (t : TypeLengthField) → tlf_at s p ≡ got t n → HeadBytes t (part_from s p n)
read_head s p n t e =
    let f : SameTlf s p t n = ok_at (sym e) (tlf_same s p) in
    let a : Ahead s p n = ok_at (sym e) (tlf_ok s p) in
    let z : 0 + (n - p) ≡ n - p = omega arith in
    record { is = rw (part_length s p n a.within) (rw z at (f (part_from s p n) 0 (take-take (n - p) (n - p) (drop p s) (omega arith)))) }
