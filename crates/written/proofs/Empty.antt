-- A string that is present and empty: 80 02 is read so, and no other field of two bytes is.
use mathlib.Core.Path.{◌≡◌, refl, sym, ap, ◌∙◌}
use mathlib.Core.List.{List, [], ◌∷◌, ◌++◌}
use mathlib.Core.Bool.{true}
use mathlib.Core.Option.{Option, some, none}
use Prim.Native.Nat.{ℕ, zero, suc, ◌+◌, ◌*◌, ◌/◌, ◌%◌, ◌-◌, ◌≤◌, ◌<◌}
use native.Mathlib.Omega.{arith}
use lib.ListN.{length, take, drop, length-drop}
use lib.Seq.{length-take-le}
use borrow.Author.Tests.{leb-true, leb-false, eqb-true}
use Rattle.refusals.specs.Read.{Read, got}
use Rattle.tlf.specs.Lengths.{ty_of, more_follow, length_from, less_own, tlf_at}
use Rattle.refusals.specs.declared.Span.{Span}
use Rattle.tlf.specs.declared.Ty.{Ty}
use Rattle.tlf.specs.declared.Ty.TheVariants.{OctetString, Boolean, Integer, Unsigned, ListOf}
use Rattle.tlf.specs.declared.TypeLengthField.{TypeLengthField}
use Rattle.refusals.proofs.Read.{Ok, ok_any, ok_at, ok_got, ok_then, ok_guard, ok_cond, ok_some, ok_weak, byte_ok, Inside, span_ok}
use Rattle.tlf.specs.Written.{ty_number}
use Rattle.refusals.proofs.Rest.{Reads, reads_at}
use Rattle.octet_string.specs.Strings.{is_octets, octets_at, part_of}
use Rattle.octet_string.specs.Optional.{absent_at, optional}
use Rattle.octet_string.proofs.Strings.{part_is}
use Rattle.octet_string.proofs.Optional.{OfField}
use Rattle.streaming.specs.Meaning.{each}
use Rattle.written.specs.Fits.{OnlyBytes}
use Rattle.written.specs.Claims.{EmptyThere}
use Rattle.writer.specs.Fields.{write_optional, write_present}
use Rattle.written.proofs.Lens.{not_so}
use Rattle.written.proofs.Fields.{written_opt_string}

-- present and empty, wherever it stands and whatever follows
pub present_empty : Reads (optional octets_at) (λ s a. each (part_of s) a ≡ some []) (0x80 ∷ 0x02 ∷ [])
unfolding write_optional write_present
present_empty = written_opt_string (some []) (record { short = omega arith })

-- a string's type and length, its bytes right behind them
is_string : (ty : Ty) (len : ℕ) (p : Span) (m : ℕ) → is_octets ty ≡ true → p.start ≡ m → p.len ≡ len
    → ◌≡◌ {A = Read TypeLengthField} (got (record { ty = ty; len = len }) m) (got (record { ty = OctetString; len = p.len }) p.start)
is_string OctetString len p m e a b = rw (a, b)
is_string Boolean len p m e a b = not_so e
is_string Integer len p m e a b = not_so e
is_string Unsigned len p m e a b = not_so e
is_string ListOf len p m e a b = not_so e

record Behind (s : List ℕ) (at : ℕ) (p : Span) (next : ℕ) : Type 0 where
  tlf : tlf_at s at ≡ got (record { ty = OctetString; len = p.len }) p.start
  end : next ≡ p.start + p.len
  within : next ≤ length s

octets_behind : (s : List ℕ) (at : ℕ) → Ok (λ p n. Behind s at p n) (octets_at s at)
unfolding octets_at
octets_behind s at =
    ok_then _ _ (ok_any (tlf_at s at)) (λ t m a. ok_guard _ _ _ (λ e.
    ok_weak (λ p n (i : Inside s m t.len p n). record { tlf = a ∙ is_string t.ty t.len p m e i.start_is i.len_is; end = omega (arith, i.start_is, i.len_is, i.next_is); within = i.within })
    (span_ok s m t.len)))

present_behind : (s : List ℕ) (at : ℕ) → Ok (λ m n. OfField (Behind s at) m n) (optional octets_at s at)
unfolding optional
present_behind s at = ok_cond (absent_at s at) _ _ (λ e. ok_got _ _ tt) (λ e. ok_then _ _ (octets_behind s at) (λ p n q. ok_got _ _ q))

-- the bytes of a string, and one where there is none
abbrev bytes_or_one : Option (List ℕ) → List ℕ
bytes_or_one (some b) = b
bytes_or_one none = 0 ∷ []

-- so its span has no byte
pub empty_there : (pre l : List ℕ) → EmptyThere (pre ++ (0x80 ∷ 0x02 ∷ l)) (length pre)
empty_there pre l = let g = reads_at present_empty pre l in by (pre ++ (0x80 ∷ 0x02 ∷ l)) (length pre) g.value g.is g.has
  where
    by : (s : List ℕ) (at : ℕ) (m : Option Span) → optional octets_at s at ≡ got m (at + 2) → each (part_of s) m ≡ some [] → EmptyThere s at
    by s at none e q = let z : ◌≡◌ {A = ℕ} 1 0 = ap (λ (m : Option (List ℕ)). length (bytes_or_one m)) q in absurd (omega arith)
    by s at (some p) e q =
        let b = ok_at (sym e) (present_behind s at) in
        let w : p.start + p.len ≤ length s = omega (arith, b.end, b.within) in
        let nothing : part_of s p ≡ [] = ap bytes_or_one q in
        let n : length (take p.len (drop p.start s)) ≡ 0 = ap length (sym (part_is s p w) ∙ nothing) in
        record { found = p; is = e; no_bytes = omega (arith, n, length-take-le p.len (drop p.start s) (omega (arith, w, length-drop p.start s))) }

-- two length bytes
record TwoLengths (x y v : ℕ) : Type 0 where
  follows : 128 ≤ x
  low : y < 16
  says : v ≡ x % 16 * 16 + y

length_two : (x y : ℕ) → y < 256 → Ok (λ v n. n ≡ 2 → TwoLengths x y v) (length_from 2 0 (y ∷ []) 1 (more_follow x) (x % 16))
unfolding length_from
length_two x y h =
    ok_cond (more_follow x) _ _
    (λ e. ok_guard _ _ _ (λ e₁. ok_guard _ _ _ (λ e₃. ok_cond (more_follow y) _ _ (λ e₂. record { holds = tt }) (λ e₂. ok_got _ _ (λ n.
    let t : y / 16 % 8 ≡ 0 = eqb-true (y / 16 % 8) 0 e₁ in
    let b : y < 128 = omega (arith, leb-false 128 y e₂) in
    record { follows = leb-true 128 x e; low = omega arith; says = omega arith })))))
    (λ e. ok_got _ _ (λ n. absurd (omega arith)))

own_of : (ty : Ty) (own len start next : ℕ) → Ok (λ t n. (n ≡ next) × (t ≡ record { ty = OctetString; len = 0 } → (ty ≡ OctetString) × (len ≡ own))) (less_own ty own len start next)
unfolding less_own
own_of OctetString own len start next =
    ok_guard _ _ _ (λ e. ok_got _ _ (refl, λ q. (refl, omega (arith, leb-true own len e, ap (λ (t : TypeLengthField). t.len) q))))
own_of Boolean own len start next = ok_guard _ _ _ (λ e. ok_got _ _ (refl, λ q. absurd (omega (arith, ap (λ (t : TypeLengthField). ty_number t.ty) q))))
own_of Integer own len start next = ok_guard _ _ _ (λ e. ok_got _ _ (refl, λ q. absurd (omega (arith, ap (λ (t : TypeLengthField). ty_number t.ty) q))))
own_of Unsigned own len start next = ok_guard _ _ _ (λ e. ok_got _ _ (refl, λ q. absurd (omega (arith, ap (λ (t : TypeLengthField). ty_number t.ty) q))))
own_of ListOf own len start next = ok_got _ _ (refl, λ q. absurd (omega (arith, ap (λ (t : TypeLengthField). ty_number t.ty) q)))

abbrev ty_number_of : Option Ty → ℕ
ty_number_of (some ty) = ty_number ty
ty_number_of none = 8

ty_string : (k : ℕ) → k < 8 → ty_of k ≡ some OctetString → k ≡ 0
ty_string zero h e = refl
ty_string (suc zero) h e = absurd (omega (arith, ap ty_number_of e))
ty_string (suc (suc zero)) h e = absurd (omega (arith, ap ty_number_of e))
ty_string (suc (suc (suc zero))) h e = absurd (omega (arith, ap ty_number_of e))
ty_string (suc (suc (suc (suc zero)))) h e = absurd (omega (arith, ap ty_number_of e))
ty_string (suc (suc (suc (suc (suc zero))))) h e = absurd (omega (arith, ap ty_number_of e))
ty_string (suc (suc (suc (suc (suc (suc zero)))))) h e = absurd (omega (arith, ap ty_number_of e))
ty_string (suc (suc (suc (suc (suc (suc (suc zero))))))) h e = absurd (omega (arith, ap ty_number_of e))
ty_string (suc (suc (suc (suc (suc (suc (suc (suc k)))))))) h e = absurd (omega arith)

tlf_two : (x y : ℕ) → x < 256 → y < 256 → Ok (λ t n. n ≡ 2 → t ≡ record { ty = OctetString; len = 0 } → (x ≡ 0x80) × (y ≡ 0x02)) (tlf_at (x ∷ y ∷ []) 0)
unfolding tlf_at
tlf_two x y hx hy =
    ok_then _ _ (byte_ok (x ∷ y ∷ []) 0) (λ b next h. rw (h.0, h.1)
    (ok_some _ _ _ (λ ty e. ok_guard _ _ _ (λ e₁.
    ok_then _ _ (length_two x y hy) (λ len end q.
    ok_weak (λ t n k i j.
    let two = q (sym k.0 ∙ i) in
    let o = k.1 j in
    let bits : x / 16 % 8 ≡ 0 = ty_string (x / 16 % 8) (omega arith) (rw o.0 at e) in
    let own : len ≡ end - 0 = o.1 in
    (omega (arith, bits, two.follows, two.low, two.says, own, k.0, i), omega (arith, bits, two.follows, two.low, two.says, own, k.0, i)))
    (own_of ty (end - 0) len 0 end))))))

-- no other field of two bytes is read as present and empty
pub only_empty : (b : List ℕ) (p : Span) → OnlyBytes b → length b ≡ 2 → optional octets_at b 0 ≡ got (some p) 2 → p.len ≡ 0 → b ≡ 0x80 ∷ 0x02 ∷ []
only_empty [] p h two e z = absurd (omega arith)
only_empty (x ∷ []) p h two e z = absurd (omega arith)
only_empty (x ∷ y ∷ []) p h two e z =
    let q = ok_at (sym e) (present_behind (x ∷ y ∷ []) 0) in
    let at : p.start ≡ 2 = omega (arith, q.end) in
    let r = ok_at (sym q.tlf) (tlf_two x y (h.byte 0) (h.byte 1)) at (ap (λ (n : ℕ). record { ty = OctetString; len = n }) z) in
    rw (r.0, r.1)
only_empty (x ∷ y ∷ v ∷ b) p h two e z = absurd (omega arith)
