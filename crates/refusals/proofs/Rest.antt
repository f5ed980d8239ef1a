-- What is left of the input behind a reading: laws of `then`, `guard`, `need` and `many`, and of bytes taken.
use mathlib.Core.Path.{◌≡◌, refl, sym, ap, ◌∙◌}
use mathlib.Core.List.{List, [], ◌∷◌, ◌++◌, append_assoc}
use mathlib.Core.Bool.{Bool, true}
use mathlib.Core.Option.{Option, some}
use Prim.Native.Nat.{ℕ, zero, suc, ◌+◌, ◌-◌, ◌≤◌}
use borrow.Author.Tests.{lt-ltb, le-leb}
use native.Mathlib.Numerals.{unary_clauses}
use native.Mathlib.Omega.{arith}
use lib.ListN.{length, get_or, take, drop, length-append, length-drop}
use lib.Seq.{drop-drop, drop-append_seam, take-append_seam, get_or-drop}
use Rattle.refusals.specs.Read.{Read, got, Refusal, then, guard, need, many, byte_at, span_at}
use Rattle.refusals.specs.declared.Span.{Span}
use Rattle.refusals.proofs.Read.{Ok, ok_at, Ahead}

-- the input's bytes from p on are l
pub record Rest (s : List ℕ) (p : ℕ) (l : List ℕ) : Type 0 where
  pub inside : p ≤ length s
  pub bytes : drop p s ≡ l

-- a reading finds a value that has P, and leaves l
pub record Gets {A : Type 0} (P : A → Type 0) (s l : List ℕ) (r : Read A) : Type 0 where
  pub value : A
  pub next : ℕ
  pub is : r ≡ got value next
  pub has : P value
  pub left : Rest s next l

-- the bytes b, wherever they stand, are read as a value that has P, and what follows them is left; P may look into the input, where strings are parts of it
pub record Reads {A : Type 0} (read : List ℕ → ℕ → Read A) (P : List ℕ → A → Type 0) (b : List ℕ) : Type 0 where
  pub reads : {s : List ℕ} {p : ℕ} (l : List ℕ) → Rest s p (b ++ l) → Gets (P s) s l (read s p)

-- the value is x, whatever the input
abbrev pub Is : {A : Type 0} → A → List ℕ → A → Type 0
Is x s a = a ≡ x

-- f of something that has P
pub record Made {A B : Type 0} (f : A → B) (P : List ℕ → A → Type 0) (s : List ℕ) (b : B) : Type 0 where
  pub of : A
  pub is : b ≡ f of
  pub has : P s of

-- behind any reading that is known to end within the input, what is left are the input's bytes from that place on
pub rest_behind : {s : List ℕ} {at next : ℕ} → Ahead s at next → Rest s next (drop next s)
rest_behind h = record { inside = h.within; bytes = refl }

pub rest_length : {s : List ℕ} {p : ℕ} {l : List ℕ} → Rest s p l → length s ≡ p + length l
rest_length {s} {p} {l} h = omega (arith, length-drop p s, ap length h.bytes)

pub rest_skip : {s : List ℕ} {p : ℕ} (b : List ℕ) {l : List ℕ} → Rest s p (b ++ l) → Rest s (p + length b) l
rest_skip {s} {p} b {l} h =
    record {
      inside = omega (arith, rest_length h, length-append b l);
      bytes = rw (← drop-drop (length b) p s, h.bytes) (drop-append_seam b l);
    }

pub rest_byte : {s : List ℕ} {p b : ℕ} {l : List ℕ} → Rest s p (b ∷ l) → get_or s p 0 ≡ b
rest_byte {s} {p} {b} {l} h = simp unary_clauses at (sym (get_or-drop p s 0 0)) ∙ ap (λ (x : List ℕ). get_or x 0 0) h.bytes

pub rest_next : {s : List ℕ} {p b : ℕ} {l : List ℕ} → Rest s p (b ∷ l) → Rest s (p + 1) l
rest_next {s} {p} {b} {l} h = rest_skip (b ∷ []) h

pub rest_take : {s : List ℕ} {p : ℕ} (b l : List ℕ) → Rest s p (b ++ l) → take (length b) (drop p s) ≡ b
rest_take b l h = rw h.bytes (take-append_seam b l)

pub rest_place : {s : List ℕ} {p n : ℕ} (b : List ℕ) {l : List ℕ} → Rest s p (b ++ l) → Rest s n l → n ≡ p + length b
rest_place b {l} h k = omega (arith, rest_length h, rest_length k, length-append b l)

-- behind the bytes pre
pub rest_at : (pre l : List ℕ) → Rest (pre ++ l) (length pre) l
rest_at pre l = record { inside = omega (arith, length-append pre l); bytes = drop-append_seam pre l }

-- the same said by places: behind any bytes, and whatever follows, b is read, and the place behind it is b's length further
pub record ReadsAt {A : Type 0} (read : List ℕ → ℕ → Read A) (P : List ℕ → A → Type 0) (pre b l : List ℕ) : Type 0 where
  pub value : A
  pub is : read (pre ++ (b ++ l)) (length pre) ≡ got value (length pre + length b)
  pub has : P (pre ++ (b ++ l)) value

pub reads_at : {A : Type 0} {read : List ℕ → ℕ → Read A} {P : List ℕ → A → Type 0} {b : List ℕ} → Reads read P b → (pre l : List ℕ) → ReadsAt read P pre b l
reads_at {b = b} r pre l =
    let h = rest_at pre (b ++ l) in
    let g = r.reads l h in
    record { value = g.value; is = rw (← rest_place b h g.left) g.is; has = g.has }

pub gets_got : {A : Type 0} {P : A → Type 0} {s l : List ℕ} {a : A} {n : ℕ} → P a → Rest s n l → Gets P s l (got a n)
gets_got {a = a} {n = n} h k = record { value = a; next = n; is = refl; has = h; left = k }

pub gets_then : {A B : Type 0} {P : A → Type 0} {Q : B → Type 0} {s l m : List ℕ} (r : Read A) (k : A → ℕ → Read B)
    → Gets P s l r → ((a : A) (n : ℕ) → P a → Rest s n l → Gets Q s m (k a n)) → Gets Q s m (then r k)
unfolding then
gets_then r k g h = rw g.is (h g.value g.next g.has g.left)

-- where the value itself is known
pub gets_is : {A B : Type 0} {x : A} {Q : B → Type 0} {s l m : List ℕ} (r : Read A) (k : A → ℕ → Read B)
    → Gets (λ a. a ≡ x) s l r → ((n : ℕ) → Rest s n l → Gets Q s m (k x n)) → Gets Q s m (then r k)
unfolding then
gets_is r k g h = rw (g.is, g.has) (h g.next g.left)

pub gets_guard : {A : Type 0} {P : A → Type 0} {s l : List ℕ} (t : Bool) (f : Refusal) (r : Read A) → t ≡ true → Gets P s l r → Gets P s l (guard t f r)
unfolding guard
gets_guard t f r e g = rw e g

pub gets_weak : {A : Type 0} {P Q : A → Type 0} {s l : List ℕ} {r : Read A} → ((a : A) → P a → Q a) → Gets P s l r → Gets Q s l r
gets_weak f g = record { value = g.value; next = g.next; is = g.is; has = f g.value g.has; left = g.left }

-- what holds of everything that a reading finds, too
pub gets_ok : {A : Type 0} {P R : A → Type 0} {Q : A → ℕ → Type 0} {s l : List ℕ} {r : Read A} → Ok Q r → ((a : A) (n : ℕ) → Q a n → P a → R a) → Gets P s l r → Gets R s l r
gets_ok h f g = record { value = g.value; next = g.next; is = g.is; has = f g.value g.next (ok_at (sym g.is) h) g.has; left = g.left }

-- a reading whose value f wraps
pub gets_made : {A B : Type 0} (f : A → B) {P : List ℕ → A → Type 0} {s l : List ℕ} (r : Read A) → Gets (P s) s l r → Gets (Made f P s) s l (then r λ a n. got (f a) n)
gets_made f r g = gets_then _ _ g (λ a n h k. gets_got (record { of = a; is = refl; has = h }) k)

pub gets_need : {A B : Type 0} {P : B → Type 0} {s l : List ℕ} (a : A) (m : Option A) (f : Refusal) (k : A → Read B) → m ≡ some a → Gets P s l (k a) → Gets P s l (need m f k)
unfolding need
gets_need a m f k e g = rw e g

-- a first value that has P, and others that have Q
pub record OneMore {A : Type 0} (P : List ℕ → A → Type 0) (Q : List ℕ → List A → Type 0) (s : List ℕ) (x : List A) : Type 0 where
  pub first : A
  pub others : List A
  pub is : x ≡ first ∷ others
  pub first_has : P s first
  pub others_have : Q s others

-- one reading no times finds nothing in no bytes
pub none_reads : {A : Type 0} (read : List ℕ → ℕ → Read A) → Reads (λ s. many zero (read s)) (Is []) []
unfolding many
none_reads read = record { reads = λ l h. gets_got refl h }

-- and once more than n times one value more
pub more_reads : {A : Type 0} {read : List ℕ → ℕ → Read A} {P : List ℕ → A → Type 0} {Q : List ℕ → List A → Type 0} (n : ℕ) {b₁ b₂ : List ℕ}
    → Reads read P b₁
    → Reads (λ s. many n (read s)) Q b₂
    → Reads (λ s. many (suc n) (read s)) (OneMore P Q) (b₁ ++ b₂)
unfolding many
more_reads n r₁ r₂ =
    record {
      reads = λ l h.
          gets_then _ _ (r₁.reads _ (simp append_assoc at h)) (λ a₁ n₁ h₁ k₁.
          gets_then _ _ (r₂.reads l k₁) (λ a₂ n₂ h₂ k₂.
          gets_got (record { first = a₁; others = a₂; is = refl; first_has = h₁; others_have = h₂ }) k₂));
    }

pub byte_gets : {s : List ℕ} {p b : ℕ} {l : List ℕ} → Rest s p (b ∷ l) → Gets (λ (x : ℕ). x ≡ b) s l (byte_at s p)
unfolding byte_at
byte_gets {s} {p} {b} {l} h =
    gets_guard _ _ _ (lt-ltb p (length s) (omega (arith, rest_length h))) (gets_got (rest_byte h) (rest_next h))

-- as many bytes as x has: the part is x
pub span_gets : (x : List ℕ) (n : ℕ) {s : List ℕ} {p : ℕ} (l : List ℕ) → length x ≡ n → Rest s p (x ++ l)
    → Gets (λ (a : Span). take a.len (drop a.start s) ≡ x) s l (span_at s p n)
unfolding span_at
span_gets x n {s} {p} l e h =
    gets_guard _ _ _ (le-leb p (length s) h.inside) (gets_guard _ _ _ (le-leb n (length s - p) (omega (arith, rest_length h, length-append x l)))
    (gets_got (rw (← e, rest_take x l h)) (rw e at (rest_skip x h))))
