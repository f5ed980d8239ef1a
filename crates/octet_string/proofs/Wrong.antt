-- What the contracts rule out: each wrong reading of docs/WRONG-READINGS.md that is told here is an outcome that the definition does not allow, at a small input.
use mathlib.Core.Path.{◌≡◌, ap, ◌∙◌}
use mathlib.Core.List.{List, [], ◌∷◌}
use Prim.Native.Nat.{ℕ, ◌+◌}
use native.Mathlib.Omega.{arith}
use Rattle.decided.specs.Part.{LentPart, part_at}
use Rattle.octet_string.specs.Strings.{span_within, part_of, part_start}

-- 12 34 stands twice: the part of a span is the one that the span names
part_from_elsewhere : (p : LentPart) → p.bytes ≡ 0x12 ∷ 0x34 ∷ 0x12 ∷ 0x34 ∷ [] → part_at p 2 (0x12 ∷ 0x34 ∷ []) ≡ part_at p (part_start p.bytes (record { start = 0; len = 2 })) (part_of p.bytes (record { start = 0; len = 2 })) → ⊥
unfolding part_start span_within
part_from_elsewhere p is h =
    let n : p.place + 2 ≡ p.place + 0 = ap (λ (x : LentPart). x.place) h ∙ ap (λ (m : List ℕ). p.place + part_start m (record { start = 0; len = 2 })) is in
    omega (arith, n)

-- the empty part of a bad span stands at the input's start, not at the span's
bad_span_at_its_start : (p : LentPart) → p.bytes ≡ 0x12 ∷ 0x34 ∷ [] → part_at p 1 [] ≡ part_at p (part_start p.bytes (record { start = 1; len = 2 })) (part_of p.bytes (record { start = 1; len = 2 })) → ⊥
unfolding part_start span_within
bad_span_at_its_start p is h =
    let n : p.place + 1 ≡ p.place + 0 = ap (λ (x : LentPart). x.place) h ∙ ap (λ (m : List ℕ). p.place + part_start m (record { start = 1; len = 2 })) is in
    omega (arith, n)
