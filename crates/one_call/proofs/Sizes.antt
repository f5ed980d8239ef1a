-- An entry has eight bytes at least: its list's head and seven elements. So an input has room for few.
use mathlib.Core.Path.{sym}
use mathlib.Core.List.{List, [], ◌∷◌}
use Prim.Native.Nat.{ℕ, ◌+◌, ◌*◌, ◌≤◌}
use native.Mathlib.Omega.{arith}
use lib.ListN.{length}
use Rattle.refusals.specs.declared.Span.{Span}
use Rattle.refusals.proofs.Read.{Ok, ok_at, ok_got, ok_then}
use Rattle.refusals.proofs.Found.{Any}
use Rattle.tlf.proofs.Lengths.{list_of_ok}
use Rattle.numbers.specs.Numbers.{unsigned_at, signed_at}
use Rattle.numbers.proofs.Ahead.{unsigned_found, signed_found}
use Rattle.octet_string.proofs.Within.{octets_found, optional_found}
use Rattle.value.specs.Values.{status_at}
use Rattle.value.proofs.Values.{status_found, value_found}
use Rattle.common.specs.Fields.{ListEntry, entry_at}
use Rattle.common.proofs.Fields.{opt_octets, opt_time_claim}
use Rattle.whole.specs.Whole.{EntryRow}
use Rattle.one_call.specs.Readers.{RowsAre, Chained}

entry_long : (s : List ℕ) (at : ℕ) → Ok (λ e n. at + 8 ≤ n) (entry_at s at)
unfolding entry_at
entry_long s at =
    ok_then _ _ (list_of_ok 7 s at) (λ list n₀ h₀.
    ok_then _ _ (octets_found s n₀) (λ name n₁ h₁.
    ok_then _ _ (optional_found {P = Any} status_at s n₁ (status_found s n₁)) (λ status n₂ h₂.
    ok_then _ _ (opt_time_claim s n₂) (λ time n₃ h₃.
    ok_then _ _ (optional_found {P = Any} (unsigned_at 1) s n₃ (unsigned_found 1 s n₃)) (λ unit n₄ h₄.
    ok_then _ _ (optional_found {P = Any} (signed_at 1) s n₄ (signed_found 1 s n₄)) (λ scaler n₅ h₅.
    ok_then _ _ (value_found s n₅) (λ value n₆ h₆.
    ok_then _ _ (opt_octets s n₆) (λ signature n₇ h₇.
    ok_got _ _ (omega (arith, h₀.ahead, h₁.1.ahead, h₂.1.ahead, h₃.1.ahead, h₄.1.ahead, h₅.1.ahead, h₆.1.ahead, h₇.1.ahead))))))))))

-- rows one behind the other have eight bytes each
pub rows_long : (s : List ℕ) (p q : ℕ) (rows : List EntryRow) (es : List (ListEntry Span)) → Chained p rows q → RowsAre s rows es → p + 8 * length rows ≤ q
rows_long s p q [] [] c h = omega (arith, c)
rows_long s p q (r ∷ rows) (e ∷ es) c h =
    let i = h.0 in
    let one = ok_at (sym i.entry_is) (entry_long s r.entry.start) in
    omega (arith, one, rows_long s (p + r.entry.len) q rows es c.1 h.1)
rows_long s p q [] (e ∷ es) c h = absurd h
rows_long s p q (r ∷ rows) [] c h = absurd h
