-- Values, and the fields of open, close and list entry: the walk ends where their reading does. One line a field.
use mathlib.Core.Path.{◌≡◌}
use mathlib.Core.List.{List}
use Prim.Native.Nat.{ℕ, suc}
use lib.ListN.{get_or}
use borrow.Author.Tests.{eqb-true}
use Rattle.tlf.specs.Lengths.{tlf_at}
use Rattle.tlf.specs.declared.Ty.{Ty}
use Rattle.tlf.specs.declared.Ty.TheVariants.{OctetString, Boolean, Integer, Unsigned, ListOf}
use Rattle.refusals.proofs.Read.{Ok, ok_any, ok_got, ok_guard, ok_then, byte_ok}
use Rattle.numbers.specs.Numbers.{unsigned_at, signed_at}
use Rattle.value.specs.Values.{narrowest, status_of, status_at, signed_value, unsigned_value, list_type_at, value_of_claim, value_at}
use Rattle.common.specs.Fields.{open_at, close_at, entry_at}
use Rattle.trailer.specs.Trailer.{message_end_at}
use Rattle.elements.proofs.Spans.{none_ends, another_ends, Walks, head_walks, mark_walks}
use Rattle.elements.proofs.Leaves.{octets_walks, unsigned_walks, signed_walks, bool_walks, optional_walks, time_walks, opt_octets_walk, opt_time_walk}
use native.Mathlib.Omega.{arith}

pub status_walks : (d : ℕ) (s : List ℕ) (at : ℕ) → Ok (Walks d s at) (status_at s at)
unfolding status_at status_of
status_walks d s at =
    ok_then _ _ (ok_any (tlf_at s at)) (λ t n e.
    ok_then _ _ (unsigned_walks (narrowest t.len) d s at) (λ a m w. ok_got _ _ w))

list_type_walks : (d : ℕ) (s : List ℕ) (at : ℕ) → Ok (Walks (suc (suc d)) s at) (list_type_at s at)
unfolding list_type_at
list_type_walks d s at =
    ok_then _ _ (head_walks 2 s at) (λ u n h.
    ok_then _ _ (unsigned_walks 1 (suc d) s n) (λ tag n₁ w₁. ok_guard _ _ _ (λ g.
    ok_then _ _ (time_walks d s n₁) (λ time n₂ w₂. ok_got _ _ (h (suc d) n₂ (another_ends w₁ (another_ends w₂ none_ends)))))))

value_of : (ty : Ty) (len d : ℕ) (s : List ℕ) (at : ℕ) → Ok (Walks (suc (suc d)) s at) (value_of_claim ty len s at)
unfolding value_of_claim signed_value unsigned_value
value_of OctetString len d s at = ok_then _ _ (octets_walks (suc (suc d)) s at) (λ a n w. ok_got _ _ w)
value_of Boolean len d s at = ok_then _ _ (bool_walks (suc (suc d)) s at) (λ a n w. ok_got _ _ w)
value_of Integer len d s at = ok_then _ _ (signed_walks (narrowest len) (suc (suc d)) s at) (λ a n w. ok_got _ _ w)
value_of Unsigned len d s at = ok_then _ _ (unsigned_walks (narrowest len) (suc (suc d)) s at) (λ a n w. ok_got _ _ w)
value_of ListOf len d s at = list_type_walks d s at

pub value_walks : (d : ℕ) (s : List ℕ) (at : ℕ) → Ok (Walks (suc (suc d)) s at) (value_at s at)
unfolding value_at
value_walks d s at = ok_then _ _ (ok_any (tlf_at s at)) (λ t n e. value_of t.ty t.len d s at)

pub entry_walks : (d : ℕ) (s : List ℕ) (at : ℕ) → Ok (Walks (suc (suc (suc d))) s at) (entry_at s at)
unfolding entry_at
entry_walks d s at =
    let e = suc (suc d) in
    ok_then _ _ (head_walks 7 s at) (λ list n₀ h.
    ok_then _ _ (octets_walks e s n₀) (λ name n₁ w₁.
    ok_then _ _ (optional_walks status_at e s n₁ (status_walks e s n₁)) (λ status n₂ w₂.
    ok_then _ _ (opt_time_walk (suc d) s n₂) (λ time n₃ w₃.
    ok_then _ _ (optional_walks (unsigned_at 1) e s n₃ (unsigned_walks 1 e s n₃)) (λ unit n₄ w₄.
    ok_then _ _ (optional_walks (signed_at 1) e s n₄ (signed_walks 1 e s n₄)) (λ scaler n₅ w₅.
    ok_then _ _ (value_walks d s n₅) (λ value n₆ w₆.
    ok_then _ _ (opt_octets_walk e s n₆) (λ signature n₇ w₇.
    ok_got _ _ (h e n₇ (another_ends w₁ (another_ends w₂ (another_ends w₃ (another_ends w₄ (another_ends w₅ (another_ends w₆ (another_ends w₇ none_ends))))))))))))))))

pub open_walks : (d : ℕ) (s : List ℕ) (at : ℕ) → Ok (Walks (suc (suc d)) s at) (open_at s at)
unfolding open_at
open_walks d s at =
    ok_then _ _ (head_walks 6 s at) (λ list n₀ h.
    ok_then _ _ (opt_octets_walk (suc d) s n₀) (λ codepage n₁ w₁.
    ok_then _ _ (opt_octets_walk (suc d) s n₁) (λ clientId n₂ w₂.
    ok_then _ _ (octets_walks (suc d) s n₂) (λ fileId n₃ w₃.
    ok_then _ _ (octets_walks (suc d) s n₃) (λ serverId n₄ w₄.
    ok_then _ _ (opt_time_walk d s n₄) (λ time n₅ w₅.
    ok_then _ _ (optional_walks (unsigned_at 1) (suc d) s n₅ (unsigned_walks 1 (suc d) s n₅)) (λ version n₆ w₆.
    ok_got _ _ (h (suc d) n₆ (another_ends w₁ (another_ends w₂ (another_ends w₃ (another_ends w₄ (another_ends w₅ (another_ends w₆ none_ends))))))))))))))

pub close_walks : (d : ℕ) (s : List ℕ) (at : ℕ) → Ok (Walks (suc d) s at) (close_at s at)
unfolding close_at
close_walks d s at =
    ok_then _ _ (head_walks 1 s at) (λ list n₀ h.
    ok_then _ _ (opt_octets_walk d s n₀) (λ signature n₁ w₁. ok_got _ _ (h d n₁ (another_ends w₁ none_ends))))

-- the end byte
pub end_walks : (d : ℕ) (s : List ℕ) (at : ℕ) → Ok (Walks d s at) (message_end_at s at)
unfolding message_end_at
end_walks d s at =
    ok_then _ _ (byte_ok s at) (λ b n h. ok_guard _ _ _ (λ g.
    let a = h.2 in
    let z : get_or s at 0 ≡ 0 = rw h.0 at (eqb-true b 0 g) in
    ok_got _ _ (rw h.1 (mark_walks d s at (omega (arith, a.ahead, a.within)) z))))
