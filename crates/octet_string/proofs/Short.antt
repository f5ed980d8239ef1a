-- A string behind one length byte, all of it within the input: its part, and the place behind it.
use mathlib.Core.Path.{◌≡◌, refl}
use mathlib.Core.List.{List}
use Prim.Native.Nat.{ℕ, ◌+◌, ◌*◌, ◌-◌, ◌≤◌, ◌<◌}
use native.Mathlib.Omega.{arith}
use lib.ListN.{length, get_or}
use Rattle.refusals.specs.Read.{got, then, guard}
use Rattle.refusals.proofs.Read.{span_room}
use Rattle.tlf.specs.declared.Ty.TheVariants.{OctetString}
use Rattle.tlf.proofs.Short.{field_one}
use Rattle.octet_string.specs.Strings.{octets_at}

pub octets_one : (s : List ℕ) (at n : ℕ) → 1 ≤ n → at + n ≤ length s → n < 16 → get_or s at 0 ≡ n
    → got (record { start = at + 1; len = n - 1 }) (at + n) ≡ octets_at s at
unfolding octets_at then guard
octets_one s at n p h hn e =
    let b : get_or s at 0 ≡ 16 * 0 + n = omega (arith, e) in
    let o : at + 1 + (n - 1) ≡ at + n = omega arith in
    rw (field_one s at 0 n OctetString (omega arith) b (omega arith) hn refl refl p, span_room s (at + 1) (n - 1) (omega arith), o)
