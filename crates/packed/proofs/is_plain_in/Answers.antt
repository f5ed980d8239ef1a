use native.Mathlib.Omega.{arith}
use Rattle.packed.specs.Cut.{PlainIn}
use Rattle.packed.proofs.Plain.{not_plain, plain_if}
use Rattle.packed.proofs.is_plain_in.Goals as goal

pub returns-then-bytes-lt-LEN : goal.returns-then-bytes-lt-LEN
returns-then-bytes-lt-LEN c = not_plain _ _ _ (λ (p : PlainIn c.args.bytes.now c.args.lent c.args.b). grind arith)

pub returns-then-lent-fill : goal.returns-then-lent-fill
returns-then-lent-fill c = not_plain _ _ _ (λ (p : PlainIn c.args.bytes.now c.args.lent c.args.b). grind arith)

pub returns : goal.returns
returns c =
    plain_if _ (λ i. omega (arith, c.type_inv.bytes i)) _ _ (λ small.
    record {
      long = c.if-bytes-lt-LEN.false;
      normal = cc;
      byte = c.if-b-eq-ESC.false;
      room = omega arith;
      index = omega arith;
      raw = omega arith;
      capacity = omega arith;
      small = small;
    })
