use Rattle.std.proofs.Common.{◌<◌, ◌≢◌, length, arith, get_or-set_other, get_or-set_same, below_more}
use mathlib.Core.Path.{refl}
use Rattle.std.proofs.lemmas.List.{ext_get_or}
use Rattle.encoder.proofs.Stores.{stored_mid}
use Rattle.encoder.proofs.extend_from_slice.Goals as goal

pub loop-i-preserved : goal.loop-i-preserved
loop-i-preserved c =
    below_more _ _
    (λ k h. let ne : k ≢ c.loop-i.i = omega arith in rw get_or-set_other (c.loop-i.invariant k h))
    (let lt : c.loop-i.i < length c.loop-i.part = omega arith in rw get_or-set_same)

pub returns : goal.returns
returns c =
    let a = c.args in
    (stored_mid a.out.now a.bytes.now _ a.at _ c.requires (ext_get_or 0 _ _ (omega arith) (λ i h. c.loop-i.invariant i (omega arith))) (omega arith), refl)
