use mathlib.Core.Path.{◌∙◌}
use native.Mathlib.Omega.{arith}
use Rattle.decoder.proofs.Tests.{early_cut}
use Rattle.decoder.proofs.is_cut_end.Goals as goal

pub returns-then-a-ne0 : goal.returns-then-a-ne0
returns-then-a-ne0 c = c.eq.ensures ∙ early_cut c.args.a c.args.q.now (omega arith) c.if-a-ne0.true
