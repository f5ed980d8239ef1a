-- What is exactly known of every record that is reached from a new one, with a buffer of its capacity.
use mathlib.Core.Path.{sym, subst}
use mathlib.Core.List.{List, []}
use Prim.Native.Nat.{ℕ, ◌≤◌}
use mathlib.Core.Path.{◌≡◌}
use lib.ListN.{length}
use Rattle.decoder.specs.Push.{fresh}
use Rattle.decoder.specs.Record.{After, after, nothing, state_of, new_record}
use Rattle.decoder.specs.Run.{Op, run, behind}
use Rattle.decoder.proofs.States.{run_state}
use Rattle.decoder.specs.declared.Setup.{Setup}
use Rattle.decoder.proofs.Search.{Known}
use Rattle.decoder.proofs.Runs.{run_new, leads, new_fit}
use Rattle.since.specs.Bytes.{since_from}
use Rattle.since.specs.Exactly.{ReadExactly}
use Rattle.since.proofs.KeptExactly.{reads_behind_exactly}

module _ (C : Setup) (m : List ℕ) (os : List Op) (w : Known C) (l : length m ≡ C.capacity) (le : C.capacity ≤ 1048576) where
  abbrev a : After
  a = behind (after nothing (new_record C) m) os

  abbrev since : List ℕ
  since = since_from [] os (run (new_record C) m os)

  pub record_reads_exactly : ReadExactly C since (state_of a.decoder a.memory)
  record_reads_exactly =
      let r = leads os (after nothing (new_record C) m) (new_fit C m w l le) in
      rw (run_new C m os w l le) (subst (ReadExactly C (since_from [] os (run_state C fresh os))) (sym r.view') (reads_behind_exactly C os))
