-- What a decoder in a frame has kept of the bytes since the frame began.
use mathlib.Core.Path.{◌≡◌, refl, ap, sym, ◌∙◌}
use mathlib.Core.List.{List, [], ◌∷◌, ◌++◌, append_assoc, append-nil}
use Prim.Native.Nat.{ℕ, suc, ◌≤◌}
use native.Mathlib.Omega.{arith}
use lib.ListN.{length, replicate, drop, length-append}
use lib.Seq.{drop-append-le}
use Rattle.crc_x25.specs.Crc.{register}
use Rattle.crc_x25.proofs.Laws.{register_append, register_none}
use Rattle.frame.specs.Frame.{start_seq}
use Rattle.decoder.specs.Push.{Mem, put, tick}
use Rattle.frame.proofs.Escapes.{replicate_snoc}

-- r 1b wait; D is the data read, with those; h is all that was pushed since the frame began, its start included
pub record InsideFrame (r : ℕ) (m : Mem) (D h : List ℕ) : Type 0 where
  pub data' : m.stored ++ replicate r 0x1b ≡ D
  pub index : m.idx ≤ length m.stored
  pub sum : register (register m.reg (drop m.idx m.stored)) (replicate r 0x1b) ≡ register 0xffff h

pub begins : InsideFrame 0 (record { stored = []; reg = register 0xffff start_seq; idx = 0; raw = 8 }) [] start_seq
begins = record { data' = refl; index = omega arith; sum = register_none _ ∙ register_none _ }

module _ (r : ℕ) (m : Mem) (D h : List ℕ) (c : InsideFrame r m D h) where
  pub inside_other : (b : ℕ) → InsideFrame 0 (put m (replicate r 0x1b ++ b ∷ [])) (D ++ b ∷ []) (h ++ b ∷ [])
  inside_other b = record {
    data' = append-nil _ ∙ sym (append_assoc m.stored _ _) ∙ ap (λ (l : List ℕ). l ++ b ∷ []) c.data';
    index = let i = c.index in simp length-append (omega arith);
    sum = rw (drop-append-le m.idx m.stored (replicate r 0x1b ++ b ∷ []) c.index, register_append m.reg (drop m.idx m.stored), register_append _ (replicate r 0x1b), c.sum, register_append 0xffff h, register_none);
  }

  pub inside_wait : InsideFrame (suc r) (tick m) (D ++ 0x1b ∷ []) (h ++ 0x1b ∷ [])
  inside_wait = record {
    data' = rw (replicate_snoc, ← append_assoc) (ap (λ (l : List ℕ). l ++ 0x1b ∷ []) c.data');
    index = c.index;
    sum = rw (replicate_snoc, register_append _ (replicate r 0x1b), c.sum, register_append 0xffff h);
  }
