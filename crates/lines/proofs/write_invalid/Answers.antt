use borrow.Author.Rules.{rules}
use Prim.Native.Nat.{◌/◌, ◌%◌, ◌≤◌}
use mathlib.Core.List.{[], ◌∷◌}
use mathlib.Core.Path.{◌≡◌, sym}
use lib.ListN.{length}
use lib.Seq.{length-take-le}
use Rattle.decoder.specs.Record.{flag}
use Rattle.lines.specs.Lines.{hex_four, decimal, aligned_word}
use Rattle.lines.proofs.Laws.{hex_length, decimal_ten}
use Rattle.lines.proofs.Whole.{aligned_short}
use Rattle.lines.proofs.write_invalid.Goals as goal

pub slice_bounds-write_whole-end : goal.slice_bounds-write_whole-end
slice_bounds-write_whole-end c =
    let a = c.args in
    let k = c.put_text-len in
    let f : length (hex_four a.read_crc) ≡ 4 = hex_length (a.read_crc / 256 ∷ a.read_crc % 256 ∷ []) in
    let g : length (hex_four a.calculated_crc) ≡ 4 = hex_length (a.calculated_crc / 256 ∷ a.calculated_crc % 256 ∷ []) in
    let h : length (aligned_word (flag a.misaligned)) ≤ 12 = aligned_short a.misaligned in
    let d : length (decimal a.num_padding_bytes) ≤ 10 = decimal_ten a.num_padding_bytes in
    sym (length-take-le k.result k.new.out (search rules))
