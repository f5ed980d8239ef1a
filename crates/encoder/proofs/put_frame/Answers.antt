use Prim.Native.Nat.{ℕ, ◌+◌, ◌≤◌}
use mathlib.Core.List.{List}
use mathlib.Core.Path.{◌≡◌, subst, ◌∙◌}
use native.Mathlib.Omega.{arith}
use lib.ListN.{length, length-take}
use Rattle.frame.specs.Frame.{missing}
use Rattle.encoder.specs.Encoder.{end_of}
use Rattle.encoder.specs.Parts.{Stored}
use Rattle.encoder.proofs.Encodes.{frame_room, end_room}
use Rattle.encoder.proofs.Stores.{crc_low_first, stored_frame}
use borrow.Author.Rules.{rules}
use Rattle.encoder.proofs.put_frame.Goals as goal

pub extend_from_slice-begun-requires : goal.extend_from_slice-begun-requires
extend_from_slice-begun-requires c = omega (arith, frame_room c.args.payload.now _ c.requires)

pub slice_bounds-checksum-end-2 : goal.slice_bounds-checksum-end-2
slice_bounds-checksum-end-2 c =
    let a = c.args in
    let k = c.extend_from_slice-begun in
    let e = c.put_escaped-at in
    let m = c.num_padding_bytes in
    let q = c.put_end-end in
    let s : length q.new.out ≡ length a.out.now = search rules in
    let t : q.result + 2 ≤ length a.out.now = end_room a.payload.now _ k.result e.result q.result m.result k.ensures.1 e.ensures.1 m.ensures q.ensures.1 c.requires in
    let u : q.result ≡ e.result + length (end_of m.result) = q.ensures.1 in
    simp length-take (omega (arith, s, t, u))

pub returns : goal.returns
returns c =
    let a = c.args in
    let P = a.payload.now in
    let k = c.extend_from_slice-begun in
    let e = c.put_escaped-at in
    let m = c.num_padding_bytes in
    let q = c.put_end-end in
    let x = c.checksum-crc in
    let z = c.extend_from_slice in
    let w : Stored q.new.out q.result e.new.out e.result (end_of (missing (length P))) = subst (λ (n : ℕ). Stored q.new.out q.result e.new.out e.result (end_of n)) m.ensures q.ensures in
    stored_frame a.out.now k.new.out e.new.out q.new.out z.new.out P k.result e.result q.result z.result x.result c.requires k.ensures e.ensures w x.ensures (subst (λ (l : List ℕ). Stored z.new.out z.result q.new.out q.result l) (c.to_le_bytes.ensures ∙ crc_low_first x.result (search rules)) z.ensures)
