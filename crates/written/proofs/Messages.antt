-- Open, close, list start, list end and a message's start as written are read back.
use mathlib.Core.Path.{◌≡◌, ap}
use mathlib.Core.List.{List}
use Prim.Native.Nat.{ℕ, ◌^◌, ◌≤◌, ◌<◌}
use native.Mathlib.Omega.{arith}
use lib.ListN.{length-append}
use Rattle.refusals.proofs.Rest.{Reads, Is}
use Rattle.numbers.specs.Numbers.{unsigned_at}
use Rattle.common.specs.Fields.{OpenResponse, CloseResponse, open_at, close_at}
use Rattle.common.proofs.Gets.{open_reads, close_reads}
use Rattle.message.specs.Messages.{ListStart, ListEnd, Body, open_body, close_body, list_body, MessageStart, list_start_at, list_end_at, body_at, start_at}
use Rattle.message.proofs.Gets.{list_start_reads, list_end_reads, open_content_reads, close_content_reads, list_content_reads, body_reads, start_reads}
use Rattle.streaming.specs.Meaning.{open_means, close_means, list_start_means, list_end_means, body_means, start_means}
use Rattle.writer.specs.Fields.{write_unsigned}
use Rattle.writer.specs.Messages.{open_bytes, close_bytes, list_start_bytes, list_end_bytes, write_body, write_start}
use Rattle.written.specs.Fits.{OpenFits, ListStartFits, ListEndFits, BodyFits, StartFits}
use Rattle.written.proofs.Short.{Short, reads_weak}
use Rattle.written.proofs.Lens.{list_reads, head_reads}
use Rattle.written.proofs.Nums.{written_unsigned}
use Rattle.written.proofs.Fields.{written_octets, written_opt_string, written_opt_u8, written_opt_time}

pub written_open : (x : OpenResponse (List ℕ)) → OpenFits x → Short (open_bytes x) → Reads open_at (λ s a. open_means s a ≡ x) (open_bytes x)
unfolding open_bytes
written_open x f h =
    let k = simp length-append at h.short in
    reads_weak (λ s a k. rw (k.codepage, k.client_id, k.req_file_id, k.server_id, k.ref_time, k.sml_version))
    (open_reads
    (head_reads 6 (omega arith))
    (written_opt_string x.codepage (record { short = omega (arith, k) }))
    (written_opt_string x.client_id (record { short = omega (arith, k) }))
    (written_octets x.req_file_id (record { short = omega (arith, k) }))
    (written_octets x.server_id (record { short = omega (arith, k) }))
    (written_opt_time x.ref_time f.ref_time)
    (written_opt_u8 x.sml_version f.sml_version))

pub written_close : (x : CloseResponse (List ℕ)) → Short (close_bytes x) → Reads close_at (λ s a. close_means s a ≡ x) (close_bytes x)
unfolding close_bytes
written_close x h =
    let k = simp length-append at h.short in
    reads_weak (λ s a k. rw k.global_signature) (close_reads (head_reads 1 (omega arith)) (written_opt_string x.global_signature (record { short = omega (arith, k) })))

-- the number of entries is said apart: what follows is read by it
pub written_list_start : (x : ListStart (List ℕ)) → x.num_vals ≤ 1048576 → ListStartFits x → Short (list_start_bytes x)
    → Reads list_start_at (λ s a. list_start_means s a ≡ x) (list_start_bytes x)
unfolding list_start_bytes
written_list_start x many f h =
    let k = simp length-append at h.short in
    reads_weak (λ s a k. rw (k.client_id, k.server_id, k.list_name, k.act_sensor_time, k.num_vals))
    (list_start_reads
    (head_reads 7 (omega arith))
    (written_opt_string x.client_id (record { short = omega (arith, k) }))
    (written_octets x.server_id (record { short = omega (arith, k) }))
    (written_opt_string x.list_name (record { short = omega (arith, k) }))
    (written_opt_time x.act_sensor_time f.act_sensor_time)
    (list_reads x.num_vals many))

pub written_list_end : (x : ListEnd (List ℕ)) → ListEndFits x → Short (list_end_bytes x) → Reads list_end_at (λ s a. list_end_means s a ≡ x) (list_end_bytes x)
unfolding list_end_bytes
written_list_end x f h =
    let k = simp length-append at h.short in
    reads_weak (λ s a k. rw (k.list_signature, k.act_gateway_time)) (list_end_reads (written_opt_string x.list_signature (record { short = omega (arith, k) })) (written_opt_time x.act_gateway_time f.act_gateway_time))

-- a list announces no more entries than an input has bytes
abbrev pub Many : Body (List ℕ) → Type 0
Many (open_body x) = Unit {0}
Many (close_body x) = Unit {0}
Many (list_body x) = x.num_vals ≤ 1048576

tag_reads : (tag : ℕ) → tag < 256 ^ 4 → Reads (unsigned_at 4) (Is tag) (write_unsigned tag)
tag_reads tag h = written_unsigned 4 tag (omega arith) (omega arith) h

pub written_body : (x : Body (List ℕ)) → Many x → BodyFits x → Short (write_body x) → Reads body_at (λ s a. body_means s a ≡ x) (write_body x)
unfolding write_body
written_body (open_body x) many f h =
    let k = simp length-append at h.short in
    reads_weak (λ s a k. rw k.is (ap open_body k.has))
    (body_reads 0x00000101 (head_reads 2 (omega arith)) (tag_reads 0x00000101 (omega arith)) (λ place. open_content_reads place (written_open x f (record { short = omega (arith, k) }))))
written_body (close_body x) many f h =
    let k = simp length-append at h.short in
    reads_weak (λ s a k. rw k.is (ap close_body k.has))
    (body_reads 0x00000201 (head_reads 2 (omega arith)) (tag_reads 0x00000201 (omega arith)) (λ place. close_content_reads place (written_close x (record { short = omega (arith, k) }))))
written_body (list_body x) many f h =
    let k = simp length-append at h.short in
    reads_weak (λ s a k. rw k.is (ap list_body k.has))
    (body_reads 0x00000701 (head_reads 2 (omega arith)) (tag_reads 0x00000701 (omega arith)) (λ place. list_content_reads place (written_list_start x many f (record { short = omega (arith, k) }))))

pub written_start : (m : MessageStart (List ℕ)) → Many m.message_body → StartFits m → Short (write_start m) → Reads start_at (λ s a. start_means s a ≡ m) (write_start m)
unfolding write_start
written_start m many f h =
    let k = simp length-append at h.short in
    reads_weak (λ s a k. rw (k.transaction_id, k.group_no, k.abort_on_error, k.message_body))
    (start_reads
    (head_reads 6 (omega arith))
    (written_octets m.transaction_id (record { short = omega (arith, k) }))
    (written_unsigned 1 m.group_no (omega arith) (omega arith) f.group_no)
    (written_unsigned 1 m.abort_on_error (omega arith) (omega arith) f.abort_on_error)
    (written_body m.message_body many f.message_body (record { short = omega (arith, k) })))
