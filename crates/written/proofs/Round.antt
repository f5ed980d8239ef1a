-- A whole message as written is read back.
use mathlib.Core.Path.{◌≡◌, ap}
use mathlib.Core.List.{List, [], ◌∷◌, ◌++◌, map}
use mathlib.Core.Option.{Option, some, none}
use Prim.Native.Nat.{ℕ, ◌^◌, ◌≤◌, ◌<◌}
use native.Mathlib.Omega.{arith}
use lib.ListN.{length, length-append}
use Rattle.crc_x25.specs.Crc.{crc_of}
use Rattle.crc_x25.proofs.Laws.{crc_fits}
use Rattle.refusals.specs.declared.Span.{Span}
use Rattle.tlf.specs.declared.Ty.TheVariants.{ListOf}
use Rattle.refusals.proofs.Rest.{Reads, reads_at, none_reads, more_reads}
use Rattle.common.specs.Fields.{ListEntry, entry_at}
use Rattle.trailer.proofs.Gets.{message_end_reads}
use Rattle.message.specs.Messages.{ListStart, ListEnd, Body, open_body, close_body, list_body, MessageStart}
use Rattle.trailer.specs.Trailer.{swapped}
use Rattle.events.specs.Message.{Content, Message, entries_at, content_of, message_at}
use Rattle.streaming.specs.Meaning.{entry_means, body_means}
use Rattle.events.proofs.Gets.{open_rest_reads, close_rest_reads, list_rest_reads, message_reads}
use Rattle.writer.specs.Fields.{write_entry}
use Rattle.writer.specs.Messages.{write_start, write_trailer}
use Rattle.written.specs.Messages.{write_entries, write_end, write_content, write_message, content_means, message_means}
use Rattle.written.specs.Fits.{EntriesFit, EndFits, ContentFits, MessageFits}
use Rattle.written.specs.Round.{ReadBack}
use Rattle.written.proofs.Short.{Short, reads_weak}
use Rattle.written.proofs.Lens.{length_count_is, tlf_length}
use Rattle.written.proofs.Nums.{written_unsigned}
use Rattle.written.proofs.Fields.{written_entry}
use Rattle.written.proofs.Messages.{Many, written_start, written_list_end}
use Rattle.written.proofs.Bytes.{message_small}

pub written_entries : (es : List (ListEntry (List ℕ))) → EntriesFit es → Short (write_entries es) → Reads (entries_at (length es)) (λ s a. map (entry_means s) a ≡ es) (write_entries es)
unfolding write_entries
written_entries [] f h = reads_weak (λ s a e. rw e) (none_reads entry_at)
written_entries (e ∷ es) f h =
    let k = simp length-append at h.short in
    reads_weak (λ s a q. rw (q.is, q.first_has, q.others_have))
    (more_reads (length es) (written_entry e f.0 (record { short = omega (arith, k) })) (written_entries es f.1 (record { short = omega (arith, k) })))

-- an entry takes a byte at least
entry_some : (e : ListEntry (List ℕ)) → 1 ≤ length (write_entry e)
unfolding write_entry
entry_some e = simp length-append (let c = length_count_is ListOf 7 (omega arith) in omega (arith, tlf_length ListOf 7, c.from))

pub entries_long : (es : List (ListEntry (List ℕ))) → length es ≤ length (write_entries es)
unfolding write_entries
entries_long [] = omega arith
entries_long (e ∷ es) = omega (arith, entry_some e, entries_long es, length-append (write_entry e) (write_entries es))

pub many_is : (y : Body (List ℕ)) (c : Content (List ℕ)) → ContentFits y c → Short (write_content c) → Many y
unfolding write_content
many_is (open_body x) c f h = tt
many_is (close_body x) c f h = tt
many_is (list_body x) c f h = omega (arith, f.0, entries_long c.entries, h.short, length-append (write_entries c.entries) (write_end c.end))

list_rest : (b : ListStart Span) (es : List (ListEntry (List ℕ))) (x : Option (ListEnd (List ℕ))) → b.num_vals ≡ length es → EntriesFit es → EndFits x → Short (write_entries es ++ write_end x)
    → Reads (content_of (list_body b)) (λ s a. content_means s a ≡ record { entries = es; end = x }) (write_entries es ++ write_end x)
unfolding write_end
list_rest b es none n f g h = absurd g
list_rest b es (some x) n f g h =
    let k = simp length-append at h.short in
    reads_weak (λ s a q. let r = q.end in let e : map (entry_means s) a.entries ≡ es = q.entries in rw (e, r.is, r.has))
    (list_rest_reads b (rw (← n) at (written_entries es f (record { short = omega (arith, k) }))) (written_list_end x g (record { short = omega (arith, k) })))

-- what follows a start of this meaning
content_back : (s : List ℕ) (y : Body Span) (c : Content (List ℕ)) → ContentFits (body_means s y) c → Short (write_content c)
    → Reads (content_of y) (λ t a. content_means t a ≡ c) (write_content c)
unfolding write_content write_entries write_end
content_back s (open_body b) c f h = rw (f.0, f.1) (reads_weak (λ t a q. rw (q.entries, q.end)) (open_rest_reads b))
content_back s (close_body b) c f h = rw (f.0, f.1) (reads_weak (λ t a q. rw (q.entries, q.end)) (close_rest_reads b))
content_back s (list_body b) c f h = list_rest b c.entries c.end f.0 f.1 f.2 h

swapped_small : (c : ℕ) → c < 2 ^ 16 → swapped c < 256 ^ 2
swapped_small c h = omega arith

pub written_message : (m : Message (List ℕ)) → MessageFits m → Short (write_message m) → Reads message_at (λ s a. message_means s a ≡ m) (write_message m)
unfolding write_message write_trailer crc_of
written_message m f h =
    let b₁ = write_start m.start in
    let b₂ = write_content m.content in
    let k = simp length-append at h.short in
    let h₂ : Short b₂ = record { short = omega (arith, k) } in
    let fit = message_small m.start m.content f.start f.content in
    reads_weak (λ s a q. rw (q.start, q.content))
    (message_reads b₁ b₂
    (written_start m.start (many_is m.start.message_body m.content f.content h₂) f.start (record { short = omega (arith, k) }))
    (λ s x q. let e : body_means s x.message_body ≡ m.start.message_body = ap (λ (y : MessageStart (List ℕ)). y.message_body) q in content_back s x.message_body m.content (rw e f.content) h₂)
    (written_unsigned 2 (swapped (crc_of (b₁ ++ b₂))) (omega arith) (omega arith) (swapped_small _ (crc_fits (b₁ ++ b₂) fit.byte)))
    message_end_reads)

pub message_back : (m : Message (List ℕ)) (pre l : List ℕ) → MessageFits m → length (pre ++ (write_message m ++ l)) ≤ 1048576 → ReadBack m pre l
message_back m pre l f h =
    let q = written_message m f (record { short = omega (arith, h, length-append pre (write_message m ++ l), length-append (write_message m) l) }) in
    let g = reads_at q pre l in
    record { found = g.value; is = g.is; means = g.has }
