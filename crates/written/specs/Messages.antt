-- claim: how a whole message is written, and what a message that was read says.
use Rattle.std.specs.Prelude.{ℕ, List, [], ◌∷◌, ◌++◌, map}
use Rattle.std.proofs.Math.Option.{Option, some, none}
use Rattle.refusals.specs.declared.Span.{Span}
use Rattle.common.specs.Fields.{ListEntry}
use Rattle.message.specs.Messages.{ListEnd}
use Rattle.crc_x25.specs.Crc.{start, register}
use Rattle.streaming.specs.Meaning.{each, entry_means, list_end_means, start_means}
use Rattle.writer.specs.Fields.{write_entry}
use Rattle.writer.specs.Messages.{list_end_bytes, write_start, write_trailer}
use Rattle.events.specs.Message.{Content, Message}

unfoldable pub write_entries : List (ListEntry (List ℕ)) → List ℕ
write_entries [] = []
write_entries (e ∷ es) = write_entry e ++ write_entries es

unfoldable pub write_end : Option (ListEnd (List ℕ)) → List ℕ
write_end none = []
write_end (some x) = list_end_bytes x

-- what stands between a message's start and its trailer
unfoldable pub write_content : Content (List ℕ) → List ℕ
write_content c = write_entries c.entries ++ write_end c.end

unfoldable pub write_message : Message (List ℕ) → List ℕ
write_message m =
    write_start m.start ++ write_content m.content
    ++ write_trailer (register start (write_start m.start ++ write_content m.content))

-- strings as bytes, numbers whatever their width
abbrev pub content_means : List ℕ → Content Span → Content (List ℕ)
content_means s x = record { entries = map (entry_means s) x.entries; end = each (list_end_means s) x.end }

abbrev pub message_means : List ℕ → Message Span → Message (List ℕ)
message_means s x = record { start = start_means s x.start; content = content_means s x.content }
