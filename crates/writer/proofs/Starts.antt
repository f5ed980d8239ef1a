-- A message's start is its head, and behind it the content of its body.
use mathlib.Core.Path.{◌≡◌, sym, ap, ◌∙◌}
use mathlib.Core.List.{List, ◌++◌, append_assoc}
use Prim.Native.Nat.{ℕ}
use Rattle.refusals.specs.declared.Span.{Span}
use Rattle.common.specs.Fields.{OpenResponse, CloseResponse}
use Rattle.message.specs.Messages.{ListStart, open_body, close_body, list_body}
use Rattle.streaming.specs.Meaning.{open_means, close_means, list_start_means, start_means}
use Rattle.tlf.specs.declared.Ty.TheVariants.{ListOf}
use Rattle.octet_string.specs.Strings.{part_of}
use Rattle.writer.specs.Fields.{write_tlf, write_unsigned, write_octets}
use Rattle.writer.specs.Messages.{open_bytes, close_bytes, list_start_bytes, write_body, write_start}
use Rattle.writer.specs.Calls.{start_with}
use Rattle.writer.specs.Cut.{head_bytes}
use Rattle.writer.specs.declared.Head.{Head}

last_three : (d e f g : List ℕ) → ((d ++ e) ++ f) ++ g ≡ d ++ ((e ++ f) ++ g)
last_three d e f g = append_assoc (d ++ e) f g ∙ append_assoc d e (f ++ g) ∙ ap (λ (x : List ℕ). d ++ x) (sym (append_assoc e f g))

abbrev fields : List ℕ → Head → List ℕ
fields s head = write_tlf ListOf 6 ++ write_octets (part_of s head.transaction_id) ++ write_unsigned head.group_no ++ write_unsigned head.abort_on_error

pub open_start_is : (s : List ℕ) (head : Head) (x : OpenResponse Span) → head_bytes s head 0x0101 ++ open_bytes (open_means s x) ≡ write_start (start_means s (start_with head (open_body x)))
unfolding head_bytes write_start write_body
open_start_is s head x = last_three (fields s head) (write_tlf ListOf 2) (write_unsigned 0x0101) (open_bytes (open_means s x))

pub close_start_is : (s : List ℕ) (head : Head) (x : CloseResponse Span) → head_bytes s head 0x0201 ++ close_bytes (close_means s x) ≡ write_start (start_means s (start_with head (close_body x)))
unfolding head_bytes write_start write_body
close_start_is s head x = last_three (fields s head) (write_tlf ListOf 2) (write_unsigned 0x0201) (close_bytes (close_means s x))

pub list_start_is : (s : List ℕ) (head : Head) (x : ListStart Span) → head_bytes s head 0x0701 ++ list_start_bytes (list_start_means s x) ≡ write_start (start_means s (start_with head (list_body x)))
unfolding head_bytes write_start write_body
list_start_is s head x = last_three (fields s head) (write_tlf ListOf 2) (write_unsigned 0x0701) (list_start_bytes (list_start_means s x))
