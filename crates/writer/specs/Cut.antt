-- cut: how the code is cut. Each private function puts its bytes from a place on; run over a byte of the code's own it tells where they would end.
use Rattle.std.specs.Prelude.{ℕ, ◌+◌, ◌^◌, ◌-◌, ◌≤◌, ◌≡◌, List, ◌++◌, Bool, true, cond, ◌&&◌, length, leb}
use Rattle.std.proofs.Math.Option.{Option, some, none}
use Rattle.refusals.specs.declared.Span.{Span}
use Rattle.tlf.specs.declared.Ty.TheVariants.{ListOf}
use Rattle.octet_string.specs.Strings.{part_of}
use Rattle.value.specs.Values.{Value, truth, bytes, signed, unsigned, list_time}
use Rattle.common.specs.Fields.{ListEntry}
use Rattle.writer.specs.Fields.{write_tlf, write_unsigned, write_octets}
use Rattle.writer.specs.Calls.{put_in}
use Rattle.writer.specs.declared.Head.{Head}
use Rattle.writer.specs.declared.Output.{Output}

-- the greatest place; one that would pass it stays there, which is beyond every output
abbrev pub farthest : ℕ
farthest = 2 ^ 64 - 1

unfoldable pub capped : ℕ → ℕ
capped n = cond (leb n farthest) n farthest

-- there is room for the bytes b; no output is longer than the greatest place
pub record Fits (before : List ℕ) (at : ℕ) (b : List ℕ) : Type 0 where
  pub room : at + length b ≤ length before
  pub small : length before ≤ farthest

-- the place has moved by the number of the bytes b, and where they fit they stand there and nothing else is changed
pub record Puts (before : List ℕ) (at : ℕ) (b after : List ℕ) (next : ℕ) : Type 0 where
  pub place : next ≡ capped (at + length b)
  pub same : length after ≡ length before
  pub bytes : Fits before at b → after ≡ put_in before at b

-- the same for an output that holds its place, at a place that a place can be: it stays the same output
pub record PutsOn (before : Output) (b : List ℕ) (after : Output) : Type 0 where
  pub same_output : after.out.ghost_name ≡ before.out.ghost_name
  pub puts : before.at ≤ farthest → Puts before.out.now before.at b after.out.now after.at

-- a message up to its body's content
unfoldable pub head_bytes : List ℕ → Head → ℕ → List ℕ
head_bytes s head tag =
    write_tlf ListOf 6
    ++ write_octets (part_of s head.transaction_id)
    ++ write_unsigned head.group_no
    ++ write_unsigned head.abort_on_error
    ++ write_tlf ListOf 2
    ++ write_unsigned tag

-- strings of at most 64 bytes
abbrev pub short_field : Option Span → Bool
short_field (some p) = leb p.len 64
short_field none = true

abbrev pub short_value : Value Span → Bool
short_value (truth b) = true
short_value (bytes p) = leb p.len 64
short_value (signed width z) = true
short_value (unsigned width v) = true
short_value (list_time t) = true

abbrev pub short_entry : ListEntry Span → Bool
short_entry e = leb e.obj_name.len 64 && (short_value e.value && short_field e.value_signature)
