-- What a call answers: each refusal in its turn, and what was put where nothing is refused.
use mathlib.Core.Path.{◌≡◌, sym, ap, ◌∙◌}
use mathlib.Core.List.{List, ◌++◌}
use mathlib.Core.Bool.{Bool, true, false}
use Prim.Native.Nat.{ℕ, ◌+◌, ◌-◌, ◌^◌, ◌≤◌, ◌<◌}
use native.Mathlib.Omega.{arith}
use lib.ListN.{length}
use lib.Dec.{leb, ltb, eqb}
use borrow.Author.Tests.{leb-true, leb-false, le-leb, lt-leb, lt-ltb, le-ltb, eq-eqb, ne_eqb}
use Rattle.refusals.specs.Numbers.{bad_state_no, wrong_number_no, bad_span_no, output_too_short_no}
use Rattle.common.specs.Fields.{OpenResponse, CloseResponse}
use Rattle.message.specs.Messages.{open_body, close_body}
use Rattle.refusals.specs.declared.Span.{Span}
use Rattle.streaming.specs.Meaning.{open_means, close_means, start_means}
use Rattle.crc_x25.specs.Crc.{start, register}
use Rattle.crc_x25.proofs.Laws.{register_append}
use Rattle.writer.specs.Messages.{open_bytes, close_bytes, write_body, write_start, write_trailer}
use Rattle.writer.specs.Calls.{put_in, write_refusal, to, not_written, put_or, start_with}
use Rattle.writer.specs.Answers.{after_write}
use Rattle.writer.specs.Cut.{farthest, PutsOn, head_bytes}
use Rattle.writer.specs.declared.Output.{Output}
use Rattle.writer.specs.declared.Head.{Head}
use Rattle.writer.proofs.Puts.{cap_within, adds_then, adds_as}

module _ {A : Type 0} (out : List ℕ) (at : ℕ) (due good : Bool) (b : List ℕ) (a : A) where
  pub refuses_place : length out < at → after_write (not_written bad_state_no) out ≡ put_or (write_refusal out at due good b) out at b a
  unfolding write_refusal put_or
  refuses_place h = rw (lt-ltb (length out) at h)

  pub refuses_due : at ≤ length out → due ≡ false → after_write (not_written wrong_number_no) out ≡ put_or (write_refusal out at due good b) out at b a
  unfolding write_refusal put_or
  refuses_due h d = rw (le-ltb (length out) at h, d)

  pub refuses_span : at ≤ length out → due ≡ true → good ≡ false → after_write (not_written bad_span_no) out ≡ put_or (write_refusal out at due good b) out at b a
  unfolding write_refusal put_or
  refuses_span h d g = rw (le-ltb (length out) at h, d, g)

  pub refuses_room : at ≤ length out → due ≡ true → good ≡ true → length out < at + length b → after_write (not_written output_too_short_no) out ≡ put_or (write_refusal out at due good b) out at b a
  unfolding write_refusal put_or
  refuses_room h d g l = let s : length out - at < length b = omega arith in rw (le-ltb (length out) at h, d, g, lt-ltb (length out - at) (length b) s)

  pub accepts_put : (x : A) (after : List ℕ) → due ≡ true → good ≡ true → at + length b ≤ length out → x ≡ a → after ≡ put_in out at b → after_write (to x) after ≡ put_or (write_refusal out at due good b) out at b a
  unfolding write_refusal put_or
  accepts_put x after d g l e f =
      let h : at ≤ length out = omega arith in
      let s : length b ≤ length out - at = omega arith in
      rw (le-ltb (length out) at h, d, g, le-ltb (length out - at) (length b) s, e, f)

-- a run over no output tells whether bytes fit an output
module _ (b : List ℕ) {x y : Output} (len : ℕ) (run : PutsOn x b y) (far : x.at ≤ farthest) (small : len < 2 ^ 63) where
  seen : leb y.at len ≡ leb (x.at + length b) len
  seen = rw (run.puts far).place (cap_within (x.at + length b) len (omega arith))

  pub run_short : len < y.at → len < x.at + length b
  run_short h = leb-false (x.at + length b) len (sym seen ∙ lt-leb y.at len h)

  pub run_fits : y.at ≤ len → x.at + length b ≤ len
  run_fits h = leb-true (x.at + length b) len (sym seen ∙ le-leb y.at len h)

-- the bytes and the trailer that belongs to them
pub with_trailer : (reg : ℕ) (b : List ℕ) {x y z : Output} {crc : ℕ} → crc ≡ register reg b → PutsOn x b y → PutsOn y (write_trailer crc) z → PutsOn x (b ++ write_trailer (register reg b)) z
with_trailer reg b e p q = adds_then b _ p (adds_as (ap write_trailer e) q)

-- the register behind an open's start and a close's, by head and content
pub open_register : (s : List ℕ) (head : Head) (x : OpenResponse Span) {h r : ℕ} → h ≡ register start (head_bytes s head 0x00000101) → r ≡ register h (open_bytes (open_means s x)) → r ≡ register start (write_start (start_means s (start_with head (open_body x))))
unfolding write_start write_body head_bytes
open_register s head x p q = rw (q, p) (simp register_append)

pub close_register : (s : List ℕ) (head : Head) (x : CloseResponse Span) {h r : ℕ} → h ≡ register start (head_bytes s head 0x00000201) → r ≡ register h (close_bytes (close_means s x)) → r ≡ register start (write_start (start_means s (start_with head (close_body x))))
unfolding write_start write_body head_bytes
close_register s head x p q = rw (q, p) (simp register_append)

-- whether an entry or the end is due, by the entries that are left
pub entry_not_due : (left : ℕ) → left ≡ 0 → ltb 0 left ≡ false
entry_not_due left h = le-ltb 0 left (omega arith)

pub entry_due_claim : (left : ℕ) → (left ≡ 0 → ⊥) → ltb 0 left ≡ true
entry_due_claim left h = lt-ltb 0 left (omega arith)

pub end_not_due : (left : ℕ) → 0 < left → eqb left 0 ≡ false
end_not_due left h = ne_eqb left 0 (λ e. omega arith)

pub end_due_claim : (left : ℕ) → left ≤ 0 → eqb left 0 ≡ true
end_due_claim left h = eq-eqb left 0 (omega arith)
