-- A line of the program is what write_line gave, and none is refused.
use Prim.Native.Nat.{ℕ, ◌≤◌}
use mathlib.Core.Bool.{Bool, true, false, cond}
use mathlib.Core.List.{List, []}
use mathlib.Core.Path.{◌≡◌, ap, sym, ◌∙◌, subst}
use native.Mathlib.Omega.{arith}
use lib.ListN.{length, take, length-take}
use Rattle.std.specs.Prelude.{Result, Ok, Err}
use Rattle.std.specs.Result.{result_unwrap_or}
use Rattle.decoder.specs.Record.{Event, answer_of, has_payload, payload_record}
use Rattle.decoder.specs.declared.Decoder.{Decoder}
use Rattle.lines.specs.Lines.{line_of, line_length, no_line, line_answer, after_line, line_to}
use Rattle.lines.specs.declared.OutputTooShort.{OutputTooShort}
use Rattle.lines.proofs.Whole.{line_given, refused_line, line_most}

-- a payload is a part of the buffer
part_of_lem : (stands : Bool) (n : ℕ) (m : List ℕ) → length (cond stands (take n m) []) ≤ length m
part_of_lem true n m = simp length-take (omega arith)
part_of_lem false n m = omega arith

payload_part : (d : Decoder) (m : List ℕ) → length (payload_record d m) ≤ length m
unfolding payload_record
payload_part d m = part_of_lem (has_payload d m) d.fill m

module _ (e : Event) (d : Decoder) (m out left p : List ℕ) (r : Result ℕ OutputTooShort) (read : p ≡ payload_record d m) (said : after_line (line_answer r) left ≡ line_to (line_of (answer_of e p)) out) where
  stands : (n : ℕ) → after_line (line_length n) left ≡ line_to (line_of (answer_of e p)) out → length left ≡ length out → (n ≤ length left) × (take n left ≡ line_of (answer_of e (payload_record d m)))
  stands n i s =
      let g = line_given (line_of (answer_of e p)) out left n i in
      (omega (arith, s, g.0), g.1 ∙ ap (λ (q : List ℕ). line_of (answer_of e q)) read)

  fits : after_line (no_line 18) left ≡ line_to (line_of (answer_of e p)) out → length out ≡ 8201 → length m ≡ 4096 → ⊥
  fits i s t =
      let h = refused_line (line_of (answer_of e p)) out left i in
      let l : length p ≤ length m = subst (λ (q : List ℕ). length q ≤ length m) (sym read) (payload_part d m) in
      omega (arith, h, s, t, l, line_most e p)

  -- the length that is answered, or 0 in its place, is the line's: none is refused
  pub line_stands : (n : ℕ) → n ≡ result_unwrap_or r 0 → length left ≡ length out → length out ≡ 8201 → length m ≡ 4096 → (n ≤ length left) × (take n left ≡ line_of (answer_of e (payload_record d m)))
  line_stands n i s t u = by_answer r said i
    where
      by_answer : (w : Result ℕ OutputTooShort) → after_line (line_answer w) left ≡ line_to (line_of (answer_of e p)) out → n ≡ result_unwrap_or w 0 → (n ≤ length left) × (take n left ≡ line_of (answer_of e (payload_record d m)))
      by_answer (Ok k) h i = stands n (ap (λ (x : ℕ). after_line (line_length x) left) i ∙ h) s
      by_answer (Err short) h i = absurd (fits h t u)
