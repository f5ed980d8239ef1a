-- Document 01's lines, and those at the ends of each number's range, by computation over the definitions.
use mathlib.Core.Path.{◌≡◌, refl}
use mathlib.Core.List.{[], ◌∷◌, ◌++◌, map}
use lib.ListN.{replicate}
use Rattle.decoder.specs.Record.{nothing, payload, count, refusal}
use Rattle.lines.specs.Lines.{text, hex_of, decimal_in, decimal, refusal_line, line_of, line_length, no_line, after_line, line_to}

-- document 01's own
document_lines : map line_of (payload (0x12 ∷ 0x34 ∷ 0x56 ∷ 0x78 ∷ []) ∷ payload [] ∷ refusal 6 (1 ∷ []) ∷ refusal 3 [] ∷ refusal 7 (0x02 ∷ 0 ∷ 0 ∷ 0 ∷ []) ∷ refusal 8 (0x7ab8 ∷ 0x7bb8 ∷ 0 ∷ 0 ∷ []) ∷ [])
    ≡ map text ("payload 12345678\n" ∷ "payload\n" ∷ "discarded 1\n" ∷ "memory\n" ∷ "escape 02000000\n" ∷ "invalid 7ab8 7bb8 aligned 0\n" ∷ [])
unfolding hex_of decimal_in decimal refusal_line line_of
document_lines = refl

-- pad counts in decimal, CRCs with their zeros, all digits
invalid_lines : map line_of (refusal 8 (0x00ab ∷ 0x0cde ∷ 1 ∷ 26 ∷ []) ∷ refusal 8 (0xffff ∷ 0x0000 ∷ 1 ∷ 255 ∷ []) ∷ refusal 8 (0x1234 ∷ 0x5678 ∷ 0 ∷ 9 ∷ []) ∷ refusal 8 (0x90af ∷ 0xbcde ∷ 0 ∷ 10 ∷ []) ∷ [])
    ≡ map text ("invalid 00ab 0cde misaligned 26\n" ∷ "invalid ffff 0000 misaligned 255\n" ∷ "invalid 1234 5678 aligned 9\n" ∷ "invalid 90af bcde aligned 10\n" ∷ [])
unfolding hex_of decimal_in decimal refusal_line line_of
invalid_lines = refl

-- the least and the largest count
discarded_lines : map (λ n. line_of (refusal 6 (n ∷ []))) (0 ∷ 10 ∷ 100 ∷ 4294967295 ∷ []) ≡ map text ("discarded 0\n" ∷ "discarded 10\n" ∷ "discarded 100\n" ∷ "discarded 4294967295\n" ∷ [])
unfolding decimal_in decimal refusal_line line_of
discarded_lines = refl

-- what has no line
no_lines : map line_of (nothing ∷ count 7 ∷ refusal 4 [] ∷ refusal 5 [] ∷ []) ≡ replicate 4 []
unfolding refusal_line line_of
no_lines = refl

-- a line of 12 in an output of 14, which keeps its last two, of 12 and of 11, which is refused; and no line in no output
outputs : map (λ n. line_to (line_of (refusal 6 (1 ∷ []))) (replicate n 0xff)) (14 ∷ 12 ∷ 11 ∷ [])
    ≡ after_line (line_length 12) (text "discarded 1\n" ++ 0xff ∷ 0xff ∷ []) ∷ after_line (line_length 12) (text "discarded 1\n") ∷ after_line (no_line 18) (replicate 11 0xff) ∷ []
unfolding decimal_in decimal refusal_line line_of line_to
outputs = refl

no_output : line_to (line_of nothing) [] ≡ after_line (line_length 0) []
unfolding line_of line_to
no_output = refl
