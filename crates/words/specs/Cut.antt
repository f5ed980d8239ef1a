-- cut: words written over others from a place on, and those of a message's start from its parts.
use Rattle.std.specs.Prelude.{ℕ, ◌+◌, List, [], ◌∷◌, ◌++◌, length, take, drop}
use Rattle.refusals.specs.declared.Span.{Span}
use Rattle.message.specs.Messages.{Body}
use Rattle.words.specs.Words.{span_words, start_words, with_zeros}

-- those of m, over as many of l
unfoldable pub put_at : List ℕ → ℕ → List ℕ → List ℕ
put_at l at m = take at l ++ (m ++ drop (at + length m) l)

-- up to the body, whose kind is the last
abbrev pub up_to_body : Span → ℕ → ℕ → ℕ → List ℕ
up_to_body id group abort kind = 1 ∷ span_words id ++ group ∷ abort ∷ kind ∷ []

abbrev pub start_of : Span → ℕ → ℕ → Body Span → List ℕ
start_of id group abort body = with_zeros 24 (start_words (record { transaction_id = id; group_no = group; abort_on_error = abort; message_body = body }))
