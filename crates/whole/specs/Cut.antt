-- cut: the two passes. The first reads to the end byte and keeps no row, the second stores the rows and judges nothing.
use Rattle.std.specs.Prelude.{ℕ, zero, suc, ◌+◌, ◌*◌, List, [], ◌∷◌}
use Rattle.std.proofs.Math.Option.{Option, some, none}
use Rattle.std.proofs.lemmas.List.Edits.{sets}
use Rattle.refusals.specs.Read.{Read, got, refused, then}
use Rattle.refusals.specs.declared.Span.{Span}
use Rattle.common.specs.Fields.{entry_at}
use Rattle.message.specs.Messages.{MessageStart, ListEnd, Body, open_body, close_body, list_body, start_at, list_end_at}
use Rattle.message.specs.Answers.{message_start}
use Rattle.trailer.specs.Trailer.{trailer_at}
use Rattle.whole.specs.Whole.{EntryRow, row_at}
use Rattle.whole.specs.Answers.{opt_list_end}
use Rattle.whole.specs.declared.Passed.{Passed}

abbrev pub entries_of : {T : Type 0} → Body T → ℕ
entries_of (open_body b) = 0
entries_of (close_body b) = 0
entries_of (list_body b) = b.num_vals

unfoldable pub past_entries : ℕ → List ℕ → ℕ → Read (Unit {0})
past_entries zero s at = got tt at
past_entries (suc n) s at = then (entry_at s at) λ e next. past_entries n s next

unfoldable pub list_end_behind : ℕ → List ℕ → ℕ → Read (Option (ListEnd Span))
list_end_behind n s at =
    then (past_entries n s at) λ past m.
    then (list_end_at s m) λ end k.
    got (some end) k

unfoldable pub end_at : Body Span → List ℕ → ℕ → Read (Option (ListEnd Span))
end_at (open_body b) s at = got none at
end_at (close_body b) s at = got none at
end_at (list_body b) s at = list_end_behind b.num_vals s at

-- a message without its rows, and where they stand
pub record PassedMessage : Type 0 where
  pub start : MessageStart Span
  pub behind : ℕ
  pub end : Option (ListEnd Span)

unfoldable pub pass_at : List ℕ → ℕ → Read PassedMessage
pass_at s at =
    then (start_at s at) λ start n₁.
    then (end_at start.message_body s n₁) λ end n₂.
    then (trailer_at s at n₂) λ trailer n₃.
    got (record { start = start; behind = n₁; end = end }) n₃

abbrev pub passed_message : Passed → PassedMessage
passed_message x = record { start = message_start x.start; behind = x.behind; end = opt_list_end x.end }

-- a row's four numbers at row i
abbrev pub put_row : List ℕ → ℕ → EntryRow → List ℕ
put_row t i r = sets t (4 * i) (r.name.start ∷ r.name.len ∷ r.entry.start ∷ r.entry.len ∷ [])

-- goes on with what was read, or leaves the table
unfoldable pub or_leave : {A : Type 0} → Read A → List ℕ → (A → ℕ → List ℕ) → List ℕ
or_leave (got a n) t k = k a n
or_leave (refused f) t k = t

-- n rows, from row i on
unfoldable pub store_rows : ℕ → List ℕ → ℕ → ℕ → List ℕ → List ℕ
store_rows zero s at i t = t
store_rows (suc n) s at i t = or_leave (row_at s at) t λ r next. store_rows n s next (i + 1) (put_row t i r)
