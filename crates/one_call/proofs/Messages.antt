-- A whole message and messageAt: they refuse alike, and where they find, they find the same, a row for each entry.
use mathlib.Core.Path.{◌≡◌, refl, sym}
use mathlib.Core.List.{List, [], ◌∷◌}
use mathlib.Core.Option.{Option, some, none}
use Prim.Native.Nat.{ℕ, zero, suc, ◌+◌, ◌-◌, ◌≤◌, ◌<◌}
use native.Mathlib.Omega.{arith}
use lib.ListN.{length}
use Rattle.refusals.specs.Read.{Read, got, refused, Refusal, then, many}
use Rattle.refusals.specs.declared.Span.{Span}
use Rattle.refusals.proofs.Read.{Ok, ok_at}
use Rattle.common.specs.Fields.{ListEntry, entry_at}
use Rattle.message.specs.Messages.{MessageStart, ListEnd, Body, open_body, close_body, list_body, start_at, list_end_at}
use Rattle.message.proofs.Messages.{start_found_lem, list_end_found}
use Rattle.trailer.specs.Trailer.{trailer_at}
use Rattle.trailer.proofs.Trailer.{trailer_found}
use Rattle.whole.specs.Whole.{EntryRow, row_at, rows_at, WholeMessage, inside_at, whole_at}
use Rattle.whole.proofs.Loops.{row_of, entry_lies}
use Rattle.events.specs.Message.{Content, Message, entries_at, content_of, message_at}
use Rattle.places.proofs.Locates.{Locates, locates_then, locates_got, locates_many}
use Rattle.places.proofs.Records.{locates_entry, locates_list_end, locates_start}
use Rattle.places.proofs.Trailer.{locates_trailer}
use Rattle.one_call.specs.Readers.{RowIs, RowsAre, Chained}

-- ---- rows and entries

data RowsAlike (s : List ℕ) (at : ℕ) : Read (List EntryRow) → Read (List (ListEntry Span)) → Type 0 where
  held_rows : (rows : List EntryRow) (es : List (ListEntry Span)) (n : ℕ) → RowsAre s rows es → Chained at rows n → RowsAlike s at (got rows n) (got es n)
  lost_rows : (f : Refusal) → RowsAlike s at (refused f) (refused f)

row_is : (s : List ℕ) (at : ℕ) (e : ListEntry Span) (next : ℕ) → entry_at s at ≡ got e next → RowIs s (row_of at e next) e
row_is s at e next q =
    let k = entry_lies s at e next (sym q) in
    let a = k.ahead in
    let w = k.within in
    let z : at + (next - at) ≡ next = omega arith in
    record { name_is = refl; name_within = k.name_ends; entry_is = rw z q; entry_within = omega arith }

one_entry_more : (s : List ℕ) (at : ℕ) (e : ListEntry Span) (next : ℕ) → entry_at s at ≡ got e next → {r : Read (List EntryRow)} {x : Read (List (ListEntry Span))} → RowsAlike s next r x
    → RowsAlike s at (then r λ more end. got (row_of at e next ∷ more) end) (then x λ more end. got (e ∷ more) end)
unfolding then
one_entry_more s at e next q (lost_rows f) = lost_rows f
one_entry_more s at e next q (held_rows rows es n h c) =
    let k = entry_lies s at e next (sym q) in
    let a = k.ahead in
    let z : at + (next - at) ≡ next = omega arith in
    held_rows (row_of at e next ∷ rows) (e ∷ es) n (row_is s at e next q, h) (refl, rw z c)

entry_first : (s : List ℕ) (at : ℕ) (x : Read (ListEntry Span)) → entry_at s at ≡ x → (r : ℕ → Read (List EntryRow)) (y : ℕ → Read (List (ListEntry Span))) → ((m : ℕ) → RowsAlike s m (r m) (y m))
    → RowsAlike s at (then (then x λ e next. got (row_of at e next) next) λ row next. then (r next) λ more end. got (row ∷ more) end) (then x λ e next. then (y next) λ more end. got (e ∷ more) end)
unfolding then
entry_first s at (got e next) q r y h = one_entry_more s at e next q (h next)
entry_first s at (refused f) q r y h = lost_rows f

rows_alike : (n : ℕ) (s : List ℕ) (at : ℕ) → RowsAlike s at (rows_at n s at) (entries_at n s at)
unfolding many row_at
rows_alike zero s at = held_rows [] [] at tt refl
rows_alike (suc n) s at = entry_first s at (entry_at s at) refl (rows_at n s) (entries_at n s) (rows_alike n s)

-- ---- behind the start

data ContentAlike (start : MessageStart Span) (s : List ℕ) (behind : ℕ) : Read WholeMessage → Read (Content Span) → Type 0 where
  held_content : (rows : List EntryRow) (es : List (ListEntry Span)) (end : Option (ListEnd Span)) (last n : ℕ) → RowsAre s rows es → Chained behind rows last → last ≤ n
      → ContentAlike start s behind (got (record { start = start; rows = rows; end = end }) n) (got (record { entries = es; end = end }) n)
  lost_content : (f : Refusal) → ContentAlike start s behind (refused f) (refused f)

list_end_alike : (start : MessageStart Span) (s : List ℕ) (behind : ℕ) (rows : List EntryRow) (es : List (ListEntry Span)) (last : ℕ) → RowsAre s rows es → Chained behind rows last
    → (x : Read (ListEnd Span)) → list_end_at s last ≡ x
    → ContentAlike start s behind (then x λ end m. got (record { start = start; rows = rows; end = some end }) m) (then x λ end m. got (record { entries = es; end = some end }) m)
unfolding then
list_end_alike start s behind rows es last h c (got end m) q =
    let f = ok_at (sym q) (list_end_found s last) in
    let a = f.1 in
    let b = a.ahead in
    held_content rows es (some end) last m h c (omega arith)
list_end_alike start s behind rows es last h c (refused f) q = lost_content f

list_alike : (start : MessageStart Span) (s : List ℕ) (behind : ℕ) {r : Read (List EntryRow)} {x : Read (List (ListEntry Span))} → RowsAlike s behind r x
    → ContentAlike start s behind (then r λ rows n. then (list_end_at s n) λ end m. got (record { start = start; rows = rows; end = some end }) m)
    (then x λ entries n. then (list_end_at s n) λ end m. got (record { entries = entries; end = some end }) m)
unfolding then
list_alike start s behind (lost_rows f) = lost_content f
list_alike start s behind (held_rows rows es n h c) = list_end_alike start s behind rows es n h c (list_end_at s n) refl

content_alike : (start : MessageStart Span) (b : Body Span) (s : List ℕ) (behind : ℕ) → ContentAlike start s behind (inside_at start b s behind) (content_of b s behind)
unfolding inside_at content_of
content_alike start (open_body b) s behind = held_content [] [] none behind behind tt refl (omega arith)
content_alike start (close_body b) s behind = held_content [] [] none behind behind tt refl (omega arith)
content_alike start (list_body b) s behind = list_alike start s behind (rows_alike b.num_vals s behind)

-- ---- the message

pub data WholeAlike (s : List ℕ) (at : ℕ) : Read WholeMessage → Read (Message Span) → Type 0 where
  both_held : (start : MessageStart Span) (rows : List EntryRow) (es : List (ListEntry Span)) (end : Option (ListEnd Span)) (first last next : ℕ) → RowsAre s rows es → start_at s at ≡ got start first
      → Chained first rows last → last < next → at < next → next ≤ length s
      → WholeAlike s at (got (record { start = start; rows = rows; end = end }) next) (got (record { start = start; content = record { entries = es; end = end } }) next)
  both_lost : (f : Refusal) → WholeAlike s at (refused f) (refused f)

chain_up : (p : ℕ) (rows : List EntryRow) (q : ℕ) → Chained p rows q → p ≤ q
chain_up p [] q h = omega (arith, h)
chain_up p (r ∷ rows) q h = omega (arith, chain_up (p + r.entry.len) rows q h.1)

trailer_alike : (s : List ℕ) (at : ℕ) (start : MessageStart Span) (rows : List EntryRow) (es : List (ListEntry Span)) (end : Option (ListEnd Span)) (first last n : ℕ) → RowsAre s rows es
    → start_at s at ≡ got start first → Chained first rows last → last ≤ n → (x : Read (Unit {0})) → trailer_at s at n ≡ x
    → WholeAlike s at (then x λ trailer m. got (record { start = start; rows = rows; end = end }) m) (then x λ trailer m. got (record { start = start; content = record { entries = es; end = end } }) m)
unfolding then
trailer_alike s at start rows es end first last n h p c o (got u m) q =
    let begun = (ok_at (sym p) (start_found_lem s at)).1.ahead in
    let f = ok_at (sym q) (trailer_found s at n) in
    let a = f.1 in
    let b = a.ahead in
    both_held start rows es end first last m h p c (omega arith) (omega (arith, chain_up first rows last c)) a.within
trailer_alike s at start rows es end first last n h p c o (refused f) q = both_lost f

rest_alike : (s : List ℕ) (at : ℕ) (start : MessageStart Span) (behind : ℕ) → start_at s at ≡ got start behind → {r : Read WholeMessage} {x : Read (Content Span)} → ContentAlike start s behind r x
    → WholeAlike s at (then r λ w n. then (trailer_at s at n) λ trailer m. got w m) (then x λ content n. then (trailer_at s at n) λ trailer m. got (record { start = start; content = content }) m)
unfolding then
rest_alike s at start behind p (lost_content f) = both_lost f
rest_alike s at start behind p (held_content rows es end last n h c o) = trailer_alike s at start rows es end behind last n h p c o (trailer_at s at n) refl

start_alike : (s : List ℕ) (at : ℕ) (x : Read (MessageStart Span)) → start_at s at ≡ x
    → WholeAlike s at (then x λ start n₁. then (inside_at start start.message_body s n₁) λ w n₂. then (trailer_at s at n₂) λ trailer n₃. got w n₃)
    (then x λ start n₁. then (content_of start.message_body s n₁) λ content n₂. then (trailer_at s at n₂) λ trailer n₃. got (record { start = start; content = content }) n₃)
unfolding then
start_alike s at (got start n) q = rest_alike s at start n q (content_alike start start.message_body s n)
start_alike s at (refused f) q = both_lost f

-- the reading of a whole message refuses as message_at refuses; where it finds, start, end and place are the same, and each row is an entry's
pub whole_alike : (s : List ℕ) (at : ℕ) → WholeAlike s at (whole_at s at) (message_at s at)
unfolding whole_at message_at
whole_alike s at = start_alike s at (start_at s at) refl

-- the message that message_at finds where a whole one is found
pub record HeldWhole (s : List ℕ) (at : ℕ) (w : WholeMessage) (n : ℕ) : Type 0 where
  pub message : Message Span
  pub is : message_at s at ≡ got message n
  pub start_is : message.start ≡ w.start
  pub end_is : message.content.end ≡ w.end
  pub rows_are : RowsAre s w.rows message.content.entries
  pub first_entry : ℕ
  pub last_ends : ℕ
  pub begun : start_at s at ≡ got w.start first_entry
  pub chained : Chained first_entry w.rows last_ends
  pub ended : last_ends < n
  pub ahead : at < n
  pub within : n ≤ length s

held_in : (s : List ℕ) (at : ℕ) {r : Read WholeMessage} {x : Read (Message Span)} → WholeAlike s at r x → message_at s at ≡ x → Ok (λ w n. HeldWhole s at w n) r
held_in s at (both_lost f) q = record { holds = tt }
held_in s at (both_held start rows es end first last next k p c o a i) q =
    record {
      holds = record {
        message = record { start = start; content = record { entries = es; end = end } };
        is = q;
        start_is = refl;
        end_is = refl;
        rows_are = k;
        first_entry = first;
        last_ends = last;
        begun = p;
        chained = c;
        ended = o;
        ahead = a;
        within = i;
      };
    }

pub held_whole : (s : List ℕ) (at : ℕ) (w : WholeMessage) (n : ℕ) → whole_at s at ≡ got w n → HeldWhole s at w n
held_whole s at w n e = ok_at (sym e) (held_in s at (whole_alike s at) refl)

-- ---- what it needs

locates_row : (at start : ℕ) → Locates (λ t. row_at t at) at start
unfolding row_at
locates_row at start = locates_then _ _ at start (locates_entry at start) (λ e n. locates_got _ n start)

locates_inside : (m : MessageStart Span) (b : Body Span) (at start : ℕ) → Locates (λ t. inside_at m b t at) at start
unfolding inside_at
locates_inside m (open_body b) at start = locates_got _ at start
locates_inside m (close_body b) at start = locates_got _ at start
locates_inside m (list_body b) at start =
    locates_then _ _ at start (locates_many (λ m t. row_at t m) start (λ m. locates_row m start) b.num_vals at) (λ rows n.
    locates_then _ _ n start (locates_list_end n start) (λ end m.
    locates_got _ m start))

pub locates_whole_message : (at : ℕ) → Locates (λ t. whole_at t at) at at
unfolding whole_at
locates_whole_message at =
    locates_then _ _ at at (locates_start at at) (λ m n₁.
    locates_then _ _ n₁ at (locates_inside m m.message_body n₁ at) (λ w n₂.
    locates_then _ _ n₂ at (locates_trailer at n₂) (λ trailer n₃.
    locates_got _ n₃ at)))
