-- The five outcomes of a call, each with what is true then; answers told apart; what the table holds.
use mathlib.Core.Path.{◌≡◌, refl, ap}
use mathlib.Core.Bool.{Bool, true, false, cond}
use mathlib.Core.List.{List, [], ◌∷◌, ◌++◌}
use mathlib.Core.Option.{Option, none}
use Prim.Native.Nat.{ℕ, ◌+◌, ◌*◌, ◌/◌, ◌≤◌, ◌<◌}
use native.Mathlib.Omega.{arith}
use lib.ListN.{length, drop, length-append, length-drop}
use lib.Seq.{drop_at}
use lib.Dec.{ltb}
use borrow.Author.Tests.{ltb-true, ltb-false}
use Rattle.refusals.specs.Numbers.{bad_state_no, input_too_long_no, too_many_entries_no, limit}
use Rattle.refusals.specs.Read.{Read, got, refused, Refusal}
use Rattle.refusals.specs.declared.Span.{Span}
use Rattle.message.specs.Messages.{MessageStart, ListEnd}
use Rattle.whole.specs.Whole.{EntryRow, WholeMessage, whole_at, flat, rows_of, WholeSaid, whole_is, broken, refused_alone, AfterWhole, fill_to, read_to, Fair}
use Rattle.whole.specs.Answers.{after_whole}
use Rattle.whole.proofs.Rows.{flat_length}

pub data WholeOutcome (s : List ℕ) (at : ℕ) (t : List ℕ) : AfterWhole → Type 0 where
  too_long : limit < length s → WholeOutcome s at t (after_whole (refused_alone input_too_long_no) t)
  place_beyond : length s ≤ limit → length s < at → WholeOutcome s at t (after_whole (refused_alone bad_state_no) t)
  broken_at : Fair s at → (f : Refusal) → whole_at s at ≡ refused f → WholeOutcome s at t (after_whole (broken f) t)
  table_full : Fair s at → (w : WholeMessage) (n : ℕ) → whole_at s at ≡ got w n → length t < 4 * length w.rows → WholeOutcome s at t (after_whole (refused_alone too_many_entries_no) t)
  taken_whole : Fair s at → (w : WholeMessage) (n : ℕ) → whole_at s at ≡ got w n → 4 * length w.rows ≤ length t
      → WholeOutcome s at t (after_whole (whole_is w.start w.end (length w.rows) n) (flat w.rows ++ drop (4 * length w.rows) t))

whole_filled : (s : List ℕ) (at : ℕ) (t : List ℕ) → Fair s at → (r : Read WholeMessage) → whole_at s at ≡ r → WholeOutcome s at t (fill_to r t)
unfolding fill_to
whole_filled s at t h (refused f) e = broken_at h f e
whole_filled s at t h (got w n) e = by (ltb (length t / 4) (length w.rows)) refl
  where
    by : (b : Bool) → ltb (length t / 4) (length w.rows) ≡ b
        → WholeOutcome s at t (cond b (record { answer = refused_alone too_many_entries_no; table = t }) (record { answer = whole_is w.start w.end (length w.rows) n; table = flat w.rows ++ drop (4 * length w.rows) t }))
    by true q = let p = ltb-true (length t / 4) (length w.rows) q in table_full h w n e (omega arith)
    by false q = let p = ltb-false (length t / 4) (length w.rows) q in taken_whole h w n e (omega arith)

pub whole_outcome : (s : List ℕ) (at : ℕ) (t : List ℕ) → WholeOutcome s at t (read_to s at t)
unfolding read_to
whole_outcome s at t = by (ltb limit (length s)) (ltb (length s) at) refl refl
  where
    by : (p q : Bool) → ltb limit (length s) ≡ p → ltb (length s) at ≡ q
        → WholeOutcome s at t (cond p (record { answer = refused_alone input_too_long_no; table = t }) (cond q (record { answer = refused_alone bad_state_no; table = t }) (fill_to (whole_at s at) t)))
    by true q e g = too_long (ltb-true _ _ e)
    by false true e g = place_beyond (ltb-false _ _ e) (ltb-true _ _ g)
    by false false e g = whole_filled s at t (record { short = ltb-false _ _ e; inside = ltb-false _ _ g }) (whole_at s at) refl

-- ---- answers are told apart

abbrev said_kind : WholeSaid → ℕ
said_kind (whole_is start end rows next) = 0
said_kind (broken f) = 1
said_kind (refused_alone n) = 2 + n

pub not_broken : {start : MessageStart Span} {end : Option (ListEnd Span)} {rows next : ℕ} {f : Refusal} → broken f ≡ whole_is start end rows next → ⊥
not_broken e = let z : ◌≡◌ {A = ℕ} 1 0 = ap said_kind e in omega (arith, z)

pub not_refused_alone : {start : MessageStart Span} {end : Option (ListEnd Span)} {rows next n : ℕ} → refused_alone n ≡ whole_is start end rows next → ⊥
not_refused_alone {n = n} e = let z : ◌≡◌ {A = ℕ} (2 + n) 0 = ap said_kind e in omega (arith, z)

pub never_broken : {f : Refusal} {n : ℕ} → refused_alone n ≡ broken f → ⊥
never_broken {n = n} e = let z : ◌≡◌ {A = ℕ} (2 + n) 1 = ap said_kind e in omega (arith, z)

pub same_number : {m n : ℕ} → refused_alone m ≡ refused_alone n → m ≡ n
same_number {m} {n} e = let z : ◌≡◌ {A = ℕ} (2 + m) (2 + n) = ap said_kind e in omega (arith, z)

abbrev broken_or : Refusal → WholeSaid → Refusal
broken_or d (whole_is start end rows next) = d
broken_or d (broken f) = f
broken_or d (refused_alone n) = d

pub same_refusal : {f g : Refusal} → broken f ≡ broken g → f ≡ g
same_refusal {f} e = ap (broken_or f) e

abbrev start_said_or : MessageStart Span → WholeSaid → MessageStart Span
start_said_or d (whole_is start end rows next) = start
start_said_or d (broken f) = d
start_said_or d (refused_alone n) = d

abbrev pub end_said_by : WholeSaid → Option (ListEnd Span)
end_said_by (whole_is start end rows next) = end
end_said_by (broken f) = none
end_said_by (refused_alone n) = none

abbrev rows_in : WholeSaid → ℕ
rows_in (whole_is start end rows next) = rows
rows_in (broken f) = 0
rows_in (refused_alone n) = 0

abbrev next_in : WholeSaid → ℕ
next_in (whole_is start end rows next) = next
next_in (broken f) = 0
next_in (refused_alone n) = 0

-- an accepted answer says these
pub record Says (w : WholeMessage) (n : ℕ) (start : MessageStart Span) (end : Option (ListEnd Span)) (rows next : ℕ) : Type 0 where
  pub start_is : w.start ≡ start
  pub end_is : w.end ≡ end
  pub rows_is : length w.rows ≡ rows
  pub next_is : n ≡ next

pub says_so : {w : WholeMessage} {n : ℕ} {start : MessageStart Span} {end : Option (ListEnd Span)} {rows next : ℕ} → whole_is w.start w.end (length w.rows) n ≡ whole_is start end rows next
    → Says w n start end rows next
says_so {w = w} e = record { start_is = ap (start_said_or w.start) e; end_is = ap end_said_by e; rows_is = ap rows_in e; next_is = ap next_in e }

-- ---- the table

-- rows that are written are read again
pub rows_back : (rows : List EntryRow) (rest : List ℕ) → rows_of (length rows) (flat rows ++ rest) ≡ rows
unfolding flat
rows_back [] rest = refl
rows_back (r ∷ rows) rest = ap (λ (l : List EntryRow). r ∷ l) (rows_back rows rest)

pub rest_stays : (rows : List EntryRow) (t : List ℕ) → drop (4 * length rows) (flat rows ++ drop (4 * length rows) t) ≡ drop (4 * length rows) t
rest_stays rows t = drop_at (flat rows) (drop (4 * length rows) t) (4 * length rows) (flat_length rows)

pub length_stays : (rows : List EntryRow) (t : List ℕ) → 4 * length rows ≤ length t → length (flat rows ++ drop (4 * length rows) t) ≡ length t
length_stays rows t h = omega (arith, length-append (flat rows) (drop (4 * length rows) t), flat_length rows, length-drop (4 * length rows) t)
