-- What sorting may count on: the rows that a whole message leaves in the table are few, and their entries' starts rise.
use Rattle.std.specs.Prelude.{Err}
use Prim.Native.Nat.{ℕ, zero, suc, ◌*◌, ◌-◌, ◌^◌, ◌<◌, ◌≤◌}
use mathlib.Core.Path.{◌≡◌, refl, sym, ap, subst}
use mathlib.Core.List.Memᴰ
use mathlib.Core.List.{List, [], ◌∷◌, ◌++◌, Memᴰ}
use mathlib.Core.Option.{Option}
use mathlib.Core.Logic.{⊎_elim}
use native.Mathlib.Omega.{arith}
use lib.ListN.{length, drop}
use borrow.Author.Tests.{lt-ltb}
use Rattle.refusals.specs.Read.{many}
use Rattle.refusals.specs.declared.Span.{Span}
use Rattle.refusals.proofs.Read.{Ok, ok_any, ok_got, ok_then, ok_at}
use Rattle.common.proofs.Fields.{entry_found}
use Rattle.message.specs.Messages.{MessageStart, ListEnd, Body, open_body, close_body, list_body, start_at, list_end_at}
use Rattle.trailer.specs.Trailer.{trailer_at}
use Rattle.whole.specs.Whole.{EntryRow, row_at, rows_at, WholeMessage, inside_at, whole_at, flat, rows_of, whole_is, AfterWhole, read_to}
use Rattle.whole.specs.Answers.{whole_refused, after_whole}
use Rattle.whole.specs.declared.WholeError.{WholeError}
use Rattle.whole.specs.declared.WholeError.TheVariants as Errors
use Rattle.whole.proofs.Outcomes.{WholeOutcome, too_long, place_beyond, broken_at, table_full, taken_whole, whole_outcome, not_broken, not_refused_alone, says_so, rows_back, length_stays}
use Rattle.index.specs.Index.{index_is, sorted_to, index_of, index_to}
use Rattle.index.specs.Answers.{indexed, after_index}
use Rattle.index.specs.Rows.{Distinct}
use Rattle.index.proofs.Unique.{Ordered, none, more}
use Rattle.index.proofs.Finds.{starts_before, rows_distinct}

-- rows of entries from a place on, one behind the other
pub record RowsRise (s : List ℕ) (at : ℕ) (rows : List EntryRow) : Type 0 where
  pub ordered : Ordered starts_before rows
  pub from : (r : EntryRow) → Memᴰ r rows → at ≤ r.entry.start
  pub few : length rows ≤ length s - at

none_rise : (s : List ℕ) (at : ℕ) → RowsRise s at []
none_rise s at = record { ordered = none; from = λ r m. absurd (Memᴰ.not-nil m); few = omega arith }

row_rises : (s : List ℕ) (at next : ℕ) (r : EntryRow) (rows : List EntryRow) → r.entry.start ≡ at → at < next → next ≤ length s → RowsRise s next rows → RowsRise s at (r ∷ rows)
unfolding starts_before
row_rises s at next r rows e a w h =
    record {
      ordered = more (λ x m. lt-ltb r.entry.start x.entry.start (omega (arith, h.from x m))) h.ordered;
      from = λ x m. ⊎_elim (λ q. let z : x.entry.start ≡ r.entry.start = ap (λ (y : EntryRow). y.entry.start) q in omega arith) (λ n. omega (arith, h.from x n)) (Memᴰ.cases_cons m);
      few = omega (arith, h.few);
    }

row_found : (s : List ℕ) (at : ℕ) → Ok (λ r next. (r.entry.start ≡ at) × (at < next) × (next ≤ length s)) (row_at s at)
unfolding row_at
row_found s at = ok_then _ _ (entry_found s at) (λ e next h. ok_got _ _ (refl, h.1.ahead, h.1.within))

rows_rise : (n : ℕ) (s : List ℕ) (at : ℕ) → Ok (λ rows m. RowsRise s at rows) (rows_at n s at)
unfolding many
rows_rise zero s at = ok_got _ _ (none_rise s at)
rows_rise (suc n) s at =
    ok_then _ _ (row_found s at) (λ r next h.
    ok_then _ _ (rows_rise n s next) (λ rows m k.
    ok_got _ _ (row_rises s at next r rows h.0 h.1 h.2 k)))

-- of a whole message
abbrev Rise : List ℕ → WholeMessage → Type 0
Rise s w = Ordered starts_before w.rows × (length w.rows ≤ length s)

inside_rise : (start : MessageStart Span) (b : Body Span) (s : List ℕ) (at : ℕ) → Ok (λ w n. Rise s w) (inside_at start b s at)
unfolding inside_at
inside_rise start (open_body b) s at = ok_got _ _ (none, omega arith)
inside_rise start (close_body b) s at = ok_got _ _ (none, omega arith)
inside_rise start (list_body b) s at =
    ok_then _ _ (rows_rise b.num_vals s at) (λ rows n h.
    ok_then _ _ (ok_any (list_end_at s n)) (λ end m e.
    ok_got _ _ (h.ordered, omega (arith, h.few))))

pub whole_rise : (s : List ℕ) (at : ℕ) → Ok (λ w n. Rise s w) (whole_at s at)
unfolding whole_at
whole_rise s at =
    ok_then _ _ (ok_any (start_at s at)) (λ start n₁ e.
    ok_then _ _ (inside_rise start start.message_body s n₁) (λ w n₂ h.
    ok_then _ _ (ok_any (trailer_at s at n₂)) (λ trailer n₃ g.
    ok_got _ _ h)))

-- what the table holds behind an accepted call
pub record TableFilled (u : List ℕ) (rows : ℕ) : Type 0 where
  pub few : rows < 2 ^ 32
  pub room : 4 * rows ≤ length u
  pub rise : Ordered starts_before (rows_of rows u)

fills : (s : List ℕ) (at : ℕ) (t : List ℕ) (a : AfterWhole) → WholeOutcome s at t a → (start : MessageStart Span) (end : Option (ListEnd Span)) (rows next : ℕ) → a.answer ≡ whole_is start end rows next
    → TableFilled a.table rows
fills s at t a (too_long h) start end rows next e = absurd (not_refused_alone e)
fills s at t a (place_beyond h k) start end rows next e = absurd (not_refused_alone e)
fills s at t a (broken_at h f q) start end rows next e = absurd (not_broken e)
fills s at t a (table_full h w n q l) start end rows next e = absurd (not_refused_alone e)
fills s at t a (taken_whole h w n q l) start end rows next e =
    let r = ok_at (sym q) (whole_rise s at) in
    let k = (says_so {w = w} e).rows_is in
    subst (λ (m : ℕ). TableFilled (flat w.rows ++ drop (4 * length w.rows) t) m) k (record {
      few = omega (arith, h.short, r.1);
      room = omega (arith, l, length_stays w.rows t l);
      rise = rw (rows_back w.rows (drop (4 * length w.rows) t)) r.0;
    })

pub filled_distinct : {u : List ℕ} {rows : ℕ} → TableFilled u rows → Distinct u rows
filled_distinct {u} {rows} h = rows_distinct u rows h.rise

module _ (s : List ℕ) (at : ℕ) (t u : List ℕ) where
  pub message_filled : (start : MessageStart Span) (end : Option (ListEnd Span)) (rows next : ℕ) → after_whole (whole_is start end rows next) u ≡ read_to s at t → TableFilled u rows
  message_filled start end rows next e =
      subst (λ (l : List ℕ). TableFilled l rows) (ap (λ (a : AfterWhole). a.table) (sym e))
      (fills s at t (read_to s at t) (whole_outcome s at t) start end rows next (ap (λ (a : AfterWhole). a.answer) (sym e)))

  -- what building answers, from what the reader answers
  pub built : (start : MessageStart Span) (end : Option (ListEnd Span)) (rows next : ℕ) (v : List ℕ) → after_whole (whole_is start end rows next) u ≡ read_to s at t → v ≡ sorted_to s rows u
      → after_index (index_is rows next) v ≡ index_to s at t
  unfolding index_to index_of
  built start end rows next v e q = rw (← e) (ap (after_index (index_is rows next)) q)

  pub built_refused : (e : WholeError) → after_whole (whole_refused e) u ≡ read_to s at t → after_index (indexed (Err e)) u ≡ index_to s at t
  unfolding index_to index_of
  built_refused (Errors.Fault f) e = rw (← e)
  built_refused Errors.InputTooLong e = rw (← e)
  built_refused Errors.BadState e = rw (← e)
  built_refused Errors.TooManyEntries e = rw (← e)
