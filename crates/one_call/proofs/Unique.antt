-- Who keeps the claims is ours: on every input, place and table it answers the same, and leaves the same.
use mathlib.Core.Path.{◌≡◌, refl, sym, ap, ◌∙◌, subst}
use mathlib.Core.List.{List, [], ◌∷◌, ◌++◌}
use mathlib.Core.Option.{Option}
use Prim.Native.Nat.{ℕ, zero, suc, ◌+◌, ◌*◌, ◌≤◌}
use native.Mathlib.Omega.{arith}
use lib.ListN.{length, drop, get_or, length-drop}
use lib.Seq.{drop-drop}
use Rattle.refusals.specs.Numbers.{too_many_entries_no}
use Rattle.refusals.specs.declared.Span.{Span}
use Rattle.common.specs.Fields.{ListEntry, entry_at}
use Rattle.message.specs.Messages.{MessageStart, ListEnd}
use Rattle.whole.specs.Whole.{EntryRow, flat, WholeSaid, whole_is, broken, refused_alone, AfterWhole, read_to, Fair, rows_of}
use Rattle.whole.specs.Answers.{after_whole}
use Rattle.whole.proofs.Outcomes.{WholeOutcome, too_long, place_beyond, broken_at, table_full, taken_whole, whole_outcome, not_broken, not_refused_alone}
use Rattle.events.specs.Message.{Message}
use Rattle.one_call.specs.Readers.{WholeReader, our_whole_reader, RowsAre, Chained, AcceptedWhole, ReadAs, AcceptsExactly, WithRoom, GoodWholeReader, OnlyOurs}
use Rattle.one_call.proofs.Messages.{whole_alike}
use Rattle.one_call.proofs.Runs.{run_found}
use Rattle.one_call.proofs.Outcomes.{next_read, got_or, fault_or, never_both, lost_message, accepts, room_made}
use Rattle.one_call.proofs.Readers.{ours_good}

-- ---- the table

-- an entry's row begins where the one before ends, and its length is where the entry is read to: the entries fix the rows
rows_same : (s : List ℕ) (p q₁ q₂ : ℕ) (xs ys : List EntryRow) (es : List (ListEntry Span)) → Chained p xs q₁ → Chained p ys q₂ → RowsAre s xs es → RowsAre s ys es → xs ≡ ys
rows_same s p q₁ q₂ [] [] es c d h k = refl
rows_same s p q₁ q₂ (x ∷ xs) (y ∷ ys) (e ∷ es) c d h k =
    let a = h.0 in
    let b = k.0 in
    let start : x.entry.start ≡ y.entry.start = c.0 ∙ sym d.0 in
    let ends : x.entry.start + x.entry.len ≡ y.entry.start + y.entry.len = ap next_read (sym a.entry_is ∙ ap (λ (i : ℕ). entry_at s i) start ∙ b.entry_is) in
    let len : x.entry.len ≡ y.entry.len = omega (arith, start, ends) in
    let name : x.name ≡ y.name = a.name_is ∙ sym b.name_is in
    let more : xs ≡ ys = rows_same s (p + y.entry.len) q₁ q₂ xs ys es (subst (λ (n : ℕ). Chained (p + n) xs q₁) len c.1) d.1 h.1 k.1 in
    λ i. record { name = name i; entry = record { start = start i; len = len i } } ∷ more i
rows_same s p q₁ q₂ (x ∷ xs) (y ∷ ys) [] c d h k = absurd h
rows_same s p q₁ q₂ (x ∷ xs) [] [] c d h k = absurd h
rows_same s p q₁ q₂ (x ∷ xs) [] (e ∷ es) c d h k = absurd k
rows_same s p q₁ q₂ [] (y ∷ ys) [] c d h k = absurd k
rows_same s p q₁ q₂ [] (y ∷ ys) (e ∷ es) c d h k = absurd h

first_four : (u : List ℕ) → 4 ≤ length u → u ≡ get_or u 0 0 ∷ get_or u 1 0 ∷ get_or u 2 0 ∷ get_or u 3 0 ∷ drop 4 u
first_four (a ∷ b ∷ c ∷ d ∷ u) h = refl
first_four (a ∷ b ∷ c ∷ []) h = absurd (omega arith)
first_four (a ∷ b ∷ []) h = absurd (omega arith)
first_four (a ∷ []) h = absurd (omega arith)
first_four [] h = absurd (omega arith)

-- a table is its first rows and what stands behind them
table_is : (n : ℕ) (u : List ℕ) → 4 * n ≤ length u → u ≡ flat (rows_of n u) ++ drop (4 * n) u
unfolding flat
table_is zero u h = refl
table_is (suc n) u h =
    let i : 4 + 4 * n ≡ 4 * suc n = omega arith in
    first_four u (omega arith)
    ∙ ap (λ (l : List ℕ). get_or u 0 0 ∷ get_or u 1 0 ∷ get_or u 2 0 ∷ get_or u 3 0 ∷ l) (table_is n (drop 4 u) (omega (arith, length-drop 4 u))
    ∙ ap (λ (l : List ℕ). flat (rows_of n (drop 4 u)) ++ l) (drop-drop (4 * n) 4 u ∙ ap (λ (k : ℕ). drop k u) i))

-- what an accepted call says fixes what the table holds
read_same : (s : List ℕ) (at : ℕ) (t u v : List ℕ) (start : MessageStart Span) (end : Option (ListEnd Span)) (rows next : ℕ) → Fair s at
    → ReadAs s at t u start end rows next → ReadAs s at t v start end rows next → u ≡ v
read_same s at t u v start end rows next h x y =
    let whole : x.whole ≡ y.whole = ap (got_or x.whole) (sym (run_found s at next x.whole h x.runs) ∙ run_found s at next y.whole h y.runs) in
    let first : x.first_entry ≡ y.first_entry = ap next_read (sym x.begun ∙ y.begun) in
    let same : rows_of rows u ≡ rows_of rows v = rows_same s y.first_entry x.last_ends y.last_ends (rows_of rows u) (rows_of rows v) y.whole.content.entries
    (subst (λ (p : ℕ). Chained p (rows_of rows u) x.last_ends) first x.chained) y.chained
    (subst (λ (m : Message Span). RowsAre s (rows_of rows u) m.content.entries) whole x.rows_are) y.rows_are in
    let rest : drop (4 * rows) u ≡ drop (4 * rows) v = x.rest ∙ sym y.rest in
    let room = x.room in
    table_is rows u (omega (arith, x.same_length)) ∙ (λ i. flat (same i) ++ rest i) ∙ sym (table_is rows v (omega (arith, y.same_length)))

-- ---- the answer

-- what one accepts the other does, and says the same
accepts_alike : (Q R : WholeReader) → AcceptsExactly Q → AcceptsExactly R → (s : List ℕ) (at : ℕ) (t : List ℕ) (start : MessageStart Span) (end : Option (ListEnd Span)) (rows next : ℕ) → Fair s at
    → (Q s at t).answer ≡ whole_is start end rows next → (R s at t).answer ≡ whole_is start end rows next
accepts_alike Q R q r s at t start end rows next h e =
    let x = q.only_if s at t start end rows next h e in
    let room = x.room in
    let start_is = x.start_is in
    let end_is = x.end_is in
    let count = x.count in
    r.if s at t next x.whole h x.runs (omega (arith, count)) ∙ (λ i. whole_is (start_is i) (end_is i) (count i) next)

does : (a : AfterWhole) (x : WholeSaid) (t : List ℕ) → a.answer ≡ x → a.table ≡ t → a ≡ after_whole x t
does a x t p q = λ i. record { answer = p i; table = q i }

by_outcome : (R : WholeReader) → GoodWholeReader R → (s : List ℕ) (at : ℕ) (t : List ℕ) (a : AfterWhole) → WholeOutcome s at t a → read_to s at t ≡ a → R s at t ≡ a
by_outcome R g s at t a (too_long h) o = g.judges.long s at t h
by_outcome R g s at t a (place_beyond h k) o = g.judges.beyond s at t h k
by_outcome R g s at t a (broken_at h f q) o =
    let lost = lost_message f (whole_alike s at) q in
    let b = g.refuses.must s at t h (λ next m r. never_both (sym (run_found s at next m h r) ∙ lost)) in
    let same : b.refusal ≡ f = ap (fault_or f) (sym (g.refuses.stands s at t b.refusal h b.is).refuses ∙ lost) in
    does (R s at t) (broken f) t (b.is ∙ ap broken same) (g.leaves s at t (λ c. not_broken (sym b.is ∙ c.is)))
by_outcome R g s at t a (table_full h w n q l) o =
    let made = room_made s at w n h q in
    let x = made.accepted in
    let with : WithRoom R s at = record {
      table = made.table;
      accepted = record { start = x.start; end = x.end; rows = x.rows; next = x.next; is = accepts_alike our_whole_reader R ours_good.accepts g.accepts s at made.table x.start x.end x.rows x.next h x.is };
    } in
    let none_is : AcceptedWhole (R s at t) → ⊥ = λ c.
    not_refused_alone (sym (ap (λ (b : AfterWhole). b.answer) o) ∙ accepts_alike R our_whole_reader g.accepts ours_good.accepts s at t c.start c.end c.rows c.next h c.is) in
    does (R s at t) (refused_alone too_many_entries_no) t (g.room_last.if s at t with none_is) (g.leaves s at t none_is)
by_outcome R g s at t a (taken_whole h w n q l) o =
    let ours = accepts s at t w n h q l in
    let theirs = accepts_alike our_whole_reader R ours_good.accepts g.accepts s at t w.start w.end (length w.rows) n h ours in
    let x = g.accepts.only_if s at t w.start w.end (length w.rows) n h theirs in
    let y = ours_good.accepts.only_if s at t w.start w.end (length w.rows) n h ours in
    does (R s at t) _ _ theirs (read_same s at t (R s at t).table (read_to s at t).table w.start w.end (length w.rows) n h x y ∙ ap (λ (b : AfterWhole). b.table) o)

pub only_ours : OnlyOurs
only_ours R g s at t = by_outcome R g s at t (read_to s at t) (whole_outcome s at t) refl
