-- What follows the message is not read: the names stand before its end, so other bytes behind it leave the order as it is.
use Prim.Native.Nat.{ℕ, zero, suc, ◌+◌, ◌*◌, ◌≤◌, ◌<◌}
use mathlib.Core.Path.{◌≡◌, refl, sym, ap, ◌∙◌, subst}
use mathlib.Core.Bool.{Bool, cond}
use mathlib.Core.List.{List, [], ◌∷◌, ◌++◌, Memᴰ}
use mathlib.Core.Option.{Option}
use native.Mathlib.Omega.{arith}
use lib.ListN.{length, take, drop, length-append}
use lib.Seq.{length-take-le, take_at, take-take}
use Rattle.refusals.specs.declared.Span.{Span}
use Rattle.octet_string.specs.Strings.{part_of}
use Rattle.octet_string.proofs.Strings.{part_is}
use Rattle.whole.specs.Whole.{EntryRow, flat, rows_of, whole_is, AfterWhole, read_to, Fair}
use Rattle.message.specs.Messages.{MessageStart, ListEnd}
use Rattle.whole.proofs.Outcomes.{WholeOutcome, too_long, place_beyond, broken_at, table_full, taken_whole, whole_outcome, not_broken, not_refused_alone, says_so}
use Rattle.one_call.proofs.Messages.{held_whole}
use Rattle.one_call.proofs.Readers.{ours_good}
use Rattle.index.specs.Index.{before, insert, sorted, sorted_to, index_is}
use Rattle.index.specs.Answers.{after_index}
use Rattle.index.proofs.Rows.{before_order}
use Rattle.index.proofs.Unique.{sorted_in}
use Rattle.by_name.specs.Indexes.{Indexer, our_indexer, RowInside, RestNotIndexed, NeverReadsOn}
use Rattle.by_name.proofs.Indexes.{index_built, rows_inside, read_first}
use Rattle.by_name.proofs.Unique.{indexer_is}

-- ---- a part that ends before the bytes do that stay

part_front : (a b n : ℕ) (s : List ℕ) → a + b ≤ n → take b (drop a (take n s)) ≡ take b (drop a s)
part_front zero b n s h = take-take b n s (omega arith)
part_front (suc a) b zero s h = absurd (omega arith)
part_front (suc a) b (suc n) [] h = refl
part_front (suc a) b (suc n) (x ∷ s) h = part_front a b n s (omega arith)

part_kept : (s l : List ℕ) (next : ℕ) (p : Span) → next ≤ length s → p.start + p.len ≤ next → part_of (take next s ++ l) p ≡ part_of s p
part_kept s l next p h e =
    let long : length (take next s) ≡ next = length-take-le next s h in
    part_is (take next s ++ l) p (omega (arith, long, length-append (take next s) l))
    ∙ sym (part_front p.start p.len next (take next s ++ l) e)
    ∙ ap (λ (x : List ℕ). take p.len (drop p.start x)) (take_at (take next s) l next long)
    ∙ part_front p.start p.len next s e
    ∙ sym (part_is s p (omega arith))

-- ---- sorting by two orders that agree on the rows

insert_alike : {A : Type 0} (lt ut : A → A → Bool) (r : A) (l : List A) → ((q : A) → Memᴰ q l → lt r q ≡ ut r q) → insert lt r l ≡ insert ut r l
unfolding insert
insert_alike lt ut r [] h = refl
insert_alike lt ut r (q ∷ l) h =
    ap (λ (b : Bool). cond b (r ∷ q ∷ l) (q ∷ insert lt r l)) (h q (Memᴰ.head refl))
    ∙ ap (λ (m : List _). cond (ut r q) (r ∷ q ∷ l) (q ∷ m)) (insert_alike lt ut r l (λ x m. h x (Memᴰ.tail m)))

sorted_alike : (s s' : List ℕ) (l : List EntryRow) → ((p q : EntryRow) → Memᴰ p l → Memᴰ q l → before s p q ≡ before s' p q) → sorted (before s) l ≡ sorted (before s') l
unfolding sorted
sorted_alike s s' [] h = refl
sorted_alike s s' (r ∷ l) h =
    ap (insert (before s) r) (sorted_alike s s' l (λ p q m n. h p q (Memᴰ.tail m) (Memᴰ.tail n)))
    ∙ insert_alike (before s) (before s') r (sorted (before s') l) (λ q m. h r q (Memᴰ.head refl) (Memᴰ.tail (sorted_in (before s') (before_order s') q l m)))

before_kept : (s s' : List ℕ) (p q : EntryRow) → part_of s p.name ≡ part_of s' p.name → part_of s q.name ≡ part_of s' q.name → before s p q ≡ before s' p q
unfolding before
before_kept s s' p q e f = rw (e, f)

-- ---- the index

-- a message ends behind its place
ends_ahead : (s : List ℕ) (at : ℕ) (t : List ℕ) (a : AfterWhole) → WholeOutcome s at t a → (start : MessageStart Span) (end : Option (ListEnd Span)) (rows next : ℕ) → a.answer ≡ whole_is start end rows next → at < next
ends_ahead s at t a (too_long h) start end rows next e = absurd (not_refused_alone e)
ends_ahead s at t a (place_beyond h k) start end rows next e = absurd (not_refused_alone e)
ends_ahead s at t a (broken_at h f q) start end rows next e = absurd (not_broken e)
ends_ahead s at t a (table_full h w n q l) start end rows next e = absurd (not_refused_alone e)
ends_ahead s at t a (taken_whole h w n q l) start end rows next e = omega (arith, (held_whole s at w n q).ahead, (says_so {w = w} e).next_is)

not_indexed : RestNotIndexed our_indexer
unfolding sorted_to
not_indexed s at t rows next fair e l short =
    let f = read_first s at t rows next e in
    let r = ours_good.accepts.only_if s at t f.start f.end rows next fair f.is in
    let w = r.runs.within in
    let u : List ℕ = (read_to s at t).table in
    let cut : length (take next s) ≡ next = length-take-le next s w in
    let s₀ : List ℕ = take next s ++ [] in
    let s' : List ℕ = take next s ++ l in
    let long₀ : length s₀ ≡ next = length-append (take next s) [] ∙ (omega (arith, cut)) in
    let same₀ : read_to s₀ at t ≡ read_to s at t = ours_good.rest s at t f.start f.end rows next fair f.is [] (omega (arith, long₀, w, fair.short)) in
    let same' : read_to s' at t ≡ read_to s at t = ours_good.rest s at t f.start f.end rows next fair f.is l short in
    let ahead = ends_ahead s at t (read_to s at t) (whole_outcome s at t) f.start f.end rows next f.is in
    let fair₀ : Fair s₀ at = record { short = omega (arith, long₀, w, fair.short); inside = omega (arith, long₀, ahead) } in
    let is₀ : (read_to s₀ at t).answer ≡ whole_is f.start f.end rows next = ap (λ (a : AfterWhole). a.answer) same₀ ∙ f.is in
    let r₀ = ours_good.accepts.only_if s₀ at t f.start f.end rows next fair₀ is₀ in
    let inside : (q : EntryRow) → Memᴰ q (rows_of rows u) → RowInside s₀ q =
    λ q m. rows_inside s₀ (rows_of rows (read_to s₀ at t).table) r₀.whole.content.entries r₀.rows_are q (subst (λ (x : List ℕ). Memᴰ q (rows_of rows x)) (sym (ap (λ (a : AfterWhole). a.table) same₀)) m) in
    let kept : (q : EntryRow) → Memᴰ q (rows_of rows u) → part_of s' q.name ≡ part_of s q.name =
    λ q m. part_kept s l next q.name w (omega (arith, (inside q m).name, long₀)) in
    let order : sorted (before s') (rows_of rows u) ≡ sorted (before s) (rows_of rows u) =
    sorted_alike s' s (rows_of rows u) (λ p q m n. before_kept s' s p q (kept p m) (kept q n)) in
    let is' : (read_to s' at t).answer ≡ whole_is f.start f.end rows next = ap (λ (a : AfterWhole). a.answer) same' ∙ f.is in
    index_built s' at t f.start f.end rows next is'
    ∙ ap (λ (x : List ℕ). after_index (index_is rows next) (sorted_to s' rows x)) (ap (λ (a : AfterWhole). a.table) same')
    ∙ ap (λ (x : List EntryRow). after_index (index_is rows next) (flat x ++ drop (4 * rows) u)) order
    ∙ sym (index_built s at t f.start f.end rows next f.is)

pub never_reads_on : NeverReadsOn
never_reads_on B good = subst (λ (C : Indexer). RestNotIndexed C) (sym (indexer_is B good)) not_indexed
