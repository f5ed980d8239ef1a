-- What a caller of the library hears of a whole message is what ours says, and each entry is heard again at its row.
use mathlib.Core.Path.{◌≡◌, refl, sym, ap, ◌∙◌, subst}
use mathlib.Core.List.{List, [], ◌∷◌, ◌++◌}
use mathlib.Core.Option.{Option, some, none}
use Prim.Native.Nat.{ℕ, ◌+◌, ◌≤◌}
use native.Mathlib.Omega.{arith}
use lib.ListN.{length, take, drop, get_or}
use lib.Seq.{take_at, drop_at, get_or-append-add}
use Rattle.refusals.specs.Numbers.{limit}
use Rattle.refusals.specs.Read.{got, Refusal}
use Rattle.refusals.specs.declared.Span.{Span}
use Rattle.common.specs.Fields.{ListEntry, entry_at}
use Rattle.message.specs.Messages.{MessageStart, ListEnd}
use Rattle.streaming.specs.Next.{start_event, entry_event, Said, event, no_event, failed, alone, onward, entry_next, step_at, next_at}
use Rattle.events.proofs.Calls.{SoundReader, sound_next}
use Rattle.words.specs.Words.{with_zeros, event_words}
use Rattle.words.specs.Back.{word_at}
use Rattle.words.proofs.Laws.{event_words_length}
use Rattle.whole.specs.Whole.{EntryRow, WholeSaid, whole_is, broken, refused_alone, AfterWhole, read_to, Fair, rows_of}
use Rattle.whole.proofs.Outcomes.{WholeOutcome, too_long, place_beyond, broken_at, table_full, taken_whole, whole_outcome}
use Rattle.sartrogheo.specs.Streams.{reader_no}
use Rattle.sartrogheo.specs.Wholes.{start_said, list_end_said, end_said, rows_said, next_said, message_words, sgh_read_message}
use Rattle.one_call.specs.Readers.{WholeReader, our_whole_reader, RowsAre, GoodWholeReader}
use Rattle.one_call.proofs.Runs.{failed_or}
use Rattle.one_call.proofs.Readers.{ours_good}
use Rattle.marks.specs.Events.{says_at}
use Rattle.marks.specs.Library.{Library, our_library, lent_at, heard_event, HearsReader, whole_heard, end_among, end_heard, whole_reader_by, HearsWhole, EntriesHeard, RowsHeard}
use Rattle.marks.proofs.HeardEvent.{IsRefusal, said_words_back, end_back_heard, heard_is, stands_refuses}

-- ---- the words

abbrev is_failed : Said → ℕ
is_failed (failed f) = 1
is_failed (event e) = 0
is_failed no_event = 0
is_failed (alone n) = 0

never_failed : {m : MessageStart Span} {f : Refusal} → event (start_event m) ≡ failed f → ⊥
never_failed e = let z : ◌≡◌ {A = ℕ} 0 1 = ap is_failed e in omega (arith, z)

never_alone : {n : ℕ} {f : Refusal} → alone n ≡ failed f → ⊥
never_alone e = let z : ◌≡◌ {A = ℕ} 0 1 = ap is_failed e in omega (arith, z)

-- what stands behind two runs of 24 numbers
behind_two : (a b l : List ℕ) (k : ℕ) → length a ≡ 24 → length b ≡ 24 → get_or (a ++ (b ++ l)) (48 + k) 0 ≡ get_or l k 0
behind_two a b l k p q =
    let m : 48 + k ≡ length a + (length b + k) = omega arith in
    ap (λ (i : ℕ). get_or (a ++ (b ++ l)) i 0) m ∙ get_or-append-add a (b ++ l) (length b + k) 0 ∙ get_or-append-add b l k 0

abbrev end_told_by : WholeSaid → Option (ListEnd Span)
end_told_by (whole_is start end rows next) = end
end_told_by (broken f) = none
end_told_by (refused_alone n) = none

-- what the number of an answer can say
abbrev Sayable : WholeSaid → Type 0
Sayable (whole_is start end rows next) = Unit {0}
Sayable (broken f) = IsRefusal f.number
Sayable (refused_alone n) = IsRefusal n

start_heard : (x : WholeSaid) → Sayable x → heard_event (reader_no (start_said x)) (event_words (start_said x)) ≡ start_said x
start_heard (whole_is start end rows next) h = heard_is _ _ _ (said_words_back (event (start_event start)) tt (λ f e. absurd (never_failed e))) refl refl
start_heard (broken f) h = heard_is _ _ _ (said_words_back (failed f) tt (λ g e. subst (λ (y : Refusal). IsRefusal y.number) (ap (failed_or f) e) h)) refl refl
start_heard (refused_alone n) h = heard_is _ _ _ (said_words_back (alone n) h (λ f e. absurd (never_alone e))) refl refl

end_words_heard : (o : Option (ListEnd Span)) → end_heard (event_words (list_end_said o)) ≡ o
unfolding with_zeros
end_words_heard (some e) = ap end_among (end_back_heard e)
end_words_heard none = refl

end_heard_lem : (x : WholeSaid) → end_heard (event_words (end_said x)) ≡ end_told_by x
unfolding with_zeros
end_heard_lem (whole_is start end rows next) = end_words_heard end
end_heard_lem (broken f) = refl
end_heard_lem (refused_alone n) = refl

all_heard : (x : WholeSaid) → whole_heard (start_said x) (end_told_by x) (rows_said x) (next_said x) ≡ x
all_heard (whole_is start end rows next) = refl
all_heard (broken f) = refl
all_heard (refused_alone n) = refl

whole_heard_lem : (x : WholeSaid) → Sayable x
    → whole_heard (heard_event (reader_no (start_said x)) (take 24 (message_words x))) (end_heard (take 24 (drop 24 (message_words x)))) (word_at (message_words x) 48) (word_at (message_words x) 49) ≡ x
unfolding message_words
whole_heard_lem x h =
    let a : List ℕ = event_words (start_said x) in
    let b : List ℕ = event_words (end_said x) in
    let l : List ℕ = rows_said x ∷ next_said x ∷ [] in
    let p = event_words_length (start_said x) in
    let q = event_words_length (end_said x) in
    let first : take 24 (a ++ (b ++ l)) ≡ a = take_at a (b ++ l) 24 p in
    let second : take 24 (drop 24 (a ++ (b ++ l))) ≡ b = ap (take 24) (drop_at a (b ++ l) 24 p) ∙ take_at b l 24 q in
    ap (λ (w : List ℕ). whole_heard (heard_event (reader_no (start_said x)) w) (end_heard (take 24 (drop 24 (a ++ (b ++ l))))) (word_at (a ++ (b ++ l)) 48) (word_at (a ++ (b ++ l)) 49)) first
    ∙ ap (λ (y : Said). whole_heard y (end_heard (take 24 (drop 24 (a ++ (b ++ l))))) (word_at (a ++ (b ++ l)) 48) (word_at (a ++ (b ++ l)) 49)) (start_heard x h)
    ∙ ap (λ (w : List ℕ). whole_heard (start_said x) (end_heard w) (word_at (a ++ (b ++ l)) 48) (word_at (a ++ (b ++ l)) 49)) second
    ∙ ap (λ (o : Option (ListEnd Span)). whole_heard (start_said x) o (word_at (a ++ (b ++ l)) 48) (word_at (a ++ (b ++ l)) 49)) (end_heard_lem x)
    ∙ ap (λ (n : ℕ). whole_heard (start_said x) (end_told_by x) n (word_at (a ++ (b ++ l)) 49)) (behind_two a b l 0 p q)
    ∙ ap (λ (n : ℕ). whole_heard (start_said x) (end_told_by x) (rows_said x) n) (behind_two a b l 1 p q)
    ∙ all_heard x

-- ---- the call

sayable : (s : List ℕ) (at : ℕ) (t : List ℕ) (a : AfterWhole) → WholeOutcome s at t a → read_to s at t ≡ a → Sayable a.answer
sayable s at t a (too_long h) e = omega arith
sayable s at t a (place_beyond h k) e = omega arith
sayable s at t a (broken_at h f q) e = stands_refuses f _ (ours_good.refuses.stands s at t f h (ap (λ (b : AfterWhole). b.answer) e)).stands
sayable s at t a (table_full h w n q l) e = omega arith
sayable s at t a (taken_whole h w n q l) e = tt

whole_reads : (s : List ℕ) (at : ℕ) (t : List ℕ) → whole_reader_by our_library s at t ≡ read_to s at t
unfolding sgh_read_message
whole_reads s at t =
    let h = whole_heard_lem (read_to s at t).answer (sayable s at t (read_to s at t) (whole_outcome s at t) refl) in
    λ i. record { answer = h i; table = (read_to s at t).table }

whole_words : (s : List ℕ) (at : ℕ) (t : List ℕ) → lent_at (sgh_read_message s at t) 1 ≡ message_words (whole_reader_by our_library s at t).answer
unfolding sgh_read_message
whole_words s at t = ap (λ (a : AfterWhole). message_words a.answer) (sym (whole_reads s at t))

pub hears_whole : HearsWhole our_library
hears_whole = record { reads = whole_reads; words = whole_words }

-- ---- of every library that is heard so

pub good_by : (L : Library) → HearsWhole L → GoodWholeReader (whole_reader_by L)
good_by L h = let same : whole_reader_by L ≡ our_whole_reader = λ i s at t. h.reads s at t i in subst (λ (R : WholeReader). GoodWholeReader R) (sym same) ours_good

entry_said : (s : List ℕ) (p n : ℕ) (e : ListEntry Span) → SoundReader s p p 3 → entry_at s p ≡ got e n → (next_at s p p 3).answer ≡ event (entry_event e)
unfolding step_at entry_next onward
entry_said s p n e h q = rw (sound_next s p p 3 h, q)

pub entries_heard : (L : Library) → HearsReader L → (s : List ℕ) → length s ≤ limit → (rows : List EntryRow) (es : List (ListEntry Span)) → RowsAre s rows es → EntriesHeard L s rows es
unfolding says_at
entries_heard L h s short [] [] k = tt
entries_heard L h s short (r ∷ rows) (e ∷ es) k =
    let i = k.0 in
    let w = i.entry_within in
    let p : ℕ = r.entry.start in
    (h s (record { place = p; start = p; pending = 3 }) 0 ∙ entry_said s p (p + r.entry.len) e (record { short = short; inside_input = omega arith; begun = omega arith; few = omega arith }) i.entry_is, entries_heard L h s short rows es k.1)
entries_heard L h s short [] (e ∷ es) k = k
entries_heard L h s short (r ∷ rows) [] k = k

pub rows_heard : (L : Library) → HearsReader L → HearsWhole L → (s : List ℕ) (at : ℕ) (t : List ℕ) (start : MessageStart Span) (end : Option (ListEnd Span)) (rows next : ℕ) → Fair s at
    → (whole_reader_by L s at t).answer ≡ whole_is start end rows next → RowsHeard L s at next (rows_of rows (whole_reader_by L s at t).table)
rows_heard L h g s at t start end rows next f e =
    let r = (good_by L g).accepts.only_if s at t start end rows next f e in
    record { whole = r.whole; runs = r.runs; entries = entries_heard L h s f.short (rows_of rows (whole_reader_by L s at t).table) r.whole.content.entries r.rows_are }
