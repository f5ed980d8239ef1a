-- Every push is one of the cases of specs/Saw.antt, so a proof about every push goes by clauses over `Saw`.
use mathlib.Core.Path.{◌≡◌, refl, sym, ◌∙◌}
use mathlib.Core.Bool.{Bool, true, false≢true}
use mathlib.Core.List.{List, [], ◌∷◌, ◌++◌}
use Prim.Native.Nat.{ℕ, suc, ◌%◌, ◌≤◌}
use native.Mathlib.Omega.{arith}
use lib.ListN.{length, replicate, take, get_or}
use borrow.Author.Tests.{leb-true, eq-eqb, le-leb}
use Rattle.frame.specs.Frame.{missing, esc_seq, restart_seq, same}
use Rattle.frame.proofs.Cases.{by_test, by_eq, by_le, by_lt}
use Rattle.frame.proofs.Same.{same_true, same_false}
use Rattle.decoder.specs.Push.{Setup, Mem, State, search, body, escape, done, searching, store, matched_behind, early, sound?, computed, pad_of, crc_read, judge, finish, step}
use Rattle.decoder.specs.Saw.{Passed, Judged, is_data, restarts, good, bad, shifts, unknown, Saw, sought, began, again, waits, opens, stores, full, collects, judges, full'}

pub passed : (m : Mem) (p read : ℕ) → sound? m p read ≡ true → Passed m p read
passed m p read =
    by_eq (λ (t : Bool). t ≡ true → Passed m p read) read (computed m) _ _ (λ e₁.
    by_eq (λ (t : Bool). t ≡ true → Passed m p read) (length m.stored % 4) 0 _ _ (λ e₂.
    by_le (λ (t : Bool). t ≡ true → Passed m p read) p 3 _ _ (λ e₃ t. (e₁, e₂, e₃, leb-true _ _ t))
    (λ n t. absurd (false≢true t))) (λ n t. absurd (false≢true t))) (λ n t. absurd (false≢true t))

pub passes : (m : Mem) (p read : ℕ) → Passed m p read → sound? m p read ≡ true
passes m p read h = rw (eq-eqb _ _ h.0, eq-eqb _ _ h.1, le-leb _ _ h.2, le-leb _ _ h.3)

saw_finished : (m : Mem) (four : List ℕ) → get_or four 0 0 ≡ 0x1a → Judged m four (finish m (pad_of four) (crc_read four))
unfolding finish
saw_finished m four e =
    by_test (Judged m four) (sound? m (pad_of four) (crc_read four)) _ _
    (λ t. good e (passed m _ _ t)) (λ f. bad e (λ h. false≢true (sym f ∙ passes m _ _ h)))

early_is : (a : ℕ) (four : List ℕ) → early a four ≡ true → (1 ≤ a) × (take (suc a) four ≡ replicate a 0x1b ++ 0x1a ∷ [])
early_is a four =
    by_eq (λ (t : Bool). t ≡ true → (1 ≤ a) × (take (suc a) four ≡ replicate a 0x1b ++ 0x1a ∷ [])) a 0 _ _
    (λ e t. absurd (false≢true t)) (λ ne t. (omega arith, same_true _ _ t))

pub judged : (m : Mem) (four : List ℕ) → Judged m four (judge m four)
unfolding judge
judged m four =
    by_test (Judged m four) (same four esc_seq) _ _ (λ t. is_data (same_true four esc_seq t)) (λ f₁.
    by_test (Judged m four) (same four restart_seq) _ _ (λ t. restarts (same_true four restart_seq t)) (λ f₂.
    by_eq (Judged m four) (get_or four 0 0) 0x1a _ _ (λ e. saw_finished m four e) (λ f₃.
    by_test (Judged m four) (early (missing (length m.stored)) four) _ _
    (λ t. let e = early_is (missing (length m.stored)) four t in shifts (missing (length m.stored)) refl e.0 (omega arith) e.1)
    (λ f₄. unknown (same_false four esc_seq f₁) (same_false four restart_seq f₂) f₃ f₄))))

searched : (C : Setup) (n noise raw b : ℕ) → Saw C (search n noise raw) b (searching C.way n noise raw b)
unfolding searching
searched C n noise raw b =
    by_eq (Saw C (search n noise raw) b) (matched_behind C.way n b) 8 _ _ began (sought (matched_behind C.way n b) refl)

pub saw : (C : Setup) (s : State) (b : ℕ) → Saw C s b (step C s b)
unfolding step store
saw C (search n noise raw) b = searched C n noise raw b
saw C (done P) b = again (searched C 0 0 0 b)
saw C (body n m) b =
    by_eq (Saw C (body n m) b) b 0x1b _ _ (λ e. by_eq (Saw C (body n m) b) n 3 _ _ (opens e) (waits e))
    (λ ne. by_le (Saw C (body n m) b) _ C.capacity _ _ (stores ne) (full ne))
saw C (escape k m) b =
    by_le (Saw C (escape k m) b) _ C.capacity _ _ (λ fit. by_lt (Saw C (escape k m) b) k 3 _ _ (collects fit) (λ ge. judges fit ge (judged _ _))) full'
