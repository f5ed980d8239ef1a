-- The event reader on a written message: its events, and then as behind it.
use mathlib.Core.Path.{◌≡◌, refl, sym, ap, ◌∙◌}
use mathlib.Core.List.{List, [], ◌∷◌, ◌++◌, map, append_assoc}
use mathlib.Core.Option.{Option, some, none}
use Prim.Native.Nat.{ℕ, zero, suc, ◌+◌, ◌≤◌}
use native.Mathlib.Omega.{arith}
use lib.ListN.{length, length-append}
use Rattle.refusals.specs.Read.{Read, got}
use Rattle.refusals.specs.declared.Span.{Span}
use Rattle.refusals.proofs.Read.{Ok, ok_at, ok_got, ok_then, Ahead}
use Rattle.refusals.proofs.Found.{ok_many}
use Rattle.refusals.proofs.Rest.{Rest, rest_length, rest_place, rest_skip, rest_at}
use Rattle.common.specs.Fields.{ListEntry, entry_at}
use Rattle.common.proofs.Fields.{entry_found}
use Rattle.message.specs.Messages.{ListEnd, Body, open_body, close_body, list_body}
use Rattle.message.proofs.Messages.{list_end_found, start_found_lem}
use Rattle.trailer.proofs.Trailer.{trailer_found}
use Rattle.streaming.specs.Next.{MessageEvent, start_event, entry_event, Said}
use Rattle.events.specs.Message.{Message, content_of, message_at}
use Rattle.streaming.specs.Meaning.{each, entry_means, list_end_means, start_means, meaning}
use Rattle.events.specs.Events.{Answers, nth, answer, says_first, messages_from}
use Rattle.events.specs.Telling.{says_all, entry_events, end_events, message_events, Tells}
use Rattle.events.proofs.Calls.{messages_give}
use Rattle.events.proofs.Whole.{message_tells}
use Rattle.written.specs.Messages.{write_message, message_means}
use Rattle.written.specs.Fits.{MessageFits}
use Rattle.written.specs.Round.{entries_told, end_told, message_told, first_then, ToldTo, write_messages, messages_told, MessagesFit}
use Rattle.written.proofs.Round.{written_message}

end_told_lem : (s : List ℕ) (x : Option (ListEnd Span)) → map (meaning s) (end_events x) ≡ end_told (each (list_end_means s) x)
unfolding meaning
end_told_lem s (some e) = refl
end_told_lem s none = refl

entries_told_lem : (s : List ℕ) (xs : List (ListEntry Span)) (es : List (MessageEvent Span)) (ts : List (MessageEvent (List ℕ))) → map (meaning s) es ≡ ts
    → map (meaning s) (entry_events xs es) ≡ entries_told (map (entry_means s) xs) ts
unfolding entry_events entries_told meaning
entries_told_lem s [] es ts h = h
entries_told_lem s (x ∷ xs) es ts h = ap (λ (r : List (MessageEvent (List ℕ))). entry_event (entry_means s x) ∷ r) (entries_told_lem s xs es ts h)

-- the meanings of a message's events are the events of its meaning
pub message_told_lem : (s : List ℕ) (x : Message Span) → map (meaning s) (message_events x) ≡ message_told (message_means s x)
unfolding message_events message_told meaning
message_told_lem s x =
    ap (λ (r : List (MessageEvent (List ℕ))). start_event (start_means s x.start) ∷ r)
    (entries_told_lem s x.content.entries (end_events x.content.end) (end_told (each (list_end_means s) x.content.end)) (end_told_lem s x.content.end))

first_then_lem : (es : List (MessageEvent Span)) (a : Answers) (f : ℕ → Said) → ((j : ℕ) → f j ≡ answer a j) → (k : ℕ) → answer (says_all es a) k ≡ first_then es f k
unfolding answer nth says_all says_first first_then
first_then_lem [] a f h k = sym (h k)
first_then_lem (e ∷ es) a f h zero = refl
first_then_lem (e ∷ es) a f h (suc k) = first_then_lem es a f h k

told_by : {r : Read (Message Span)} {x : Message Span} {n : ℕ} {a : Answers} {k : ℕ → Answers} → r ≡ got x n → Tells message_events r a k → a ≡ says_all (message_events x) (k n)
told_by e h = let q = rw e at h in q.tells

content_on : (y : Body Span) (s : List ℕ) (at : ℕ) → at ≤ length s → Ok (λ c n. at ≤ n) (content_of y s at)
unfolding content_of
content_on (open_body x) s at p = ok_got _ _ (omega arith)
content_on (close_body x) s at p = ok_got _ _ (omega arith)
content_on (list_body x) s at p =
    ok_then _ _ (ok_many s (entry_at s) (entry_found s) x.num_vals at p) (λ es n q.
    ok_then _ _ (list_end_found s n) (λ e m h. ok_got _ _ (omega (arith, q.ahead, h.1.ahead))))

-- a message ends behind the place where it begins, and within the input
pub message_ahead : (s : List ℕ) (at : ℕ) → Ok (λ x n. Ahead s at n) (message_at s at)
unfolding message_at
message_ahead s at =
    ok_then _ _ (start_found_lem s at) (λ start n₁ h₁.
    ok_then _ _ (content_on start.message_body s n₁ h₁.1.within) (λ content n₂ q.
    ok_then _ _ (trailer_found s at n₂) (λ trailer n₃ h₃.
    ok_got _ _ (record { ahead = omega (arith, h₁.1.ahead, q, h₃.1.ahead); within = h₃.1.within }))))

-- where a message is found, the event reader gives its events, and goes on behind it
pub found_told : (s : List ℕ) (p n : ℕ) (x : Message Span) → message_at s p ≡ got x n → length s ≤ 1048576 → ToldTo s p n (message_told (message_means s x))
found_told s p n x e h =
    let a = ok_at (sym e) (message_ahead s p) in
    let t = told_by e (message_tells (length s) s p (omega (arith, a.ahead, a.within))) in
    record {
      events = message_events x;
      mean = message_told_lem s x;
      calls = λ start other low low' k.
          let before = messages_give (suc (length s)) {s = s} p start (record { short = h; inside_input = omega (arith, a.ahead, a.within); begun = low; few = omega arith }) (omega arith) in
          let behind = messages_give (length s) {s = s} n other (record { short = h; inside_input = a.within; begun = low'; few = omega arith }) (omega (arith, a.ahead, a.within)) in
          before.gives k ∙ ap (λ (a : Answers). answer a k) t ∙ first_then_lem (message_events x) (messages_from (length s) s n) _ behind.gives k;
    }

-- the same of a message of this meaning
pub means_told : (s : List ℕ) (p n : ℕ) (x : Message Span) (m : Message (List ℕ)) → message_at s p ≡ got x n → message_means s x ≡ m → length s ≤ 1048576 → ToldTo s p n (message_told m)
means_told s p n x m e q h = rw q at (found_told s p n x e h)

-- by what is left of the input
told_from_lem : (m : Message (List ℕ)) {s : List ℕ} {p : ℕ} (l : List ℕ) → MessageFits m → length s ≤ 1048576 → Rest s p (write_message m ++ l) → ToldTo s p (p + length (write_message m)) (message_told m)
told_from_lem m {s} {p} l f h r =
    let w = write_message m in
    let whole : length s ≡ p + (length w + length l) = omega (arith, rest_length r, length-append w l) in
    let q = written_message m f (record { short = omega (arith, h, whole) }) in
    let g = q.reads l r in
    means_told s p (p + length w) g.value m (rw (rest_place w r g.left) at g.is) g.has h

-- the event reader gives a written message's events, and goes on behind it
pub events_back : (m : Message (List ℕ)) (pre l : List ℕ) → MessageFits m → length (pre ++ (write_message m ++ l)) ≤ 1048576
    → ToldTo (pre ++ (write_message m ++ l)) (length pre) (length pre + length (write_message m)) (message_told m)
events_back m pre l f h = told_from_lem m l f h (rest_at pre (write_message m ++ l))

same_then_lem : (es : List (MessageEvent Span)) (f g : ℕ → Said) → ((j : ℕ) → f j ≡ g j) → (k : ℕ) → first_then es f k ≡ first_then es g k
unfolding first_then
same_then_lem [] f g h k = h k
same_then_lem (e ∷ es) f g h zero = refl
same_then_lem (e ∷ es) f g h (suc k) = same_then_lem es f g h k

both_then : (es ds : List (MessageEvent Span)) (f : ℕ → Said) (k : ℕ) → first_then es (first_then ds f) k ≡ first_then (es ++ ds) f k
unfolding first_then
both_then [] ds f k = refl
both_then (e ∷ es) ds f zero = refl
both_then (e ∷ es) ds f (suc k) = both_then es ds f k

map_both : (s : List ℕ) (es ds : List (MessageEvent Span)) → map (meaning s) (es ++ ds) ≡ map (meaning s) es ++ map (meaning s) ds
map_both s [] ds = refl
map_both s (e ∷ es) ds = ap (λ (r : List (MessageEvent (List ℕ))). meaning s e ∷ r) (map_both s es ds)

told_both : {s : List ℕ} {p n q : ℕ} {t u : List (MessageEvent (List ℕ))} → ToldTo s p n t → ToldTo s n q u → ToldTo s p q (t ++ u)
told_both {s} {p} {n} {q} {t} {u} a b =
    record {
      events = a.events ++ b.events;
      mean = map_both s a.events b.events ∙ rw (a.mean, b.mean);
      calls = λ start other low low' k.
          a.calls start 0 low (omega arith) k
          ∙ same_then_lem a.events _ _ (λ j. b.calls 0 other (omega arith) low' j) k
          ∙ both_then a.events b.events _ k;
    }

told_none : (s : List ℕ) (p : ℕ) → length s ≤ 1048576 → p ≤ length s → ToldTo s p (p + 0) []
unfolding first_then
told_none s p h i =
    record {
      events = [];
      mean = refl;
      calls = λ start other low low' k.
          let e : p + 0 ≡ p = omega arith in
          let a = messages_give (suc (length s)) {s = s} p start (record { short = h; inside_input = i; begun = low; few = omega arith }) (omega arith) in
          let b = messages_give (suc (length s)) {s = s} p other (record { short = h; inside_input = i; begun = omega (arith, low'); few = omega arith }) (omega arith) in
          rw e (a.gives k ∙ sym (b.gives k));
    }

back_from : (ms : List (Message (List ℕ))) {s : List ℕ} {p : ℕ} (l : List ℕ) → MessagesFit ms → length s ≤ 1048576 → Rest s p (write_messages ms ++ l)
    → ToldTo s p (p + length (write_messages ms)) (messages_told ms)
unfolding write_messages messages_told
back_from [] {s} {p} l f h r = told_none s p h r.inside
back_from (m ∷ ms) {s} {p} l f h r =
    let w = write_message m in
    let k : Rest s p (w ++ (write_messages ms ++ l)) = rw append_assoc at r in
    let e : p + length (w ++ write_messages ms) ≡ p + length w + length (write_messages ms) = omega (arith, length-append w (write_messages ms)) in
    rw e (told_both (told_from_lem m (write_messages ms ++ l) f.0 h k) (back_from ms l f.1 h (rest_skip w k)))

-- messages written one behind the other are read one behind the other
pub back_to_back : (ms : List (Message (List ℕ))) (pre l : List ℕ) → MessagesFit ms → length (pre ++ (write_messages ms ++ l)) ≤ 1048576
    → ToldTo (pre ++ (write_messages ms ++ l)) (length pre) (length pre + length (write_messages ms)) (messages_told ms)
back_to_back ms pre l f h = back_from ms l f h (rest_at pre (write_messages ms ++ l))
