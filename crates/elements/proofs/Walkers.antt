-- Ours is a good walk; who keeps the claims answers as ours does, and so looks no further than ours, and ends with messages.
use mathlib.Core.Path.{◌≡◌, refl, sym, ap, ◌∙◌, subst}
use mathlib.Core.Bool.{Bool, true, false}
use mathlib.Core.List.{List, [], ◌++◌, append-nil}
use Prim.Native.Nat.{ℕ, suc, ◌+◌, ◌-◌, ◌≤◌, ◌<◌}
use native.Mathlib.Omega.{arith}
use lib.ListN.{length, take, drop, drop_of_length-le, length-append, length-drop, take-append-drop}
use lib.Seq.{length-take-le}
use lib.Dec.{leb}
use borrow.Author.Tests.{lt-ltb, le-ltb, leb-true, leb-false}
use Rattle.refusals.specs.Numbers.{input_too_long_no, unexpected_eof_no, too_deep_no, limit}
use Rattle.refusals.specs.Read.{Read, got, refused, Refusal, then, eof}
use Rattle.refusals.proofs.Read.{ok_at}
use Rattle.refusals.proofs.Codes.{place_behind}
use Rattle.refusals.proofs.Rest.{Rest, rest_place}
use Rattle.tlf.specs.Lengths.{tlf_at}
use Rattle.tlf.proofs.Ends.{tlf_end}
use Rattle.walk.specs.Walk.{deepest, too_deep, WalkSaid, walk_is, walk_broken, walk_refused, measured, walk_at}
use Rattle.walk.specs.Cut.{elements_at, element_at}
use Rattle.walk.proofs.Ties.{walk_is_lem}
use Rattle.walk.proofs.Counts.{CountsLeaves, element_ok}
use Rattle.places.specs.Stands.{Looked}
use Rattle.places.proofs.Seen.{Seen}
use Rattle.one_call.proofs.Runs.{run_found, goes_behind}
use Rattle.elements.specs.Grammar.{Elements, no_element, first_mark, first_leaf, first_list, UpTo, at_itself, inside_list}
use Rattle.elements.specs.Walkers.{Walker, our_walker, ElementStands, cut_head, cut_content, wrong_head, WrongElement, by_itself, sixteen_open, ElementBroken, GoodWalker, OnlyOurWalker, LooksTo, LooksNoFurther, NeverLooksFurther, AlwaysEndsWithMessages}
use Rattle.elements.proofs.Local.{part_from, part_length}
use Rattle.elements.proofs.Grammar.{elements_get}
use Rattle.elements.proofs.Items.{not_both, wrong_item, item_wrong}
use Rattle.elements.proofs.Sights.{head_some}
use Rattle.elements.proofs.Arrives.{arrived, lands, refused_there}
use Rattle.elements.proofs.Walked.{Adds, element_adds, leads_to, arrives}
use Rattle.elements.proofs.Looks.{JudgedTo, element_seen}
use Rattle.elements.proofs.Spans.{EndsHere}
use Rattle.elements.proofs.Messages.{message_walks}

-- ---- what ours says is what the element is read as

pub walk_short : (s : List ℕ) (at : ℕ) → length s ≤ limit → walk_at s at ≡ measured at (element_at deepest s at)
walk_short s at h = walk_is_lem s at ∙ rw (le-ltb limit (length s) h)

walk_long : (s : List ℕ) (at : ℕ) → limit < length s → walk_at s at ≡ walk_refused input_too_long_no
walk_long s at h = walk_is_lem s at ∙ rw (lt-ltb limit (length s) h)

-- of each answer its kind, and what it holds
abbrev pub walk_kind : WalkSaid → ℕ
walk_kind (walk_is bytes leaves) = 0
walk_kind (walk_broken f) = 1
walk_kind (walk_refused n) = 2

abbrev bytes_said : WalkSaid → ℕ
bytes_said (walk_is bytes leaves) = bytes
bytes_said (walk_broken f) = 0
bytes_said (walk_refused n) = 0

abbrev leaves_said : WalkSaid → ℕ
leaves_said (walk_is bytes leaves) = leaves
leaves_said (walk_broken f) = 0
leaves_said (walk_refused n) = 0

abbrev broken_said : Refusal → WalkSaid → Refusal
broken_said d (walk_is bytes leaves) = d
broken_said d (walk_broken f) = f
broken_said d (walk_refused n) = d

record MeasuredAs (r : Read ℕ) (at bytes leaves : ℕ) : Type 0 where
  next : ℕ
  is : r ≡ got leaves next
  size : next - at ≡ bytes

read_as : (r : Read ℕ) (at bytes leaves : ℕ) → measured at r ≡ walk_is bytes leaves → MeasuredAs r at bytes leaves
read_as (got l n) at bytes leaves e = let q : l ≡ leaves = ap leaves_said e in record { next = n; is = rw q; size = ap bytes_said e }
read_as (refused f) at bytes leaves e = let z : ◌≡◌ {A = ℕ} 1 0 = ap walk_kind e in absurd (omega (arith, z))

read_broken : (r : Read ℕ) (at : ℕ) (f : Refusal) → measured at r ≡ walk_broken f → r ≡ refused f
read_broken (got l n) at f e = let z : ◌≡◌ {A = ℕ} 0 1 = ap walk_kind e in absurd (omega (arith, z))
read_broken (refused g) at f e = ap (λ (x : Refusal). refused x) (ap (broken_said g) e)

pub never_by_number : (r : Read ℕ) (at n : ℕ) → measured at r ≡ walk_refused n → ⊥
never_by_number (got l m) at n e = let z : ◌≡◌ {A = ℕ} 0 2 = ap walk_kind e in omega (arith, z)
never_by_number (refused f) at n e = let z : ◌≡◌ {A = ℕ} 1 2 = ap walk_kind e in omega (arith, z)

-- ---- elements that are whole

rest_of_lem : (s : List ℕ) (at : ℕ) (l : List ℕ) → at ≤ length s → drop at s ≡ l → Rest s at l
rest_of_lem s at l h e = record { inside = h; bytes = e }

one_read : (r : Read ℕ) (v n leaves m : ℕ) → (then r λ a i. got (0 + a) i) ≡ got v n → v ≡ leaves → n ≡ m → r ≡ got leaves m
unfolding then
one_read (got a i) v n leaves m e p q =
    let x : 0 + a ≡ v = cc in
    let y : i ≡ n = cc in
    let z : a ≡ leaves = omega arith in
    rw (z, y, q)
one_read (refused f) v n leaves m e p q = absurd (not_both {a = v} {n = n} e refl)

-- an element has a byte
some_bytes : {d k leaves : ℕ} {b : List ℕ} → Elements d (suc k) b leaves → 0 < length b
some_bytes (first_mark w) = omega arith
some_bytes (first_leaf {more = more} t head content h f n w) = omega (arith, head_some t head h, length-append head (content ++ more))
some_bytes (first_list {more = more} t head content h f v w) = omega (arith, head_some t head h, length-append head (content ++ more))

-- so none stands beyond the input, where nothing does
none_beyond : (s : List ℕ) (at : ℕ) (b rest : List ℕ) → drop at s ≡ b ++ rest → 0 < length b → at ≤ length s
none_beyond s at b rest e h = omega (arith, length-drop at s, ap length e, length-append b rest)

stands_walks : (s : List ℕ) (at bytes leaves : ℕ) → length s ≤ limit → ElementStands s at bytes leaves → walk_at s at ≡ walk_is bytes leaves
unfolding elements_at
stands_walks s at bytes leaves h w =
    let r = rest_of_lem s at (w.element ++ w.rest) (none_beyond s at w.element w.rest w.there (some_bytes w.is)) w.there in
    let g = elements_get w.is s at w.rest 0 r in
    let e : element_at deepest s at ≡ got leaves (at + length w.element) =
    one_read (element_at deepest s at) g.value g.next leaves (at + length w.element) g.is (omega (arith, g.has)) (rest_place w.element r g.left) in
    let z : at + length w.element - at ≡ bytes = omega (arith, w.size) in
    walk_short s at h ∙ rw (e, z)

walks_stand : (s : List ℕ) (at bytes leaves : ℕ) → length s ≤ limit → walk_at s at ≡ walk_is bytes leaves → ElementStands s at bytes leaves
walks_stand s at bytes leaves h e =
    let r = read_as (element_at deepest s at) at bytes leaves (sym (walk_short s at h) ∙ e) in
    let n = r.next in
    let c : CountsLeaves s at leaves n = ok_at (sym r.is) (element_ok deepest s at) in
    let a : Adds deepest s at leaves n = ok_at (sym r.is) (element_adds deepest s at) in
    let z : leaves + 0 ≡ leaves = omega arith in
    record {
      element = part_from s at n;
      rest = drop (n - at) (drop at s);
      there = sym (take-append-drop (n - at) (drop at s));
      size = part_length s at n c.within ∙ r.size;
      is = rw (append-nil (part_from s at n), z) at (a.adds 0 0 [] no_element);
    }

-- ---- elements that are not

-- only the element itself begins before any byte
up_to_none : {e d : ℕ} {b : List ℕ} → UpTo e d b → length b ≡ 0 → e ≡ d
up_to_none at_itself z = refl
up_to_none (inside_list {b = b} t head content h f few w u) z = absurd (omega (arith, head_some t head h, length-append head (content ++ b)))

broken_within : (s : List ℕ) (at : ℕ) (f : Refusal) → at ≤ length s → ElementBroken s at f → element_at deepest s at ≡ refused f
broken_within s at f h b =
    let g = b.begins in
    let a = arrives g.up_to s at g.rest (rest_of_lem s at (g.before ++ g.rest) h g.there) b.p g.place in
    refused_there a f (item_wrong s b.d b.p f b.judged_to b.wrong)

broken_beyond : (s : List ℕ) (at : ℕ) (f : Refusal) → length s < at → ElementBroken s at f → element_at deepest s at ≡ refused f
broken_beyond s at f h b =
    let g = b.begins in
    let z : length g.before ≡ 0 = omega (arith, h, length-drop at s, ap length g.there, length-append g.before g.rest) in
    let d : b.d ≡ deepest = up_to_none g.up_to z in
    let p : b.p ≡ at = omega (arith, g.place, z) in
    refused_there {e = deepest} {q = at} arrived f (item_wrong s deepest at f b.judged_to (rw (d, p) at b.wrong))

broken_refused : (s : List ℕ) (at : ℕ) (f : Refusal) → length s ≤ limit → ElementBroken s at f → walk_at s at ≡ walk_broken f
broken_refused s at f h b = by (leb at (length s)) refl
  where
    by : (c : Bool) → leb at (length s) ≡ c → walk_at s at ≡ walk_broken f
    by true k = walk_short s at h ∙ rw (broken_within s at f (leb-true at (length s) k) b)
    by false k = walk_short s at h ∙ rw (broken_beyond s at f (leb-false at (length s) k) b)

refused_within : (s : List ℕ) (at : ℕ) (f : Refusal) → at ≤ length s → element_at deepest s at ≡ refused f → ElementBroken s at f
refused_within s at f h r =
    let l = lands deepest s at f r in
    let t = leads_to l.arrives h in
    let w = wrong_item s l.e l.q f l.wrong in
    record {
      d = l.e;
      p = l.q;
      judged_to = w.judged;
      begins = record {
        before = part_from s at l.q;
        rest = drop (l.q - at) (drop at s);
        there = sym (take-append-drop (l.q - at) (drop at s));
        place = omega (arith, part_length s at l.q t.high, t.low);
        up_to = t.up_to;
      };
      wrong = w.wrong;
    }

-- a place beyond the input: the element itself is cut
beyond_cut : (s : List ℕ) (at : ℕ) → length s < at → ElementBroken s at (eof (length s))
beyond_cut s at h =
    record {
      d = deepest;
      p = at;
      judged_to = length s + 1;
      begins = record { before = []; rest = []; there = drop_of_length-le s {i = at} (omega (arith, h)); place = omega arith; up_to = at_itself };
      wrong = by_itself _ _ (cut_head (tlf_end s at (omega arith)));
    }

refused_broken : (s : List ℕ) (at : ℕ) (f : Refusal) → length s ≤ limit → walk_at s at ≡ walk_broken f → ElementBroken s at f
refused_broken s at f h e = by (leb at (length s)) refl
  where
    r : element_at deepest s at ≡ refused f
    r = read_broken (element_at deepest s at) at f (sym (walk_short s at h) ∙ e)

    by : (c : Bool) → leb at (length s) ≡ c → ElementBroken s at f
    by true k = refused_within s at f (leb-true at (length s) k) r
    by false k =
        let b = beyond_cut s at (leb-false at (length s) k) in
        let same : eof (length s) ≡ f = ap (broken_said f) (sym (broken_refused s at (eof (length s)) h b) ∙ e) in
        subst (λ (g : Refusal). ElementBroken s at g) same b

pub our_walker_lem : GoodWalker our_walker
our_walker_lem =
    record {
      measures = record { if = stands_walks; only_if = walks_stand };
      refuses = record { if = broken_refused; only_if = refused_broken };
      nine = walk_long;
    }

-- ---- who keeps the claims

pub only_our_walker : OnlyOurWalker
only_our_walker W g s at = by (leb (length s) limit) refl
  where
    fair : length s ≤ limit → (x : WalkSaid) → walk_at s at ≡ x → W s at ≡ walk_at s at
    fair h (walk_is bytes leaves) e = g.measures.if s at bytes leaves h (walks_stand s at bytes leaves h e) ∙ sym e
    fair h (walk_broken f) e = g.refuses.if s at f h (refused_broken s at f h e) ∙ sym e
    fair h (walk_refused n) e = absurd (never_by_number (element_at deepest s at) at n (sym (walk_short s at h) ∙ e))

    by : (b : Bool) → leb (length s) limit ≡ b → W s at ≡ walk_at s at
    by true e = fair (leb-true (length s) limit e) (walk_at s at) refl
    by false e = let p = leb-false (length s) limit e in g.nine s at p ∙ sym (walk_long s at p)

-- ---- how far it looks

-- of 10 and 19 what was judged is told by the refusal alone
ten_to : {s : List ℕ} {d p q : ℕ} {f : Refusal} → WrongElement s d p f q → f.number ≡ unexpected_eof_no → q ≡ length s + 1
ten_to (by_itself f q (cut_head e)) z = refl
ten_to (by_itself f q (cut_content t n e l k)) z = refl
ten_to (by_itself f q (wrong_head kind k e n)) z = absurd (omega (arith, z))
ten_to (sixteen_open t n o e l) z = absurd (omega (arith, z))

deep_to : {s : List ℕ} {d p q : ℕ} {f : Refusal} → WrongElement s d p f q → f.number ≡ too_deep_no → q ≡ place_behind (tlf_at s f.place)
deep_to (by_itself f q (cut_head e)) z = absurd (omega (arith, z))
deep_to (by_itself f q (cut_content t n e l k)) z = absurd (omega (arith, z))
deep_to (by_itself f q (wrong_head kind k e n)) z = absurd (omega (arith, z))
deep_to (sixteen_open t n o e l) z = rw e

-- so an element that is wrong at one place was judged as far as the same refusal at another
rejudged : {s : List ℕ} {d p c o i q : ℕ} {f : Refusal} → WrongElement s d p f i → WrongElement s c o f q → WrongElement s d p f q
rejudged {s} {d} {p} (by_itself f i (cut_head e)) w = let z = ten_to w refl in subst (λ (x : ℕ). WrongElement s d p (eof (length s)) x) (sym z) (by_itself _ _ (cut_head e))
rejudged {s} {d} {p} (by_itself f i (cut_content t n e l k)) w = let z = ten_to w refl in subst (λ (x : ℕ). WrongElement s d p (eof (length s)) x) (sym z) (by_itself _ _ (cut_content t n e l k))
rejudged {q = q} (by_itself f i (wrong_head kind j e n)) w = by_itself _ _ (wrong_head kind q e n)
rejudged {s} {d} {p} (sixteen_open t n y e l) w =
    let z = deep_to w refl ∙ sym (deep_to {d = d} {p = p} (sixteen_open t n y e l) refl) in
    subst (λ (x : ℕ). WrongElement s d p (too_deep p) x) (sym z) (sixteen_open t n y e l)

looks : (s : List ℕ) (at q : ℕ) → length s ≤ limit → Looked (λ t. element_at deepest t at) s at q → LooksTo our_walker s at q
looks s at q h w =
    record {
      cut = λ m i j k. walk_short (take m s) at (omega (arith, length-take-le m s k)) ∙ rw (w.cut m i j k);
      alike = λ t k e. walk_short t at k ∙ ap (λ (r : Read ℕ). measured at r) (w.alike t e) ∙ sym (walk_short s at h);
    }

seen_as_lem : (s : List ℕ) (at : ℕ) → at ≤ length s → (r : Read ℕ) → element_at deepest s at ≡ r → Seen (JudgedTo s at) (λ t. element_at deepest t at) s at r
seen_as_lem s at h r e = subst (λ (x : Read ℕ). Seen (JudgedTo s at) (λ t. element_at deepest t at) s at x) e (element_seen deepest s at h)

our_looks : LooksNoFurther our_walker
our_looks =
    record {
      found = λ s at bytes leaves h e.
          let r = read_as (element_at deepest s at) at bytes leaves (sym (walk_short s at h.short) ∙ e) in
          let c : CountsLeaves s at leaves r.next = ok_at (sym r.is) (element_ok deepest s at) in
          let v = (seen_as_lem s at h.inside (got leaves r.next) r.is).seen in
          let z : r.next ≡ at + bytes = omega (arith, r.size, c.ahead) in
          record {
            some_byte = omega (arith, c.ahead, r.size);
            within = omega (arith, c.within, z);
            fewer = omega (arith, c.leaves, r.size);
            looks = subst (λ (q : ℕ). LooksTo our_walker s at q) z (looks s at r.next h.short v.looked);
          };
      broke = λ s at f h e.
          let r = read_broken (element_at deepest s at) at f (sym (walk_short s at h.short) ∙ e) in
          let v = (seen_as_lem s at h.inside (refused f) r).seen in
          let j = v.what in
          let b = refused_broken s at f h.short e in
          record {
            broken = record { d = b.d; p = b.p; judged_to = v.behind; begins = b.begins; wrong = rejudged b.wrong j.wrong };
            looks = looks s at v.behind h.short v.looked;
            begun = j.begun;
            before = j.before;
          };
    }

looks_same : (W : Walker) → ((s : List ℕ) (at : ℕ) → W s at ≡ our_walker s at) → (s : List ℕ) (at q : ℕ) → LooksTo our_walker s at q → LooksTo W s at q
looks_same W g s at q w = record { cut = λ m i j k. g (take m s) at ∙ w.cut m i j k; alike = λ t k e. g t at ∙ w.alike t k e ∙ sym (g s at) }

pub never_looks_further : NeverLooksFurther
never_looks_further W good =
    let g = only_our_walker W good in
    record {
      found = λ s at bytes leaves h e.
          let m = our_looks.found s at bytes leaves h (sym (g s at) ∙ e) in
          record { some_byte = m.some_byte; within = m.within; fewer = m.fewer; looks = looks_same W g s at (at + bytes) m.looks };
      broke = λ s at f h e.
          let b = our_looks.broke s at f h (sym (g s at) ∙ e) in
          record { broken = b.broken; looks = looks_same W g s at b.broken.judged_to b.looks; begun = b.begun; before = b.before };
    }

-- ---- the event reader

pub always_ends_with_messages : AlwaysEndsWithMessages
always_ends_with_messages W good s at next m h r =
    let w : EndsHere deepest s at next = ok_at (sym (run_found s at next m h r)) (message_walks 9 s at) in
    let c : CountsLeaves s at w.leaves next = ok_at (sym w.walks) (element_ok deepest s at) in
    record {
      leaves = w.leaves;
      ahead = c.ahead;
      is = only_our_walker W good s at ∙ walk_short s at h.short ∙ rw w.walks;
      goes_on_claim = goes_behind s at m next h c.ahead r.within (run_found s at next m h r);
    }
