-- claim: what every walk over any content must do. It measures exactly the elements of the grammar, and refuses exactly where one is broken off or wrong; what follows an element is not looked at; and where the event reader accepts a message, the walk over it ends at the same place.
use Rattle.std.specs.Prelude.{ℕ, zero, ◌+◌, ◌-◌, ◌≤◌, ◌<◌, ◌≡◌, true, false, List, ◌++◌, length, get_or, take, drop}
use Rattle.refusals.specs.Numbers.{input_too_long_no, limit}
use Rattle.refusals.specs.Read.{got, refused, Refusal, eof, invalid_tlf}
use Rattle.refusals.specs.declared.Span.{Span}
use Rattle.tlf.specs.Lengths.{tlf_at, is_list}
use Rattle.tlf.specs.declared.TypeLengthField.{TypeLengthField}
use Rattle.walk.specs.Walk.{deepest, too_deep, WalkSaid, walk_is, walk_broken, walk_refused, walk_at}
use Rattle.events.specs.Message.{Message}
use Rattle.places.specs.Stands.{SameBefore}
use Rattle.whole.specs.Whole.{Fair}
use Rattle.events.specs.Telling.{message_events}
use Rattle.one_call.specs.Readers.{call_at, RunsTo}
use Rattle.elements.specs.Grammar.{WholeElement, UpTo}

-- of an input and a place: what a call says
abbrev pub Walker : Type 0
Walker = List ℕ → ℕ → WalkSaid

-- by the definition that the contract of walk cites
abbrev pub our_walker : Walker
our_walker = walk_at

-- ---- elements that are whole

-- from `at` on the input begins with an element of so many bytes and leaves
pub record ElementStands (s : List ℕ) (at bytes leaves : ℕ) : Type 0 where
  pub element : List ℕ
  pub rest : List ℕ
  pub there : drop at s ≡ element ++ rest
  pub size : length element ≡ bytes
  pub is : WholeElement element leaves

-- measured exactly if an element stands there
pub record MeasuresExactly (W : Walker) : Type 0 where
  pub if : (s : List ℕ) (at bytes leaves : ℕ) → length s ≤ limit → ElementStands s at bytes leaves → W s at ≡ walk_is bytes leaves
  pub only_if : (s : List ℕ) (at bytes leaves : ℕ) → length s ≤ limit → W s at ≡ walk_is bytes leaves → ElementStands s at bytes leaves

-- ---- elements that are not

-- in the element at `at` one begins at p, in which lists may open d deep: p is `at` itself, or lies behind whole elements of an open list
pub record ElementBegins (s : List ℕ) (at d p : ℕ) : Type 0 where
  pub before : List ℕ
  pub rest : List ℕ
  pub there : drop at s ≡ before ++ rest
  pub place : p ≡ at + length before
  pub up_to : UpTo d deepest before

-- what is wrong with what begins at p, by itself; the last index is the place behind what was judged, which of 11 `LooksTo` fixes
pub data WrongItem (s : List ℕ) (p : ℕ) : Refusal → ℕ → Type 0 where
  -- 10, at the input's length: it ends before the length bytes do, or before the content of a leaf does
  cut_head : tlf_at s p ≡ refused (eof (length s)) → WrongItem s p (eof (length s)) (length s + 1)
  cut_content : (t : TypeLengthField) (n : ℕ) → tlf_at s p ≡ got t n → is_list t.ty ≡ false → length s < n + t.len → WrongItem s p (eof (length s)) (length s + 1)
  -- 11: its length bytes are wrong, and it is no end mark
  wrong_head : (kind q : ℕ) → tlf_at s p ≡ refused (invalid_tlf kind p) → (get_or s p 0 ≡ 0x00 → ⊥) → WrongItem s p (invalid_tlf kind p) q

-- what is wrong with the element that begins at p, if lists may open d deep in it
pub data WrongElement (s : List ℕ) (d p : ℕ) : Refusal → ℕ → Type 0 where
  by_itself : (f : Refusal) (q : ℕ) → WrongItem s p f q → WrongElement s d p f q
  -- 19: it is a list, and sixteen are open; judged are its length bytes
  sixteen_open : (t : TypeLengthField) (n : ℕ) → d ≡ zero → tlf_at s p ≡ got t n → is_list t.ty ≡ true → WrongElement s d p (too_deep p) n

-- an element that begins in it is wrong
pub record ElementBroken (s : List ℕ) (at : ℕ) (f : Refusal) : Type 0 where
  pub d : ℕ
  pub p : ℕ
  pub judged_to : ℕ
  pub begins : ElementBegins s at d p
  pub wrong : WrongElement s d p f judged_to

-- refused so exactly if an element that begins there is wrong. (From a place at or beyond the input's end on nothing stands: the element itself is cut, 10 at the input's length.)
pub record RefusesExactly (W : Walker) : Type 0 where
  pub if : (s : List ℕ) (at : ℕ) (f : Refusal) → length s ≤ limit → ElementBroken s at f → W s at ≡ walk_broken f
  pub only_if : (s : List ℕ) (at : ℕ) (f : Refusal) → length s ≤ limit → W s at ≡ walk_broken f → ElementBroken s at f

-- 9 of the whole input comes first
abbrev pub NineFirst : Walker → Type 0
NineFirst W = (s : List ℕ) (at : ℕ) → limit < length s → W s at ≡ walk_refused input_too_long_no

pub record GoodWalker (W : Walker) : Type 0 where
  pub measures : MeasuresExactly W
  pub refuses : RefusesExactly W
  pub nine : NineFirst W

-- the claims leave nothing open: who keeps them answers as ours does, on every input. (For that the halves `if` and 9 would do.)
abbrev pub OnlyOurWalker : Type 0
OnlyOurWalker = (W : Walker) → GoodWalker W → (s : List ℕ) (at : ℕ) → W s at ≡ our_walker s at

-- ---- how far it looks

-- a walk of s from `at` on needs the bytes before q, and no other
pub record LooksTo (W : Walker) (s : List ℕ) (at q : ℕ) : Type 0 where
  -- where s is cut before q, but not before `at`, the answer is 10, at the cut
  pub cut : (m : ℕ) → at ≤ m → m < q → m ≤ length s → W (take m s) at ≡ walk_broken (eof m)
  -- an input that has the same bytes before q is answered alike
  pub alike : (t : List ℕ) → length t ≤ limit → SameBefore q s t → W t at ≡ W s at

-- a refusal: an element that begins in it is wrong, up to the refusal's place nothing was wrong but that the input ended, and with what was judged it is this refusal, whatever follows
pub record BrokeThere (W : Walker) (s : List ℕ) (at : ℕ) (f : Refusal) : Type 0 where
  pub broken : ElementBroken s at f
  pub looks : LooksTo W s at broken.judged_to
  pub begun : at ≤ f.place
  pub before : f.place < broken.judged_to

-- what is measured needs its own bytes, at least one, which are within the input; it has no more leaves than bytes
pub record Measured (W : Walker) (s : List ℕ) (at bytes leaves : ℕ) : Type 0 where
  pub some_byte : 0 < bytes
  pub within : at + bytes ≤ length s
  pub fewer : leaves ≤ bytes
  pub looks : LooksTo W s at (at + bytes)

pub record LooksNoFurther (W : Walker) : Type 0 where
  pub found : (s : List ℕ) (at bytes leaves : ℕ) → Fair s at → W s at ≡ walk_is bytes leaves → Measured W s at bytes leaves
  pub broke : (s : List ℕ) (at : ℕ) (f : Refusal) → Fair s at → W s at ≡ walk_broken f → BrokeThere W s at f

abbrev pub NeverLooksFurther : Type 0
NeverLooksFurther = (W : Walker) → GoodWalker W → LooksNoFurther W

-- ---- the event reader

-- the walk over the message m ends at `next`, and there the event reader goes on, lent the whole input
pub record EndsAt (W : Walker) (s : List ℕ) (at next : ℕ) (m : Message Span) : Type 0 where
  pub leaves : ℕ
  pub ahead : at < next
  pub is : W s at ≡ walk_is (next - at) leaves
  pub goes_on_claim : (k : ℕ) → call_at s at (length (message_events m) + k) ≡ call_at s next k

-- where the event reader runs to a message's end, the walk over it ends at the same place
abbrev pub EndsWithMessages : Walker → Type 0
EndsWithMessages W = (s : List ℕ) (at next : ℕ) (m : Message Span) → Fair s at → RunsTo s at next m → EndsAt W s at next m

abbrev pub AlwaysEndsWithMessages : Type 0
AlwaysEndsWithMessages = (W : Walker) → GoodWalker W → EndsWithMessages W
