-- The strings of a meaning are the parts that octet_str hands back: of an event that a call answers none is a bad span, 16.
use mathlib.Core.Path.{◌≡◌, refl, sym, ap, ◌∙◌}
use mathlib.Core.List.{List, [], ◌∷◌, map}
use mathlib.Core.Option.{Option, some, none}
use Prim.Native.Nat.{ℕ}
use lib.ListN.{take, drop}
use Rattle.refusals.specs.declared.Span.{Span}
use Rattle.octet_string.specs.Strings.{part_of, span_refusal}
use Rattle.octet_string.proofs.Strings.{part_is, never_refused}
use Rattle.octet_string.proofs.Within.{Within, Has}
use Rattle.value.specs.Values.{Value, truth, bytes, signed, unsigned, list_time}
use Rattle.value.proofs.Values.{ValueWithin}
use Rattle.message.specs.Messages.{Body, open_body, close_body, list_body}
use Rattle.message.proofs.Messages.{BodyWithin}
use Rattle.streaming.specs.Next.{MessageEvent, start_event, entry_event, end_event, event, next_at}
use Rattle.streaming.specs.Meaning.{each, value_means, body_means, meaning, opt, value_strings, body_strings, strings_of}
use Rattle.events.proofs.Calls.{SoundReader}
use Rattle.events.proofs.Places.{EventWithin, next_kept}

map_opt : {A B : Type 0} (f : A → B) (m : Option A) (l : List A) → map f (opt m l) ≡ opt (each f m) (map f l)
map_opt f (some a) l = refl
map_opt f none l = refl

map_value : (s : List ℕ) (v : Value Span) (l : List Span) → map (part_of s) (value_strings v l) ≡ value_strings (value_means s v) (map (part_of s) l)
map_value s (truth b) l = refl
map_value s (bytes p) l = refl
map_value s (signed w z) l = refl
map_value s (unsigned w n) l = refl
map_value s (list_time n) l = refl

map_body : (s : List ℕ) (b : Body Span) → map (part_of s) (body_strings b) ≡ body_strings (body_means s b)
map_body s (open_body b) = rw (map_opt (part_of s) b.codepage, map_opt (part_of s) b.client_id)
map_body s (close_body b) = map_opt (part_of s) b.global_signature []
map_body s (list_body b) = rw (map_opt (part_of s) b.client_id, map_opt (part_of s) b.list_name)

-- a meaning's strings are the parts of the event's, one for one
pub strings_are : (s : List ℕ) (e : MessageEvent Span) → strings_of (meaning s e) ≡ map (part_of s) (strings_of e)
unfolding meaning
strings_are s (start_event m) = rw (map_body s m.message_body)
strings_are s (entry_event e) = rw (map_value s e.value, map_opt (part_of s) e.value_signature)
strings_are s (end_event e) = rw (map_opt (part_of s) e.list_signature)

-- so events of one meaning have the same strings
pub same_strings : (s t : List ℕ) (x y : MessageEvent Span) → meaning s x ≡ meaning t y → map (part_of s) (strings_of x) ≡ map (part_of t) (strings_of y)
same_strings s t x y e = sym (strings_are s x) ∙ ap strings_of e ∙ strings_are t y

-- a span that is never 16: its part are the bytes from its start on
pub record Good (s : List ℕ) (p : Span) : Type 0 where
  pub never : span_refusal s p ≡ none
  pub part : part_of s p ≡ take p.len (drop p.start s)

abbrev pub All : {A : Type 0} → (A → Type 0) → List A → Type 0
All P [] = Unit {0}
All P (a ∷ l) = P a × All P l

is_good : {s : List ℕ} {p : Span} → Within s p → Good s p
is_good {s} {p} h = record { never = never_refused s p h.ends; part = part_is s p h.ends }

all_opt : (s : List ℕ) (m : Option Span) (l : List Span) → Has (Within s) m → All (Good s) l → All (Good s) (opt m l)
all_opt s (some p) l h k = (is_good h, k)
all_opt s none l h k = k

all_value : (s : List ℕ) (v : Value Span) (l : List Span) → ValueWithin s v → All (Good s) l → All (Good s) (value_strings v l)
all_value s (truth b) l h k = k
all_value s (bytes p) l h k = (is_good h, k)
all_value s (signed w z) l h k = k
all_value s (unsigned w n) l h k = k
all_value s (list_time n) l h k = k

all_body : (s : List ℕ) (b : Body Span) → BodyWithin s b → All (Good s) (body_strings b)
all_body s (open_body b) h = all_opt s b.codepage _ h.codepage (all_opt s b.client_id _ h.client_id (is_good h.req_file_id, (is_good h.server_id, tt)))
all_body s (close_body b) h = all_opt s b.global_signature [] h.global_signature tt
all_body s (list_body b) h = all_opt s b.client_id _ h.client_id (is_good h.server_id, all_opt s b.list_name [] h.list_name tt)

all_event : (s : List ℕ) (e : MessageEvent Span) → EventWithin s e → All (Good s) (strings_of e)
all_event s (start_event m) h = (is_good h.transaction_id, all_body s m.message_body h.message_body)
all_event s (entry_event e) h = (is_good h.obj_name, all_value s e.value _ h.value (all_opt s e.value_signature [] h.value_signature tt))
all_event s (end_event e) h = all_opt s e.list_signature [] h.list_signature tt

-- every string of an event that a sound reader's call answers is good
pub next_strings : (s : List ℕ) (at start pending : ℕ) (e : MessageEvent Span) → SoundReader s at start pending → (next_at s at start pending).answer ≡ event e → All (Good s) (strings_of e)
next_strings s at start pending e h q =
    let k = next_kept s at start pending h in
    let w = rw q at k.strings in
    all_event s e w.0
