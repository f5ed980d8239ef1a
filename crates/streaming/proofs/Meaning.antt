-- Meaning forgets the width of a number and the place of a string, and nothing else: two events have one meaning exactly if they are of one kind, with the same bytes in their strings and the same numbers.
use mathlib.Core.Path.{◌≡◌, refl, sym, ap, ◌∙◌}
use mathlib.Core.List.{List}
use mathlib.Core.Option.{Option, some, none}
use Prim.Native.Nat.{ℕ}
use lib.IntN.{ℤ}
use Rattle.refusals.specs.declared.Span.{Span}
use Rattle.refusals.proofs.Rest.{Made}
use Rattle.octet_string.specs.Strings.{part_of}
use Rattle.octet_string.proofs.Gets.{Part}
use Rattle.value.specs.Values.{Status, Value, truth, bytes, signed, unsigned, list_time}
use Rattle.common.specs.Fields.{ListEntry}
use Rattle.message.specs.Messages.{ListEnd, Body, open_body, close_body, list_body, MessageStart}
use Rattle.streaming.specs.Next.{MessageEvent, start_event, entry_event, end_event}
use Rattle.streaming.specs.Meaning.{each, status_means, value_means, entry_means, open_means, close_means, list_start_means, list_end_means, body_means, start_means, meaning}

-- any width will do
abbrev AnyWidth : List ℕ → ℕ → Type 0
AnyWidth s width = Unit {0}

-- two widths of one number: one meaning
pub status_width : (w v n : ℕ) → status_means (record { width = w; number = n }) ≡ status_means (record { width = v; number = n })
status_width w v n = refl

pub signed_width : (s t : List ℕ) (w v : ℕ) (z : ℤ) → value_means s (signed w z) ≡ value_means t (signed v z)
signed_width s t w v z = refl

pub unsigned_width : (s t : List ℕ) (w v n : ℕ) → value_means s (unsigned w n) ≡ value_means t (unsigned v n)
unsigned_width s t w v n = refl

-- the values of an input that have a meaning: of its kind, with its bytes wherever they stand, its number at any width
abbrev pub ValueSays : List ℕ → Value (List ℕ) → Value Span → Type 0
ValueSays t (truth b) y = y ≡ truth b
ValueSays t (bytes x) y = Made bytes (Part x) t y
ValueSays t (signed w z) y = Made (λ v. signed v z) AnyWidth t y
ValueSays t (unsigned w n) y = Made (λ v. unsigned v n) AnyWidth t y
ValueSays t (list_time n) y = y ≡ list_time n

value_own : (t : List ℕ) (y : Value Span) → ValueSays t (value_means t y) y
value_own t (truth b) = refl
value_own t (bytes p) = record { of = p; is = refl; has = refl }
value_own t (signed w z) = record { of = w; is = refl; has = tt }
value_own t (unsigned w n) = record { of = w; is = refl; has = tt }
value_own t (list_time n) = refl

pub value_says : (s t : List ℕ) (x y : Value Span) → value_means s x ≡ value_means t y → ValueSays t (value_means s x) y
value_says s t x y e = rw e (value_own t y)

pub value_means_lem : (s t : List ℕ) (x y : Value Span) → ValueSays t (value_means s x) y → value_means s x ≡ value_means t y
value_means_lem s t (truth b) y h = ap (value_means t) (sym h)
value_means_lem s t (bytes p) y h = ap bytes (sym h.has) ∙ ap (value_means t) (sym h.is)
value_means_lem s t (signed w z) y h = ap (value_means t) (sym h.is)
value_means_lem s t (unsigned w n) y h = ap (value_means t) (sym h.is)
value_means_lem s t (list_time n) y h = ap (value_means t) (sym h)

-- two entries alike: the same bytes, the same numbers, and values of one kind
pub record EntryAlike (s t : List ℕ) (x y : ListEntry Span) : Type 0 where
  pub obj_name : part_of s x.obj_name ≡ part_of t y.obj_name
  pub status : each (λ (a : Status). a.number) x.status ≡ each (λ (a : Status). a.number) y.status
  pub val_time : x.val_time ≡ y.val_time
  pub unit : x.unit ≡ y.unit
  pub scaler : x.scaler ≡ y.scaler
  pub value : ValueSays t (value_means s x.value) y.value
  pub value_signature : each (part_of s) x.value_signature ≡ each (part_of t) y.value_signature

status_number : (m : Option Status) → each (λ (a : Status). a.number) (each status_means m) ≡ each (λ (a : Status). a.number) m
status_number (some a) = refl
status_number none = refl

status_wide : (m : Option Status) → each (λ (n : ℕ). record { width = 8; number = n }) (each (λ (a : Status). a.number) m) ≡ each status_means m
status_wide (some a) = refl
status_wide none = refl

entry_alike : (s t : List ℕ) (x y : ListEntry Span) → entry_means s x ≡ entry_means t y → EntryAlike s t x y
entry_alike s t x y e =
    record {
      obj_name = ap (λ (a : ListEntry (List ℕ)). a.obj_name) e;
      status = sym (status_number x.status) ∙ ap (λ (a : ListEntry (List ℕ)). each (λ (b : Status). b.number) a.status) e ∙ status_number y.status;
      val_time = ap (λ (a : ListEntry (List ℕ)). a.val_time) e;
      unit = ap (λ (a : ListEntry (List ℕ)). a.unit) e;
      scaler = ap (λ (a : ListEntry (List ℕ)). a.scaler) e;
      value = value_says s t x.value y.value (ap (λ (a : ListEntry (List ℕ)). a.value) e);
      value_signature = ap (λ (a : ListEntry (List ℕ)). a.value_signature) e;
    }

same_entry : (s t : List ℕ) (x y : ListEntry Span) → EntryAlike s t x y → entry_means s x ≡ entry_means t y
same_entry s t x y h =
    let st : each status_means x.status ≡ each status_means y.status = sym (status_wide x.status) ∙ ap (each (λ (n : ℕ). record { width = 8; number = n })) h.status ∙ status_wide y.status in
    rw (h.obj_name, st, h.val_time, h.unit, h.scaler, value_means_lem s t x.value y.value h.value, h.value_signature)

-- two bodies alike: of one kind, with the same fields
abbrev pub BodyAlike : List ℕ → List ℕ → Body Span → Body Span → Type 0
BodyAlike s t (open_body a) y = Made open_body (λ u b. open_means u b ≡ open_means s a) t y
BodyAlike s t (close_body a) y = Made close_body (λ u b. close_means u b ≡ close_means s a) t y
BodyAlike s t (list_body a) y = Made list_body (λ u b. list_start_means u b ≡ list_start_means s a) t y

-- the bodies of an input that have a meaning
abbrev BodySays : List ℕ → Body (List ℕ) → Body Span → Type 0
BodySays t (open_body m) y = Made open_body (λ u b. open_means u b ≡ m) t y
BodySays t (close_body m) y = Made close_body (λ u b. close_means u b ≡ m) t y
BodySays t (list_body m) y = Made list_body (λ u b. list_start_means u b ≡ m) t y

body_own : (t : List ℕ) (y : Body Span) → BodySays t (body_means t y) y
body_own t (open_body b) = record { of = b; is = refl; has = refl }
body_own t (close_body b) = record { of = b; is = refl; has = refl }
body_own t (list_body b) = record { of = b; is = refl; has = refl }

body_says : (s t : List ℕ) (x y : Body Span) → BodySays t (body_means s x) y → BodyAlike s t x y
body_says s t (open_body a) y h = h
body_says s t (close_body a) y h = h
body_says s t (list_body a) y h = h

body_alike : (s t : List ℕ) (x y : Body Span) → body_means s x ≡ body_means t y → BodyAlike s t x y
body_alike s t x y e = body_says s t x y (rw e (body_own t y))

same_body : (s t : List ℕ) (x y : Body Span) → BodyAlike s t x y → body_means s x ≡ body_means t y
same_body s t (open_body a) y h = ap open_body (sym h.has) ∙ ap (body_means t) (sym h.is)
same_body s t (close_body a) y h = ap close_body (sym h.has) ∙ ap (body_means t) (sym h.is)
same_body s t (list_body a) y h = ap list_body (sym h.has) ∙ ap (body_means t) (sym h.is)

pub record StartAlike (s t : List ℕ) (x y : MessageStart Span) : Type 0 where
  pub transaction_id : part_of s x.transaction_id ≡ part_of t y.transaction_id
  pub group_no : x.group_no ≡ y.group_no
  pub abort_on_error : x.abort_on_error ≡ y.abort_on_error
  pub message_body : BodyAlike s t x.message_body y.message_body

start_alike : (s t : List ℕ) (x y : MessageStart Span) → start_means s x ≡ start_means t y → StartAlike s t x y
start_alike s t x y e =
    record {
      transaction_id = ap (λ (a : MessageStart (List ℕ)). a.transaction_id) e;
      group_no = ap (λ (a : MessageStart (List ℕ)). a.group_no) e;
      abort_on_error = ap (λ (a : MessageStart (List ℕ)). a.abort_on_error) e;
      message_body = body_alike s t x.message_body y.message_body (ap (λ (a : MessageStart (List ℕ)). a.message_body) e);
    }

same_start : (s t : List ℕ) (x y : MessageStart Span) → StartAlike s t x y → start_means s x ≡ start_means t y
same_start s t x y h = rw (h.transaction_id, h.group_no, h.abort_on_error, same_body s t x.message_body y.message_body h.message_body)

pub record EndAlike (s t : List ℕ) (x y : ListEnd Span) : Type 0 where
  pub list_signature : each (part_of s) x.list_signature ≡ each (part_of t) y.list_signature
  pub act_gateway_time : x.act_gateway_time ≡ y.act_gateway_time

end_alike : (s t : List ℕ) (x y : ListEnd Span) → list_end_means s x ≡ list_end_means t y → EndAlike s t x y
end_alike s t x y e = record { list_signature = ap (λ (a : ListEnd (List ℕ)). a.list_signature) e; act_gateway_time = ap (λ (a : ListEnd (List ℕ)). a.act_gateway_time) e }

end_one : (s t : List ℕ) (x y : ListEnd Span) → EndAlike s t x y → list_end_means s x ≡ list_end_means t y
end_one s t x y h = rw (h.list_signature, h.act_gateway_time)

-- two events alike: of one kind, and alike field by field
abbrev pub EventAlike : List ℕ → List ℕ → MessageEvent Span → MessageEvent Span → Type 0
EventAlike s t (start_event a) y = Made start_event (λ u b. StartAlike s u a b) t y
EventAlike s t (entry_event a) y = Made entry_event (λ u b. EntryAlike s u a b) t y
EventAlike s t (end_event a) y = Made end_event (λ u b. EndAlike s u a b) t y

-- the events of an input that have a meaning
abbrev EventMade : List ℕ → MessageEvent (List ℕ) → MessageEvent Span → Type 0
EventMade t (start_event m) y = Made start_event (λ u a. start_means u a ≡ m) t y
EventMade t (entry_event m) y = Made entry_event (λ u a. entry_means u a ≡ m) t y
EventMade t (end_event m) y = Made end_event (λ u a. list_end_means u a ≡ m) t y

event_own : (t : List ℕ) (y : MessageEvent Span) → EventMade t (meaning t y) y
unfolding meaning
event_own t (start_event a) = record { of = a; is = refl; has = refl }
event_own t (entry_event a) = record { of = a; is = refl; has = refl }
event_own t (end_event a) = record { of = a; is = refl; has = refl }

event_says : (s t : List ℕ) (x y : MessageEvent Span) → EventMade t (meaning s x) y → EventAlike s t x y
unfolding meaning
event_says s t (start_event a) y h = record { of = h.of; is = h.is; has = start_alike s t a h.of (sym h.has) }
event_says s t (entry_event a) y h = record { of = h.of; is = h.is; has = entry_alike s t a h.of (sym h.has) }
event_says s t (end_event a) y h = record { of = h.of; is = h.is; has = end_alike s t a h.of (sym h.has) }

-- two events have one meaning exactly if they are alike
pub events_alike : (s t : List ℕ) (x y : MessageEvent Span) → meaning s x ≡ meaning t y → EventAlike s t x y
events_alike s t x y e = event_says s t x y (rw e (event_own t y))

pub events_mean : (s t : List ℕ) (x y : MessageEvent Span) → EventAlike s t x y → meaning s x ≡ meaning t y
unfolding meaning
events_mean s t (start_event a) y h = ap start_event (same_start s t a h.of h.has) ∙ ap (meaning t) (sym h.is)
events_mean s t (entry_event a) y h = ap entry_event (same_entry s t a h.of h.has) ∙ ap (meaning t) (sym h.is)
events_mean s t (end_event a) y h = ap end_event (end_one s t a h.of h.has) ∙ ap (meaning t) (sym h.is)
