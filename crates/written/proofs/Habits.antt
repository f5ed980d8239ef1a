-- The writer that the fakes are made from is ours, where nothing is changed.
use mathlib.Core.Path.{◌≡◌, refl}
use mathlib.Core.List.{List}
use mathlib.Core.Option.{Option, some, none}
use Prim.Native.Nat.{ℕ}
use Rattle.refusals.specs.declared.Span.{Span}
use Rattle.value.specs.Values.{Status, Value, truth, bytes, signed, unsigned, list_time}
use Rattle.common.specs.Fields.{ListEntry}
use Rattle.message.specs.Messages.{ListEnd, Body, open_body, close_body, list_body, MessageStart}
use Rattle.streaming.specs.Meaning.{entry_means, list_end_means, start_means}
use Rattle.writer.specs.Fields.{write_unsigned, write_signed, write_bool, write_octets, write_optional, write_present, write_time, write_status, write_value, write_entry}
use Rattle.writer.specs.Messages.{open_bytes, close_bytes, list_start_bytes, list_end_bytes, write_body, write_start}
use Rattle.writer.specs.Calls.{put_or, start_with, after_entry, end_bytes, whole_to, start_to, entry_to, end_to}
use Rattle.writer.specs.declared.Head.{Head}
use Rattle.writer.specs.declared.ListState.{ListState}
use Rattle.writer.specs.declared.ListState.TheVariants.{Entries, Ended}
use Rattle.written.specs.Calls.{our_writer}
use Rattle.written.specs.Fakes.{our_wording, our_manner, optional_by, value_with, entry_by, list_end_by, body_by, start_by, put_by, whole_by, state_after, trailed_by, writer_by, SameWriter}

optional_same : {A : Type 0} (write : A → List ℕ) (m : Option A) → optional_by our_wording write m ≡ write_optional write m
unfolding write_optional
optional_same write none = refl
optional_same write (some a) = refl

status_same : (m : Option Status) → optional_by our_wording (λ x. write_unsigned x.number) m ≡ write_optional write_status m
unfolding write_optional write_status
status_same none = refl
status_same (some a) = refl

value_same : (v : Value (List ℕ)) → value_with our_wording v ≡ write_value v
unfolding write_value write_bool write_octets
value_same (truth b) = refl
value_same (bytes x) = refl
value_same (signed w z) = refl
value_same (unsigned w v) = refl
value_same (list_time t) = refl

entry_same : (e : ListEntry (List ℕ)) → entry_by our_wording e ≡ write_entry e
unfolding write_entry write_octets
entry_same e =
    rw (status_same e.status, optional_same write_time e.val_time, optional_same write_unsigned e.unit, optional_same write_signed e.scaler, value_same e.value, optional_same write_present e.value_signature)

list_end_same : (x : ListEnd (List ℕ)) → list_end_by our_wording x ≡ list_end_bytes x
unfolding list_end_bytes
list_end_same x = rw (optional_same write_present x.list_signature, optional_same write_time x.act_gateway_time)

body_same : (x : Body (List ℕ)) → body_by our_wording x ≡ write_body x
unfolding write_body open_bytes close_bytes list_start_bytes write_octets
body_same (open_body x) =
    rw (optional_same write_present x.codepage, optional_same write_present x.client_id, optional_same write_time x.ref_time, optional_same write_unsigned x.sml_version)
body_same (close_body x) = rw (optional_same write_present x.global_signature)
body_same (list_body x) = rw (optional_same write_present x.client_id, optional_same write_present x.list_name, optional_same write_time x.act_sensor_time)

start_same : (m : MessageStart (List ℕ)) → start_by our_wording m ≡ write_start m
unfolding write_start write_octets
start_same m = rw (body_same m.message_body)

put_same : {A : Type 0} (r : Option ℕ) (out : List ℕ) (at : ℕ) (b : List ℕ) (a : A) → put_by our_manner r out at b a ≡ put_or r out at b a
unfolding put_or
put_same (some n) out at b a = refl
put_same none out at b a = refl

state_same : (st : ListState) (b : List ℕ) → state_after our_manner st b ≡ after_entry st b
state_same (Entries left crc) b = refl
state_same Ended b = refl

trailed_same : (st : ListState) (b : List ℕ) → trailed_by our_wording our_manner st b ≡ end_bytes st b
trailed_same (Entries left crc) b = refl
trailed_same Ended b = refl

whole_same : (out : List ℕ) (at : ℕ) (strings : List ℕ) (head : Head) (body : Body Span) → whole_by our_wording our_manner out at strings head body ≡ whole_to out at strings head body
unfolding whole_to
whole_same out at strings head body = rw (start_same (start_means strings (start_with head body))) (put_same _ out at _ _)

pub same_writer : SameWriter (writer_by our_wording our_manner) our_writer
unfolding start_to entry_to end_to
same_writer =
    record {
      opens = λ out at strings head x. whole_same out at strings head (open_body x);
      closes = λ out at strings head x. whole_same out at strings head (close_body x);
      starts = λ out at strings head list. rw (start_same (start_means strings (start_with head (list_body list)))) (put_same _ out at _ _);
      adds = λ out w strings e. rw (entry_same (entry_means strings e), state_same w.state (write_entry (entry_means strings e))) (put_same _ out w.place _ _);
      ends = λ out w strings x. rw (list_end_same (list_end_means strings x), trailed_same w.state (list_end_bytes (list_end_means strings x))) (put_same _ out w.place _ _);
    }
