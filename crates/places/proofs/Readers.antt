-- Every reader says where it broke.
use mathlib.Core.Path.{◌≡◌}
use mathlib.Core.List.{List}
use Prim.Native.Nat.{ℕ, ◌<◌}
use native.Mathlib.Omega.{arith}
use lib.ListN.{length}
use borrow.Author.Tests.{le-ltb, lt-leb}
use Rattle.refusals.specs.Read.{Read, refused, guard, eof, byte_at, span_at}
use Rattle.refusals.specs.declared.Span.{Span}
use Rattle.numbers.specs.Numbers.{unsigned_at, signed_at}
use Rattle.octet_string.specs.Strings.{octets_at}
use Rattle.value.specs.Values.{time_at, status_at}
use Rattle.common.specs.Fields.{open_at, close_at, entry_at}
use Rattle.message.specs.Messages.{Body, open_body, close_body, list_body, list_start_at, list_end_at, body_at, start_at}
use Rattle.events.specs.Message.{content_of, message_at}
use Rattle.tlf.proofs.Ends.{tlf_end}
use Rattle.places.specs.Readers.{Located, LengthFirst, Readers}
use Rattle.places.proofs.Lengths.{length_refusals}
use Rattle.places.proofs.Locates.{Locates, locates_broke, locates_taken, locates_then, locates_got, locates_many}
use Rattle.places.proofs.Elements.{Passes, locates_byte, locates_span, locates_tlf, passes_tlf, locates_list_of, passes_list_of}
use Rattle.places.proofs.Fields.{passes_then, locates_unsigned, passes_unsigned, locates_signed, passes_signed, locates_bool, passes_bool, locates_octets, passes_octets, locates_optional, passes_optional}
use Rattle.places.proofs.Values.{locates_time, passes_time, locates_status, passes_status, locates_value, passes_value}
use Rattle.places.proofs.Records.{locates_open, locates_close, locates_entry, locates_list_start, locates_list_end, locates_body, locates_start}
use Rattle.places.proofs.Trailer.{end_cut, locates_end, locates_trailer, passes_trailer}

located : {A : Type 0} {read : List ℕ → Read A} {at start : ℕ} → Locates read at start → ((s : List ℕ) → length s < at → read s ≡ refused (eof (length s))) → Located read at start
located j b =
    record {
      broke = λ s f h e. locates_broke j s f h e;
      found = λ s a n h e. let w = locates_taken j s a n h e in (w.low, w.high, w.looked);
      missing = j.missing;
      beyond = b;
    }

length_first_lem : {A : Type 0} {read : List ℕ → Read A} {at start : ℕ} → Locates read at start → Passes read at → LengthFirst read at start
length_first_lem {at = at} j p = record { located = located j (λ s h. p.passes s (eof (length s)) (tlf_end s at (omega arith))); passed = p.passes }

byte_beyond : (s : List ℕ) (at : ℕ) → length s < at → byte_at s at ≡ refused (eof (length s))
unfolding byte_at guard
byte_beyond s at h = rw (le-ltb at (length s) (omega arith))

span_beyond : (s : List ℕ) (n at : ℕ) → length s < at → span_at s at n ≡ refused (eof (length s))
unfolding span_at guard
span_beyond s n at h = rw (lt-leb at (length s) h)

-- ---- what begins with the head of a list, or with an optional string

passes_open : (at : ℕ) → Passes (λ t. open_at t at) at
unfolding open_at
passes_open at = passes_then _ _ at (passes_list_of 6 at)

passes_close : (at : ℕ) → Passes (λ t. close_at t at) at
unfolding close_at
passes_close at = passes_then _ _ at (passes_list_of 1 at)

passes_entry : (at : ℕ) → Passes (λ t. entry_at t at) at
unfolding entry_at
passes_entry at = passes_then _ _ at (passes_list_of 7 at)

passes_list_start : (at : ℕ) → Passes (λ t. list_start_at t at) at
unfolding list_start_at
passes_list_start at = passes_then _ _ at (passes_list_of 7 at)

passes_list_end : (at : ℕ) → Passes (λ t. list_end_at t at) at
unfolding list_end_at
passes_list_end at = passes_then _ _ at (passes_optional octets_at at (passes_octets at))

passes_body : (at : ℕ) → Passes (λ t. body_at t at) at
unfolding body_at
passes_body at = passes_then _ _ at (passes_list_of 2 at)

passes_start : (at : ℕ) → Passes (λ t. start_at t at) at
unfolding start_at
passes_start at = passes_then _ _ at (passes_list_of 6 at)

-- ---- the whole message

locates_content : (b : Body Span) (at start : ℕ) → Locates (λ t. content_of b t at) at start
unfolding content_of
locates_content (open_body b) at start = locates_got _ at start
locates_content (close_body b) at start = locates_got _ at start
locates_content (list_body b) at start =
    locates_then _ _ at start (locates_many (λ m t. entry_at t m) start (λ m. locates_entry m start) b.num_vals at) (λ entries n.
    locates_then _ _ n start (locates_list_end n start) (λ end m.
    locates_got _ m start))

pub locates_message : (at : ℕ) → Locates (λ t. message_at t at) at at
unfolding message_at
locates_message at =
    locates_then _ _ at at (locates_start at at) (λ m n₁.
    locates_then _ _ n₁ at (locates_content m.message_body n₁ at) (λ content n₂.
    locates_then _ _ n₂ at (locates_trailer at n₂) (λ trailer n₃.
    locates_got _ n₃ at)))

passes_message : (at : ℕ) → Passes (λ t. message_at t at) at
unfolding message_at
passes_message at = passes_then _ _ at (passes_start at)

-- ---- together

pub readers : Readers
readers =
    record {
      length_refusals = length_refusals;
      byte = λ at start. located (locates_byte at start) (λ s h. byte_beyond s at h);
      span = λ n at start. located (locates_span at n start) (λ s h. span_beyond s n at h);
      length_field_claim = λ at start. length_first_lem (locates_tlf at start) (passes_tlf at);
      list_head_claim = λ n h at start. length_first_lem (locates_list_of n h at start) (passes_list_of n at);
      unsigned = λ width h at start. length_first_lem (locates_unsigned width h at start) (passes_unsigned width at);
      signed = λ width h at start. length_first_lem (locates_signed width h at start) (passes_signed width at);
      boolean = λ at start. length_first_lem (locates_bool at start) (passes_bool at);
      octets = λ at start. length_first_lem (locates_octets at start) (passes_octets at);
      time = λ at start. length_first_lem (locates_time at start) (passes_time at);
      status = λ at start. length_first_lem (locates_status at start) (passes_status at);
      value = λ at start. length_first_lem (locates_value at start) (passes_value at);
      opt_octets = λ at start. length_first_lem (locates_optional octets_at at start (passes_octets at) (locates_octets at start)) (passes_optional octets_at at (passes_octets at));
      opt_unsigned = λ width h at start.
          length_first_lem (locates_optional (unsigned_at width) at start (passes_unsigned width at) (locates_unsigned width h at start)) (passes_optional (unsigned_at width) at (passes_unsigned width at));
      opt_signed = λ width h at start.
          length_first_lem (locates_optional (signed_at width) at start (passes_signed width at) (locates_signed width h at start)) (passes_optional (signed_at width) at (passes_signed width at));
      opt_time_claim = λ at start. length_first_lem (locates_optional time_at at start (passes_time at) (locates_time at start)) (passes_optional time_at at (passes_time at));
      opt_status_claim = λ at start. length_first_lem (locates_optional status_at at start (passes_status at) (locates_status at start)) (passes_optional status_at at (passes_status at));
      open_response_claim = λ at start. length_first_lem (locates_open at start) (passes_open at);
      close_response_claim = λ at start. length_first_lem (locates_close at start) (passes_close at);
      entry = λ at start. length_first_lem (locates_entry at start) (passes_entry at);
      list_start_claim = λ at start. length_first_lem (locates_list_start at start) (passes_list_start at);
      list_end_claim = λ at start. length_first_lem (locates_list_end at start) (passes_list_end at);
      body = λ at start. length_first_lem (locates_body at start) (passes_body at);
      message_start_claim = λ at start. length_first_lem (locates_start at start) (passes_start at);
      end_byte_claim = λ at start. located (locates_end at start) (λ s h. end_cut s at (omega arith));
      trailer = λ at start. length_first_lem (locates_trailer start at) (passes_trailer start at);
      message = λ at. length_first_lem (locates_message at) (passes_message at);
    }
