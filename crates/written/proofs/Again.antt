-- Everything that is read can be written, and is then read with the same meaning.
use mathlib.Core.Path.{◌≡◌, refl, sym, ap}
use mathlib.Core.List.{List, [], ◌∷◌, ◌++◌, map}
use mathlib.Core.Bool.{Bool, true, false, cond}
use mathlib.Core.Option.{Option, some, none}
use Prim.Native.Nat.{ℕ, zero, suc, ◌+◌, ◌/◌, ◌^◌, ◌≤◌, ◌<◌}
use native.Mathlib.Omega.{arith}
use lib.ListN.{length, take, drop}
use lib.Seq.{get_or-drop}
use lib.Dec.{leb, eqb}
use lib.Signed.{mag}
use Rattle.refusals.specs.Read.{Read, got, many}
use Rattle.tlf.specs.Lengths.{tlf_at, list_of_at}
use Rattle.tlf.specs.declared.Ty.{Ty}
use Rattle.tlf.specs.declared.Ty.TheVariants.{OctetString, Boolean, Integer, Unsigned, ListOf}
use Rattle.refusals.specs.declared.Span.{Span}
use Rattle.refusals.proofs.Read.{Ok, ok_any, ok_at, ok_got, ok_then, ok_guard, ok_cond, ok_weak}
use Rattle.numbers.specs.Numbers.{unsigned_at, signed_at, bool_at}
use Rattle.numbers.proofs.Numbers.{unsigned_ok, signed_ok, pow_up}
use Rattle.octet_string.specs.Strings.{octets_at, span_within, part_of}
use Rattle.octet_string.specs.Optional.{absent_at, optional}
use Rattle.value.specs.Values.{Status, Value, truth, bytes, signed, unsigned, list_time, narrowest, time_at, status_of, status_at, signed_value, unsigned_value, list_type_at, value_of_claim, value_at}
use Rattle.value.proofs.Ranges.{time_fits}
use Rattle.common.specs.Fields.{ListEntry, open_at, close_at, entry_at}
use Rattle.message.specs.Messages.{Body, open_body, close_body, list_body, list_start_at, list_end_at, content_at, body_at, start_at}
use Rattle.trailer.specs.Trailer.{trailer_at}
use Rattle.events.specs.Message.{Message, entries_at, content_of, message_at}
use Rattle.streaming.specs.Meaning.{each, status_means, value_means, entry_means, open_means, close_means, list_start_means, list_end_means, body_means, start_means}
use Rattle.written.specs.Messages.{content_means, message_means, write_message}
use Rattle.written.specs.Fits.{Each, OnlyBytes, StatusFits, WideValueFits, EntryFits, OpenFits, CloseFits, ListStartFits, ListEndFits, BodyFits, StartFits, EntriesFit, ContentFits, MessageFits}
use Rattle.written.specs.Round.{ReadBack}
use Rattle.byte_count.proofs.Least.{pick}
use Rattle.written.proofs.Bytes.{none_bytes, more_bytes}
use Rattle.written.proofs.Fewest.{bytes_of}
use Rattle.written.proofs.Round.{message_back}

drop_bytes : (m : ℕ) (s : List ℕ) → OnlyBytes s → OnlyBytes (drop m s)
drop_bytes m s h = record { byte = λ i. rw get_or-drop (h.byte (m + i)) }

take_bytes : (n : ℕ) (s : List ℕ) → OnlyBytes s → OnlyBytes (take n s)
take_bytes zero s h = none_bytes
take_bytes (suc n) [] h = none_bytes
take_bytes (suc n) (b ∷ s) h = more_bytes (h.byte 0) (take_bytes n s (record { byte = λ i. h.byte (suc i) }))

cond_bytes : (p : Bool) (x y : List ℕ) → OnlyBytes x → OnlyBytes y → OnlyBytes (cond p x y)
cond_bytes true x y h k = h
cond_bytes false x y h k = k

-- a part of bytes
pub part_bytes : (s : List ℕ) (p : Span) → OnlyBytes s → OnlyBytes (part_of s p)
unfolding part_of
part_bytes s p h = cond_bytes (span_within s p) _ _ (take_bytes p.len _ (drop_bytes p.start s h)) none_bytes

pub each_bytes : (s : List ℕ) (m : Option Span) → OnlyBytes s → Each OnlyBytes (each (part_of s) m)
each_bytes s none h = tt
each_bytes s (some p) h = part_bytes s p h

narrow_high : (len : ℕ) → narrowest len ≤ 8
narrow_high len =
    pick (λ w. w ≤ 8) (leb len 1) 1 _ (λ t. omega arith) (λ f. pick (λ w. w ≤ 8) (leb len 2) 2 _ (λ t. omega arith) (λ g. pick (λ w. w ≤ 8) (leb len 4) 4 8 (λ t. omega arith) (λ i. omega arith)))

optional_has : {A : Type 0} (Q : A → Type 0) (read : List ℕ → ℕ → Read A) (s : List ℕ) (at : ℕ) → Ok (λ a n. Q a) (read s at) → Ok (λ m n. Each Q m) (optional read s at)
unfolding optional
optional_has Q read s at h =
    ok_cond (absent_at s at) _ _ (λ e. ok_got {P = λ (m : Option _) (n : ℕ). Each Q m} none _ tt) (λ e. ok_then _ _ h (λ a n q. ok_got {P = λ (m : Option _) (n : ℕ). Each Q m} (some a) n q))

module _ (s : List ℕ) (b : OnlyBytes s) where
  status_has : (at : ℕ) → Ok (λ x n. StatusFits (status_means x)) (status_at s at)
  unfolding status_at status_of
  status_has at =
      ok_then _ _ (ok_any (tlf_at s at)) (λ t n₀ e. ok_then _ _ (unsigned_ok (narrowest t.len) s at (bytes_of b)) (λ v n q.
      ok_got _ _ (record { width = refl; number = omega (arith, q.0, pow_up (narrowest t.len) 8 (narrow_high t.len)) })))

  time_has : (at : ℕ) → Ok (λ t n. t < 256 ^ 4) (time_at s at)
  time_has at = time_fits s at (bytes_of b)

  opt_time_has : (at : ℕ) → Ok (λ m n. Each (λ t. t < 256 ^ 4) m) (optional time_at s at)
  opt_time_has at = optional_has (λ t. t < 256 ^ 4) time_at s at (time_has at)

  opt_u8_has : (at : ℕ) → Ok (λ m n. Each (λ v. v < 256 ^ 1) m) (optional (unsigned_at 1) s at)
  opt_u8_has at = optional_has (λ v. v < 256 ^ 1) (unsigned_at 1) s at (ok_weak (λ v n q. q.0) (unsigned_ok 1 s at (bytes_of b)))

  opt_i8_has : (at : ℕ) → Ok (λ m n. Each (λ z. mag z < 256 ^ 1 / 2) m) (optional (signed_at 1) s at)
  opt_i8_has at = optional_has (λ z. mag z < 256 ^ 1 / 2) (signed_at 1) s at (ok_weak (λ v n q. q.0) (signed_ok 1 s at (bytes_of b)))

  status_each : (m : Option Status) → Each (λ x. StatusFits (status_means x)) m → Each StatusFits (each status_means m)
  status_each none h = tt
  status_each (some x) h = h

  value_of_has : (ty : Ty) (len at : ℕ) → Ok (λ x n. WideValueFits (value_means s x)) (value_of_claim ty len s at)
  unfolding value_of_claim signed_value unsigned_value list_type_at
  value_of_has OctetString len at = ok_then _ _ (ok_any (octets_at s at)) (λ p n e. ok_got {P = λ (x : Value Span) (n : ℕ). WideValueFits (value_means s x)} (bytes p) n (part_bytes s p b))
  value_of_has Boolean len at = ok_then _ _ (ok_any (bool_at s at)) (λ v n e. ok_got {P = λ (x : Value Span) (n : ℕ). WideValueFits (value_means s x)} (truth v) n tt)
  value_of_has Integer len at =
      ok_then _ _ (signed_ok (narrowest len) s at (bytes_of b)) (λ z n q.
      ok_got {P = λ (x : Value Span) (n : ℕ). WideValueFits (value_means s x)} (signed _ z) n (refl, omega (arith, q.0, pow_up (narrowest len) 8 (narrow_high len))))
  value_of_has Unsigned len at =
      ok_then _ _ (unsigned_ok (narrowest len) s at (bytes_of b)) (λ v n q.
      ok_got {P = λ (x : Value Span) (n : ℕ). WideValueFits (value_means s x)} (unsigned _ v) n (refl, omega (arith, q.0, pow_up (narrowest len) 8 (narrow_high len))))
  value_of_has ListOf len at =
      ok_then _ _ (ok_any (list_of_at 2 s at)) (λ list n₀ e₀.
      ok_then _ _ (ok_any (unsigned_at 1 s n₀)) (λ tag n₁ e₁. ok_guard _ _ _ (λ e₂.
      ok_then _ _ (time_has n₁) (λ t n h. ok_got {P = λ (x : Value Span) (n : ℕ). WideValueFits (value_means s x)} (list_time t) n h))))

  value_has : (at : ℕ) → Ok (λ x n. WideValueFits (value_means s x)) (value_at s at)
  unfolding value_at
  value_has at = ok_then _ _ (ok_any (tlf_at s at)) (λ t n e. value_of_has t.ty t.len at)

  entry_has : (at : ℕ) → Ok (λ x n. EntryFits (entry_means s x)) (entry_at s at)
  unfolding entry_at
  entry_has at =
      ok_then _ _ (ok_any (list_of_at 7 s at)) (λ list n₀ h₀.
      ok_then _ _ (ok_any (octets_at s n₀)) (λ name n₁ h₁.
      ok_then _ _ (optional_has (λ x. StatusFits (status_means x)) status_at s n₁ (status_has n₁)) (λ status n₂ h₂.
      ok_then _ _ (opt_time_has n₂) (λ time n₃ h₃.
      ok_then _ _ (opt_u8_has n₃) (λ unit n₄ h₄.
      ok_then _ _ (opt_i8_has n₄) (λ scaler n₅ h₅.
      ok_then _ _ (value_has n₅) (λ value n₆ h₆.
      ok_then _ _ (ok_any (optional octets_at s n₆)) (λ signature n₇ h₇.
      ok_got _ _ (record { obj_name = part_bytes s name b; status = status_each status h₂; val_time = h₃; unit = h₄; scaler = h₅; value = h₆; value_signature = each_bytes s signature b })))))))))

  open_has : (at : ℕ) → Ok (λ x n. OpenFits (open_means s x)) (open_at s at)
  unfolding open_at
  open_has at =
      ok_then _ _ (ok_any (list_of_at 6 s at)) (λ list n₀ h₀.
      ok_then _ _ (ok_any (optional octets_at s n₀)) (λ codepage n₁ h₁.
      ok_then _ _ (ok_any (optional octets_at s n₁)) (λ client_id n₂ h₂.
      ok_then _ _ (ok_any (octets_at s n₂)) (λ req_file_id n₃ h₃.
      ok_then _ _ (ok_any (octets_at s n₃)) (λ server_id n₄ h₄.
      ok_then _ _ (opt_time_has n₄) (λ time n₅ h₅.
      ok_then _ _ (opt_u8_has n₅) (λ sml_version n₆ h₆.
      ok_got _ _ (record { codepage = each_bytes s codepage b; client_id = each_bytes s client_id b; req_file_id = part_bytes s req_file_id b; server_id = part_bytes s server_id b; ref_time = h₅; sml_version = h₆ }))))))))

  close_has : (at : ℕ) → Ok (λ x n. CloseFits (close_means s x)) (close_at s at)
  unfolding close_at
  close_has at =
      ok_then _ _ (ok_any (list_of_at 1 s at)) (λ list n₀ h₀.
      ok_then _ _ (ok_any (optional octets_at s n₀)) (λ signature n₁ h₁. ok_got _ _ (record { global_signature = each_bytes s signature b })))

  list_start_has : (at : ℕ) → Ok (λ x n. ListStartFits (list_start_means s x)) (list_start_at s at)
  unfolding list_start_at
  list_start_has at =
      ok_then _ _ (ok_any (list_of_at 7 s at)) (λ list n₀ h₀.
      ok_then _ _ (ok_any (optional octets_at s n₀)) (λ client_id n₁ h₁.
      ok_then _ _ (ok_any (octets_at s n₁)) (λ server_id n₂ h₂.
      ok_then _ _ (ok_any (optional octets_at s n₂)) (λ name n₃ h₃.
      ok_then _ _ (opt_time_has n₃) (λ time n₄ h₄.
      ok_then _ _ (ok_any (tlf_at s n₄)) (λ entries n₅ h₅. ok_guard _ _ _ (λ e.
      ok_got _ _ (record { client_id = each_bytes s client_id b; server_id = part_bytes s server_id b; list_name = each_bytes s name b; act_sensor_time = h₄ }))))))))

  list_end_has : (at : ℕ) → Ok (λ x n. ListEndFits (list_end_means s x)) (list_end_at s at)
  unfolding list_end_at
  list_end_has at =
      ok_then _ _ (ok_any (optional octets_at s at)) (λ signature n₁ h₁.
      ok_then _ _ (opt_time_has n₁) (λ time n₂ h₂. ok_got _ _ (record { list_signature = each_bytes s signature b; act_gateway_time = h₂ })))

  content_has : (place tag at : ℕ) → Ok (λ x n. BodyFits (body_means s x)) (content_at s place tag at)
  unfolding content_at
  content_has place tag at =
      ok_cond (eqb tag 0x00000101) _ _ (λ e. ok_then _ _ (open_has at) (λ x n h. ok_got {P = λ (x : Body Span) (n : ℕ). BodyFits (body_means s x)} (open_body x) n h)) (λ e.
      ok_cond (eqb tag 0x00000201) _ _ (λ e. ok_then _ _ (close_has at) (λ x n h. ok_got {P = λ (x : Body Span) (n : ℕ). BodyFits (body_means s x)} (close_body x) n h)) (λ e.
      ok_cond (eqb tag 0x00000701) _ _ (λ e. ok_then _ _ (list_start_has at) (λ x n h. ok_got {P = λ (x : Body Span) (n : ℕ). BodyFits (body_means s x)} (list_body x) n h)) (λ e.
      record { holds = tt })))

  body_has : (at : ℕ) → Ok (λ x n. BodyFits (body_means s x)) (body_at s at)
  unfolding body_at
  body_has at = ok_then _ _ (ok_any (list_of_at 2 s at)) (λ list n₀ h₀. ok_then _ _ (ok_any (unsigned_at 4 s n₀)) (λ tag n₁ h₁. content_has n₀ tag n₁))

  start_has : (at : ℕ) → Ok (λ x n. StartFits (start_means s x)) (start_at s at)
  unfolding start_at
  start_has at =
      ok_then _ _ (ok_any (list_of_at 6 s at)) (λ list n₀ h₀.
      ok_then _ _ (ok_any (octets_at s n₀)) (λ transaction_id n₁ h₁.
      ok_then _ _ (unsigned_ok 1 s n₁ (bytes_of b)) (λ group_no n₂ h₂.
      ok_then _ _ (unsigned_ok 1 s n₂ (bytes_of b)) (λ abort_on_error n₃ h₃.
      ok_then _ _ (body_has n₃) (λ body n₄ h₄.
      ok_got _ _ (record { transaction_id = part_bytes s transaction_id b; group_no = h₂.0; abort_on_error = h₃.0; message_body = h₄ }))))))

  entries_has : (k at : ℕ) → Ok (λ xs n. (k ≡ length (map (entry_means s) xs)) × EntriesFit (map (entry_means s) xs)) (entries_at k s at)
  unfolding many
  entries_has zero at = ok_got {P = λ (xs : List (ListEntry Span)) (n : ℕ). (zero ≡ length (map (entry_means s) xs)) × EntriesFit (map (entry_means s) xs)} [] at (refl, tt)
  entries_has (suc k) at =
      ok_then _ _ (entry_has at) (λ e n h.
      ok_then _ _ (entries_has k n) (λ es m q.
      ok_got {P = λ (xs : List (ListEntry Span)) (n : ℕ). (suc k ≡ length (map (entry_means s) xs)) × EntriesFit (map (entry_means s) xs)} (e ∷ es) m (ap suc q.0, (h, q.1))))

  rest_has : (y : Body Span) (at : ℕ) → Ok (λ c n. ContentFits (body_means s y) (content_means s c)) (content_of y s at)
  unfolding content_of
  rest_has (open_body x) at = ok_got _ _ (refl, refl)
  rest_has (close_body x) at = ok_got _ _ (refl, refl)
  rest_has (list_body x) at =
      ok_then _ _ (entries_has x.num_vals at) (λ es n q.
      ok_then _ _ (list_end_has n) (λ e m h. ok_got _ _ (q.0, q.1, h)))

  message_has : (at : ℕ) → Ok (λ x n. MessageFits (message_means s x)) (message_at s at)
  unfolding message_at
  message_has at =
      ok_then _ _ (start_has at) (λ start n₁ h₁.
      ok_then _ _ (rest_has start.message_body n₁) (λ content n₂ h₂.
      ok_then _ _ (ok_any (trailer_at s at n₂)) (λ trailer n₃ h₃.
      ok_got _ _ (record { start = h₁; content = h₂ }))))

-- a message that was read can be written
pub read_fits : (s : List ℕ) (at : ℕ) (x : Message Span) (n : ℕ) → OnlyBytes s → message_at s at ≡ got x n → MessageFits (message_means s x)
read_fits s at x n b e = ok_at (sym e) (message_has s b at)

-- and is then read with the meaning that it had
pub written_again : (s : List ℕ) (at : ℕ) (x : Message Span) (n : ℕ) (pre l : List ℕ) → OnlyBytes s → message_at s at ≡ got x n
    → length (pre ++ (write_message (message_means s x) ++ l)) ≤ 1048576 → ReadBack (message_means s x) pre l
written_again s at x n pre l b e h = message_back (message_means s x) pre l (read_fits s at x n b e) h
