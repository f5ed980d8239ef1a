-- Numbers, strings, Booleans, times, and fields that are absent: the walk ends where their reading does.
use mathlib.Core.Path.{◌≡◌, refl, sym}
use mathlib.Core.List.{List}
use mathlib.Core.Bool.{Bool, true, false, ◌&&◌}
use Prim.Native.Nat.{ℕ, suc, ◌+◌, ◌<◌}
use native.Mathlib.Omega.{arith}
use native.Mathlib.Nat.{add-sub_cancel_left}
use lib.ListN.{length, get_or}
use lib.Dec.{ltb, leb, eqb}
use borrow.Author.Tests.{ltb-true, eqb-true, lt-ltb}
use Rattle.refusals.specs.Read.{Read, got, then, guard, need, byte_at, span_at}
use Rattle.tlf.specs.Lengths.{tlf_at, less_own, is_list, is_boolean}
use Rattle.tlf.specs.declared.Ty.{Ty}
use Rattle.tlf.specs.declared.Ty.TheVariants.{OctetString, Boolean, Integer, Unsigned, ListOf}
use Rattle.refusals.proofs.Read.{Ok, ok_any, ok_got, ok_guard, ok_cond, ok_weak, ok_then, and_left, and_right, byte_ok, span_room}
use Rattle.tlf.proofs.Lengths.{length_stop}
use Rattle.numbers.specs.Numbers.{bytes_at_claim, is_number, raw_from, raw_at, unsigned_at, signed_at, bool_from, bool_at}
use Rattle.octet_string.specs.Strings.{is_octets, octets_at}
use Rattle.octet_string.specs.Optional.{absent_at, optional}
use Rattle.value.specs.Values.{is_bare_time, time_at}
use Rattle.elements.proofs.Spans.{EndsHere, none_ends, another_ends, leaf_of, head_of_lem, Walks}

octets_no_list : (ty : Ty) → is_octets ty ≡ true → is_list ty ≡ false
octets_no_list OctetString e = refl
octets_no_list Boolean e = refl
octets_no_list Integer e = refl
octets_no_list Unsigned e = refl
octets_no_list ListOf e = sym e

number_no_list : (signed : Bool) (ty : Ty) → is_number signed ty ≡ true → is_list ty ≡ false
number_no_list signed OctetString e = refl
number_no_list signed Boolean e = refl
number_no_list signed Integer e = refl
number_no_list signed Unsigned e = refl
number_no_list signed ListOf e = sym e

truth_no_list : (ty : Ty) → is_boolean ty ≡ true → is_list ty ≡ false
truth_no_list OctetString e = refl
truth_no_list Boolean e = refl
truth_no_list Integer e = refl
truth_no_list Unsigned e = refl
truth_no_list ListOf e = sym e

pub octets_walks : (d : ℕ) (s : List ℕ) (at : ℕ) → Ok (Walks d s at) (octets_at s at)
unfolding octets_at
octets_walks d s at =
    ok_then _ _ (ok_any (tlf_at s at)) (λ t n e. ok_guard _ _ _ (λ g.
    ok_weak (λ p m l. leaf_of e (octets_no_list t.ty g) l) (ok_any (span_at s n t.len))))

raw_walks : (signed : Bool) (width : ℕ) (d : ℕ) (s : List ℕ) (at : ℕ) → Ok (Walks d s at) (raw_at signed width s at)
unfolding raw_at raw_from bytes_at_claim
raw_walks signed width d s at =
    ok_then _ _ (ok_any (tlf_at s at)) (λ t n e. ok_guard _ _ _ (λ g.
    ok_then _ _ (ok_then _ _ (ok_any (span_at s n t.len)) (λ p m l. ok_got _ _ (leaf_of e (number_no_list signed t.ty (and_left _ (leb 1 t.len && leb t.len width) g)) l)))
    (λ v m w. ok_got _ _ w)))

pub unsigned_walks : (width d : ℕ) (s : List ℕ) (at : ℕ) → Ok (Walks d s at) (unsigned_at width s at)
unfolding unsigned_at
unsigned_walks width d s at = ok_then _ _ (raw_walks false width d s at) (λ a n w. ok_got _ _ w)

pub signed_walks : (width d : ℕ) (s : List ℕ) (at : ℕ) → Ok (Walks d s at) (signed_at width s at)
unfolding signed_at
signed_walks width d s at = ok_then _ _ (raw_walks true width d s at) (λ a n w. ok_got _ _ w)

pub bool_walks : (d : ℕ) (s : List ℕ) (at : ℕ) → Ok (Walks d s at) (bool_at s at)
unfolding bool_at bool_from
bool_walks d s at =
    ok_then _ _ (ok_any (tlf_at s at)) (λ t n e. ok_guard _ _ _ (λ g.
    ok_then _ _ (byte_ok s n) (λ b m h.
    let a = h.2 in
    ok_got _ _ (rw h.1 (leaf_of {p = record { start = n; len = 1 }} e (truth_no_list t.ty (and_left _ (eqb t.len 1) g))
    (rw (eqb-true t.len 1 (and_right (is_boolean t.ty) _ g)) (span_room s n 1 (omega (arith, a.within, h.1)))))))))

-- the byte 01 is an empty octet string
one_read : (s : List ℕ) (at : ℕ) → at < length s → get_or s at 0 ≡ 1 → tlf_at s at ≡ got (record { ty = OctetString; len = 0 }) (at + 1)
unfolding tlf_at byte_at then guard need less_own
one_read s at h f = rw (lt-ltb _ _ h, f, length_stop, add-sub_cancel_left at 1)

absent_walks : (d : ℕ) (s : List ℕ) (at : ℕ) → absent_at s at ≡ true → EndsHere d s at (at + 1)
unfolding absent_at
absent_walks d s at e =
    let h : at < length s = ltb-true at (length s) (and_left _ (eqb (get_or s at 0) 1) e) in
    let z : at + 1 + 0 ≡ at + 1 = omega arith in
    leaf_of {t = record { ty = OctetString; len = 0 }} {n = at + 1}
    (one_read s at h (eqb-true (get_or s at 0) 1 (and_right (ltb at (length s)) _ e))) refl
    (rw z at (span_room s (at + 1) 0 (omega arith)))

pub optional_walks : {A : Type 0} (read : List ℕ → ℕ → Read A) (d : ℕ) (s : List ℕ) (at : ℕ) → Ok (Walks d s at) (read s at) → Ok (Walks d s at) (optional read s at)
unfolding optional
optional_walks read d s at h =
    ok_cond (absent_at s at) _ _ (λ e. ok_got _ _ (absent_walks d s at e)) (λ e. ok_then _ _ h (λ a n w. ok_got _ _ w))

pub time_walks : (d : ℕ) (s : List ℕ) (at : ℕ) → Ok (Walks (suc d) s at) (time_at s at)
unfolding time_at
time_walks d s at =
    ok_then _ _ (ok_any (tlf_at s at)) (λ t n e. ok_cond (is_bare_time t) _ _ (λ g. unsigned_walks 4 (suc d) s at)
    (λ g. ok_guard _ _ _ (λ g₂. ok_then _ _ (unsigned_walks 1 d s n) (λ tag n₁ w₁. ok_guard _ _ _ (λ g₃.
    ok_weak (λ v n₂ w₂. head_of_lem 2 e g₂ d n₂ (another_ends w₁ (another_ends w₂ none_ends))) (unsigned_walks 4 d s n₁))))))

pub opt_octets_walk : (d : ℕ) (s : List ℕ) (at : ℕ) → Ok (Walks d s at) (optional octets_at s at)
opt_octets_walk d s at = optional_walks octets_at d s at (octets_walks d s at)

pub opt_time_walk : (d : ℕ) (s : List ℕ) (at : ℕ) → Ok (Walks (suc d) s at) (optional time_at s at)
opt_time_walk d s at = optional_walks time_at (suc d) s at (time_walks d s at)
