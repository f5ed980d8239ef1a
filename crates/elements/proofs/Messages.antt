-- Where the event reader accepts a message, the walk over it ends at the same place.
use mathlib.Core.List.{List}
use Prim.Native.Nat.{ℕ, zero, suc}
use lib.Dec.{eqb}
use Rattle.refusals.specs.Read.{many}
use Rattle.tlf.specs.Lengths.{tlf_at}
use Rattle.refusals.specs.declared.Span.{Span}
use Rattle.refusals.proofs.Read.{Ok, ok_any, ok_got, ok_guard, ok_cond, ok_weak, ok_then}
use Rattle.message.specs.Messages.{ListStart, Body, list_body, list_start_at, list_end_at, content_at, body_at, start_at}
use Rattle.trailer.specs.Trailer.{trailer_at}
use Rattle.events.specs.Message.{entries_at, content_of, message_at}
use Rattle.elements.proofs.Spans.{EndsHere, SeveralEnd, none_ends, another_ends, Walks, list_of_lem, head_walks}
use Rattle.elements.proofs.Leaves.{octets_walks, unsigned_walks, opt_octets_walk, opt_time_walk}
use Rattle.elements.proofs.Fields.{entry_walks, open_walks, close_walks, end_walks}

-- how deep lists may open in a message's parts, where d more may open inside a time
abbrev in_entries : ℕ → ℕ
in_entries d = suc (suc (suc d))

abbrev in_list : ℕ → ℕ
in_list d = suc (in_entries d)

abbrev in_body : ℕ → ℕ
in_body d = suc (in_list d)

abbrev in_message : ℕ → ℕ
in_message d = suc (in_body d)

entries_walk : (d k : ℕ) (s : List ℕ) (at : ℕ) → Ok (λ es n. SeveralEnd (in_entries d) s k at n) (entries_at k s at)
unfolding many
entries_walk d zero s at = ok_got _ _ none_ends
entries_walk d (suc k) s at =
    ok_then _ _ (entry_walks d s at) (λ e n w. ok_then _ _ (entries_walk d k s n) (λ es m r. ok_got _ _ (another_ends w r)))

-- what a list response still lacks behind its entries' head, to be an element that began at `at`: entries, signature and time
abbrev Lacks : ℕ → ℕ → List ℕ → ℕ → ℕ → ℕ → Type 0
Lacks d D s count at n = (n₁ n₂ n₃ : ℕ) → SeveralEnd (in_entries d) s count n n₁ → EndsHere (in_list d) s n₁ n₂ → EndsHere (in_list d) s n₂ n₃ → EndsHere D s at n₃

start_walks : (d : ℕ) (s : List ℕ) (at : ℕ) → Ok (λ (b : ListStart Span) n. Lacks d (in_body d) s b.num_vals at n) (list_start_at s at)
unfolding list_start_at
start_walks d s at =
    ok_then _ _ (head_walks 7 s at) (λ list n₀ h.
    ok_then _ _ (opt_octets_walk (in_list d) s n₀) (λ clientId n₁ w₁.
    ok_then _ _ (octets_walks (in_list d) s n₁) (λ serverId n₂ w₂.
    ok_then _ _ (opt_octets_walk (in_list d) s n₂) (λ name n₃ w₃.
    ok_then _ _ (opt_time_walk (in_entries d) s n₃) (λ time n₄ w₄.
    ok_then _ _ (ok_any (tlf_at s n₄)) (λ t n₅ e. ok_guard _ _ _ (λ g.
    ok_got _ _ (λ m₁ m₂ m₃ r x y. h (in_list d) m₃ (another_ends w₁ (another_ends w₂ (another_ends w₃ (another_ends w₄ (another_ends (list_of_lem e g r) (another_ends x (another_ends y none_ends)))))))))))))))

-- behind a body, or a list's head in it, the content that follows makes an element of depth D that began at `start`
pub record OpensElement (d D : ℕ) (s : List ℕ) (start at : ℕ) (b : Body Span) : Type 0 where
  pub whole : Ok (λ c n. EndsHere D s start n) (content_of b s at)

opens_list : (d D : ℕ) (s : List ℕ) (start at : ℕ) (b : ListStart Span) → Lacks d D s b.num_vals start at → OpensElement d D s start at (list_body b)
unfolding content_of list_end_at
opens_list d D s start at b f =
    record {
      whole =
          ok_then _ _ (entries_walk d b.num_vals s at) (λ es n₁ r.
          ok_then _ _ (ok_then _ _ (opt_octets_walk (in_list d) s n₁) (λ signature n₂ w₁. ok_then _ _ (opt_time_walk (in_entries d) s n₂) (λ time n₃ w₂. ok_got _ _ (f n₁ n₂ n₃ r w₁ w₂))))
          (λ end n w. ok_got _ _ w));
    }

content_opens : (d : ℕ) (s : List ℕ) (place tag at : ℕ) → Ok (λ b n. OpensElement d (in_body d) s at n b) (content_at s place tag at)
unfolding content_at content_of
content_opens d s place tag at =
    ok_cond (eqb tag 0x00000101) _ _ (λ e. ok_then _ _ (open_walks (in_entries d) s at) (λ b n w. ok_got _ _ (record { whole = ok_got _ _ w })))
    (λ e. ok_cond (eqb tag 0x00000201) _ _ (λ e₁. ok_then _ _ (close_walks (in_list d) s at) (λ b n w. ok_got _ _ (record { whole = ok_got _ _ w })))
    (λ e₁. ok_cond (eqb tag 0x00000701) _ _ (λ e₂. ok_then _ _ (start_walks d s at) (λ b n f. ok_got _ _ (opens_list d (in_body d) s at n b f)))
    (λ e₂. record { holds = tt })))

body_opens : (d : ℕ) (s : List ℕ) (at : ℕ) → Ok (λ b n. OpensElement d (in_message d) s at n b) (body_at s at)
unfolding body_at
body_opens d s at =
    ok_then _ _ (head_walks 2 s at) (λ list n₀ h.
    ok_then _ _ (unsigned_walks 4 (in_body d) s n₀) (λ tag n₁ w₁.
    ok_weak (λ b n o. record { whole = ok_weak (λ c m x. h (in_body d) m (another_ends w₁ (another_ends x none_ends))) o.whole }) (content_opens d s n₀ tag n₁)))

-- a message's start: behind its content, CRC and end byte make it whole
abbrev Closes : ℕ → List ℕ → ℕ → ℕ → Type 0
Closes d s start at = (n₁ n₂ : ℕ) → EndsHere (in_message d) s at n₁ → EndsHere (in_message d) s n₁ n₂ → EndsHere (suc (in_message d)) s start n₂

pub record StartsMessage (d : ℕ) (s : List ℕ) (start at : ℕ) (b : Body Span) : Type 0 where
  pub content : Ok (λ c n. Closes d s start n) (content_of b s at)

start_opens : (d : ℕ) (s : List ℕ) (at : ℕ) → Ok (λ m n. StartsMessage d s at n m.message_body) (start_at s at)
unfolding start_at
start_opens d s at =
    ok_then _ _ (head_walks 6 s at) (λ list n₀ h.
    ok_then _ _ (octets_walks (in_message d) s n₀) (λ transactionId n₁ w₁.
    ok_then _ _ (unsigned_walks 1 (in_message d) s n₁) (λ groupNo n₂ w₂.
    ok_then _ _ (unsigned_walks 1 (in_message d) s n₂) (λ abortOnError n₃ w₃.
    ok_then _ _ (body_opens d s n₃) (λ body n₄ o.
    ok_got _ _ (record { content = ok_weak (λ c m x. λ p q y z. h (in_message d) q (another_ends w₁ (another_ends w₂ (another_ends w₃ (another_ends x (another_ends y (another_ends z none_ends))))))) o.whole }))))))

trailer_walks : (d : ℕ) (s : List ℕ) (start at : ℕ) → Closes d s start at → Ok (λ u n. EndsHere (suc (in_message d)) s start n) (trailer_at s start at)
unfolding trailer_at
trailer_walks d s start at f =
    ok_then _ _ (unsigned_walks 2 (in_message d) s at) (λ crc n₁ w₁.
    ok_then _ _ (end_walks (in_message d) s n₁) (λ end n₂ w₂. ok_guard _ _ _ (λ e. ok_got _ _ (f n₁ n₂ w₁ w₂))))

-- seven lists, where the deepest are those of times in a value; d more may open
pub message_walks : (d : ℕ) (s : List ℕ) (at : ℕ) → Ok (Walks (suc (in_message d)) s at) (message_at s at)
unfolding message_at
message_walks d s at =
    ok_then _ _ (start_opens d s at) (λ start n₁ o.
    ok_then _ _ o.content (λ content n₂ f.
    ok_then _ _ (trailer_walks d s at n₂ f) (λ trailer n₃ w. ok_got _ _ w)))
