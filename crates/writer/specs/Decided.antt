-- check: mark 1 of crate writer. Its contracts allow one outcome for each input, and its views lose nothing. Each crate has such a file.
use Rattle.std.specs.Prelude.{◌≡◌, List, ℕ, Result}
use Rattle.common.specs.Answers.{open_response, close_response, list_entry}
use Rattle.common.specs.declared.OpenResponse.{OpenResponse}
use Rattle.common.specs.declared.CloseResponse.{CloseResponse}
use Rattle.common.specs.declared.ListEntry.{ListEntry}
use Rattle.message.specs.Messages.{open_body, close_body}
use Rattle.message.specs.Answers.{list_start, list_end}
use Rattle.message.specs.declared.GetListResponseStart.{GetListResponseStart}
use Rattle.message.specs.declared.GetListResponseEnd.{GetListResponseEnd}
use Rattle.writer.specs.Calls.{whole_to, start_to, entry_to, end_to}
use Rattle.writer.specs.Answers.{place_written, list_written, after_write}
use Rattle.writer.specs.declared.Head.{Head}
use Rattle.writer.specs.declared.WriteError.{WriteError}
use Rattle.writer.specs.declared.ListWriter.{ListWriter}
use Rattle.decided.specs.One.{One, With, Injective}

-- every view that a contract cites, of the answer together with the memory
pub record Views : Type 0 where
  pub whole : Injective (λ (r : With (Result ℕ WriteError)). after_write (place_written r.answer) r.memory)
  pub list : Injective (λ (r : With (Result ListWriter WriteError)). after_write (list_written r.answer) r.memory)

-- every public function: over its parameters, what its `ensures` allows. A slice that is lent stands for what it holds at the call
pub record Decided : Type 0 where
  pub write_open : (out : List ℕ) (at : ℕ) (strings : List ℕ) (head : Head) («open» : OpenResponse) → One (λ (r : With (Result ℕ WriteError)). after_write (place_written r.answer) r.memory ≡ whole_to out at strings head (open_body (open_response «open»)))
  pub write_close : (out : List ℕ) (at : ℕ) (strings : List ℕ) (head : Head) (close : CloseResponse) → One (λ (r : With (Result ℕ WriteError)). after_write (place_written r.answer) r.memory ≡ whole_to out at strings head (close_body (close_response close)))
  pub write_list_start : (out : List ℕ) (at : ℕ) (strings : List ℕ) (head : Head) (list : GetListResponseStart) → One (λ (r : With (Result ListWriter WriteError)). after_write (list_written r.answer) r.memory ≡ start_to out at strings head (list_start list))
  pub write_list_entry : (out : List ℕ) (w : ListWriter) (strings : List ℕ) (entry : ListEntry) → One (λ (r : With (Result ListWriter WriteError)). after_write (list_written r.answer) r.memory ≡ entry_to out w strings (list_entry entry))
  pub write_list_end : (out : List ℕ) (w : ListWriter) (strings : List ℕ) (end : GetListResponseEnd) → One (λ (r : With (Result ListWriter WriteError)). after_write (list_written r.answer) r.memory ≡ end_to out w strings (list_end end))
