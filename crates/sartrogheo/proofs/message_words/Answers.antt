use mathlib.Core.Path.{◌∙◌}
use Rattle.sartrogheo.proofs.Wholes.{words_in}
use Rattle.sartrogheo.proofs.message_words.Goals as goal

pub returns : goal.returns
returns c = words_in _ _ _ (c.copy_from_slice.ensures.after ∙ c.event_words.ensures) (c.copy_from_slice-2.ensures.after ∙ c.last_words.ensures)
