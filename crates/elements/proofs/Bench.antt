-- The vectors of Q-4, by computing.
use mathlib.Core.Path.{refl}
use Rattle.refusals.specs.Read.{then, guard, need, byte_at, span_at}
use Rattle.tlf.specs.Lengths.{tlf_at, length_from, less_own}
use Rattle.walk.specs.Walk.{is_end_mark, item_at, take_item, walk_step, pass, walk_at}
use Rattle.elements.specs.Walkers.{our_walker}
use Rattle.elements.specs.Bench.{WalkBench}

pub walk_bench : WalkBench our_walker
unfolding then guard need byte_at span_at tlf_at length_from less_own is_end_mark item_at take_item walk_step pass walk_at
walk_bench =
    record {
      empty = refl;
      mark = refl;
      none = refl;
      none_in_two = refl;
      two_is_no_mark = refl;
      three = refl;
      any_content = refl;
      cut = refl;
      many_wanted = refl;
      sixteen = refl;
      seventeenth = refl;
      its_length_first = refl;
      its_bytes_first = refl;
      beside = refl;
      two_byte_length = refl;
      close_message_claim = refl;
      close_message_at = refl;
      beyond = refl;
      far_beyond = refl;
    }
