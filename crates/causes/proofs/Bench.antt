-- The vectors of Q-10, by computing.
use mathlib.Core.Path.{refl}
use native.Mathlib.Omega.{arith}
use Rattle.crc_x25.specs.Crc.{reflect, polynomial, bit_step, bit_steps, byte_step, register, final_xor}
use Rattle.frame.specs.Frame.{same}
use Rattle.search.specs.Search.{greatest, most_matched}
use Rattle.decoder.specs.Push.{searching, store, finish, judge, step, finalized}
use Rattle.decoder.specs.Record.{wrote, bad_decoder, wrong_buffer, pushed, push_record, finalize_record}
use Rattle.decoder.specs.Run.{is_second}
use Rattle.losses.specs.Loss.{has_start, cause_of, next_behind, next_loss}
use Rattle.causes.specs.Bench.{frame_kept, LossBench}
use Rattle.causes.proofs.Tools.{our_tool}

pub our_bench : LossBench next_loss
unfolding reflect polynomial bit_step bit_steps byte_step register final_xor same greatest most_matched searching store finish judge step finalized wrote bad_decoder wrong_buffer pushed push_record finalize_record has_start cause_of next_behind next_loss
our_bench =
    record {
      stray = (refl, refl);
      stray_second = (refl, refl);
      zero_before = (refl, refl);
      new_start = (refl, refl);
      three_losses = (refl, (refl, (refl, refl)));
      no_room_claim = (refl, refl);
      wrong_crc = (refl, refl);
      hidden_between = (refl, refl);
      all_three = (refl, refl);
      one_pad_of_none = (refl, refl);
      two_pads_of_one = (refl, refl);
      three_pads_of_three = (refl, refl);
      two_starts_claim = (refl, (refl, refl));
      seven_of_a_start = (refl, refl);
      a_frame = refl;
      nothing_at_all = refl;
      no_capacity = (refl, (refl, refl));
      waits_at_the_end = (refl, (refl, refl));
      behind_five = (refl, (refl, refl));
      from_inside = (refl, refl);
      at_the_end_claim = refl;
      past_the_end = refl;
      far_past = refl;
      writes = refl;
      writes_the_start = refl;
      writes_what_fits = refl;
      writes_no_noise = refl;
      way_refused = refl;
      way_before_capacity = λ m long. refl;
      capacity_refused = λ m long. our_tool.too_large_claim frame_kept 2 m 0 (is_second refl) (omega arith);
    }
