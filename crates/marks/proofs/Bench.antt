-- The bench sheet, by computation over the definitions that the contracts cite.
use mathlib.Core.Path.{refl}
use Rattle.crc_x25.specs.Crc.{reflect, polynomial, bit_step, bit_steps, byte_step, register, final_xor, crc_of}
use Rattle.frame.specs.Frame.{escaped, closed, frame_of, same}
use Rattle.encoder.specs.Encode.{encode_to}
use Rattle.refusals.specs.Read.{then, guard, need, byte_at, span_at}
use Rattle.tlf.specs.Lengths.{tlf_at, length_from, less_own}
use Rattle.numbers.specs.Numbers.{number, bytes_at_claim, raw_from, raw_at, unsigned_at, signed_of, signed_at}
use Rattle.octet_string.specs.Strings.{octets_at}
use Rattle.octet_string.specs.Optional.{absent_at, optional}
use Rattle.search.specs.Search.{greatest, most_matched}
use Rattle.decoder.specs.Push.{searching, store, finish, judge, step, finalized}
use Rattle.decoder.specs.Record.{wrote, bad_decoder, wrong_buffer, pushed, push_record, finalize_record}
use Rattle.decoder.specs.Run.{act}
use Rattle.marks.specs.Decoders.{ours, answers}
use Rattle.marks.specs.Mark3.{our_encode}
use Rattle.marks.specs.Bench.{said_from, b5_second, Holds, Bench}

pub bench : Bench ours our_encode
unfolding reflect polynomial bit_step bit_steps byte_step register final_xor crc_of escaped closed frame_of encode_to then guard need byte_at span_at tlf_at length_from less_own number bytes_at_claim raw_from raw_at unsigned_at signed_of signed_at octets_at absent_at optional searching store same finish judge step finalized wrote bad_decoder wrong_buffer pushed push_record finalize_record act answers said_from
bench = refl

pub bench_second : Holds ours our_encode b5_second
unfolding said_from answers reflect polynomial bit_step bit_steps byte_step register final_xor crc_of most_matched greatest same searching store finish judge step finalized wrote bad_decoder wrong_buffer pushed push_record finalize_record act
bench_second = refl
