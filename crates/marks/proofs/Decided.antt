-- What each crate proves of its own functions, joined.
use Rattle.crc_x25.proofs.Decided as Crc
use Rattle.refusals.proofs.Decided as Refusals
use Rattle.tlf.proofs.Decided as Tlf
use Rattle.numbers.proofs.Decided as Numbers
use Rattle.octet_string.proofs.Decided as OctetString
use Rattle.byte_count.proofs.Decided as ByteCount
use Rattle.encoder.proofs.Decided as Encoder
use Rattle.search.proofs.Decided as Search
use Rattle.decoder.proofs.Decided as Decoder
use Rattle.in_place.proofs.Decided as InPlace
use Rattle.decoder_slice.proofs.Decided as Slice
use Rattle.packed.proofs.Decided as Packed
use Rattle.lines.proofs.Decided as Lines
use Rattle.value.proofs.Decided as Value
use Rattle.common.proofs.Decided as Common
use Rattle.message.proofs.Decided as Message
use Rattle.trailer.proofs.Decided as Trailer
use Rattle.streaming.proofs.Decided as Streaming
use Rattle.parser.proofs.Decided as Parser
use Rattle.writer.proofs.Decided as Writer
use Rattle.whole.proofs.Decided as Whole
use Rattle.name_order.proofs.Decided as NameOrder
use Rattle.index.proofs.Decided as Index
use Rattle.walk.proofs.Decided as Walk
use Rattle.losses.proofs.Decided as Losses
use Rattle.words.proofs.Decided as Words
use Rattle.sartrogheo.proofs.Decided as Library
use Rattle.marks.specs.Decided.{Views, Decided}

pub views : Views
views =
    record {
      refusals = Refusals.views;
      tlf = Tlf.views;
      numbers = Numbers.views;
      octet_string = OctetString.views;
      encoder = Encoder.views;
      decoder = Decoder.views;
      in_place = InPlace.views;
      decoder_slice = Slice.views;
      packed = Packed.views;
      lines = Lines.views;
      value = Value.views;
      common = Common.views;
      message = Message.views;
      streaming = Streaming.views;
      parser = Parser.views;
      writer = Writer.views;
      whole = Whole.views;
      index = Index.views;
      walk = Walk.views;
      losses = Losses.views;
      words = Words.views;
    }

pub decided : Decided
decided =
    record {
      crc_x25 = Crc.decided;
      refusals = Refusals.decided;
      tlf = Tlf.decided;
      numbers = Numbers.decided;
      octet_string = OctetString.decided;
      byte_count = ByteCount.decided;
      encoder = Encoder.decided;
      search = Search.decided;
      decoder = Decoder.decided;
      in_place = InPlace.decided;
      decoder_slice = Slice.decided;
      packed = Packed.decided;
      lines = Lines.decided;
      value = Value.decided;
      common = Common.decided;
      message = Message.decided;
      trailer = Trailer.decided;
      streaming = Streaming.decided;
      parser = Parser.decided;
      writer = Writer.decided;
      whole = Whole.decided;
      name_order = NameOrder.decided;
      index = Index.decided;
      walk = Walk.decided;
      losses = Losses.decided;
      words = Words.decided;
      library = Library.decided;
    }
