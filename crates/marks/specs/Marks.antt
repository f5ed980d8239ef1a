-- claim: the marks, all that this crate claims of ours, in one place. proofs/Marks.antt proves it.
use Rattle.std.specs.Prelude.{◌≡◌, List, [], ℕ, ◌≤◌, length}
use Rattle.refusals.specs.Numbers.{bad_span_no, limit}
use Rattle.decoder.specs.Push.{first_way, second_way, stopped}
use Rattle.decoder.specs.Record.{refusal, state_of, ask_record}
use Rattle.decoder.specs.Run.{KnownWay, Op}
use Rattle.decoder.specs.declared.Decoder.{Decoder}
use Rattle.decoder.specs.declared.Setup.{Setup}
use Rattle.search.specs.Found.{NoneWhole}
use Rattle.since.specs.Bytes.{since_from, Counted}
use Rattle.tlf.specs.Lengths.{tlf_at}
use Rattle.tlf.specs.Overflow.{Overflows}
use Rattle.words.specs.Claims.{BackClaims}
use Rattle.words.specs.Fakes.{BackFakes}
use Rattle.written.specs.Claims.{WrittenClaims}
use Rattle.written.specs.Fakes.{FallWriters}
use Rattle.one_call.specs.Readers.{our_whole_reader, GoodWholeReader, OnlyOurs}
use Rattle.one_call.specs.Bench.{WholeBench}
use Rattle.one_call.specs.Fakes.{FallWholeReaders}
use Rattle.by_name.specs.Indexes.{our_indexer, our_finder, GoodIndexer, JudgesTables, AlwaysTables, AlwaysFindsFirst, OnlyOurIndexer, OnlyOurFinder, NeverReadsOn}
use Rattle.by_name.specs.Bench.{IndexBench, LookupBench}
use Rattle.by_name.specs.Fakes.{FallIndexes}
use Rattle.losses.specs.Loss.{next_loss}
use Rattle.causes.specs.Tools.{GoodTool, OnlyOurTool, AlwaysByLength, AlwaysWithin}
use Rattle.causes.specs.Calls.{AlwaysTellsAll}
use Rattle.causes.specs.Hidden.{AlwaysHiddenExactly, AlwaysRunsFromAStart}
use Rattle.causes.specs.Watchers.{our_watcher, GoodWatcher}
use Rattle.causes.specs.Bench.{LossBench}
use Rattle.causes.specs.Fakes.{FallTools}
use Rattle.elements.specs.Walkers.{our_walker, GoodWalker, OnlyOurWalker, NeverLooksFurther, AlwaysEndsWithMessages}
use Rattle.elements.specs.ItemReaders.{our_item_reader, ReadsItems, OnlyOurItems}
use Rattle.elements.specs.Sights.{AlwaysSeesElements}
use Rattle.elements.specs.Bench.{WalkBench}
use Rattle.elements.specs.Fakes.{FallWalkers}
use Rattle.places.specs.Readers.{Readers}
use Rattle.places.specs.Fakes.{FallReaders}
use Rattle.marks.specs.Decided.{Views, Decided}
use Rattle.marks.specs.Decoders.{Gave, LeftBehind, ours, answers, behind_of, left_behind, count_since}
use Rattle.marks.specs.Mark2.{Soundness, Completeness, Ready, OurSearch}
use Rattle.marks.specs.Mark3.{our_encode, Mark3}
use Rattle.marks.specs.Hides.{Hides}
use Rattle.marks.specs.Chunks.{our_slicer, Chunks}
use Rattle.marks.specs.Larger.{Larger, LargerBySlices, LargerAsked, LargerCutAnyhow}
use Rattle.marks.specs.Second.{Begins, SearchesAgain, HearsBehindNoise, OurSeeks, OurBegun}
use Rattle.marks.specs.Ways.{our_way, KeepsWay, RefusesUnknown}
use Rattle.marks.specs.Packed.{our_host, RoundTrip, Exactly, PacksWhatPushes, PacksInOrder, ActsAlike, SlicesAlike, HandsAlike, Serves, LeavesRefused, LeavesTidy, AnswersAlike}
use Rattle.marks.specs.Encoders.{our_encoder, SameBytes}
use Rattle.marks.specs.Events.{our_reader, our_parser, ReaderGives, GoesOn, reader_with, parser_with, ListsEntries, SaysWhere, CallSaysWhere, TenAgain}
use Rattle.marks.specs.Library.{Library, our_library, HearsNew, HearsDecoder, HearsEncode, HearsEncoder, HearsCrc, reader_by, HearsReader, HearsWriter, HearsWhole, HearsIndex, HearsWalk, HearsLosses, HearsOurs, MarksBy, LossesBy}
use Rattle.marks.specs.Bench.{b5_second, Holds, Bench}
use Rattle.marks.specs.Fakes.{NotOurs, Fall}
use Rattle.marks.specs.FakeHosts.{FallHosts}
use Rattle.marks.specs.FakeLarger.{FallLarger}
use Rattle.marks.specs.FakeLibraries.{FallLibraries}

pub record Marks : Type 0 where
  -- mark 1: one outcome for each input
  pub views : Views
  pub decided : Decided
  -- mark 2: payloads only of sound frames, and of every sound frame that fits; a new decoder of either way is such a search, and so is what any operations with one buffer leave, wherever its state is `Ready`
  pub soundness : Soundness ours
  pub completeness : Completeness ours OurSearch
  pub new_searches : (C : Setup) (m : List ℕ) → KnownWay C.way → length m ≡ C.capacity → C.capacity ≤ limit → OurSearch C (ours.new C) m 0
  pub reached_searches : (C : Setup) (m : List ℕ) → KnownWay C.way → length m ≡ C.capacity → C.capacity ≤ limit → (os : List Op) (o : Op) (noise : ℕ)
      → let a : Gave Decoder = behind_of ours (ours.new C) m os o in
      Ready a.decoder.way a.decoder.state noise → OurSearch C a.decoder a.memory noise
  -- and what a stray 1b does to them in the first way
  pub hides : Hides first_way ours OurSearch
  -- the second way: when a frame begins, where it searches, and that noise in which no whole start sequence lies hides none; every search that is reached is one of completeness, its noise all bytes since it began
  pub begins : Begins ours OurSeeks OurBegun
  pub searches_again : SearchesAgain ours OurSeeks
  pub second_searches : (C : Setup) (m : List ℕ) → C.way ≡ second_way → length m ≡ C.capacity → C.capacity ≤ limit → (os : List Op)
      → let k : LeftBehind Decoder = left_behind ours (ours.new C) m os in
      OurSeeks k.decoder → OurSearch C k.decoder k.memory (stopped (count_since os (answers ours (ours.new C) m os)))
  pub hears_behind_noise : HearsBehindNoise NoneWhole ours our_encode OurSeeks
  -- the way is kept, and an unknown one refused; asked for, its payload is 16
  pub keeps_way : KeepsWay our_slicer our_way
  pub refuses_unknown : RefusesUnknown our_slicer our_way
  pub unknown_asked : (d : Decoder) (m : List ℕ) → (KnownWay (our_way d) → ⊥) → ask_record d m ≡ refusal bad_span_no []
  -- what the counts are in each state that is reached, in either way
  pub counts : (C : Setup) (m : List ℕ) → KnownWay C.way → length m ≡ C.capacity → C.capacity ≤ limit → (os : List Op)
      → let k : LeftBehind Decoder = left_behind ours (ours.new C) m os in
      Counted C (state_of k.decoder k.memory) (since_from [] os (answers ours (ours.new C) m os))
  -- slices, cut anyhow, say what single pushes say
  pub chunks : Chunks our_slicer
  -- a larger buffer takes nothing away: from operations, from slices among them, from the question for a payload behind them, and from bytes that each decoder is given in slices of its own
  pub larger : Larger ours
  pub larger_by_slices : LargerBySlices our_slicer
  pub larger_asked : LargerAsked our_slicer ask_record
  pub larger_cut_anyhow : LargerCutAnyhow our_slicer
  -- a decoder kept in 28 plain bytes: what is packed comes back, and exactly what packing gives is unpacked; packing answers 4 exactly where a push does, then 5 and 18 in order; each call over the bytes is the call over the record, pushes, finalize and reset also one after another; what is refused changes nothing, and calls leave no unused counts where there were none
  pub round_trips : RoundTrip our_host
  pub exactly : Exactly our_host
  pub packs_what_pushes : PacksWhatPushes our_host
  pub packs_in_order : PacksInOrder our_host
  pub acts_alike : ActsAlike our_host
  pub slices_alike : SlicesAlike our_host
  pub hands_alike : HandsAlike our_host
  pub serves : Serves our_host
  pub leaves_refused : LeavesRefused our_host
  pub leaves_tidy : LeavesTidy
  pub answers_alike : AnswersAlike our_host
  -- encode and the Encoder give the same bytes
  pub same_bytes : SameBytes our_encoder our_encode
  -- mark 3: behind zero bytes every frame is heard
  pub mark3 : Mark3 ours our_encode
  -- message events: those of the tables, call by call, from any numbers on; and of a list as many entries as its start says, or a refusal
  pub reader_gives : ReaderGives our_reader
  pub parser_gives : ReaderGives our_parser
  pub reader_goes_on : GoesOn our_reader reader_with
  pub parser_goes_on : GoesOn our_parser parser_with
  pub reader_lists : ListsEntries our_reader
  pub parser_lists : ListsEntries our_parser
  -- the library: what a caller hears of its calls is what ours say; so the reader's events are those of the tables. And of every library of which that is so soundness and mark 3 hold, a larger buffer takes nothing away, a whole message is read in one call, an index is built and asked, and any content is walked over. Who hears losses as ours tells each of them
  pub library_new : HearsNew our_library
  pub library_decoder : HearsDecoder our_library
  pub library_encode : HearsEncode our_library
  pub library_encoder : HearsEncoder our_library
  pub library_crc : HearsCrc our_library
  pub library_reader : HearsReader our_library
  pub library_writer : HearsWriter our_library
  pub library_whole : HearsWhole our_library
  pub library_index : HearsIndex our_library
  pub library_walk : HearsWalk our_library
  pub library_losses : HearsLosses our_library
  pub library_gives : ReaderGives (reader_by our_library)
  pub library_marks : (L : Library) → HearsOurs L → MarksBy L
  pub library_tells : (L : Library) → HearsLosses L → LossesBy L
  -- events in words: each is read back, and no other words are taken; and what that is false of
  pub words_back : BackClaims
  pub fall_words : BackFakes
  -- the writer of messages: what it writes is read back, in the fewest bytes; it takes what fits, counts entries, and refuses in order. And what that is false of
  pub writer : WrittenClaims
  pub fall_writers : FallWriters
  -- a whole message in one call: accepted exactly where the event reader runs to its end and the table has room, with the same fields; refused as it refuses, 20 last, and the table left; who does that does as ours. And what that is false of
  pub whole_reader : GoodWholeReader our_whole_reader
  pub only_whole : OnlyOurs
  pub whole_bench : WholeBench our_whole_reader
  pub fall_whole_readers : FallWholeReaders
  -- an index of entries: a whole message's rows, each once, strictly in order, and the rest as it was; refused as a reader of whole messages refuses. A lookup judges any table, 9 first, 16 exactly where it isn't sound, and speaks of its rows; in one that was built it finds the message's first entry with exactly that name, none exactly if no entry has it. Who does that does as ours. And what that is false of
  pub index : GoodIndexer our_indexer
  pub only_index : OnlyOurIndexer
  pub index_reads_on : NeverReadsOn
  pub lookup : JudgesTables our_finder
  pub only_lookup : OnlyOurFinder
  pub index_tables : AlwaysTables
  pub finds_first : AlwaysFindsFirst
  pub index_bench : IndexBench our_indexer
  pub lookup_bench : LookupBench our_finder
  pub fall_indexes : FallIndexes
  -- why bytes were lost: of any recording, way, buffer and place the next loss is told, each cause exactly if it is true of the bytes, 4 and 5 first, and the buffer is what the pushes leave. Who does that answers as ours does; so what is said depends on the buffer's length alone, and calls one behind another tell one loss for each refusal, which with the frames that were handed out are the recording. Hidden is named exactly in a search's bytes, and slices tell what calls tell. And what that is false of
  pub losses : GoodTool next_loss
  pub only_losses : OnlyOurTool
  pub losses_by_length : AlwaysByLength
  pub losses_within : AlwaysWithin
  pub losses_all : AlwaysTellsAll
  pub losses_hidden : AlwaysHiddenExactly
  pub losses_running : AlwaysRunsFromAStart
  pub losses_slices : GoodWatcher our_watcher
  pub losses_bench : LossBench next_loss
  pub fall_tools : FallTools
  -- a walk over any content: it measures exactly the elements of the grammar, and refuses exactly where one is broken off or wrong, 9 first. Who does that does as ours; so what follows isn't looked at, and it ends where a message that the event reader accepts does. An item is read exactly by the grammar's pieces, and who goes from item to item sees every element once, in order. And what that is false of
  pub walk : GoodWalker our_walker
  pub only_walk : OnlyOurWalker
  pub walk_looks : NeverLooksFurther
  pub walk_ends : AlwaysEndsWithMessages
  pub items : ReadsItems our_item_reader
  pub only_items : OnlyOurItems
  pub sees_elements : AlwaysSeesElements
  pub walk_bench : WalkBench our_walker
  pub fall_walkers : FallWalkers
  -- a length that passes 32 bits is refused, and no other is refused so
  pub overflows : Overflows tlf_at
  -- a refusal says where it broke: of every reader, of the calls on an input, of one call from any numbers; and what that is false of
  pub readers : Readers
  pub reader_says_where : SaysWhere our_reader
  pub parser_says_where : SaysWhere our_parser
  pub reader_call_says_where : CallSaysWhere our_reader reader_with
  pub parser_call_says_where : CallSaysWhere our_parser parser_with
  pub reader_ten_again : TenAgain our_reader reader_with
  pub parser_ten_again : TenAgain our_parser parser_with
  pub fall_readers : FallReaders
  -- B1 to B14, and B5 in the second way
  pub bench : Bench ours our_encode
  pub bench_second : Holds ours our_encode b5_second
  -- what is false of ours, and what the marks are false of
  pub not_ours : NotOurs
  pub fall : Fall
  pub fall_hosts : FallHosts
  pub fall_larger : FallLarger
  pub fall_libraries : FallLibraries
