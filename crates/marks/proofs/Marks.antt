-- All that is claimed, together.
use Rattle.tlf.proofs.Overflow.{overflows}
use Rattle.written.proofs.Claims.{written_claims}
use Rattle.written.proofs.Fakes.{fall_writers}
use Rattle.one_call.proofs.Readers.{ours_good}
use Rattle.one_call.proofs.Unique.{only_ours}
use Rattle.one_call.proofs.Bench.{whole_bench}
use Rattle.one_call.proofs.Fakes.{fall_whole_readers}
use Rattle.causes.proofs.Tools.{our_tool, only_our_tool}
use Rattle.causes.proofs.Calls.{tells_all, always_within, always_by_length}
use Rattle.causes.proofs.HiddenStarts.{hidden_exactly, runs_from}
use Rattle.causes.proofs.Watchers.{our_watcher_lem}
use Rattle.causes.proofs.Bench.{our_bench}
use Rattle.causes.proofs.Fakes.{fall_tools}
use Rattle.elements.proofs.Walkers.{our_walker_lem, only_our_walker, never_looks_further, always_ends_with_messages}
use Rattle.elements.proofs.ItemReaders.{our_items_lem, only_our_items}
use Rattle.elements.proofs.Sights.{always_sees_elements}
use Rattle.elements.proofs.Bench.{walk_bench}
use Rattle.elements.proofs.Fakes.{fall_walkers}
use Rattle.by_name.proofs.Indexes.{ours_good_index, ours_judges}
use Rattle.by_name.proofs.Unique.{only_our_indexer, only_our_finder, always_finds, always_tables}
use Rattle.by_name.proofs.Rest.{never_reads_on}
use Rattle.by_name.proofs.Bench.{index_bench, lookup_bench}
use Rattle.by_name.proofs.Fakes.{fall_indexes}
use Rattle.words.proofs.Back.{back_claims}
use Rattle.words.proofs.Fakes.{back_fakes}
use Rattle.places.proofs.Readers.{readers}
use Rattle.places.proofs.Fakes.{fall_readers}
use Rattle.marks.specs.Marks.{Marks}
use Rattle.marks.proofs.Decided.{views, decided}
use Rattle.marks.proofs.Soundness.{soundness}
use Rattle.marks.proofs.Completeness.{completeness, new_searches, reached_searches}
use Rattle.marks.proofs.HidesStart.{hides}
use Rattle.marks.proofs.Chunks.{chunks}
use Rattle.marks.proofs.Larger.{larger, larger_by_slices, larger_asked, larger_cut_anyhow}
use Rattle.marks.proofs.Second.{begins_exactly, searches_again, second_searches, reached_counts, hears_behind_noise}
use Rattle.marks.proofs.Ways.{keeps_way, refuses_unknown, unknown_asked}
use Rattle.marks.proofs.Packed.{round_trips, exactly, packs_what_pushes, packs_in_order, acts_alike, slices_alike, hands_out_alike, serves, leaves_refused, leaves_tidy, answers_alike}
use Rattle.marks.proofs.Encoders.{same_bytes}
use Rattle.marks.proofs.FakeHosts.{fall_hosts}
use Rattle.marks.proofs.Library.{hears_ours, library_gives}
use Rattle.marks.proofs.HeardLosses.{hears_losses, tells_by}
use Rattle.marks.proofs.LibraryMarks.{marks_by}
use Rattle.marks.proofs.FakeLarger.{fall_larger}
use Rattle.marks.proofs.FakeLibraries.{fall_libraries}
use Rattle.marks.proofs.Recovery.{mark3}
use Rattle.marks.proofs.Events.{reader_gives, parser_gives, reader_goes_on, parser_goes_on, reader_lists, parser_lists, reader_says_where, parser_says_where, reader_call_says_where, parser_call_says_where, reader_ten_again, parser_ten_again}
use Rattle.marks.proofs.Bench.{bench, bench_second}
use Rattle.marks.proofs.Fakes.{not_ours, fall}

pub marks : Marks
marks =
    record {
      views = views;
      decided = decided;
      soundness = soundness;
      completeness = completeness;
      new_searches = new_searches;
      reached_searches = reached_searches;
      hides = hides;
      begins = begins_exactly;
      searches_again = searches_again;
      second_searches = second_searches;
      hears_behind_noise = hears_behind_noise;
      keeps_way = keeps_way;
      refuses_unknown = refuses_unknown;
      unknown_asked = unknown_asked;
      counts = reached_counts;
      chunks = chunks;
      larger = larger;
      larger_by_slices = larger_by_slices;
      larger_asked = larger_asked;
      larger_cut_anyhow = larger_cut_anyhow;
      round_trips = round_trips;
      exactly = exactly;
      packs_what_pushes = packs_what_pushes;
      packs_in_order = packs_in_order;
      acts_alike = acts_alike;
      slices_alike = slices_alike;
      hands_alike = hands_out_alike;
      serves = serves;
      leaves_refused = leaves_refused;
      leaves_tidy = leaves_tidy;
      answers_alike = answers_alike;
      same_bytes = same_bytes;
      mark3 = mark3;
      reader_gives = reader_gives;
      parser_gives = parser_gives;
      reader_goes_on = reader_goes_on;
      parser_goes_on = parser_goes_on;
      reader_lists = reader_lists;
      parser_lists = parser_lists;
      library_new = hears_ours.new;
      library_decoder = hears_ours.decoder;
      library_encode = hears_ours.encode;
      library_encoder = hears_ours.encoder;
      library_crc = hears_ours.crc;
      library_reader = hears_ours.reader;
      library_writer = hears_ours.writer;
      library_whole = hears_ours.whole;
      library_index = hears_ours.index;
      library_walk = hears_ours.walk;
      library_losses = hears_losses;
      library_gives = library_gives;
      library_marks = marks_by;
      library_tells = tells_by;
      words_back = back_claims;
      fall_words = back_fakes;
      writer = written_claims;
      fall_writers = fall_writers;
      whole_reader = ours_good;
      only_whole = only_ours;
      whole_bench = whole_bench;
      fall_whole_readers = fall_whole_readers;
      index = ours_good_index;
      only_index = only_our_indexer;
      index_reads_on = never_reads_on;
      lookup = ours_judges;
      only_lookup = only_our_finder;
      index_tables = always_tables;
      finds_first = always_finds;
      index_bench = index_bench;
      lookup_bench = lookup_bench;
      fall_indexes = fall_indexes;
      losses = our_tool;
      only_losses = only_our_tool;
      losses_by_length = always_by_length;
      losses_within = always_within;
      losses_all = tells_all;
      losses_hidden = hidden_exactly;
      losses_running = runs_from;
      losses_slices = our_watcher_lem;
      losses_bench = our_bench;
      fall_tools = fall_tools;
      walk = our_walker_lem;
      only_walk = only_our_walker;
      walk_looks = never_looks_further;
      walk_ends = always_ends_with_messages;
      items = our_items_lem;
      only_items = only_our_items;
      sees_elements = always_sees_elements;
      walk_bench = walk_bench;
      fall_walkers = fall_walkers;
      overflows = overflows;
      readers = readers;
      reader_says_where = reader_says_where;
      parser_says_where = parser_says_where;
      reader_call_says_where = reader_call_says_where;
      parser_call_says_where = parser_call_says_where;
      reader_ten_again = reader_ten_again;
      parser_ten_again = parser_ten_again;
      fall_readers = fall_readers;
      bench = bench;
      bench_second = bench_second;
      not_ours = not_ours;
      fall = fall;
      fall_hosts = fall_hosts;
      fall_larger = fall_larger;
      fall_libraries = fall_libraries;
    }
