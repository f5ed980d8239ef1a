use mathlib.Core.Path.{sym, ◌∙◌}
use lib.ListN.{length}
use Rattle.streaming.specs.Answers.{reader_after}
use Rattle.bench.proofs.Events.{events_more}
use Rattle.bench.proofs.bench_events.Goals as goal

pub loop-n-preserved : goal.loop-n-preserved
loop-n-preserved c =
    let l = c.loop-n in
    let s = c.args.input.now in
    let r = c.parse_next-r in
    events_more s l.reader.place l.reader.start l.reader.pending l.n (length s) (reader_after r.result) c.loop-n-test.true r.ensures (sym c.is_event.ensures ∙ c.if-not-is_event.false) ∙ l.invariant
