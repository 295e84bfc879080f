use Rattle.std.proofs.Common.{◌+◌, Ok, Err, arith, []}
use Rattle.card_unit.specs.declared.reader.CardIo.TheVariants as io
use Rattle.card_unit.proofs.CardTexts.{dumped, dump_card, dump_stop, dump_done}
use Rattle.card_unit.proofs.Punching.{onward_card, card_broken, ended_now}
use Rattle.card_unit.proofs.punch.dump.Goals as goal

pub loop-a-preserved : goal.loop-a-preserved
loop-a-preserved g c =
    let card = dump_card c.args.core.now c.loop-a.a c.min-count.result c.size-size.result c.loop-a.invariant.long c.loop-a-test.true c.min-count.ensures c.in-Ok.card.0 c.in-Ok.ensures in
    record {
      long = c.loop-a.invariant.long;
      within = omega (arith, c.min-count.ensures);
      onward = onward_card c.in-Ok.card.0 (dumped c.args.core.now (c.loop-a.a + c.min-count.result) []) _ _ _ _ (rw card at c.loop-a.invariant.onward) c.in-Done.ensures;
    }

pub returns-in-Failed : goal.returns-in-Failed
returns-in-Failed g c =
    let card = dump_card c.args.core.now c.loop-a.a c.min-count.result c.size-size.result c.loop-a.invariant.long c.loop-a-test.true c.min-count.ensures c.in-Ok.card.0 c.in-Ok.ensures in
    c.loop-a.invariant.onward.by (g.H.Host.seen c.punch.new.host) io.Failed (rw card (card_broken c.in-Ok.card.0 (dumped c.args.core.now (c.loop-a.a + c.min-count.result) []) _ _ c.in-Failed.ensures))

pub returns-in-Err : goal.returns-in-Err
returns-in-Err g c =
    let stops = dump_stop c.args.core.now c.loop-a.a c.min-count.result c.size-size.result c.loop-a.invariant.long c.loop-a-test.true c.min-count.ensures c.in-Err.stop c.in-Err.ensures in
    c.loop-a.invariant.onward.by (g.H.Host.seen c.loop-a.host) (io.Stop c.in-Err.stop) (rw stops (ended_now _ (Err c.in-Err.stop)))

pub returns : goal.returns
returns g c =
    let done = dump_done c.args.core.now c.loop-a.a (omega (arith, c.loop-a.invariant.long)) in
    c.loop-a.invariant.onward.by (g.H.Host.seen c.loop-a.host) io.Done (rw done (ended_now _ (Ok tt)))
