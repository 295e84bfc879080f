-- The ways out of a dump.
use Rattle.std.proofs.Common.{sym, ◌∙◌, arith, rules, drop, ◌+◌}
use Rattle.traces.specs.Trace.{does_all}
use Rattle.typewriter.specs.declared.typing.TypeIo.TheVariants as io
use Rattle.typewriter.specs.Typing.{dump_cells}
use Rattle.typewriter.proofs.Performing.{dump_ends, dump_stop, dump_on, starts}
use Rattle.typewriter.proofs.LinesTyped.{typed_one_more, some_more, line_failed}
use Rattle.typewriter.proofs.typing.dump.Goals as goal

pub loop-chars-init : goal.loop-chars-init
loop-chars-init g c = record { room = omega (arith, c.size-size.ensures.size, c.requires); onward = rw c.new-line.ensures (starts _ _) }

pub overflow_add-from : goal.overflow_add-from
overflow_add-from g c = search rules

pub returns-in-Failed : goal.returns-in-Failed
returns-in-Failed g c =
    c.loop-chars.invariant.onward.by (g.H.Host.seen c.add_ten.new.host) io.Failed
    (rw c.in-Some.ensures.is
    (line_failed c.loop-chars.line.items (does_all c.in-Some.chars (dump_cells (c.loop-chars.from + 10) (drop (c.loop-chars.from + 10) c.args.core.now))) (g.H.Host.seen c.loop-chars.host) (g.H.Host.seen c.add_ten.new.host) c.in-Failed.ensures))

pub loop-chars-preserved : goal.loop-chars-preserved
loop-chars-preserved g c = record {
  room = omega (arith, c.in-Some.ensures.room, c.size-size.ensures.size);
  onward = record {
    by = λ after answer h.
        c.loop-chars.invariant.onward.by after answer
        (rw c.in-Some.ensures.is
        (some_more _ c.in-Some.chars c.add_ten.new.line.items (dump_cells (c.loop-chars.from + 10) (drop (c.loop-chars.from + 10) c.args.core.now)) _ (g.H.Host.seen c.add_ten.new.host) after answer c.in-Done.ensures h));
  };
}

pub loop-at-init : goal.loop-at-init
loop-at-init g c = record { long = c.size-size.ensures.length ∙ sym c.size-size.ensures.size; onward = c.loop-chars.invariant.onward }

pub returns-in-Err : goal.returns-in-Err
returns-in-Err g c =
    c.loop-at.invariant.onward.by (g.H.Host.seen c.end.new.host) c.end.result
    (rw (dump_stop c.args.core.now c.loop-at.at (omega arith) c.in-Err.stop (sym c.in-Err.ensures.is)) c.end.ensures)

pub returns-in-Failed-add : goal.returns-in-Failed-add
returns-in-Failed-add g c =
    c.loop-at.invariant.onward.by (g.H.Host.seen c.add.new.host) io.Failed
    (line_failed c.loop-at.line.items (dump_cells c.loop-at.at (drop c.loop-at.at c.args.core.now)) (g.H.Host.seen c.loop-at.host) (g.H.Host.seen c.add.new.host) c.in-Failed-add.ensures)

pub loop-at-preserved : goal.loop-at-preserved
loop-at-preserved g c = record {
  long = c.loop-at.invariant.long;
  onward = record {
    by = λ after answer h.
        c.loop-at.invariant.onward.by after answer
        (rw (dump_on c.args.core.now c.loop-at.at (omega arith) c.in-Ok.d (sym c.in-Ok.ensures.is))
        (typed_one_more _ _ c.add.new.line.items (dump_cells (c.loop-at.at + 1) (drop (c.loop-at.at + 1) c.args.core.now)) _ (g.H.Host.seen c.add.new.host) after answer (rw c.object_char.ensures at c.in-Done-add.ensures) h));
  };
}

pub returns : goal.returns
returns g c = c.loop-at.invariant.onward.by (g.H.Host.seen c.end-2.new.host) c.end-2.result (rw (dump_ends c.args.core.now c.loop-at.at (omega arith)) c.end-2.ensures)
