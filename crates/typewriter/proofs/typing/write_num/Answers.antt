-- The ways out of the typing of digits.
use Rattle.std.proofs.Common.{sym, ◌∙◌, arith, ◌≡◌, ◌==◌, ◌+◌, true, false, rules, drop}
use Rattle.std.proofs.lemmas.Bool.Decides.{nat_tests}
use Rattle.traces.specs.Trace.{does_all}
use Rattle.typewriter.specs.declared.typing.TypeIo.TheVariants as io
use Rattle.typewriter.specs.Typing.{type_cells}
use Rattle.typewriter.proofs.Performing.{type_out, type_stop, type_mark, type_on, starts}
use Rattle.typewriter.proofs.LinesTyped.{typed_one_more, some_more, line_failed}
use Rattle.typewriter.proofs.typing.write_num.Goals as goal

pub loop-chars-init : goal.loop-chars-init
loop-chars-init g c = record { room = omega (arith, c.size-size.ensures.size, c.requires); onward = rw c.new-line.ensures (starts _ _) }

pub overflow_add-from : goal.overflow_add-from
overflow_add-from g c = search rules

pub returns-in-Failed : goal.returns-in-Failed
returns-in-Failed g c =
    c.loop-chars.invariant.onward.by (g.H.Host.seen c.add_ten.new.host) io.Failed
    (rw c.in-Some.ensures.is
    (line_failed c.loop-chars.line.items (does_all c.in-Some.chars (type_cells (c.loop-chars.from + 10) (drop (c.loop-chars.from + 10) c.args.core.now))) (g.H.Host.seen c.loop-chars.host) (g.H.Host.seen c.add_ten.new.host) c.in-Failed.ensures))

pub loop-chars-preserved : goal.loop-chars-preserved
loop-chars-preserved g c = record {
  room = omega (arith, c.in-Some.ensures.room, c.size-size.ensures.size);
  onward = record {
    by = λ after answer h.
        c.loop-chars.invariant.onward.by after answer
        (rw c.in-Some.ensures.is
        (some_more _ c.in-Some.chars c.add_ten.new.line.items (type_cells (c.loop-chars.from + 10) (drop (c.loop-chars.from + 10) c.args.core.now)) _ (g.H.Host.seen c.add_ten.new.host) after answer c.in-Done.ensures h));
  };
}

pub loop-a-init : goal.loop-a-init
loop-a-init g c = record { long = c.size-size.ensures.length ∙ sym c.size-size.ensures.size; onward = c.loop-chars.invariant.onward }

pub returns-in-Err : goal.returns-in-Err
returns-in-Err g c =
    c.loop-a.invariant.onward.by (g.H.Host.seen c.end.new.host) c.end.result
    (rw (type_stop c.args.core.now c.loop-a.a (omega arith) c.in-Err.stop (sym c.in-Err.ensures.is)) c.end.ensures)

pub returns-then-d-eq-RECORD_MARK : goal.returns-then-d-eq-RECORD_MARK
returns-then-d-eq-RECORD_MARK g c =
    let f : (c.in-Ok.d.value == 10) ≡ true = grind (arith, nat_tests) in
    c.loop-a.invariant.onward.by (g.H.Host.seen c.end-then-d-eq-RECORD_MARK.new.host) c.end-then-d-eq-RECORD_MARK.result
    (rw (type_mark c.args.core.now c.loop-a.a (omega arith) c.in-Ok.d (sym c.in-Ok.ensures.is) f) c.end-then-d-eq-RECORD_MARK.ensures)

pub returns-in-Failed-add : goal.returns-in-Failed-add
returns-in-Failed-add g c =
    c.loop-a.invariant.onward.by (g.H.Host.seen c.add.new.host) io.Failed
    (line_failed c.loop-a.line.items (type_cells c.loop-a.a (drop c.loop-a.a c.args.core.now)) (g.H.Host.seen c.loop-a.host) (g.H.Host.seen c.add.new.host) c.in-Failed-add.ensures)

pub loop-a-preserved : goal.loop-a-preserved
loop-a-preserved g c =
    let f : (c.in-Ok.d.value == 10) ≡ false = grind (arith, nat_tests) in
    record {
      long = c.loop-a.invariant.long;
      onward = record {
        by = λ after answer h.
            c.loop-a.invariant.onward.by after answer
            (rw (type_on c.args.core.now c.loop-a.a (omega arith) c.in-Ok.d (sym c.in-Ok.ensures.is) f)
            (typed_one_more _ _ c.add.new.line.items (type_cells (c.loop-a.a + 1) (drop (c.loop-a.a + 1) c.args.core.now)) _ (g.H.Host.seen c.add.new.host) after answer (rw c.object_char.ensures at c.in-Done-add.ensures) h));
      };
    }

pub returns : goal.returns
returns g c = c.loop-a.invariant.onward.by (g.H.Host.seen c.end-2.new.host) c.end-2.result (rw (type_out c.args.core.now c.loop-a.a (omega arith)) c.end-2.ensures)
