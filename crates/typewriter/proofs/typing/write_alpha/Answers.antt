-- The ways out of the typing of pairs.
use Rattle.std.proofs.Common.{sym, ◌∙◌, ◌*◌, arith, ◌≡◌, ◌==◌, ◌+◌, true, false, drop, Ok, Err}
use Rattle.std.proofs.lemmas.Bool.Decides.{nat_tests}
use Rattle.addr_indirect.specs.declared.Stop.TheVariants.{Address}
use Rattle.card_code.specs.TextOut.{pair_char}
use Rattle.typewriter.specs.declared.typing.TypeIo.TheVariants as io
use Rattle.typewriter.specs.Typing.{type_pairs}
use Rattle.typewriter.proofs.PairsTyped.{starts, pair_first, pairs_out, zone_stop, number_stop, pair_mark, pair_on}
use Rattle.typewriter.proofs.TensTyped.{pair_next}
use Rattle.typewriter.proofs.LinesTyped.{as_pairs, pair_more, pair_failed}
use Rattle.typewriter.proofs.typing.write_alpha.Goals as goal

pub loop-w-init : goal.loop-w-init
loop-w-init g c = record { room = omega (arith, c.size-size.ensures.size, c.requires.in_core); onward = rw c.new-line.ensures (starts _ _ _) }

pub returns-in-Failed : goal.returns-in-Failed
returns-in-Failed g c =
    let zone = c.digit_in-zone.result in
    let number = c.digit_in-number.result in
    c.loop-k.invariant.by c.add_pair.new.panel (g.H.Host.seen c.add_pair.new.host) io.Failed
    (rw (pair_next c.args.core.now c.loop-w.a c.in-Some.w c.in-Some.ensures c.loop-k.k zone number (omega arith) c.digit_in-zone.ensures.is c.digit_in-number.ensures.is)
    (pair_failed (pair_char zone number) c.loop-k.line.items c.loop-k.panel c.add_pair.new.line.items c.add_pair.new.panel (pair_first (pair_char zone number) (type_pairs (c.loop-w.a + 2 * (c.loop-k.k + 1)) (drop (c.loop-w.a + 2 * (c.loop-k.k + 1)) c.args.core.now))) (g.H.Host.seen c.loop-k.host) (g.H.Host.seen c.add_pair.new.host) c.in-Failed.ensures))

pub loop-k-preserved : goal.loop-k-preserved
loop-k-preserved g c =
    let zone = c.digit_in-zone.result in
    let number = c.digit_in-number.result in
    record {
      by = λ new_panel after answer h.
          c.loop-k.invariant.by new_panel after answer
          (rw (pair_next c.args.core.now c.loop-w.a c.in-Some.w c.in-Some.ensures c.loop-k.k zone number (omega arith) c.digit_in-zone.ensures.is c.digit_in-number.ensures.is)
          (pair_more (pair_char zone number) c.loop-k.line.items c.loop-k.panel c.add_pair.new.line.items c.add_pair.new.panel new_panel (type_pairs (c.loop-w.a + 2 * (c.loop-k.k + 1)) (drop (c.loop-w.a + 2 * (c.loop-k.k + 1)) c.args.core.now)) (g.H.Host.seen c.loop-k.host) (g.H.Host.seen c.add_pair.new.host) after answer c.in-Done.ensures h));
    }

pub loop-a-init : goal.loop-a-init
loop-a-init g c = record { long = c.size-size.ensures.length ∙ sym c.size-size.ensures.size; onward = c.loop-w.invariant.onward }

pub returns-in-Err : goal.returns-in-Err
returns-in-Err g c =
    c.loop-a.invariant.onward.by c.loop-a.panel (g.H.Host.seen c.end.new.host) c.end.result
    (rw (zone_stop c.args.core.now c.loop-a.a c.in-Err.stop (omega arith) (sym c.in-Err.ensures.is))
    (as_pairs c.loop-a.line.items (Err c.in-Err.stop) c.loop-a.panel (g.H.Host.seen c.loop-a.host) (g.H.Host.seen c.end.new.host) c.end.result c.end.ensures))

pub returns-in-Err-read_at : goal.returns-in-Err-read_at
returns-in-Err-read_at g c =
    let last = c.end-in-Err-read_at in
    c.loop-a.invariant.onward.by c.loop-a.panel (g.H.Host.seen last.new.host) last.result
    (rw (number_stop c.args.core.now c.loop-a.a (omega arith) c.in-Ok.d (sym c.in-Ok.ensures.is) c.in-Err-read_at.stop (sym c.in-Err-read_at.ensures.is))
    (as_pairs c.loop-a.line.items (Err c.in-Err-read_at.stop) c.loop-a.panel (g.H.Host.seen c.loop-a.host) (g.H.Host.seen last.new.host) last.result last.ensures))

pub returns-then-number-eq-RECORD_MARK : goal.returns-then-number-eq-RECORD_MARK
returns-then-number-eq-RECORD_MARK g c =
    let mark : (c.in-Ok-read_at.d.value == 10) ≡ true = grind (arith, nat_tests) in
    let last = c.end-then-number-eq-RECORD_MARK in
    c.loop-a.invariant.onward.by c.loop-a.panel (g.H.Host.seen last.new.host) last.result
    (rw (pair_mark c.args.core.now c.loop-a.a (omega arith) c.in-Ok.d (sym c.in-Ok.ensures.is) (omega (arith, c.in-Ok-read_at.ensures.inside)) c.in-Ok-read_at.d (sym c.in-Ok-read_at.ensures.is) mark)
    (as_pairs c.loop-a.line.items (Ok tt) c.loop-a.panel (g.H.Host.seen c.loop-a.host) (g.H.Host.seen last.new.host) last.result last.ensures))

pub returns-in-Failed-add_pair : goal.returns-in-Failed-add_pair
returns-in-Failed-add_pair g c =
    let other : (c.in-Ok-read_at.d.value == 10) ≡ false = grind (arith, nat_tests) in
    let char = pair_char c.in-Ok.d c.in-Ok-read_at.d in
    c.loop-a.invariant.onward.by c.add_pair-in-loop-a.new.panel (g.H.Host.seen c.add_pair-in-loop-a.new.host) io.Failed
    (rw (pair_on c.args.core.now c.loop-a.a (omega arith) c.in-Ok.d (sym c.in-Ok.ensures.is) (omega (arith, c.in-Ok-read_at.ensures.inside)) c.in-Ok-read_at.d (sym c.in-Ok-read_at.ensures.is) other)
    (pair_failed char c.loop-a.line.items c.loop-a.panel c.add_pair-in-loop-a.new.line.items c.add_pair-in-loop-a.new.panel (pair_first char (type_pairs (c.loop-a.a + 2) (drop (c.loop-a.a + 2) c.args.core.now))) (g.H.Host.seen c.loop-a.host) (g.H.Host.seen c.add_pair-in-loop-a.new.host) c.in-Failed-add_pair.ensures))

pub loop-a-preserved : goal.loop-a-preserved
loop-a-preserved g c =
    let other : (c.in-Ok-read_at.d.value == 10) ≡ false = grind (arith, nat_tests) in
    record {
      long = c.loop-a.invariant.long;
      onward = record {
        by = λ new_panel after answer h.
            c.loop-a.invariant.onward.by new_panel after answer
            (rw (pair_on c.args.core.now c.loop-a.a (omega arith) c.in-Ok.d (sym c.in-Ok.ensures.is) (omega (arith, c.in-Ok-read_at.ensures.inside)) c.in-Ok-read_at.d (sym c.in-Ok-read_at.ensures.is) other)
            (pair_more (pair_char c.in-Ok.d c.in-Ok-read_at.d) c.loop-a.line.items c.loop-a.panel c.add_pair-in-loop-a.new.line.items c.add_pair-in-loop-a.new.panel new_panel (type_pairs (c.loop-a.a + 2) (drop (c.loop-a.a + 2) c.args.core.now)) (g.H.Host.seen c.loop-a.host) (g.H.Host.seen c.add_pair-in-loop-a.new.host) after answer c.in-Done-add_pair.ensures h));
      };
    }

pub returns : goal.returns
returns g c =
    c.loop-a.invariant.onward.by c.loop-a.panel (g.H.Host.seen c.end-2.new.host) c.end-2.result
    (rw (pairs_out c.args.core.now c.loop-a.a (omega arith))
    (as_pairs c.loop-a.line.items (Err Address) c.loop-a.panel (g.H.Host.seen c.loop-a.host) (g.H.Host.seen c.end-2.new.host) c.end-2.result c.end-2.ensures))
