-- One line after another.
use Rattle.std.proofs.Common.{◌∙◌, ◌+◌, ◌++◌, ◌∷◌, [], Bool, refl, sym, ap, arith}
use Rattle.std.proofs.lemmas.List.Elements.{All-nil, All-push, All-same}
use Rattle.std.specs.Prelude.{if◌then◌else◌}
use Rattle.outside_io.specs.Lines.{texts_of}
use Rattle.operator_script.specs.Lines.{items_from}
use Rattle.operator_script.proofs.Reading.{with_front, read_none, passed_over, item_read, line_bad, all_read}
use Rattle.operator_script.proofs.lines.read_lines.Goals as goal

pub loop-text-init : goal.loop-text-init
loop-text-init g c =
    let item_of = g.G.LineGrammar.item_of c.args.grammar.now in
    let IsItem = g.G.LineGrammar.IsItem c.args.grammar.now in
    record {
      counted = omega arith;
      comes = ap (λ items. with_front items (items_from item_of 1 (texts_of c.args.bytes.now))) c.new-items.ensures.items ∙ read_none item_of c.args.bytes.now;
      fits = All-same IsItem c.new-items.result.items [] c.new-items.ensures.items (All-nil IsItem);
    }

pub loop-text-preserved-then-is_empty : goal.loop-text-preserved-then-is_empty
loop-text-preserved-then-is_empty g c =
    let item_of = g.G.LineGrammar.item_of c.args.grammar.now in
    let split = c.in-Some.ensures in
    record {
      counted = omega (arith, split.shorter, c.loop-text.invariant.counted);
      comes = passed_over item_of (c.loop-text.number + 1) c.loop-text.rest.now c.in-Some.text.now c.in-Some.behind.now split.shorter split.line split.behind c.loop-text.items.items (grind arith)
          ∙ c.loop-text.invariant.comes;
      fits = c.loop-text.invariant.fits;
    }

pub loop-text-preserved : goal.loop-text-preserved
loop-text-preserved g c =
    let item_of = g.G.LineGrammar.item_of c.args.grammar.now in
    let IsItem = g.G.LineGrammar.IsItem c.args.grammar.now in
    let split = c.in-Some.ensures in
    let items = c.loop-text.items.items in
    let item = c.in-Some-read_line.item in
    let pushed = c.push.ensures.items ∙ ap (λ (ok : Bool). if ok then items ++ item ∷ [] else items) (sym c.in_ok-map_err.ensures.variant) in
    record {
      counted = omega (arith, split.shorter, c.loop-text.invariant.counted);
      comes = ap (λ items. with_front items (items_from item_of (c.loop-text.number + 1 + 1) (texts_of c.in-Some.behind.now))) pushed
          ∙ item_read item_of (c.loop-text.number + 1) c.loop-text.rest.now c.in-Some.text.now c.in-Some.behind.now split.shorter split.line split.behind
          items item (grind arith) (sym c.read_line.ensures.value ∙ c.in-Some-read_line.is)
          ∙ c.loop-text.invariant.comes;
      fits = All-same IsItem c.push.new.self.items (items ++ item ∷ []) pushed (All-push IsItem items item c.loop-text.invariant.fits c.in-Some-read_line.ensures.fits);
    }

pub returns-in_default-read_line-clause-lines : goal.returns-in_default-read_line-clause-lines
returns-in_default-read_line-clause-lines g c =
    let item_of = g.G.LineGrammar.item_of c.args.grammar.now in
    let split = c.in-Some.ensures in
    sym c.loop-text.invariant.comes
    ∙ line_bad item_of (c.loop-text.number + 1) c.loop-text.rest.now c.in-Some.text.now c.in-Some.behind.now split.shorter split.line split.behind
    c.loop-text.items.items (grind arith) (sym c.read_line.ensures.value ∙ c.in_default-read_line.is)

pub returns-clause-lines : goal.returns-clause-lines
returns-clause-lines g c =
    let item_of = g.G.LineGrammar.item_of c.args.grammar.now in
    sym c.loop-text.invariant.comes ∙ all_read item_of (c.loop-text.number + 1) c.loop-text.rest.now c.loop-text.items.items (c.in_default.ensures.none.0 refl)

pub returns-clause-fits : goal.returns-clause-fits
returns-clause-fits g c = c.loop-text.invariant.fits
