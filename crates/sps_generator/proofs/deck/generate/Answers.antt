use Rattle.std.proofs.Common.{ap, sym, ◌∙◌}
use Rattle.sps_generator.specs.Generated.{next_state}
use Rattle.sps_generator.proofs.Statements.{first_state, state_more, line_added}
use Rattle.sps_generator.proofs.deck.generate.Goals as goal

pub loop-statement-init : goal.loop-statement-init
loop-statement-init c = record {
  is_state = c.next_state-state.ensures.is ∙ (ap next_state c.from.ensures ∙ sym (first_state c.args.number));
  below = c.next_state-state.ensures.below;
  lines = c.new-source.ensures.items;
}

pub loop-statement-preserved : goal.loop-statement-preserved
loop-statement-preserved c =
    let i = c.loop-statement.invariant in
    record {
      is_state = c.next_state-state-in-loop-statement.ensures.is ∙ (ap next_state i.is_state ∙ sym (state_more c.args.number c.loop-statement.statement));
      below = c.next_state-state-in-loop-statement.ensures.below;
      lines = line_added c.args.number c.loop-statement.statement c.loop-statement.state c.loop-statement.source.items c.push_statement.new.source.items c.loop-statement.auto.statement i.is_state i.lines c.in_ok-push_statement.ensures;
    }
