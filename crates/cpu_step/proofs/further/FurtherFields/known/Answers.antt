-- The chain ends at a field without a flag, and goes on behind one with a flag.
use Rattle.std.proofs.Common.{◌-◌, length, sym, ◌∙◌, arith}
use Rattle.cpu_step.proofs.FurtherCells.{chain_ends, chain_goes_on}
use Rattle.cpu_step.proofs.further.FurtherFields.known.Goals as goal

pub returns-then-not-e : goal.returns-then-not-e
returns-then-not-e g c =
    let l = c.size_law.ensures.length in
    let m = c.size_law.ensures.is_size.0 in
    let leads = c.is_at.ensures c.if-not-is_at.false in
    let inside = leads.inside in
    (sym c.loop-field.invariant.rest ∙ chain_ends (length c.args.core.now - 1) c.loop-field._field c.args.core.now c.loop-field.u _ _ (omega arith) leads c.if-not-e.true, omega arith)

pub loop-field-preserved : goal.loop-field-preserved
loop-field-preserved g c =
    let l = c.size_law.ensures.length in
    let m = c.size_law.ensures.is_size.0 in
    let leads = c.is_at.ensures c.if-not-is_at.false in
    record {
      field = leads.room c.if-not-e.false;
      in_core = leads.inside;
      rest = sym (chain_goes_on (length c.args.core.now - 1) c.loop-field._field c.args.core.now c.loop-field.u _ _ (omega arith) leads c.if-not-e.false) ∙ c.loop-field.invariant.rest;
    }
