-- The ways out of the chain, and the way on.
use Rattle.std.proofs.Common.{sym, ◌∙◌, arith}
use Rattle.cpu_step.proofs.CheckParts.{chain_on, chain_stays, chain_over}
use Rattle.cpu_step.proofs.checks.chain_end.Goals as goal

-- a further field
pub loop-field-preserved : goal.loop-field-preserved
loop-field-preserved g c = record {
  long = c.loop-field.invariant.long;
  field = c.in-Some.ensures.field;
  in_core = omega (arith, c.in-Some.ensures.in_core);
  rest = sym (chain_on _ _ _ _ c.loop-field-test.true c.in-Some.v (sym c.in-Some.ensures.is)) ∙ c.loop-field.invariant.rest;
}

-- the last field
pub returns-in-None : goal.returns-in-None
returns-in-None g c = sym (chain_stays _ _ _ _ c.loop-field-test.true (sym c.in-None.ensures.is)) ∙ c.loop-field.invariant.rest

-- no field is left
pub returns : goal.returns
returns g c = sym (chain_over _ _ _ _ c.loop-field-test.false) ∙ c.loop-field.invariant.rest
