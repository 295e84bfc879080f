use Rattle.std.proofs.Common.{◌∙◌, arith, length-set}
use Rattle.disk_loader.proofs.Texts.{beneath_on, beneath_all}
use Rattle.disk_loader.proofs.hundreds.beneath.Goals as goal

pub loop-i-preserved : goal.loop-i-preserved
loop-i-preserved c = (
  length-set c.loop-i.text c.loop-i.i c.object_char.result ∙ c.loop-i.invariant.0,
  rw c.object_char.ensures (beneath_on c.args.from c.loop-i.text c.loop-i.i c.digit_beneath.result c.loop-i.invariant.0 (omega arith) c.digit_beneath.ensures.is c.loop-i.invariant.1),
)

pub returns : goal.returns
returns c = beneath_all c.args.from c.loop-i.text c.loop-i.i c.loop-i.invariant.0 (omega arith) c.loop-i.invariant.1
