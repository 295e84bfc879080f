use Rattle.std.proofs.Common.{refl}
use Rattle.ibm1620_cli.proofs.execute.status_of.Goals as goal

pub returns-in-Halted : goal.returns-in-Halted
returns-in-Halted c = rw c.in-Halted.is refl

pub returns-in-Stopped : goal.returns-in-Stopped
returns-in-Stopped c = rw c.in-Stopped.is refl

pub returns-in-Limit : goal.returns-in-Limit
returns-in-Limit c = rw c.in-Limit.is refl

pub returns-in-NeedCards : goal.returns-in-NeedCards
returns-in-NeedCards c = rw c.in-NeedCards.is refl

pub returns-in-NeedKeys : goal.returns-in-NeedKeys
returns-in-NeedKeys c = rw c.in-NeedKeys.is refl
