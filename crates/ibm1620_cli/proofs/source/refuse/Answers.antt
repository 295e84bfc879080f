use Rattle.std.proofs.Common.{refl, inl, inr}
use Rattle.ibm1620_cli.proofs.source.refuse.Goals as goal

pub returns-in-Done : goal.returns-in-Done
returns-in-Done g c = inl (record { reports = inl (refl, c.in-Done.ensures); console = refl; unstated = refl; shows = λ other. c.in-Ok.ensures; unshown = λ is. cc })

pub returns-in-Failed : goal.returns-in-Failed
returns-in-Failed g c = rw c.of-in-Failed.ensures (inl (record { reports = inr (refl, c.in-Failed.ensures); console = refl; unstated = refl; shows = λ other. absurd (other refl); unshown = λ is. refl }))

pub returns-in-Err : goal.returns-in-Err
returns-in-Err g c = inr (c.of.ensures, refl)
