-- Each part of the whole job is what one call says.
use Rattle.std.proofs.Common.{refl}
use Rattle.outside_io.specs.declared.host.Unit.TheVariants.{Punched}
use Rattle.finished_job.proofs.Losing.{counted_lost}
use Rattle.finished_job.proofs.job.do_read_job.Goals as goal

pub returns : goal.returns
returns g c =
    let host = c.ibm1620_read-answer.new.host in
    let world = (g.H.Host.seen host.host).world in
    record {
      answer = c.ibm1620_read-answer.result;
      ending = _;
      answers = c.ibm1620_read-answer.ensures;
      ends = refl;
      of_answer = refl;
      of_trouble = c.trouble-trouble.ensures;
      asks = refl;
      loses = counted_lost (world.written Punched) host.bytes c.cards-lost_cards.result host.is_bound (world.in_use Punched) host.bound host.counted c.cards-lost_cards.ensures;
      says = c.say_ending.ensures;
      code_is = c.code.ensures;
    }
