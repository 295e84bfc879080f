-- The whole contract of the program's answer.
use Rattle.std.specs.Prelude.{ℕ, List}
use Rattle.outside_io.specs.World.{Seen}
use Rattle.ibm1620_cli.specs.declared.answer.Answer.{Answer}
use Rattle.ibm1620_cli.specs.Job.{TellsAnswer, BindsSaid, KeepsUnread}
use Rattle.ibm1620_cli.specs.Headline.{Headline}
use Rattle.ibm1620_cli.specs.Endings.{TrialEnds, SessionEnds}
use Rattle.ibm1620_cli.specs.RoundTrip.{DiskRoundTrip, RoundTrip}

-- the job of the words is done, with this answer: the whole contract of `ibm1620_answer`
pub record AnswersJob (words : List (List ℕ)) (old new : Seen) (answer : Answer) : Type 0 where
  pub told : TellsAnswer words old new answer
  pub bound : BindsSaid words old new answer.status
  pub unread : KeepsUnread words old new
  pub headline : Headline words old new answer
  pub trial : TrialEnds words old new answer.status
  pub session : SessionEnds words old new answer.status
  pub trip : RoundTrip words old new answer
  pub disk_trip : DiskRoundTrip words old new answer
