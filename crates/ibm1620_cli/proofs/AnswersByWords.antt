-- All that is said of an answer, by what was read of the words.
use Rattle.std.proofs.Common.{◌≡◌, subst, map, string_bytes, true}
use Rattle.std.specs.Prelude.{ℕ, List, Option, Result, Ok, Err, IfOk, IfErr, option_map, is_some}
use Rattle.std.specs.declared.alloc.AllocError.{AllocError}
use Rattle.outside_io.specs.World.{Seen, IsFresh}
use Rattle.command_line.specs.declared.given.Plain.{Plain}
use Rattle.command_line.specs.declared.said.Read.{Read}
use Rattle.command_line.specs.Given.{MeansJust, meaning_of}
use Rattle.command_line.specs.Words.{plain}
use Rattle.ibm1620_cli.specs.declared.answer.Answer.{Answer}
use Rattle.ibm1620_cli.specs.Job.{TellsAnswer, BindsSaid, KeepsUnread}
use Rattle.ibm1620_cli.specs.Answers.{AnswersJob}
use Rattle.ibm1620_cli.proofs.Headlines.{headline_told}
use Rattle.ibm1620_cli.proofs.Endings.{trial_told, session_told}
use Rattle.ibm1620_cli.proofs.RoundTripRuns.{trip_told, disk_trip_told}

-- what was read is what the words say
pub read_means : (r : Read) (read : Option Plain) → r.said ≡ Ok read → option_map meaning_of read ≡ plain (map string_bytes r.words.now)
read_means r read is = subst (λ (said : Result (Option Plain) AllocError). IfOk said (MeansJust (plain (map string_bytes r.words.now)))) is r.is

-- where memory was lacking they are plain
pub lacked_plain : (r : Read) (e : AllocError) → r.said ≡ Err e → is_some (plain (map string_bytes r.words.now)) ≡ true
lacked_plain r e is = subst (λ (said : Result (Option Plain) AllocError). IfErr said (λ lacks. is_some (plain (map string_bytes r.words.now)) ≡ true)) is r.memory

-- from three facts of an answer all others follow
pub answers_told : (words : List (List ℕ)) (old new : Seen) (answer : Answer) → IsFresh old.world
    → TellsAnswer words old new answer → BindsSaid words old new answer.status → KeepsUnread words old new → AnswersJob words old new answer
answers_told words old new answer fresh tells binds keeps = record {
  told = tells;
  bound = binds;
  unread = keeps;
  headline = headline_told words old new answer fresh tells;
  trial = trial_told words old new answer tells;
  session = session_told words old new answer tells;
  trip = trip_told words old new answer tells;
  disk_trip = disk_trip_told words old new answer tells;
}
