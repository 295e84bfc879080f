-- A whole job, with its message and its code.
use Rattle.std.specs.Prelude.{◌≡◌, ℕ, Bool, List, String, Option, Some, None, option_copied}
use Rattle.std.specs.declared.alloc.Global.{Global}
use Rattle.arrayvec.specs.declared.array_string.ArrayString.{ArrayString}
use Rattle.outside_io.specs.World.{Seen}
use Rattle.outside_io.specs.declared.trouble.Trouble.{Trouble}
use Rattle.ibm1620_cli.specs.declared.answer.Answer.{Answer}
use Rattle.ibm1620_cli.specs.Job.{word_bytes}
use Rattle.ibm1620_cli.specs.Answers.{AnswersJob}
use Rattle.ibm1620_cli.specs.Report.{exit_code_of}
use Rattle.messages.specs.declared.ending.JobEnding.{JobEnding}
use Rattle.messages.specs.declared.ending.TheConstants.{ROOM}
use Rattle.messages.specs.Ending.{IsMessageOf}
use Rattle.finished_job.specs.Pieces.{Says}
use Rattle.finished_job.specs.Lost.{LosesCards}

-- a message is written in one piece; without a message nothing is written
abbrev pub SaysMessage : Option (ArrayString ROOM) → Option (List (List ℕ)) → Option (List (List ℕ)) → Type 0
SaysMessage None old new = new ≡ old
SaysMessage (Some text) old new = Says old new text.bytes

-- the message about this ending is written
pub record SaysEnding (ending : JobEnding) (old new : Option (List (List ℕ))) : Type 0 where
  pub message : Option (ArrayString ROOM)
  pub is : IsMessageOf ending message
  pub says : SaysMessage message old new

-- THE WHOLE JOB: its answer, the code of its status, and the message about its ending: the status, the answer, the host's last failure, whether
-- the user asks for the console, and the cards that were punched to no file
pub record DoesAndSays (words : List (String Global)) (asks_console : Bool) (old new : Seen) (trouble : Option Trouble) (said_old said_new : Option (List (List ℕ))) (code : ℕ) : Type 0 where
  pub answer : Answer
  pub ending : JobEnding
  pub answers : AnswersJob (word_bytes words) old new answer
  pub ends : ending.status ≡ answer.status
  pub of_answer : ending.answer.now ≡ answer
  pub of_trouble : option_copied ending.trouble ≡ trouble
  pub asks : ending.asks_console ≡ asks_console
  pub loses : LosesCards new.world ending.lost_cards
  pub says : SaysEnding ending said_old said_new
  pub code_is : code ≡ exit_code_of answer.status
