-- How a reader of lines uses the bytes that it has taken.
use Rattle.std.specs.Prelude.{◌≡◌, ℕ, ◌+◌, ◌-◌, ◌<◌, ◌≤◌, Bool, true, false, ◌⊎◌, slice_index, if◌then◌else◌, List, length, take, drop}
use Rattle.outside_io.specs.World.{one_more}
use Rattle.card_code.specs.declared.lines.TheConstants.{LINE_ROOM, PIECE_ROOM}
use Rattle.card_code.specs.declared.lines.Lines.{Lines}
use Rattle.card_code.specs.declared.lines.LineAnswer.{LineAnswer}
use Rattle.card_code.specs.declared.lines.LineAnswer.TheVariants as answer
use Rattle.card_code.specs.LineText.{text_of_line}
use Rattle.outside_io.specs.Lines.{without_return}
use Rattle.card_code.specs.Reader.{unit_of, lines_handed_out, lines_tally, bytes_held}

-- if `ends` is true, the next byte of the piece is a LF
pub record EndsNext (lines : Lines) (ends : Bool) : Type 0 where
  pub within : ends ≡ true → lines.start < lines.end
  pub next : ends ≡ true → slice_index lines.piece lines.start ≡ 10

-- bytes move from the piece to `held` until a LF is next, the piece is used up, or `held` is full
pub record HoldsMore (old new : Lines) (ends : Bool) : Type 0 where
  pub unit : unit_of new ≡ unit_of old
  pub number : lines_handed_out new ≡ lines_handed_out old
  pub tally : lines_tally new ≡ lines_tally old
  pub same : bytes_held new ≡ bytes_held old
  pub size : length new.piece ≡ PIECE_ROOM
  pub ends_next : EndsNext new ends
  pub goes_on : ends ≡ false → (new.start ≡ new.end) ⊎ (length new.held.items ≡ LINE_ROOM)

-- `held` is a line, and is handed out
pub record GivesHeld (old new : Lines) (ends : Bool) (given : List ℕ) : Type 0 where
  pub unit : unit_of new ≡ unit_of old
  pub number : lines_handed_out new ≡ one_more (lines_handed_out old)
  pub tally : lines_tally new ≡ lines_tally old
  pub text : given ≡ without_return old.held.items
  pub short : length given ≤ 80
  pub left : bytes_held new ≡ take (old.end - (old.start + (if ends then 1 else 0)))
      (drop (old.start + (if ends then 1 else 0)) old.piece)

-- `held` is too long for a line, and nothing changed
pub record KeepsHeld (old new : Lines) (number : ℕ) : Type 0 where
  pub same : new ≡ old
  pub number_is : number ≡ one_more (lines_handed_out old)
  pub long : 80 < length (without_return old.held.items)

-- how the handing out of `held` ends, by its answer
abbrev pub HandsOut : Lines → Lines → Bool → LineAnswer → Type 0
HandsOut old new ends (answer.Line line) = GivesHeld old new ends (text_of_line line)
HandsOut old new ends (answer.Jam number) = KeepsHeld old new number
HandsOut old new ends answer.End = ⊥
HandsOut old new ends answer.Failed = ⊥
