-- A statement of a source.
-- Source: this project's own.
use Rattle.std.specs.Prelude.{◌≡◌, ℕ, List, length, take}
use Rattle.sps_listing.specs.declared.standing.StandingLine.{StandingLine}
use Rattle.sps_listing.specs.Texts.{source_line_at}

-- A STATEMENT AS SHOWN: its number, the first 80 bytes of its line, and how many bytes the line has
pub record StandingText : Type 0 where
  pub statement : ℕ
  pub text : List ℕ
  pub bytes : ℕ

abbrev pub standing_text : List ℕ → ℕ → StandingText
standing_text source statement = record {
  statement = statement;
  text = take 80 (source_line_at source statement);
  bytes = length (source_line_at source statement);
}

-- the line as a value shows this text
pub record ShowsStanding (s : StandingText) (line : StandingLine) : Type 0 where
  pub statement : line.statement ≡ s.statement
  pub text : line.text.items ≡ s.text
  pub bytes : line.bytes ≡ s.bytes
