-- The refused statement of a source.
-- Source: this project's own.
use Rattle.std.specs.Prelude.{◌≡◌, ⊤, ℕ, Option, Some, None, List, length, take}
use Rattle.sps_ops.specs.declared.rule.Rule.{Rule}
use Rattle.sps_listing.specs.declared.refused_statement.OtherStatement.{OtherStatement}
use Rattle.sps_listing.specs.declared.refused_statement.RefusedLine.{RefusedLine}
use Rattle.sps_listing.specs.Texts.{source_line_at}
use Rattle.sps_listing.specs.Others.{OtherText, other_statement}

-- A REFUSED STATEMENT AS SHOWN: its number, its rule and part, the first 80 bytes of its line, how many bytes the line has, and
-- the other statement that the refusal is about
pub record RefusedText : Type 0 where
  pub statement : ℕ
  pub rule : Rule
  pub part : Option ℕ
  pub text : List ℕ
  pub bytes : ℕ
  pub other : Option OtherText

abbrev pub refused_text : List ℕ → ℕ → Rule → Option ℕ → RefusedText
refused_text source statement rule part = record {
  statement = statement;
  rule = rule;
  part = part;
  text = take 80 (source_line_at source statement);
  bytes = length (source_line_at source statement);
  other = other_statement source statement rule part;
}

-- the other statement as a value shows this text
pub record ShowsOtherText (o : OtherText) (other : OtherStatement) : Type 0 where
  pub statement : other.statement ≡ o.statement
  pub rule : other.rule ≡ o.rule
  pub text : other.text.items ≡ o.text
  pub bytes : other.bytes ≡ o.bytes

-- the other statement as a value shows this text, or there is neither
abbrev pub ShowsOther : Option OtherText → Option OtherStatement → Type 0
ShowsOther None None = ⊤
ShowsOther None (Some other) = ⊥
ShowsOther (Some o) None = ⊥
ShowsOther (Some o) (Some other) = ShowsOtherText o other

-- the refused line as a value shows this text
pub record ShowsRefused (r : RefusedText) (line : RefusedLine) : Type 0 where
  pub statement : line.statement ≡ r.statement
  pub rule : line.rule ≡ r.rule
  pub part : line.part ≡ r.part
  pub text : line.text.items ≡ r.text
  pub bytes : line.bytes ≡ r.bytes
  pub other : ShowsOther r.other line.other
