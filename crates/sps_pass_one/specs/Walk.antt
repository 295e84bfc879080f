-- A walk over the statements of a source, one after another.
-- Source: SPS manual, HEAD and DEND; how many statements there may be is this project's own.
use Rattle.std.specs.Prelude.{◌≡◌, ℕ, ◌+◌, ◌-◌, Bool, false, List, [], ◌∷◌, take, Option, Some, None}
use Rattle.outside_io.specs.Lines.{texts_of}
use Rattle.sps_scan.specs.Statement.{StatementText}
use Rattle.sps_pass_one.specs.declared.walk.SourceLine.{SourceLine}
use Rattle.sps_pass_one.specs.Layout.{counts_if, ends_if, head_after, most_statements, lines_of_source}

-- a walk: the number of the next line, the head in force, whether it passed a DEND that counts, and the lines that it still gives
pub record WalkText : Type 0 where
  pub number : ℕ
  pub head : Option ℕ
  pub ended : Bool
  pub lines : List (List ℕ)

-- the walk before the first line of a source
abbrev pub walk_of : List ℕ → WalkText
walk_of source = record { number = 1; head = None; ended = false; lines = lines_of_source source }

-- the lines that a walk still gives, from the rest of the source and the number of its first line
abbrev pub source_lines_left : ℕ → List ℕ → List (List ℕ)
source_lines_left number rest = take (most_statements + 2 - number) (texts_of rest)

-- the walk one line further, with the lines that are left
abbrev pub one_further : WalkText → List (List ℕ) → WalkText
one_further w lines = record w { number = w.number + 1; lines = lines }

-- the walk past a statement: the head in force, and whether it passed a DEND that counts
abbrev pub walk_past : WalkText → StatementText → WalkText
walk_past w s = record w {
  head = head_after w.head (counts_if w.ended s.shape) s;
  ended = ends_if w.ended (counts_if w.ended s.shape) s;
}

-- a walk gave a line: the first of the lines that were left
pub record ComesToLine (old : WalkText) (x : SourceLine) (new : WalkText) : Type 0 where
  pub line : old.lines ≡ x.text.now ∷ new.lines
  pub number : x.number ≡ old.number
  pub further : new ≡ one_further old new.lines

-- no line was left, and the walk does not change
pub record IsAtEnd (old new : WalkText) : Type 0 where
  pub none : old.lines ≡ []
  pub stays : new ≡ old

-- ONE STEP OF A WALK
abbrev pub WalksOn : WalkText → Option SourceLine → WalkText → Type 0
WalksOn old None new = IsAtEnd old new
WalksOn old (Some x) new = ComesToLine old x new
