-- A statement from its texts.
use Rattle.std.proofs.Common.{◌≡◌, ℕ, ◌≤◌, ◌<◌, Bool, true, false, ◌&&◌, nat_lt, List, length, if◌then◌else◌, refl, arith}
use Rattle.std.proofs.lemmas.Bool.Decides.{nat_tests}
use Rattle.sps_scan.specs.declared.statement.Shape.{Shape}
use Rattle.sps_scan.specs.declared.statement.Shape.TheVariants.{BadColumn, Plain}
use Rattle.sps_scan.specs.Operands.{OperandParts, operands_of, ten_parts}
use Rattle.line_words.specs.Blanks.{trimmed}
use Rattle.sps_scan.specs.Columns.{columns, is_blank}
use Rattle.sps_scan.specs.Statement.{all_allowed, parts_allowed, shape_of, with_operands, statement_of, is_comment, holds_nothing}

-- the statement of these texts
pub plain_is : (line front label operation remark : List ℕ) (parts : List (List ℕ)) (count : ℕ) (shape : Shape) (o : OperandParts) → label ≡ columns 6 11 line → operation ≡ columns 12 15 line → front ≡ columns 6 15 line → parts ≡ ten_parts o.parts → count ≡ length o.parts → remark ≡ o.remark → shape ≡ shape_of front o.parts →
    record { shape = shape; label = label; operation = operation; parts = parts; count = count; remark = remark } ≡ with_operands line o
plain_is line front label operation remark parts count shape o a b c d e f g = rw (g, a, b, c, d, e, f)

-- a statement with an operation holds something
something : (b : Bool) → holds_nothing (if b then Plain else BadColumn) ≡ false
something true = refl
something false = refl

-- whether a line holds a statement, by the tests of its bytes
module _ (line : List ℕ) where
  pub by_length : 80 < length line → holds_nothing (statement_of line).shape ≡ false
  unfolding statement_of
  by_length long = let l : nat_lt 80 (length line) ≡ true = grind (arith, nat_tests) in rw l

  pub by_comment : length line ≤ 80 → is_comment line ≡ true → holds_nothing (statement_of line).shape ≡ true
  unfolding statement_of
  by_comment fits comment = let l : nat_lt 80 (length line) ≡ false = grind (arith, nat_tests) in rw (l, comment)

  blank_or_more : (b : Bool) → length line ≤ 80 → is_comment line ≡ false → is_blank (columns 6 75 line) ≡ b → holds_nothing (statement_of line).shape ≡ b
  unfolding statement_of
  blank_or_more true fits comment blank = let l : nat_lt 80 (length line) ≡ false = grind (arith, nat_tests) in rw (l, comment, blank)
  blank_or_more false fits comment blank =
      let l : nat_lt 80 (length line) ≡ false = grind (arith, nat_tests) in
      rw (l, comment, blank) (something (all_allowed (columns 6 15 line) && parts_allowed (operands_of (trimmed (columns 12 15 line)) (columns 16 75 line)).parts))

  pub by_blank : length line ≤ 80 → is_comment line ≡ false → holds_nothing (statement_of line).shape ≡ is_blank (columns 6 75 line)
  by_blank fits comment = blank_or_more (is_blank (columns 6 75 line)) fits comment refl
