-- HEAD: the head of the symbols that follow.
-- Source: SPS manual, HEAD; which rules it may break is this project's own.
use Rattle.std.specs.Prelude.{ℕ, Bool, true, false, not, List, [], ◌∷◌, ◌++◌, Option, Some, None}
use Rattle.sps_ops.specs.declared.rule.Rule.TheVariants.{BadExpression}
use Rattle.line_words.specs.Blanks.{trimmed}
use Rattle.sps_scan.specs.Statement.{StatementText}
use Rattle.sps_expr.specs.Grammar.{is_letter_or_digit}
use Rattle.sps_pass_one.specs.declared.fault.Fault.{Fault}
use Rattle.sps_pass_one.specs.Faults.{broken_at_if}
use Rattle.sps_pass_one.specs.Measure.{part_at, lacks}

-- one letter or digit, or nothing
abbrev pub is_head_text : List ℕ → Bool
is_head_text [] = true
is_head_text (h ∷ []) = is_letter_or_digit h
is_head_text (h ∷ i ∷ hs) = false

-- the first part of a HEAD without the blanks at its ends
abbrev pub head_text : StatementText → List ℕ
head_text s = trimmed (part_at s 0)

-- the faults of a HEAD: its first part must be a head or empty, and its second and third parts must be empty
abbrev pub head_faults : StatementText → List Fault
head_faults s =
    broken_at_if (not (is_head_text (head_text s))) BadExpression 0
    ++ (broken_at_if (not (lacks s 1)) BadExpression 1
    ++ broken_at_if (not (lacks s 2)) BadExpression 2)

-- the first character of a text, if it has one
abbrev pub first_byte : List ℕ → Option ℕ
first_byte [] = None
first_byte (h ∷ hs) = Some h

-- the head that a HEAD sets, or None if its first part is empty
abbrev pub head_in : StatementText → Option ℕ
head_in s = first_byte (head_text s)
