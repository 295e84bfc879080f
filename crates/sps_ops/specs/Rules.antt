-- The rules: the number and the name of each, and the words in which the program reports it.
use Rattle.std.specs.Prelude.{ℕ, List, codes, Option, Some, None}
use Prim.Native.String.{String}
use Rattle.sps_ops.specs.declared.rule.Rule.{Rule}
use Rattle.sps_ops.specs.declared.rule.Rule.TheVariants.{BadColumn, LongCard, BadLabel, UnknownOperation, DuplicateLabel, MissingOperand, BadExpression, UndefinedSymbol, LateSymbol, ValueTooLarge, BadLength, BadConstant, BadFlags, OutsideImage, BadStart, AfterEnd, NoEnd, NoStart, TooManyStatements, EvenAddress}
use Rattle.sps_ops.specs.declared.rule.Sentence.{Sentence}
use Rattle.sps_ops.specs.declared.rule.Sentence.TheVariants.{Plain, WithLast}

-- the number of a rule
abbrev pub rule_number : Rule → ℕ
rule_number BadColumn = 1
rule_number LongCard = 2
rule_number BadLabel = 3
rule_number UnknownOperation = 4
rule_number DuplicateLabel = 5
rule_number MissingOperand = 6
rule_number BadExpression = 7
rule_number UndefinedSymbol = 8
rule_number LateSymbol = 9
rule_number ValueTooLarge = 10
rule_number BadLength = 11
rule_number BadConstant = 12
rule_number BadFlags = 13
rule_number OutsideImage = 14
rule_number BadStart = 15
rule_number AfterEnd = 16
rule_number NoEnd = 17
rule_number NoStart = 18
rule_number TooManyStatements = 19
rule_number EvenAddress = 20

-- the printed name of a rule
abbrev pub rule_name : Rule → List ℕ
rule_name BadColumn = codes "BadColumn"
rule_name LongCard = codes "LongCard"
rule_name BadLabel = codes "BadLabel"
rule_name UnknownOperation = codes "UnknownOperation"
rule_name DuplicateLabel = codes "DuplicateLabel"
rule_name MissingOperand = codes "MissingOperand"
rule_name BadExpression = codes "BadExpression"
rule_name UndefinedSymbol = codes "UndefinedSymbol"
rule_name LateSymbol = codes "LateSymbol"
rule_name ValueTooLarge = codes "ValueTooLarge"
rule_name BadLength = codes "BadLength"
rule_name BadConstant = codes "BadConstant"
rule_name BadFlags = codes "BadFlags"
rule_name OutsideImage = codes "OutsideImage"
rule_name BadStart = codes "BadStart"
rule_name AfterEnd = codes "AfterEnd"
rule_name NoEnd = codes "NoEnd"
rule_name NoStart = codes "NoStart"
rule_name TooManyStatements = codes "TooManyStatements"
rule_name EvenAddress = codes "EvenAddress"

-- the words of a rule; if a count of digits is given, the last address at which this many digits still fit into core follows them
pub record RuleWords : Type 0 where
  pub words : List ℕ
  pub digits : Option ℕ

-- words alone
abbrev pub words_alone : String → RuleWords
words_alone words = record { words = codes words; digits = None }

-- words, followed by the last address at which this many digits still fit into core
abbrev pub words_with_last : String → ℕ → RuleWords
words_with_last words digits = record { words = codes words; digits = Some digits }

-- the words of a sentence of the table
abbrev pub words_of_sentence : Sentence → RuleWords
words_of_sentence (Plain words) = record { words = words.now; digits = None }
words_of_sentence (WithLast words digits) = record { words = words.now; digits = Some digits }

-- the words in which the program reports a broken rule
abbrev pub rule_sentence : Rule → RuleWords
rule_sentence BadColumn = words_alone "a byte that is no character of the assembler"
rule_sentence LongCard = words_alone "a line of over 80 bytes"
rule_sentence BadLabel = words_alone "a label that is not letters and digits with a letter among them"
rule_sentence UnknownOperation = words_alone "no such operation"
rule_sentence DuplicateLabel = words_alone "a label that an earlier statement has"
rule_sentence MissingOperand = words_alone "a part is empty that this operation needs"
rule_sentence BadExpression = words_alone "a part that is no expression"
rule_sentence UndefinedSymbol = words_alone "a name that is the label of no statement"
rule_sentence LateSymbol = words_alone "a name that must be a label of an earlier statement, and is not"
rule_sentence ValueTooLarge = words_alone "a number or an address that is out of its range"
rule_sentence BadLength = words_alone "a length or a count that is out of its range"
rule_sentence BadConstant = words_alone "a constant that is no sign and digits, or longer than its length"
rule_sentence BadFlags = words_alone "a flag part that is no rising list of positions 0 to 11"
rule_sentence OutsideImage = words_with_last "a digit below 00100 or above " 1
rule_sentence BadStart = words_with_last "a start that is odd, below 00400 or above " 12
rule_sentence AfterEnd = words_alone "a statement behind the first DEND"
rule_sentence NoEnd = words_alone "the source ends without a DEND"
rule_sentence NoStart = words_alone "a DEND without a start"
rule_sentence TooManyStatements = words_alone "one more statement than the 20,000 that a source may have"
rule_sentence EvenAddress = words_alone "a DAS or a DAC at an even address"
