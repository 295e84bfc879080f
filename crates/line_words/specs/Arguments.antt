-- The words after a command, by the kinds of arguments that they are.
use Rattle.std.specs.Prelude.{ℕ, Bool, true, false, ◌+◌, nat_lt, nat_le, List, [], ◌∷◌, bytes_eq, if◌then◌else◌, Option, Some, None, option_and_then}
use Rattle.line_words.specs.Words.{number, number_in}
use Rattle.line_words.specs.declared.arguments.Span.{Span}

-- the item itself, if no word follows
abbrev pub alone : {A : Type 0} → A → List (List ℕ) → Option A
alone item [] = Some item
alone item (word ∷ words) = None

-- the one word that follows
abbrev pub one_word : List (List ℕ) → Option (List ℕ)
one_word (word ∷ []) = Some word
one_word other = None

-- the two words that follow
abbrev pub two_words : List (List ℕ) → Option (List ℕ × List ℕ)
two_words (first ∷ second ∷ []) = Some (first, second)
two_words other = None

-- one of two words: true for the first, false for the second
abbrev pub one_of : List ℕ → List ℕ → List ℕ → Option Bool
one_of yes_word no_word word = if bytes_eq word yes_word then Some true else if bytes_eq word no_word then Some false else None

-- a number below a limit
abbrev pub number_below : ℕ → List ℕ → Option ℕ
number_below limit word = option_and_then (λ n. if nat_lt n limit then Some n else None) (number word)

-- count numbers from first on, if all of them are below a limit
abbrev pub span_within : ℕ → ℕ → ℕ → Option Span
span_within limit first count = if nat_le (first + count) limit then Some (record { first = first; count = count }) else None

-- a first number and a count from 1 to most: that many numbers, all of them below a limit
abbrev pub span_below : ℕ → ℕ → List ℕ → List ℕ → Option Span
span_below limit most first count = option_and_then (λ at. option_and_then (span_within limit at) (number_in 1 most count)) (number first)
