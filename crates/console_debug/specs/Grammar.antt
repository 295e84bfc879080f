-- The grammar of the debugger's commands.
use Rattle.std.specs.Prelude.{ℕ, Bool, true, false, List, [], ◌∷◌, codes, bytes_eq, if◌then◌else◌, Option, None, option_map, option_and_then, Result}
use Rattle.line_words.specs.Words.{words_of, number, number_in}
use Rattle.line_words.specs.Arguments.{alone, one_word, span_below, two_words}
use Rattle.operator_script.specs.Lines.{items_of_lines}
use Rattle.line_words.specs.declared.arguments.Span.{Span}
use Rattle.console_debug.specs.declared.commands.DebugCommand.{DebugCommand}
use Rattle.console_debug.specs.declared.commands.DebugCommand.TheVariants as command

-- how many cells one command shows at most
abbrev pub most_shown : ℕ
most_shown = 1000

-- how many places one command goes back at most
abbrev pub most_back : ℕ
most_back = 1000

-- SHOW of the cells of a span
abbrev pub show_of : Span → DebugCommand
show_of span = command.Show span.first span.count

-- the command of a word and the words after it: GO, STEP n, BACK n with n from 1 to 1,000, BREAK s, CLEAR s, SHOW a n with n from 1
-- to 1,000 and all cells in a core of `positions` positions, QUIT
abbrev pub command_with : ℕ → List ℕ → List (List ℕ) → Option DebugCommand
command_with positions word behind =
    if bytes_eq word (codes "GO") then alone command.Go behind
    else if bytes_eq word (codes "STEP") then option_map (λ n. command.Step n) (option_and_then number (one_word behind))
    else if bytes_eq word (codes "BACK") then option_map (λ n. command.Back n) (option_and_then (number_in 1 most_back) (one_word behind))
    else if bytes_eq word (codes "BREAK") then option_map (λ s. command.Break s) (option_and_then number (one_word behind))
    else if bytes_eq word (codes "CLEAR") then option_map (λ s. command.Clear s) (option_and_then number (one_word behind))
    else if bytes_eq word (codes "SHOW") then option_map show_of (option_and_then (λ words. span_below positions most_shown words.0 words.1) (two_words behind))
    else if bytes_eq word (codes "QUIT") then alone command.Quit behind
    else None

-- the command of some words
abbrev pub command_of_words : ℕ → List (List ℕ) → Option DebugCommand
command_of_words positions [] = None
command_of_words positions (word ∷ behind) = command_with positions word behind

-- the command of a text
abbrev pub command_of : ℕ → List ℕ → Option DebugCommand
command_of positions text = command_of_words positions (words_of text)

-- the commands in some bytes, or the number of the first bad line; all lines are counted, from 1
unfoldable pub commands_of : ℕ → List ℕ → Result (List DebugCommand) ℕ
commands_of positions bytes = items_of_lines (command_of positions) bytes

-- BREAK s, which sets a breakpoint
abbrev pub is_break : DebugCommand → Bool
is_break (command.Break s) = true
is_break other = false

-- how many breakpoints a command sets at most
abbrev pub break_count : DebugCommand → ℕ
break_count command = if is_break command then 1 else 0
