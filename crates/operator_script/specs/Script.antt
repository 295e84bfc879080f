-- The grammar of the operator's script.
use Rattle.std.specs.Prelude.{ℕ, Bool, List, [], ◌∷◌, codes, bytes_eq, if◌then◌else◌, Option, None, option_map, option_and_then, Result}
use Rattle.line_words.specs.Words.{words_of, number, number_in}
use Rattle.line_words.specs.Arguments.{alone, number_below, one_of, one_word, two_words}
use Rattle.operator_script.specs.Lines.{items_of_lines}
use Rattle.operator_script.specs.declared.script.Due.{Due}
use Rattle.operator_script.specs.declared.script.Due.TheVariants as due
use Rattle.operator_script.specs.declared.script.Action.{Action}
use Rattle.operator_script.specs.declared.script.Action.TheVariants as action
use Rattle.operator_script.specs.declared.script.ScriptLine.{ScriptLine}

-- STOP, PROGRAM: whether a check switch is turned to STOP
abbrev pub stop_word : List ℕ → Option Bool
stop_word word = one_of (codes "STOP") (codes "PROGRAM") word

-- ON, OFF: program switch k is turned on or off
abbrev pub switch_to : List ℕ → ℕ → Option Action
switch_to place k = option_map (λ on. action.Switch k on) (one_of (codes "ON") (codes "OFF") place)

-- k ON, k OFF with k from 1 to 4
abbrev pub switch_of : List ℕ × List ℕ → Option Action
switch_of words = option_and_then (switch_to words.1) (number_in 1 4 words.0)

-- a bit b of the cell at an address, with b from 0 to 5
abbrev pub flip_at : List ℕ → ℕ → Option Action
flip_at b at = option_map (λ bit. action.Flip at bit) (number_in 0 5 b)

-- a b with the address a in a core of `positions` positions
abbrev pub flip_of : ℕ → List ℕ × List ℕ → Option Action
flip_of positions words = option_and_then (flip_at words.1) (number_below positions words.0)

-- the action of a word and the words after it
abbrev pub action_with : ℕ → List ℕ → List (List ℕ) → Option Action
action_with positions word behind =
    if bytes_eq word (codes "START") then alone action.Start behind
    else if bytes_eq word (codes "LOAD") then alone action.Load behind
    else if bytes_eq word (codes "SWITCH") then option_and_then switch_of (two_words behind)
    else if bytes_eq word (codes "OVERFLOW") then option_map (λ stops. action.Overflow stops) (option_and_then stop_word (one_word behind))
    else if bytes_eq word (codes "IO") then option_map (λ stops. action.InOut stops) (option_and_then stop_word (one_word behind))
    else if bytes_eq word (codes "FLIP") then option_and_then (flip_of positions) (two_words behind)
    else None

-- the action of some words, for a core of `positions` positions
abbrev pub action_of : ℕ → List (List ℕ) → Option Action
action_of positions [] = None
action_of positions (word ∷ behind) = action_with positions word behind

abbrev pub line_with : Due → Action → ScriptLine
line_with due action = record { due = due; action = action }

-- the line of an action that is due at this count of steps
abbrev pub line_at : ℕ → ℕ → List (List ℕ) → Option ScriptLine
line_at positions count ws = option_map (line_with (due.At count)) (action_of positions ws)

-- AT n action
abbrev pub line_at_count : ℕ → List (List ℕ) → Option ScriptLine
line_at_count positions [] = None
line_at_count positions (w ∷ ws) = option_and_then (λ count. line_at positions count ws) (number w)

-- the line of some words: AT n action, or HALT action
abbrev pub line_of_words : ℕ → List (List ℕ) → Option ScriptLine
line_of_words positions [] = None
line_of_words positions (w ∷ ws) =
    if bytes_eq w (codes "AT") then line_at_count positions ws
    else if bytes_eq w (codes "HALT") then option_map (line_with due.Halt) (action_of positions ws)
    else None

-- the line of a text
abbrev pub line_of : ℕ → List ℕ → Option ScriptLine
line_of positions text = line_of_words positions (words_of text)

-- the script in some bytes, for a core of `positions` positions, or the number of the first bad line; all lines are
-- counted, from 1
unfoldable pub script_of : ℕ → List ℕ → Result (List ScriptLine) ℕ
script_of positions bytes = items_of_lines (line_of positions) bytes
