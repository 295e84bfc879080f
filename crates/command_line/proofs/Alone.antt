-- Clap told of one command alone: the one that plain words begin with.
use Rattle.std.proofs.Common.{◌≡◌, ◌≤◌, true, List, [], ◌∷◌, length, map, sym, subst, ◌∙◌, ap, arith, get_or, Global, String, string_bytes}
use Rattle.std.specs.Prelude.{Option, Some, is_some, option_map, unwrap_or}
use Rattle.clap.specs.Words.{Row as Found, Text, is_simple, subcommand_of, takes}
use Rattle.line_words.specs.Rows.{value_by_name}
use Rattle.command_line.specs.declared.words.Command.{Command}
use Rattle.command_line.specs.Words.{commands, meaning_of_words}
use Rattle.command_line.specs.Matched.{program, program_for}
use Rattle.command_line.proofs.Rows.{at_row_of}
use Rattle.command_line.proofs.Taken.{taken_alone}
use Rattle.command_line.proofs.Walks.{IsAlone, alone_known, found_alone, found_in, is_plain}

-- clap takes the words, told of this command alone, and finds what it finds among all commands, which is this one
abbrev pub Serves : List Text → Command → Text → Type 0
Serves words command name =
    let alone = program_for (record { name = name; value = command }) in
    (subcommand_of alone words ≡ subcommand_of program words) × (takes alone words ≡ true) × (is_simple alone ≡ true)
    × (option_map (λ (p : Text × List Found). p.0) (subcommand_of program words) ≡ Some name)

pub first_serves : (words : List (String Global)) (first : String Global) (name : Text) (command : Command) → 1 ≤ length words → first ≡ get_or words 0 first → name ≡ string_bytes first
    → Some command ≡ value_by_name commands name → is_some (meaning_of_words words) ≡ true → Serves (map string_bytes words) command name
first_serves [] first name command some at is has plain = absurd (omega (arith, some))
first_serves (word ∷ words) first name command some at is has plain =
    let rest = map string_bytes words in
    let same : name ≡ string_bytes word = is ∙ ap string_bytes at in
    let p = is_plain (string_bytes word) rest plain in
    let found : value_by_name commands (string_bytes word) ≡ Some command = ap (value_by_name commands) (sym same) ∙ sym has in
    let one : p.command ≡ command = ap (λ (o : Option Command). unwrap_or o p.command) (sym p.has ∙ found) in
    subst (Serves (string_bytes word ∷ rest) command) (sym same) (subst (λ (command : Command). Serves (string_bytes word ∷ rest) command (string_bytes word)) one (
      found_alone (string_bytes word) p.command rest p.given p.has p.taken,
      taken_alone (string_bytes word) p.command rest p.given p.has p.taken,
      (at_row_of IsAlone commands (string_bytes word) p.command alone_known p.has).2,
      ap (option_map (λ (p : Text × List Found). p.0)) (found_in (string_bytes word) p.command rest p.given p.has p.taken),
    ))
