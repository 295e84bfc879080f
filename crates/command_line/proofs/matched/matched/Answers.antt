use Rattle.std.proofs.Common.{◌∙◌, sym, ap, map, string_bytes, List}
use Rattle.std.specs.Prelude.{Option, option_map, option_and_then}
use Rattle.clap.specs.declared.parser.matches.ArgMatches.TheViews.{out-ArgMatches}
use Rattle.clap.specs.Words.{App, Row as Found, Text, found_of, is_simple, rows_of, subcommand_of, takes}
use Rattle.line_words.specs.Rows.{value_by_name}
use Rattle.command_line.specs.declared.words.Command.{Command}
use Rattle.command_line.specs.Words.{commands}
use Rattle.command_line.specs.Reading.{reading_of_command}
use Rattle.command_line.specs.Matched.{meaning_found, values_found}
use Rattle.command_line.proofs.Found.{found_both, nothing_met}
use Rattle.command_line.proofs.Alone.{first_serves}
use Rattle.command_line.proofs.matched.matched.Goals as goal

pub memory_error-requires : goal.memory_error-requires
memory_error-requires c =
    let words = map string_bytes c.args.words.now in
    let serves = first_serves c.args.words.now c.first-item.result c.as_str-name.result.now c.in-Some.command c.in-len1-up.len_at_least c.first-item.is c.as_str-name.ensures.value c.in-Some.ensures c.requires in
    c.in-Err.ensures.passes (ap (λ (a : App). takes a words) c.in_ok-program.ensures ∙ serves.1)

pub returns-in-None : goal.returns-in-None
returns-in-None c =
    let words = map string_bytes c.args.words.now in
    let serves = first_serves c.args.words.now c.first-item.result c.as_str-name.result.now c.in-Some.command c.in-len1-up.len_at_least c.first-item.is c.as_str-name.ensures.value c.in-Some.ensures c.requires in
    let found = (c.in-Ok.ensures.matches (ap is_simple c.in_ok-program.ensures ∙ serves.2)).1 ∙ ap (λ (a : App). subcommand_of a words) c.in_ok-program.ensures ∙ serves.0 in
    ap meaning_found (nothing_met _ (out-ArgMatches c.in-Ok.matches).subcommand (sym c.in-None.ensures.variant) ∙ found)

pub returns : goal.returns
returns c =
    let words = map string_bytes c.args.words.now in
    let serves = first_serves c.args.words.now c.first-item.result c.as_str-name.result.now c.in-Some.command c.in-len1-up.len_at_least c.first-item.is c.as_str-name.ensures.value c.in-Some.ensures c.requires in
    let name = c.in-Some-subcommand.field-0-0.now in
    let rows = rows_of (found_of c.in-Some-subcommand.options.now) in
    let named = found_both _ (out-ArgMatches c.in-Ok.matches).subcommand name rows c.in-Some-subcommand.ensures.name c.in-Some-subcommand.ensures.rows in
    let found = (c.in-Ok.ensures.matches (ap is_simple c.in_ok-program.ensures ∙ serves.2)).1 ∙ ap (λ (a : App). subcommand_of a words) c.in_ok-program.ensures ∙ serves.0 in
    let same = ap (option_and_then (value_by_name commands)) (ap (option_map (λ (p : Text × List Found). p.0)) (sym named ∙ found) ∙ serves.3) in
    c.read.ensures ∙ ap (reading_of_command c.in-Some.command) c.values_found.ensures ∙ ap (λ (o : Option Command). option_and_then (λ command. reading_of_command command (values_found rows)) o) (c.in-Some.ensures ∙ sym same) ∙ ap meaning_found (sym named ∙ found)
