-- Plain words as clap walks over them.
use Rattle.std.proofs.Common.{◌≡◌, ◌==◌, ◌&&◌, Bool, true, false, not, List, [], ◌∷◌, ◌++◌, map, refl, sym, subst, ◌∙◌, ap, true≢false, append-nil, append_assoc, rules}
use Rattle.std.proofs.Math.Path.{fun_ext}
use Rattle.std.specs.Prelude.{Option, Some, None, is_some, option_map, option_and_then, if◌then◌else◌, codes, find, fold, nat_lt, unwrap_or}
use Rattle.std.specs.Str.{bytes_eq}
use Rattle.std.proofs.lemmas.Slice.Eq.{bytes_eq-Decides}
use Rattle.clap.specs.Lexer.{long_of, long_of_rest, short_of, short_of_rest, strip_byte}
use Rattle.clap.specs.Words.{App, Row as Found, Rule, Shape, Text, built, is_simple, new_rule, subcommand_of}
use Rattle.clap.specs.Walk.{Held, Step, Walk, after_flag, after_step, answers_to, arg_by_id, arg_by_long, has_row, idle, long_met, long_or_other, more_values, next, nothing_held, option, option_word as option_value, reading_by, rows_after, settled, short_or_plain, stop_after, subcommand_or_other, trailing, used_by_id, walk, walk_from, walked, with_default, with_values, without, word_met}
use Rattle.clap.specs.Simple.{argument_words, entered, label_of, names_of, new_shape, rows_at}
use Rattle.clap.proofs.WalkLemmas.{both, walk_stopped}
use Rattle.clap.specs.declared.builder.action.ArgAction.TheVariants.{Set}
use Rattle.clap.specs.declared.builder.value_parser.ValueParser.TheVariants as vp
use Rattle.clap.specs.declared.parser.matches.ValueSource.TheVariants.{CommandLine}
use Rattle.line_words.specs.Rows.{NameRow, value_by_name}
use Rattle.command_line.specs.declared.options.Slot.{Slot}
use Rattle.command_line.specs.declared.words.Command.{Command}
use Rattle.command_line.specs.declared.words.Command.TheVariants.{Assemble}
use Rattle.command_line.specs.Options.{option_word, slot_word, slots}
use Rattle.command_line.specs.Reading.{reading_of_command}
use Rattle.command_line.specs.Words.{Setting, commands, has_required, is_once, is_value, plain, settings, slot_of, values_in_words, values_made, values_of}
use Rattle.command_line.specs.Matched.{meaning_found, program, program_for, values_found}
use Rattle.command_line.proofs.Rows.{Each, all_new, at_found, at_row_of, first_of_settings, found_is, fresh, is_new, new_more, row_for, rows_for}

-- ---- the command as clap builds it

-- an option with what it left out
abbrev pub ready : Slot → Rule
ready slot = record (new_rule (slot_word slot)) { long = Some (slot_word slot); action = Some Set; range = Some (record { start_inclusive = 1; end_inclusive = 1 }); parser = Some vp.String }

abbrev pub rules_for : Command → List Rule
rules_for command = map ready (slots command)

abbrev pub leaf_for : NameRow Command → Shape
leaf_for r = record (new_shape r.name) { rules = rules_for r.value; no_binary_name = true; disable_help_flag = true; disable_help_subcommand = true; is_built = true }

-- the program with such commands
abbrev pub built_with : List Shape → App
built_with subs = record {
  top = record (new_shape (codes "ibm1620")) { is_leaf = false; no_binary_name = true; disable_help_flag = true; disable_help_subcommand = true; is_built = true };
  subs = subs;
}

program_built : built program ≡ built_with (map leaf_for commands)
program_built = refl

-- ---- words that are options, and values

abbrev pub dashes : Text
dashes = 45 ∷ 45 ∷ []

-- the word of an option leads to its rule
abbrev pub IsOption : Command → Slot → Type 0
IsOption command s = (long_of (option_word s) ≡ Some (slot_word s, None)) × (arg_by_long (rules_for command) (slot_word s) ≡ Some (ready s))
    × (arg_by_id (rules_for command) (slot_word s) ≡ Some (ready s)) × (bytes_eq (option_word s) dashes ≡ false)

options_known : (command : Command) → Each (IsOption command) (slots command)
options_known Assemble = search rules
options_known command = search rules

-- an option that the command takes, and its word
pub option_known : (command : Command) (word : Text) (s : Slot) → slot_of command word ≡ Some s → IsOption command s × (option_word s ≡ word)
option_known command word s has =
    let found = at_found (IsOption command) (λ slot. bytes_eq (option_word slot) word) (slots command) s (options_known command) has in
    (found.0, (bytes_eq-Decides (option_word s) word).0 found.1)

value_strips : (v : Text) → is_value v ≡ true → strip_byte 45 v ≡ None
value_strips [] e = absurd (true≢false (sym e))
value_strips (b ∷ bytes) e = go (b == 45) e
  where
    go : (t : Bool) → not t ≡ true → (if t then Some bytes else None) ≡ None
    go true f = absurd (true≢false (sym f))
    go false f = refl

pub value_dashes : (v : Text) → is_value v ≡ true → bytes_eq v dashes ≡ false
value_dashes v e = go (bytes_eq v dashes) refl
  where
    go : (t : Bool) → bytes_eq v dashes ≡ t → t ≡ false
    go true f =
        let bad : is_value dashes ≡ true = ap is_value (sym ((bytes_eq-Decides v dashes).0 f)) ∙ e in
        absurd (true≢false (sym bad))
    go false f = refl

same_bytes : (t : Text) → bytes_eq t t ≡ true
same_bytes t = (bytes_eq-Decides t t).1 refl

-- ---- an option and its value

-- what is held after an option and its value
abbrev pub paired : List Rule → Slot → Text → Held → Held
paired c s v h = record (settled c h) { pending = Some (slot_word s, v ∷ []) }

module _ (c : List Rule) (s : Slot) (v : Text) (long : long_of (option_word s) ≡ Some (slot_word s, None)) (by_long : arg_by_long c (slot_word s) ≡ Some (ready s))
    (by_id : arg_by_id c (slot_word s) ≡ Some (ready s)) (named : bytes_eq (option_word s) dashes ≡ false) (valued : is_value v ≡ true) where
  abbrev id : Text
  id = slot_word s

  abbrev o : Text
  o = option_word s

  -- after the option
  abbrev pub asked : Held → Held
  asked h = record (settled c h) { pending = Some (id, []) }

  abbrev pub asking : Held → Walk
  asking h = record (walk_from h) { held = asked h; waiting = option id }

  pub option_met_is : (h : Held) → word_met c [] false idle 1 o h ≡ (asked h, next (option id))
  option_met_is h =
      ap (λ (b : Bool). if b then (h, trailing 1) else long_or_other c idle o (long_of o) h) named
      ∙ ap (λ (l : Option (Text × Option Text)). long_or_other c idle o l h) long
      ∙ ap (λ (a : Option Rule). after_flag c idle o (long_met c a None h).0 (long_met c a None h).1) by_long

  pub option_walked : (h : Held) → walked c [] (walk_from h) o ≡ asking h
  unfolding walked
  option_walked h = ap (λ (p : Held × Step). after_step c o (walk_from h) p.0 p.1) (option_met_is h)

  pub no_long : long_of v ≡ None
  no_long = ap (λ (t : Option Text). option_and_then long_of_rest (option_and_then (strip_byte 45) t)) (value_strips v valued)

  pub no_short : short_of v ≡ None
  no_short = ap (λ (t : Option Text). option_and_then short_of_rest t) (value_strips v valued)

  pub value_met_is : (h : Held) → word_met c [] false (option id) 1 v (asked h) ≡ (paired c s v h, next idle)
  value_met_is h =
      ap (λ (b : Bool). if b then (asked h, trailing 1) else long_or_other c (option id) v (long_of v) (asked h)) (value_dashes v valued)
      ∙ ap (λ (l : Option (Text × Option Text)). long_or_other c (option id) v l (asked h)) no_long
      ∙ ap (λ (t : Option Text). short_or_plain c (option id) v t (asked h)) no_short
      ∙ ap (λ (a : Option Rule). ((option_value a id v (asked h)).0, next (option_value a id v (asked h)).1)) by_id
      ∙ ap (λ (b : Bool). (paired c s v h, next (if nat_lt (if b then 1 else 0) 1 then option id else idle))) (same_bytes id)

  pub value_walked : (h : Held) → walked c [] (asking h) v ≡ walk_from (paired c s v h)
  unfolding walked
  value_walked h = ap (λ (p : Held × Step). after_step c v (asking h) p.0 p.1) (value_met_is h)

  pub pair_walked : (h : Held) → walked c [] (walked c [] (walk_from h) o) v ≡ walk_from (paired c s v h)
  pair_walked h = ap (λ (w : Walk). walked c [] w v) (option_walked h) ∙ value_walked h

  -- the rows once the value is used
  pub pair_settled : (h : Held) → has_row id (settled c h).rows ≡ false → (settled c (paired c s v h)).rows ≡ (settled c h).rows ++ row_for s v ∷ []
  pair_settled h new =
      let rows = (settled c h).rows in
      let kept : without id rows ≡ rows = fresh id (λ (r : Found). []) [] rows new ∙ append-nil rows in
      ap (λ (a : Option Rule). used_by_id a (v ∷ []) rows) by_id
      ∙ ap (with_values id (reading_by (ready s)) CommandLine (v ∷ [])) kept
      ∙ fresh id (more_values CommandLine (v ∷ [])) (row_for s v ∷ []) rows new

-- ---- the options of a command, in turn

not_true : (b : Bool) → not b ≡ true → b ≡ false
not_true true e = absurd (true≢false (sym e))
not_true false e = refl

some_of : (a b : List Setting) → Some a ≡ Some b → a ≡ b
some_of a b e = ap (λ (o : Option (List Setting)). unwrap_or o a) e

-- the words are settings of these slots, each once, and none has a row yet
pub record IsTaken (command : Command) (words : List Text) (given : List Setting) (rows : List Found) : Type 0 where
  pub reads : settings command words ≡ Some given
  pub once : is_once given ≡ true
  pub new : is_new rows given ≡ true

-- so the first of them, and those behind it
pub record Taken (command : Command) (o v : Text) (rest : List Text) (given : List Setting) (rows : List Found) : Type 0 where
  pub slot : Slot
  pub more : List Setting
  pub known : IsOption command slot
  pub word : option_word slot ≡ o
  pub valued : is_value v ≡ true
  pub is_new : has_row (slot_word slot) rows ≡ false
  pub is : given ≡ (slot, v) ∷ more
  pub behind : IsTaken command rest more (rows ++ row_for slot v ∷ [])

pub first_taken : (command : Command) (o v : Text) (rest : List Text) (given : List Setting) (rows : List Found) → IsTaken command (o ∷ v ∷ rest) given rows → Taken command o v rest given rows
first_taken command o v rest given rows taken =
    let first = first_of_settings command o v rest given taken.reads in
    let known = option_known command o first.slot first.has in
    let once = both _ _ (ap is_once (sym first.is) ∙ taken.once) in
    let new = both _ _ (ap (is_new rows) (sym first.is) ∙ taken.new) in
    record {
      slot = first.slot;
      more = first.more;
      known = known.0;
      word = known.1;
      valued = first.is_value;
      is_new = not_true _ new.0;
      is = first.is;
      behind = record { reads = first.behind; once = once.1; new = new_more rows first.slot v first.more new.1 once.0 };
    }

pub rows_walked : (command : Command) (rest : List Text) (given : List Setting) (h : Held) → IsTaken command rest given (settled (rules_for command) h).rows
    → (settled (rules_for command) (fold (walked (rules_for command) []) (walk_from h) rest).held).rows ≡ (settled (rules_for command) h).rows ++ rows_for given
rows_walked command [] given h taken =
    sym (append-nil _) ∙ ap (λ (given : List Setting). (settled (rules_for command) h).rows ++ rows_for given) (some_of [] given taken.reads)
rows_walked command (o ∷ []) given h taken = let bad : settings command (o ∷ []) ≡ Some given = taken.reads in absurd (cc)
rows_walked command (o ∷ v ∷ rest) given h taken =
    let c = rules_for command in
    let rows = (settled c h).rows in
    let t = first_taken command o v rest given rows taken in
    let s = t.slot in
    let now = pair_settled c s v t.known.0 t.known.1 t.known.2 t.known.3 t.valued h t.is_new in
    let taken_now = subst (IsTaken command rest t.more) (sym now) t.behind in
    ap (λ (word : Text). (settled c (fold (walked c []) (walked c [] (walked c [] (walk_from h) word) v) rest).held).rows) (sym t.word)
    ∙ ap (λ (w : Walk). (settled c (fold (walked c []) w rest).held).rows) (pair_walked c s v t.known.0 t.known.1 t.known.2 t.known.3 t.valued h)
    ∙ rows_walked command rest t.more (paired c s v h) taken_now
    ∙ ap (λ (rs : List Found). rs ++ rows_for t.more) now
    ∙ append_assoc rows (row_for s v ∷ []) (rows_for t.more)
    ∙ ap (λ (given : List Setting). rows ++ rows_for given) (sym t.is)

-- no option has a default
no_defaults : (given : List Slot) (rows : List Found) → fold with_default rows (map ready given) ≡ rows
no_defaults [] rows = refl
no_defaults (s ∷ more) rows = ap (λ (x : List Found). fold with_default x (map ready more)) (go (has_row (slot_word s) rows)) ∙ no_defaults more rows
  where
    go : (b : Bool) → (if b then rows else rows) ≡ rows
    go true = refl
    go false = refl

pub leaf_rows : (command : Command) (rest : List Text) (given : List Setting) → IsTaken command rest given [] → rows_after (rules_for command) [] rest ≡ rows_for given
leaf_rows command rest given taken =
    no_defaults (slots command) _ ∙ rows_walked command rest given nothing_held taken

-- ---- the command

-- a name leads to its command among these
abbrev pub IsAmong : List Shape → NameRow Command → Type 0
IsAmong subs r = (option_map (λ (s : Text × List Text). s.0) (find (answers_to r.name) (names_of (built_with subs))) ≡ Some r.name)
    × (find (λ (s : Shape). answers_to r.name (label_of s)) subs ≡ Some (leaf_for r))

commands_known : Each (IsAmong (map leaf_for commands)) commands
commands_known = search rules

-- the same of a command that clap is told of alone
abbrev pub IsAlone : NameRow Command → Type 0
IsAlone r = (IsAmong (leaf_for r ∷ []) r) × (built (program_for r) ≡ built_with (leaf_for r ∷ [])) × (is_simple (program_for r) ≡ true)

pub alone_known : Each IsAlone commands
alone_known = search rules

-- the walk stops at the command, before its options
pub stops_at : (subs : List Shape) (word : Text) (command : Command) (rest : List Text) → IsAmong subs (record { name = word; value = command })
    → walk [] (names_of (built_with subs)) nothing_held (word ∷ rest) ≡ record (walk_from nothing_held) { stopped = Some (word, rest) }
unfolding walked
stops_at subs word command rest known =
    ap (λ (name : Option Text). fold (walked [] (names_of (built_with subs))) (after_step [] word (walk_from nothing_held) (subcommand_or_other [] name idle 1 word nothing_held).0 (subcommand_or_other [] name idle 1 word nothing_held).1) rest) known.0
    ∙ sym (walk_stopped [] (names_of (built_with subs)) (walk_from nothing_held) word [] rest)

-- clap finds the command of plain words, and the rows of its options
found_by : (app : App) (subs : List Shape) (word : Text) (command : Command) (rest : List Text) (given : List Setting) → argument_words app (word ∷ rest) ≡ word ∷ rest → built app ≡ built_with subs
    → IsAmong subs (record { name = word; value = command }) → IsTaken command rest given [] → subcommand_of app (word ∷ rest) ≡ Some (word, rows_for given)
found_by app subs word command rest given all builds known taken =
    ap (λ (words : List Text). entered (built app) (stop_after (built app).top.rules (names_of (built app)) words)) all
    ∙ ap (λ (b : App). entered b (stop_after b.top.rules (names_of b) (word ∷ rest))) builds
    ∙ ap (λ (w : Walk). entered (built_with subs) w.stopped) (stops_at subs word command rest known)
    ∙ ap (option_map (λ (s : Shape). rows_at s rest)) known.1
    ∙ ap (λ (rows : List Found). Some (word, rows)) (leaf_rows command rest given taken)

pub found_in : (word : Text) (command : Command) (rest : List Text) (given : List Setting) → value_by_name commands word ≡ Some command → IsTaken command rest given []
    → subcommand_of program (word ∷ rest) ≡ Some (word, rows_for given)
found_in word command rest given has taken =
    found_by program (map leaf_for commands) word command rest given refl program_built (at_row_of (IsAmong (map leaf_for commands)) commands word command commands_known has) taken

-- and so where it is told of that command alone
pub found_alone : (word : Text) (command : Command) (rest : List Text) (given : List Setting) → value_by_name commands word ≡ Some command → IsTaken command rest given []
    → subcommand_of (program_for (record { name = word; value = command })) (word ∷ rest) ≡ subcommand_of program (word ∷ rest)
found_alone word command rest given has taken =
    let known = at_row_of IsAlone commands word command alone_known has in
    let leaf = leaf_for (record { name = word; value = command }) in
    found_by (program_for (record { name = word; value = command })) (leaf ∷ []) word command rest given refl known.1 known.0 taken ∙ sym (found_in word command rest given has taken)

-- ---- plain words

-- a command, and settings behind it
pub record IsPlain (word : Text) (rest : List Text) : Type 0 where
  pub command : Command
  pub given : List Setting
  pub has : value_by_name commands word ≡ Some command
  pub taken : IsTaken command rest given []
  pub means : plain (word ∷ rest) ≡ reading_of_command command (values_of given)

module _ (word : Text) (rest : List Text) where
  by_made : (command : Command) (given : List Setting) → value_by_name commands word ≡ Some command → settings command rest ≡ Some given
      → (b : Bool) → (is_once given && has_required command (values_of given)) ≡ b → plain (word ∷ rest) ≡ option_and_then (reading_of_command command) (if b then Some (values_of given) else None)
      → is_some (option_and_then (reading_of_command command) (if b then Some (values_of given) else None)) ≡ true → IsPlain word rest
  by_made command given has reads true made is e = record {
    command = command;
    given = given;
    has = has;
    taken = record { reads = reads; once = (both _ _ made).0; new = all_new given };
    means = is;
  }
  by_made command given has reads false made is e = absurd (true≢false (sym e))

  by_settings : (command : Command) → value_by_name commands word ≡ Some command → (o : Option (List Setting)) → settings command rest ≡ o
      → plain (word ∷ rest) ≡ option_and_then (reading_of_command command) (option_and_then (values_made command) o)
      → is_some (option_and_then (reading_of_command command) (option_and_then (values_made command) o)) ≡ true → IsPlain word rest
  by_settings command has None reads is e = absurd (true≢false (sym e))
  by_settings command has (Some given) reads is e = by_made command given has reads (is_once given && has_required command (values_of given)) refl is e

  by_command : (o : Option Command) → value_by_name commands word ≡ o → plain (word ∷ rest) ≡ option_and_then (λ command. option_and_then (reading_of_command command) (values_in_words command rest)) o
      → is_some (option_and_then (λ command. option_and_then (reading_of_command command) (values_in_words command rest)) o) ≡ true → IsPlain word rest
  by_command None has is e = absurd (true≢false (sym e))
  by_command (Some command) has is e =
      by_settings command has (settings command rest) refl is e

  pub is_plain : is_some (plain (word ∷ rest)) ≡ true → IsPlain word rest
  is_plain e = by_command (value_by_name commands word) refl refl e

-- clap finds in plain words what they mean
pub plain_matched : (words : List Text) → is_some (plain words) ≡ true → meaning_found (subcommand_of program words) ≡ plain words
plain_matched [] e = absurd (true≢false (sym e))
plain_matched (word ∷ rest) e =
    let p = is_plain word rest e in
    ap meaning_found (found_in word p.command rest p.given p.has p.taken)
    ∙ ap (λ (o : Option Command). option_and_then (λ command. reading_of_command command (values_found (rows_for p.given))) o) p.has
    ∙ ap (reading_of_command p.command) (fun_ext (found_is p.given))
    ∙ sym p.means
