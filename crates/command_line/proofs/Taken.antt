-- clap takes plain words: a parse of them fails only for want of memory.
use Rattle.std.proofs.Common.{◌≡◌, ◌&&◌, ◌||◌, ◌++◌, not, Bool, true, false, List, [], ◌∷◌, refl, sym, subst, ◌∙◌, ap}
use Rattle.std.specs.Prelude.{Option, Some, None, codes, is_some, fold}
use Rattle.std.specs.Option.{option_map_or}
use Rattle.std.specs.List.{list_all}
use Rattle.std.specs.Str.{bytes_eq}
use Rattle.clap.specs.Lexer.{long_of}
use Rattle.clap.specs.Words.{App, Row as Found, Rule, Shape, Text, takes}
use Rattle.clap.specs.Walk.{Held, Names, Step, Walk, after_step, arg_by_id, arg_by_long, has_row, finished, idle, nothing_held, option, settled, subcommand_or_other, walk, walk_from, walked}
use Rattle.clap.specs.Simple.{entered, names_of}
use Rattle.clap.specs.Takes.{bundle_passes, built_takes, default_passes, entered_passes, flag_word_passes, is_valid, level_passes, long_passes, other_passes, settle_passes, step_passes, turn_passes, use_passes, values_pass, walk_passes, word_passes}
use Rattle.line_words.specs.Rows.{value_by_name}
use Rattle.command_line.specs.declared.options.Slot.{Slot}
use Rattle.command_line.specs.declared.words.Command.{Command}
use Rattle.command_line.specs.declared.words.Command.TheVariants.{Assemble}
use Rattle.command_line.specs.Options.{option_word, slot_word}
use Rattle.command_line.specs.Words.{Setting, commands, is_value, settings}
use Rattle.command_line.specs.Matched.{program_for}
use Rattle.command_line.proofs.Rows.{at_row_of}
use Rattle.command_line.proofs.Walks.{IsAlone, IsAmong, IsTaken, alone_known, asked, asking, built_with, dashes, first_taken, leaf_for, option_met_is, option_walked, pair_settled, pair_walked, paired, ready, rules_for, stops_at, value_dashes, no_long, no_short, value_met_is}

and_true : (a b : Bool) → a ≡ true → b ≡ true → (a && b) ≡ true
and_true true b x y = y
and_true false b x y = x

or_true : (a : Bool) → (a || true) ≡ true
or_true true = refl
or_true false = refl

-- ---- an option and its value

abbrev leaf : Text → Command → Shape
leaf name command = leaf_for (record { name = name; value = command })

module _ (name : Text) (command : Command) (s : Slot) (v : Text) (long : long_of (option_word s) ≡ Some (slot_word s, None)) (by_long : arg_by_long (rules_for command) (slot_word s) ≡ Some (ready s))
    (by_id : arg_by_id (rules_for command) (slot_word s) ≡ Some (ready s)) (named : bytes_eq (option_word s) dashes ≡ false) (valued : is_value v ≡ true) where
  abbrev id : Text
  id = slot_word s

  abbrev o : Text
  o = option_word s

  option_passes_word : (h : Held) → settle_passes (rules_for command) false h ≡ true → word_passes (leaf name command) [] false idle o h ≡ true
  option_passes_word h settles =
      let c = rules_for command in
      ap (λ (b : Bool). b || flag_word_passes c false (long_of o) o h) named
      ∙ ap (λ (l : Option (Text × Option Text)). flag_word_passes c false l o h) long
      ∙ ap (λ (a : Option Rule). long_passes c false a None h) by_long
      ∙ settles

  option_passes_turn : (h : Held) → settle_passes (rules_for command) false h ≡ true → turn_passes (leaf name command) [] (walk_from h) o ≡ true
  option_passes_turn h settles =
      let c = rules_for command in
      let met = option_met_is c s v long by_long by_id named valued h in
      and_true _ _ (option_passes_word h settles) (ap (λ (p : Held × Step). step_passes (leaf name command) 1 p.0 p.1) met)

  value_passes_word : (h : Held) → word_passes (leaf name command) [] false (option id) v h ≡ true
  value_passes_word h =
      let c = rules_for command in
      ap (λ (b : Bool). b || flag_word_passes c false (long_of v) v h) (value_dashes v valued)
      ∙ ap (λ (l : Option (Text × Option Text)). flag_word_passes c false l v h) (no_long c s v long by_long by_id named valued)
      ∙ ap (λ (t : Option Text). option_map_or (λ flags. bundle_passes c false flags h) t true) (no_short c s v long by_long by_id named valued)

  value_passes_turn : (h : Held) → turn_passes (leaf name command) [] (asking (rules_for command) s v long by_long by_id named valued h) v ≡ true
  value_passes_turn h =
      let c = rules_for command in
      let met = value_met_is c s v long by_long by_id named valued h in
      and_true _ _ (value_passes_word (asked c s v long by_long by_id named valued h)) (ap (λ (p : Held × Step). step_passes (leaf name command) 1 p.0 p.1) met)

  -- the value is the first of its option
  value_settles : (h : Held) → has_row id (settled (rules_for command) h).rows ≡ false → settle_passes (rules_for command) false (paired (rules_for command) s v h) ≡ true
  value_settles h new =
      let rows = (settled (rules_for command) h).rows in
      ap (λ (a : Option Rule). option_map_or (λ a. use_passes false a (v ∷ []) rows) a true) by_id
      ∙ ap (λ (b : Bool). (not b || false) && values_pass (ready s) (v ∷ [])) new

-- ---- the options of a command, in turn

pub pairs_pass : (name : Text) (command : Command) (rest : List Text) (given : List Setting) (h : Held) → IsTaken command rest given (settled (rules_for command) h).rows
    → settle_passes (rules_for command) false h ≡ true
    → (walk_passes (leaf name command) [] (walk_from h) rest ≡ true) × (settle_passes (rules_for command) false (fold (walked (rules_for command) []) (walk_from h) rest).held ≡ true)
unfolding walk_passes
pairs_pass name command [] given h taken settles = (refl, settles)
pairs_pass name command (o ∷ []) given h taken settles = let bad : settings command (o ∷ []) ≡ Some given = taken.reads in absurd (cc)
pairs_pass name command (o ∷ v ∷ rest) given h taken settles =
    let c = rules_for command in
    let leaf_shape = leaf name command in
    let rows = (settled c h).rows in
    let t = first_taken command o v rest given rows taken in
    let s = t.slot in
    let now = pair_settled c s v t.known.0 t.known.1 t.known.2 t.known.3 t.valued h t.is_new in
    let taken_now = subst (IsTaken command rest t.more) (sym now) t.behind in
    let onward = pairs_pass name command rest t.more (paired c s v h) taken_now (value_settles name command s v t.known.0 t.known.1 t.known.2 t.known.3 t.valued h t.is_new) in
    let asks = option_walked c s v t.known.0 t.known.1 t.known.2 t.known.3 t.valued h in
    let pairs = pair_walked c s v t.known.0 t.known.1 t.known.2 t.known.3 t.valued h in
    subst (λ (word : Text). (walk_passes (leaf name command) [] (walk_from h) (word ∷ v ∷ rest) ≡ true) × (settle_passes (rules_for command) false (fold (walked (rules_for command) []) (walk_from h) (word ∷ v ∷ rest)).held ≡ true)) t.word (
      and_true _ _ (option_passes_turn name command s v t.known.0 t.known.1 t.known.2 t.known.3 t.valued h settles)
          (and_true _ _ (ap (λ (w : Walk). turn_passes leaf_shape [] w v) asks ∙ value_passes_turn name command s v t.known.0 t.known.1 t.known.2 t.known.3 t.valued h)
          (ap (λ (w : Walk). walk_passes leaf_shape [] w rest) pairs ∙ onward.0)),
      ap (λ (w : Walk). settle_passes c false (fold (walked c []) w rest).held) pairs ∙ onward.1,
    )

defaults_pass : (command : Command) → list_all default_passes (rules_for command) ≡ true
defaults_pass Assemble = refl
defaults_pass command = refl

leaf_valid : (name : Text) (command : Command) (rows : List Found) → is_valid (leaf name command) rows false ≡ true
leaf_valid name Assemble rows = refl
leaf_valid name command rows = refl

leaf_passes : (name : Text) (command : Command) (rest : List Text) (given : List Setting) → IsTaken command rest given []
    → level_passes (leaf name command) [] nothing_held rest false ≡ true
leaf_passes name command rest given taken =
    let passes = pairs_pass name command rest given nothing_held taken refl in
    and_true _ _ passes.0 (and_true _ _ passes.1 (and_true _ _ (defaults_pass command) (leaf_valid name command _)))

-- ---- the command

-- the words after a command are left to it
stopped_passes : (s : Shape) (names : Names) (w : Walk) (name : Text) (seen rest : List Text) → walk_passes s names (record w { stopped = Some (name, seen) }) rest ≡ true
unfolding walk_passes walked
stopped_passes s names w name seen [] = refl
stopped_passes s names w name seen (word ∷ rest) = stopped_passes s names w name (seen ++ word ∷ []) rest

module _ (subs : List Shape) (word : Text) (command : Command) (rest : List Text) (known : IsAmong subs (record { name = word; value = command })) where
  abbrev top : Shape
  top = (built_with subs).top

  abbrev names : Names
  names = names_of (built_with subs)

  -- the walk from the command on
  command_passes : walk_passes top names (walk_from nothing_held) (word ∷ rest) ≡ true
  unfolding walk_passes walked
  command_passes =
      ap (λ (o : Option Text). (other_passes top o word nothing_held && step_passes top 1 (subcommand_or_other [] o idle 1 word nothing_held).0 (subcommand_or_other [] o idle 1 word nothing_held).1)
      && walk_passes top names (after_step [] word (walk_from nothing_held) (subcommand_or_other [] o idle 1 word nothing_held).0 (subcommand_or_other [] o idle 1 word nothing_held).1) rest) known.0
      ∙ and_true _ _ (and_true _ _ (or_true (not (bytes_eq word (codes "help")))) refl) (stopped_passes top names (walk_from nothing_held) word [] rest)

  top_passes : (has_subcommand : Bool) → level_passes top names nothing_held (word ∷ rest) has_subcommand ≡ true
  top_passes has_subcommand =
      and_true _ _ command_passes
      (ap (λ (w : Walk). settle_passes [] false w.held && (true && is_valid top (finished [] w.held) has_subcommand)) (stops_at subs word command rest known))

  command_taken : (given : List Setting) → IsTaken command rest given [] → built_takes (built_with subs) nothing_held (word ∷ rest) ≡ true
  command_taken given taken =
      and_true _ _
      (ap (λ (w : Walk). entered_passes (built_with subs) w.stopped) (stops_at subs word command rest known)
      ∙ ap (λ (s : Option Shape). option_map_or (λ s. level_passes s [] nothing_held rest false) s true) known.1
      ∙ leaf_passes word command rest given taken)
      (top_passes (is_some (entered (built_with subs) (walk [] names nothing_held (word ∷ rest)).stopped)))

-- clap, told of the command alone, takes the words
pub taken_alone : (word : Text) (command : Command) (rest : List Text) (given : List Setting) → value_by_name commands word ≡ Some command → IsTaken command rest given []
    → takes (program_for (record { name = word; value = command })) (word ∷ rest) ≡ true
taken_alone word command rest given has taken =
    let known = at_row_of IsAlone commands word command alone_known has in
    let leaf = leaf_for (record { name = word; value = command }) in
    and_true _ _ known.2 (ap (λ (b : App). built_takes b nothing_held (word ∷ rest)) known.1 ∙ command_taken (leaf ∷ []) word command rest known.0 given taken)
