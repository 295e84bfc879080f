-- Options and values, two words at a time, and the map that they make.
use Rattle.std.proofs.Common.{◌≡◌, ℕ, ◌-◌, ◌≤◌, ◌&&◌, Bool, true, false, List, [], ◌∷◌, length, take, drop, get_or, map, refl, sym, ◌∙◌, ap, ap₂, arith, Global, not, true≢false}
use Rattle.std.proofs.Math.Path.{fun_ext}
use Rattle.std.proofs.lemmas.List.{take_all}
use Rattle.std.specs.Prelude.{Option, Some, None, String, string_bytes, is_some, option_map, option_and_then, if◌then◌else◌}
use Rattle.std.specs.List.{list_all}
use Rattle.std.specs.Option.{option_or}
use Rattle.command_line.specs.declared.options.Slot.{Slot}
use Rattle.command_line.specs.declared.words.Command.{Command}
use Rattle.command_line.specs.Options.{same_slot}
use Rattle.command_line.specs.Reading.{Values}
use Rattle.command_line.specs.Words.{Setting, has_required, is_once, no_values, setting, settings, values_in_words, values_made, values_of, with_one_setting, with_value}
use Rattle.command_line.proofs.Slots.{slot_same, slots_swapped}

-- ---- settings put into a map, one after another

abbrev pub collected : Values → List Setting → Option Values
collected start [] = Some start
collected start (s ∷ more) = if is_some (start s.0) then None else collected (with_value s.0 s.1 start) more

-- no setting is in the map yet
abbrev is_fresh : Values → List Setting → Bool
is_fresh start given = list_all (λ s. not (is_some (start s.0))) given

-- the map, and behind it what the settings give
abbrev joined : Values → List Setting → Values
joined start given t = option_or (start t) (values_of given t)

abbrev joined_if : Values → List Setting → Option Values
joined_if start given = if is_fresh start given && is_once given then Some (joined start given) else None

and_false : (a : Bool) → false ≡ (a && false)
and_false true = refl
and_false false = refl

and_true : (a : Bool) → a ≡ (a && true)
and_true true = refl
and_true false = refl

and_past : (a b c : Bool) → (a && (b && c)) ≡ ((a && b) && c)
and_past true b c = refl
and_past false b c = refl

-- what is fresh beside one setting more
fresh_with : (s : Slot) (text : List ℕ) (start : Values) (given : List Setting) → is_fresh (with_value s text start) given ≡ (is_fresh start given && not (is_some (values_of given s)))
fresh_with s text start [] = refl
fresh_with s text start (x ∷ more) =
    ap (λ (b : Bool). not (is_some (if b then Some text else start x.0)) && is_fresh (with_value s text start) more) (slots_swapped s x.0)
    ∙ go (same_slot x.0 s) (fresh_with s text start more)
  where
    go : (b : Bool) → is_fresh (with_value s text start) more ≡ (is_fresh start more && not (is_some (values_of more s)))
        → (not (is_some (if b then Some text else start x.0)) && is_fresh (with_value s text start) more) ≡ ((not (is_some (start x.0)) && is_fresh start more) && not (is_some (if b then Some x.1 else values_of more s)))
    go true rest = and_false _
    go false rest = ap (λ (b : Bool). not (is_some (start x.0)) && b) rest ∙ and_past (not (is_some (start x.0))) (is_fresh start more) (not (is_some (values_of more s)))

none_of : (o : Option (List ℕ)) → is_some o ≡ false → o ≡ None
none_of None e = refl
none_of (Some t) e = absurd (cc)

joined_with : (s : Setting) (start : Values) (more : List Setting) → is_some (start s.0) ≡ false → joined (with_value s.0 s.1 start) more ≡ joined start (s ∷ more)
joined_with s start more none = fun_ext (λ t. go t (same_slot s.0 t) refl)
  where
    go : (t : Slot) (b : Bool) → same_slot s.0 t ≡ b → option_or (if b then Some s.1 else start t) (values_of more t) ≡ option_or (start t) (if b then Some s.1 else values_of more t)
    go t true same =
        let at : s.0 ≡ t = slot_same s.0 t same in
        ap (λ (o : Option (List ℕ)). option_or o (Some s.1)) (sym (none_of (start t) (ap (λ (x : Slot). is_some (start x)) (sym at) ∙ none)))
    go t false same = refl

-- of the tests, the one of the first setting moves to the front
tests_moved : (a b c d : Bool) → a ≡ false → ((b && not c) && d) ≡ ((not a && b) && (not c && d))
tests_moved true b c d e = absurd (true≢false e)
tests_moved false true true d e = refl
tests_moved false true false d e = refl
tests_moved false false c d e = refl

none_behind : (o : Option (List ℕ)) → o ≡ option_or o None
none_behind None = refl
none_behind (Some t) = refl

pub collected_is : (start : Values) (given : List Setting) → collected start given ≡ joined_if start given
collected_is start [] = ap (λ (v : Values). Some v) (fun_ext (λ t. none_behind (start t)))
collected_is start (s ∷ more) = go (collected_is (with_value s.0 s.1 start) more) (is_some (start s.0)) refl
  where
    go : collected (with_value s.0 s.1 start) more ≡ joined_if (with_value s.0 s.1 start) more → (b : Bool) → is_some (start s.0) ≡ b → (if b then None else collected (with_value s.0 s.1 start) more) ≡ joined_if start (s ∷ more)
    go behind true is = ap (λ (b : Bool). if (not b && is_fresh start more) && is_once (s ∷ more) then Some (joined start (s ∷ more)) else None) (sym is)
    go behind false is =
        behind
        ∙ ap (λ (b : Bool). if b && is_once more then Some (joined (with_value s.0 s.1 start) more) else None) (fresh_with s.0 s.1 start more)
        ∙ ap (λ (b : Bool). if b then Some (joined (with_value s.0 s.1 start) more) else None) (tests_moved (is_some (start s.0)) (is_fresh start more) (is_some (values_of more s.0)) (is_once more) is)
        ∙ ap (λ (v : Values). if is_fresh start (s ∷ more) && is_once (s ∷ more) then Some v else None) (joined_with s start more is)

all_fresh : (given : List Setting) → is_fresh no_values given ≡ true
all_fresh [] = refl
all_fresh (s ∷ more) = all_fresh more

-- from an empty map
pub collected_once : (given : List Setting) → collected no_values given ≡ (if is_once given then Some (values_of given) else None)
collected_once given =
    collected_is no_values given
    ∙ ap (λ (b : Bool). if b && is_once given then Some (joined no_values given) else None) (all_fresh given)

-- ---- the words

-- what words make of a map
abbrev pub words_collected : Command → Values → List (List ℕ) → Option Values
words_collected command start words = option_and_then (collected start) (settings command words)

-- the required ones are there
abbrev pub if_required : Command → Option Values → Option Values
if_required command made = option_and_then (λ values. if has_required command values then Some values else None) made

made_is : (command : Command) (given : List Setting) → if_required command (collected no_values given) ≡ values_made command given
made_is command given = ap (if_required command) (collected_once given) ∙ go (is_once given)
  where
    go : (b : Bool) → if_required command (if b then Some (values_of given) else None) ≡ (if b && has_required command (values_of given) then Some (values_of given) else None)
    go true = refl
    go false = refl

pub words_make : (command : Command) (words : List (List ℕ)) → if_required command (words_collected command no_values words) ≡ values_in_words command words
words_make command words = go (settings command words)
  where
    go : (o : Option (List Setting)) → if_required command (option_and_then (collected no_values) o) ≡ option_and_then (values_made command) o
    go None = refl
    go (Some given) = made_is command given

-- one option and its value
first_two : (command : Command) (start : Values) (first : Option Setting) (rest : Option (List Setting)) → option_and_then (collected start) (option_and_then (λ s. option_map (λ more. s ∷ more) rest) first)
    ≡ option_and_then (λ next. option_and_then (collected next) rest) (with_one_setting start first)
first_two command start None rest = refl
first_two command start (Some s) None = go (is_some (start s.0))
  where
    go : (b : Bool) → None ≡ option_and_then (λ next. option_and_then (collected next) None) (if b then None else Some (with_value s.0 s.1 start))
    go true = refl
    go false = refl
first_two command start (Some s) (Some more) = go (is_some (start s.0))
  where
    go : (b : Bool) → (if b then None else collected (with_value s.0 s.1 start) more) ≡ option_and_then (λ next. collected next more) (if b then None else Some (with_value s.0 s.1 start))
    go true = refl
    go false = refl

module _ (command : Command) (start : Values) (words : List (String Global)) (option value : String Global) (two : 2 ≤ length words) (o : option ≡ get_or words 0 option) (v : value ≡ get_or words 1 value) where
  abbrev behind : List (List ℕ)
  behind = map string_bytes (take (length words - 2) (drop 2 words))

  words_are : (words : List (String Global)) → 2 ≤ length words → option ≡ get_or words 0 option → value ≡ get_or words 1 value
      → map string_bytes words ≡ string_bytes option ∷ string_bytes value ∷ map string_bytes (take (length words - 2) (drop 2 words))
  words_are [] two o v = absurd (omega (arith, two))
  words_are (a ∷ []) two o v = absurd (omega (arith, two))
  words_are (a ∷ b ∷ rest) two o v =
      ap₂ (λ (x y : String Global). string_bytes x ∷ string_bytes y ∷ map string_bytes rest) (sym o) (sym v)
      ∙ ap (λ (ws : List (String Global)). string_bytes option ∷ string_bytes value ∷ map string_bytes ws) (sym (take_all (length (a ∷ b ∷ rest) - 2) rest (omega arith)))

  by_new : (made : Option Values) → with_one_setting start (setting command (string_bytes option) (string_bytes value)) ≡ made
      → words_collected command start (map string_bytes words) ≡ option_and_then (λ next. words_collected command next behind) made
  by_new made is =
      ap (words_collected command start) (words_are words two o v)
      ∙ first_two command start (setting command (string_bytes option) (string_bytes value)) (settings command behind)
      ∙ ap (λ (made : Option Values). option_and_then (λ next. words_collected command next behind) made) is

  -- a setting that is new
  pub set_once : (next : Values) → Some next ≡ with_one_setting start (setting command (string_bytes option) (string_bytes value))
      → words_collected command start (map string_bytes words) ≡ words_collected command next behind
  set_once next is = by_new (Some next) (sym is)

  -- what is none, or is not new
  pub refused_two : None ≡ with_one_setting start (setting command (string_bytes option) (string_bytes value)) → words_collected command start (map string_bytes words) ≡ None
  refused_two is = by_new None (sym is)

-- ---- the end

-- no word is left
pub collected_end : (command : Command) (start : Values) (words : List (String Global)) → length words ≡ 0 → has_required command start ≡ true
    → Some start ≡ if_required command (words_collected command start (map string_bytes words))
collected_end command start [] none has = ap (λ (b : Bool). if b then Some start else None) (sym has)
collected_end command start (w ∷ words) none has = absurd (omega (arith, none))

-- one word is left
pub collected_odd : (command : Command) (start : Values) (words : List (String Global)) → length words ≡ 1 → None ≡ if_required command (words_collected command start (map string_bytes words))
collected_odd command start [] one = absurd (omega (arith, one))
collected_odd command start (w ∷ []) one = refl
collected_odd command start (w ∷ x ∷ words) one = absurd (omega (arith, one))
