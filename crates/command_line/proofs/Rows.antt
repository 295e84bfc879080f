-- Tables, and the rows that stand for settings.
use Rattle.std.proofs.Common.{◌≡◌, ◌||◌, ◌&&◌, not, Bool, true, false, List, [], ◌∷◌, ◌++◌, map, refl, sym, subst, ◌∙◌, ap, true≢false}
use Rattle.std.specs.Prelude.{Option, Some, None, is_some, option_map, option_and_then, if◌then◌else◌, unwrap_or, slice_get, find}
use Rattle.std.specs.List.{list_all}
use Rattle.std.specs.Str.{bytes_eq}
use Rattle.std.proofs.lemmas.Slice.Eq.{bytes_eq-Decides}
use Rattle.clap.specs.Walk.{at_row, has_row}
use Rattle.clap.specs.Words.{Row as Found, Text, reading_of}
use Rattle.clap.specs.declared.builder.value_parser.ValueParser.TheVariants as vp
use Rattle.clap.specs.declared.parser.matches.ValueSource.TheVariants.{CommandLine}
use Rattle.clap.proofs.WalkLemmas.{both}
use Rattle.line_words.specs.Rows.{NameRow, value_by_name}
use Rattle.command_line.specs.declared.options.Slot.{Slot}
use Rattle.command_line.specs.declared.words.Command.{Command}
use Rattle.command_line.specs.Options.{same_slot, slot_word}
use Rattle.command_line.specs.Words.{Setting, is_value, settings, slot_of, values_of}
use Rattle.command_line.specs.Matched.{values_found}
use Rattle.command_line.proofs.Slots.{slots_swapped, words_agree}

-- ---- tables

-- P holds of each
abbrev pub Each : {A : Type 0} → (A → Type 0) → List A → Type 0
Each P [] = Unit {0}
Each P (x ∷ xs) = P x × Each P xs

-- and so of the row that a name finds
pub at_row_of : {A : Type 0} (P : NameRow A → Type 0) (rows : List (NameRow A)) (name : Text) (v : A) → Each P rows → value_by_name rows name ≡ Some v → P (record { name = name; value = v })
unfolding value_by_name
at_row_of P [] name v each e = absurd (cc)
at_row_of {A} P (r ∷ rs) name v each e = go (bytes_eq name r.name) refl (at_row_of P rs name v each.1) e
  where
    some : Some r.value ≡ Some v → r.value ≡ v
    some same = ap (λ (o : Option A). unwrap_or o r.value) same

    go : (b : Bool) → bytes_eq name r.name ≡ b → (value_by_name rs name ≡ Some v → P (record { name = name; value = v }))
        → (if b then Some r.value else value_by_name rs name) ≡ Some v → P (record { name = name; value = v })
    go true is rec f =
        let same : r.name ≡ name = sym ((bytes_eq-Decides name r.name).0 is) in
        subst P (λ i. record { name = same i; value = some f i }) each.0
    go false is rec f = rec f

-- and of what a test finds, which passes it
pub at_found : (P : Slot → Type 0) (p : Slot → Bool) (xs : List Slot) (x : Slot) → Each P xs → find p xs ≡ Some x → P x × (p x ≡ true)
at_found P p [] x each e = absurd (cc)
at_found P p (y ∷ ys) x each e = go (p y) refl (at_found P p ys x each.1) e
  where
    some : Some y ≡ Some x → y ≡ x
    some same = ap (λ (o : Option Slot). unwrap_or o y) same

    go : (b : Bool) → p y ≡ b → (find p ys ≡ Some x → P x × (p x ≡ true)) → (if b then Some y else find p ys) ≡ Some x → P x × (p x ≡ true)
    go true is rec f = (subst P (some f) each.0, ap p (sym (some f)) ∙ is)
    go false is rec f = rec f

-- ---- an option with its value

-- an option, its slot and its value, with the settings behind them
pub record First (command : Command) (option value : Text) (rest : List Text) (given : List Setting) : Type 0 where
  pub slot : Slot
  pub more : List Setting
  pub is_value : is_value value ≡ true
  pub has : slot_of command option ≡ Some slot
  pub behind : settings command rest ≡ Some more
  pub is : given ≡ (slot, value) ∷ more

module _ (command : Command) (option value : Text) (rest : List Text) (given : List Setting) where
  by_rest : (slot : Slot) → is_value value ≡ true → slot_of command option ≡ Some slot → (o : Option (List Setting)) → settings command rest ≡ o
      → option_map (λ more. (slot, value) ∷ more) o ≡ Some given → First command option value rest given
  by_rest slot valued has None behind e = absurd (cc)
  by_rest slot valued has (Some more) behind e = record {
    slot = slot;
    more = more;
    is_value = valued;
    has = has;
    behind = behind;
    is = ap (λ (o : Option (List Setting)). unwrap_or o []) (sym e);
  }

  by_slot : is_value value ≡ true → (o : Option Slot) → slot_of command option ≡ o
      → option_and_then (λ first. option_map (λ more. first ∷ more) (settings command rest)) (option_map (λ slot. (slot, value)) o) ≡ Some given → First command option value rest given
  by_slot valued None has e = absurd (cc)
  by_slot valued (Some slot) has e = by_rest slot valued has (settings command rest) refl e

  by_value : (b : Bool) → is_value value ≡ b
      → option_and_then (λ first. option_map (λ more. first ∷ more) (settings command rest)) (if b then option_map (λ slot. (slot, value)) (slot_of command option) else None) ≡ Some given
      → First command option value rest given
  by_value true valued e = by_slot valued (slot_of command option) refl e
  by_value false valued e = absurd (cc)

  pub first_of_settings : settings command (option ∷ value ∷ rest) ≡ Some given → First command option value rest given
  first_of_settings e = by_value (is_value value) refl e

-- ---- rows of settings

-- the row of an option and its value
abbrev pub row_for : Slot → Text → Found
row_for slot value = record { id = slot_word slot; values = value ∷ []; count = None; source = Some CommandLine; reading = reading_of vp.String }

abbrev pub rows_for : List Setting → List Found
rows_for given = map (λ (s : Setting). row_for s.0 s.1) given

-- no setting has a row yet
abbrev pub is_new : List Found → List Setting → Bool
is_new rows given = list_all (λ s. not (has_row (slot_word s.0) rows)) given

pub all_new : (given : List Setting) → is_new [] given ≡ true
all_new [] = refl
all_new (s ∷ more) = all_new more

row_more : (name : Text) (rows : List Found) (r : Found) → has_row name (rows ++ r ∷ []) ≡ (bytes_eq r.id name || has_row name rows)
row_more name [] r = refl
row_more name (x ∷ rows) r = ap (λ (b : Bool). bytes_eq x.id name || b) (row_more name rows r) ∙ swap (bytes_eq x.id name) (bytes_eq r.id name) (has_row name rows)
  where
    swap : (a b c : Bool) → (a || (b || c)) ≡ (b || (a || c))
    swap true true c = refl
    swap true false c = refl
    swap false b c = refl

not_true : (b : Bool) → not b ≡ true → b ≡ false
not_true true e = absurd (true≢false (sym e))
not_true false e = refl

-- the others are as new beside one row more
pub new_more : (rows : List Found) (s : Slot) (value : Text) (given : List Setting) → is_new rows given ≡ true → not (is_some (values_of given s)) ≡ true
    → is_new (rows ++ row_for s value ∷ []) given ≡ true
new_more rows s value [] new once = refl
new_more rows s value (x ∷ more) new once =
    ap (λ (b : Bool). not b && is_new (rows ++ row_for s value ∷ []) more) (row_more (slot_word x.0) rows (row_for s value) ∙ ap (λ (b : Bool). b || has_row (slot_word x.0) rows) (words_agree s x.0 ∙ slots_swapped s x.0))
    ∙ go (same_slot x.0 s) (new_more rows s value more (both _ _ new).1) once
  where
    go : (b : Bool) → (not (is_some (values_of more s)) ≡ true → is_new (rows ++ row_for s value ∷ []) more ≡ true) → not (is_some (if b then Some x.1 else values_of more s)) ≡ true
        → (not (b || has_row (slot_word x.0) rows) && is_new (rows ++ row_for s value ∷ []) more) ≡ true
    go true rec f = absurd (true≢false (sym f))
    go false rec f = ap (λ (b : Bool). b && is_new (rows ++ row_for s value ∷ []) more) (both _ _ new).0 ∙ rec f

-- a row of an option that had none goes to the end
pub fresh : (option : Text) (change : Found → List Found) (missing rows : List Found) → has_row option rows ≡ false → at_row option change missing rows ≡ rows ++ missing
fresh option change missing [] e = refl
fresh option change missing (r ∷ rows) e = go (bytes_eq r.id option) (fresh option change missing rows) e
  where
    go : (b : Bool) → (has_row option rows ≡ false → at_row option change missing rows ≡ rows ++ missing) → (b || has_row option rows) ≡ false → (if b then change r ++ rows else r ∷ at_row option change missing rows) ≡ r ∷ (rows ++ missing)
    go true rec f = absurd (true≢false f)
    go false rec f = ap (λ (rs : List Found). r ∷ rs) (rec f)

-- ---- what the rows of settings say

pub found_is : (given : List Setting) (t : Slot) → values_found (rows_for given) t ≡ values_of given t
found_is [] t = refl
found_is (s ∷ more) t =
    ap (λ (b : Bool). option_and_then (λ (r : Found). slice_get r.values 0) (if b then Some (row_for s.0 s.1) else find (λ (r : Found). bytes_eq r.id (slot_word t)) (rows_for more))) (words_agree s.0 t)
    ∙ go (same_slot s.0 t) (found_is more t)
  where
    go : (b : Bool) → values_found (rows_for more) t ≡ values_of more t
        → option_and_then (λ (r : Found). slice_get r.values 0) (if b then Some (row_for s.0 s.1) else find (λ (r : Found). bytes_eq r.id (slot_word t)) (rows_for more)) ≡ (if b then Some s.1 else values_of more t)
    go true rec = refl
    go false rec = rec
