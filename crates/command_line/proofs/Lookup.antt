-- The slot of an option: among the required ones, and then among the groups of the others.
use Rattle.std.proofs.Common.{◌≡◌, ◌==◌, ◌&&◌, ℕ, Bool, true, false, List, [], ◌∷◌, ◌++◌, refl, sym, ◌∙◌, ap}
use Rattle.std.specs.Prelude.{Option, Some, None, option_and_then, find, if◌then◌else◌}
use Rattle.std.specs.Str.{bytes_eq}
use Rattle.clap.specs.Lexer.{strip_byte}
use Rattle.std.specs.Option.{option_or}
use Rattle.command_line.specs.declared.options.Slot.{Slot}
use Rattle.command_line.specs.declared.words.Command.{Command}
use Rattle.command_line.specs.Options.{option_word, slot_word, slots}
use Rattle.command_line.specs.Words.{slot_of}
use Rattle.command_line.proofs.Slots.{swapped}

-- the slot of a word
abbrev pub named : List Slot → List ℕ → Option Slot
named among word = find (λ slot. bytes_eq (slot_word slot) word) among

none_found : (among : List Slot) → find (λ s. false) among ≡ None
none_found [] = refl
none_found (s ∷ more) = none_found more

-- behind two hyphens
pub behind_hyphens : (among : List Slot) (option : List ℕ) → find (λ slot. bytes_eq (option_word slot) option) among ≡ option_and_then (named among) (option_and_then (strip_byte 45) (strip_byte 45 option))
behind_hyphens among [] = none_found among
behind_hyphens among (a ∷ []) = go (45 == a) ∙ sym (none (a == 45))
  where
    go : (x : Bool) → find (λ s. x && false) among ≡ None
    go true = none_found among
    go false = none_found among

    none : (x : Bool) → option_and_then (named among) (option_and_then (strip_byte 45) (if x then Some [] else None)) ≡ None
    none true = refl
    none false = refl
behind_hyphens among (a ∷ b ∷ rest) =
    ap (λ (x : Bool). find (λ s. x && ((45 == b) && bytes_eq (slot_word s) rest)) among) (swapped 45 a)
    ∙ ap (λ (y : Bool). find (λ s. (a == 45) && (y && bytes_eq (slot_word s) rest)) among) (swapped 45 b)
    ∙ go (a == 45)
  where
    second : (y : Bool) → find (λ s. y && bytes_eq (slot_word s) rest) among ≡ option_and_then (named among) (if y then Some rest else None)
    second true = refl
    second false = none_found among

    go : (x : Bool) → find (λ s. x && ((b == 45) && bytes_eq (slot_word s) rest)) among ≡ option_and_then (named among) (option_and_then (strip_byte 45) (if x then Some (b ∷ rest) else None))
    go true = second (b == 45)
    go false = none_found among

-- among one list, and then among another
named_joined : (first second : List Slot) (word : List ℕ) → named (first ++ second) word ≡ option_or (named first word) (named second word)
named_joined [] second word = refl
named_joined (s ∷ first) second word = go (bytes_eq (slot_word s) word) (named_joined first second word)
  where
    go : (b : Bool) → named (first ++ second) word ≡ option_or (named first word) (named second word) → (if b then Some s else named (first ++ second) word) ≡ option_or (if b then Some s else named first word) (named second word)
    go true rest = refl
    go false rest = rest

or_past : (a b c : Option Slot) → option_or a (option_or b c) ≡ option_or (option_or a b) c
or_past None b c = refl
or_past (Some s) b c = refl

pub named_in_turn : (first second third fourth : List Slot) (word : List ℕ)
    → option_or (option_or (option_or (named first word) (named second word)) (named third word)) (named fourth word) ≡ named (first ++ (second ++ (third ++ fourth))) word
named_in_turn first second third fourth word =
    sym (
    named_joined first _ word
    ∙ ap (option_or (named first word)) (named_joined second _ word ∙ ap (option_or (named second word)) (named_joined third fourth word))
    ∙ or_past (named first word) (named second word) (option_or (named third word) (named fourth word))
    ∙ or_past (option_or (named first word) (named second word)) (named third word) (named fourth word)
    )

-- the slot of an option whose word is this
pub slot_is : (command : Command) (option word : List ℕ) → Some word ≡ option_and_then (strip_byte 45) (strip_byte 45 option) → named (slots command) word ≡ slot_of command option
slot_is command option word is = ap (option_and_then (named (slots command))) is ∙ sym (behind_hyphens (slots command) option)

pub no_slot : (command : Command) (option : List ℕ) → None ≡ option_and_then (strip_byte 45) (strip_byte 45 option) → None ≡ slot_of command option
no_slot command option is = ap (option_and_then (named (slots command))) is ∙ sym (behind_hyphens (slots command) option)
