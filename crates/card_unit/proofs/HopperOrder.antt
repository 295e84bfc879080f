-- A front, a pile and the data one after another, where both of these are told.
use Rattle.std.proofs.Common.{◌≡◌, ℕ, Bool, true, false, List, [], ◌∷◌, ◌++◌, map, refl, sym, ◌∙◌, ap}
use Rattle.std.specs.Prelude.{Option, Some, None, option_map, option_and_then, IfSome, Ok, Err}
use Rattle.outside_io.specs.declared.host.Unit as unit
use Rattle.outside_io.specs.declared.host.Unit.TheVariants as units
use Rattle.outside_io.specs.Frame.{ToldValue}
use Rattle.outside_io.proofs.Frames.{give}
use Rattle.card_code.specs.Break.{Empty, JamsAt}
use Rattle.card_code.specs.Entries.{Entry, Text, Long, behind, has_none_left, next_card, text_as_card, entries_of_unit, hopper_of}
use Rattle.card_code.specs.declared.Card.{Card}
use Rattle.card_code.specs.Reader.{Fronts, HasNone, HasSome}
use Rattle.card_unit.specs.Pile.{card_entry}
use Rattle.card_unit.specs.Hopper.{entries_in_order}

-- entries, where they are told
abbrev pub Told : Type 0
Told = Option (List Entry)

-- a jam at the pile's front is at the front of all
pub jam_pile : (u : unit.Unit) (n : ℕ) (pile rest : Told) → Fronts (Long u n) pile → Fronts (Long u n) (entries_in_order [] pile rest)
jam_pile u n None rest front = tt
jam_pile u n (Some es) None front = tt
jam_pile u n (Some es) (Some fs) front =
    let whole : es ++ fs ≡ Long u n ∷ (behind es ++ fs) = ap (λ (x : List Entry). x ++ fs) front in
    whole ∙ ap (λ (x : List Entry). Long u n ∷ x) (sym (ap behind whole))

-- behind an empty pile so is one of the data
pub jam_data : (u : unit.Unit) (n : ℕ) (pile rest : Told) → HasNone pile → Fronts (Long u n) rest → Fronts (Long u n) (entries_in_order [] pile rest)
jam_data u n None rest none front = tt
jam_data u n (Some es) None none front = tt
jam_data u n (Some es) (Some fs) none front =
    let whole : es ++ fs ≡ Long u n ∷ behind fs = ap (λ (x : List Entry). x ++ fs) none ∙ front in
    whole ∙ ap (λ (x : List Entry). Long u n ∷ x) (sym (ap behind whole))

-- a jam at the front is why no card is taken
long_lacks : (u : unit.Unit) (n : ℕ) (told : Told) → Fronts (Long u n) told → IfSome told (λ es. next_card es ≡ Err (JamsAt u n))
long_lacks u n None front = tt
long_lacks u n (Some es) front = ap next_card front

-- with some entries that are so, where none are told
pub given_long : (u : unit.Unit) (n : ℕ) (told : Told) → Fronts (Long u n) told → ToldValue told (λ es. next_card es ≡ Err (JamsAt u n))
given_long u n told front = give told (λ es. next_card es ≡ Err (JamsAt u n)) (Long u n ∷ []) refl (long_lacks u n told front)

-- no entry in the pile and none in the data are none at all
none_joined : (pile rest : Told) → HasNone pile → HasNone rest → HasNone (entries_in_order [] pile rest)
none_joined None rest a b = tt
none_joined (Some es) None a b = tt
none_joined (Some es) (Some fs) a b = ap (λ (x : List Entry). x ++ fs) a ∙ b

none_lacks : (told : Told) → HasNone told → IfSome told (λ es. next_card es ≡ Err Empty)
none_lacks None none = tt
none_lacks (Some es) none = ap next_card none

-- then no card is taken
pub given_none : (pile rest : Told) → HasNone pile → HasNone rest → ToldValue (entries_in_order [] pile rest) (λ es. next_card es ≡ Err Empty)
given_none pile rest a b = give (entries_in_order [] pile rest) (λ es. next_card es ≡ Err Empty) [] refl (none_lacks (entries_in_order [] pile rest) (none_joined pile rest a b))

-- and none is behind the front
pub none_after : (pile rest : Told) → HasNone pile → HasNone rest → IfSome (entries_in_order [] pile rest) (λ es. has_none_left es ≡ true)
none_after None rest a b = tt
none_after (Some es) None a b = tt
none_after (Some es) (Some fs) a b = ap has_none_left (ap (λ (x : List Entry). x ++ fs) a ∙ b)

some_front : (es fs : List Entry) → has_none_left fs ≡ false → has_none_left (es ++ fs) ≡ false
some_front [] fs some = some
some_front (e ∷ es) fs some = refl

-- an entry of the data is one
pub some_after : (pile rest : Told) → HasSome rest → IfSome (entries_in_order [] pile rest) (λ es. has_none_left es ≡ false)
some_after None rest some = tt
some_after (Some es) None some = tt
some_after (Some es) (Some fs) some = some_front es fs some

-- what is behind the front text is behind it in all
pub behind_front : (text : List ℕ) (pile rest : Told) → entries_in_order [] pile rest ≡ option_map behind (entries_in_order (Text text ∷ []) pile rest)
behind_front text None rest = refl
behind_front text (Some es) None = refl
behind_front text (Some es) (Some fs) = refl

-- the front text is the next card, and it is the last where nothing is behind it
front_card : (text : List ℕ) (last : Bool) (pile rest : Told) → IfSome (entries_in_order [] pile rest) (λ es. has_none_left es ≡ last) → IfSome (entries_in_order (Text text ∷ []) pile rest) (λ es. next_card es ≡ Ok (record { text = text_as_card text; last = last }))
front_card text last None rest says = tt
front_card text last (Some es) None says = tt
front_card text last (Some es) (Some fs) says = ap (λ (b : Bool). Ok (record { text = text_as_card text; last = b })) says

-- some entries behind a card, or none
abbrev some_behind : Bool → List Entry
some_behind true = []
some_behind false = Text [] ∷ []

-- the card is taken from before them
some_card : (text : List ℕ) (last : Bool) → next_card (Text text ∷ some_behind last) ≡ Ok (record { text = text_as_card text; last = last })
some_card text true = refl
some_card text false = refl

-- with some entries that are so, where none are told
pub given_card : (text : List ℕ) (last : Bool) (pile rest : Told) → IfSome (entries_in_order [] pile rest) (λ es. has_none_left es ≡ last)
    → ToldValue (entries_in_order (Text text ∷ []) pile rest) (λ es. next_card es ≡ Ok (record { text = text_as_card text; last = last }))
given_card text last pile rest says =
    give (entries_in_order (Text text ∷ []) pile rest) (λ es. next_card es ≡ Ok (record { text = text_as_card text; last = last })) (Text text ∷ some_behind last) (some_card text last) (front_card text last pile rest says)

-- what two units have left, nothing having been taken yet
pub joined_units : (deck data_left : Option (List ℕ)) → entries_in_order [] (option_map (entries_of_unit units.Deck 0) deck) (option_map (entries_of_unit units.Data 0) data_left) ≡ option_and_then (λ bytes. option_map (hopper_of [] bytes) data_left) deck
joined_units None data_left = refl
joined_units (Some bytes) None = refl
joined_units (Some bytes) (Some more) = refl

-- the cards' entries are those of their texts
pub entries_map : (cards : List Card) → map card_entry cards ≡ map Text (map (λ card. card.0) cards)
entries_map [] = refl
entries_map (card ∷ cards) = ap (λ (es : List Entry). card_entry card ∷ es) (entries_map cards)

-- cards and what Data has left, nothing having been taken yet
pub joined_cards : (cards : List Card) (data_left : Option (List ℕ)) → entries_in_order [] (Some (map card_entry cards)) (option_map (entries_of_unit units.Data 0) data_left) ≡ option_map (hopper_of (map (λ card. card.0) cards) []) data_left
joined_cards cards None = refl
joined_cards cards (Some more) = ap (λ (es : List Entry). Some (es ++ entries_of_unit units.Data 0 more)) (entries_map cards)
