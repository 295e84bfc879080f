-- The entries that are to be read from a hopper or from the keyboard.
-- Source: 1622 manual, card format, reader hopper and last card; that lines are read as cards, and which are too long, is
-- this project's own.
use Rattle.std.specs.Prelude.{ℕ, Bool, true, false, ◌-◌, List, [], ◌∷◌, ◌++◌, length, map, replicate, nat_lt, if◌then◌else◌, Result, Ok, Err, Option, option_map}
use Rattle.outside_io.specs.declared.host.Unit as unit
use Rattle.outside_io.specs.declared.host.Unit.TheVariants as units
use Rattle.outside_io.specs.World.{one_more, World}
use Rattle.card_code.specs.Break.{Break, Empty, NoKeys, JamsAt}
use Rattle.outside_io.specs.Lines.{texts_of}

-- a text of at most 80 bytes, or a longer line, with its number in its unit
pub data Entry : Type 0 where
  Text : (text : List ℕ) → Entry
  Long : (from : unit.Unit) (line : ℕ) → Entry

-- the entry of a text, which is line n of its unit
abbrev pub entry : unit.Unit → ℕ → List ℕ → Entry
entry u n text = if nat_lt 80 (length text) then Long u n else Text text

-- the entries of a unit's texts, after n lines
abbrev pub entries : unit.Unit → ℕ → List (List ℕ) → List Entry
entries u n [] = []
entries u n (text ∷ texts) = entry u (one_more n) text ∷ entries u (one_more n) texts

-- the entries of a unit's bytes, after n lines
abbrev pub entries_of_unit : unit.Unit → ℕ → List ℕ → List Entry
entries_of_unit u n bytes = entries u n (texts_of bytes)

-- the entries that a unit has left, if the host reveals its bytes
abbrev pub unit_entries : unit.Unit → World → Option (List Entry)
unit_entries u w = option_map (entries_of_unit u 0) (w.left u)

-- the hopper: cards, and then the lines of Deck and of Data
abbrev pub hopper_of : List (List ℕ) → List ℕ → List ℕ → List Entry
hopper_of cards deck data_bytes = map Text cards ++ (entries_of_unit units.Deck 0 deck ++ entries_of_unit units.Data 0 data_bytes)

-- a text, filled with blanks to a card
abbrev pub text_as_card : List ℕ → List ℕ
text_as_card text = text ++ replicate (80 - length text) 32

-- nothing is left
abbrev pub has_none_left : List Entry → Bool
has_none_left [] = true
has_none_left (e ∷ es) = false

-- the entries after the first
abbrev pub behind : List Entry → List Entry
behind [] = []
behind (e ∷ es) = es

-- a card that is taken, and whether it's the last
pub record Taken : Type 0 where
  pub text : List ℕ
  pub last : Bool

-- the next card of a hopper; a line that is too long is never passed
abbrev pub next_card : List Entry → Result Taken Break
next_card [] = Err Empty
next_card (Text text ∷ es) = Ok (record { text = text_as_card text; last = has_none_left es })
next_card (Long u n ∷ es) = Err (JamsAt u n)

-- the next line of the keyboard
abbrev pub next_keys : List Entry → Result (List ℕ) Break
next_keys [] = Err NoKeys
next_keys (Text text ∷ es) = Ok text
next_keys (Long u n ∷ es) = Err (JamsAt u n)
