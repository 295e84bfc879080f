-- Characters of pairs of digits, as a table.
-- Source: 1622 manual, card codes; the characters of `]`, `|` and `}`, and which bytes and pairs have none, are this
-- project's own.
use Rattle.std.specs.Prelude.{ℕ, IsTrue, ◌==◌, ◌&&◌, List, [], ◌∷◌, ◌++◌, codes, if◌then◌else◌, Option, Some, None}
use Rattle.digit_core.specs.Cell.{is_cell_value}
use Rattle.digit_core.specs.declared.TheConstants.{RECORD_MARK, GROUP_MARK}

-- a zone digit and a numeric digit
pub record Pair : Type 0 where
  pub zone : ℕ
  pub number : ℕ

-- a character and its pair
pub record PairEntry : Type 0 where
  pub char : ℕ
  pub pair : Pair

-- the characters of one zone side by side with their numeric digits
abbrev pub zone_row : ℕ → List ℕ → List ℕ → List PairEntry
zone_row zone (c ∷ cs) (n ∷ ns) = record { char = c; pair = record { zone = zone; number = n } } ∷ zone_row zone cs ns
zone_row zone (c ∷ cs) [] = []
zone_row zone [] ns = []

-- the pair of a character, by the first entry that has it
unfoldable pub pair_in : List PairEntry → ℕ → Option Pair
pair_in [] c = None
pair_in (e ∷ es) c = if e.char == c then Some e.pair else pair_in es c

-- the character of a pair, by the first entry that has it
unfoldable pub pair_char_in : List PairEntry → ℕ → ℕ → Option ℕ
pair_char_in [] zone number = None
pair_char_in (e ∷ es) zone number =
    if e.pair.zone == zone && e.pair.number == number then Some e.char else pair_char_in es zone number

-- the table; the last two are the record mark's and the group mark's
abbrev pub pair_table : List PairEntry
pair_table =
    zone_row 0 (codes " .)") (0 ∷ 3 ∷ 4 ∷ [])
    ++ zone_row 1 (codes "+$*") (0 ∷ 3 ∷ 4 ∷ [])
    ++ zone_row 2 (codes "-/,(") (0 ∷ 1 ∷ 3 ∷ 4 ∷ [])
    ++ zone_row 3 (codes "=@") (3 ∷ 4 ∷ [])
    ++ zone_row 4 (codes "ABCDEFGHI") (1 ∷ 2 ∷ 3 ∷ 4 ∷ 5 ∷ 6 ∷ 7 ∷ 8 ∷ 9 ∷ [])
    ++ zone_row 5 (codes "]") (0 ∷ [])
    ++ zone_row 5 (codes "JKLMNOPQR") (1 ∷ 2 ∷ 3 ∷ 4 ∷ 5 ∷ 6 ∷ 7 ∷ 8 ∷ 9 ∷ [])
    ++ zone_row 6 (codes "STUVWXYZ") (2 ∷ 3 ∷ 4 ∷ 5 ∷ 6 ∷ 7 ∷ 8 ∷ 9 ∷ [])
    ++ zone_row 7 (codes "0123456789") (0 ∷ 1 ∷ 2 ∷ 3 ∷ 4 ∷ 5 ∷ 6 ∷ 7 ∷ 8 ∷ 9 ∷ [])
    ++ zone_row 0 (codes "|") (RECORD_MARK ∷ [])
    ++ zone_row 0 (codes "}") (GROUP_MARK ∷ [])

-- the pair of a character, and the character of a pair
abbrev pub alpha_of : ℕ → Option Pair
alpha_of c = pair_in pair_table c

abbrev pub punch_alpha : ℕ → ℕ → Option ℕ
punch_alpha zone number = pair_char_in pair_table zone number

-- both digits of a pair, the zone first
abbrev pub digits : Pair → ℕ × ℕ
digits p = (p.zone, p.number)

-- digits that cells can hold
abbrev pub IsGoodPair : ℕ × ℕ → Type 0
IsGoodPair pair = IsTrue (is_cell_value pair.0) × IsTrue (is_cell_value pair.1)
