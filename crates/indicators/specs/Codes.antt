-- The codes of the switches and indicators, to be compared with the manual.
-- Source: CPU manual, branch indicator.
use Rattle.std.specs.Prelude.{ℕ, List, [], ◌∷◌}
use Rattle.indicators.specs.declared.codes.TheConstants as constant

-- the program switches
abbrev pub SWITCH_1 : ℕ
SWITCH_1 = 01

abbrev pub SWITCH_2 : ℕ
SWITCH_2 = 02

abbrev pub SWITCH_3 : ℕ
SWITCH_3 = 03

abbrev pub SWITCH_4 : ℕ
SWITCH_4 = 04

-- read check and write check
abbrev pub READ_CHECK : ℕ
READ_CHECK = 06

abbrev pub WRITE_CHECK : ℕ
WRITE_CHECK = 07

-- last card
abbrev pub LAST_CARD : ℕ
LAST_CARD = 09

-- high or positive; equal or zero; and 13, which joins both
abbrev pub HIGH : ℕ
HIGH = 11

abbrev pub EQUAL : ℕ
EQUAL = 12

abbrev pub HIGH_OR_EQUAL : ℕ
HIGH_OR_EQUAL = 13

-- overflow
abbrev pub OVERFLOW : ℕ
OVERFLOW = 14

-- parity at an even and at an odd address
abbrev pub EVEN_PARITY : ℕ
EVEN_PARITY = 16

abbrev pub ODD_PARITY : ℕ
ODD_PARITY = 17

-- any check of reading, writing and parity
abbrev pub ANY_CHECK : ℕ
ANY_CHECK = 19

-- the disk: address check, wrong length record, cylinder overflow, and any of them
abbrev pub DISK_ADDRESS : ℕ
DISK_ADDRESS = 36

abbrev pub DISK_LENGTH : ℕ
DISK_LENGTH = 37

abbrev pub CYLINDER_OVERFLOW : ℕ
CYLINDER_OVERFLOW = 38

abbrev pub ANY_DISK_CHECK : ℕ
ANY_DISK_CHECK = 39

-- the codes, and the constants of the code in the same order
abbrev pub indicator_codes : List ℕ
indicator_codes =
    SWITCH_1 ∷ SWITCH_2 ∷ SWITCH_3 ∷ SWITCH_4 ∷
    READ_CHECK ∷ WRITE_CHECK ∷ LAST_CARD ∷
    HIGH ∷ EQUAL ∷ HIGH_OR_EQUAL ∷ OVERFLOW ∷
    EVEN_PARITY ∷ ODD_PARITY ∷ ANY_CHECK ∷
    DISK_ADDRESS ∷ DISK_LENGTH ∷ CYLINDER_OVERFLOW ∷ ANY_DISK_CHECK ∷ []

abbrev pub code_constants : List ℕ
code_constants =
    constant.SWITCH_1 ∷ constant.SWITCH_2 ∷ constant.SWITCH_3 ∷ constant.SWITCH_4 ∷
    constant.READ_CHECK ∷ constant.WRITE_CHECK ∷ constant.LAST_CARD ∷
    constant.HIGH ∷ constant.EQUAL ∷ constant.HIGH_OR_EQUAL ∷ constant.OVERFLOW ∷
    constant.EVEN_PARITY ∷ constant.ODD_PARITY ∷ constant.ANY_CHECK ∷
    constant.DISK_ADDRESS ∷ constant.DISK_LENGTH ∷ constant.CYLINDER_OVERFLOW ∷ constant.ANY_DISK_CHECK ∷ []
