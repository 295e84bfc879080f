-- Searches over cells, good or not.
-- Source: CPU manual, data representation, for flags and record marks; the searches are this project's own.
use Rattle.std.specs.Prelude.{ℕ, zero, suc, Bool, true, false, not, ◌≡◌, ◌<◌, ◌*◌, ◌+◌, ◌-◌, ◌/◌, ◌%◌, ◌==◌, nat_le, count_ones, List, length, slice_index, if◌then◌else◌, Option, Some, None}
use Rattle.std.specs.List.{All}
use Rattle.digit_core.specs.Cell.{is_cell_value, value_in, has_flag}
use Rattle.digit_core.specs.declared.TheConstants.{RECORD_MARK}

-- the first of n positions from a upwards whose cell passes
unfoldable pub first_up : (ℕ → Bool) → List ℕ → ℕ → ℕ → Option ℕ
first_up p cells a zero = None
first_up p cells a (suc n) = if p (slice_index cells a) then Some a else first_up p cells (a + 1) n

-- the first of n positions below a, downwards, whose cell passes
unfoldable pub first_down : (ℕ → Bool) → List ℕ → ℕ → ℕ → Option ℕ
first_down p cells a zero = None
first_down p cells a (suc n) = if p (slice_index cells (a - 1)) then Some (a - 1) else first_down p cells (a - 1) n

-- none of the n cells from a upwards passes
abbrev pub NonePasses : (ℕ → Bool) → List ℕ → ℕ → ℕ → Type 0
NonePasses p cells a n = (j : ℕ) → j < n → p (slice_index cells (a + j)) ≡ false

-- the first position in the words from word i upwards, before word `end`, whose cell passes
abbrev pub first_up_words : (ℕ → Bool) → List ℕ → ℕ → ℕ → Option ℕ
first_up_words p cells i end = first_up p cells (10 * i) (10 * (end - i))

-- the first position in the words below word i, downwards to word `end`, whose cell passes
abbrev pub first_down_words : (ℕ → Bool) → List ℕ → ℕ → ℕ → Option ℕ
first_down_words p cells i end = first_down p cells (10 * i) (10 * (i - end))

-- the search up to word `end`, or down to it, gives the same from word i as from word k
abbrev pub AgreeUp : (ℕ → Bool) → List ℕ → ℕ → ℕ → ℕ → Type 0
AgreeUp p cells end i k = first_up_words p cells i end ≡ first_up_words p cells k end

abbrev pub AgreeDown : (ℕ → Bool) → List ℕ → ℕ → ℕ → ℕ → Type 0
AgreeDown p cells end i k = first_down_words p cells i end ≡ first_down_words p cells k end

-- a record mark, flagged or not
abbrev pub has_mark : ℕ → Bool
has_mark c = value_in c == RECORD_MARK

-- a cell that has the bits 8 and 2, as each record mark does
abbrev pub has_eight_and_two : ℕ → Bool
has_eight_and_two c = if c / 8 % 2 == 1 then c / 2 % 2 == 1 else false

-- a cell that holds no digit
abbrev pub is_bad_cell : ℕ → Bool
is_bad_cell c = if count_ones c % 2 == 0 then true else not (is_cell_value (value_in c))

-- each cell holds a digit
abbrev pub IsSound : List ℕ → Type 0
IsSound cells = All (λ c. is_bad_cell c ≡ false) cells

-- a cell that holds no decimal digit
abbrev pub is_undecimal : ℕ → Bool
is_undecimal c = if count_ones c % 2 == 0 then true else not (nat_le (value_in c) 9)

-- 1 for yes and 0 for no
abbrev pub one_if : Bool → ℕ
one_if b = if b then 1 else 0

-- the greatest position below a with a flag
abbrev pub flag_below : List ℕ → ℕ → Option ℕ
flag_below cells a = first_down has_flag cells a a

-- the least position from a on with a record mark
abbrev pub mark_above : List ℕ → ℕ → Option ℕ
mark_above cells a = first_up has_mark cells a (length cells - a)

-- the first bad cell on the way from a to b, both included
abbrev pub first_bad : List ℕ → ℕ → ℕ → Option ℕ
first_bad cells a b =
    if nat_le a b then first_up is_bad_cell cells a (b + 1 - a) else first_down is_bad_cell cells (a + 1) (a + 1 - b)
