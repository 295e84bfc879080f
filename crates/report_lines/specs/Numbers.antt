-- Numbers in texts.
use Rattle.std.specs.Prelude.{ℕ, ◌-◌, List, ◌∷◌, ◌++◌, length, replicate, codes, decimal}
use Rattle.outside_io.specs.Lines.{with_line_feed}

-- at least `width` digits, with zeros at the left
abbrev pub zero_filled : ℕ → List ℕ → List ℕ
zero_filled width digits = replicate (width - length digits) 48 ++ digits

-- a number in at least `width` digits, with zeros at the left
abbrev pub digits_to_width : ℕ → ℕ → List ℕ
digits_to_width width n = zero_filled width (decimal n)

-- a text, a blank, and the rest
abbrev pub with_blank : List ℕ → List ℕ → List ℕ
with_blank text rest = text ++ 32 ∷ rest

-- a count ends a line
abbrev pub at_count : ℕ → List ℕ
at_count n = with_line_feed (decimal n)

-- an address of five digits and a count of steps end a line
abbrev pub at_steps : ℕ → ℕ → List ℕ
at_steps at steps = digits_to_width 5 at ++ codes " STEPS " ++ at_count steps
