-- Texts that are written: bytes, and the write check.
-- Source: 1622 manual, alphameric writing and write check; that a bad pair is written as a blank is this project's own.
use Rattle.std.specs.Prelude.{ℕ, true, List, [], ◌∷◌, Option, Some, None}
use Rattle.digit_core.specs.declared.Digit.{Digit}
use Rattle.indicators.specs.declared.Panel.{Panel}
use Rattle.indicators.specs.Panel.{set}
use Rattle.indicators.specs.Lamps.{Lamp, lamp_on}
use Rattle.traces.specs.Trace.{Trace, does}
use Rattle.card_code.specs.Pairs.{punch_alpha}
use Rattle.indicators.specs.Codes.{WRITE_CHECK}

-- what writing a text of pairs does: a byte goes out, or an indicator changes
pub data Output : Type 0 where
  WritesByte : (byte : ℕ) → Output
  Warns : (l : Lamp) → Output

-- the character of two digits, whose flags are ignored
abbrev pub pair_char : Digit → Digit → Option ℕ
pair_char zone number = punch_alpha zone.value number.value

-- a bad pair's character is a blank, and the write check goes on as the pair is read
abbrev pub with_pair : {A E : Type 0} → Option ℕ → (ℕ → Trace Output A E) → Trace Output A E
with_pair (Some c) f = f c
with_pair None f = does (Warns (lamp_on WRITE_CHECK)) (f 32)

-- the character that a pair is written as, and the panel after the pair was read
abbrev pub written_char : Option ℕ → ℕ
written_char (Some c) = c
written_char None = 32

abbrev pub panel_after_pair : Option ℕ → Panel → Panel
panel_after_pair (Some c) panel = panel
panel_after_pair None panel = set WRITE_CHECK true panel

-- the bytes that go out, and the changes of indicators
abbrev pub bytes_out : List Output → List ℕ
bytes_out [] = []
bytes_out (WritesByte b ∷ es) = b ∷ bytes_out es
bytes_out (Warns l ∷ es) = bytes_out es

abbrev pub lamps_of : List Output → List Lamp
lamps_of [] = []
lamps_of (WritesByte b ∷ es) = lamps_of es
lamps_of (Warns l ∷ es) = l ∷ lamps_of es
