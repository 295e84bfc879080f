-- A line of the keyboard as it is taken.
use Rattle.std.proofs.Common.{◌≡◌, ℕ, List, [], ◌∷◌, refl, ap}
use Rattle.std.specs.Prelude.{Option, Some, None, IfSome, Ok, Err}
use Rattle.outside_io.specs.declared.host.Unit as unit
use Rattle.outside_io.specs.World.{Seen}
use Rattle.outside_io.proofs.Frames.{give}
use Rattle.card_code.specs.Break.{NoKeys, JamsAt}
use Rattle.card_code.specs.declared.lines.Lines.{Lines}
use Rattle.card_code.specs.declared.lines.LineAnswer.{LineAnswer}
use Rattle.card_code.specs.declared.lines.LineAnswer.TheVariants as answer
use Rattle.card_code.specs.LineText.{text_of_line}
use Rattle.card_code.specs.Entries.{Entry, Text, Long, next_keys}
use Rattle.card_code.specs.Reader.{unit_of, AsksUnit, Fronts, HasNone, NextLine as NextOfUnit, NextEntry}
use Rattle.card_code.proofs.LineEntries.{next_moves}
use Rattle.typewriter.specs.Keys.{keys_left, LooksAtUnit, NextKeyLine}

-- lines, where they are told
abbrev Told : Type 0
Told = Option (List Entry)

-- a text at the front is the next line
text_next : (text : List ℕ) (told : Told) → Fronts (Text text) told → IfSome told (λ es. next_keys es ≡ Ok text)
text_next text None front = tt
text_next text (Some es) front = ap next_keys front

-- where none is left, there is no next line
none_next : (told : Told) → HasNone told → IfSome told (λ es. next_keys es ≡ Err NoKeys)
none_next None none = tt
none_next (Some es) none = ap next_keys none

-- nor where a jam is at the front
long_next : (u : unit.Unit) (n : ℕ) (told : Told) → Fronts (Long u n) told → IfSome told (λ es. next_keys es ≡ Err (JamsAt u n))
long_next u n None front = tt
long_next u n (Some es) front = ap next_keys front

module _ (old new : Lines) (before after : Seen) where
  -- bytes that are taken are those of the unit
  looks_moved : AsksUnit old new before after → LooksAtUnit (unit_of old) before after
  looks_moved moves = record { taken = moves.taken; goes = moves.goes }

  next_taken : (got : LineAnswer) → LooksAtUnit (unit_of old) before after → NextEntry (unit_of old) (keys_left old before.world) (keys_left new after.world) before after got → NextKeyLine old new before after got
  next_taken (answer.Line line) looks entry = record {
    looks = looks;
    left = entry.0;
    given = give (keys_left old before.world) (λ es. next_keys es ≡ Ok (text_of_line line)) (Text (text_of_line line) ∷ []) refl (text_next (text_of_line line) (keys_left old before.world) entry.1);
  }
  next_taken answer.End looks entry = record {
    stays = record { looks = looks; left = entry.0 };
    given = give (keys_left old before.world) (λ es. next_keys es ≡ Err NoKeys) [] refl (none_next (keys_left old before.world) entry.1);
  }
  next_taken (answer.Jam n) looks entry = record {
    stays = record { looks = looks; left = entry.0 };
    given = give (keys_left old before.world) (λ es. next_keys es ≡ Err (JamsAt (unit_of old) n)) (Long (unit_of old) n ∷ []) refl (long_next (unit_of old) n (keys_left old before.world) entry.1);
  }
  next_taken answer.Failed looks entry = record { stays = record { looks = looks; left = entry.0 }; rose = entry.1 }

  -- so what the lines answer is what the keyboard answers
  pub line_taken : (got : LineAnswer) → NextOfUnit old new before after got → NextEntry (unit_of old) (keys_left old before.world) (keys_left new after.world) before after got → NextKeyLine old new before after got
  line_taken got line entry = next_taken got (looks_moved (next_moves old new before after got line)) entry
