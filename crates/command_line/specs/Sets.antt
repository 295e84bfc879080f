-- Two proofs that two meanings of words are equal are themselves equal, so that a reading of words is a proposition.
use Rattle.std.proofs.Common.{ap}
use Rattle.std.specs.Prelude.{◌≡◌, Option, option_map}
use Rattle.std.proofs.Props.{props}
use Rattle.std.specs.Coded.{coded_ℕ, coded_list, coded_option}
use base.Stored.{Coded-set}
use mathlib.Core.HLevel.{Π_set}
use Rattle.command_line.specs.contracts.reading.Settings as settings
use Rattle.command_line.specs.contracts.words.Command as command
use Rattle.command_line.specs.contracts.words.CoreSize as core_size
use Rattle.command_line.specs.declared.given.Plain.{Plain}
use Rattle.command_line.specs.Reading.{WordsSaid}
use Rattle.command_line.specs.Given.{MeansJust, meaning_of}

pub Said-set : IsSet WordsSaid
Said-set a b p q = λ i j. record {
  command = Coded-set command.the_row.coded a.command b.command (ap (λ (s : WordsSaid). s.command) p) (ap (λ (s : WordsSaid). s.command) q) i j;
  names = Π_set (λ u. Coded-set (coded_option (coded_list coded_ℕ))) a.names b.names (ap (λ (s : WordsSaid). s.names) p) (ap (λ (s : WordsSaid). s.names) q) i j;
  settings = Coded-set settings.the_row.coded a.settings b.settings (ap (λ (s : WordsSaid). s.settings) p) (ap (λ (s : WordsSaid). s.settings) q) i j;
  core = Coded-set core_size.the_row.coded a.core b.core (ap (λ (s : WordsSaid). s.core) p) (ap (λ (s : WordsSaid). s.core) q) i j;
}

pub Meaning-prop : (a b : Option WordsSaid) → IsProp (a ≡ b)
Meaning-prop a b = hlevel (props, Said-set)

pub MeansJust-prop : (meaning : Option WordsSaid) (plain : Option Plain) → IsProp (MeansJust meaning plain)
MeansJust-prop meaning plain = Meaning-prop (option_map meaning_of plain) meaning
