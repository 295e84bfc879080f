-- Where a program's first instruction is carried out.
use Rattle.std.proofs.Common.{◌≡◌, Bool, refl, ap, ◌∙◌}
use Rattle.std.proofs.lemmas.List.{length-replicate}
use Rattle.outside_io.specs.declared.host.Unit.TheVariants as units
use Rattle.digit_core.specs.Cell.{zero_cell}
use Rattle.digit_core.specs.Size.{size}
use Rattle.indicators.specs.declared.Panel.{Panel}
use Rattle.indicators.specs.Panel.{dark, set}
use Rattle.indicators.specs.Lamps.{panel_for_load}
use Rattle.card_code.specs.Entries.{entries_of_unit, has_none_left}
use Rattle.indicators.specs.Codes.{LAST_CARD}
use Rattle.cpu_step.specs.State.{UnitTexts, State}
use Rattle.loader_cards.specs.Loads.{LoadsOver}
use Rattle.ibm1620_cli.proofs.Forms.{loads_in, loaded_in}
use Rattle.ibm1620_cli.specs.Turns.{MachineFeed, first_in, turns_job}
use Rattle.ibm1620_cli.specs.Program.{Program, Fits, deck_of, steps_of_deck, loaded_by, set_up_at_power_on, set_up_after_load, set_up_at_start, HeadlineLaw}

-- the deck over the program's own machine
pub over_powered : (p : Program) (feed : MachineFeed) (written : UnitTexts) → Fits p → LoadsOver (deck_of p) p.image p.start (steps_of_deck p) (set_up_at_power_on p feed written) (entries_of_unit units.Data 0 feed.cards)
over_powered p feed written fits =
    loads_in p.form p.image p.start fits.each fits.above p.modules (set_up_at_power_on p feed written) (entries_of_unit units.Data 0 feed.cards) fits.sized (length-replicate (size p.modules) zero_cell) fits.below fits.start_below refl

-- at power on nothing is there to be turned off
pub dark_cleared : (last : Bool) → set LAST_CARD last (panel_for_load dark) ≡ set LAST_CARD last dark
unfolding set
dark_cleared last = refl

-- the program's first instruction is carried out over the overlaid core
pub is_entered : (p : Program) (feed : MachineFeed) (written : UnitTexts) → Fits p → set_up_after_load p feed written ≡ set_up_at_start p feed written
unfolding set_up_after_load set_up_at_start
is_entered p feed written fits =
    loaded_in p.form p.image p.start p.modules (set_up_at_power_on p feed written) (entries_of_unit units.Data 0 feed.cards) fits.each fits.above fits.sized (length-replicate (size p.modules) zero_cell) fits.below fits.start_below refl
    ∙ ap (λ (panel : Panel). record (set_up_at_start p feed written) { panel = panel }) (dark_cleared (has_none_left (entries_of_unit units.Data 0 feed.cards)))

-- a loaded deck sets the machine up as the program does that is entered
pub same_set_up : (p : Program) → Fits p → set_up_after_load p ≡ set_up_at_start p
same_set_up p fits = λ i feed written. is_entered p feed written fits i

-- the headline
pub headline : HeadlineLaw
headline own before limit lines p feed written fits = ap (λ (s : State). turns_job own before limit (loaded_by p feed (set_up_at_power_on p feed written) (first_in s lines))) (is_entered p feed written fits)
