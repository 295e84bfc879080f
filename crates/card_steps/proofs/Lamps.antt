-- The last-card indicator, which each card that is read sets.
use Rattle.std.proofs.Common.{◌≡◌, Bool, true, false, refl}
use Rattle.std.specs.Prelude.{None}
use Rattle.indicators.specs.declared.Panel.{Panel}
use Rattle.indicators.specs.Codes.{LAST_CARD}
use Rattle.indicators.specs.Panel.{set}
use Rattle.indicators.specs.Lamps.{panel_for_load}
use Rattle.card_unit.specs.CardCalls.{panel_after_card}
use Rattle.cpu_step.specs.State.{State}
use Rattle.cpu_step.specs.Step.{check_stop}

-- the last-card indicator stops no action
pub still_quiet : (s : State) (last : Bool) → check_stop s.panel ≡ None → check_stop (panel_after_card last s.panel) ≡ None
unfolding set
still_quiet s true quiet = quiet
still_quiet s false quiet = quiet

-- the last-card indicator over a panel on which it was off
pub last_set : (p : Panel) (last : Bool) → panel_after_card last (set LAST_CARD false p) ≡ set LAST_CARD last p
unfolding set
last_set p true = refl
last_set p false = refl

-- the last-card indicator once the Load key has turned it off
pub lamp_first : (p : Panel) (last : Bool) → panel_after_card last (panel_for_load p) ≡ set LAST_CARD last (panel_for_load p)
unfolding set
lamp_first p true = refl
lamp_first p false = refl

pub lamp_twice : (p : Panel) (last first : Bool) → set LAST_CARD last (panel_after_card first p) ≡ set LAST_CARD last p
unfolding set
lamp_twice p last true = refl
lamp_twice p last false = refl

pub quiet_first : (p : Panel) (last : Bool) → check_stop (panel_after_card last (panel_for_load p)) ≡ None
unfolding set
quiet_first p true = refl
quiet_first p false = refl
