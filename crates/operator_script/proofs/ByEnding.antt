-- What an ending says by cases: one thing where the host failed, and another of every other ending.
use Rattle.std.proofs.Common.{◌≡◌, refl}
use Rattle.operator_script.specs.declared.turns.Ending.{Ending}
use Rattle.operator_script.specs.declared.turns.Ending.TheVariants as ending

abbrev pub ByEnding : Type 0 → (Ending → Type 0) → Ending → Type 0
ByEnding failed ended ending.Failed = failed
ByEnding failed ended how = ended how

-- it is the one or the other
module _ (failed : Type 0) (ended : Ending → Type 0) where
  pub either : (C : Ending → Type 0) → (failed → C ending.Failed) → ((how : Ending) → (how ≡ ending.Failed → ⊥) → ended how → C how) → (how : Ending) → ByEnding failed ended how → C how
  either C on_failed otherwise ending.Failed says = on_failed says
  either C on_failed otherwise (ending.Halted at) says = otherwise (ending.Halted at) (λ is. cc) says
  either C on_failed otherwise (ending.Stopped kind at) says = otherwise (ending.Stopped kind at) (λ is. cc) says
  either C on_failed otherwise ending.Limit says = otherwise ending.Limit (λ is. cc) says
  either C on_failed otherwise (ending.NeedCards at) says = otherwise (ending.NeedCards at) (λ is. cc) says
  either C on_failed otherwise (ending.NeedKeys at) says = otherwise (ending.NeedKeys at) (λ is. cc) says
  either C on_failed otherwise (ending.Jam u n) says = otherwise (ending.Jam u n) (λ is. cc) says

  pub says_ended : (how : Ending) → (how ≡ ending.Failed → ⊥) → ended how → ByEnding failed ended how
  says_ended ending.Failed other holds = absurd (other refl)
  says_ended (ending.Halted at) other holds = holds
  says_ended (ending.Stopped kind at) other holds = holds
  says_ended ending.Limit other holds = holds
  says_ended (ending.NeedCards at) other holds = holds
  says_ended (ending.NeedKeys at) other holds = holds
  says_ended (ending.Jam u n) other holds = holds

  -- of another ending than a failure it's the other
  pub not_failed : (how : Ending) → (how ≡ ending.Failed → ⊥) → ByEnding failed ended how → ended how
  not_failed how other says = either (λ e. (e ≡ ending.Failed → ⊥) → ended e) (λ holds fails. absurd (fails refl)) (λ e apart holds fails. holds) how says other

-- each of the two leads to its like
pub by_ending : (A B : Type 0) (P Q : Ending → Type 0) → (A → B) → ((how : Ending) → P how → Q how) → (how : Ending) → ByEnding A P how → ByEnding B Q how
by_ending A B P Q failed ended how says = either A P (ByEnding B Q) failed (λ e other holds. says_ended B Q e other (ended e holds)) how says
