-- Options that clap is told of, one after another.
use Rattle.std.proofs.Common.{◌≡◌, ◌+◌, ◌||◌, ◌<◌, ◌≤◌, ℕ, zero, suc, Bool, true, false, List, [], ◌∷◌, ◌++◌, length, drop, refl, sym, ◌∙◌, ap, arith, slice_index_or}
use Rattle.clap.specs.Words.{App, with_rule}
use Rattle.command_line.specs.declared.options.Slot.{Slot}
use Rattle.command_line.specs.Options.{slot_word}
use Rattle.command_line.specs.Matched.{rule_for, with_options}

-- the slots from one on are that one and those behind it
slots_from : (slots : List Slot) (i : ℕ) (d : Slot) → i < length slots → drop i slots ≡ slice_index_or slots i d ∷ drop (i + 1) slots
slots_from [] i d lt = absurd (omega (arith, lt))
slots_from (s ∷ slots) zero d lt = refl
slots_from (s ∷ slots) (suc i) d lt =
    let next : suc i + 1 ≡ suc (i + 1) = omega arith in
    slots_from slots i d (omega (arith, lt)) ∙ ap (λ (k : ℕ). slice_index_or slots i d ∷ drop k (s ∷ slots)) (sym next)

none_from : (slots : List Slot) (i : ℕ) → length slots ≤ i → drop i slots ≡ []
none_from [] zero le = refl
none_from [] (suc i) le = refl
none_from (s ∷ slots) zero le = absurd (omega (arith, le))
none_from (s ∷ slots) (suc i) le = none_from slots i (omega (arith, le))

-- one more option
pub option_more : (app more : App) (slots : List Slot) (i : ℕ) (d : Slot) → i < length slots → more ≡ with_rule app (rule_for (slot_word (slice_index_or slots i d)))
    → with_options more (drop (i + 1) slots) ≡ with_options app (drop i slots)
option_more app more slots i d lt is =
    ap (λ (a : App). with_options a (drop (i + 1) slots)) is ∙ ap (with_options app) (sym (slots_from slots i d lt))

pub options_end : (app : App) (slots : List Slot) (i : ℕ) → length slots ≤ i → with_options app (drop i slots) ≡ app
options_end app slots i le = ap (with_options app) (none_from slots i le)

-- the options of two lists, one after the other
pub options_joined : (app : App) (first second : List Slot) → with_options app (first ++ second) ≡ with_options (with_options app first) second
options_joined app [] second = refl
options_joined app (s ∷ first) second = options_joined (with_rule app (rule_for (slot_word s))) first second

-- what is not global leaves the command so
pub still_local : (old new global : Bool) → new ≡ (old || global) → global ≡ false → new ≡ old
still_local true new global is local = is
still_local false new global is local = is ∙ local

-- the options of the required slots, and then of three groups
pub options_in_turn : (app : App) (first second third fourth : List Slot)
    → with_options (with_options (with_options (with_options app first) second) third) fourth ≡ with_options app (first ++ (second ++ (third ++ fourth)))
options_in_turn app first second third fourth =
    sym (
    options_joined app first _
    ∙ options_joined (with_options app first) second _
    ∙ options_joined (with_options (with_options app first) second) third fourth
    )
