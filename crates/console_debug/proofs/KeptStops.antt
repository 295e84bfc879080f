-- On over the kept places to the first stop among them, where each is looked at and one alone is gone to.
use Rattle.std.proofs.Common.{◌≡◌, ◌∙◌, ℕ, ◌+◌, ◌-◌, ◌<◌, ◌≤◌, nat_lt, Bool, true, false, List, length, refl, sym, arith}
use Rattle.std.specs.Prelude.{IfSome, slice_get}
use Rattle.cpu_step.specs.declared.machine.Machine.{Machine}
use Rattle.sps_pass_two.specs.Assembled.{PlacedText}
use Rattle.rewind_log.specs.Kept.{Kept}
use Rattle.console_debug.specs.Places.{is_at_break, turns_to_stop}
use Rattle.console_debug.specs.CursorStates.{CursorState, IsFit, MovesOn, IsThere, ToAStop, PassesOn}
use Rattle.console_debug.proofs.Courses.{led_by}
use Rattle.console_debug.proofs.KeptMoves.{would_be, starts, less, not_less, brought_there, next_there, next_machine, next_kept, next_is, next_moves}
use Rattle.console_debug.proofs.Stepping.{if_some}
use Rattle.console_debug.proofs.Passing.{sets_out}
use Rattle.console_debug.proofs.Stops.{on_by, stopped_on}

absurd_by : {A : Type 0} → false ≡ true → A
absurd_by is = cc

module _ (m limit : ℕ) (placed : List PlacedText) (set : List ℕ) (old : CursorState m) where
  -- so many places were looked at, none of which is a stop
  pub record LooksOn (steps behind : ℕ) : Type 0 where
    pub would : Machine m
    pub there : IsThere m old would steps behind
    pub passes : PassesOn m limit (turns_to_stop placed set) old (would_be m limit old would steps behind old.seen)

  pub looks_first : IsFit m limit old → LooksOn old.at.steps old.behind
  looks_first fit = record { would = old.at.machine; there = starts m limit old; passes = sets_out (turns_to_stop placed set) m limit old fit }

  module _ (steps behind next count : ℕ) (looks : LooksOn steps behind) (some : 0 < behind) (one : next + 1 ≡ behind)
      (count_is : IfSome (slice_get old.kept (length old.kept - behind)) (λ k. count ≡ k.steps)) where
    abbrev i : ℕ
    i = length old.kept - behind

    abbrev x : CursorState m
    x = would_be m limit old looks.would steps behind old.seen

    few : behind < length old.kept
    few = looks.passes.fit.few

    abbrev k : Kept
    k = next_kept m limit old looks.would steps behind next count looks.there few some one count_is

    abbrev would_next : Machine m
    would_next = next_machine m limit old looks.would steps behind next count looks.there few some one count_is

    abbrev new : CursorState m
    new = would_be m limit old would_next count next old.seen

    there_next : IsThere m old would_next count next
    there_next = next_there m limit old looks.would steps behind next count looks.there few some one count_is

    goes : (stepped : Bool) → stepped ≡ nat_lt steps count → MovesOn m limit (led_by stepped) x new
    goes stepped which = next_moves m limit old looks.would steps behind next count looks.there few some one count_is old.seen looks.passes.fit stepped which

    -- the next place is no stop
    looks_next : (stepped : Bool) → stepped ≡ nat_lt steps count → (stepped ≡ true → is_at_break placed set k.mode k.regs.ir ≡ false) → LooksOn count next
    looks_next stepped which none = record {
      would = would_next;
      there = there_next;
      passes = on_by placed set m limit old x new looks.passes (led_by stepped) stepped (λ p. refl) none (goes stepped which);
    }

    -- no step led there
    pub looks_past : count ≤ steps → LooksOn count next
    looks_past past = looks_next false (not_less steps count past) (λ is. absurd_by is)

    -- what tells whether a machine that is there runs at a breakpoint
    abbrev Tells : Bool → Type 0
    Tells stops = IfSome (slice_get old.kept i) (λ x. stops ≡ is_at_break placed set x.mode x.regs.ir)

    told_by : (stops : Bool) → Tells stops → is_at_break placed set k.mode k.regs.ir ≡ stops
    told_by stops tells =
        sym (if_some (λ (z : Kept). stops ≡ is_at_break placed set z.mode z.regs.ir) (slice_get old.kept i) k
        (next_is m limit old looks.would steps behind next count looks.there few some one count_is) tells)

    -- a step led there, and it is at no breakpoint
    pub looks_over : steps < count → (stops : Bool) → Tells stops → stops ≡ false → LooksOn count next
    looks_over step stops tells none = looks_next true (less steps count step) (λ is. told_by stops tells ∙ none)

    -- it is at one, and is gone to
    pub looks_stop : steps < count → (stops : Bool) → Tells stops → stops ≡ true → (y : Machine m) (j : ℕ) → IsThere m old y j next → ToAStop m limit placed set old (would_be m limit old y j next old.seen)
    looks_stop step stops tells stop y j at =
        brought_there m limit old (ToAStop m limit placed set old) old.seen would_next y count j next (omega (arith, few, one)) there_next at
        (stopped_on placed set m limit old x new looks.passes (told_by stops tells ∙ stop) (goes true (less steps count step)))

  -- none of them is one, and the last that was looked at is gone to
  pub looks_out : (steps behind : ℕ) → LooksOn steps behind → (y : Machine m) (j : ℕ) → IsThere m old y j behind → PassesOn m limit (turns_to_stop placed set) old (would_be m limit old y j behind old.seen)
  looks_out steps behind looks y j at =
      brought_there m limit old (PassesOn m limit (turns_to_stop placed set) old) old.seen looks.would y steps j behind looks.passes.fit.few looks.there at looks.passes
