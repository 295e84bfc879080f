-- A move to the next kept place, as it would be: the machine alone is brought there later, or never.
use Rattle.std.proofs.Common.{◌≡◌, ◌∙◌, ℕ, ◌+◌, ◌-◌, ◌<◌, ◌≤◌, nat_lt, inl, inr, Bool, true, false, length, refl, sym, ap, subst, arith}
use Rattle.std.proofs.lemmas.Bool.Decides.{nat_tests}
use Rattle.std.specs.Prelude.{Some, IfSome, slice_get}
use Rattle.outside_io.specs.World.{Seen}
use Rattle.cpu_step.specs.declared.machine.Machine.{Machine}
use Rattle.rewind_log.specs.Kept.{Kept, machine_at}
use Rattle.rewind_log.proofs.Places.{element}
use Rattle.console_debug.specs.CursorStates.{CursorState, cursor_state, IsFit, MovesOn, IsAtKept, IsThere}
use Rattle.console_debug.proofs.Courses.{led_by}
use Rattle.console_debug.proofs.Stepping.{gone_on, if_some, some_holds}

pub less : (a b : ℕ) → a < b → true ≡ nat_lt a b
less a b h = grind (arith, nat_tests)

pub not_less : (a b : ℕ) → b ≤ a → false ≡ nat_lt a b
not_less a b h = grind (arith, nat_tests)

module _ (m limit : ℕ) (old : CursorState m) where
  -- as it would be at a place, with this machine
  abbrev pub would_be : Machine m → ℕ → ℕ → Seen → CursorState m
  would_be x steps behind seen = cursor_state m x old.at.script steps old.kept behind seen

  -- a machine at a kept place is the same from wherever it went there
  from_there : (x : Machine m) (steps behind : ℕ) → IsThere m old x steps behind → behind < length old.kept → (k : Kept) → machine_at m k x ≡ machine_at m k old.at.machine
  from_there x steps behind there few k = elim there [
    | inl same ↦ ap (λ (y : Machine m). machine_at m k y) same.1
    | inr at ↦
        let inside : length old.kept - 1 - behind < length old.kept = omega (arith, few) in
        let j = element old.kept (length old.kept - 1 - behind) inside in
        let is = if_some (IsAtKept m old.at.machine x steps) (slice_get old.kept (length old.kept - 1 - behind)) j.0 j.1 at.1 in
        ap (λ (y : Machine m). machine_at m k y) is.machine
  ]

  earlier : (x : Machine m) (steps behind : ℕ) → IsThere m old x steps behind → behind ≤ old.behind
  earlier x steps behind there = elim there [
    | inl same ↦ omega (arith, same.0)
    | inr at ↦ omega (arith, at.0)
  ]

  -- where it stands before it goes anywhere
  pub starts : IsThere m old old.at.machine old.at.steps old.behind
  starts = inl (refl, refl, refl)

  -- machine and count of a place are the same, by whichever way it is there
  there_once : (x y : Machine m) (j k behind : ℕ) → behind < length old.kept → IsThere m old x j behind → IsThere m old y k behind → (x ≡ y) × (j ≡ k)
  there_once x y j k behind few first second = elim first [
    | inl one ↦
        elim second [
          | inl two ↦ (one.1 ∙ sym two.1, one.2 ∙ sym two.2)
          | inr two ↦ absurd (omega (arith, one.0, two.0))
        ]
    | inr one ↦
        elim second [
          | inl two ↦ absurd (omega (arith, one.0, two.0))
          | inr two ↦
              let inside : length old.kept - 1 - behind < length old.kept = omega (arith, few) in
              let e = element old.kept (length old.kept - 1 - behind) inside in
              let a = if_some (IsAtKept m old.at.machine x j) (slice_get old.kept (length old.kept - 1 - behind)) e.0 e.1 one.1 in
              let b = if_some (IsAtKept m old.at.machine y k) (slice_get old.kept (length old.kept - 1 - behind)) e.0 e.1 two.1 in
              (a.machine ∙ sym b.machine, a.count_is ∙ sym b.count_is)
        ]
  ]

  -- what holds of it there holds where the machine is brought to that place
  pub brought_there : (P : CursorState m → Type 0) (seen : Seen) (x y : Machine m) (j k behind : ℕ) → behind < length old.kept → IsThere m old x j behind → IsThere m old y k behind
      → P (would_be x j behind seen) → P (would_be y k behind seen)
  brought_there P seen x y j k behind few first second holds =
      let same = there_once x y j k behind few first second in
      subst (λ n. P (would_be y n behind seen)) same.1 (subst (λ (z : Machine m). P (would_be z j behind seen)) same.0 holds)

  module _ (would : Machine m) (steps behind next count : ℕ) (there : IsThere m old would steps behind) (few : behind < length old.kept) (some : 0 < behind) (one : next + 1 ≡ behind)
      (count_is : IfSome (slice_get old.kept (length old.kept - behind)) (λ k. count ≡ k.steps)) where
    abbrev i : ℕ
    i = length old.kept - behind

    pub inside : i < length old.kept
    inside = omega (arith, few, some)

    abbrev pub next_kept : Kept
    next_kept = (element old.kept i inside).0

    pub next_is : slice_get old.kept i ≡ Some next_kept
    next_is = (element old.kept i inside).1

    counted : count ≡ next_kept.steps
    counted = if_some (λ (z : Kept). count ≡ z.steps) (slice_get old.kept i) next_kept next_is count_is

    abbrev pub next_machine : Machine m
    next_machine = machine_at m next_kept old.at.machine

    at_next : (from : Machine m) → next_machine ≡ machine_at m next_kept from → IfSome (slice_get old.kept (length old.kept - 1 - next)) (IsAtKept m from next_machine count)
    at_next from is =
        let same : length old.kept - behind ≡ length old.kept - 1 - next = omega (arith, one) in
        subst (λ j. IfSome (slice_get old.kept j) (IsAtKept m from next_machine count)) same
        (some_holds (IsAtKept m from next_machine count) (slice_get old.kept i) next_kept next_is (record { machine = is; count_is = counted }))

    pub next_there : IsThere m old next_machine count next
    next_there = inr ((let before = earlier would steps behind there in omega (arith, before, one)), at_next old.at.machine refl)

    pub next_moves : (seen : Seen) → IsFit m limit (would_be would steps behind seen) → (stepped : Bool) → stepped ≡ nat_lt steps count
        → MovesOn m limit (led_by stepped) (would_be would steps behind seen) (would_be next_machine count next seen)
    next_moves seen fit stepped which =
        gone_on m limit (would_be would steps behind seen) next_machine count next stepped fit one
        (at_next would (sym (from_there would steps behind there few next_kept))) which
