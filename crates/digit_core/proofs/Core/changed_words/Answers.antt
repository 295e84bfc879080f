-- Cells of words that are the same.
use Rattle.std.proofs.Common.{◌≡◌, inl, inr, length, sym, ◌∙◌, arith}
use Rattle.std.proofs.lemmas.List.{get_or_past}
use Rattle.std.proofs.lemmas.Bool.{cases_lt}
use Rattle.digit_core.proofs.TakenCells.{same_cells}
use Rattle.digit_core.proofs.Core.changed_words.Goals as goal

pub returns-clause-outside : goal.returns-clause-outside
returns-clause-outside g c =
    let ws = c.self.inside.words.items in
    let vs = c.other.inside.words.items in
    let long : length ws ≡ length vs = omega (arith, c.self.invariant.is_length, c.other.invariant.is_length) in
    let front = c.same_front-first.ensures.same in
    let back = c.same_back-end.ensures.same in
    rw (← c.self.view_is, ← c.other.view_is)
    (same_cells ws vs c.same_front-first.result c.same_back-end.result long
    (λ k out.
    elim (cases_lt k (length ws)) [
      | inl inside ↦ elim out [ inl low ↦ rw (c.deref.ensures.value, c.deref-2.ensures.value) at front k low | inr high ↦ rw (c.deref-3.ensures.value, c.deref-4.ensures.value) at back k high inside ]
      | inr past ↦ get_or_past ws k 0 past ∙ sym (get_or_past vs k 0 (omega (arith, past, long)))
    ]))
