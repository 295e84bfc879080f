-- The cells, one after another.
use Rattle.std.proofs.Common.{◌≡◌, ◌∙◌, ℕ, ◌+◌, ◌-◌, ◌++◌, ◌∷◌, [], List, take, drop, map, ap, sym, arith}
use Rattle.std.specs.Prelude.{slice_index}
use Rattle.report_lines.specs.Numbers.{digits_to_width}
use Rattle.console_debug.specs.Lines.{shown_cell}
use Rattle.console_debug.proofs.ShownCells.{shown, one_cell}
use Rattle.console_debug.proofs.lines.show_line.Goals as goal

pub loop-address-preserved : goal.loop-address-preserved
loop-address-preserved g c =
    let at = c.args.at in
    let core = c.args.core.now in
    let k = c.loop-address.address - at in
    let here : at + k ≡ c.loop-address.address = omega (arith, c.loop-address.auto.address) in
    let next : k + 1 ≡ c.loop-address.address + 1 - at = omega (arith, c.loop-address.auto.address) in
    let pushed = c.push-in-loop-address.ensures.items in
    let shows = c.shown_cell.ensures ∙ ap shown_cell c.get.ensures.is ∙ ap (λ (a : ℕ). shown (slice_index core a)) (sym here) in
    record {
      few = omega (arith, c.push-in-loop-address.ensures.len, c.loop-address.invariant.few);
      cells = pushed
          ∙ ap (λ (cell : ℕ). c.loop-address.line.items ++ cell ∷ []) shows
          ∙ ap (λ (line : List ℕ). line ++ shown (slice_index core (at + k)) ∷ []) c.loop-address.invariant.cells
          ∙ one_cell (digits_to_width 5 at ++ 32 ∷ []) core at k (omega (arith, c.size_law.ensures.length, c.requires.within, here, c.loop-address-test.true))
          ∙ ap (λ (n : ℕ). (digits_to_width 5 at ++ 32 ∷ []) ++ map shown (take n (drop at core))) next;
    }
