-- The cells of a line, one after another.
use Rattle.std.proofs.Common.{◌≡◌, ◌∙◌, ℕ, ◌+◌, ◌<◌, List, [], ◌∷◌, ◌++◌, length, take, drop, map, sym, ap, append_assoc, arith}
use Rattle.std.proofs.lemmas.List.{take_more, get_or-drop, length-drop, map-append}
use Rattle.std.specs.Prelude.{slice_index}
use Rattle.digit_core.specs.Cell.{read_cell}
use Rattle.console_debug.specs.Lines.{shown_cell}

-- a cell as it is shown
abbrev pub shown : ℕ → ℕ
shown cell = shown_cell (read_cell cell)

-- one cell more is behind those before it
pub one_cell : (before core : List ℕ) (at k : ℕ) → at + k < length core
    → (before ++ map (λ cell. shown_cell (read_cell cell)) (take k (drop at core))) ++ shown (slice_index core (at + k)) ∷ [] ≡ before ++ map (λ cell. shown_cell (read_cell cell)) (take (k + 1) (drop at core))
one_cell before core at k within =
    append_assoc before (map shown (take k (drop at core))) (shown (slice_index core (at + k)) ∷ [])
    ∙ ap (λ (cells : List ℕ). before ++ cells)
    (ap (λ (cell : ℕ). map shown (take k (drop at core)) ++ shown cell ∷ []) (sym (get_or-drop at core k 0))
    ∙ sym (map-append shown (take k (drop at core)) (slice_index (drop at core) k ∷ []))
    ∙ ap (map shown) (sym (take_more (drop at core) k 0 (omega (arith, length-drop at core)))))
