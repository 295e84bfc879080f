-- The statements of a deck, one after another.
use Rattle.std.proofs.Common.{◌≡◌, ℕ, ◌+◌, ◌-◌, ◌≤◌, List, [], ◌∷◌, ◌++◌, flat_map, refl, sym, ap, ◌∙◌, arith, add-one}
use Rattle.std.proofs.lemmas.List.{append-nil}
use Rattle.std.proofs.lemmas.List.Concat.{flat_map-append}
use Rattle.std.proofs.lemmas.List.FromFn.{map-range_with_len_more}
use Rattle.outside_io.specs.Lines.{with_line_feed}
use Rattle.sps_generator.specs.Generated.{next_state, state_at, draw_of, line_of_draw, statement_line, statement_lines}

-- the state at the first statement
pub first_state : (number : ℕ) → state_at number 1 ≡ next_state number
unfolding state_at
first_state number = refl

-- the state at the next statement
pub state_more : (number i : ℕ) → state_at number (i + 1) ≡ next_state (state_at number i)
unfolding state_at
state_more number i = rw add-one refl

-- one more line stands behind the others
line_more : (number i : ℕ) → 1 ≤ i → flat_map with_line_feed (statement_lines number i) ≡ flat_map with_line_feed (statement_lines number (i - 1)) ++ with_line_feed (statement_line number i)
line_more number i h =
    let count : i ≡ i - 1 + 1 = omega arith in
    let before = statement_lines number (i - 1) in
    let lines : statement_lines number i ≡ before ++ statement_line number i ∷ [] = ap (statement_lines number) count ∙ map-range_with_len_more (statement_line number) 1 (i - 1) i (omega arith) in
    ap (flat_map with_line_feed) lines ∙ (flat_map-append with_line_feed before (statement_line number i ∷ []) ∙ ap (λ xs. flat_map with_line_feed before ++ xs) (append-nil (with_line_feed (statement_line number i))))

-- the line of the next statement was added
pub line_added : (number i x : ℕ) (before after : List ℕ) → 1 ≤ i → x ≡ state_at number i → before ≡ flat_map with_line_feed (statement_lines number (i - 1)) → after ≡ before ++ with_line_feed (line_of_draw i (draw_of x))
    → after ≡ flat_map with_line_feed (statement_lines number (i + 1 - 1))
line_added number i x before after h e_state e_before e_after =
    let count : i ≡ i + 1 - 1 = omega arith in
    e_after ∙ (ap (λ (y : ℕ). before ++ with_line_feed (line_of_draw i (draw_of y))) e_state ∙ (ap (λ (bs : List ℕ). bs ++ with_line_feed (statement_line number i)) e_before ∙ (sym (line_more number i h) ∙ ap (λ (n : ℕ). flat_map with_line_feed (statement_lines number n)) count)))
