-- Pieces that are the same have the same words.
use Rattle.std.proofs.Common.{ℕ, ◌≡◌, ◌+◌, ◌-◌, ◌<◌, ◌≤◌, List, take, drop, get_or, sym, ◌∙◌, ap, arith}
use Rattle.std.proofs.lemmas.Slice.Eq.{bytes_eq-Decides}
use Rattle.std.proofs.lemmas.List.{get_or-take, get_or-drop}
use Rattle.digit_core.proofs.mixing.are_same.Goals as goal

piece : (xs : List ℕ) (k m i : ℕ) → k ≤ i → i - k < m → get_or (take m (drop k xs)) (i - k) 0 ≡ get_or xs i 0
piece xs k m i low high =
    let e : k + (i - k) ≡ i = omega (arith, low) in
    get_or-take m (drop k xs) (i - k) 0 high ∙ get_or-drop k xs (i - k) 0 ∙ ap (λ j. get_or xs j 0) e

pub returns : goal.returns
returns c = λ yes i low high.
    let xs = c.args.words.now in
    let ys = c.args.others.now in
    let k = c.args.k in
    let m = c.args.k + c.args.n - c.args.k in
    let inside : i - k < m = omega (arith, low, high) in
    let same : take m (drop k xs) ≡ take m (drop k ys) = (bytes_eq-Decides (take m (drop k xs)) (take m (drop k ys))).0 (sym c.eq.ensures ∙ yes) in
    sym (piece xs k m i low inside) ∙ ap (λ (zs : List ℕ). get_or zs (i - k) 0) same ∙ piece ys k m i low inside
