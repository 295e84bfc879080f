-- The digits of pieces, one piece after another.
use Rattle.std.proofs.Common.{◌≡◌, ℕ, suc, ◌+◌, ◌<◌, ◌≤◌, List, length, map, drop, get_or, drop-cons, refl, arith}
use Rattle.std.proofs.lemmas.List.{drop_all}
use Rattle.sps_pass_two.specs.declared.image.Piece.{Piece}
use Rattle.sps_pass_two.specs.Kept.{digit_count}
use Rattle.sps_pass_two.specs.Types.{run_of}

pub one_piece : (ps : List Piece) (i : ℕ) (p : Piece) → i < length ps → p ≡ get_or ps i p → digit_count (map run_of (drop i ps)) ≡ length p.digits + digit_count (map run_of (drop (i + 1) ps))
unfolding digit_count
one_piece ps i p inside is = let k : i + 1 ≡ suc i = omega arith in rw (k, drop-cons ps i p inside, ← is) refl

pub no_piece : (ps : List Piece) (i : ℕ) → length ps ≤ i → digit_count (map run_of (drop i ps)) ≡ 0
unfolding digit_count
no_piece ps i past = rw (drop_all i ps past) refl
