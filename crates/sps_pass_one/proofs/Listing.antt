-- The parts that are listed, up to the first empty one.
use Rattle.std.proofs.Common.{◌≡◌, ℕ, suc, ◌+◌, ◌<◌, ◌≤◌, true, false, List, length, map, drop, get_or, drop-cons, Bor, arith}
use Rattle.std.proofs.lemmas.List.{drop_all}
use Rattle.sps_scan.specs.Columns.{is_blank}
use Rattle.sps_scan.specs.Statement.{now_of}
use Rattle.sps_pass_one.specs.Placing.{listed_count}

-- so many parts from one on
abbrev pub from_place : ℕ → List (Bor (List ℕ)) → ℕ
from_place i parts = listed_count (map now_of (drop i parts))

module _ (parts : List (Bor (List ℕ))) (i : ℕ) (part : Bor (List ℕ)) (is : part ≡ get_or parts i part) (inside : i < length parts) where
  pub ends : is_blank part.now ≡ true → from_place i parts ≡ 0
  ends e = rw (drop-cons parts i part, ← is, e)

  pub goes_on : is_blank part.now ≡ false → from_place i parts ≡ suc (from_place (i + 1) parts)
  goes_on e = let k : i + 1 ≡ suc i = omega arith in rw (k, drop-cons parts i part, ← is, e)

pub all_listed : (parts : List (Bor (List ℕ))) (i : ℕ) → length parts ≤ i → from_place i parts ≡ 0
all_listed parts i h = rw (drop_all i parts h)
