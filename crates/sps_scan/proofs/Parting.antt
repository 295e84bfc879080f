-- Parts that are written into an array of ten, one by one.
use Rattle.std.proofs.Common.{◌≡◌, ℕ, suc, ◌+◌, ◌-◌, ◌<◌, ◌≤◌, true, false, List, [], ◌∷◌, ◌++◌, length, take, drop, replicate, set, sym, ap, ◌∙◌, add-one, append_assoc, drop-cons, arith}
use Rattle.std.proofs.lemmas.List.{length-set, drop-set-lt, take-append-drop}
use Rattle.std.proofs.Math.Seq.{take-suc-set}
use Rattle.std.proofs.lemmas.Grind.{common_steps}
use Rattle.sps_scan.specs.Columns.{before_comma, after_comma, has_comma}
use Rattle.sps_scan.specs.Operands.{parts_of, remark_of, ten_parts}

-- so many of ten are taken
pub length_taken : (qs : List (List ℕ)) (k : ℕ) → length qs ≡ 10 → k ≤ 10 → length (take k qs) ≡ k
length_taken qs k ten small = grind (arith, common_steps)

-- all of the array, where the parts are in front
pub finished : (qs ps : List (List ℕ)) (k : ℕ) → length qs ≡ 10 → k ≤ 10 → take k qs ≡ ps → drop k qs ≡ replicate (10 - k) [] → qs ≡ ten_parts ps
finished qs ps k ten small front back =
    let n : length ps ≡ k = sym (ap length front) ∙ length_taken qs k ten small in
    sym (take-append-drop k qs) ∙ rw (front, back, n)

-- one part more
module _ (most k : ℕ) (qs : List (List ℕ)) (rest text : List ℕ) (more : k < most) (small : most ≤ 10) (ten : length qs ≡ 10) (so_far : take k qs ++ parts_of (most - k) rest ≡ parts_of most text) (past : drop k qs ≡ replicate (10 - k) []) (remark : remark_of (most - k) rest ≡ remark_of most text) where
  one_more : most - k ≡ suc (most - (k + 1))
  one_more = omega arith

  one_past : 10 - k ≡ suc (10 - (k + 1))
  one_past = omega arith

  taken : (p : List ℕ) → take (k + 1) (set qs k p) ≡ take k qs ++ (p ∷ [])
  taken p = rw add-one (take-suc-set qs k p (omega arith))

  pub past_on : (p : List ℕ) → drop (k + 1) (set qs k p) ≡ replicate (10 - (k + 1)) []
  past_on p =
      let front = sym (drop-cons qs k [] (omega arith)) ∙ past in
      let both = rw one_past at front in
      let back : drop (suc k) qs ≡ replicate (10 - (k + 1)) [] = cc in
      let e : k + 1 ≡ suc k = omega arith in
      drop-set-lt (k + 1) qs k p (omega arith) ∙ (ap (λ n. drop n qs) e ∙ back)

  pub ten_on : (p : List ℕ) → length (set qs k p) ≡ 10
  ten_on p = length-set qs k p ∙ ten

  pub so_far_on : has_comma rest ≡ true → take (k + 1) (set qs k (before_comma rest)) ++ parts_of (most - (k + 1)) (after_comma rest) ≡ parts_of most text
  unfolding parts_of
  so_far_on c = let s = rw (one_more, c) at so_far in rw (taken (before_comma rest), append_assoc) s

  pub remark_on : has_comma rest ≡ true → remark_of (most - (k + 1)) (after_comma rest) ≡ remark_of most text
  unfolding remark_of
  remark_on c = rw (one_more, c) at remark

  pub parts_end : has_comma rest ≡ false → take (k + 1) (set qs k (before_comma rest)) ≡ parts_of most text
  unfolding parts_of
  parts_end c = let s = rw (one_more, c) at so_far in rw (taken (before_comma rest)) s

  pub count_end : has_comma rest ≡ false → k + 1 ≡ length (parts_of most text)
  count_end c = sym (length_taken (set qs k (before_comma rest)) (k + 1) (ten_on (before_comma rest)) (omega arith)) ∙ ap length (parts_end c)

  pub remark_end : has_comma rest ≡ false → [] ≡ remark_of most text
  unfolding remark_of
  remark_end c = rw (one_more, c) at remark

-- no part may follow
module _ (most k : ℕ) (qs : List (List ℕ)) (rest text : List ℕ) (over : most ≤ k) where
  none : most - k ≡ 0
  none = omega arith

  pub parts_full : take k qs ++ parts_of (most - k) rest ≡ parts_of most text → take k qs ≡ parts_of most text
  unfolding parts_of
  parts_full so_far = let s = rw none at so_far in grind (arith, common_steps)

  pub remark_full : remark_of (most - k) rest ≡ remark_of most text → rest ≡ remark_of most text
  unfolding remark_of
  remark_full remark = rw none at remark
