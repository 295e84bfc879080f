-- All cells are zeros.
use Rattle.std.proofs.Common.{ℕ, ◌≡◌, ◌∙◌, ◌-◌, ◌*◌, ◌^◌, ◌<◌, ◌≤◌, List, [], ◌++◌, length, take, replicate, ap, arith}
use Rattle.std.proofs.lemmas.List.{length-replicate, take_all}
use Rattle.std.proofs.lemmas.List.Elements.{All-replicate}
use Rattle.digit_core.specs.Size.{size}
use Rattle.digit_core.proofs.Sixes.{zero_cells, zeros}
use Rattle.digit_core.proofs.SoundCore.{zeros_sound}
use Rattle.digit_core.proofs.AddTable.{none_known}
use Rattle.digit_core.proofs.room.CoreRoom.core.Goals as goal

all_zeros : (new old : List ℕ) (n k : ℕ) → old ≡ [] → k ≡ 0 → new ≡ take n old ++ replicate (n - k) zeros → new ≡ replicate n zeros
all_zeros new old n k empty none is =
    let all : n - k ≡ n = omega (arith, none) in
    let few : length old ≤ n = omega (arith, ap length empty) in
    is ∙ ap (λ (xs : List ℕ). xs ++ replicate (n - k) zeros) (take_all n old few ∙ empty) ∙ ap (λ j. replicate j zeros) all

pub invariant_of-result : goal.invariant_of-result
invariant_of-result g c =
    rw (all_zeros c.resize.new.self.items c.self.inside.words.items (g.row.M * 2000) _ c.self.invariant.empty c.self.invariant.none c.in-Ok.ensures.items)
    (record {
      is_size = c.self.invariant.is_size;
      is_length = length-replicate (g.row.M * 2000) zeros;
      sixty_bits = All-replicate (λ w. w < 2 ^ 60) (g.row.M * 2000) zeros (omega arith);
      is_sound = λ sound. rw (zero_cells (g.row.M * 2000) (size g.row.M) (omega arith)) (zeros_sound (size g.row.M));
      is_known = none_known _;
    })

pub returns : goal.returns
returns g c =
    rw (all_zeros c.resize.new.self.items c.self.inside.words.items (g.row.M * 2000) _ c.self.invariant.empty c.self.invariant.none c.in-Ok.ensures.items)
    (zero_cells (g.row.M * 2000) (size g.row.M) (omega arith))
