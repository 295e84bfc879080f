use Rattle.std.proofs.Common.{◌≡◌, ℕ, ◌<◌, ◌∙◌, ap, length, get_or, set, false, arith, rules}
use Rattle.outside_io.specs.declared.host.TheConstants.{UNIT_COUNT}
use Rattle.outside_io.specs.World.{place}
use Rattle.outside_io.proofs.UntoldHosts.{given_below, place_below}
use Rattle.outside_io.proofs.OldBytes.{flag_lost}
use Rattle.outside_io.proofs.opened.OpenFiles.empty.Goals as goal

pub bounds-self-place : goal.bounds-self-place
bounds-self-place g c = given_below _ _ c.place-place.ensures.place

pub offset_bounds-self-place : goal.offset_bounds-self-place
offset_bounds-self-place g c = omega (arith, given_below _ _ c.place-place.ensures.place)

pub listed : goal.listed
listed g c = let size : length c.args.self.now.files ≡ UNIT_COUNT = search rules in rw size (given_below _ _ c.place-place.ensures.place)

pub bounds-self-place-then-self-place : goal.bounds-self-place-then-self-place
bounds-self-place-then-self-place g c = given_below _ _ c.place-place.ensures.place

pub bounds-self-place-then-self-place-2 : goal.bounds-self-place-then-self-place-2
bounds-self-place-then-self-place-2 g c = given_below _ _ c.place-place.ensures.place

pub returns-after-self-place : goal.returns-after-self-place
returns-after-self-place g c =
    let size : length c.args.self.now.is_old ≡ UNIT_COUNT = search rules in
    let fits : place c.args.unit < length c.args.self.now.is_old = omega (arith, place_below c.args.unit) in
    λ v. ap (λ (p : ℕ). get_or (set c.args.self.now.is_old p false) (place v) false) c.place-place.ensures.place ∙ flag_lost c.args.self.now.is_old c.args.unit v fits
