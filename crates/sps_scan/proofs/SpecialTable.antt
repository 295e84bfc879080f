-- The special characters as the code has them.
use Rattle.std.proofs.Common.{◌≡◌, refl}
use Rattle.sps_scan.specs.Specials.{special_text}
use Rattle.sps_scan.specs.declared.characters.TheConstants.{SPECIALS}

pub specials_are : SPECIALS.now ≡ special_text
unfolding special_text
specials_are = refl
