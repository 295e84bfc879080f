-- A command that clap found, with its options.
use Rattle.std.proofs.Common.{◌≡◌, false, List, refl, sym, ap, ap₂}
use Rattle.std.specs.Prelude.{Option, Some, None, is_some, unwrap_or, option_map}
use Rattle.clap.specs.Words.{Row as Found, Text}

-- a name and rows that were found together
pub found_both : {B : Type 0} (h : B → Text × List Found) (o : Option B) (name : Text) (rows : List Found) → Some name ≡ option_map (λ b. (h b).0) o
    → Some rows ≡ option_map (λ p. p.1) (option_map h o) → option_map h o ≡ Some (name, rows)
found_both h None name rows named has = absurd (cc)
found_both h (Some b) name rows named has =
    ap₂ (λ (n : Text) (rs : List Found). Some (n, rs)) (ap (λ (o : Option Text). unwrap_or o name) (sym named)) (ap (λ (o : Option (List Found)). unwrap_or o rows) (sym has))

-- no subcommand was met
pub nothing_met : {B : Type 0} (h : B → Text × List Found) (o : Option B) → is_some o ≡ false → None ≡ option_map h o
nothing_met h None none = refl
nothing_met h (Some b) none = cc
