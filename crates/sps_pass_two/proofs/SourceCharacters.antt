-- The characters of a source are those of cards without three.
use Rattle.std.proofs.Common.{◌≡◌, ◌∙◌, ℕ, Bool, true, false, not, ◌&&◌, ◌==◌, List, [], ◌∷◌, map, is_some, refl, ap, arith}
use Rattle.std.specs.List.{list_any}
use Rattle.std.proofs.lemmas.Bool.Decides.{nat_tests}
use Rattle.std.proofs.lemmas.Map.Views.{any-filter_same}
use Rattle.card_code.specs.Pairs.{PairEntry, pair_in, pair_table, alpha_of}
use Rattle.sps_scan.specs.Statement.{is_allowed}
use Rattle.sps_expr.proofs.Cases.{by_bool}
use Rattle.sps_pass_two.specs.SourceCharacters.{is_unfit, AllowedLaw, OrderLaw}

pub in_order : OrderLaw
in_order = refl

-- a character is that of one of some pairs where it has a pair among them
any_pair : (es : List PairEntry) (b : ℕ) → list_any (λ c. c == b) (map (λ e. e.char) es) ≡ is_some (pair_in es b)
unfolding pair_in
any_pair [] b = refl
any_pair (e ∷ es) b = by_bool (e.char == b) (λ t. rw t refl) (λ f. rw f (any_pair es b))

both : (a b : Bool) → (a && b) ≡ (b && a)
both true true = refl
both true false = refl
both false true = refl
both false false = refl

same_fit : (b c : ℕ) → (c == b) ≡ true → not (is_unfit c) ≡ not (is_unfit b)
same_fit b c same = let e : c ≡ b = grind (arith, nat_tests) in ap (λ x. not (is_unfit x)) e

pub allowed_is : AllowedLaw
unfolding is_allowed
allowed_is b =
    ap (list_any (λ c. c == b)) in_order
    ∙ any-filter_same (λ c. c == b) (λ c. not (is_unfit c)) (not (is_unfit b)) (same_fit b) (map (λ e. e.char) pair_table)
    ∙ ap (λ t. not (is_unfit b) && t) (any_pair pair_table b)
    ∙ both (not (is_unfit b)) (is_some (alpha_of b))
