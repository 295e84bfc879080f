-- How many cards a deck has at most.
use Rattle.std.proofs.Common.{ℕ, suc, ◌≡◌, ◌+◌, ◌≤◌, ◌&&◌, nat_le, Bool, true, false, List, [], ◌∷◌, length, map, refl, arith, length-append, All}
use Rattle.std.proofs.lemmas.List.{length-map}
use Rattle.std.proofs.lemmas.Bool.Decides.{nat_tests}
use Rattle.digit_core.specs.declared.Digit.{Digit}
use Rattle.sps_pass_two.specs.Image.{DigitRun}
use Rattle.sps_pass_two.specs.Kept.{IsRunBelow, IsImage, rises}
use Rattle.deck_punch.specs.declared.form.DeckForm.{DeckForm}
use Rattle.deck_punch.specs.declared.form.DeckForm.TheVariants.{SelfLoading}
use Rattle.deck_punch.specs.Cut.{cut, cut_as, cut_piece_as}
use Rattle.deck_punch.specs.Cover.{Covers, no_digits, segment}
use Rattle.deck_punch.specs.Cards.{card_of, transfer_card}
use Rattle.deck_punch.specs.Tables.{with_tables}
use Rattle.deck_punch.specs.Deck.{deck}
use Rattle.deck_punch.proofs.Covering.{IsFront, form_covers}
use Rattle.deck_punch.proofs.WithTables.{with_tables_image}

-- a cover has no more segments than digits
pub cover_few : {form : DeckForm} {a : ℕ} {ds : List Digit} {gs : List DigitRun} → Covers (IsFront form) a ds gs → length gs ≤ length ds
cover_few no_digits = omega arith
cover_few (segment ds rest cut more) =
    let l = length-append ds rest in
    let few = cover_few more in
    let some : 1 ≤ length ds = cut.some in
    omega arith

-- runs of which the first begins there or above
abbrev pub From : ℕ → List DigitRun → Type 0
From b [] = Unit {0}
From b (r ∷ rs) = b ≤ r.from

both : (a b : Bool) → (a && b) ≡ true → (a ≡ true) × (b ≡ true)
both true b h = (refl, h)
both false b h = cc

-- nor have pieces that rise
pub cut_few : (form : DeckForm) (rs : List DigitRun) (b : ℕ) → b ≤ 60000 → From b rs → rises rs ≡ true → All (IsRunBelow 60000) rs → length (cut_as form rs) + b ≤ 60000
unfolding cut_as
cut_few form [] b low from up below = omega arith
cut_few form (r ∷ []) b low from up below =
    let few = cover_few (form_covers form r) in
    let l = length-append (cut_piece_as form r) [] in
    let high : r.from + length r.digits ≤ 60000 = below 0 r (omega arith) in
    omega arith
cut_few form (r ∷ s ∷ rs) b low from up below =
    let few = cover_few (form_covers form r) in
    let l = length-append (cut_piece_as form r) (cut_as form (s ∷ rs)) in
    let high : r.from + length r.digits ≤ 60000 = below 0 r (omega arith) in
    let two = both (nat_le (r.from + length r.digits) s.from) (rises (s ∷ rs)) up in
    let next : r.from + length r.digits ≤ s.from = let t = two.0 in grind (arith, nat_tests) in
    let rest = cut_few form (s ∷ rs) (r.from + length r.digits) high next two.1 (λ k e h. below (suc k) e (omega arith)) in
    omega arith

pub from_0 : (rs : List DigitRun) → From 0 rs
from_0 [] = tt
from_0 (r ∷ rs) = omega arith

-- a deck has one card or more, and no more than 100,000
pub deck_few : (image : List DigitRun) (start : ℕ) → IsImage image → (1 ≤ length (deck image start)) × (length (deck image start) ≤ 100000)
deck_few image start is =
    let all = with_tables_image image is in
    let few = cut_few SelfLoading (with_tables image) 0 (omega arith) (from_0 (with_tables image)) all.rising all.below in
    let m : length (map card_of (cut (with_tables image))) ≡ length (cut (with_tables image)) = length-map (cut (with_tables image)) card_of in
    let d = length-append (map card_of (cut (with_tables image))) (transfer_card start ∷ []) in
    (omega (arith, m, d), omega (arith, m, d, few))
