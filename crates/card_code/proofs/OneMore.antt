-- One reading more: what it adds to the tally, and to the lines that were read.
use Rattle.std.proofs.Common.{◌≡◌, ℕ, ◌+◌, min, List, [], ◌∷◌, ◌++◌, length, refl, sym, ◌∙◌, ap, arith, length-append, append-nil, append_assoc}
use Rattle.std.proofs.lemmas.List.Concat.{flat_map-append}
use Rattle.std.specs.Prelude.{Option, Some, unwrap_or}
use Rattle.outside_io.specs.declared.host.Unit as unit
use Rattle.outside_io.specs.World.{one_more, most_faults}
use Rattle.card_code.specs.declared.tally.BadCharacter.{BadCharacter}
use Rattle.card_code.specs.Readings.{Reading, first_of, counted, tally_of, with_one, with_bad, bad_in, all_bad, with_line, lines_after, AreNumbered}

-- a count that stands still at its end
next_of : (n most : ℕ) → min (min n most + 1) most ≡ min (n + 1) most
next_of n most = omega arith

pub counted_more : (n : ℕ) → one_more (counted n) ≡ counted (n + 1)
counted_more n = next_of n most_faults

-- one more bad character
first_of_more : (all : List BadCharacter) (bad : BadCharacter) → Some (unwrap_or (first_of all) bad) ≡ first_of (all ++ bad ∷ [])
first_of_more [] bad = refl
first_of_more (a ∷ more) bad = refl

with_one_of : (all : List BadCharacter) (bad : BadCharacter) → with_one bad (tally_of all) ≡ tally_of (all ++ bad ∷ [])
with_one_of all bad =
    let n : length (all ++ bad ∷ []) ≡ length all + 1 = length-append all (bad ∷ []) in
    ap (λ (f : Option BadCharacter). record { first = f; count = one_more (counted (length all)) }) (first_of_more all bad)
    ∙ ap (λ (m : ℕ). record { first = first_of (all ++ bad ∷ []); count = m }) (counted_more (length all) ∙ ap counted (sym n))

-- a tally that takes up some more is the tally of all
pub with_bad_of : (bad all : List BadCharacter) → with_bad bad (tally_of all) ≡ tally_of (all ++ bad)
unfolding with_bad
with_bad_of [] all = ap tally_of (sym (append-nil all))
with_bad_of (b ∷ bad) all = ap (with_bad bad) (with_one_of all b) ∙ with_bad_of bad (all ++ b ∷ []) ∙ ap tally_of (append_assoc all (b ∷ []) bad)

-- the bad characters of one reading more
pub all_bad_more : (readings : List Reading) (r : Reading) → all_bad (readings ++ r ∷ []) ≡ all_bad readings ++ bad_in r
all_bad_more readings r = flat_map-append bad_in readings (r ∷ []) ∙ ap (λ (bad : List BadCharacter). all_bad readings ++ bad) (append-nil (bad_in r))

-- so the tally that takes these up is that of all readings
pub tally_more : (readings : List Reading) (r : Reading) → with_bad (bad_in r) (tally_of (all_bad readings)) ≡ tally_of (all_bad (readings ++ r ∷ []))
tally_more readings r = with_bad_of (bad_in r) (all_bad readings) ∙ ap tally_of (sym (all_bad_more readings r))

-- and it stays where the reading has none
pub tally_same : (readings : List Reading) (r : Reading) → bad_in r ≡ [] → tally_of (all_bad readings) ≡ tally_of (all_bad (readings ++ r ∷ []))
unfolding with_bad
tally_same readings r none = ap (λ (bad : List BadCharacter). with_bad bad (tally_of (all_bad readings))) (sym none) ∙ tally_more readings r

-- the lines that were read are one more of its unit
pub lines_after_more : (readings : List Reading) (r : Reading) (gone : unit.Unit → ℕ) (u : unit.Unit) → lines_after (readings ++ r ∷ []) gone u ≡ with_line r.unit (lines_after readings gone) u
unfolding lines_after
lines_after_more [] r gone u = refl
lines_after_more (s ∷ more) r gone u = lines_after_more more r (with_line s.unit gone) u

-- and it is numbered where its line is the next one of its unit
pub numbered_more : (readings : List Reading) (r : Reading) (gone : unit.Unit → ℕ) → AreNumbered readings gone → r.line ≡ one_more (lines_after readings gone r.unit) → AreNumbered (readings ++ r ∷ []) gone
unfolding AreNumbered lines_after
numbered_more [] r gone are next = (next, tt)
numbered_more (s ∷ more) r gone are next = (are.0, numbered_more more r (with_line s.unit gone) are.1 next)
