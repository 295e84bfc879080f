-- What a source that breaks no rule comes to: an image, and a program.
use Rattle.std.proofs.Common.{◌≡◌, ℕ, ◌+◌, ◌≤◌, List, [], ◌∷◌, length, map, sym, ap, ◌∙◌, Option, None, option_map, arith, All}
use Rattle.std.proofs.lemmas.List.{length-map}
use Rattle.digit_core.specs.declared.Digit.{Digit}
use Rattle.sps_expr.specs.Symbol.{SymbolEntry}
use Rattle.sps_scan.specs.Statement.{statement_of}
use Rattle.sps_pass_one.specs.declared.fault.Fault.{Fault}
use Rattle.sps_pass_one.specs.declared.place.Place.{Place}
use Rattle.sps_pass_one.specs.Faults.{least}
use Rattle.sps_pass_one.specs.Laws.{AllKnown}
use Rattle.sps_pass_one.specs.Layout.{PassState, first, state_before_next, PassStep, statements, statements_of, lines_of_source, statement_place, symbols_of}
use Rattle.sps_pass_one.proofs.KnownSymbols.{known}
use Rattle.sps_pass_one.specs.Walk.{WalkText}
use Rattle.sps_pass_two.specs.Broken.{end_faults, refusal_of}
use Rattle.sps_pass_two.specs.Image.{cells_from, pieces_from}
use Rattle.sps_pass_two.specs.Kept.{IsRunBelow, IsImage, IsProgram, AreKept}
use Rattle.sps_pass_two.specs.Assembled.{PlacedText, placed_text, statement_run, fields_of, start_in}
use Rattle.sps_pass_two.proofs.GoodDigits.{outcome_good}
use Rattle.sps_pass_two.proofs.Lengths.{lies_above}
use Rattle.sps_pass_two.proofs.Refusing.{past_last}
use Rattle.sps_pass_two.proofs.Unbroken.{AllUnbroken, all_unbroken, few_statements, is_start}
use Rattle.sps_pass_two.proofs.Overlay.{image_is}
use Rattle.sps_pass_two.proofs.Apart.{are_pieces}
use Rattle.sps_pass_two.proofs.KeptPieces.{are_kept, below_of}
use Rattle.sps_pass_two.proofs.Holding.{length_cells, AllGoodRuns, good_cells, AllAbove, above_pieces}
use Rattle.sps_pass_two.proofs.Assembling.{Assembling, all_fields, all_placed, start_known, not_refused, whole_none}

good_fields : (symbols : List SymbolEntry) (positions : ℕ) (xs : List PassStep) → AllGoodRuns (map (statement_run symbols positions) xs)
good_fields symbols positions [] = tt
good_fields symbols positions (x ∷ xs) = (outcome_good x.before.head symbols (statement_place x) x.before.ended x.before.number x.text positions, good_fields symbols positions xs)

above_fields : (symbols : List SymbolEntry) (positions : ℕ) (st : PassState) (lines : List (List ℕ)) → AllKnown symbols (statements st lines) → AllUnbroken symbols positions (statements st lines) → AllAbove (map (statement_run symbols positions) (statements st lines))
unfolding statements
above_fields symbols positions st [] known unbroken = tt
above_fields symbols positions st (line ∷ lines) known unbroken = (lies_above symbols positions st line known.0 unbroken.0, above_fields symbols positions (state_before_next st (statement_of line)) lines known.1 unbroken.1)

-- the cells of a source that breaks no rule
module _ (positions : ℕ) (source : List ℕ) (good : refusal_of positions source ≡ None) (size : positions ≤ 60000) (cells : List (Option Digit)) (are : cells ≡ cells_from (fields_of positions source) 0 positions) where
  as_many : length cells ≡ positions
  as_many = ap (λ (os : List (Option Digit)). length os) are ∙ length_cells (fields_of positions source) positions 0

  kept : AreKept 0 cells (pieces_from 0 cells)
  kept = are_kept cells 0 (rw are (good_cells (fields_of positions source) positions 0 (good_fields (symbols_of source) positions (statements_of source))))

  pub within : All (IsRunBelow positions) (pieces_from 0 cells)
  within = below_of cells 0 positions (let k = as_many in omega (arith, k))

  pub is_image : IsImage (pieces_from 0 cells)
  is_image = record { each = kept.each; below = below_of cells 0 60000 (let k = as_many in omega (arith, k)); rising = kept.rising }

  pub is_program : (start : ℕ) → start ≡ start_in (symbols_of source) (statements_of source) → IsProgram (pieces_from 0 cells) start
  is_program start e =
      let s = rw (← e) at (is_start positions source good) in
      record {
        above = rw are (above_pieces (fields_of positions source) positions 0 (above_fields (symbols_of source) positions first (lines_of_source source) (known (lines_of_source source)) (all_unbroken positions source good)));
        apart = (are_pieces cells 0).apart;
        start_even = s.even;
        start_above = s.above;
        start_below = (let k = s.fits in omega (arith, k));
      }

  pub start_fits : (start : ℕ) → start ≡ start_in (symbols_of source) (statements_of source) → start + 12 ≤ positions
  start_fits start e = rw e (is_start positions source good).fits

-- what is in hand behind the last statement, where no statement was refused
pub record Finished (positions : ℕ) (source : List ℕ) (start : ℕ) (placed : List PlacedText) (cells : List (Option Digit)) : Type 0 where
  pub good : refusal_of positions source ≡ None
  pub cells_are : cells ≡ cells_from (fields_of positions source) 0 positions
  pub start_is : start ≡ start_in (symbols_of source) (statements_of source)
  pub placed_are : placed ≡ map (placed_text (symbols_of source) positions) (statements_of source)

pub finished : (positions : ℕ) (w : WalkText) (places : List Place) (source : List ℕ) (start : ℕ) (placed : List PlacedText) (cells : List (Option Digit)) → Assembling (symbols_of source) positions w places source (refusal_of positions source) start placed cells → w.lines ≡ [] → (r : Option Fault) → r ≡ least None (end_faults w.ended) → r ≡ None → Finished positions source start placed cells
finished positions w places source start placed cells g last r e_r none =
    let past = past_last (symbols_of source) positions w places source (refusal_of positions source) g.follows last r e_r in
    record {
      good = whole_none (refusal_of positions source) (ap (option_map (λ (h : Fault). (w.number, h))) (sym none) ∙ past);
      cells_are = all_fields (symbols_of source) positions w places source (refusal_of positions source) start placed cells g last ∙ image_is positions (fields_of positions source);
      start_is = start_known (symbols_of source) positions w places source (refusal_of positions source) start placed cells g last (not_refused w.ended r e_r none);
      placed_are = all_placed (symbols_of source) positions w places source (refusal_of positions source) start placed cells g last;
    }

pub few_placed : (positions : ℕ) (source : List ℕ) (start : ℕ) (placed : List PlacedText) (cells : List (Option Digit)) → Finished positions source start placed cells → length placed ≤ 20000
few_placed positions source start placed cells f =
    let n : length placed ≡ length (statements_of source) = ap (λ (ps : List PlacedText). length ps) f.placed_are ∙ length-map (statements_of source) (placed_text (symbols_of source) positions) in
    let k = few_statements positions source f.good in
    omega (arith, n, k)
