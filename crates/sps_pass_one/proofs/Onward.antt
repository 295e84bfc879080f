-- One statement after another: their places and their symbols.
use Rattle.std.proofs.Common.{◌≡◌, ℕ, ℤ, pos, Bool, Option, List, [], ◌∷◌, ◌++◌, map, refl, sym, ◌∙◌, append_assoc}
use Rattle.std.proofs.lemmas.List.{append-nil}
use Rattle.sps_scan.specs.Statement.{StatementText, statement_of}
use Rattle.line_words.specs.Blanks.{trimmed}
use Rattle.sps_expr.specs.Symbol.{SymbolEntry}
use Rattle.sps_pass_one.specs.declared.place.Place.{Place}
use Rattle.sps_pass_one.specs.declared.place.Placing.{Placing}
use Rattle.sps_pass_one.specs.Layout.{PassState, state_before_next, counts_if, placing_if, placing, symbols_if, pass_step, statements, state_behind, statement_place, place_by_placing, statement_places, symbols_of}
use Rattle.sps_pass_one.specs.Walk.{WalkText, walk_of}
use Rattle.sps_pass_one.proofs.Walking.{Passes}

-- a state by what a walk has
abbrev pub state : WalkText → ℕ → List SymbolEntry → PassState
state w at symbols = record { number = w.number; at = at; head = w.head; symbols = symbols; ended = w.ended }

-- the places so far, and those of the lines that are left; the symbols behind all
pub record Onward (done : List Place) (st : PassState) (lines : List (List ℕ)) (source : List ℕ) : Type 0 where
  pub places : done ++ map statement_place (statements st lines) ≡ statement_places source
  pub symbols : (state_behind st lines).symbols ≡ symbols_of source

pub ended : (done : List Place) (st : PassState) (lines : List (List ℕ)) (source : List ℕ) → lines ≡ [] → Onward done st lines source → (done ≡ statement_places source) × (st.symbols ≡ symbols_of source)
unfolding statements state_behind
ended done st lines source none o = (sym (append-nil done) ∙ rw none at o.places, rw none at o.symbols)

walk_on : (done : List Place) (st : PassState) (line : List ℕ) (lines left : List (List ℕ)) (source : List ℕ) → lines ≡ line ∷ left → Onward done st lines source → Onward (done ++ statement_place (pass_step st line) ∷ []) (state_before_next st (statement_of line)) left source
unfolding statements state_behind state_before_next
walk_on done st line lines left source e o =
    let p = rw e at o.places in
    let q = rw e at o.symbols in
    record { places = rw append_assoc p; symbols = q }

pub turned : (done new_done : List Place) (w v : WalkText) (at number : ℕ) (head : Option ℕ) (active : Bool) (symbols new_symbols : List SymbolEntry) (line source : List ℕ) (s : StatementText) (p : Placing) →
    s ≡ statement_of line → number ≡ w.number → head ≡ w.head → active ≡ counts_if w.ended s.shape → Passes w line v →
    p ≡ placing_if active head symbols at s → new_symbols ≡ symbols_if active head symbols (trimmed s.label) p.label number →
    new_done ≡ done ++ place_by_placing at p ∷ [] →
    Onward done (state w at symbols) w.lines source →
    Onward new_done (state v p.next new_symbols) v.lines source
unfolding state_before_next placing
turned done new_done w v at number head active symbols new_symbols line source s p e_s e_number e_head e_active passes e_p e_symbols e_done o =
    rw (e_done, e_symbols, e_p, e_active, e_head, e_number, e_s, passes.behind) (walk_on done (state w at symbols) line w.lines v.lines source passes.front o)

pub begins : (source : List ℕ) → Onward [] (state (walk_of source) 402 []) (walk_of source).lines source
begins source = record { places = refl; symbols = refl }

-- a place whose numbers are given as integers
pub place_more : (done : List Place) (at : ℕ) (p : Placing) (location label : ℤ) → location ≡ pos at → label ≡ pos p.label → done ++ record { location = location; label = label; digits = p.digits } ∷ [] ≡ done ++ place_by_placing at p ∷ []
place_more done at p location label e_location e_label = rw (e_location, e_label) refl
