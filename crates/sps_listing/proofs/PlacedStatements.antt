-- Placed statements, one after another.
use Rattle.std.proofs.Common.{◌≡◌, ℕ, ◌+◌, ◌<◌, ◌≤◌, Bool, true, false, List, [], ◌∷◌, ◌++◌, length, map, drop, refl, ap}
use Rattle.std.proofs.lemmas.List.{drop_all, drop_more}
use Rattle.std.specs.Prelude.{slice_index_or, if◌then◌else◌, Option, Some, None}
use Rattle.sps_pass_two.specs.declared.assembled.Placed.{Placed}
use Rattle.sps_pass_two.specs.Making.{text_of_placed}
use Rattle.sps_scan.specs.declared.statement.Shape.{Shape}
use Rattle.line_words.specs.Blanks.{without_back}
use Rattle.sps_scan.specs.Statement.{statement_of}
use Rattle.sps_pass_two.specs.Assembled.{PlacedText}
use Rattle.outside_io.specs.Lines.{with_line_feed}
use Rattle.sps_pass_one.specs.declared.walk.SourceLine.{SourceLine}
use Rattle.sps_pass_one.specs.Layout.{lines_of_source}
use Rattle.sps_pass_one.specs.Walk.{WalkText, ComesToLine}
use Rattle.sps_listing.specs.Listing.{listed_columns, listing_line, listing_lines, listing_text, stands_at, later_of, last_statement_at}

-- a statement that was found, or one that was found before it
abbrev pub or_before : Option ℕ → Option ℕ → Option ℕ
or_before None before = before
or_before (Some n) before = Some n

later_than : (rest : Option ℕ) (here : Bool) (number : ℕ) (before : Option ℕ) → or_before (later_of rest here number) before ≡ or_before rest (if here then Some number else before)
later_than None true number before = refl
later_than None false number before = refl
later_than (Some n) here number before = refl

-- the next statement is looked at
pub one_found : (ps : List Placed) (i : ℕ) (p : Placed) (number address : ℕ) (before : Option ℕ) → i < length ps → p ≡ slice_index_or ps i p
    → or_before (last_statement_at number address (map text_of_placed (drop i ps))) before ≡ or_before (last_statement_at (number + 1) address (map text_of_placed (drop (i + 1) ps))) (if stands_at address (text_of_placed p) then Some number else before)
unfolding last_statement_at
one_found ps i p number address before h e =
    rw (drop_more ps i p h, ← e) (later_than (last_statement_at (number + 1) address (map text_of_placed (drop (i + 1) ps))) (stands_at address (text_of_placed p)) number before)

-- none is left
pub none_left : (ps : List Placed) (i : ℕ) (number address : ℕ) (before : Option ℕ) → length ps ≤ i → or_before (last_statement_at number address (map text_of_placed (drop i ps))) before ≡ before
unfolding last_statement_at
none_left ps i number address before h = rw (drop_all i ps h) refl

-- the listing of the lines that are left, beside the statements that are left
abbrev pub listing_left : ℕ → List (List ℕ) → List Placed → ℕ → List ℕ
listing_left number lines ps i = listing_lines number lines (map text_of_placed (drop i ps))

-- the next line is listed
pub one_listed : (ps : List Placed) (i : ℕ) (p : Placed) (number : ℕ) (line : List ℕ) (lines left : List (List ℕ)) → i < length ps → p ≡ slice_index_or ps i p → lines ≡ line ∷ left
    → listing_left number lines ps i ≡ listing_line number line (text_of_placed p) ++ listing_left (number + 1) left ps (i + 1)
unfolding listing_lines
one_listed ps i p number line lines left h e e_lines = rw (e_lines, drop_more ps i p h, ← e) refl

-- the same, where a walk comes to the line
pub next_listed : (ps : List Placed) (i : ℕ) (p : Placed) (w v : WalkText) (x : SourceLine) → i < length ps → p ≡ slice_index_or ps i p → ComesToLine w x v
    → listing_left w.number w.lines ps i ≡ listing_line x.number x.text.now (text_of_placed p) ++ listing_left v.number v.lines ps (i + 1)
next_listed ps i p w v x h e t =
    let number : v.number ≡ w.number + 1 = ap (λ (m : WalkText). m.number) t.further in
    rw (number, t.number) (one_listed ps i p w.number x.text.now w.lines v.lines h e t.line)

-- no line is left
pub no_line_left : (ps : List Placed) (i number : ℕ) (lines : List (List ℕ)) → lines ≡ [] → listing_left number lines ps i ≡ []
unfolding listing_lines
no_line_left ps i number lines e = rw e refl

nothing_listed : (number : ℕ) (lines : List (List ℕ)) → listing_lines number lines [] ≡ []
unfolding listing_lines
nothing_listed number [] = refl
nothing_listed number (line ∷ lines) = refl

-- no statement is left
pub no_statement_left : (ps : List Placed) (i number : ℕ) (lines : List (List ℕ)) → length ps ≤ i → listing_left number lines ps i ≡ []
no_statement_left ps i number lines h = rw (drop_all i ps h) (nothing_listed number lines)

-- all lines and all statements are left
pub all_left : (source : List ℕ) (ps qs : List Placed) → ps ≡ qs → listing_left 1 (lines_of_source source) ps 0 ≡ listing_text source (map text_of_placed qs)
all_left source ps qs e = ap (λ (all : List Placed). listing_text source (map text_of_placed all)) e

-- the columns and the text behind them are the line of a statement
pub line_is : (number : ℕ) (line : List ℕ) (p : PlacedText) (shape : Shape) (columns text : List ℕ) → columns ≡ listed_columns number shape p → shape ≡ (statement_of line).shape → text ≡ without_back line
    → columns ++ with_line_feed text ≡ listing_line number line p
line_is number line p shape columns text e_columns e_shape e_text = rw (e_columns, e_shape, e_text) refl
