-- A symbol has the value of the first statement that defines it.
use Rattle.std.proofs.Common.{◌≡◌, ℕ, ℤ, pos, ◌&&◌, true, List, [], ◌∷◌, ◌++◌, All, refl, sym, ap, ◌∙◌, Option, Some, None, is_some, bytes_eq, if◌then◌else◌}
use Rattle.std.proofs.lemmas.Slice.Eq.{bytes_eq-Decides}
use Rattle.std.proofs.lemmas.List.{append-nil}
use Rattle.std.proofs.lemmas.List.Elements.{All-head, All-tail}
use Rattle.line_words.specs.Blanks.{trimmed}
use Rattle.sps_expr.specs.Symbol.{SymbolEntry, entry_with, find, symbol_of}
use Rattle.sps_expr.proofs.Cases.{by_bool, and_parts}
use Rattle.sps_scan.specs.Statement.{statement_of}
use Rattle.sps_pass_one.specs.Layout.{PassState, PassStep, pass_step, counts, first, is_label, lines_of_source, placing, state_before_next, state_behind, statement_place, statements, statements_of, symbols_of, with_symbol}
use Rattle.sps_pass_one.specs.Laws.{DefinesSymbol, DefinesNot}
use Rattle.sps_pass_one.proofs.KnownSymbols.{found_in, or_this, find_push}

or_again : (a b c : Option (ℤ × ℕ)) → or_this (or_this a b) c ≡ or_this a (or_this b c)
unfolding or_this
or_again None b c = refl
or_again (Some s) b c = refl

or_none : (a : Option (ℤ × ℕ)) → a ≡ or_this a None
unfolding or_this
or_none None = refl
or_none (Some s) = refl

or_there : (a b : Option (ℤ × ℕ)) → is_some a ≡ true → or_this a b ≡ a
unfolding or_this
or_there None b e = absurd cc
or_there (Some s) b e = refl

-- an entry that is added only if its name is new
find_with : (name : List ℕ) (es : List SymbolEntry) (e : SymbolEntry) → find name (with_symbol es e) ≡ or_this (find name es) (found_in name e)
unfolding found_in
find_with name es e = by_bool (is_some (find e.name es))
    (λ t. rw t (by_bool (bytes_eq name e.name)
    (λ s. sym (or_there (find name es) (found_in name e) (rw ((bytes_eq-Decides name e.name).0 s) t)))
    (λ d. rw d (or_none (find name es)))))
    (λ t. rw t (find_push name es e))

abbrev label_of : PassStep → List ℕ
label_of x = trimmed x.text.label

abbrev label_entry : PassStep → SymbolEntry
label_entry x = entry_with (symbol_of x.before.head (label_of x)) (pos (placing x.before x.text).label) x.before.number

-- the value that a statement gives a symbol
given : List ℕ → PassStep → Option (ℤ × ℕ)
given name x = if counts x.before x.text && is_label (label_of x) then found_in name (label_entry x) else None

first_given : List ℕ → List PassStep → Option (ℤ × ℕ)
first_given name [] = None
first_given name (x ∷ xs) = or_this (given name x) (first_given name xs)

find_after : (name : List ℕ) (st : PassState) (line : List ℕ) → find name (state_before_next st (statement_of line)).symbols ≡ or_this (find name st.symbols) (given name (pass_step st line))
unfolding state_before_next given
find_after name st line =
    let x = pass_step st line in
    by_bool (counts st x.text && is_label (label_of x))
    (λ t. rw t (find_with name st.symbols (label_entry x)))
    (λ t. rw t (or_none (find name st.symbols)))

find_behind : (name : List ℕ) (lines : List (List ℕ)) (st : PassState) → find name (state_behind st lines).symbols ≡ or_this (find name st.symbols) (first_given name (statements st lines))
unfolding state_behind statements first_given
find_behind name [] st = or_none (find name st.symbols)
find_behind name (line ∷ lines) st = find_behind name lines (state_before_next st (statement_of line)) ∙ rw (find_after name st line) (or_again (find name st.symbols) (given name (pass_step st line)) (first_given name (statements (state_before_next st (statement_of line)) lines)))

-- a statement that defines the symbol gives it the value of its label, and no other gives it any
gives : (name : List ℕ) (x : PassStep) → DefinesSymbol name x → given name x ≡ Some ((statement_place x).label, x.before.number)
unfolding given found_in
gives name x d =
    let same : bytes_eq name (symbol_of x.before.head (label_of x)) ≡ true = (bytes_eq-Decides name (symbol_of x.before.head (label_of x))).1 (sym d.spelled) in
    rw (d.counts, d.well_formed, same) refl

gives_none : (name : List ℕ) (x : PassStep) → DefinesNot name x → given name x ≡ None
unfolding given found_in
gives_none name x n = by_bool (counts x.before x.text && is_label (label_of x))
    (λ t. let p = and_parts (counts x.before x.text) (is_label (label_of x)) t in
    by_bool (bytes_eq name (symbol_of x.before.head (label_of x)))
    (λ s. absurd (n (record { counts = p.0; well_formed = p.1; spelled = sym ((bytes_eq-Decides name (symbol_of x.before.head (label_of x))).0 s) })))
    (λ s. rw (t, s) refl))
    (λ t. rw t refl)

given_behind : (name : List ℕ) (earlier more : List PassStep) → All (DefinesNot name) earlier → first_given name (earlier ++ more) ≡ first_given name more
unfolding first_given or_this
given_behind name [] more none = refl
given_behind name (x ∷ xs) more none = rw (gives_none name x (All-head (DefinesNot name) x xs none)) (given_behind name xs more (All-tail (DefinesNot name) x xs none))

-- what the symbols of a source give is what its statements give
found_given : (source name : List ℕ) → find name (symbols_of source) ≡ first_given name (statements_of source)
unfolding find or_this
found_given source name = find_behind name (lines_of_source source) first

pub first_label : (source name : List ℕ) (earlier later : List PassStep) (x : PassStep) → statements_of source ≡ earlier ++ x ∷ later → All (DefinesNot name) earlier → DefinesSymbol name x → find name (symbols_of source) ≡ Some ((statement_place x).label, x.before.number)
unfolding first_given or_this
first_label source name earlier later x parts none d =
    found_given source name ∙ (ap (first_given name) parts ∙ (given_behind name earlier (x ∷ later) none ∙ rw (gives name x d) refl))

pub no_label : (source name : List ℕ) → All (DefinesNot name) (statements_of source) → find name (symbols_of source) ≡ None
unfolding first_given
no_label source name none =
    found_given source name ∙ (ap (first_given name) (sym (append-nil (statements_of source))) ∙ given_behind name (statements_of source) [] none)
