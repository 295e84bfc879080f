-- The value of an expression, or the least rule that it breaks.
-- Source: SPS manual, address adjustment; the bound, and which rule is the least, are this project's own.
use Rattle.std.specs.Prelude.{◌≡◌, ℕ, ℤ, pos, negsuc, ◌+ℤ◌, ◌*ℤ◌, neg_ℤ, int_le, Bool, false, ◌&&◌, ◌||◌, List, [], ◌∷◌, Option, Some, None, Result, Ok, Err, nat_le, if◌then◌else◌, is_none}
use Rattle.std.specs.List.{list_any}
use Rattle.sps_scan.specs.Numbers.{decimal_number}
use Rattle.sps_ops.specs.declared.rule.Rule.{Rule}
use Rattle.sps_ops.specs.declared.rule.Rule.TheVariants.{BadExpression, UndefinedSymbol, LateSymbol, ValueTooLarge}
use Rattle.sps_expr.specs.Grammar.{Factor, Here, Numeral, Name, Headed, Term, Signed, Expr, IsReading}
use Rattle.sps_expr.specs.Reading.{reading, without_blanks}
use Rattle.sps_expr.specs.Symbol.{SymbolEntry, find, with_head, symbol_of}
use Rattle.sps_expr.specs.declared.scope.Scope.{Scope as GivenScope}

-- the meaning of names and of `*`, and the statement before which names must have been defined
pub record Scope : Type 0 where
  pub head : Option ℕ
  pub symbols : List SymbolEntry
  pub here : ℤ
  pub before : Option ℕ

-- a scope in one line
abbrev pub scope_of : Option ℕ → List SymbolEntry → ℤ → Option ℕ → Scope
scope_of head symbols here before = record { head = head; symbols = symbols; here = here; before = before }

-- a scope of the program
abbrev pub scope_now : GivenScope → Scope
scope_now scope = scope_of scope.head scope.symbols.now scope.here scope.before

infixl 10 ◌>>=◌
-- the next step, if no value was too large
abbrev pub ◌>>=◌ : {A B : Type 0} → Option A → (A → Option B) → Option B
(Some x) >>= f = f x
None >>= f = None

-- at most 9,999,999,999 in magnitude
abbrev pub in_range : ℤ → Bool
in_range v = int_le (negsuc 9999999998) v && int_le v (pos 9999999999)

-- the number if it is in range, else None
abbrev pub number_in_range : ℤ → Option ℤ
number_in_range v = if in_range v then Some v else None

-- the value of the entry that was found, or 0 without an entry
abbrev pub symbol_value : Option (ℤ × ℕ) → ℤ
symbol_value None = pos 0
symbol_value (Some s) = s.0

-- a symbol of this statement is late: the statement does not come before the statement `before`
abbrev pub is_late : Option ℕ → ℕ → Bool
is_late None statement = false
is_late (Some before) statement = nat_le before statement

-- the entry that was found is late
abbrev pub is_found_late : Option ℕ → Option (ℤ × ℕ) → Bool
is_found_late before None = false
is_found_late before (Some s) = is_late before s.1

-- the factor is a name that is not defined
abbrev pub is_undefined : Scope → Factor → Bool
is_undefined scope (Name name) = is_none (find (symbol_of scope.head name) scope.symbols)
is_undefined scope (Headed head name) = is_none (find (with_head head name) scope.symbols)
is_undefined scope f = false

-- the factor is a name that is defined too late
abbrev pub comes_late : Scope → Factor → Bool
comes_late scope (Name name) = is_found_late scope.before (find (symbol_of scope.head name) scope.symbols)
comes_late scope (Headed head name) = is_found_late scope.before (find (with_head head name) scope.symbols)
comes_late scope f = false

-- the value of a factor
abbrev pub factor_value : Scope → Factor → Option ℤ
factor_value scope Here = number_in_range scope.here
factor_value scope (Numeral digits) = number_in_range (pos (decimal_number digits))
factor_value scope (Name name) = number_in_range (symbol_value (find (symbol_of scope.head name) scope.symbols))
factor_value scope (Headed head name) = number_in_range (symbol_value (find (with_head head name) scope.symbols))

-- a number times factors, each product from the left
unfoldable pub product : Scope → ℤ → List Factor → Option ℤ
product scope so_far [] = Some so_far
product scope so_far (f ∷ fs) = do
  v ← factor_value scope f
  next ← number_in_range (so_far *ℤ v)
  product scope next fs

-- the value of a term
unfoldable pub term_value : Scope → Term → Option ℤ
term_value scope t = do
  v ← factor_value scope t.first
  product scope v t.more

-- a number with its sign
abbrev pub signed_value : Bool → ℤ → ℤ
signed_value minus v = if minus then neg_ℤ v else v

-- a number and terms, each sum from the left
unfoldable pub total : Scope → ℤ → List Signed → Option ℤ
total scope so_far [] = Some so_far
total scope so_far (s ∷ ss) = do
  v ← term_value scope s.term
  next ← number_in_range (so_far +ℤ signed_value s.minus v)
  total scope next ss

-- the sign at the front is a minus
abbrev pub is_minus : Option Bool → Bool
is_minus None = false
is_minus (Some minus) = minus

-- the value of an expression: its first term has its sign, and is added to 0
abbrev pub expr_value : Scope → Expr → Option ℤ
expr_value scope e = total scope (pos 0) (record { minus = is_minus e.sign; term = e.first } ∷ e.more)

-- some factor of the term passes the test
abbrev pub any_in_term : (Factor → Bool) → Term → Bool
any_in_term test t = test t.first || list_any test t.more

-- some factor of the expression passes the test
abbrev pub any_factor : (Factor → Bool) → Expr → Bool
any_factor test e = any_in_term test e.first || list_any (λ s. any_in_term test s.term) e.more

-- the value, or rule 10 if it is too large
abbrev pub or_too_large : Option ℤ → Result ℤ Rule
or_too_large None = Err ValueTooLarge
or_too_large (Some v) = Ok v

-- an undefined name counts before a late name, and both before a value that is too large
abbrev pub value_answer : Bool → Bool → Option ℤ → Result ℤ Rule
value_answer undefined late v = if undefined then Err UndefinedSymbol else if late then Err LateSymbol else or_too_large v

-- the value of an expression, or the least rule that it breaks
abbrev pub outcome : Scope → Expr → Result ℤ Rule
outcome scope e = value_answer (any_factor (is_undefined scope) e) (any_factor (comes_late scope) e) (expr_value scope e)

-- the outcome of a tree, or rule 7 if there is no tree
abbrev pub tree_outcome : Scope → Option Expr → Result ℤ Rule
tree_outcome scope None = Err BadExpression
tree_outcome scope (Some e) = outcome scope e

-- the result is the outcome of each tree whose text is the part
abbrev pub IsOutcomeOf : Scope → List ℕ → Result ℤ Rule → Type 0
IsOutcomeOf scope part result = (e : Expr) → IsReading (without_blanks part) e → result ≡ outcome scope e

-- the value of a part, or the least rule that it breaks
unfoldable pub value_of : Scope → List ℕ → Result ℤ Rule
value_of scope part = tree_outcome scope (reading (without_blanks part))
