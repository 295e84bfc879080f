-- The value of a part if only the symbols of earlier statements are known.
use Rattle.std.specs.Prelude.{ℕ, ℤ, ◌≡◌, List, Option, Some, None, Result, Err, nat_lt, if◌then◌else◌}
use Rattle.sps_ops.specs.declared.rule.Rule.{Rule}
use Rattle.sps_ops.specs.declared.rule.Rule.TheVariants.{LateSymbol, UndefinedSymbol}
use Rattle.sps_expr.specs.Symbol.{SymbolEntry, find}

-- the entry that was found if an earlier statement defines it, else None
abbrev pub if_earlier : ℕ → Option (ℤ × ℕ) → Option (ℤ × ℕ)
if_earlier before None = None
if_earlier before (Some s) = if nat_lt s.1 before then Some s else None

-- `earlier` has the symbols of `all` that statements before the statement `before` define
abbrev pub AreEarlier : List SymbolEntry → List SymbolEntry → ℕ → Type 0
AreEarlier earlier all before = (name : List ℕ) → find name earlier ≡ if_earlier before (find name all)

-- the outcome, with a late symbol as an undefined symbol
abbrev pub undefined_for_late : Result ℤ Rule → Result ℤ Rule
undefined_for_late (Err LateSymbol) = Err UndefinedSymbol
undefined_for_late r = r
