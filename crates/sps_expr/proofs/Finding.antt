-- Finding a name among symbols.
use Rattle.std.proofs.Common.{◌≡◌, List, [], ◌∷◌, ◌++◌, length, refl, arith}
use Rattle.sps_expr.specs.declared.symbols.Symbol.{Symbol}
use Rattle.sps_expr.specs.SymbolList.{entries_of_symbols}

pub entries-append : (xs ys : List Symbol) → entries_of_symbols (xs ++ ys) ≡ entries_of_symbols xs ++ entries_of_symbols ys
entries-append [] ys = refl
entries-append (x ∷ xs) ys = rw (entries-append xs ys)

pub length-entries : (ss : List Symbol) → length (entries_of_symbols ss) ≡ length ss
length-entries [] = refl
length-entries (s ∷ ss) = omega (arith, length-entries ss)
