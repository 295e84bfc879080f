-- Reading a part from the left: the result so far, and the value of the whole part from there.
use Rattle.std.specs.Prelude.{ℕ, ◌≤◌, ◌≡◌, ℤ, ◌+ℤ◌, ◌*ℤ◌, Bool, true, false, ◌||◌, List, [], ◌∷◌, length, take, min, Option, Some, None, IfSome, option_map, Result, nat_lt, ⊤, if◌then◌else◌, ◌==◌}
use Rattle.std.specs.List.{list_all}
use Rattle.std.specs.Borrow.{Bor}
use Rattle.std.specs.Char.{is_ascii_digit}
use Rattle.sps_scan.specs.Numbers.{decimal_number}
use Rattle.sps_ops.specs.declared.rule.Rule.{Rule}
use Rattle.sps_expr.specs.declared.expression.FactorResult.{FactorResult}
use Rattle.sps_expr.specs.declared.expression.PartialResult.{PartialResult}
use Rattle.sps_expr.specs.declared.word.Word.{Word}
use Rattle.sps_expr.specs.Grammar.{Factor, Here, Numeral, Name, Headed}
use Rattle.sps_expr.specs.Reading.{Token, tokens, factor_of, is_run_byte, word_factor, unsigned_expr, without_blanks}
use Rattle.sps_expr.specs.Symbol.{find, with_head, symbol_of}
use Rattle.sps_expr.specs.Value.{Scope, ◌>>=◌, number_in_range, factor_value, is_undefined, comes_late, signed_value, value_answer, tree_outcome}

-- the result of a factor
abbrev pub factor_result : Scope → Factor → FactorResult
factor_result scope f = record {
  undefined = is_undefined scope f;
  late = comes_late scope f;
  value = factor_value scope f;
}

-- a product if both factors exist and it is in range, else None
abbrev pub times : Option ℤ → Option ℤ → Option ℤ
times a b = do
  x ← a
  y ← b
  number_in_range (x *ℤ y)

-- a sum if both terms exist and it is in range, else None; a minus subtracts the second term
abbrev pub plus : Option ℤ → Bool → Option ℤ → Option ℤ
plus a minus b = do
  x ← a
  y ← b
  number_in_range (x +ℤ signed_value minus y)

-- the result with one more factor in the product
abbrev pub times_factor : FactorResult → PartialResult → PartialResult
times_factor f p = record {
  undefined = p.undefined || f.undefined;
  late = p.late || f.late;
  sum = p.sum;
  minus = p.minus;
  product = times p.product f.value;
}

-- the result with a new term: the product goes into the sum, and the factor begins a new product
abbrev pub next_term : Bool → FactorResult → PartialResult → PartialResult
next_term minus f p = record {
  undefined = p.undefined || f.undefined;
  late = p.late || f.late;
  sum = plus p.sum p.minus p.product;
  minus = minus;
  product = f.value;
}

-- the result after one more factor and the operator before it
abbrev pub with_factor : ℕ → FactorResult → PartialResult → PartialResult
with_factor b f p = if b == 42 then times_factor f p else next_term (b == 45) f p

-- `*`, `+` or `-`
abbrev pub is_operator : ℕ → Bool
is_operator b = (b == 42) || ((b == 43) || (b == 45))

-- the value if no factor follows, or the least rule
abbrev pub answer_so_far : PartialResult → Result ℤ Rule
answer_so_far p = value_answer p.undefined p.late (plus p.sum p.minus p.product)

-- the old text is a factor followed by the rest, and this is the result of the factor
pub record TakesFactor (scope : Scope) (old rest : List ℕ) (f : FactorResult) : Type 0 where
  pub token : Token
  pub factor : Factor
  pub front : tokens (without_blanks old) ≡ token ∷ tokens (without_blanks rest)
  pub good : factor_of token ≡ Some factor
  pub comes_to : f ≡ factor_result scope factor
  pub shorter : length rest ≤ length old

-- the first token as a factor
abbrev pub first_factor : List Token → Option Factor
first_factor [] = None
first_factor (t ∷ ts) = factor_of t

-- the run of letters, digits and `$` at the front
abbrev pub run : List ℕ → List ℕ
run [] = []
run (b ∷ bs) = if is_run_byte b then b ∷ run bs else []

-- the text after that run
abbrev pub past_run : List ℕ → List ℕ
past_run [] = []
past_run (b ∷ bs) = if is_run_byte b then past_run bs else b ∷ bs

-- a word holds this run: its number up to 10,000,000,000, its first seven characters, and whether it has more
pub record IsWord (word : Word) (text : List ℕ) : Type 0 where
  pub all_digits : word.all_digits ≡ list_all is_ascii_digit text
  pub number_is : word.number ≡ min (decimal_number text) 10000000000
  pub text_is : word.text.items ≡ take 7 text
  pub long_is : word.long ≡ nat_lt 7 (length text)

-- the symbol to which a name refers
abbrev pub symbol_in : Option ℕ → Factor → List ℕ
symbol_in head Here = []
symbol_in head (Numeral digits) = []
symbol_in head (Name name) = symbol_of head name
symbol_in head (Headed own name) = with_head own name

-- the entry of a name's symbol; the outer None is for no name
abbrev pub symbol_at : Scope → Option Factor → Option (Option (ℤ × ℕ))
symbol_at scope None = None
symbol_at scope (Some f) = Some (find (symbol_in scope.head f) scope.symbols)

-- the result of a run as a factor, or None if it is not a factor
abbrev pub IsWordResult : Scope → Word → Option FactorResult → Type 0
IsWordResult scope word result = (text : List ℕ) → IsWord word text → result ≡ option_map (factor_result scope) (word_factor text)

-- if a factor was taken, it is at the front of the text, and the rest follows it
abbrev pub TakesWhatIsFound : Scope → List ℕ → Option (FactorResult × Bor (List ℕ)) → Type 0
TakesWhatIsFound scope text result = IfSome result (λ found. TakesFactor scope text found.1.now found.0)

-- the text does not begin with a sign
abbrev pub IsUnsigned : List ℕ → Type 0
IsUnsigned [] = ⊤
IsUnsigned (b ∷ bs) = ((b == 43) || (b == 45)) ≡ false

-- whether the text begins with a minus, and the text after its leading sign, or the text itself if it has no sign
pub data LeadingSign (old : List ℕ) : Bool → List ℕ → Type 0 where
  plus_sign : {rest : List ℕ} → without_blanks old ≡ 43 ∷ without_blanks rest → LeadingSign old false rest
  minus_sign : {rest : List ℕ} → without_blanks old ≡ 45 ∷ without_blanks rest → LeadingSign old true rest
  no_sign : {rest : List ℕ} → without_blanks old ≡ without_blanks rest → IsUnsigned (without_blanks old)
      → LeadingSign old false rest

-- a sign as a tree has it; no sign for a plus
abbrev pub sign_of : Bool → Option Bool
sign_of minus = if minus then Some true else None

-- the value of an expression without its leading sign, or the least rule that it breaks; `minus` is the sign
abbrev pub outcome_behind_sign : Scope → Bool → List ℕ → Result ℤ Rule
outcome_behind_sign scope minus text = tree_outcome scope (unsigned_expr (sign_of minus) (tokens (without_blanks text)))
