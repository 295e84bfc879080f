-- Expressions: their trees, which trees are expressions, and their texts.
-- Source: SPS manual, address adjustment and HEAD; the grammar is this project's own.
use Rattle.std.specs.Prelude.{ℕ, ◌≡◌, Bool, true, false, not, ◌&&◌, ◌||◌, List, [], ◌∷◌, ◌++◌, length, Option, Some, None, nat_le, if◌then◌else◌}
use Rattle.std.specs.List.{list_all}
use Rattle.std.specs.Char.{is_ascii_digit}

-- the location, a number in its digits, a name, or a name after a `$` with or without a head before the `$`
pub data Factor : Type 0 where
  Here : Factor
  Numeral : (digits : List ℕ) → Factor
  Name : (name : List ℕ) → Factor
  Headed : (head : Option ℕ) (name : List ℕ) → Factor

-- factor { * factor }
pub record Term : Type 0 where
  pub first : Factor
  pub more : List Factor

-- (+ or -) term
pub record Signed : Type 0 where
  pub minus : Bool
  pub term : Term

-- [+ or -] term { (+ or -) term }
pub record Expr : Type 0 where
  pub sign : Option Bool
  pub first : Term
  pub more : List Signed

-- `A` to `Z`
abbrev pub is_letter : ℕ → Bool
is_letter b = nat_le 65 b && nat_le b 90

-- a letter or a digit
abbrev pub is_letter_or_digit : ℕ → Bool
is_letter_or_digit b = is_ascii_digit b || is_letter b

-- the list has no element
abbrev pub is_nothing : {A : Type 0} → List A → Bool
is_nothing [] = true
is_nothing (x ∷ xs) = false

-- letters and digits, one at least
abbrev pub is_word : List ℕ → Bool
is_word word = not (is_nothing word) && list_all is_letter_or_digit word

-- a word that is not a number
abbrev pub is_name : List ℕ → Bool
is_name word = is_word word && not (list_all is_ascii_digit word)

-- a head is one letter or digit
abbrev pub is_head_char : Option ℕ → Bool
is_head_char None = true
is_head_char (Some h) = is_letter_or_digit h

-- a number is a word of digits; a name is any other word, of at most six characters, or of at most five after a `$`
abbrev pub is_factor : Factor → Bool
is_factor Here = true
is_factor (Numeral digits) = is_word digits && list_all is_ascii_digit digits
is_factor (Name name) = is_name name && nat_le (length name) 6
is_factor (Headed head name) = is_head_char head && (is_name name && nat_le (length name) 5)

-- all factors of the term are factors
abbrev pub is_term : Term → Bool
is_term t = is_factor t.first && list_all is_factor t.more

-- all terms of the tree are terms
abbrev pub is_expr : Expr → Bool
is_expr e = is_term e.first && list_all (λ s. is_term s.term) e.more

-- a name after a `$`, with or without a head before the `$`
abbrev pub headed_text : Option ℕ → List ℕ → List ℕ
headed_text None name = 36 ∷ name
headed_text (Some h) name = h ∷ 36 ∷ name

-- the text of a factor; the location is `*`
abbrev pub factor_text : Factor → List ℕ
factor_text Here = 42 ∷ []
factor_text (Numeral digits) = digits
factor_text (Name name) = name
factor_text (Headed head name) = headed_text head name

-- the text of factors, each with a `*` before it
abbrev pub factors_text : List Factor → List ℕ
factors_text [] = []
factors_text (f ∷ fs) = 42 ∷ (factor_text f ++ factors_text fs)

-- the text of a term
abbrev pub term_text : Term → List ℕ
term_text t = factor_text t.first ++ factors_text t.more

-- `-` or `+`
abbrev pub sign_byte : Bool → ℕ
sign_byte minus = if minus then 45 else 43

-- the text of terms, each with its sign before it
abbrev pub terms_text : List Signed → List ℕ
terms_text [] = []
terms_text (s ∷ ss) = sign_byte s.minus ∷ (term_text s.term ++ terms_text ss)

-- the text of the leading sign, or nothing without a sign
abbrev pub sign_text : Option Bool → List ℕ
sign_text None = []
sign_text (Some minus) = sign_byte minus ∷ []

-- the text of an expression
abbrev pub expr_text : Expr → List ℕ
expr_text e = sign_text e.sign ++ (term_text e.first ++ terms_text e.more)

-- the tree is an expression, and this is its text
pub record IsReading (text : List ℕ) (e : Expr) : Type 0 where
  pub good : is_expr e ≡ true
  pub spelled : expr_text e ≡ text

-- no expression has this text
abbrev pub HasNoReading : List ℕ → Type 0
HasNoReading text = (e : Expr) → ¬ IsReading text e
