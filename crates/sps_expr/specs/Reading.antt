-- The tree of a text, as a function of the text.
use Rattle.std.specs.Prelude.{ℕ, Bool, true, false, not, List, [], ◌∷◌, length, Option, Some, None, nat_le, if◌then◌else◌, filter, ◌==◌, ◌&&◌, ◌||◌}
use Rattle.std.specs.List.{list_all}
use Rattle.std.specs.Char.{is_ascii_digit}
use Rattle.sps_expr.specs.Grammar.{Factor, Here, Numeral, Name, Headed, Signed, Expr, is_letter_or_digit, is_name}

-- a letter, a digit or a `$`
abbrev pub is_run_byte : ℕ → Bool
is_run_byte b = is_letter_or_digit b || (b == 36)

-- a run of letters, digits and `$`, or any other byte
pub data Token : Type 0 where
  Word : (word : List ℕ) → Token
  Mark : (byte : ℕ) → Token

-- tokens with a letter, a digit or a `$` before them: it joins a word at their front, or is a new word
abbrev pub onto_token : ℕ → List Token → List Token
onto_token b [] = Word (b ∷ []) ∷ []
onto_token b (Word word ∷ ts) = Word (b ∷ word) ∷ ts
onto_token b (Mark c ∷ ts) = Word (b ∷ []) ∷ Mark c ∷ ts

-- the tokens of a text
unfoldable pub tokens : List ℕ → List Token
tokens [] = []
tokens (b ∷ bs) = if is_run_byte b then onto_token b (tokens bs) else Mark b ∷ tokens bs

-- a name after a `$` as a factor, or None if it is not a name or too long
abbrev pub behind_dollar : Option ℕ → List ℕ → Option Factor
behind_dollar head name = if is_name name && nat_le (length name) 5 then Some (Headed head name) else None

-- a name without a `$` as a factor, or None if it is not a name or too long
abbrev pub plain_name : List ℕ → Option Factor
plain_name name = if is_name name && nat_le (length name) 6 then Some (Name name) else None

-- a run whose first character is not a `$`: a `$` may follow it
abbrev pub behind_first : ℕ → List ℕ → Option Factor
behind_first b [] = plain_name (b ∷ [])
behind_first b (c ∷ cs) = if c == 36 then behind_dollar (Some b) cs else plain_name (b ∷ c ∷ cs)

-- a run that is not a number: a `$` may be its first or its second character
unfoldable pub name_factor : List ℕ → Option Factor
name_factor [] = None
name_factor (b ∷ bs) = if b == 36 then behind_dollar None bs else behind_first b bs

-- a run as a factor: a number, or a name that is not too long
abbrev pub word_factor : List ℕ → Option Factor
word_factor word = if list_all is_ascii_digit word then Some (Numeral word) else name_factor word

-- a token as a factor
abbrev pub factor_of : Token → Option Factor
factor_of (Word word) = word_factor word
factor_of (Mark b) = if b == 42 then Some Here else None

-- the tail of a factor: more factors of its term, and then more terms
pub record Tail : Type 0 where
  pub factors : List Factor
  pub terms : List Signed

-- a tail with a factor of the same term before it
abbrev pub same_term : Factor → Tail → Tail
same_term f tail = record { factors = f ∷ tail.factors; terms = tail.terms }

-- a tail with a sign and the first factor of a new term before it
abbrev pub new_term : Bool → Factor → Tail → Tail
new_term minus f tail = record {
  factors = [];
  terms = record { minus = minus; term = record { first = f; more = tail.factors } } ∷ tail.terms;
}

-- a tail with an operator and a factor before it
abbrev pub with_mark : ℕ → Factor → Tail → Option Tail
with_mark b f tail =
    if b == 42 then Some (same_term f tail)
    else if b == 43 then Some (new_term false f tail)
    else if b == 45 then Some (new_term true f tail)
    else None

-- a tail with an operator and a factor before it, if both factor and tail exist
abbrev pub tail_with : ℕ → Option Factor → Option Tail → Option Tail
tail_with b None tail = None
tail_with b (Some f) None = None
tail_with b (Some f) (Some tail) = with_mark b f tail

-- tokens as a tail, or None if they are not a tail
unfoldable pub tail_of : List Token → Option Tail
tail_of [] = Some (record { factors = []; terms = [] })
tail_of (Word word ∷ ts) = None
tail_of (Mark b ∷ []) = None
tail_of (Mark b ∷ t ∷ ts) = tail_with b (factor_of t) (tail_of ts)

-- the tree of a sign, a factor and its tail
abbrev pub with_sign : Option Bool → Factor → Tail → Expr
with_sign sign f tail = record { sign = sign; first = record { first = f; more = tail.factors }; more = tail.terms }

-- the tree of a sign, a factor and its tail, if both factor and tail exist
abbrev pub expr_with : Option Bool → Option Factor → Option Tail → Option Expr
expr_with sign None tail = None
expr_with sign (Some f) None = None
expr_with sign (Some f) (Some tail) = Some (with_sign sign f tail)

-- the tree of a sign and the tokens after it
abbrev pub unsigned_expr : Option Bool → List Token → Option Expr
unsigned_expr sign [] = None
unsigned_expr sign (t ∷ ts) = expr_with sign (factor_of t) (tail_of ts)

-- the tree of tokens
abbrev pub expr_of : List Token → Option Expr
expr_of [] = None
expr_of (Word word ∷ ts) = unsigned_expr None (Word word ∷ ts)
expr_of (Mark b ∷ ts) =
    if b == 43 then unsigned_expr (Some false) ts
    else if b == 45 then unsigned_expr (Some true) ts
    else unsigned_expr None (Mark b ∷ ts)

-- the tree of a text without blanks
unfoldable pub reading : List ℕ → Option Expr
reading text = expr_of (tokens text)

-- a part without its blanks
abbrev pub without_blanks : List ℕ → List ℕ
without_blanks part = filter (λ b. not (b == 32)) part
