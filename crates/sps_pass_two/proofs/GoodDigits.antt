-- All digits that a statement comes to are good.
use Rattle.std.proofs.Common.{◌≡◌, ℕ, zero, suc, ◌-◌, ◌≤◌, ◌==◌, ◌&&◌, Bool, true, false, not, List, [], ◌∷◌, ◌++◌, length, map, replicate, refl, arith, Option, Some, None, option_map}
use Rattle.std.specs.Prelude.{ℤ, pos, nat_abs, nat_lt, ◌/◌, ◌%◌, ◌^◌, unwrap_or, ⊤}
use Rattle.std.specs.List.{list_all, All}
use Rattle.std.proofs.lemmas.Bool.Decides.{nat_tests}
use Rattle.std.proofs.lemmas.List.Elements.{All-nil, All-cons}
use Rattle.digit_core.specs.declared.Digit.{Digit}
use Rattle.digit_core.specs.Cell.{unflagged_digit, is_cell_value, IsGood}
use Rattle.digit_core.specs.declared.TheConstants.{NUMERICAL_BLANK}
use Rattle.card_code.specs.Pairs.{Pair, PairEntry, pair_in, pair_table, alpha_of, digits}
use Rattle.sps_ops.specs.declared.operation.Operation.{Operation}
use Rattle.sps_ops.specs.declared.operation.Operation.TheVariants.{Instruction, Declare}
use Rattle.sps_ops.specs.declared.operation.Declarative.{Declarative}
use Rattle.sps_ops.specs.declared.operation.Declarative.TheVariants.{Ds, Dss, Das, Dc, Dsc, Dac, Dsa, Dsb, Dnb, Dgm, Dda, Dorg, Dend, Head}
use Rattle.sps_scan.specs.Statement.{StatementText}
use Rattle.sps_expr.specs.Grammar.{is_nothing}
use Rattle.sps_expr.specs.Reading.{without_blanks}
use Rattle.sps_expr.specs.Symbol.{SymbolEntry}
use Rattle.sps_expr.specs.Value.{Scope, scope_of}
use Rattle.sps_expr.proofs.Cases.{by_bool, and_parts}
use Rattle.sps_pass_one.specs.declared.place.Place.{Place}
use Rattle.sps_pass_one.specs.Measure.{OperandAnswer, answer, part_at, measure, form_of}
use Rattle.sps_pass_one.specs.Layout.{counts_if, operation_of}
use Rattle.sps_pass_two.specs.Digits.{last_digits, with_first_flag, last_flagged, address_digits, is_negative, with_flags, is_constant_character, constant_digit, unsigned_constant, signed_constant, constant_of, with_leading_zeros, pair_digits, character_digits, characters_digits, with_trailing_blanks, text_digits, no_flags}
use Rattle.sps_pass_two.specs.Operands.{operand_ask, disk_ask, addresses, address_list, value_or_0, flagged_address, instruction_digits, q_answer, flags_answer, part_digits}
use Rattle.sps_pass_two.specs.Broken.{anywhere, digits_or_none, own_outcome, outcome_by_operation, statement_outcome, outcome_if}

-- all are good, by recursion
abbrev AllGood : List Digit → Type 0
AllGood [] = ⊤
AllGood (d ∷ ds) = IsGood d × AllGood ds

all_good : (ds : List Digit) → AllGood ds → All IsGood ds
all_good [] a = All-nil IsGood
all_good (d ∷ ds) a = All-cons IsGood d ds a.0 (all_good ds a.1)

append_good : (xs ys : List Digit) → AllGood xs → AllGood ys → AllGood (xs ++ ys)
append_good [] ys a b = b
append_good (x ∷ xs) ys a b = (a.0, append_good xs ys a.1 b)

replicate_good : (n : ℕ) (d : Digit) → IsGood d → AllGood (replicate n d)
replicate_good zero d g = tt
replicate_good (suc n) d g = (g, replicate_good n d g)

small_good : (v : ℕ) → v ≤ 10 → is_cell_value v ≡ true
small_good v h = grind (arith, nat_tests)

last_good : (n v : ℕ) → AllGood (last_digits n v)
unfolding last_digits
last_good zero v = tt
last_good (suc n) v = (small_good (v / 10 ^ n % 10) (omega arith), last_good n v)

-- a flag makes no difference
first_flag_good : (test : Bool) (ds : List Digit) → AllGood ds → AllGood (with_first_flag test ds)
first_flag_good test [] a = tt
first_flag_good test (d ∷ ds) a = (a.0, a.1)

last_flag_good : (test : Bool) (ds : List Digit) → AllGood ds → AllGood (last_flagged test ds)
last_flag_good test [] a = tt
last_flag_good test (d ∷ []) a = (a.0, tt)
last_flag_good test (d ∷ e ∷ ds) a = (a.0, last_flag_good test (e ∷ ds) a.1)

flags_good : (flags : List Bool) (ds : List Digit) → AllGood ds → AllGood (with_flags flags ds)
flags_good [] ds a = a
flags_good (f ∷ flags) [] a = tt
flags_good (f ∷ flags) (d ∷ ds) a = (a.0, flags_good flags ds a.1)

-- addresses
address_good : (v : ℤ) → AllGood (address_digits v)
address_good v = last_flag_good (is_negative v) (last_digits 5 (nat_abs v)) (last_good 5 (nat_abs v))

flagged_good : (v : ℤ) → AllGood (flagged_address v)
flagged_good v = first_flag_good true (address_digits v) (address_good v)

list_good : (as_ : List OperandAnswer) → AllGood (address_list as_)
unfolding address_list
list_good [] = tt
list_good (a ∷ as_) = append_good (flagged_address (value_or_0 a.value)) (address_list as_) (flagged_good (value_or_0 a.value)) (list_good as_)

instruction_good : (opcode : ℕ) (p q : ℤ) (flags : List Bool) → AllGood (instruction_digits opcode p q flags)
instruction_good opcode p q flags =
    flags_good flags (last_digits 2 opcode ++ (address_digits p ++ address_digits q))
    (append_good (last_digits 2 opcode) (address_digits p ++ address_digits q) (last_good 2 opcode)
    (append_good (address_digits p) (address_digits q) (address_good p) (address_good q)))

-- constants
below_58 : (b : ℕ) → (b == 64) ≡ false → is_constant_character b ≡ true → b - 48 ≤ 10
below_58 b f h = grind (arith, nat_tests)

constant_good : (b : ℕ) → is_constant_character b ≡ true → IsGood (constant_digit b)
constant_good b h = by_bool (b == 64) (λ t. rw t refl) (λ f. rw f (small_good (b - 48) (below_58 b f h)))

constants_good : (text : List ℕ) → list_all is_constant_character text ≡ true → AllGood (map constant_digit text)
constants_good [] h = tt
constants_good (b ∷ bs) h = let p = and_parts (is_constant_character b) (list_all is_constant_character bs) h in (constant_good b p.0, constants_good bs p.1)

unsigned_good : (minus : Bool) (text : List ℕ) → AllGood (digits_or_none (unsigned_constant minus text))
unsigned_good minus text = by_bool (not (is_nothing text) && list_all is_constant_character text)
    (λ t. let p = and_parts (not (is_nothing text)) (list_all is_constant_character text) t in
    rw t (last_flag_good minus (map constant_digit text) (constants_good text p.1)))
    (λ f. rw f tt)

signed_good : (text : List ℕ) → AllGood (digits_or_none (signed_constant text))
signed_good [] = tt
signed_good (b ∷ bs) = by_bool (b == 43)
    (λ t. rw t (unsigned_good false bs))
    (λ f. rw f (by_bool (b == 45) (λ t. rw t (unsigned_good true bs)) (λ g. rw g (unsigned_good false (b ∷ bs)))))

filled_good : (n : ℕ) (ds : List Digit) → AllGood ds → AllGood (with_leading_zeros n ds)
filled_good n ds a = append_good (replicate (n - length ds) (unflagged_digit 0)) ds (replicate_good (n - length ds) (unflagged_digit 0) refl) a

-- texts
abbrev are_values : List PairEntry → Bool
are_values [] = true
are_values (e ∷ es) = (is_cell_value e.pair.zone && is_cell_value e.pair.number) && are_values es

abbrev found_good : Option Pair → Type 0
found_good None = ⊤
found_good (Some p) = AllGood (unflagged_digit p.zone ∷ unflagged_digit p.number ∷ [])

pair_good : (es : List PairEntry) (c : ℕ) → are_values es ≡ true → found_good (pair_in es c)
unfolding pair_in
pair_good [] c h = tt
pair_good (e ∷ es) c h =
    let p = and_parts (is_cell_value e.pair.zone && is_cell_value e.pair.number) (are_values es) h in
    let q = and_parts (is_cell_value e.pair.zone) (is_cell_value e.pair.number) p.0 in
    by_bool (e.char == c) (λ t. rw t (q.0, (q.1, tt))) (λ f. rw f (pair_good es c p.1))

digits_good : (o : Option Pair) → found_good o → AllGood (pair_digits (option_map digits o))
digits_good None a = tt
digits_good (Some p) a = a

character_good : (b : ℕ) → AllGood (character_digits b)
character_good b = by_bool (b == 64) (λ t. rw t (refl, (refl, tt))) (λ f. rw f (digits_good (alpha_of b) (pair_good pair_table b refl)))

characters_good : (text : List ℕ) → AllGood (characters_digits text)
unfolding characters_digits
characters_good [] = tt
characters_good (b ∷ bs) = append_good (character_digits b) (characters_digits bs) (character_good b) (characters_good bs)

text_good : (n : ℕ) (text : List ℕ) → AllGood (text_digits n text)
text_good n text = first_flag_good true (characters_digits (with_trailing_blanks n text)) (characters_good (with_trailing_blanks n text))

-- statements
own_good : (d : Declarative) (scope : Scope) (s : StatementText) (n positions : ℕ) → AllGood (own_outcome d scope s n positions).digits
own_good Ds scope s n positions = tt
own_good Dss scope s n positions = tt
own_good Das scope s n positions = tt
own_good Dc scope s n positions = let c = digits_or_none (constant_of (part_at s 1)) in first_flag_good (nat_lt 1 n) (with_leading_zeros n c) (filled_good n c (signed_good (without_blanks (part_at s 1))))
own_good Dsc scope s n positions = let c = digits_or_none (constant_of (part_at s 1)) in filled_good n c (signed_good (without_blanks (part_at s 1)))
own_good Dac scope s n positions = text_good n (part_at s 1)
own_good Dsa scope s n positions = list_good (addresses scope 0 s.parts)
own_good Dsb scope s n positions = tt
own_good Dnb scope s n positions = replicate_good n (unflagged_digit NUMERICAL_BLANK) refl
own_good Dgm scope s n positions = (refl, tt)
own_good Dda scope s n positions =
    let d0 = answer scope s (disk_ask 0 (pos 9)) in
    let d1 = answer scope s (disk_ask 1 (pos 99999)) in
    let d2 = answer scope s (disk_ask 2 (pos 999)) in
    let d3 = answer scope s (disk_ask 3 (pos 99999)) in
    append_good (part_digits 1 d0) (part_digits 5 d1 ++ (part_digits 3 d2 ++ part_digits 5 d3)) (last_good 1 _)
    (append_good (part_digits 5 d1) (part_digits 3 d2 ++ part_digits 5 d3) (last_good 5 _)
    (append_good (part_digits 3 d2) (part_digits 5 d3) (last_good 3 _) (last_good 5 _)))
own_good Dorg scope s n positions = tt
own_good Dend scope s n positions = tt
own_good Head scope s n positions = tt

operation_good : (head : Option ℕ) (symbols : List SymbolEntry) (place : Place) (number : ℕ) (s : StatementText) (positions : ℕ) (op : Option Operation) → AllGood (outcome_by_operation head symbols place number s positions op).digits
operation_good head symbols place number s positions None = tt
operation_good head symbols place number s positions (Some (Instruction opcode q immediate)) =
    let scope = anywhere head symbols place.label in
    instruction_good opcode (value_or_0 (answer scope s (operand_ask 0)).value) (value_or_0 (q_answer scope s q).value) (unwrap_or (flags_answer s immediate) no_flags)
operation_good head symbols place number s positions (Some (Declare d)) =
    own_good d (anywhere head symbols place.location) s (measure (scope_of head symbols place.location (Some number)) s (form_of d)).n positions

if_good : (active : Bool) (head : Option ℕ) (symbols : List SymbolEntry) (place : Place) (number : ℕ) (s : StatementText) (positions : ℕ) → AllGood (outcome_if active head symbols place number s positions).digits
if_good true head symbols place number s positions = operation_good head symbols place number s positions (operation_of s)
if_good false head symbols place number s positions = tt

-- all digits of a statement are good
pub outcome_good : (head : Option ℕ) (symbols : List SymbolEntry) (place : Place) (is_ended : Bool) (number : ℕ) (s : StatementText) (positions : ℕ) → All IsGood (statement_outcome head symbols place is_ended number s positions).digits
unfolding statement_outcome
outcome_good head symbols place is_ended number s positions = all_good _ (if_good (counts_if is_ended s.shape) head symbols place number s positions)
