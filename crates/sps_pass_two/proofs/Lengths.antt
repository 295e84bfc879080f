-- A statement that breaks no rule declares as many digits as its place says, and they begin where digits may be declared.
use Rattle.std.proofs.Common.{◌≡◌, ℕ, zero, suc, ◌+◌, ◌-◌, ◌*◌, ◌<◌, ◌≤◌, ◌==◌, ◌&&◌, Bool, true, false, not, List, [], ◌∷◌, ◌++◌, length, take, drop, replicate, refl, sym, ap, ◌∙◌, arith, Option, Some, None, is_some, Result, Ok, Err, nat_lt}
use Rattle.std.specs.Prelude.{ℤ, pos, negsuc, int_le, nat_abs, option_map, unwrap_or, ⊤}
use Rattle.std.proofs.lemmas.Bool.Decides.{nat_tests}
use Rattle.std.proofs.lemmas.List.{length-append, length-replicate, length-take}
use Rattle.digit_core.specs.declared.Digit.{Digit}
use Rattle.digit_core.specs.Cell.{unflagged_digit}
use Rattle.digit_core.specs.declared.TheConstants.{NUMERICAL_BLANK}
use Rattle.card_code.specs.Pairs.{Pair, pair_in, alpha_of, digits}
use Rattle.sps_ops.specs.declared.rule.Rule.{Rule}
use Rattle.sps_ops.specs.declared.rule.Rule.TheVariants.{BadConstant, OutsideImage}
use Rattle.sps_ops.specs.declared.operation.Operation.{Operation}
use Rattle.sps_ops.specs.declared.operation.Operation.TheVariants.{Instruction, Declare}
use Rattle.sps_ops.specs.declared.operation.Declarative.{Declarative}
use Rattle.sps_ops.specs.declared.operation.Declarative.TheVariants.{Dc, Dsc, Dac, Dsa, Dnb, Dda}
use Rattle.sps_scan.specs.declared.statement.Shape.{Shape}
use Rattle.sps_scan.specs.declared.statement.Shape.TheVariants.{Comment, Blank, Long}
use Rattle.line_words.specs.Blanks.{trimmed}
use Rattle.sps_scan.specs.Columns.{columns, is_blank, has_comma, before_comma, after_comma}
use Rattle.sps_scan.specs.Numbers.{short_number}
use Rattle.sps_scan.specs.Operands.{behind_text, behind_number, dac_operands, has_text, operands_of}
use Rattle.sps_scan.specs.Statement.{StatementText, statement_of, is_allowed, all_allowed, is_comment, without_parts, with_operands}
use Rattle.sps_expr.specs.Grammar.{is_nothing}
use Rattle.sps_expr.specs.Symbol.{SymbolEntry}
use Rattle.sps_expr.specs.Earlier.{AreEarlier}
use Rattle.sps_expr.specs.Value.{Scope, value_of}
use Rattle.sps_expr.proofs.Cases.{by_bool, and_parts}
use Rattle.sps_pass_one.specs.declared.ask.Ask.{Ask}
use Rattle.sps_pass_one.specs.declared.place.Place.{Place}
use Rattle.sps_pass_one.specs.Faults.{broken_if}
use Rattle.sps_pass_one.specs.Measure.{OperandAnswer, Measure, answer, in_bounds, read_as, is_even, part_at, lacks, measure, form_of, size_of, length_ask, text_length_ask, or_bad_length, lacking_faults}
use Rattle.sps_pass_one.specs.Placing.{listed_count, count_of, declared_size, field_placing, declared_placing}
use Rattle.sps_pass_one.specs.Layout.{PassState, pass_step, counts, operation_of, earlier_symbols, declarative_placing, placing_by, placing, statement_place, for_layout}
use Rattle.sps_pass_one.proofs.Alike.{measure_alike}
use Rattle.sps_pass_two.specs.Digits.{last_digits, with_first_flag, last_flagged, address_digits, is_negative, with_flags, constant_of, with_leading_zeros, pair_of, pair_digits, character_digits, characters_digits, with_trailing_blanks, text_digits, no_flags}
use Rattle.sps_pass_two.specs.Operands.{operand_ask, disk_ask, addresses, address_list, value_or_0, flagged_address, instruction_digits, q_answer, flags_answer, part_digits}
use Rattle.sps_pass_two.specs.Broken.{line_faults, label_faults, anywhere, is_bad_constant, constant_faults, digits_or_none, constant_digits, own_outcome, measure_of, others_of, declared_outcome, outcome_by_operation, begins_at, is_outside, outcome_if, statement_outcome}
use Rattle.sps_pass_two.specs.Kept.{lowest_declared}
use Rattle.sps_pass_two.specs.SourceCharacters.{is_unfit}
use Rattle.sps_pass_two.specs.Assembled.{statement_run}
use Rattle.sps_pass_two.proofs.PartNames.{dac_named}
use Rattle.sps_pass_two.proofs.SourceCharacters.{allowed_is}
use Rattle.sps_pass_two.proofs.NoFaults.{nil_parts, not_broken, not_broken_at, negated}
use Rattle.sps_pass_two.proofs.Refusing.{faults_at}
use Rattle.sps_pass_two.proofs.Holding.{LiesAbove}

-- an operand that must be there and breaks no rule has a value
record Found (q : Ask) (a : OperandAnswer) (r : Result ℤ Rule) : Type 0 where
  value : ℤ
  is : a.value ≡ Some value
  read : r ≡ Ok value
  above : int_le q.low value ≡ true

found_in_bounds : (q : Ask) (r : Result ℤ Rule) → (in_bounds q r).faults ≡ [] → Found q (in_bounds q r) r
found_in_bounds q (Err rule) h = absurd cc
found_in_bounds q (Ok v) h = by_bool (not (int_le q.low v && int_le v q.high))
    (λ t. absurd (let k = rw t at h in cc))
    (λ f. by_bool (q.odd && is_even v)
    (λ t. absurd (let k = rw (f, t) at h in cc))
    (λ g. let p = and_parts (int_le q.low v) (int_le v q.high) (negated _ f) in
    record { value = v; is = rw (f, g) refl; read = refl; above = p.0 }))

found : (scope : Scope) (s : StatementText) (q : Ask) → q.needed ≡ true → (answer scope s q).faults ≡ []
    → Found q (answer scope s q) (read_as q.reading scope (part_at s q.place))
unfolding answer
found scope s q n h = by_bool (lacks s q.place)
    (λ t. absurd (let k = rw (t, n) at h in cc))
    (λ f. rw f (found_in_bounds q (read_as q.reading scope (part_at s q.place)) (rw f at h)))

one_at_least : (v : ℤ) → int_le (pos 1) v ≡ true → 1 ≤ nat_abs v
one_at_least (pos n) h = grind (arith, nat_tests)
one_at_least (negsuc n) h = absurd cc

some_length : (scope : Scope) (s : StatementText) (place : ℕ) (most : ℤ) → (answer scope s (length_ask place most true)).faults ≡ []
    → 1 ≤ size_of (answer scope s (length_ask place most true)).value
some_length scope s place most h =
    let f = found scope s (length_ask place most true) refl h in
    rw f.is (one_at_least f.value f.above)

-- lengths of lists of digits
length_last : (n v : ℕ) → length (last_digits n v) ≡ n
unfolding last_digits
length_last zero v = refl
length_last (suc n) v = let k = length_last n v in omega arith

length_first_flag : (test : Bool) (ds : List Digit) → length (with_first_flag test ds) ≡ length ds
length_first_flag test [] = refl
length_first_flag test (d ∷ ds) = refl

length_last_flag : (test : Bool) (ds : List Digit) → length (last_flagged test ds) ≡ length ds
length_last_flag test [] = refl
length_last_flag test (d ∷ []) = refl
length_last_flag test (d ∷ e ∷ ds) = let k = length_last_flag test (e ∷ ds) in omega arith

length_flags : (flags : List Bool) (ds : List Digit) → length (with_flags flags ds) ≡ length ds
length_flags [] ds = refl
length_flags (f ∷ flags) [] = refl
length_flags (f ∷ flags) (d ∷ ds) = let k = length_flags flags ds in omega arith

length_address : (v : ℤ) → length (address_digits v) ≡ 5
length_address v = length_last_flag (is_negative v) (last_digits 5 (nat_abs v)) ∙ length_last 5 (nat_abs v)

length_flagged : (v : ℤ) → length (flagged_address v) ≡ 5
length_flagged v = length_first_flag true (address_digits v) ∙ length_address v

length_instruction : (opcode : ℕ) (p q : ℤ) (flags : List Bool) → length (instruction_digits opcode p q flags) ≡ 12
length_instruction opcode p q flags =
    let f = length_flags flags (last_digits 2 opcode ++ (address_digits p ++ address_digits q)) in
    let a = length-append (last_digits 2 opcode) (address_digits p ++ address_digits q) in
    let b = length-append (address_digits p) (address_digits q) in
    let o = length_last 2 opcode in
    let x = length_address p in
    let y = length_address q in
    f ∙ omega arith

add_five : (xs ys : List Digit) (n : ℕ) → length xs ≡ 5 → length ys ≡ 5 * n → length (xs ++ ys) ≡ 5 * suc n
add_five xs ys n a b = let k = length-append xs ys in omega arith

length_addresses : (scope : Scope) (place : ℕ) (parts : List (List ℕ))
    → length (address_list (addresses scope place parts)) ≡ 5 * listed_count parts
unfolding addresses address_list
length_addresses scope place [] = refl
length_addresses scope place (part ∷ parts) = by_bool (is_blank part)
    (λ t. rw t refl)
    (λ f.
    let v = value_or_0 (in_bounds (operand_ask place) (value_of scope part)).value in
    let others = addresses scope (place + 1) parts in
    rw f (add_five (flagged_address v) (address_list others) (listed_count parts) (length_flagged v)
    (length_addresses scope (place + 1) parts)))

-- a constant
length_filled : (n : ℕ) (ds : List Digit) → length ds ≤ n → length (with_leading_zeros n ds) ≡ n
length_filled n ds h =
    let a = length-append (replicate (n - length ds) (unflagged_digit 0)) ds in
    let b = length-replicate (n - length ds) (unflagged_digit 0) in
    omega arith

length_constant : (n : ℕ) (c : Option (List Digit)) → 1 ≤ n → is_bad_constant n c ≡ false
    → length (with_leading_zeros n (digits_or_none c)) ≡ n
length_constant n None some h = absurd cc
length_constant n (Some ds) some h = let k : length ds ≤ n = grind (arith, nat_tests) in length_filled n ds k

good_constant : (n : ℕ) (s : StatementText) → constant_faults n s ≡ [] → is_bad_constant n (constant_of (part_at s 1)) ≡ false
good_constant n s h = by_bool (lacks s 1)
    (λ t. absurd (let k = rw t at h in cc))
    (λ f. not_broken_at (is_bad_constant n (constant_of (part_at s 1))) BadConstant 1 (rw f at h))

-- a text
length_pair : (o : Option (ℕ × ℕ)) → is_some o ≡ true → length (pair_digits o) ≡ 2
length_pair None h = absurd cc
length_pair (Some p) h = refl

-- both digits of a character that has a pair
has_digits : (o : Option Pair) → is_some o ≡ true → is_some (option_map digits o) ≡ true
has_digits None h = absurd cc
has_digits (Some p) h = refl

length_character : (b : ℕ) → is_allowed b ≡ true → length (character_digits b) ≡ 2
length_character b h = by_bool (b == 64)
    (λ t. rw t refl)
    (λ f. let p = and_parts (is_some (alpha_of b)) (not (is_unfit b)) (sym (allowed_is b) ∙ h) in rw f (length_pair (pair_of b) (has_digits (alpha_of b) p.0)))

length_blanks : (n : ℕ) → length (characters_digits (replicate n 32)) ≡ 2 * n
unfolding characters_digits pair_in
length_blanks zero = refl
length_blanks (suc n) = let k = length_blanks n in omega arith

length_characters : (text blanks : List ℕ) → all_allowed text ≡ true
    → length (characters_digits (text ++ blanks)) ≡ 2 * length text + length (characters_digits blanks)
unfolding characters_digits
length_characters [] blanks h = omega arith
length_characters (b ∷ bs) blanks h =
    let p = and_parts (is_allowed b) (all_allowed bs) h in
    let a = length-append (character_digits b) (characters_digits (bs ++ blanks)) in
    let c = length_character b p.0 in
    let k = length_characters bs blanks p.1 in
    omega arith

length_text : (n : ℕ) (text : List ℕ) → all_allowed text ≡ true → length text ≤ n → length (text_digits n text) ≡ 2 * n
length_text n text h fits =
    let a = length_first_flag true (characters_digits (with_trailing_blanks n text)) in
    let b = length_characters text (replicate (n - length text) 32) h in
    let c = length_blanks (n - length text) in
    omega arith

length_disk : (a b c d : OperandAnswer) → length (part_digits 1 a ++ (part_digits 5 b ++ (part_digits 3 c ++ part_digits 5 d))) ≡ 14
length_disk a b c d =
    let x = length-append (part_digits 1 a) (part_digits 5 b ++ (part_digits 3 c ++ part_digits 5 d)) in
    let y = length-append (part_digits 5 b) (part_digits 3 c ++ part_digits 5 d) in
    let z = length-append (part_digits 3 c) (part_digits 5 d) in
    let l1 = length_last 1 (nat_abs (value_or_0 a.value)) in
    let l5 = length_last 5 (nat_abs (value_or_0 b.value)) in
    let l3 = length_last 3 (nat_abs (value_or_0 c.value)) in
    let l = length_last 5 (nat_abs (value_or_0 d.value)) in
    x ∙ omega arith

-- what the operands of a declarative make of n
abbrev SuitsLength : Declarative → StatementText → ℕ → Type 0
SuitsLength Dc s n = 1 ≤ n
SuitsLength Dsc s n = 1 ≤ n
SuitsLength Dac s n = length (part_at s 1) ≤ n
SuitsLength other s n = ⊤

own_length : (d : Declarative) (scope : Scope) (s : StatementText) (n k positions : ℕ) → SuitsLength d s n
    → (own_outcome d scope s n positions).faults ≡ []
    → length (own_outcome d scope s n positions).digits ≡ declared_size d (count_of d s n) k
own_length Dc scope s n k positions suits h =
    length_first_flag (nat_lt 1 n) (constant_digits n s) ∙ length_constant n (constant_of (part_at s 1)) suits (good_constant n s h)
own_length Dsc scope s n k positions suits h = length_constant n (constant_of (part_at s 1)) suits (good_constant n s h)
own_length Dac scope s n k positions suits h =
    length_text n (part_at s 1) (negated _ (not_broken_at (not (all_allowed (part_at s 1))) BadConstant 1 h)) suits
own_length Dsa scope s n k positions suits h = length_addresses scope 0 s.parts
own_length Dnb scope s n k positions suits h = length-replicate n (unflagged_digit NUMERICAL_BLANK)
own_length Dda scope s n k positions suits h =
    length_disk (answer scope s (disk_ask 0 (pos 9))) (answer scope s (disk_ask 1 (pos 99999))) (answer scope s (disk_ask 2 (pos 999)))
    (answer scope s (disk_ask 3 (pos 99999)))
own_length other scope s n k positions suits h = refl

-- the text of a DAC has at most as many characters as its first part says
abbrev TextFits : StatementText → Type 0
TextFits s = (n : ℕ) → short_number (part_at s 0) ≡ Some n → length (part_at s 1) ≤ n

short_is : (o : Option ℕ) (v : ℤ) → or_bad_length o ≡ Ok v → o ≡ Some (nat_abs v)
short_is None v h = absurd cc
short_is (Some n) v h = let k : pos n ≡ v = cc in ap (λ w. Some (nat_abs w)) k

text_suits : (scope : Scope) (s : StatementText) → TextFits s → (answer scope s text_length_ask).faults ≡ []
    → length (part_at s 1) ≤ size_of (answer scope s text_length_ask).value
text_suits scope s fits h =
    let f = found scope s text_length_ask refl h in
    rw f.is (fits (nat_abs f.value) (short_is (short_number (part_at s 0)) f.value f.read))

constant_suits : (scope : Scope) (s : StatementText) → (measure scope s (form_of Dc)).faults ≡ [] → 1 ≤ (measure scope s (form_of Dc)).n
unfolding measure
constant_suits scope s h = some_length scope s 0 (pos 50) (nil_parts (answer scope s (length_ask 0 (pos 50) true)).faults _ h).0

measure_suits : (d : Declarative) (scope : Scope) (s : StatementText) → (d ≡ Dac → TextFits s) → (measure scope s (form_of d)).faults ≡ []
    → SuitsLength d s (measure scope s (form_of d)).n
unfolding measure
measure_suits Dc scope s fits h = constant_suits scope s h
measure_suits Dsc scope s fits h = constant_suits scope s h
measure_suits Dac scope s fits h =
    let n = answer scope s text_length_ask in
    text_suits scope s (fits refl) (nil_parts n.faults _ (nil_parts (lacking_faults s (form_of Dac)) _ h).1).0
measure_suits other scope s fits h = tt

-- where the layout breaks no rule, the field has its digits
field_digits : (d : Declarative) (at n k : ℕ) (a : Option ℕ) → (field_placing d at n k a).digits ≡ declared_size d n k
field_digits d at n k None = refl
field_digits d at n k (Some a) = refl

placing_digits : (d : Declarative) (at : ℕ) (s : StatementText) (m : Measure) → is_nothing m.faults ≡ true
    → (declared_placing d at s m).digits ≡ declared_size d (count_of d s m.n) m.k
placing_digits d at s m h = rw h (field_digits d at (count_of d s m.n) m.k m.a)

-- a line's DAC has a text that fits
parts_are : (line first second third : List ℕ)
    → (part_at (with_operands line (behind_text first second third)) 0 ≡ first) ×
    (part_at (with_operands line (behind_text first second third)) 1 ≡ second)
parts_are line first second [] = (refl, refl)
parts_are line first second (b ∷ bs) = by_bool (b == 44) (λ t. rw t (refl, refl)) (λ f. rw f (refl, refl))

number_fits : (line first rest : List ℕ) (o : Option ℕ) → short_number first ≡ o
    → TextFits (with_operands line (behind_number first rest o))
number_fits line first rest None e n h = omega arith
number_fits line first rest (Some m) e n h =
    let p = parts_are line first (take m rest) (drop m rest) in
    let k = rw p.0 at h in
    let same : m ≡ n = cc in
    let l = length-take m rest in
    rw p.1 (omega arith)

dac_fits : (line text : List ℕ) → TextFits (with_operands line (dac_operands text))
dac_fits line text = by_bool (has_comma text)
    (λ t. rw t (number_fits line (before_comma text) (after_comma text) (short_number (before_comma text)) refl))
    (λ f. rw f (λ n h. omega arith))

operands_fit : (line text name : List ℕ) → has_text name ≡ true → TextFits (with_operands line (operands_of name text))
operands_fit line text name h = rw h (dac_fits line text)

none_fits : (shape : Shape) → TextFits (without_parts shape)
none_fits shape n h = omega arith

line_fits : (line : List ℕ) → operation_of (statement_of line) ≡ Some (Declare Dac) → TextFits (statement_of line)
unfolding statement_of
line_fits line h = by_bool (nat_lt 80 (length line))
    (λ t. rw t (none_fits Long))
    (λ f. by_bool (is_comment line)
    (λ t. rw (f, t) (none_fits Comment))
    (λ g. by_bool (is_blank (columns 6 75 line))
    (λ t. rw (f, g, t) (none_fits Blank))
    (λ e. rw (f, g, e) (operands_fit line (columns 16 75 line) (trimmed (columns 12 15 line)) (dac_named (columns 12 15 line) (rw (f, g, e) at h))))))

above_least : (positions from n : ℕ) → is_outside positions from n ≡ false → 0 < n → lowest_declared ≤ from
above_least positions from n inside some = grind (arith, nat_tests)

-- a statement that breaks no rule
module _ (symbols : List SymbolEntry) (positions : ℕ) (st : PassState) (line : List ℕ) (known : AreEarlier st.symbols symbols st.number) where
  abbrev s : StatementText
  s = statement_of line

  abbrev here : Place
  here = statement_place (pass_step st line)

  -- its declared digits, as many as the layout has
  declared_length : (d : Declarative) → operation_of s ≡ Some (Declare d)
      → (declared_outcome st.head symbols here st.number s positions d).faults ≡ []
      → length (declared_outcome st.head symbols here st.number s positions d).digits ≡
      (declarative_placing st.head st.symbols st.at s d).digits
  declared_length d is h =
      let early = measure (earlier_symbols st.head st.symbols st.at) s (form_of d) in
      let late = measure_of st.head symbols here st.number s d in
      let alike = measure_alike st.head st.symbols symbols (pos st.at) st.number s known (form_of d) in
      let parts = nil_parts late.faults (others_of st.head symbols here st.number s positions d).faults h in
      let fits : d ≡ Dac → TextFits s = λ e. line_fits line (rw e at is) in
      rw (placing_digits d st.at s early (alike.faults ∙ ap is_nothing parts.0), alike.n, alike.k)
      (own_length d (anywhere st.head symbols (pos st.at)) s late.n late.k positions
      (measure_suits d (for_layout st.head symbols (pos st.at) st.number) s fits parts.0) parts.1)

  operation_length : (op : Option Operation) → operation_of s ≡ op
      → (outcome_by_operation st.head symbols here st.number s positions op).faults ≡ []
      → length (outcome_by_operation st.head symbols here st.number s positions op).digits ≡
      (placing_by st.head st.symbols st.at s op).digits
  operation_length None is h = absurd cc
  operation_length (Some (Instruction opcode q immediate)) is h =
      let scope = anywhere st.head symbols here.label in
      length_instruction opcode (value_or_0 (answer scope s (operand_ask 0)).value) (value_or_0 (q_answer scope s q).value)
      (unwrap_or (flags_answer s immediate) no_flags)
  operation_length (Some (Declare d)) is h = declared_length d is h

  -- where it counts, they begin where digits may be declared
  lies_if : (active : Bool) → counts st s ≡ active → (outcome_if active st.head symbols here st.number s positions).faults ≡ []
      → 0 < length (outcome_if active st.head symbols here st.number s positions).digits → lowest_declared ≤ begins_at here s
  unfolding placing
  lies_if false is h some = absurd (omega arith)
  lies_if true is h some =
      let o = outcome_by_operation st.head symbols here st.number s positions (operation_of s) in
      let rest = (nil_parts (label_faults st.head symbols (trimmed s.label) st.number) _ h).1 in
      let parts = nil_parts o.faults (broken_if (is_outside positions (begins_at here s) here.digits) OutsideImage) rest in
      let counted : here.digits ≡ (placing_by st.head st.symbols st.at s (operation_of s)).digits = rw is refl in
      let many : length o.digits ≡ here.digits = operation_length (operation_of s) refl parts.0 ∙ sym counted in
      above_least positions (begins_at here s) here.digits (not_broken _ OutsideImage parts.1) (rw many at some)

  pub lies_above : faults_at symbols positions (pass_step st line) ≡ [] → LiesAbove (statement_run symbols positions (pass_step st line))
  unfolding statement_outcome
  lies_above unbroken =
      lies_if (counts st s) refl (nil_parts (line_faults s.shape st.ended st.number)
      (outcome_if (counts st s) st.head symbols here st.number s positions).faults unbroken).1
