-- What is known of a source that breaks no rule.
use Rattle.std.proofs.Common.{◌≡◌, ℕ, suc, ◌+◌, ◌-◌, ◌<◌, ◌≤◌, ◌%◌, ◌==◌, ◌&&◌, ◌||◌, Bool, true, false, not, List, [], ◌∷◌, ◌++◌, length, map, refl, sym, ◌∙◌, Option, Some, None, Result, Ok, Err, nat_lt, arith}
use Rattle.std.specs.Prelude.{ℤ, pos, negsuc, nat_abs, int_le, ⊤, fold}
use Rattle.std.proofs.lemmas.Bool.Decides.{nat_tests}
use Rattle.sps_ops.specs.declared.rule.Rule.{Rule}
use Rattle.sps_ops.specs.declared.rule.Rule.TheVariants.{BadColumn, LongCard, AfterEnd, TooManyStatements, NoStart, BadStart, NoEnd}
use Rattle.sps_ops.specs.declared.operation.Operation.{Operation}
use Rattle.sps_ops.specs.declared.operation.Operation.TheVariants.{Instruction, Declare}
use Rattle.sps_ops.specs.declared.operation.Declarative.TheVariants.{Dend}
use Rattle.sps_scan.specs.Statement.{StatementText, statement_of}
use Rattle.line_words.specs.Blanks.{trimmed}
use Rattle.sps_expr.proofs.Cases.{by_bool, and_parts}
use Rattle.sps_expr.specs.Symbol.{SymbolEntry}
use Rattle.sps_expr.specs.Value.{Scope, scope_of}
use Rattle.sps_pass_one.specs.declared.fault.Fault.{Fault}
use Rattle.sps_pass_one.specs.declared.place.Place.{Place}
use Rattle.sps_pass_one.specs.declared.ask.OperandReading.TheVariants.{Expression}
use Rattle.sps_pass_one.specs.Faults.{broken_if, lesser, least, fault_order}
use Rattle.sps_pass_one.specs.Measure.{answer, in_bounds, lacks, read_as, part_at, measure, form_of}
use Rattle.sps_pass_one.specs.Layout.{PassState, first, state_before_next, state_behind, counts, is_end, operation_of, PassStep, pass_step, statements, statements_of, lines_of_source, statement_place, symbols_of, Refusal, or_later, first_refusal}
use Rattle.sps_pass_two.specs.Operands.{operand_ask, value_or_0}
use Rattle.sps_pass_two.specs.Broken.{is_bad_column, is_card, is_long, line_faults, label_faults, anywhere, is_bad_start, start_faults, outcome_by_operation, statement_outcome, end_faults, refusal_of}
use Rattle.sps_pass_two.specs.Assembled.{start_of, start_in}
use Rattle.sps_pass_two.proofs.NoFaults.{nil_parts, not_broken, negated}
use Rattle.sps_pass_two.proofs.Refusing.{faults_at, ends_of}

-- the least of some faults is none where there are none
fold_some : (g : Fault) (fs : List Fault) → (h : Fault) × (fold lesser (Some g) fs ≡ Some h)
fold_some g [] = (g, refl)
fold_some g (f ∷ fs) = by_bool (nat_lt (fault_order f) (fault_order g)) (λ t. rw t (fold_some f fs)) (λ t. rw t (fold_some g fs))

least_none : (fs : List Fault) → least None fs ≡ None → fs ≡ []
unfolding least
least_none [] e = refl
least_none (f ∷ fs) e = absurd (let s = fold_some f fs in let k = sym s.1 ∙ e in cc)

none_later : (number : ℕ) (w : Option Fault) (later : Option Refusal) → or_later number w later ≡ None → (w ≡ None) × (later ≡ None)
none_later number None later e = (refl, e)
none_later number (Some f) later e = absurd cc

-- none of these statements breaks a rule
abbrev pub AllUnbroken : List SymbolEntry → ℕ → List PassStep → Type 0
AllUnbroken symbols positions [] = ⊤
AllUnbroken symbols positions (x ∷ xs) = (faults_at symbols positions x ≡ []) × AllUnbroken symbols positions xs

unbroken_from : (symbols : List SymbolEntry) (positions number : ℕ) (xs : List PassStep) (ends : List (List Fault)) → first_refusal number (map (faults_at symbols positions) xs ++ ends) ≡ None → AllUnbroken symbols positions xs × (first_refusal (number + length xs) ends ≡ None)
unfolding first_refusal
unbroken_from symbols positions number [] ends e = let z : number + 0 ≡ number = omega arith in (tt, rw z e)
unbroken_from symbols positions number (x ∷ xs) ends e =
    let two = none_later number (least None (faults_at symbols positions x)) (first_refusal (number + 1) (map (faults_at symbols positions) xs ++ ends)) e in
    let rest = unbroken_from symbols positions (number + 1) xs ends two.1 in
    let k : number + suc (length xs) ≡ number + 1 + length xs = omega arith in
    ((least_none (faults_at symbols positions x) two.0, rest.0), rw k rest.1)

-- the source breaks no rule: no statement does, and one of them is a DEND
module _ (positions : ℕ) (source : List ℕ) (good : refusal_of positions source ≡ None) where
  both : AllUnbroken (symbols_of source) positions (statements_of source) × (first_refusal (1 + length (statements_of source)) (ends_of source) ≡ None)
  both = unbroken_from (symbols_of source) positions 1 (statements_of source) (ends_of source) good

  pub all_unbroken : AllUnbroken (symbols_of source) positions (statements_of source)
  all_unbroken = both.0

  last_none : least None (end_faults (state_behind first (lines_of_source source)).ended) ≡ None
  unfolding first_refusal
  last_none = (none_later (1 + length (statements_of source)) (least None (end_faults (state_behind first (lines_of_source source)).ended)) None both.1).0

  pub is_ended : (state_behind first (lines_of_source source)).ended ≡ true
  is_ended = negated _ (not_broken (not (state_behind first (lines_of_source source)).ended) NoEnd (least_none _ last_none))

-- THE NUMBER of the statements
number_unbroken : (symbols : List SymbolEntry) (positions : ℕ) (x : PassStep) → faults_at symbols positions x ≡ [] → (x.before.number == 20001) ≡ false
unfolding statement_outcome
number_unbroken symbols positions x e =
    let a = nil_parts (line_faults x.text.shape x.before.ended x.before.number) _ e in
    let b = nil_parts (broken_if (is_bad_column x.text.shape) BadColumn) _ a.0 in
    let c = nil_parts (broken_if (is_long x.text.shape) LongCard) _ b.1 in
    let d = nil_parts (broken_if (x.before.ended && is_card x.text.shape) AfterEnd) (broken_if (x.before.number == 20001) TooManyStatements) c.1 in
    not_broken (x.before.number == 20001) TooManyStatements d.1

number_goes_on : (st : PassState) (s : StatementText) → (state_before_next st s).number ≡ st.number + 1
unfolding state_before_next
number_goes_on st s = refl

few_from : (symbols : List SymbolEntry) (positions : ℕ) (st : PassState) (lines : List (List ℕ)) → st.number ≤ 20001 → AllUnbroken symbols positions (statements st lines) → st.number + length (statements st lines) ≤ 20001
unfolding statements
few_from symbols positions st [] n u = omega arith
few_from symbols positions st (line ∷ lines) n u =
    let t = number_unbroken symbols positions (pass_step st line) u.0 in
    let l : st.number < 20001 = grind (arith, nat_tests) in
    let m = number_goes_on st (statement_of line) in
    let k = few_from symbols positions (state_before_next st (statement_of line)) lines (omega arith) u.1 in
    omega (arith, m, k)

pub few_statements : (positions : ℕ) (source : List ℕ) → refusal_of positions source ≡ None → length (statements_of source) ≤ 20000
few_statements positions source good = let k = few_from (symbols_of source) positions first (lines_of_source source) (omega arith) (all_unbroken positions source good) in omega (arith, k)

-- THE START
pub record IsStart (positions start : ℕ) : Type 0 where
  pub even : start % 2 ≡ 0
  pub above : 400 ≤ start
  pub fits : start + 12 ≤ positions

or_parts : (a b : Bool) → (a || b) ≡ false → (a ≡ false) × (b ≡ false)
or_parts true b e = absurd cc
or_parts false b e = (refl, e)

even_of : (n : ℕ) → (n % 2 == 1) ≡ false → n % 2 ≡ 0
even_of n e = let k : n % 2 < 2 = omega arith in grind (arith, nat_tests)

start_value : (positions : ℕ) (v : ℤ) → is_bad_start positions (Some v) ≡ false → IsStart positions (nat_abs v)
start_value positions (pos n) e =
    let two = or_parts (not (int_le (pos 400) (pos n) && int_le (pos n) (pos (positions - 12)))) (n % 2 == 1) e in
    let range = and_parts (int_le (pos 400) (pos n)) (int_le (pos n) (pos (positions - 12))) (negated _ two.0) in
    let low : 400 ≤ n = let t = range.0 in grind (arith, nat_tests) in
    let high : n ≤ positions - 12 = let t = range.1 in grind (arith, nat_tests) in
    record { even = even_of n two.1; above = low; fits = omega arith }
start_value positions (negsuc n) e = absurd cc

start_bounds : (positions : ℕ) (r : Result ℤ Rule) → (in_bounds (operand_ask 0) r).faults ≡ [] → is_bad_start positions (in_bounds (operand_ask 0) r).value ≡ false → IsStart positions (nat_abs (value_or_0 (in_bounds (operand_ask 0) r).value))
start_bounds positions (Err rule) f e = absurd cc
start_bounds positions (Ok v) f e = by_bool (int_le (negsuc 99998) v && int_le v (pos 99999))
    (λ t. let k = rw t at e in rw t (start_value positions v k))
    (λ t. absurd (let k = rw t at f in cc))

start_good : (scope : Scope) (s : StatementText) (positions : ℕ) → start_faults scope s positions ≡ [] → IsStart positions (nat_abs (value_or_0 (answer scope s (operand_ask 0)).value))
unfolding answer
start_good scope s positions e =
    let a = nil_parts (broken_if (lacks s 0) NoStart) _ e in
    let f = not_broken (lacks s 0) NoStart a.0 in
    let b = nil_parts (answer scope s (operand_ask 0)).faults (broken_if (is_bad_start positions (answer scope s (operand_ask 0)).value) BadStart) a.1 in
    let g = rw f at b.0 in
    let h = rw f at (not_broken _ BadStart b.1) in
    rw f (start_bounds positions (read_as Expression scope (part_at s 0)) g h)

is_dend : (op : Option Operation) → is_end op ≡ true → op ≡ Some (Declare Dend)
is_dend None e = absurd cc
is_dend (Some (Instruction opcode q immediate)) e = absurd cc
is_dend (Some (Declare Dend)) e = refl
is_dend (Some (Declare d)) e = absurd cc

counting_faults : (symbols : List SymbolEntry) (positions : ℕ) (x : PassStep) → faults_at symbols positions x ≡ [] → counts x.before x.text ≡ true → (outcome_by_operation x.before.head symbols (statement_place x) x.before.number x.text positions (operation_of x.text)).faults ≡ []
unfolding statement_outcome
counting_faults symbols positions x e active =
    let a = nil_parts (line_faults x.text.shape x.before.ended x.before.number) _ e in
    let b = rw active at a.1 in
    let c = nil_parts (label_faults x.before.head symbols (trimmed x.text.label) x.before.number) _ b in
    (nil_parts (outcome_by_operation x.before.head symbols (statement_place x) x.before.number x.text positions (operation_of x.text)).faults _ c.1).0

dend_faults : (head : Option ℕ) (symbols : List SymbolEntry) (place : Place) (number : ℕ) (s : StatementText) (positions : ℕ) (op : Option Operation) → op ≡ Some (Declare Dend) → (outcome_by_operation head symbols place number s positions op).faults ≡ [] → start_faults (anywhere head symbols place.location) s positions ≡ []
dend_faults head symbols place number s positions op is e =
    let k = rw is at e in
    (nil_parts (measure (scope_of head symbols place.location (Some number)) s (form_of Dend)).faults (start_faults (anywhere head symbols place.location) s positions) k).1

start_here : (symbols : List SymbolEntry) (positions : ℕ) (x : PassStep) → faults_at symbols positions x ≡ [] → counts x.before x.text ≡ true → is_end (operation_of x.text) ≡ true → IsStart positions (start_of symbols x)
start_here symbols positions x e active ends =
    start_good (anywhere x.before.head symbols (statement_place x).location) x.text positions
    (dend_faults x.before.head symbols (statement_place x) x.before.number x.text positions (operation_of x.text) (is_dend (operation_of x.text) ends) (counting_faults symbols positions x e active))

stays_open : (st : PassState) (s : StatementText) → st.ended ≡ false → (counts st s && is_end (operation_of s)) ≡ false → (state_before_next st s).ended ≡ false
unfolding state_before_next
stays_open st s free e = rw (free) (rw free at e)

start_from : (symbols : List SymbolEntry) (positions : ℕ) (st : PassState) (lines : List (List ℕ)) → st.ended ≡ false → (state_behind st lines).ended ≡ true → AllUnbroken symbols positions (statements st lines) → IsStart positions (start_in symbols (statements st lines))
unfolding statements state_behind start_in
start_from symbols positions st [] free e u = absurd (let k = sym free ∙ e in cc)
start_from symbols positions st (line ∷ lines) free e u = by_bool (counts st (statement_of line) && is_end (operation_of (statement_of line)))
    (λ t. let two = and_parts (counts st (statement_of line)) (is_end (operation_of (statement_of line))) t in rw t (start_here symbols positions (pass_step st line) u.0 two.0 two.1))
    (λ f. rw f (start_from symbols positions (state_before_next st (statement_of line)) lines (stays_open st (statement_of line) free f) e u.1))

pub is_start : (positions : ℕ) (source : List ℕ) → refusal_of positions source ≡ None → IsStart positions (start_in (symbols_of source) (statements_of source))
is_start positions source good = start_from (symbols_of source) positions first (lines_of_source source) refl (is_ended positions source good) (all_unbroken positions source good)
