-- One statement after another is placed.
use Rattle.std.proofs.Common.{◌≡◌, ℕ, ℤ, pos, negsuc, nat_abs, ◌≤◌, Bool, true, false, not, ◌&&◌, List, [], ◌∷◌, ◌++◌, length, map, replicate, refl, sym, ap, ◌∙◌, Option, Some, None, option_map, Result, Ok, Err, nat_le, int_le, arith}
use Rattle.std.specs.Prelude.{if◌then◌else◌}
use Rattle.std.proofs.lemmas.List.{map-append, append-nil}
use Rattle.std.proofs.lemmas.Bool.Decides.{nat_tests}
use Rattle.digit_core.specs.declared.Digit.{Digit}
use Rattle.sps_ops.specs.declared.rule.Rule.{Rule}
use Rattle.sps_expr.proofs.Cases.{by_bool, and_parts}
use Rattle.sps_expr.specs.Symbol.{SymbolEntry}
use Rattle.sps_expr.specs.Value.{Scope}
use Rattle.sps_scan.specs.Statement.{StatementText, statement_of}
use Rattle.sps_pass_one.specs.declared.fault.Fault.{Fault}
use Rattle.sps_pass_one.specs.declared.place.Place.{Place}
use Rattle.sps_pass_one.specs.Faults.{least}
use Rattle.sps_pass_one.specs.declared.ask.OperandReading.TheVariants.{Expression}
use Rattle.sps_pass_one.specs.Measure.{answer, in_bounds, lacks, read_as, part_at}
use Rattle.sps_pass_one.specs.Layout.{first, state_before_next, counts_if, ends_if, is_end, operation_of, PassStep, pass_step, statements, statements_of, statement_place, statement_places, symbols_of, Refusal}
use Rattle.sps_pass_one.specs.Walk.{WalkText, walk_of, one_further, walk_past}
use Rattle.sps_pass_one.proofs.Following.{Follows, place_is, next, next_done, next_state}
use Rattle.sps_pass_two.specs.Operands.{operand_ask, value_or_0}
use Rattle.sps_pass_two.specs.Broken.{statement_outcome, end_faults, first_address, refusal_of, statement_and_fault}
use Rattle.sps_pass_two.specs.Image.{DigitRun, run_with}
use Rattle.sps_pass_two.specs.Writing.{with_digits, with_fields}
use Rattle.sps_pass_two.specs.Assembled.{PlacedText, placed_text, statement_run, start_in, is_instruction}
use Rattle.sps_pass_two.specs.Making.{start_value}
use Rattle.sps_pass_two.proofs.Overlay.{length_all, length_none}
use Rattle.sps_pass_two.proofs.Refusing.{faults_at, ends_of}

-- an operand has five digits at most
small_int : (v : ℤ) → (int_le (negsuc 99998) v && int_le v (pos 99999)) ≡ true → nat_abs v ≤ 99999
small_int (pos n) e = let q : nat_le n 99999 ≡ true = (and_parts (int_le (negsuc 99998) (pos n)) (int_le (pos n) (pos 99999)) e).1 in grind (arith, nat_tests)
small_int (negsuc n) e = let q : nat_le n 99998 ≡ true = (and_parts (int_le (negsuc 99998) (negsuc n)) (int_le (negsuc n) (pos 99999)) e).0 in let r : n ≤ 99998 = grind (arith, nat_tests) in omega (arith, r)

small_value : (place : ℕ) (r : Result ℤ Rule) → nat_abs (value_or_0 (in_bounds (operand_ask place) r).value) ≤ 99999
small_value place (Err rule) = omega arith
small_value place (Ok v) = by_bool (int_le (negsuc 99998) v && int_le v (pos 99999)) (λ t. rw t (small_int v t)) (λ f. rw f (omega arith))

pub small_start : (scope : Scope) (s : StatementText) → nat_abs (value_or_0 (answer scope s (operand_ask 0)).value) ≤ 99999
unfolding answer
small_start scope s = by_bool (lacks s 0) (λ t. rw t (omega arith)) (λ f. rw f (small_value 0 (read_as Expression scope (part_at s 0))))

-- one field more
written_last : (image : List (Option Digit)) (fs : List DigitRun) (f : DigitRun) → with_fields image (fs ++ f ∷ []) ≡ with_digits (with_fields image fs) f.from f.digits
unfolding with_fields
written_last image [] f = refl
written_last image (g ∷ fs) f = written_last (with_digits image g.from g.digits) fs f

-- the start is known behind a DEND; before it, it is the one of the rest
abbrev pub StartIs : List SymbolEntry → ℕ → Bool → List PassStep → List PassStep → Type 0
StartIs symbols start true rest all = start ≡ start_in symbols all
StartIs symbols start false rest all = start_in symbols rest ≡ start_in symbols all

started : (symbols : List SymbolEntry) (start : ℕ) (rest all : List PassStep) (is_ended : Bool) → is_ended ≡ true → StartIs symbols start is_ended rest all → start ≡ start_in symbols all
started symbols start rest all true e h = h
started symbols start rest all false e h = absurd cc

start_on : (symbols : List SymbolEntry) (start : ℕ) (is_ended : Bool) (head : Option ℕ) (x : PassStep) (rest all : List PassStep) → x.before.ended ≡ is_ended → x.before.head ≡ head → StartIs symbols start is_ended (x ∷ rest) all →
    StartIs symbols (if ends_if is_ended (counts_if is_ended x.text.shape) x.text && not is_ended then start_value head symbols (statement_place x) x.text else start) (ends_if is_ended (counts_if is_ended x.text.shape) x.text) rest all
unfolding start_in
start_on symbols start true head x rest all e headed h = h
start_on symbols start false head x rest all e headed h = by_bool (counts_if false x.text.shape && is_end (operation_of x.text))
    (λ t. let k = rw (e, t) at h in rw (t, ← headed) k)
    (λ t. let k = rw (e, t) at h in rw t k)

pub record Assembling (symbols : List SymbolEntry) (positions : ℕ) (w : WalkText) (places : List Place) (source : List ℕ) (whole : Option Refusal) (start : ℕ) (placed : List PlacedText) (image : List (Option Digit)) : Type 0 where
  pub follows : Follows (faults_at symbols positions) (ends_of source) w places source whole
  pub placed_are : placed ≡ map (placed_text symbols positions) follows.done
  pub image_is : image ≡ with_fields (replicate positions None) (map (statement_run symbols positions) follows.done)
  pub start_is : StartIs symbols start w.ended (statements follows.st w.lines) (statements_of source)

pub begins : (symbols : List SymbolEntry) (positions : ℕ) (source : List ℕ) (places : List Place) → symbols ≡ symbols_of source → places ≡ statement_places source → Assembling symbols positions (walk_of source) places source (refusal_of positions source) 0 [] (replicate positions None)
unfolding with_fields
begins symbols positions source places e_symbols e = record {
  follows = record { st = first; done = []; number_is = refl; ended_is = refl; head_is = refl; all_is = refl; last_is = refl; places_is = sym e; comes = rw e_symbols refl };
  placed_are = refl;
  image_is = refl;
  start_is = refl;
}

-- what the loop has in its hands beside a statement
module _ (symbols : List SymbolEntry) (positions : ℕ) (w : WalkText) (places : List Place) (source : List ℕ) (whole : Option Refusal) (start : ℕ) (placed : List PlacedText) (image : List (Option Digit)) (g : Assembling symbols positions w places source whole start placed image) where
  abbrev f : Follows (faults_at symbols positions) (ends_of source) w places source whole
  f = g.follows

  module _ (line : List ℕ) (lines : List (List ℕ)) (more : w.lines ≡ line ∷ lines) (p : Place) (ps : List Place) (e_places : places ≡ p ∷ ps) (s : StatementText) (e_s : s ≡ statement_of line) where
    x : PassStep
    x = pass_step f.st line

    e_p : p ≡ statement_place (pass_step f.st line)
    e_p = place_is (faults_at symbols positions) (ends_of source) w places source whole f line lines more p ps e_places

    same_placed : (ended : Bool) (n : ℕ) (h : Option ℕ) → f.st.ended ≡ ended → f.st.number ≡ n → f.st.head ≡ h → (digits : List Digit) → digits ≡ (statement_outcome h symbols (statement_place (pass_step f.st line)) ended n (statement_of line) positions).digits →
        record { address = (statement_place (pass_step f.st line)).label; instruction = counts_if ended (statement_of line).shape && is_instruction (operation_of (statement_of line)); digits = digits } ≡ placed_text symbols positions (pass_step f.st line)
    same_placed ended n h e_ended e_number e_head digits e = rw (e, ← e_ended, ← e_number, ← e_head) refl

    same_field : (ended : Bool) (n : ℕ) (h : Option ℕ) → f.st.ended ≡ ended → f.st.number ≡ n → f.st.head ≡ h → (digits : List Digit) → digits ≡ (statement_outcome h symbols (statement_place (pass_step f.st line)) ended n (statement_of line) positions).digits →
        run_with (first_address (operation_of (statement_of line)) (statement_place (pass_step f.st line))) digits ≡ statement_run symbols positions (pass_step f.st line)
    same_field ended n h e_ended e_number e_head digits e = rw (e, ← e_ended, ← e_number, ← e_head) refl

    module _ (r : Option Fault) (e_r : r ≡ least None (faults_at symbols positions (pass_step f.st line))) (none : r ≡ None) (digits : List Digit) (e_digits : digits ≡ (statement_outcome w.head symbols p w.ended w.number s positions).digits) where
      pub on : Follows (faults_at symbols positions) (ends_of source) (walk_past (one_further w lines) (statement_of line)) ps source whole
      on = next (faults_at symbols positions) (ends_of source) w places source whole f line lines more p ps e_places r e_r none

      done_is : on.done ≡ f.done ++ pass_step f.st line ∷ []
      unfolding on
      done_is = next_done (faults_at symbols positions) (ends_of source) w places source whole f line lines more p ps e_places r e_r none

      state_is : on.st ≡ state_before_next f.st (statement_of line)
      unfolding on
      state_is = next_state (faults_at symbols positions) (ends_of source) w places source whole f line lines more p ps e_places r e_r none

      digits_here : digits ≡ (statement_outcome w.head symbols (statement_place (pass_step f.st line)) w.ended w.number (statement_of line) positions).digits
      digits_here = rw (← e_p, ← e_s) e_digits

      pub placed_on : placed ++ record { address = p.label; instruction = counts_if w.ended s.shape && is_instruction (operation_of s); digits = digits } ∷ [] ≡ map (placed_text symbols positions) on.done
      placed_on =
          let h = same_placed w.ended w.number w.head f.ended_is f.number_is f.head_is digits digits_here in
          ap (λ (ys : List PlacedText). ys ++ record { address = p.label; instruction = counts_if w.ended s.shape && is_instruction (operation_of s); digits = digits } ∷ []) g.placed_are
          ∙ rw (done_is, map-append, e_s, e_p) (ap (λ y. map (placed_text symbols positions) f.done ++ y ∷ []) h)

      pub image_on : with_digits image (first_address (operation_of s) p) digits ≡ with_fields (replicate positions None) (map (statement_run symbols positions) on.done)
      image_on =
          let h = same_field w.ended w.number w.head f.ended_is f.number_is f.head_is digits digits_here in
          ap (λ (cells : List (Option Digit)). with_digits cells (first_address (operation_of s) p) digits) g.image_is
          ∙ rw (done_is, map-append, e_s, e_p) (ap (λ (y : DigitRun). with_digits (with_fields (replicate positions None) (map (statement_run symbols positions) f.done)) y.from y.digits) h ∙ sym (written_last (replicate positions None) (map (statement_run symbols positions) f.done) (statement_run symbols positions (pass_step f.st line))))

      pub start_is_on : StartIs symbols (if ends_if w.ended (counts_if w.ended s.shape) s && not w.ended then start_value w.head symbols p s else start) (ends_if w.ended (counts_if w.ended (statement_of line).shape) (statement_of line)) (statements on.st lines) (statements_of source)
      unfolding statements
      start_is_on =
          let h = rw more at g.start_is in
          let o = start_on symbols start w.ended w.head (pass_step f.st line) (statements (state_before_next f.st (statement_of line)) lines) (statements_of source) f.ended_is f.head_is h in
          rw (state_is, e_s, e_p) o

      pub goes_on : (new_start : ℕ) → new_start ≡ (if ends_if w.ended (counts_if w.ended s.shape) s && not w.ended then start_value w.head symbols p s else start) → (new_placed : List PlacedText) → new_placed ≡ placed ++ record { address = p.label; instruction = counts_if w.ended s.shape && is_instruction (operation_of s); digits = digits } ∷ [] → (new_image : List (Option Digit)) → new_image ≡ with_digits image (first_address (operation_of s) p) digits → Assembling symbols positions (walk_past (one_further w lines) (statement_of line)) ps source whole new_start new_placed new_image
      goes_on new_start e_start new_placed e_placed new_image e_image = record {
        follows = on;
        placed_are = e_placed ∙ placed_on;
        image_is = e_image ∙ image_on;
        start_is = rw e_start start_is_on;
      }

-- nothing is refused: the start is known, and all statements are placed
module _ (symbols : List SymbolEntry) (positions : ℕ) (w : WalkText) (places : List Place) (source : List ℕ) (whole : Option Refusal) (start : ℕ) (placed : List PlacedText) (image : List (Option Digit)) (g : Assembling symbols positions w places source whole start placed image) (last : w.lines ≡ []) where
  pub all_done : g.follows.done ≡ statements_of source
  unfolding statements
  all_done = sym (append-nil g.follows.done) ∙ rw last at g.follows.all_is

  pub all_placed : placed ≡ map (placed_text symbols positions) (statements_of source)
  all_placed = g.placed_are ∙ ap (λ (xs : List PassStep). map (placed_text symbols positions) xs) all_done

  pub all_fields : image ≡ with_fields (replicate positions None) (map (statement_run symbols positions) (statements_of source))
  all_fields = g.image_is ∙ ap (λ (xs : List PassStep). with_fields (replicate positions None) (map (statement_run symbols positions) xs)) all_done

  pub start_known : w.ended ≡ true → start ≡ start_in symbols (statements_of source)
  start_known e = started symbols start (statements g.follows.st w.lines) (statements_of source) w.ended e g.start_is

-- the image has a cell for each position
pub image_size : (symbols : List SymbolEntry) (positions : ℕ) (w : WalkText) (places : List Place) (source : List ℕ) (whole : Option Refusal) (start : ℕ) (placed : List PlacedText) (image : List (Option Digit)) → Assembling symbols positions w places source whole start placed image → length image ≡ positions
image_size symbols positions w places source whole start placed image g =
    ap (λ (cells : List (Option Digit)). length cells) g.image_is ∙ (length_all (map (statement_run symbols positions) g.follows.done) (replicate positions None) ∙ length_none positions)

-- no refusal at the end: the source has a DEND
pub not_refused : (is_ended : Bool) (w : Option Fault) → w ≡ least None (end_faults is_ended) → w ≡ None → is_ended ≡ true
unfolding least
not_refused true w e none = refl
not_refused false w e none = absurd (let k = rw e at none in cc)

pub whole_none : (whole : Option Refusal) → None ≡ option_map statement_and_fault whole → whole ≡ None
whole_none None e = refl
whole_none (Some r) e = absurd cc
