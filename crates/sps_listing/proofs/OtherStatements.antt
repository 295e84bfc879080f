-- The head in force at a statement, and the statement whose label a part lacks.
use Rattle.std.proofs.Common.{◌≡◌, ◌≢◌, ℕ, ◌&&◌, ◌==◌, Bool, true, false, not, List, [], ◌∷◌, refl, ◌∙◌, arith, Option, Some, None, if◌then◌else◌}
use Rattle.std.specs.Prelude.{is_some, filter}
use Rattle.std.proofs.lemmas.Bool.Decides.{nat_tests}
use Rattle.sps_scan.specs.Statement.{StatementText, statement_of}
use Rattle.sps_expr.specs.Symbol.{SymbolEntry}
use Rattle.sps_expr.proofs.Cases.{by_bool}
use Rattle.sps_pass_one.specs.Layout.{PassState, PassStep, pass_step, is_label, with_label}
use Rattle.sps_listing.specs.Others.{head_in_steps, line_rule, label_columns, has_lost_label, with_lost_label, lacks_symbol, suffices, first_together, number_and_rule}

-- the statement is the one with the number
pub head_here : (st : PassState) (line : List ℕ) (steps : List PassStep) (number statement : ℕ) (head : Option ℕ) → st.number ≡ number → st.head ≡ head → number ≡ statement → head_in_steps statement (pass_step st line ∷ steps) ≡ Some head
head_here st line steps number statement head e_number e_head e =
    let t : (st.number == statement) ≡ true = grind (arith, nat_tests) in
    rw (t, e_head) refl

-- it is another one
pub head_later : (st : PassState) (line : List ℕ) (steps : List PassStep) (number statement : ℕ) → st.number ≡ number → number ≢ statement → head_in_steps statement (pass_step st line ∷ steps) ≡ head_in_steps statement steps
head_later st line steps number statement e_number e =
    let t : (st.number == statement) ≡ false = grind (arith, nat_tests) in
    rw t refl

-- the first statement with which the lost labels suffice, of those that are left, with the symbols so far
abbrev pub lost_in : Option ℕ → List ℕ → List SymbolEntry → List PassStep → Option PassStep
lost_in head part symbols steps = first_together (suffices head part symbols) (filter has_lost_label steps)

pub none_lost : (head : Option ℕ) (part : List ℕ) (symbols : List SymbolEntry) → lost_in head part symbols [] ≡ None
unfolding first_together
none_lost head part symbols = refl

module _ (head : Option ℕ) (part : List ℕ) (symbols : List SymbolEntry) (x : PassStep) (xs : List PassStep) (lost : Bool) (new : List SymbolEntry) (e_lost : lost ≡ has_lost_label x) (e_new : new ≡ (if lost then with_lost_label symbols x else symbols)) where
  -- its label is lost, and suffices with those before it
  pub stops_here : (lost && not (lacks_symbol head part new)) ≡ true → lost_in head part symbols (x ∷ xs) ≡ Some x
  unfolding first_together
  stops_here h = by_bool (has_lost_label x)
      (λ t.
      let e : lost ≡ true = e_lost ∙ t in
      let n = rw e at e_new in
      let k = rw (e, n) at h in
      rw (t, k) refl)
      (λ f. absurd (let e : lost ≡ false = e_lost ∙ f in let k = rw e at h in cc))

  -- its label is not lost, or does not suffice
  pub goes_on : (lost && not (lacks_symbol head part new)) ≡ false → lost_in head part symbols (x ∷ xs) ≡ lost_in head part new xs
  unfolding first_together
  goes_on h = by_bool (has_lost_label x)
      (λ t.
      let e : lost ≡ true = e_lost ∙ t in
      let n = rw e at e_new in
      let k = rw (e, n) at h in
      rw (t, k, n) refl)
      (λ f.
      let e : lost ≡ false = e_lost ∙ f in
      let n = rw e at e_new in
      rw (f, n) refl)

-- what the walk knows of a statement is what the step says
module _ (st : PassState) (line : List ℕ) (number : ℕ) (is_ended : Bool) (head : Option ℕ) (s : StatementText) (name : List ℕ) (e_number : st.number ≡ number) (e_ended : st.ended ≡ is_ended) (e_head : st.head ≡ head) (e_s : s ≡ statement_of line) (e_name : name ≡ label_columns line) where
  pub lost_is : (lost : Bool) → lost ≡ (is_some (line_rule s.shape) && (not is_ended && is_label name)) → lost ≡ has_lost_label (pass_step st line)
  lost_is lost e = rw (e_s, e_name, ← e_ended) at e

  pub symbols_are : (lost : Bool) (old new : List SymbolEntry) → new ≡ (if lost then with_label head old name 0 number else old) → new ≡ (if lost then with_lost_label old (pass_step st line) else old)
  symbols_are lost old new e = rw (e_name, ← e_number, ← e_head) at e

  pub names_it : number_and_rule (pass_step st line) ≡ (number, line_rule s.shape)
  names_it = rw (e_s, ← e_number) refl
