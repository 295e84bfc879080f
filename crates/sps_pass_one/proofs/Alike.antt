-- A layout comes out alike with the symbols of earlier statements and with all.
use Rattle.std.proofs.Common.{◌≡◌, ℕ, ℤ, ◌&&◌, List, [], ◌∷◌, ◌++◌, refl, ap, Option, Some, None, Result, Ok, Err}
use Rattle.sps_ops.specs.declared.rule.Rule.{Rule}
use Rattle.sps_ops.specs.declared.rule.Rule.TheVariants.{LateSymbol}
use Rattle.sps_expr.specs.Grammar.{is_nothing}
use Rattle.sps_expr.specs.Symbol.{SymbolEntry}
use Rattle.sps_expr.specs.Earlier.{AreEarlier, undefined_for_late}
use Rattle.sps_expr.specs.Value.{Scope, scope_of, value_of}
use Rattle.sps_expr.proofs.Cases.{by_bool}
use Rattle.sps_expr.proofs.EarlierSymbols.{early_value}
use Rattle.sps_scan.specs.Statement.{StatementText}
use Rattle.sps_pass_one.specs.declared.fault.Fault.{Fault}
use Rattle.sps_pass_one.specs.declared.ask.Ask.{Ask}
use Rattle.sps_pass_one.specs.declared.ask.Form.{Form}
use Rattle.sps_pass_one.specs.declared.ask.OperandReading.{OperandReading}
use Rattle.sps_pass_one.specs.declared.ask.OperandReading.TheVariants.{Expression, TwoDigits}
use Rattle.sps_pass_one.specs.Measure.{OperandAnswer, answer, answer_if, in_bounds, read_as, part_at, lacks, lacking_faults, measure, size_of, natural_address}
use Rattle.sps_pass_one.specs.Laws.{AreAlike}

-- two answers: both without faults or none, and the same value
record Alike (a b : OperandAnswer) : Type 0 where
  faults : is_nothing a.faults ≡ is_nothing b.faults
  value : a.value ≡ b.value

same : (a : OperandAnswer) → Alike a a
same a = record { faults = refl; value = refl }

bound_alike : (q : Ask) (r : Result ℤ Rule) → Alike (in_bounds q (undefined_for_late r)) (in_bounds q r)
bound_alike q (Ok v) = same (in_bounds q (Ok v))
bound_alike q (Err LateSymbol) = record { faults = refl; value = refl }
bound_alike q (Err rule) = record { faults = refl; value = refl }

nothing_append : (xs ys : List Fault) → is_nothing (xs ++ ys) ≡ (is_nothing xs && is_nothing ys)
nothing_append [] ys = refl
nothing_append (x ∷ xs) ys = refl

module _ (head : Option ℕ) (earlier all : List SymbolEntry) (here : ℤ) (before : ℕ) (s : StatementText) (known : AreEarlier earlier all before) where
  abbrev early : Scope
  early = scope_of head earlier here None

  abbrev late : Scope
  late = scope_of head all here (Some before)

  read_alike : (q : Ask) (reading : OperandReading) (part : List ℕ) → Alike (in_bounds q (read_as reading early part)) (in_bounds q (read_as reading late part))
  read_alike q TwoDigits part = same _
  read_alike q Expression part = rw (early_value head earlier all here before known part) (bound_alike q (value_of late part))

  answer_alike : (q : Ask) → Alike (answer early s q) (answer late s q)
  unfolding answer
  answer_alike q = by_bool (lacks s q.place) (λ t. rw t (record { faults = refl; value = refl })) (λ f. rw f (read_alike q q.reading (part_at s q.place)))

  if_alike : (q : Option Ask) → Alike (answer_if early s q) (answer_if late s q)
  if_alike None = record { faults = refl; value = refl }
  if_alike (Some q) = answer_alike q

  pub measure_alike : (f : Form) → AreAlike (measure early s f) (measure late s f)
  unfolding measure
  measure_alike f =
      let n = if_alike f.n in
      let k = if_alike f.k in
      let a = if_alike f.a in
      let l = lacking_faults s f in
      record {
        faults = rw (nothing_append (lacking_faults s f) _, nothing_append (answer_if early s f.n).faults _, nothing_append (answer_if early s f.k).faults _, nothing_append (lacking_faults s f) ((answer_if late s f.n).faults ++ ((answer_if late s f.k).faults ++ (answer_if late s f.a).faults)), nothing_append (answer_if late s f.n).faults ((answer_if late s f.k).faults ++ (answer_if late s f.a).faults), nothing_append (answer_if late s f.k).faults (answer_if late s f.a).faults, n.faults, k.faults, a.faults) refl;
        n = ap size_of n.value;
        k = ap size_of k.value;
        address = ap natural_address a.value;
      }
