-- One step of a walk, and one statement that is passed.
use Rattle.std.proofs.Common.{◌≡◌, ℕ, suc, ◌+◌, ◌-◌, ◌≤◌, ◌<◌, Bool, Option, List, ◌∷◌, length, sym, ap, ◌∙◌, refl, arith}
use Rattle.outside_io.specs.Lines.{first_text, behind_line}
use Rattle.outside_io.proofs.WholeLines.{texts_of-front}
use Rattle.sps_scan.specs.declared.statement.Shape.{Shape}
use Rattle.sps_scan.specs.Statement.{StatementText, statement_of}
use Rattle.sps_pass_one.specs.declared.walk.SourceLine.{SourceLine}
use Rattle.sps_pass_one.specs.Layout.{counts_if}
use Rattle.sps_pass_one.specs.Walk.{WalkText, source_lines_left, one_further, walk_past, ComesToLine}

-- a line more
pub lines_front : (number : ℕ) (rest line behind_it : List ℕ) → number ≤ 20001 → 0 < length rest → line ≡ first_text rest → behind_it ≡ behind_line rest → source_lines_left number rest ≡ line ∷ source_lines_left (number + 1) behind_it
lines_front number rest line behind_it n some e_line e_behind =
    let k : 20002 - number ≡ suc (20002 - (number + 1)) = omega arith in
    rw (e_line, e_behind, k, texts_of-front rest some) refl

-- one line fewer is left
pub one_less : (lines left : List (List ℕ)) (line : List ℕ) → lines ≡ line ∷ left → length left < length lines
one_less lines left line e = rw e (omega arith)

-- a walk that came to a line and then passed its statement
pub record Passes (w : WalkText) (line : List ℕ) (v : WalkText) : Type 0 where
  pub front : w.lines ≡ line ∷ v.lines
  pub behind : v ≡ walk_past (one_further w v.lines) (statement_of line)

module _ (w n : WalkText) (x : SourceLine) (c : ComesToLine w x n) where
  pub head_stays : (head : Option ℕ) → head ≡ n.head → head ≡ w.head
  head_stays head e = e ∙ ap (λ (m : WalkText). m.head) c.further

  pub ended_stays : (ended : Bool) → ended ≡ n.ended → ended ≡ w.ended
  ended_stays ended e = e ∙ ap (λ (m : WalkText). m.ended) c.further

  pub passed : (v : WalkText) (s : StatementText) → s ≡ statement_of x.text.now → v ≡ walk_past n s → Passes w x.text.now v
  passed v s e_s e_v =
      let e : v ≡ walk_past (one_further w n.lines) (statement_of x.text.now) = e_v ∙ (ap (λ (m : WalkText). walk_past m s) c.further ∙ ap (λ (t : StatementText). walk_past (one_further w n.lines) t) e_s) in
      let l : v.lines ≡ n.lines = ap (λ (m : WalkText). m.lines) e in
      record { front = c.line ∙ ap (λ (ls : List (List ℕ)). x.text.now ∷ ls) (sym l); behind = e ∙ ap (λ (ls : List (List ℕ)). walk_past (one_further w ls) (statement_of x.text.now)) (sym l) }

-- the number of the next line
pub number_behind : (w v : WalkText) (line : List ℕ) → Passes w line v → v.number ≡ w.number + 1
number_behind w v line p = ap (λ (m : WalkText). m.number) p.behind

-- whether the statement counts to which a walk came
pub active_is : (w n : WalkText) (x : SourceLine) → ComesToLine w x n → (ended active : Bool) (shape : Shape) → ended ≡ n.ended → active ≡ counts_if ended shape → active ≡ counts_if w.ended shape
active_is w n x c ended active shape e_ended e_active = rw (← ended_stays w n x c ended e_ended) e_active

-- one line fewer is left
pub passed_less : (w v : WalkText) (line : List ℕ) → Passes w line v → length v.lines < length w.lines
passed_less w v line p = one_less w.lines v.lines line p.front
