-- The statements that are still to come, and what comes of them.
use Rattle.std.proofs.Common.{◌≡◌, ℕ, ◌+◌, List, [], ◌∷◌, refl, sym, ap, ◌∙◌}
use Rattle.sps_scan.specs.Statement.{statement_of}
use Rattle.sps_pass_one.specs.Layout.{PassState, first, state_before_next, PassStep, pass_step, statements, statements_of}
use Rattle.sps_pass_one.specs.Walk.{WalkText, walk_of, one_further, walk_past}

-- what comes of the statements that are left is what comes of all
pub record Ahead (T : Type 0) (answer : List PassStep → T) (w : WalkText) (whole : T) : Type 0 where
  pub st : PassState
  pub number_is : st.number ≡ w.number
  pub ended_is : st.ended ≡ w.ended
  pub head_is : st.head ≡ w.head
  pub comes : answer (statements st w.lines) ≡ whole

pub begins : (T : Type 0) (answer : List PassStep → T) (source : List ℕ) → Ahead T answer (walk_of source) (answer (statements_of source))
begins T answer source = record { st = first; number_is = refl; ended_is = refl; head_is = refl; comes = refl }

module _ (T : Type 0) (answer : List PassStep → T) (w : WalkText) (whole : T) (a : Ahead T answer w whole) where
  pub at_end : w.lines ≡ [] → answer [] ≡ whole
  unfolding statements
  at_end none = rw none at a.comes

  module _ (line : List ℕ) (lines : List (List ℕ)) (more : w.lines ≡ line ∷ lines) where
    abbrev pub later : List PassStep
    later = statements (state_before_next a.st (statement_of line)) lines

    pub comes_here : answer (pass_step a.st line ∷ later) ≡ whole
    unfolding statements
    comes_here = rw more at a.comes

    module _ (next_answer : List PassStep → T) (same : answer (pass_step a.st line ∷ later) ≡ next_answer later) where
      pub next : Ahead T next_answer (walk_past (one_further w lines) (statement_of line)) whole
      unfolding state_before_next
      next = record {
        st = state_before_next a.st (statement_of line);
        number_is = ap (λ n. n + 1) a.number_is;
        ended_is = rw (← a.ended_is) refl;
        head_is = rw (← a.ended_is, ← a.head_is) refl;
        comes = sym same ∙ comes_here;
      }
