-- The line of a statement, and the line of its refusal.
use Rattle.std.proofs.Common.{◌≡◌, ℕ, suc, ◌+◌, ◌-◌, ◌≤◌, ◌<◌, List, [], ◌∷◌, ◌++◌, length, refl, sym, ap, ◌∙◌, arith, Option}
use Rattle.std.proofs.lemmas.List.{append_assoc}
use Rattle.std.specs.Prelude.{slice_index_or}
use Rattle.outside_io.specs.Lines.{texts_of, first_text, behind_line, with_line_feed}
use Rattle.outside_io.proofs.WholeLines.{texts_of-front}
use Rattle.sps_ops.specs.declared.rule.Rule.{Rule}
use Rattle.sps_scan.specs.Statement.{StatementText, statement_of}
use Rattle.sps_listing.specs.Texts.{source_line_at, shown_text, behind_blank, refusal_head, refusal_line}

-- the line that stands behind so many others
abbrev pub line_behind : List ℕ → ℕ → List ℕ
line_behind rest n = slice_index_or (texts_of rest) n []

-- behind the first line one less stands before it
pub one_less : (rest behind : List ℕ) (statement number : ℕ) → 0 < length rest → behind ≡ behind_line rest → number < statement → line_behind rest (statement - number) ≡ line_behind behind (statement - (number + 1))
one_less rest behind statement number some e h =
    let k : statement - number ≡ suc (statement - (number + 1)) = omega arith in
    rw (k, e, texts_of-front rest some) refl

-- none stands before it
pub is_first : (rest line : List ℕ) (statement number : ℕ) → 0 < length rest → line ≡ first_text rest → statement ≤ number → line ≡ line_behind rest (statement - number)
is_first rest line statement number some e h =
    let k : statement - number ≡ 0 = omega arith in
    rw (k, e, texts_of-front rest some) refl

-- two parts, written otherwise, are ended
ended_as : (front text head behind : List ℕ) → front ++ text ≡ head ++ behind → front ++ with_line_feed text ≡ head ++ with_line_feed behind
ended_as front text head behind e =
    sym (append_assoc front text (10 ∷ [])) ∙ (ap (λ (line : List ℕ). with_line_feed line) e ∙ append_assoc head behind (10 ∷ []))

-- the front and what is shown are the line of a refusal
pub refusal_is : (source line front bytes shown : List ℕ) (statement : ℕ) (rule : Rule) (part : Option ℕ) (s : StatementText) → line ≡ source_line_at source statement → s ≡ statement_of line → shown ≡ shown_text rule part s
    → front ≡ bytes → bytes ++ shown ≡ refusal_head statement rule ++ behind_blank shown → front ++ with_line_feed shown ≡ refusal_line source statement rule part
unfolding refusal_line
refusal_is source line front bytes shown statement rule part s e_line e_s e_shown e_front e =
    let text : shown ≡ shown_text rule part (statement_of (source_line_at source statement)) = e_shown ∙ ap (λ (x : StatementText). shown_text rule part x) (e_s ∙ ap statement_of e_line) in
    rw e_front (ended_as bytes shown (refusal_head statement rule) (behind_blank shown) e ∙ ap (λ (t : List ℕ). refusal_head statement rule ++ with_line_feed (behind_blank t)) text)
