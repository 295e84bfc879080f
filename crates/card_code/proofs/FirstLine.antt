-- The first line of what is left, as far as it is told, by what is held of it.
use Rattle.std.proofs.Common.{◌≡◌, ℕ, ◌<◌, ◌≤◌, List, [], ◌∷◌, ◌++◌, length, drop, refl, sym, ◌∙◌, ap, arith, append_assoc, length-append}
use Rattle.std.proofs.lemmas.List.{append-nil}
use Rattle.std.specs.Prelude.{Option, Some, None, option_map, IfSome}
use Rattle.outside_io.specs.World.{BeginsWith}
use Rattle.outside_io.specs.Lines.{first_line_of, behind_line, first_text, without_return, HasNoEnd}
use Rattle.outside_io.proofs.LineLemmas.{line_of-append, behind_line-append, length-without_return}

-- bytes go over from what the unit has left to what is pending
pub rest_moves : (old new taken : List ℕ) (left : Option (List ℕ)) → old ++ taken ≡ new → BeginsWith taken left
    → option_map (λ l. new ++ l) (option_map (drop (length taken)) left) ≡ option_map (λ l. old ++ l) left
rest_moves old new taken None parts begins = refl
rest_moves old new taken (Some all) parts begins = ap (λ (x : List ℕ). Some x) (ap (λ (x : List ℕ). x ++ drop (length taken) all) (sym parts) ∙ append_assoc old taken (drop (length taken) all) ∙ ap (λ (x : List ℕ). old ++ x) (sym begins))

-- A LF stands behind what is held.

-- a byte is left
pub end_some : (held ahead : List ℕ) (left : Option (List ℕ)) → IfSome (option_map (λ l. (held ++ 10 ∷ ahead) ++ l) left) (λ rest. 0 < length rest)
end_some held ahead None = tt
end_some held ahead (Some all) = omega (arith, length-append (held ++ 10 ∷ ahead) all, length-append held (10 ∷ ahead))

-- what is held is the first line
end_line : (held ahead all : List ℕ) → HasNoEnd held → first_line_of ((held ++ 10 ∷ ahead) ++ all) ≡ held
end_line held ahead all none = ap first_line_of (append_assoc held (10 ∷ ahead) all) ∙ line_of-append held (10 ∷ (ahead ++ all)) none ∙ append-nil held

-- without a CR at its end it is the first text
pub end_text : (held ahead : List ℕ) (left : Option (List ℕ)) → HasNoEnd held → IfSome (option_map (λ l. (held ++ 10 ∷ ahead) ++ l) left) (λ rest. without_return held ≡ first_text rest)
end_text held ahead None none = tt
end_text held ahead (Some all) none = ap without_return (sym (end_line held ahead all none))

-- what is ahead of the LF is behind the first line
pub end_behind : (held ahead : List ℕ) (left : Option (List ℕ)) → HasNoEnd held → option_map (λ l. ahead ++ l) left ≡ option_map behind_line (option_map (λ l. (held ++ 10 ∷ ahead) ++ l) left)
end_behind held ahead None none = refl
end_behind held ahead (Some all) none = ap (λ (x : List ℕ). Some x) (sym (ap behind_line (append_assoc held (10 ∷ ahead) all) ∙ behind_line-append held (10 ∷ (ahead ++ all)) none))

-- No LF stands in all that is left, which is held.

-- a byte is left
pub last_some : (held : List ℕ) (left : Option (List ℕ)) → 0 < length held → IfSome (option_map (λ l. held ++ l) left) (λ rest. 0 < length rest)
last_some held None some = tt
last_some held (Some all) some = omega (arith, length-append held all)

-- what is held is the first line
last_line : (held all : List ℕ) → all ≡ [] → HasNoEnd held → first_line_of (held ++ all) ≡ held
last_line held all empty none = line_of-append held all none ∙ ap (λ (x : List ℕ). held ++ first_line_of x) empty ∙ append-nil held

-- without a CR at its end it is the first text
pub last_text : (held : List ℕ) (left : Option (List ℕ)) → HasNoEnd held → IfSome left (λ all. all ≡ []) → IfSome (option_map (λ l. held ++ l) left) (λ rest. without_return held ≡ first_text rest)
last_text held None none empty = tt
last_text held (Some all) none empty = ap without_return (sym (last_line held all empty none))

-- nothing is behind it
pub last_behind : (held after : List ℕ) (left : Option (List ℕ)) → after ≡ [] → HasNoEnd held → IfSome left (λ all. all ≡ []) → option_map (λ l. after ++ l) left ≡ option_map behind_line (option_map (λ l. held ++ l) left)
last_behind held after None is none empty = refl
last_behind held after (Some all) is none empty = ap (λ (x : List ℕ). Some x) (ap (λ (x : List ℕ). x ++ all) is ∙ empty ∙ sym (behind_line-append held all none ∙ ap behind_line empty))

-- where nothing is held, nothing is left
pub nothing_left : (held : List ℕ) (left : Option (List ℕ)) → held ≡ [] → IfSome left (λ all. all ≡ []) → IfSome (option_map (λ l. held ++ l) left) (λ rest. rest ≡ [])
nothing_left held None none empty = tt
nothing_left held (Some all) none empty = ap (λ (x : List ℕ). x ++ all) none ∙ empty

-- More is held than a line can have.

-- so the first text is over 80 bytes
pub over_text : (held more : List ℕ) (left : Option (List ℕ)) → HasNoEnd held → 82 ≤ length held → IfSome (option_map (λ l. (held ++ more) ++ l) left) (λ rest. 80 < length (first_text rest))
over_text held more None none much = tt
over_text held more (Some all) none much =
    let line : first_line_of ((held ++ more) ++ all) ≡ held ++ first_line_of (more ++ all) = ap first_line_of (append_assoc held more all) ∙ line_of-append held (more ++ all) none in
    omega (arith, ap length line, length-append held (first_line_of (more ++ all)), length-without_return (first_line_of ((held ++ more) ++ all)))

-- a text over 80 bytes is the first text
pub long_told : (rest : Option (List ℕ)) (text : List ℕ) → 80 < length text → IfSome rest (λ r. text ≡ first_text r) → IfSome rest (λ r. 80 < length (first_text r))
long_told None text long is = tt
long_told (Some rest) text long is = omega (arith, long, ap length is)

-- another text that is the same is the first text too
pub text_told : (rest : Option (List ℕ)) (text given : List ℕ) → given ≡ text → IfSome rest (λ r. text ≡ first_text r) → IfSome rest (λ r. given ≡ first_text r)
text_told None text given same is = tt
text_told (Some rest) text given same is = same ∙ is
