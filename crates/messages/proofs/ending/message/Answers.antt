use Rattle.std.proofs.Common.{◌≡◌, ◌<◌, ◌==◌, ◌++◌, ℕ, List, length, Bool, true, false, arith, refl, length-append}
use Rattle.std.proofs.lemmas.Bool.Decides.{nat_tests}
use Rattle.std.proofs.lemmas.Grind.{common_steps}
use Rattle.messages.proofs.Whole.{whole_behind}
use Rattle.messages.specs.Ending.{is_quiet}
use Rattle.messages.proofs.ending.message.Goals as goal

-- there is a line, if empty last lines mean that there is a first line
has_line : (first last : List ℕ) (b : Bool) → b ≡ (length last == 0) → (b ≡ true → 0 < length first) → 0 < length (first ++ last)
has_line first last true is some = let one : 0 < length first = some refl in grind (arith, length-append)
has_line first last false is some = grind (arith, nat_tests, length-append)

pub returns : goal.returns
returns c =
    let first = c.first_lines-first.result.text.bytes in
    let last = c.last_lines-last.result.bytes in
    let all : c.push_str-2.new.self.bytes ≡ first ++ last =
    rw (c.push_str-2.ensures.bytes, c.push_str.ensures.bytes, c.new-text.ensures, c.as_str.ensures.is, c.as_str-2.ensures.value) refl in
    let loud : is_quiet c.args.ending.now ≡ false = grind (arith, common_steps) in
    record {
      none = λ quiet. grind (arith, common_steps);
      some = λ _. record {
        first = first;
        is = rw c.last_lines-last.ensures.is at all;
        whole = rw all (whole_behind _ _ c.first_lines-first.result.whole c.last_lines-last.ensures.whole);
        some = rw all (has_line first last c.is_empty.result c.is_empty.ensures c.first_lines-first.ensures);
      };
    }
