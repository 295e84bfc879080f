-- Where a line of Keys was read at once, the keyboard's lines show whether it was taken.
use Rattle.std.proofs.Common.{◌≡◌, ℕ, zero, suc, ◌+◌, ◌<◌, ◌≤◌, ◌==◌, Bool, true, false, ◌||◌, List, [], ◌∷◌, ◌++◌, length, map, drop, take, refl, sym, ◌∙◌, ap, subst, arith, inl, inr, append_assoc, length-append, if◌then◌else◌, All}
use Rattle.std.proofs.lemmas.Bool.{cases_lt}
use Rattle.std.proofs.lemmas.Bool.Decides.{nat_tests}
use Rattle.std.proofs.lemmas.List.{length-map, length-take}
use Rattle.std.proofs.lemmas.List.Elements.{All-head, All-tail}
use Rattle.std.specs.Prelude.{◌⊎◌, ◌-◌, Option, Some, None, IfSome, option_map, nat_lt, slice_index}
use Rattle.outside_io.specs.declared.host.Unit as unit
use Rattle.outside_io.specs.declared.host.Unit.TheVariants as units
use Rattle.outside_io.specs.World.{World, Asked, one_more}
use Rattle.outside_io.specs.Lines.{first_line_of, without_return, first_text, onto_first, lines_of, texts_of}
use Rattle.outside_io.specs.Events.{Event, lines_in}
use Rattle.card_code.specs.Entries.{Entry, Text, Long, entry, entries, entries_of_unit}
use Rattle.card_code.specs.Reader.{unit_of, lines_handed_out, bytes_held, has_end, AsksInTurn}
use Rattle.card_code.specs.declared.lines.Lines.{Lines}
use Rattle.cpu_step.specs.declared.console.Console.{Console}
use Rattle.typewriter.specs.Keys.{keys_left}
use Rattle.ibm1620_cli.specs.Promise.{MachineEnd, Job, AsksForInputs, unasked, asked}
use Rattle.ibm1620_cli.specs.Prompts.{IsTypedLine, lines_before, HasReadLine, PromptLaw}
use Rattle.ibm1620_cli.proofs.KeptPromises.{neither}

-- LINES OF BYTES

-- a LF ends the first line
first_line : (line rest : List ℕ) → has_end line ≡ false → lines_of (line ++ 10 ∷ rest) ≡ line ∷ lines_of rest
first_line [] rest none = refl
first_line (b ∷ line) rest none = let both = neither (b == 10) (has_end line) none in rw (both.0, first_line line rest both.1) refl

line_front : (line rest : List ℕ) → has_end line ≡ false → first_line_of (line ++ 10 ∷ rest) ≡ line
line_front [] rest none = refl
line_front (b ∷ line) rest none = let both = neither (b == 10) (has_end line) none in rw (both.0, line_front line rest both.1) refl

either_true : (b : Bool) → (b || true) ≡ true
either_true true = refl
either_true false = refl

ended : (line rest : List ℕ) → has_end (line ++ 10 ∷ rest) ≡ true
ended [] rest = refl
ended (b ∷ line) rest = rw (ended line rest) (either_true (b == 10))

shorter : (drops : Bool) (text : List ℕ) → length (if drops then take (length text - 1) text else text) ≤ length text
shorter true text = omega (arith, length-take (length text - 1) text)
shorter false text = omega arith

-- bytes have a first LF, or none
record HasFirst (bytes : List ℕ) : Type 0 where
  front : List ℕ
  behind : List ℕ
  is : bytes ≡ front ++ 10 ∷ behind
  none : has_end front ≡ false

by_byte : (b : ℕ) (bytes : List ℕ) (here : Bool) → (b == 10) ≡ here → (has_end bytes ≡ false) ⊎ HasFirst bytes → (has_end (b ∷ bytes) ≡ false) ⊎ HasFirst (b ∷ bytes)
by_byte b bytes true is rest = let same : b ≡ 10 = grind (arith, nat_tests) in inr (record { front = []; behind = bytes; is = ap (λ (x : ℕ). x ∷ bytes) same; none = refl })
by_byte b bytes false is (inl none) = inl (rw is none)
by_byte b bytes false is (inr first) = inr (record { front = b ∷ first.front; behind = first.behind; is = ap (λ (x : List ℕ). b ∷ x) first.is; none = rw is first.none })

split : (bytes : List ℕ) → (has_end bytes ≡ false) ⊎ HasFirst bytes
split [] = inl refl
split (b ∷ bytes) = by_byte b bytes (b == 10) refl (split bytes)

-- HOW MANY LINES

one_onto : (b : ℕ) (lines : List (List ℕ)) → 1 ≤ length (onto_first b lines)
one_onto b [] = omega arith
one_onto b (line ∷ lines) = omega arith

one_by : (b : ℕ) (bytes : List ℕ) (here : Bool) → 1 ≤ length (if here then [] ∷ lines_of bytes else onto_first b (lines_of bytes))
one_by b bytes true = omega arith
one_by b bytes false = one_onto b (lines_of bytes)

same_onto : (b : ℕ) (lines : List (List ℕ)) → 1 ≤ length lines → length (onto_first b lines) ≡ length lines
same_onto b [] some = absurd (omega arith)
same_onto b (line ∷ lines) some = refl

-- bytes without LF in front of others make no line more
no_line : (held : List ℕ) (b : ℕ) (more : List ℕ) → has_end held ≡ false → length (lines_of (held ++ b ∷ more)) ≡ length (lines_of (b ∷ more))
no_line [] b more none = refl
no_line (x ∷ held) b more none =
    let both = neither (x == 10) (has_end held) none in
    let rest = no_line held b more both.1 in
    let some : 1 ≤ length (lines_of (b ∷ more)) = one_by b more (b == 10) in
    rw both.0 (same_onto x (lines_of (held ++ b ∷ more)) (omega (arith, rest, some)) ∙ rest)

entries_length : (u : unit.Unit) (n : ℕ) (texts : List (List ℕ)) → length (entries u n texts) ≡ length texts
entries_length u n [] = refl
entries_length u n (text ∷ texts) = ap suc (entries_length u (one_more n) texts)

count : (u : unit.Unit) (n : ℕ) (bytes : List ℕ) → length (entries_of_unit u n bytes) ≡ length (lines_of bytes)
count u n bytes = entries_length u n (texts_of bytes) ∙ length-map (lines_of bytes) without_return

-- WHAT A KEYBOARD HOLDS

-- an entry that is a text
entry_by : (long : Bool) (u : unit.Unit) (n : ℕ) (text line : List ℕ) → nat_lt 80 (length text) ≡ long → (if long then Long u n else Text text) ≡ Text line → (text ≡ line) × (length text ≤ 80)
entry_by true u n text line test is = cc
entry_by false u n text line test is = let same : text ≡ line = cc in (same, grind (arith, nat_tests))

entry_text : (u : unit.Unit) (n : ℕ) (text line : List ℕ) → entry u n text ≡ Text line → (text ≡ line) × (length text ≤ 80)
entry_text u n text line is = entry_by (nat_lt 80 (length text)) u n text line refl is

-- the bytes that are held have a line with its LF, and the first text of them is no longer than a line may be
record HoldsLine (held line : List ℕ) : Type 0 where
  whole : has_end held ≡ true
  enough : length line + 1 ≤ length held
  fits : length (first_text held) ≤ 80

-- the lines of bytes whose first line ends
abbrev OfFirst : unit.Unit → ℕ → List ℕ → List ℕ → List ℕ → List Entry
OfFirst u n front behind left = entry u (one_more n) (without_return front) ∷ entries_of_unit u (one_more n) (behind ++ left)

of_first : (u : unit.Unit) (n : ℕ) (front behind left : List ℕ) → has_end front ≡ false → entries_of_unit u n ((front ++ 10 ∷ behind) ++ left) ≡ OfFirst u n front behind left
of_first u n front behind left none =
    ap (λ (bytes : List ℕ). entries_of_unit u n bytes) (append_assoc front (10 ∷ behind) left)
    ∙ ap (λ (lines : List (List ℕ)). entries u n (map without_return lines)) (first_line front (behind ++ left) none)

-- no LF in what is held makes no line more than what is left has
unheld : (lines : List (List ℕ)) (line : List ℕ) (u : unit.Unit) (n : ℕ) (held : List ℕ) (b : ℕ) (more : List ℕ) (es : List Entry)
    → entries_of_unit u n (held ++ b ∷ more) ≡ map Text lines ++ Text line ∷ es → length es ≡ length (lines_of (b ∷ more)) → has_end held ≡ false → ⊥
unheld lines line u n held b more es is many none =
    let whole : length (entries_of_unit u n (held ++ b ∷ more)) ≡ length (map Text lines ++ Text line ∷ es) = ap (λ (x : List Entry). length x) is in
    let parts = length-append (map Text lines) (Text line ∷ es) in
    let counted = count u n (held ++ b ∷ more) in
    let same = no_line held b more none in
    omega (arith, whole, parts, counted, same, many)

-- the first line is held, which is a text
first_held : (front behind text line : List ℕ) (u : unit.Unit) (n : ℕ) → has_end front ≡ false → entry u n (without_return front) ≡ Text text → length line + 1 ≤ length (front ++ 10 ∷ behind) → HoldsLine (front ++ 10 ∷ behind) line
first_held front behind text line u n none is enough =
    let short : length (without_return front) ≤ 80 = (entry_text u n (without_return front) text is).1 in
    record { whole = ended front behind; enough = enough; fits = rw (line_front front behind none) short }

-- where some lines are before a line, and what is left behind it, that line is held
holds : (lines : List (List ℕ)) (line : List ℕ) (u : unit.Unit) (n : ℕ) (held : List ℕ) (b : ℕ) (more : List ℕ) (es : List Entry)
    → entries_of_unit u n (held ++ b ∷ more) ≡ map Text lines ++ Text line ∷ es → length es ≡ length (lines_of (b ∷ more)) → HoldsLine held line
holds [] line u n held b more es is many = elim (split held) [
  | inl none ↦ absurd (unheld [] line u n held b more es is many none)
  | inr first ↦
      let both : OfFirst u n first.front first.behind (b ∷ more) ≡ Text line ∷ es =
      sym (of_first u n first.front first.behind (b ∷ more) first.none) ∙ ap (λ (x : List ℕ). entries_of_unit u n (x ++ b ∷ more)) (sym first.is) ∙ is in
      let head : entry u (one_more n) (without_return first.front) ≡ Text line = cc in
      let same : without_return first.front ≡ line = (entry_text u (one_more n) (without_return first.front) line head).0 in
      let size : length (without_return first.front) ≡ length line = ap (λ (x : List ℕ). length x) same in
      let most : length (without_return first.front) ≤ length first.front = shorter (slice_index first.front (length first.front - 1) == 13) first.front in
      let parts = length-append first.front (10 ∷ first.behind) in
      subst (λ (x : List ℕ). HoldsLine x line) (sym first.is) (first_held first.front first.behind line line u (one_more n) first.none head (omega (arith, size, most, parts)))
]
holds (l ∷ lines) line u n held b more es is many = elim (split held) [
  | inl none ↦ absurd (unheld (l ∷ lines) line u n held b more es is many none)
  | inr first ↦
      let both : OfFirst u n first.front first.behind (b ∷ more) ≡ Text l ∷ (map Text lines ++ Text line ∷ es) =
      sym (of_first u n first.front first.behind (b ∷ more) first.none) ∙ ap (λ (x : List ℕ). entries_of_unit u n (x ++ b ∷ more)) (sym first.is) ∙ is in
      let head : entry u (one_more n) (without_return first.front) ≡ Text l = cc in
      let tail : entries_of_unit u (one_more n) (first.behind ++ b ∷ more) ≡ map Text lines ++ Text line ∷ es = cc in
      let rest = holds lines line u (one_more n) first.behind b more es tail many in
      let enough : length line + 1 ≤ length first.behind = rest.enough in
      let parts = length-append first.front (10 ∷ first.behind) in
      subst (λ (x : List ℕ). HoldsLine x line) (sym first.is) (first_held first.front first.behind l line u (one_more n) first.none head (omega (arith, enough, parts)))
]

-- THE LINES AT POWER ON

text_entry : (u : unit.Unit) (n : ℕ) (line : List ℕ) → length line ≤ 80 → entry u n line ≡ Text line
text_entry u n line fits = let test : nat_lt 80 (length line) ≡ false = grind (arith, nat_tests) in rw test refl

-- the first of them are typed lines
record BeginWith (u : unit.Unit) (n : ℕ) (lines : List (List ℕ)) (left : List ℕ) : Type 0 where
  from : ℕ
  are : entries_of_unit u n (lines_before lines left) ≡ map Text lines ++ entries_of_unit u from left

begin_with : (u : unit.Unit) (n : ℕ) (lines : List (List ℕ)) (left : List ℕ) → All IsTypedLine lines → BeginWith u n lines left
begin_with u n [] left typed = record { from = n; are = refl }
begin_with u n (line ∷ lines) left typed =
    let first : IsTypedLine line = All-head IsTypedLine line lines typed in
    let rest = begin_with u (one_more n) lines left (All-tail IsTypedLine line lines typed) in
    record {
      from = rest.from;
      are = ap (λ (x : List (List ℕ)). entries u n (map without_return x)) (first_line line (lines_before lines left) first.whole)
          ∙ ap (λ (text : List ℕ). entry u (one_more n) text ∷ entries_of_unit u (one_more n) (lines_before lines left)) first.plain
          ∙ ap (λ (e : Entry). e ∷ entries_of_unit u (one_more n) (lines_before lines left)) (text_entry u (one_more n) line first.fits)
          ∙ ap (λ (es : List Entry). Text line ∷ es) rest.are;
    }

-- without the first of them
last_behind : (earlier : List (List ℕ)) (last : List ℕ) (es : List Entry) → map Text (earlier ++ last ∷ []) ++ es ≡ map Text earlier ++ Text last ∷ es
last_behind [] last es = refl
last_behind (line ∷ earlier) last es = ap (λ (x : List Entry). Text line ∷ x) (last_behind earlier last es)

drop_earlier : (n : ℕ) (earlier : List (List ℕ)) (last : List ℕ) (es : List Entry) → n ≤ length earlier → drop n (map Text (earlier ++ last ∷ []) ++ es) ≡ map Text (drop n earlier) ++ Text last ∷ es
drop_earlier zero earlier last es low = last_behind earlier last es
drop_earlier (suc n) [] last es low = absurd (omega (arith, low))
drop_earlier (suc n) (line ∷ earlier) last es low = drop_earlier n earlier last es (omega (arith, low))

-- THE LAW

abbrev last_of : Option Asked → ℕ
last_of None = 0
last_of (Some a) = a.last

-- a keyboard that holds the line that was read last is not in turn
not_in_turn : (held line : List ℕ) (ends : ℕ) → HoldsLine held line → AsksInTurn held (record { last = length line + 1; ends = ends }) → ⊥
not_in_turn held line ends h (inl none) = omega (arith, none)
not_in_turn held line ends h (inr (inl rest)) = omega (arith, rest, h.enough)
not_in_turn held line ends h (inr (inr (inl unshown))) = unshown (inl h.whole)
not_in_turn held line ends h (inr (inr (inr long))) = omega (arith, long, h.fits)

module _ (j : Job) (old new : World) (read : HasReadLine j old new) where
  abbrev left : List ℕ
  left = read.first_left ∷ read.more_left

  -- the line was not taken, so a keyboard holds it
  untaken : (k : Lines) (n : ℕ) → unit_of k ≡ units.Keys → n ≤ length read.earlier → keys_left k new ≡ Some (drop n read.rest.keys) → HoldsLine (bytes_held k) read.last
  untaken k n of_keys low lines =
      let first = begin_with units.Keys 0 (read.earlier ++ read.last ∷ []) left read.typed in
      let here : new.left (unit_of k) ≡ Some left = ap (λ (u : unit.Unit). new.left u) of_keys ∙ read.left in
      let told : Some (entries_of_unit (unit_of k) (lines_handed_out k) (bytes_held k ++ left)) ≡ Some (drop n read.rest.keys) =
      ap (λ (o : Option (List ℕ)). option_map (entries_of_unit (unit_of k) (lines_handed_out k)) (option_map (λ l. bytes_held k ++ l) o)) (sym here) ∙ lines in
      let are : entries_of_unit (unit_of k) (lines_handed_out k) (bytes_held k ++ left) ≡ drop n read.rest.keys = cc in
      let es : List Entry = entries_of_unit units.Keys first.from left in
      holds (drop n read.earlier) read.last (unit_of k) (lines_handed_out k) (bytes_held k) read.first_left read.more_left es
      (are ∙ ap (drop n) (read.keys ∙ first.are) ∙ drop_earlier n read.earlier read.last es low) (count units.Keys first.from left)

  taken : (done : List Event) (shown : Option Console) → AsksForInputs j.rest j.way done shown old new → length read.earlier < lines_in done
  taken done shown (unasked none same dark) =
      let none_read : length read.last + 1 ≡ 0 = ap last_of (sym read.asked ∙ same units.Keys refl ∙ read.unasked) in
      absurd (omega (arith, none_read))
  taken done shown (asked r is s stands has) = elim (cases_lt (length read.earlier) (lines_in done)) [
    | inl below ↦ below
    | inr over ↦
        let both : Some r ≡ Some read.rest = sym is ∙ read.has_machine in
        let same : r ≡ read.rest = cc in
        let k : Lines = has.keyboard in
        let held = untaken k (lines_in done) has.typed.by.unit over (has.lines_are ∙ ap (λ (x : MachineEnd). Some (drop (lines_in done) x.keys)) same) in
        let here : new.asked (unit_of k) ≡ Some (record { last = length read.last + 1; ends = read.ends }) = ap (λ (u : unit.Unit). new.asked u) has.typed.by.unit ∙ read.asked in
        let in_turn : AsksInTurn (bytes_held k) (record { last = length read.last + 1; ends = read.ends }) = subst (λ (o : Option Asked). IfSome o (AsksInTurn (bytes_held k))) here has.typed.by.turn in
        absurd (not_in_turn (bytes_held k) read.last read.ends held in_turn)
  ]

pub prompt : PromptLaw
prompt j old new read shown stops = taken j old new read stops.did.done shown stops.inputs
