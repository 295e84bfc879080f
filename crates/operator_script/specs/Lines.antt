-- The lines of a text; each line is read as an item.
use Rattle.std.specs.Prelude.{ℕ, ◌≡◌, ◌+◌, ⊤, List, [], ◌∷◌, Option, Some, None, Result, Ok, Err, Vec}
use Rattle.std.specs.declared.alloc.Global.{Global}
use Rattle.outside_io.specs.Lines.{texts_of}
use Rattle.operator_script.specs.declared.lines.LineFault.{LineFault}
use Rattle.operator_script.specs.declared.lines.LineFault.TheVariants as fault

-- an item, in front of the items of the lines after it; the first bad line decides
abbrev pub item_first : {A : Type 0} → ℕ → Option A → Result (List A) ℕ → Result (List A) ℕ
item_first k None rest = Err k
item_first k (Some item) (Ok items) = Ok (item ∷ items)
item_first k (Some item) (Err bad) = Err bad

-- the items of some texts; the first text has number k, and empty texts are passed over
unfoldable pub items_from : {A : Type 0} → (List ℕ → Option A) → ℕ → List (List ℕ) → Result (List A) ℕ
items_from item_of k [] = Ok []
items_from item_of k ([] ∷ texts) = items_from item_of (k + 1) texts
items_from item_of k ((b ∷ bytes) ∷ texts) = item_first k (item_of (b ∷ bytes)) (items_from item_of (k + 1) texts)

-- the items in the lines of some bytes, or the number of the first bad line; all lines are counted, from 1
unfoldable pub items_of_lines : {A : Type 0} → (List ℕ → Option A) → List ℕ → Result (List A) ℕ
items_of_lines item_of bytes = items_from item_of 1 (texts_of bytes)

-- the reading of lines: the items in the bytes, or their first bad line, or no memory
abbrev pub ReadsLines : {A : Type 0} → (List ℕ → Option A) → List ℕ → Result (Vec A Global) LineFault → Type 0
ReadsLines item_of bytes (Ok items) = items_of_lines item_of bytes ≡ Ok items.items
ReadsLines item_of bytes (Err (fault.BadLine line)) = items_of_lines item_of bytes ≡ Err line
ReadsLines item_of bytes (Err fault.Memory) = ⊤
