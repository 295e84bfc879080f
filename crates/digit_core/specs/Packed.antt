-- Cells in words: ten cells of six bits to a word, from its lowest bits upwards.
use Rattle.std.specs.Prelude.{ℕ, Bool, true, ⊤, Vec, vec_len, vec_capacity, [], ◌≡◌, ◌≤◌, ◌<◌, ◌+◌, ◌-◌, ◌*◌, ◌/◌, ◌%◌, ◌^◌, List, length, map, sum, slice_index, nat_lt, ◌&&◌, if◌then◌else◌}
use Rattle.std.specs.List.{All, range_with_len}
use Rattle.std.specs.declared.alloc.Global.{Global}
use Rattle.digit_core.specs.Size.{IsSize}
use Rattle.digit_core.specs.Search.{IsSound}
use Rattle.digit_core.specs.Standard.{HasAddTable}
use Rattle.digit_core.specs.declared.standard_tables.AddTable.{AddTable}
use Rattle.digit_core.specs.declared.standard_tables.AddTable.TheVariants.{Unseen, Standard, Other}
use Rattle.digit_core.specs.declared.standard_tables.TheConstants.{ADD_TABLE, ADD_TABLE_END}
use Rattle.digit_core.specs.declared.TheConstants.{MODULE_WORDS}

-- six bits of a word
abbrev pub six : ℕ → ℕ → ℕ
six w j = w / 2 ^ (6 * j) % 2 ^ 6

-- the cell at a, ten to a word
unfoldable pub cell_in : List ℕ → ℕ → ℕ
cell_in ws a = six (slice_index ws (a / 10)) (a % 10)

-- the lowest n cells of a word are the n cells from a upwards
abbrev pub HasCells : ℕ → List ℕ → ℕ → ℕ → Type 0
HasCells w cells a n = (j : ℕ) → j < n → six w j ≡ slice_index cells (a + j)

-- the cells of the words
unfoldable pub cells_of : List ℕ → List ℕ
cells_of ws = map (cell_in ws) (range_with_len 0 (10 * length ws))

-- the ten cells from cell number j of a word on, in it and in the next
abbrev pub ten_across : ℕ → ℕ → ℕ → ℕ
ten_across low high j = low / 2 ^ (6 * j) + high * 2 ^ (60 - 6 * j) % 2 ^ 64 % 2 ^ 60

-- the cells agree with the kept knowledge of the add table
unfoldable pub IsTableKnown : AddTable → List ℕ → Type 0
IsTableKnown Unseen cells = ⊤
IsTableKnown Standard cells = HasAddTable cells
IsTableKnown Other cells = HasAddTable cells → ⊥

-- the knowledge of the add table after at most ten cells are stored from a on: none, if they may be the table's
abbrev pub note_store : AddTable → ℕ → AddTable
note_store table a = if nat_lt (ADD_TABLE - 10) a && nat_lt a ADD_TABLE_END then Unseen else table

-- the words of a core of size m: the top four bits of each are 0, each cell holds a digit if the core is marked as sound, and the
-- cells agree with the kept knowledge of the add table
pub record IsPacked (m : ℕ) (ws : List ℕ) (sound : Bool) (table : AddTable) : Type 0 where
  pub is_size : IsSize m
  pub is_length : length ws ≡ m * MODULE_WORDS
  pub sixty_bits : All (λ w. w < 2 ^ 60) ws
  pub is_sound : sound ≡ true → IsSound (cells_of ws)
  pub is_known : IsTableKnown table (cells_of ws)

-- an empty list with room for the words of a core of size m
pub record IsRoom (m : ℕ) (words : Vec ℕ Global) : Type 0 where
  pub is_size : IsSize m
  pub empty : words.items ≡ []
  pub none : vec_len words ≡ 0
  pub room : m * MODULE_WORDS ≤ vec_capacity words

-- a word with its six bits number j replaced
unfoldable pub with_six : ℕ → ℕ → ℕ → ℕ
with_six w j v = (w / 2 ^ (6 * j + 6) * 2 ^ 6 + v) * 2 ^ (6 * j) + w % 2 ^ (6 * j)

-- a word with its n cells from number j upwards replaced by the lowest n of v
unfoldable pub with_part : ℕ → ℕ → ℕ → ℕ → ℕ
with_part w j n v = (w / 2 ^ (6 * (j + n)) * 2 ^ (6 * n) + v % 2 ^ (6 * n)) * 2 ^ (6 * j) + w % 2 ^ (6 * j)

-- the word of ten cells from a upwards
unfoldable pub word_at : List ℕ → ℕ → ℕ
word_at cells a = sum (map (λ j. slice_index cells (a + j) * 64 ^ j) (range_with_len 0 10))

-- the words in which a core keeps its cells
unfoldable pub core_words : List ℕ → List ℕ
core_words cells = map (λ w. word_at cells (10 * w)) (range_with_len 0 (length cells / 10))
