-- The sectors of a pack in memory, and how many of them it has memory for.
use Rattle.std.specs.Prelude.{◌≡◌, ℕ, List, slice_index_or, vec_capacity}
use Rattle.outside_io.specs.declared.scratch.ScratchPack.{ScratchPack}
use Rattle.outside_io.specs.World.{blank_pack, with_sector}

-- each sector; past the last one in memory they are blank
abbrev pub scratch_sectors : ScratchPack → ℕ → List ℕ
scratch_sectors scratch a = slice_index_or scratch.sectors.items a (blank_pack a)

-- how many sectors, from the first one on, it has memory for
abbrev pub scratch_room : ScratchPack → ℕ
scratch_room scratch = vec_capacity scratch.sectors

-- one sector is written, and all others stay
abbrev pub WritesScratch : ScratchPack → ScratchPack → ℕ → List ℕ → Type 0
WritesScratch old new a text = (b : ℕ) → scratch_sectors new b ≡ with_sector a text (scratch_sectors old) b

-- all sectors stay
abbrev pub KeepsScratch : ScratchPack → ScratchPack → Type 0
KeepsScratch old new = (b : ℕ) → scratch_sectors new b ≡ scratch_sectors old b
