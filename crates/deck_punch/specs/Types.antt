-- Segments as runs.
use Rattle.std.specs.Prelude.{ℕ, ◌≡◌, List, ◌++◌, map, Vec}
use Rattle.std.specs.declared.alloc.Global.{Global}
use Rattle.sps_pass_two.specs.Image.{DigitRun}
use Rattle.deck_punch.specs.declared.segment.SegmentOf.{SegmentOf}

module _ {n : ℕ} where
  -- a segment as a run
  abbrev pub segment_run : SegmentOf n → DigitRun
  segment_run s = record { from = s.from; digits = s.digits.items }

  -- segments were added after the earlier ones
  abbrev pub AddsSegments : Vec (SegmentOf n) Global → Vec (SegmentOf n) Global → List DigitRun → Type 0
  AddsSegments old new runs = map segment_run new.items ≡ map segment_run old.items ++ runs
