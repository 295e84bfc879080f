use Rattle.line_words.specs.Blanks.{trimmed}
use Rattle.sps_scan.specs.Columns.{columns}
use Rattle.sps_scan.proofs.Places.{placed_without, placed_with}
use Rattle.sps_scan.proofs.scan.Goals as goal

pub returns-then-card-gt80-clause-placed : goal.returns-then-card-gt80-clause-placed
returns-then-card-gt80-clause-placed c = placed_without _ _ _ c.without_parts.ensures

pub returns-then-is_comment-clause-placed : goal.returns-then-is_comment-clause-placed
returns-then-is_comment-clause-placed c = placed_without _ _ _ c.without_parts-then-is_comment.ensures

pub returns-then-is_blank-clause-placed : goal.returns-then-is_blank-clause-placed
returns-then-is_blank-clause-placed c = placed_without _ _ _ c.without_parts-then-is_blank.ensures

pub returns-clause-placed : goal.returns-clause-placed
returns-clause-placed c = placed_with c.args.card.now (trimmed (columns 12 15 c.args.card.now)) _ c.with_parts.ensures
