-- A row with the name.
use Rattle.std.proofs.Common.{◌≡◌, ◌∙◌, sym}
use Rattle.std.proofs.lemmas.Slice.Eq.{bytes_eq-Decides}
use Rattle.sps_ops.proofs.Names.{row_there}
use Rattle.sps_ops.proofs.table.row_at.Goals as goal

pub returns-then-eq : goal.returns-then-eq
returns-then-eq g c =
    let p = c.index-rows-k.result in
    let same : c.args.name.now ≡ p.0.now = (bytes_eq-Decides c.args.name.now c.as_bytes.result.now).0 (sym c.eq.ensures ∙ c.if-eq.true) ∙ c.as_bytes.ensures.value in
    rw same (row_there c.args.rows.now c.args.k p c.requires (sym c.index-rows-k.is))
