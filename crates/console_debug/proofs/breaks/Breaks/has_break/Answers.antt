-- The count at the address.
use Rattle.std.proofs.Common.{◌<◌, length, arith}
use Rattle.sps_listing.specs.Listing.{placed_texts}
use Rattle.console_debug.proofs.Tables.{told_at}
use Rattle.console_debug.proofs.breaks.Breaks.has_break.Goals as goal

pub returns-then-address-len : goal.returns-then-address-len
returns-then-address-len c =
    let inside : c.args.ir < length c.args.self.now.counts.items = omega (arith, c.if-address-len.true, c.len.ensures, c.args.self.now.counts.ok.0) in
    told_at (placed_texts c.args.assembled.now) c.args.self.now c.args.ir c.index.result.now c.requires inside c.index.ensures
