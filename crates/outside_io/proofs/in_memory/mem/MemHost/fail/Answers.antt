use Rattle.std.proofs.Common.{ℕ, List, ap}
use Rattle.std.specs.Prelude.{Some}
use Rattle.outside_io.specs.World.{Seen}
use Rattle.outside_io.specs.Mem.{mem_seen}
use Rattle.outside_io.specs.Texts.{spare_of}
use Rattle.outside_io.proofs.in_memory.mem.MemHost.fail.Goals as goal

pub returns-clause-ok : goal.returns-clause-ok
returns-clause-ok c =
    let old : Seen = mem_seen c.args.self.now in
    ap (λ (failing : List ℕ). record old { world = record old.world { limits = Some (record { failing = failing; room = spare_of c.args.self.now.texts }) } }) c.in_ok-push.ensures.items
