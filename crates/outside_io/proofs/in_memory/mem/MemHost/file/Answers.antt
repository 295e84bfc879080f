use Rattle.std.proofs.Common.{ℕ, List, Bool, ◌∙◌, ap}
use Rattle.outside_io.specs.declared.host.Unit as unit
use Rattle.std.proofs.lemmas.Result.{on_ok_weaker}
use Rattle.std.specs.Prelude.{Some}
use Rattle.outside_io.specs.CallCounts.{limits_of}
use Rattle.outside_io.specs.Mem.{pack_of_host, written_texts}
use Rattle.outside_io.specs.Files.{pack_of}
use Rattle.outside_io.specs.Pack.{sectors_over}
use Rattle.outside_io.proofs.FilesWorld.{adds_world}
use Rattle.outside_io.proofs.in_memory.mem.MemHost.file.Goals as goal

pub returns-clause-ok : goal.returns-clause-ok
returns-clause-ok c =
    let old = c.args.self.now in
    on_ok_weaker c.add.result (λ adds. adds_world old.files c.add.new.self c.args.name.now c.args.bytes.now (written_texts old) (Some (pack_of_host old)) (Some (sectors_over old.sectors (pack_of c.add.new.self))) (Some (limits_of old.texts old.calls)) (ap (λ (pack : ℕ → List ℕ). Some (sectors_over old.sectors pack)) adds.pack) adds) c.add.ensures.ok

pub returns-clause-fresh : goal.returns-clause-fresh
returns-clause-fresh c = λ fresh. record { free = λ u. ap (λ (flags : unit.Unit → Bool). flags u) c.add.ensures.flags ∙ fresh.free u; empty = fresh.empty }
