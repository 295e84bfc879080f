use Rattle.std.proofs.Common.{refl}
use Rattle.std.specs.Prelude.{Some}
use Rattle.outside_io.specs.Files.{pack_of}
use Rattle.outside_io.specs.CallCounts.{limits_of}
use Rattle.outside_io.specs.Mem.{pack_of_host, written_texts}
use Rattle.outside_io.specs.Pack.{sectors_over}
use Rattle.outside_io.proofs.FilesWorld.{opens_world, same_limits, cleared_texts, kept_texts}
use Rattle.outside_io.proofs.Packs.{opens_pack, opens_other, opens_output}
use Rattle.outside_io.proofs.in_memory.mem.MemHostHost.bind.Goals as goal

pub returns-then-is_output-clause-answer : goal.returns-then-is_output-clause-answer
returns-then-is_output-clause-answer c =
    let old = c.args.self.now in
    let new = c.bind.new.self in
    record {
      later = c.fails.ensures.call.later;
      world = opens_world old.files new c.args.unit c.args.name.now (written_texts old) _ (Some (pack_of_host old)) (Some (sectors_over old.sectors (pack_of new))) (Some (limits_of old.texts old.calls)) _ (same_limits old.texts c.clear.new.self old.calls c.fails.new.self c.clear.ensures.spare c.fails.ensures.call.failing) c.bind.ensures (cleared_texts _ _ c.args.unit c.if-is_output.ensures c.clear.ensures) (opens_output old.files new c.args.unit c.args.name.now old.sectors c.if-is_output.ensures c.bind.ensures);
    }

pub returns-then-is_pack-clause-answer : goal.returns-then-is_pack-clause-answer
returns-then-is_pack-clause-answer c =
    let old = c.args.self.now in
    let new = c.bind.new.self in
    record {
      later = c.fails.ensures.call.later;
      world = opens_world old.files new c.args.unit c.args.name.now (written_texts old) (written_texts old) (Some (pack_of_host old)) (Some (sectors_over c.clear-then-is_pack.new.self (pack_of new))) (Some (limits_of old.texts old.calls)) _ (same_limits old.texts old.texts old.calls c.fails.new.self (λ v. refl) c.fails.ensures.call.failing) c.bind.ensures (kept_texts c.args.unit (written_texts old) c.if-is_output.ensures) (opens_pack old.files new c.args.unit c.args.name.now old.sectors c.clear-then-is_pack.new.self c.if-is_pack.ensures c.clear-then-is_pack.ensures c.bind.ensures);
    }

pub returns-else-is_pack-clause-answer : goal.returns-else-is_pack-clause-answer
returns-else-is_pack-clause-answer c =
    let old = c.args.self.now in
    let new = c.bind.new.self in
    record {
      later = c.fails.ensures.call.later;
      world = opens_world old.files new c.args.unit c.args.name.now (written_texts old) (written_texts old) (Some (pack_of_host old)) (Some (sectors_over old.sectors (pack_of new))) (Some (limits_of old.texts old.calls)) _ (same_limits old.texts old.texts old.calls c.fails.new.self (λ v. refl) c.fails.ensures.call.failing) c.bind.ensures (kept_texts c.args.unit (written_texts old) c.if-is_output.ensures) (opens_other old.files new c.args.unit c.args.name.now old.sectors c.if-is_pack.ensures c.bind.ensures);
    }
