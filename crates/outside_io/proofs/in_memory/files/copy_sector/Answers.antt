use Rattle.std.proofs.Common.{◌*◌, drop, rules}
use Rattle.outside_io.proofs.Packs.{onto_zeros}
use Rattle.outside_io.proofs.in_memory.files.copy_sector.Goals as goal

pub returns : goal.returns
returns c = onto_zeros 100 c.copy_from.result (drop (100 * c.args.a) c.args.bytes.now) c.copy_from.new.buf (search rules) c.copy_from.ensures.copied c.copy_from.ensures.behind
