use Rattle.std.proofs.Common.{refl, arith}
use Rattle.outside_io.proofs.UntoldHosts.{nothing, nothing_cleared, untold_pack}
use Rattle.std.specs.Prelude.{Some, None}
use Rattle.outside_io.specs.Files.{file_bytes}
use Rattle.outside_io.proofs.FilesWorld.{opens_world}
use Rattle.outside_io.proofs.in_memory.quiet.QuietHostHost.bind.Goals as goal

pub returns : goal.returns
returns c = record { later = omega arith; world = opens_world c.args.self.now.files c.bind.new.self c.args.unit c.args.name.now nothing nothing None None None None refl c.bind.ensures (nothing_cleared c.args.unit) (untold_pack c.args.unit (Some (file_bytes c.args.self.now.files c.args.name.now))) }
