use Rattle.std.proofs.Common.{◌≡◌, drop}
use Rattle.outside_io.specs.Files.{bytes_named}
use Rattle.outside_io.proofs.in_memory.files.Files.find.Given as goal

abbrev pub invariant-loop-i : goal.invariant-loop-i
invariant-loop-i l = bytes_named (drop l.i l.self.named.items) l.name ≡ bytes_named l.self.named.items l.name
