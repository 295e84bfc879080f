use Rattle.std.proofs.Common.{arith}
use Rattle.part_tests.proofs.StillFree.{still_free}
use Rattle.part_tests.proofs.hosts.real_files.second_binding.Goals as goal

-- the first binding leaves the second unit free
pub bind-requires-2 : goal.bind-requires-2
bind-requires-2 c = (omega arith, still_free _ _ c.args.first c.args.second _ c.bind.result c.bind.ensures.answer c.requires (c.new-host.ensures.free c.args.second))
