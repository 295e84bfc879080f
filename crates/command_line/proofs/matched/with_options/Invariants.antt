use Rattle.std.proofs.Common.{◌≡◌, drop}
use Rattle.clap.specs.declared.builder.command.Command.TheViews.{out-Command}
use Rattle.clap.specs.Words.{app_of}
use Rattle.command_line.specs.Matched.{with_options}
use Rattle.command_line.proofs.matched.with_options.Given as goal

abbrev pub invariant-loop-slot : goal.invariant-loop-slot
invariant-loop-slot l = (with_options (app_of l.more) (drop l.slot-index l.slots) ≡ with_options (app_of l.initial.more) l.slots) × ((out-Command l.more).has_globals ≡ (out-Command l.initial.more).has_globals)
