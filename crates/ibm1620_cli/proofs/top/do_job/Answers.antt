use Rattle.command_line.specs.declared.words.CoreSize.TheVariants.{OneModule, TwoModules, ThreeModules}
use Rattle.command_line.specs.Given.{meaning_of}
use Rattle.ibm1620_cli.proofs.Jobs.{does_by_core}
use Rattle.ibm1620_cli.proofs.top.do_job.Goals as goal

pub returns-in-OneModule-clause-told : goal.returns-in-OneModule-clause-told
returns-in-OneModule-clause-told g c = does_by_core (meaning_of c.args.plain) (g.H.Host.seen c.args.host.now) (g.H.Host.seen c.do_job_in.new.host) c.do_job_in.result OneModule c.in-OneModule.is c.do_job_in.ensures.told

pub returns-in-TwoModules-clause-told : goal.returns-in-TwoModules-clause-told
returns-in-TwoModules-clause-told g c = does_by_core (meaning_of c.args.plain) (g.H.Host.seen c.args.host.now) (g.H.Host.seen c.do_job_in-in-TwoModules.new.host) c.do_job_in-in-TwoModules.result TwoModules c.in-TwoModules.is c.do_job_in-in-TwoModules.ensures.told

pub returns-in-ThreeModules-clause-told : goal.returns-in-ThreeModules-clause-told
returns-in-ThreeModules-clause-told g c = does_by_core (meaning_of c.args.plain) (g.H.Host.seen c.args.host.now) (g.H.Host.seen c.do_job_in-in-ThreeModules.new.host) c.do_job_in-in-ThreeModules.result ThreeModules c.in-ThreeModules.is c.do_job_in-in-ThreeModules.ensures.told
