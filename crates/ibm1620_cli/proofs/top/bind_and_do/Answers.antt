use Rattle.command_line.specs.Given.{meaning_of}
use Rattle.ibm1620_cli.proofs.Jobs.{said_all, all_binds, all_unread, said_some, some_binds, some_unread}
use Rattle.ibm1620_cli.proofs.top.bind_and_do.Goals as goal

pub returns-in-Yes : goal.returns-in-Yes
returns-in-Yes g c = record {
  told = said_all (meaning_of c.args.plain) (g.H.Host.seen c.args.host.now) (g.H.Host.seen c.bind_all.new.host) (g.H.Host.seen c.do_job.new.host) c.do_job.result c.in-Yes.ensures c.do_job.ensures.told;
  bound = all_binds (meaning_of c.args.plain) (g.H.Host.seen c.args.host.now) (g.H.Host.seen c.bind_all.new.host) (g.H.Host.seen c.do_job.new.host) c.do_job.result.status c.in-Yes.ensures c.do_job.ensures.stays;
  unread = all_unread (meaning_of c.args.plain) (g.H.Host.seen c.args.host.now) (g.H.Host.seen c.bind_all.new.host) (g.H.Host.seen c.do_job.new.host) c.requires c.in-Yes.ensures c.do_job.ensures.stays;
}

pub returns-in-Failed : goal.returns-in-Failed
returns-in-Failed g c =
    rw c.of.ensures
    (record {
      told = said_some (meaning_of c.args.plain) (g.H.Host.seen c.args.host.now) (g.H.Host.seen c.bind_all.new.host) c.in-Failed.ensures;
      bound = some_binds (meaning_of c.args.plain) (g.H.Host.seen c.args.host.now) (g.H.Host.seen c.bind_all.new.host) c.in-Failed.ensures;
      unread = some_unread (meaning_of c.args.plain) (g.H.Host.seen c.args.host.now) (g.H.Host.seen c.bind_all.new.host) c.requires c.in-Failed.ensures;
    })
