use Rattle.std.proofs.Common.{List, String, map, string_bytes, subst}
use Rattle.std.specs.declared.alloc.Global.{Global}
use Rattle.ibm1620_cli.specs.Answers.{AnswersJob}
use Rattle.ibm1620_cli.proofs.top.ibm1620_answer.Goals as goal

pub returns : goal.returns
returns g c =
    let all = subst (λ (words : List (String Global)). AnswersJob (map string_bytes words) (g.H.Host.seen c.args.host.now) (g.H.Host.seen c.ibm1620_read.new.host) c.ibm1620_read.result) c.of.ensures c.ibm1620_read.ensures in
    record {
      told = all.told;
      bound = all.bound;
      unread = all.unread;
      headline = all.headline;
      trial = all.trial;
      session = all.session;
      trip = all.trip;
      disk_trip = all.disk_trip;
    }
