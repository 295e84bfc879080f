use Rattle.std.proofs.Common.{refl}
use Rattle.ibm1620_cli.proofs.top.ibm1620.Goals as goal

pub returns : goal.returns
returns g c = record {
  told = record { answer = c.ibm1620_answer-answer.result; is = refl; holds = c.ibm1620_answer-answer.ensures.told };
  bound = c.ibm1620_answer-answer.ensures.bound;
  unread = c.ibm1620_answer-answer.ensures.unread;
  headline = record { answer = c.ibm1620_answer-answer.result; is = refl; holds = c.ibm1620_answer-answer.ensures.headline };
  trial = c.ibm1620_answer-answer.ensures.trial;
  session = c.ibm1620_answer-answer.ensures.session;
  trip = record { answer = c.ibm1620_answer-answer.result; is = refl; holds = c.ibm1620_answer-answer.ensures.trip };
  disk_trip = record { answer = c.ibm1620_answer-answer.result; is = refl; holds = c.ibm1620_answer-answer.ensures.disk_trip };
}
