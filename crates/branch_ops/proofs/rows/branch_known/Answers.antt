-- What a branch does over its operands is what it does.
use Rattle.branch_ops.proofs.KnownOperands.{goes_to}
use Rattle.branch_ops.proofs.rows.branch_known.Goals as goal

pub returns-in-Bt-clause-row : goal.returns-in-Bt-clause-row
returns-in-Bt-clause-row g c = rw c.in-Bt.is (c.transmit.ensures.row c.args.panel.now)

pub returns-in-Bd-clause-row : goal.returns-in-Bd-clause-row
returns-in-Bd-clause-row g c = rw c.in-Bd.is (c.bd.ensures c.args.panel.now)

pub returns-in-Bnf-clause-row : goal.returns-in-Bnf-clause-row
returns-in-Bnf-clause-row g c = rw c.in-Bnf.is (c.bnf.ensures c.args.panel.now)

pub returns-in-Bnr-clause-row : goal.returns-in-Bnr-clause-row
returns-in-Bnr-clause-row g c = rw c.in-Bnr.is (c.bnr.ensures c.args.panel.now)

pub returns-in-Bng-clause-row : goal.returns-in-Bng-clause-row
returns-in-Bng-clause-row g c = rw c.in-Bng.is (c.bng.ensures c.args.panel.now)

pub returns-in-Bi-clause-row : goal.returns-in-Bi-clause-row
returns-in-Bi-clause-row g c = rw c.in-Bi.is (c.bi.ensures c.args.core.now)

pub returns-in-Bni-clause-row : goal.returns-in-Bni-clause-row
returns-in-Bni-clause-row g c = rw c.in-Bni.is (c.bni.ensures c.args.core.now)

pub returns-in-Bb-clause-row : goal.returns-in-Bb-clause-row
returns-in-Bb-clause-row g c = rw c.in-Bb.is (goes_to c.args.core.now c.args.panel.now c.args.regs.now c.args.regs.now.ir2)

pub returns-in-B-clause-row : goal.returns-in-B-clause-row
returns-in-B-clause-row g c = rw c.in-B.is (goes_to c.args.core.now c.args.panel.now c.args.regs.now c.args.o.p)
