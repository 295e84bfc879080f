use Rattle.std.proofs.Common.{◌≡◌, ◌∙◌, sym, ap, true}
use Rattle.sps_scan.specs.Statement.{statement_text}
use Rattle.sps_pass_one.specs.Heads.{head_faults}
use Rattle.sps_pass_one.specs.Layout.{is_head, operation_of}
use Rattle.sps_pass_one.proofs.Least.{no_fault, some_fault}
use Rattle.sps_pass_one.proofs.layout.head_after.Goals as goal

pub returns-in-None : goal.returns-in-None
returns-in-None c =
    let is : is_head (operation_of (statement_text c.args.s.now.scanned.now)) ≡ true = ap is_head (sym c.operation_of.ensures) ∙ (sym c.is_head.ensures ∙ c.if-is_head.true) in
    rw (c.if-active.true, is, no_fault (head_faults (statement_text c.args.s.now.scanned.now)) (sym c.head_faults.ensures ∙ c.in-None.is)) c.head_in.ensures

pub returns-in-Some : goal.returns-in-Some
returns-in-Some c =
    let is : is_head (operation_of (statement_text c.args.s.now.scanned.now)) ≡ true = ap is_head (sym c.operation_of.ensures) ∙ (sym c.is_head.ensures ∙ c.if-is_head.true) in
    rw (c.if-active.true, is, some_fault (head_faults (statement_text c.args.s.now.scanned.now)) c.in-Some.field-0 (sym c.head_faults.ensures ∙ c.in-Some.is))
