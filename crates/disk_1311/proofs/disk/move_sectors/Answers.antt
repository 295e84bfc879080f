use Rattle.std.proofs.Common.{◌≡◌, ◌+◌, ◌-◌, sym, ◌∙◌, arith}
use Rattle.disk_1311.specs.Disk.{transfer_trace}
use Rattle.disk_1311.proofs.Transfers.{none_left, over, out, ended, moved_on, onward_start, still_long}
use Rattle.disk_1311.proofs.disk.move_sectors.Goals as goal

pub loop-sector-init : goal.loop-sector-init
loop-sector-init g c =
    let all : c.args.control.sector + c.args.control.count - c.args.control.sector ≡ c.args.control.count = omega arith in
    record {
      within = omega arith;
      long = omega arith;
      going = rw (all, c.cylinder-cylinder.ensures) (onward_start (transfer_trace c.args.kind c.args.control c.args.core.now) c.args.core.now c.args.panel.now (g.H.Host.seen c.args.host.now));
    }

pub overflow_add-a : goal.overflow_add-a
overflow_add-a g c = omega (arith, c.loop-sector.invariant.within)

pub returns-then-cylinder_of-cylinder : goal.returns-then-cylinder_of-cylinder
returns-then-cylinder_of-cylinder g c =
    over c.args.kind c.args.control.drive c.cylinder-cylinder.result (c.args.control.sector + c.args.control.count) c.loop-sector.core c.loop-sector.a c.loop-sector.sector c.loop-sector.panel (g.H.Host.seen c.loop-sector.host) _ _ _ _
    c.loop-sector-test.true (λ same. c.if-cylinder_of-cylinder.true (c.cylinder_of.ensures ∙ same)) c.loop-sector.invariant.going c.group_check.new.panel c.group_check.result (rw c.set.ensures at c.group_check.ensures)

pub returns-then-a-size : goal.returns-then-a-size
returns-then-a-size g c =
    out c.args.kind c.args.control.drive c.cylinder-cylinder.result (c.args.control.sector + c.args.control.count) c.loop-sector.core c.loop-sector.a c.loop-sector.sector c.loop-sector.panel (g.H.Host.seen c.loop-sector.host) _ _ _ _
    c.loop-sector-test.true (sym c.cylinder_of.ensures ∙ c.if-cylinder_of-cylinder.false) (omega (arith, c.loop-sector.invariant.long)) c.loop-sector.invariant.going

pub returns-in_default : goal.returns-in_default
returns-in_default g c =
    ended c.args.kind c.args.control.drive c.cylinder-cylinder.result (c.args.control.sector + c.args.control.count) c.loop-sector.core c.loop-sector.a c.loop-sector.sector c.loop-sector.panel (g.H.Host.seen c.loop-sector.host) _ _ _ _
    c.loop-sector-test.true (sym c.cylinder_of.ensures ∙ c.if-cylinder_of-cylinder.false) (omega (arith, c.loop-sector.invariant.long)) c.loop-sector.invariant.going
    c.move_sector.new.core c.move_sector.new.panel (g.H.Host.seen c.move_sector.new.host) c.move_sector.result c.in_default.not-Done (rw c.host_sector.ensures at c.move_sector.ensures)

pub loop-sector-preserved : goal.loop-sector-preserved
loop-sector-preserved g c =
    let moved = rw c.host_sector.ensures at c.in-Done.ensures in
    record {
      within = omega arith;
      long = still_long _ _ _ _ _ _ _ _ _ moved ∙ c.loop-sector.invariant.long;
      going = moved_on c.args.kind c.args.control.drive c.cylinder-cylinder.result (c.args.control.sector + c.args.control.count) c.loop-sector.core c.loop-sector.a c.loop-sector.sector c.loop-sector.panel (g.H.Host.seen c.loop-sector.host) _ _ _ _
          c.loop-sector-test.true (sym c.cylinder_of.ensures ∙ c.if-cylinder_of-cylinder.false) (omega (arith, c.loop-sector.invariant.long)) c.loop-sector.invariant.going
          c.move_sector.new.core c.move_sector.new.panel (g.H.Host.seen c.move_sector.new.host) moved;
    }

pub returns : goal.returns
returns g c =
    none_left c.args.kind c.args.control.drive c.cylinder-cylinder.result (c.args.control.sector + c.args.control.count) c.loop-sector.core c.loop-sector.a c.loop-sector.sector c.loop-sector.panel (g.H.Host.seen c.loop-sector.host) _ _ _ _
    (omega arith) c.loop-sector.invariant.going c.group_check-2.new.panel c.group_check-2.result c.group_check-2.ensures
