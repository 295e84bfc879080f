use Rattle.std.proofs.Common.{sym, rules}
use Rattle.disk_loader.proofs.Texts.{in_some, in_none}
use Rattle.disk_loader.proofs.WrittenSectors.{so_far_first, so_far_on, so_far_not, so_far_all, so_far_failed}
use Rattle.disk_loader.proofs.writing.write_sectors.Goals as goal
use Rattle.disk_loader.proofs.writing.write_sectors.Goals.{in-None, in-Some+in-Done}

pub returns-in-Failed : goal.returns-in-Failed
returns-in-Failed g c =
    so_far_failed c.args.assembled.now.image.pieces c.loop-h.h (g.H.Host.seen c.args.host.now) (g.H.Host.seen c.loop-h.host) (g.H.Host.seen c.write_sector.new.self) c.loop-h.invariant c.in-Failed.ensures

pub loop-h-init : goal.loop-h-init
loop-h-init g c = so_far_first c.args.assembled.now.image.pieces (g.H.Host.seen c.args.host.now)

pub loop-h-preserved : goal.loop-h-preserved
loop-h-preserved g c =
    let image = c.args.assembled.now.image.pieces in
    let old = g.H.Host.seen c.args.host.now in
    let mid = g.H.Host.seen c.loop-h.host in
    elim c.match-sector_text.branch [
      | in-None w ↦ rw w.host-is (so_far_not image c.loop-h.h c.loop-h-test.true old mid (in_none image c.loop-h.h (sym w.in-None.ensures)) c.loop-h.invariant)
      | in-Some+in-Done w ↦
          let told = in_some image c.loop-h.h w.in-Some.text (sym w.in-Some.ensures) in
          rw w.host-is (so_far_on image c.loop-h.h c.loop-h-test.true old mid _ told.0 c.loop-h.invariant (rw told.1 at w.in-Done.ensures))
    ]

pub returns : goal.returns
returns g c = so_far_all c.args.assembled.now.image.pieces c.loop-h.h (g.H.Host.seen c.args.host.now) (g.H.Host.seen c.loop-h.host) (search rules) c.loop-h.invariant
