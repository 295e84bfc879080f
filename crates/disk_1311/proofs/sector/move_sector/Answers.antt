use Rattle.std.proofs.Common.{Ok, Err, arith}
use Rattle.disk_1311.proofs.SectorsMoved.{moved_in, moved_beside, moved_out, stopped_out}
use Rattle.disk_1311.proofs.sector.move_sector.Goals as goal

pub returns-in-Done : goal.returns-in-Done
returns-in-Done g c = moved_in c.args.a c.args.sector _ _ _ _ _ _ (Ok tt) c.args.kind c.read_sector.new.into (omega arith) c.in-Rdgn.is c.read_sector-in-Done.ensures c.in-Done.ensures

pub returns-in-Ok : goal.returns-in-Ok
returns-in-Ok g c = moved_beside c.args.a c.args.sector _ _ _ _ _ _ (Ok tt) c.args.kind c.read_sector-in-Cdgn.new.into (omega arith) c.in-Cdgn.is c.in-Ok.ensures c.in-Done-read_sector.ensures

pub returns-in-Err : goal.returns-in-Err
returns-in-Err g c = moved_beside c.args.a c.args.sector _ _ _ _ _ _ (Err c.in-Err.stop) c.args.kind c.read_sector-in-Cdgn.new.into (omega arith) c.in-Cdgn.is c.in-Err.ensures c.in-Done-read_sector.ensures

pub returns-in-Done-write_sector : goal.returns-in-Done-write_sector
returns-in-Done-write_sector g c = moved_out c.args.a c.args.sector _ _ _ _ c.args.kind c.sector_text.new.text c.in-Wdgn.is c.in-Ok-sector_text.ensures c.in-Done-write_sector.ensures

pub returns-in-Err-sector_text : goal.returns-in-Err-sector_text
returns-in-Err-sector_text g c = stopped_out c.args.a c.args.sector _ _ _ (g.H.Host.seen c.args.host.now) c.args.kind c.in-Err-sector_text.stop c.in-Wdgn.is c.in-Err-sector_text.ensures
