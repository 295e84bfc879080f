-- Command by command.
use Rattle.sps_listing.specs.Listing.{placed_texts}
use Rattle.console_debug.specs.Breakpoints.{set_now}
use Rattle.console_debug.specs.Carries.{debugger_state_of}
use Rattle.console_debug.proofs.Commanding.{go_carried, step_carried, back_carried, break_carried, clear_carried, show_carried, quit_carried}
use Rattle.console_debug.proofs.debugger.Debugger.carry_out.Goals as goal

pub returns-in-Go-clause-carries : goal.returns-in-Go-clause-carries
returns-in-Go-clause-carries g c = go_carried g.row.M c.args.self.now.cursor.run.limit (placed_texts c.args.self.now.assembled.now) _ _ _ c.go.result c.in-Go.is c.go.ensures.carries

pub returns-in-Step-clause-carries : goal.returns-in-Step-clause-carries
returns-in-Step-clause-carries g c = step_carried g.row.M c.args.self.now.cursor.run.limit (placed_texts c.args.self.now.assembled.now) _ c.in-Step.count _ _ c.step.result c.in-Step.is (c.step.ensures.carries (placed_texts c.args.self.now.assembled.now) (set_now c.args.self.now.breaks.now))

pub returns-in-Back-clause-carries : goal.returns-in-Back-clause-carries
returns-in-Back-clause-carries g c = back_carried g.row.M c.args.self.now.cursor.run.limit (placed_texts c.args.self.now.assembled.now) _ c.in-Back.count _ _ c.back.result c.in-Back.is (c.back.ensures.carries (placed_texts c.args.self.now.assembled.now) (set_now c.args.self.now.breaks.now))

pub returns-in-Break-clause-carries : goal.returns-in-Break-clause-carries
returns-in-Break-clause-carries g c = break_carried g.row.M c.args.self.now.cursor.run.limit (placed_texts c.args.self.now.assembled.now) _ c.requires.ready.fit (g.H.Host.seen c.set_break.new.host) c.set_break.result _ c.in-Break.statement (set_now c.args.self.now.breaks.now) (set_now c.set_break.new.breaks) c.in-Break.is c.set_break.ensures.sets

pub returns-in-Clear-clause-carries : goal.returns-in-Clear-clause-carries
returns-in-Clear-clause-carries g c = clear_carried g.row.M c.args.self.now.cursor.run.limit (placed_texts c.args.self.now.assembled.now) _ c.requires.ready.fit (g.H.Host.seen c.clear_break.new.host) c.clear_break.result _ c.in-Clear.statement (set_now c.args.self.now.breaks.now) (set_now c.clear_break.new.breaks) c.in-Clear.is c.clear_break.ensures.sets

pub returns-in-Show-clause-carries : goal.returns-in-Show-clause-carries
returns-in-Show-clause-carries g c = show_carried g.row.M c.args.self.now.cursor.run.limit (placed_texts c.args.self.now.assembled.now) _ c.requires.ready.fit (g.H.Host.seen c.show.new.host) c.show.result _ (set_now c.args.self.now.breaks.now) c.in-Show.at c.in-Show.count c.in-Show.is c.show.ensures

pub returns-in-Quit-clause-carries : goal.returns-in-Quit-clause-carries
returns-in-Quit-clause-carries g c = quit_carried g.row.M c.args.self.now.cursor.run.limit (placed_texts c.args.self.now.assembled.now) _ (debugger_state_of g.row.M c.args.self.now (g.H.Host.seen c.args.host.now)) c.in-Quit.is c.requires.ready.fit
