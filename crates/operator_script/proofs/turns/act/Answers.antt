use Rattle.std.proofs.Common.{refl, sym, ap, ◌∙◌}
use Rattle.indicators.specs.Panel.{with_checks}
use Rattle.cpu_step.specs.Machine.{state_with}
use Rattle.cpu_step.proofs.ExactCards.{load_sound}
use Rattle.operator_script.specs.Turn.{state_after_action}
use Rattle.operator_script.proofs.Acting.{set_made, core_made, started_sound}
use Rattle.operator_script.proofs.turns.act.Goals as goal

pub returns-in-Start : goal.returns-in-Start
unfolding state_after_action
returns-in-Start g c = rw (c.in-Start.is, c.mode_at_start-machine.ensures) (set_made g.row.M _ c.args.machine.now c.args.machine.now.panel _ _ (g.H.Host.seen c.args.host.now) (λ w h k s. refl), started_sound c.args.machine.now.mode c.requires.mode)

pub returns-in-Failed : goal.returns-in-Failed
returns-in-Failed g c = record { is = c.in-Load.is; breaks = c.in-Failed.ensures }

pub returns-in_default : goal.returns-in_default
unfolding state_after_action
returns-in_default g c = let s = load_sound _ c.args.machine.now c.load_key.new.self _ _ c.load_key.result c.in_default.not-Failed c.load_key.ensures in rw c.in-Load.is (s.makes, s.sound)

pub returns-in-Switch : goal.returns-in-Switch
unfolding state_after_action
returns-in-Switch g c =
    rw c.in-Switch.is
    (set_made g.row.M _ c.args.machine.now c.set.new.self c.args.machine.now.mode _ (g.H.Host.seen c.args.host.now) (λ w h k s. ap (λ p. record (state_with g.row.M c.args.machine.now w h k s) { panel = p }) (sym c.set.ensures)), c.requires.mode)

pub returns-in-Overflow : goal.returns-in-Overflow
unfolding state_after_action
returns-in-Overflow g c =
    rw c.in-Overflow.is (
      set_made g.row.M _ c.args.machine.now c.set_checks.new.self c.args.machine.now.mode _ (g.H.Host.seen c.args.host.now)
          (λ w h k s. ap (λ p. record (state_with g.row.M c.args.machine.now w h k s) { panel = p }) (sym (c.set_checks.ensures ∙ ap (λ b. with_checks c.in-Overflow.stops b c.args.machine.now.panel) c.checks-overflow.ensures.io))),
      c.requires.mode,
    )

pub returns-in-InOut : goal.returns-in-InOut
unfolding state_after_action
returns-in-InOut g c =
    rw c.in-InOut.is (
      set_made g.row.M _ c.args.machine.now c.set_checks-in-InOut.new.self c.args.machine.now.mode _ (g.H.Host.seen c.args.host.now)
          (λ w h k s. ap (λ p. record (state_with g.row.M c.args.machine.now w h k s) { panel = p }) (sym (c.set_checks-in-InOut.ensures ∙ ap (λ b. with_checks b c.in-InOut.stops c.args.machine.now.panel) c.checks-overflow-in-InOut.ensures.overflow))),
      c.requires.mode,
    )

pub returns-in-Flip : goal.returns-in-Flip
unfolding state_after_action
returns-in-Flip g c =
    rw c.in-Flip.is (
      core_made g.row.M _ c.args.machine.now _ (g.H.Host.seen c.args.host.now) refl refl
          (λ w h k s. ap (λ core. record (state_with g.row.M c.args.machine.now w h k s) { core = core }) (sym c.flip.ensures)),
      c.requires.mode,
    )
