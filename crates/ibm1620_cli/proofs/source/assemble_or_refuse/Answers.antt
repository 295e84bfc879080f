use Rattle.std.proofs.Common.{◌≡◌, ◌∙◌, ℕ, List, ap, subst}
use Rattle.std.specs.Prelude.{Err}
use Rattle.digit_core.specs.Size.{size}
use Rattle.sps_pass_two.specs.declared.assembled.AsmFault.{AsmFault}
use Rattle.sps_pass_two.specs.declared.assembled.AsmFault.TheVariants.{Broken}
use Rattle.sps_pass_two.specs.Assembling.{Assembles}
use Rattle.ibm1620_cli.specs.Parts.{RefusesOrLacks}
use Rattle.ibm1620_cli.proofs.Sources.{refuses_source}
use Rattle.ibm1620_cli.proofs.source.assemble_or_refuse.Goals as goal

pub returns-in-Err-Broken : goal.returns-in-Err-Broken
returns-in-Err-Broken g c =
    let answer : c.assemble.result ≡ Err (Broken c.in-Err-Broken.statement c.in-Err-Broken.rule c.in-Err-Broken.part) = c.in-Err-Broken.is ∙ ap (λ (fault : AsmFault). Err fault) c.in-Err-Broken.field-0-is in
    let broken = subst (λ (t : List ℕ). Assembles (size g.row.M) t (Err (Broken c.in-Err-Broken.statement c.in-Err-Broken.rule c.in-Err-Broken.part))) c.deref.ensures.value (subst (λ r. Assembles (size g.row.M) c.deref.result.now r) answer c.assemble.ensures.is) in
    refuses_source g.row.M c.args.source.items (g.H.Host.seen c.args.host.now) (g.H.Host.seen c.refuse.new.host) c.in-Err-Broken.statement c.in-Err-Broken.rule c.in-Err-Broken.part c.refuse.result broken
    (subst (λ (t : List ℕ). RefusesOrLacks t c.in-Err-Broken.statement c.in-Err-Broken.rule c.in-Err-Broken.part (g.H.Host.seen c.args.host.now) (g.H.Host.seen c.refuse.new.host) c.refuse.result) c.deref-in-Err-Broken.ensures.value c.refuse.ensures)
