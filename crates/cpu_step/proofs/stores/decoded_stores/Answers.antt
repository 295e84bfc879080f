use Rattle.std.proofs.Common.{sym}
use Rattle.cpu_step.proofs.StepStores.{fetch_none}
use Rattle.cpu_step.proofs.stores.decoded_stores.Goals as goal

pub returns-in-Err-clause-within : goal.returns-in-Err-clause-within
returns-in-Err-clause-within g c = fetch_none _ _ c.in-Err.field-0 (sym c.in-Err.ensures.is)
