use Rattle.disk_loader.proofs.StretchHundreds.{covers}
use Rattle.disk_loader.proofs.deck.stretch_law.Goals as goal

pub returns : goal.returns
returns c image = covers image
