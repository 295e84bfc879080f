-- The dense segments of a piece cover it.
use Rattle.std.proofs.Common.{List}
use Rattle.digit_core.specs.declared.Digit.{Digit}
use Rattle.deck_punch.specs.declared.form.DeckForm.TheVariants.{Dense}
use Rattle.deck_punch.specs.DenseCover.{IsDenseCutBefore, DenseLaw}
use Rattle.deck_punch.proofs.Covering.{IsFront, form_covers, covers_by}

dense_before : (ds rest : List Digit) → IsFront Dense ds rest → IsDenseCutBefore ds rest
dense_before ds rest front = record { some = front.some; most = front.most; none_inside = front.none_inside; ends = front.ends }

pub dense_covers : DenseLaw
dense_covers piece = covers_by dense_before (form_covers Dense piece)
