-- What is known of it is so.
use Rattle.digit_core.proofs.AddTable.{standard_known, other_known}
use Rattle.digit_core.proofs.Core.has_add_table.Goals as goal

pub returns-in-Standard-clause-yes : goal.returns-in-Standard-clause-yes
returns-in-Standard-clause-yes g c = λ yes. rw (← c.self.view_is) (standard_known _ (rw c.in-Standard.is at c.self.invariant.is_known))

pub returns-in-Other-clause-no : goal.returns-in-Other-clause-no
returns-in-Other-clause-no g c = λ no. rw (← c.self.view_is) (other_known _ (rw c.in-Other.is at c.self.invariant.is_known))
