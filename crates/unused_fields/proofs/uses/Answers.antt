-- `unused_fields::uses` meets its contract, row by row of the table.
use mathlib.Core.Logic.{⊎_elim}
use borrow.Author.Rules.{rules}
use Rattle.state_spec.specs.Ticket.{fields_used}
use Rattle.unused_fields.specs.FieldLaws.{uses-rest}
use Rattle.unused_fields.proofs.uses.Goals as goal

pub returns-in-1 : goal.returns-in-1
unfolding fields_used
returns-in-1 c = ⊎_elim (λ e. rw e) (λ e. rw e) c.in-1.is

pub returns-in-2 : goal.returns-in-2
unfolding fields_used
returns-in-2 c = rw c.in-2.is

pub returns-in-4 : goal.returns-in-4
unfolding fields_used
returns-in-4 c = ⊎_elim (λ e. rw e) (⊎_elim (λ e. rw e) (λ e. rw e)) c.in-4.is

pub returns-in-5 : goal.returns-in-5
unfolding fields_used
returns-in-5 c = ⊎_elim (λ e. rw e) (⊎_elim (λ e. rw e) (λ e. rw e)) c.in-5.is

pub returns-in_default : goal.returns-in_default
returns-in_default c = uses-rest c.args.kind (search rules) (search rules) (search rules) (search rules)
