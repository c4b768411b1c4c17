-- The reply of a call whose step gave an answer.
use Rattle.std.specs.Prelude.{ℕ, eqb, Option, Some, None}
use Rattle.list_spec.specs.Choice.{pick}
use Rattle.method_spec.specs.Answer.{Answer}
use Rattle.call_spec.specs.declared.Refusal.{Refusal}
use Rattle.call_spec.specs.Reply.{Reply, Refused, number_of}
use Rattle.call_spec.specs.Store.{reply_of}

-- The reply where the put rounds came to a mark.
abbrev pub answered : ℕ → Answer → Reply
answered mark a = pick (eqb mark 0) (reply_of a) (Refused mark)

-- The mark of a store closed for a cause, if it was.
abbrev pub mark_of : Option Refusal → ℕ
mark_of None = 0
mark_of (Some r) = number_of r
