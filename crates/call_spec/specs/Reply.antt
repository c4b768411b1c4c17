-- What a call replies: an answer, or the number of a refusal.
use Rattle.std.specs.Prelude.{ℕ, Result, Ok, Err}
use Rattle.operation_spec.specs.declared.Answer.{Answer}
use Rattle.call_spec.specs.declared.Refusal.{Refusal}
use Rattle.call_spec.specs.declared.Refusal.TheVariants.{Closed, Unfit, TreeLength, TicketLength, UnknownKind, ShortTape, ShortTrace, Damage, Overflow, Full, NoKeyLeft, StrayField}

pub data Reply : Type 0 where
  Answered : Answer → Reply
  Refused : ℕ → Reply

abbrev pub number_of : Refusal → ℕ
number_of Closed = 1
number_of Unfit = 2
number_of TreeLength = 3
number_of TicketLength = 4
number_of UnknownKind = 5
number_of ShortTape = 6
number_of ShortTrace = 7
number_of Damage = 8
number_of Overflow = 9
number_of Full = 10
number_of NoKeyLeft = 17
number_of StrayField = 19

-- A reply as the code has it.
abbrev pub to_reply : Result Answer Refusal → Reply
to_reply (Ok a) = Answered a
to_reply (Err r) = Refused (number_of r)

-- The number of a refusal, 0 if there is none.
abbrev pub refusal_number : {A : Type 0} → Result A Refusal → ℕ
refusal_number (Ok a) = 0
refusal_number (Err r) = number_of r
