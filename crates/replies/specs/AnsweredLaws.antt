-- The step's answers come back as they are, and a store closed for a cause is told by it.
use Rattle.std.specs.Prelude.{◌≡◌, refl}
use Rattle.operation_spec.specs.declared.Answer.{Answer}
use Rattle.operation_spec.specs.declared.Answer.TheVariants.{Found, Absent, Replaced, New, Removed, Pushed, Popped, Added, Taken, Queued, Dequeued, Empty}
use Rattle.operation_spec.specs.Method.{to_answer}
use Rattle.method_spec.specs.Answer as method
use Rattle.call_spec.specs.declared.Refusal.{Refusal}
use Rattle.call_spec.specs.declared.Refusal.TheVariants.{Closed, Unfit, TreeLength, TicketLength, UnknownKind, ShortTape, ShortTrace, Damage, Overflow, Full, NoKeyLeft, StrayField}
use Rattle.call_spec.specs.Reply.{Answered, Refused, number_of}
use Rattle.replies.specs.Answered.{answered}
use Rattle.call_spec.specs.Store.{reply_of}

pub answer_replied : (a : Answer) → reply_of (to_answer a) ≡ Answered a
unfolding reply_of
answer_replied (Found v) = refl
answer_replied Absent = refl
answer_replied (Replaced v) = refl
answer_replied New = refl
answer_replied (Removed v) = refl
answer_replied Pushed = refl
answer_replied (Popped v) = refl
answer_replied Added = refl
answer_replied (Taken v) = refl
answer_replied Queued = refl
answer_replied (Dequeued v) = refl
answer_replied Empty = refl

pub cause_told : (r : Refusal) (a : method.Answer) → answered (number_of r) a ≡ Refused (number_of r)
cause_told Closed a = refl
cause_told Unfit a = refl
cause_told TreeLength a = refl
cause_told TicketLength a = refl
cause_told UnknownKind a = refl
cause_told ShortTape a = refl
cause_told ShortTrace a = refl
cause_told Damage a = refl
cause_told Overflow a = refl
cause_told Full a = refl
cause_told NoKeyLeft a = refl
cause_told StrayField a = refl
