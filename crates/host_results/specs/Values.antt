-- The value of an answer, and a reply, as the code has them.
use Rattle.std.specs.Prelude.{ℕ, Option, Some, None, Result, Ok, Err}
use Rattle.operation_spec.specs.declared.Answer.{Answer}
use Rattle.call_spec.specs.Reply.{Reply, Answered, Refused}
use Rattle.host_spec.specs.declared.Value.{Value}
use Rattle.host_spec.specs.Result.{no_value, aValue}

abbrev pub told_value : Option ℕ → Value
told_value None = no_value
told_value (Some v) = aValue v

-- A refusal by its number alone.
abbrev pub numbered : Result Answer ℕ → Reply
numbered (Ok a) = Answered a
numbered (Err n) = Refused n
