-- With the current programs the calls with any programs are the calls that there are.
use Rattle.std.specs.Prelude.{ℕ, ◌≡◌, refl, List}
use Rattle.method_spec.specs.Answer.{Structure, Op}
use Rattle.bucket_call_spec.specs.Call.{Store, bucket_call}
use Rattle.state_spec.specs.declared.State.{State}
use Rattle.call_spec.specs.Store.{called}
use Rattle.promise_spec.specs.AsBefore.{current_programs, bucket_call_with, called_with}

pub current-bucket-call : {s : Structure} (k F : ℕ) (op : Op s) (draw : ℕ → ℕ) (st : Store)
    → bucket_call_with current_programs k F op draw st ≡ bucket_call k F op draw st
unfolding bucket_call
current-bucket-call k F op draw st = refl

pub current-call : (s : State) (tree ticket tape trace : List ℕ) → called_with current_programs s tree ticket tape trace ≡ called s tree ticket tape trace
unfolding called_with called bucket_call
current-call s tree ticket tape trace = refl
