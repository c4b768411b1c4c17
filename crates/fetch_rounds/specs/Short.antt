-- What the one fetch round of a stack or a queue needs.
use Rattle.std.specs.Prelude.{◌≡◌, true, List, ℕ}
use Rattle.bucket_call_spec.specs.Call.{draw_of}
use Rattle.short_outcomes.specs.OneFetch.{one_fetch}
use Rattle.want_rounds.specs.declared.Job.{Job}
use Rattle.want_rounds.specs.Wanting.{structure_in, Begins, LongEnough}

pub record CanFetchOne (j : Job) (n : ℕ) (row tree tape trace : List ℕ) : Type 0 where
  pub begins : Begins j (draw_of j.size tape) n row tree
  pub one-fetch : one_fetch (structure_in j) ≡ true
  pub long : LongEnough j tape trace
