-- What a reply means is what its answer means.
use Rattle.std.specs.Prelude.{◌≡◌, refl}
use Rattle.method_spec.specs.Answer.{Answer, found, absent, replaced, new, removed, pushed, popped, added, taken, queued, dequeued, empty, full, meaning}
use Rattle.operation_spec.specs.declared.Answer as told
use Rattle.operation_spec.specs.declared.Answer.TheVariants.{Found, Absent, Replaced, New, Removed, Pushed, Popped, Added, Taken, Queued, Dequeued, Empty}
use Rattle.call_spec.specs.Reply.{Answered}
use Rattle.call_spec.specs.Store.{reply_of, reply_meaning}

pub reply-means : (a : Answer) → reply_meaning (reply_of a) ≡ meaning a
unfolding reply_of
reply-means (found v) = refl
reply-means absent = refl
reply-means (replaced v) = refl
reply-means new = refl
reply-means (removed v) = refl
reply-means pushed = refl
reply-means (popped v) = refl
reply-means added = refl
reply-means (taken v) = refl
reply-means queued = refl
reply-means (dequeued v) = refl
reply-means empty = refl
reply-means full = refl

-- The number of a reply that is no refusal.
pub answered-number : (a : told.Answer) → (reply_meaning (Answered a)).number ≡ 0
answered-number (Found v) = refl
answered-number Absent = refl
answered-number (Replaced v) = refl
answered-number New = refl
answered-number (Removed v) = refl
answered-number Pushed = refl
answered-number (Popped v) = refl
answered-number Added = refl
answered-number (Taken v) = refl
answered-number Queued = refl
answered-number (Dequeued v) = refl
answered-number Empty = refl
