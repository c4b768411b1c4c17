-- The queue's programs are natural in the tags.
use Rattle.std.specs.Prelude.{◌≡◌, refl, Bool, true, false, eqb, ltb}
use Rattle.list_spec.specs.Choice.{pick}
use Rattle.method_spec.specs.Node.{Link, absent}
use Rattle.method_spec.specs.Answer.{queue, enqueue, dequeue}
use Rattle.method_spec.specs.Queue.{enqueue_prog, dequeue_prog}
use Rattle.method_spec.specs.Call.{program}
use Rattle.run_laws.specs.Natural.{map_link, Natural, both-done, both-want, same-pick}

module _ {T S : Type 0} (f : T → S) where
  tag-pick : (b : Bool) (x y : T) → pick b (f x) (f y) ≡ f (pick b x y)
  tag-pick true x y = refl
  tag-pick false x y = refl

  link-pick : (b : Bool) (x y : Link T) → pick b (map_link f x) (map_link f y) ≡ map_link f (pick b x y)
  link-pick true x y = refl
  link-pick false x y = refl

  pub queue-natural : (nil : T) → Natural f queue nil
  unfolding program enqueue_prog dequeue_prog
  queue-natural nil (enqueue value) spares limit entries a l =
      same-pick f (ltb entries limit)
      (both-done
      (rw (
        tag-pick (eqb entries 0) (spares 0) a.tag,
        link-pick (eqb entries 0) (record { height = 1; key = a.key; tag = pick (eqb entries 0) (spares 0) a.tag }) l,
      )))
      (both-done refl)
  queue-natural nil dequeue spares limit entries a l =
      same-pick f (eqb entries 0) (both-done refl)
      (both-want (λ n. both-done (rw (link-pick (eqb entries 1) (absent nil) n.left))))
