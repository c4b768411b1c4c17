-- One call over a bucket tree, on a store that fits: F fetch rounds, the step, F put rounds.
use Rattle.std.specs.Prelude.{ℕ, zero, suc, ◌%◌, ◌^◌, List, [], get_or}
use Rattle.std.proofs.Math.Option.{some}
use Rattle.method_spec.specs.Node.{Link, Ahead, Node}
use Rattle.method_spec.specs.Prog.{Prog, done, want}
use Rattle.method_spec.specs.Answer.{Structure, Op}
use Rattle.method_spec.specs.Rounds.{put_draw}
use Rattle.method_spec.specs.Outcome.{Outcome}
use Rattle.method_spec.specs.Call.{capacity, program, ahead_after, spare_tags}
use Rattle.round_spec.specs.Round.{join}
use Rattle.leaf_spec.specs.Leaf.{leaf_format}
use Rattle.bucket_call_spec.specs.Fetch.{Going, CallLeft, Round, on, shut, closing, idle_round, fetch_rounds}

-- A draw: the remainder of the tape's number by 2^k.
abbrev pub draw_of : (size : ℕ) → List ℕ → ℕ → ℕ
draw_of k tape d = get_or tape d 0 % 2 ^ k

-- A store as far as a call's rounds ask.
pub record Store : Type 0 where
  pub entries : ℕ
  pub root : Link ℕ
  pub ahead : Ahead ℕ
  pub waiting : List (Node ℕ)
  pub tree : List ℕ

-- ---- the put rounds: nothing is wanted or held
unfoldable pub put_rounds : (size : ℕ) → (draw : ℕ → ℕ) → (n d : ℕ) → Outcome ℕ → Going → Round (Outcome ℕ)
put_rounds k draw zero d o g = on g (done o)
put_rounds k draw (suc n) d o g = next (idle_round k (draw d) (done o) g) (λ g. put_rounds k draw n (suc d) o g)
  where
    next : Round (Outcome ℕ) → (Going → Round (Outcome ℕ)) → Round (Outcome ℕ)
    next (shut m g) f = shut m g
    next (on g p) f = f g

-- What is known ahead is, with the step, as after it.
unfoldable pub after_puts : Ahead ℕ → Outcome ℕ → Round (Outcome ℕ) → CallLeft
after_puts a o (shut m g) = closing m o.entries o.root a g
after_puts a o (on g p) =
    record {
      mark = 0;
      entries = o.entries;
      root = o.root;
      ahead = a;
      waiting = g.waiting;
      tree = g.tree;
      leaves = g.leaves;
      answer = some o.answer;
    }

-- After the step the held nodes wait too.
abbrev pub stepped : Outcome ℕ → Going → Going
stepped o g =
    record { tree = g.tree; waiting = join leaf_format o.nodes g.waiting; held = []; leaves = g.leaves }

-- After the fetch rounds. A program that still wants a node was longer than they are: the fetch tests rule that out for a
-- store that fits; the definition calls it damage. What is known ahead is `a` after the step, and before it as it was.
unfoldable pub after_fetches : Structure → (size rounds : ℕ) → (draw : ℕ → ℕ) → Store → Ahead ℕ → Round (Outcome ℕ) → CallLeft
after_fetches s k F draw st a (shut m g) = closing m st.entries st.root st.ahead g
after_fetches s k F draw st a (on g (want w c)) = closing 8 st.entries st.root st.ahead g
after_fetches s k F draw st a (on g (done o)) = after_puts a o (put_rounds k draw F (put_draw s F 0) o (stepped o g))

-- Before the first round nothing is held, and no leaf was revealed.
abbrev pub begun : Store → Going
begun st = record { tree = st.tree; waiting = st.waiting; held = []; leaves = [] }

-- The call's program. The spare draws come after those of the fetch rounds.
abbrev pub program_by : {s : Structure} → (size rounds : ℕ) → Op s → (draw : ℕ → ℕ) → Store → Prog ℕ (Outcome ℕ)
program_by k F op draw st =
    program 0 op (spare_tags F draw) (capacity k) st.entries st.ahead st.root

-- Where F fetch rounds come to: a round that closed the store, or the step.
abbrev pub fetched_by : {s : Structure} → (size rounds : ℕ) → Op s → (draw : ℕ → ℕ) → Store → Round (Outcome ℕ)
fetched_by {s} k F op draw st = fetch_rounds s st.entries k draw F 0 (program_by k F op draw st) (begun st)

-- What is known ahead after the step.
abbrev pub ahead_then : {s : Structure} → (size rounds : ℕ) → Op s → (draw : ℕ → ℕ) → Store → Ahead ℕ
ahead_then k F op draw st = ahead_after 0 op (spare_tags F draw) (capacity k) st.entries st.ahead

-- One call with F fetch and F put rounds. Fetch round i uses draw i; the draws of the put rounds come after the spare ones.
unfoldable pub bucket_call : {s : Structure} → (size rounds : ℕ) → Op s → (draw : ℕ → ℕ) → Store → CallLeft
bucket_call {s} k F op draw st =
    after_fetches s k F draw st (ahead_then k F op draw st) (fetched_by k F op draw st)
