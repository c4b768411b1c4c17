-- Laws of a level of the way up.
use Rattle.std.specs.Prelude.{ℕ, suc, ◌+◌, ◌≤◌, ◌<◌, ◌≡◌, Bool, true, false, not, List, [], ◌++◌, length, get_or, drop, Result, Ok, Err}
use Rattle.std.specs.Prelude as code
use Rattle.std.proofs.Common.{arith, add-one, sym, ◌∙◌, subst, append-nil}
use Rattle.std.proofs.Math.Option.{Option, none, some}
use Rattle.method_spec.specs.Node.{Node, child}
use Rattle.method_spec.specs.Prog.{Want, Prog, done}
use Rattle.method_spec.specs.Map.{Step, Sub, Built, listed, kid, top_of, beside, below, step_at, tall, leans_out, fetched_top, single, double, turn, with_subtree, rest, near_on, others_of, seat, raise}
use Rattle.slot_spec.specs.declared.Node as node
use Rattle.map_nodes.specs.declared.Sub as sub
use Rattle.operation_spec.specs.declared.Want as want
use Rattle.rotations.specs.declared.raise.Others.{Others}
use Rattle.rotations.specs.declared.raise.Raised.{Raised}
use Rattle.rotations.specs.declared.raise.Opened.{Opened}
use Rattle.leaf_spec.specs.Convert.{to_node}
use Rattle.operation_spec.specs.Method.{to_want}
use Rattle.map_nodes.specs.Method.{to_kid, to_sub}
use Rattle.slot_spec.specs.Slot.{no_node}
use Rattle.node_rows.specs.Held.{Held, nodes_of, HeldFrom}
use Rattle.node_rows.specs.Heights.{Low}
use Rattle.node_rows.specs.HeldLaws.{held_next, held_none, held_low}
use Rattle.map_nodes.specs.Heights.{LowSub}
use Rattle.map_nodes.specs.HeightLaws.{low-more, low-placed, low_near}
use Rattle.operations.specs.Resume.{resume, finished, follow, Misses}
use Rattle.operations.specs.ResumeLaws.{resume-done, resume-want, resume-missing, resume-bind, resume-map}
use Rattle.rotations.specs.Raise.{Lacks, Opens, list_of, built_of, Raises, RaisesIfHeld, turn_over}

-- ---- opening

module _ (h : Held) (next : ℕ) (from : HeldFrom 250 h next) where
  pub opens-here : (n : node.Node) → Low 250 (to_node n) → Opens (some (to_node n)) h next (record { node = n; next = next })
  opens-here n low =
      record { resumes = λ w. resume-done (to_node n) (drop next (nodes_of h)); within = from.within; low = low }

  pub opens-next : {n : node.Node} → n ≡ get_or h.nodes next no_node → next < h.count → Opens none h next (record { node = n; next = next + 1 })
  opens-next e k =
      rw e
      (let few : h.count ≤ length h.nodes = omega (arith, from.places, from.few) in
      record {
        resumes = λ w. rw (held_next h next k few, add-one) (resume-want w done (to_node (get_or h.nodes next no_node)) (drop (suc next) (nodes_of h)) ∙ resume-done (to_node (get_or h.nodes next no_node)) (drop (suc next) (nodes_of h)));
        within = omega arith;
        low = held_low h next 250 from.low k few;
      })

  pub lacks : h.count ≤ next → Lacks none h next
  lacks k =
      let few : h.count ≤ length h.nodes = omega (arith, from.places, from.few) in
      record { misses = λ w. rw (held_none h next k few) (resume-missing w done) }

-- ---- a rotation

module _ (p : Step ℕ) (s : Bool) (n c : Node ℕ) (near : Sub ℕ) (others : List (Node ℕ)) where
  abbrev inward : Want ℕ
  inward = below (step_at (beside p s (child s n)) c (not s))

  turn-single : (ns : List (Node ℕ)) → leans_out s c ≡ true
      → resume (turn_over p s n c near others) ns ≡ finished (record { sub = (single s n c (kid s near) none []).sub; out = listed (kid (not s) near) ++ others }) ns
  unfolding turn_over single
  turn-single ns e = rw e (resume-done _ ns)

  turn-inward : (ns : List (Node ℕ)) → leans_out s c ≡ false
      → resume (turn_over p s n c near others) ns
      ≡ follow (resume (fetched_top inward (kid (not s) near)) ns) (λ g rest. finished (record { sub = (double s n c g none []).sub; out = listed (kid s near) ++ others }) rest)
  unfolding turn_over double
  turn-inward ns e = rw e (resume-map (fetched_top inward (kid (not s) near)) (λ g. double s n c g (kid s near) others) ns)

module _ (p : Step ℕ) (s : Bool) (n c : Node ℕ) (near : Sub ℕ) (others : Others) (h : Held) (next : ℕ) where
  pub raises-single : {b : sub.Sub} {inner : code.Option node.Node} → to_kid inner ≡ kid (not s) near → leans_out s c ≡ true
      → to_sub b ≡ (single s n c (kid s near) none []).sub → next ≤ h.count
      → Raises (turn_over p s n c near (list_of others)) h next
      (record { sub = b; aside = inner; others = others; next = next })
  raises-single i e q k =
      record {
        resumes = turn-single p s n c near (list_of others) (drop next (nodes_of h)) e ∙ rw (q, i);
        within = k;
      }

  module _ (e : leans_out s c ≡ false) where
    pub misses-inward : Lacks (kid (not s) near) h next → (w : want.Want) → to_want w ≡ below (step_at (beside p s (child s n)) c (not s))
        → Misses (turn_over p s n c near (list_of others)) (drop next (nodes_of h)) w
    misses-inward l w u =
        turn-inward p s n c near (list_of others) (drop next (nodes_of h)) e
        ∙ rw (l.misses (inward p s n c near (list_of others)), u)

    pub raises-double : {o : Opened} → Opens (kid (not s) near) h next o → {b : sub.Sub} {outer : code.Option node.Node}
        → to_sub b ≡ (double s n c (to_node o.node) none []).sub → to_kid outer ≡ kid s near
        → Raises (turn_over p s n c near (list_of others)) h next (record { sub = b; aside = outer; others = others; next = o.next })
    raises-double opens u v =
        record {
          resumes =
              turn-inward p s n c near (list_of others) (drop next (nodes_of h)) e
              ∙ rw (opens.resumes (inward p s n c near (list_of others)), u, v);
          within = opens.within;
        }

module _ (p : Step ℕ) (s : Bool) (n : Node ℕ) (near : Sub ℕ) (others : Others) (h : Held) (next : ℕ) where
  resumes-turn : resume (turn p s n near (list_of others)) (drop next (nodes_of h))
      ≡ follow (resume (fetched_top (beside p s (child s n)) (top_of near)) (drop next (nodes_of h)))
      (λ c rest. resume (turn_over p s n c near (list_of others)) rest)
  unfolding turn turn_over
  resumes-turn =
      resume-bind (fetched_top (beside p s (child s n)) (top_of near)) (λ c. turn_over p s n c near (list_of others)) (drop next (nodes_of h))

  pub misses-child : Lacks (top_of near) h next → (w : want.Want) → to_want w ≡ beside p s (child s n)
      → Misses (turn p s n near (list_of others)) (drop next (nodes_of h)) w
  misses-child l w u = resumes-turn ∙ rw (l.misses (beside p s (child s n)), u)

  pub raises-turn : {o : Opened} → Opens (top_of near) h next o → (r : Result Raised want.Want)
      → RaisesIfHeld (turn_over p s n (to_node o.node) near (list_of others)) h o.next r
      → RaisesIfHeld (turn p s n near (list_of others)) h next r
  raises-turn opens (Ok r) u = record { resumes = resumes-turn ∙ rw (opens.resumes (beside p s (child s n))) u.resumes; within = u.within }
  raises-turn opens (Err w) u = resumes-turn ∙ rw (opens.resumes (beside p s (child s n))) u

-- ---- a level

module _ (p : Step ℕ) (b : Sub ℕ) where
  pub low_turn : (s : Bool) {n : Node ℕ} {near : Sub ℕ} → n ≡ with_subtree p b → near ≡ near_on p b s → Low 250 p.node → LowSub 250 b
      → Low 253 n × LowSub 250 near
  low_turn s d e low low-sub =
      (rw d (low-more (with_subtree p b) (low-placed 250 p b low low-sub) (omega arith)), rw e (low_near 250 p b s low low-sub))

  raise-left : tall true (with_subtree p b) ≡ true → raise p b ≡ turn p true (with_subtree p b) (near_on p b true) (others_of p b true)
  unfolding raise
  raise-left e = rw e

  raise-right : tall true (with_subtree p b) ≡ false → tall false (with_subtree p b) ≡ true
      → raise p b ≡ turn p false (with_subtree p b) (near_on p b false) (others_of p b false)
  unfolding raise
  raise-right d e = rw (d, e)

  raise-rest : tall true (with_subtree p b) ≡ false → tall false (with_subtree p b) ≡ false → raise p b ≡ done (rest p b)
  unfolding raise
  raise-rest d e = rw (d, e)

  pub rest-is : {n : Node ℕ} {top left right : Option (Node ℕ)} {c : Sub ℕ} → n ≡ with_subtree p b → top ≡ top_of b → c ≡ seat p.way n top none
      → left ≡ kid true b → right ≡ kid false b
      → ◌≡◌ {A = Built ℕ} (record { sub = c; out = (listed left ++ listed right) ++ [] }) (rest p b)
  rest-is d e f g i = rw (append-nil, f, d, e, g, i)

  module _ (h : Held) (next : ℕ) {r : Raised} where
    pub raises-rest : built_of r ≡ rest p b → r.next ≡ next → next ≤ h.count → Raises (done (rest p b)) h next r
    raises-rest e f k =
        record { resumes = resume-done (rest p b) (drop next (nodes_of h)) ∙ rw (← e, f); within = rw f k }

    pub raises-level-rest : {n : Node ℕ} → n ≡ with_subtree p b → tall true n ≡ false → tall false n ≡ false
        → Raises (done (rest p b)) h next r → Raises (raise p b) h next r
    raises-level-rest at d t =
        subst (λ (q : Prog ℕ (Built ℕ)). Raises q h next r) (sym (raise-rest (rw (← at) d) (rw (← at) t)))

  module _ (h : Held) (next : ℕ) {n : Node ℕ} (at : n ≡ with_subtree p b) {near : Sub ℕ} (others : Others) (x : Result Raised want.Want) where
    pub raises-left : tall true n ≡ true → near ≡ near_on p b true → list_of others ≡ others_of p b true
        → RaisesIfHeld (turn p true n near (list_of others)) h next x → RaisesIfHeld (raise p b) h next x
    raises-left d e f =
        subst (λ (q : Prog ℕ (Built ℕ)). RaisesIfHeld q h next x) (cc (raise-left (rw (← at) d)))

    pub raises-right : tall true n ≡ false → tall false n ≡ true → near ≡ near_on p b false → list_of others ≡ others_of p b false
        → RaisesIfHeld (turn p false n near (list_of others)) h next x → RaisesIfHeld (raise p b) h next x
    raises-right d t e f =
        subst (λ (q : Prog ℕ (Built ℕ)). RaisesIfHeld q h next x) (cc (raise-right (rw (← at) d) (rw (← at) t)))
