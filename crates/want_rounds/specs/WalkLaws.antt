-- The rounds that want a node, with the held nodes in rows: in the shapes in which the code has them.
use Rattle.std.specs.Prelude.{◌≡◌, refl, true, false, List, [], ◌∷◌, ◌++◌, ℕ, max, ◌+◌, ◌^◌, ◌≤◌, ◌<◌, length, take, set, None}
use Rattle.std.proofs.Common.{sym, ◌∙◌, ap, ap₂, append-nil, add-one, arith, length-append, take-suc-set}
use Rattle.std.proofs.lemmas.List.{map-append}
use Rattle.std.proofs.Math.Option.{none, some}
use Rattle.method_spec.specs.Node.{Node, retag}
use Rattle.method_spec.specs.Prog.{From, after}
use Rattle.bucket_call_spec.specs.Fetch as fetch
use Rattle.slot_spec.specs.declared.Node as node
use Rattle.leaf_spec.specs.Convert.{to_node}
use Rattle.operation_spec.specs.declared.Want.{Want}
use Rattle.operation_spec.specs.Method.{to_from, to_want, wanted_in}
use Rattle.node_rows.specs.Row.{places, fetches, from_in, froms_in}
use Rattle.node_rows.specs.Held.{Held, held_in, nodes_of}
use Rattle.node_rows.specs.HeldLaws.{first-length, first_more, held_more_lem, held-length}
use Rattle.held_keys.specs.Held.{most_held}
use Rattle.tag_moves.specs.Moved.{held_of}
use Rattle.one_round.specs.declared.Took.{Took}
use Rattle.one_round.specs.OneRound.{RoundReady, taken_as, Wanted, took, node_taken}
use Rattle.idle_rounds.specs.Idle.{keys_held}
use Rattle.round_close.specs.Fault.{mark_of}
use Rattle.want_rounds.specs.declared.Job.{Job}
use Rattle.want_rounds.specs.declared.Fetched.{Fetched}
use Rattle.want_rounds.specs.Wanting.{held_by, nodes_held, program_of, Begins, Walked, InRows, Walks}
use Rattle.want_rounds.specs.WantingLaws.{at_most, want-ready, walked-shut, walked_on, walked-few}

-- ---- held nodes in rows
-- One more.
held-one-more : (fs : List From) (ns : List (Node ℕ)) (f : From) (n : Node ℕ) → length fs ≡ length ns
    → held_of (fs ++ (f ∷ [])) (ns ++ (n ∷ [])) ≡ held_of fs ns ++ (record { from = f; node = n } ∷ [])
unfolding held_of
held-one-more [] [] f n e = refl
held-one-more [] (m ∷ ns) f n e = let z : ⊥ = omega arith in absurd z
held-one-more (g ∷ fs) [] f n e = let z : ⊥ = omega arith in absurd z
held-one-more (g ∷ fs) (m ∷ ns) f n e = ap (λ (hs : List fetch.Held). record { from = g; node = m } ∷ hs) (held-one-more fs ns f n (omega arith))

pub rows_none : (held froms keys : List ℕ) → InRows (held_in held 0) froms keys
unfolding held_of
rows_none held froms keys = record { counted = refl; nodes-are = refl; keys-are = refl }

pub none-held : (held froms : List ℕ) → held_by (held_in held 0) froms ≡ []
unfolding held_of
none-held held froms = refl

module _ {h : Held} {froms keys : List ℕ} (rows : InRows h froms keys) (few : h.count < 33) (row_sized : length h.nodes ≡ places) (froms-sized : length froms ≡ fetches)
    (keys-sized : length keys ≡ most_held) (x : node.Node) (v : ℕ) {g : fetch.Held} (node-is : to_node x ≡ g.node) (from_is : from_in v ≡ g.from) where
  abbrev pub held_more : Held
  held_more = record { nodes = set h.nodes h.count x; count = h.count + 1 }

  nodes-more : nodes_of held_more ≡ nodes_of h ++ (g.node ∷ [])
  nodes-more = held_more_lem h x (omega arith) ∙ ap (λ (m : Node ℕ). nodes_of h ++ (m ∷ [])) node-is

  froms-more : froms_in (h.count + 1) (set froms h.count v) ≡ froms_in h.count froms ++ (g.from ∷ [])
  froms-more =
      rw (add-one h.count) (first_more from_in froms h.count v (omega arith))
      ∙ ap (λ (f : From). froms_in h.count froms ++ (f ∷ [])) from_is

  pub held-more-is : held_by held_more (set froms h.count v) ≡ held_by h froms ++ (g ∷ [])
  held-more-is =
      ap₂ held_of froms-more nodes-more
      ∙ held-one-more (froms_in h.count froms) (nodes_of h) g.from g.node
      (first-length from_in froms h.count (omega arith) ∙ sym (held-length h (omega arith)))

  pub rows_more : InRows held_more (set froms h.count v) (set keys h.count x.key)
  rows_more =
      record {
        counted = ap length held-more-is ∙ length-append (held_by h froms) (g ∷ []) ∙ ap (λ (n : ℕ). n + 1) rows.counted;
        nodes-are =
            ap nodes_held held-more-is
            ∙ map-append (λ (f : fetch.Held). f.node) (held_by h froms) (g ∷ [])
            ∙ ap (λ (ns : List (Node ℕ)). ns ++ (g.node ∷ [])) rows.nodes-are
            ∙ sym nodes-more;
        keys-are =
            ap keys_held held-more-is
            ∙ map-append (λ (f : fetch.Held). f.node.key) (held_by h froms) (g ∷ [])
            ∙ ap₂ (λ (ks : List ℕ) (k : ℕ). ks ++ (k ∷ [])) rows.keys-are (sym (ap (λ (m : Node ℕ). m.key) node-is))
            ∙ sym (rw (add-one h.count) (take-suc-set keys h.count x.key (omega arith)));
      }

-- None is wanted any more.
pub walks-on : {j : Job} {draw : ℕ → ℕ} {n : ℕ} {row₀ tree₀ trace₀ : List ℕ} {h : Held} {froms row tree keys trace : List ℕ} {r : Fetched} {m leaves peak : ℕ}
    → r ≡ record { count = h.count; waiting = m; fault = None; leaves = leaves; peak = peak }
    → Walked j draw n row₀ tree₀ trace₀ (held_by h froms) m peak row tree trace → InRows h froms keys
    → wanted_in (after (program_of j) (nodes_held (held_by h froms))) ≡ none
    → Walks j draw n row₀ tree₀ trace₀ h froms row tree keys trace r
walks-on e walked rows finished = rw e (record { goes = λ z. (walked, rows); finished = λ z. finished; stops = λ z. absurd (z refl) })

-- A round that took nothing out has closed the store.
pub not_taken : {structure entries k n : ℕ} {want : Want} {row tree held row' tree' : List ℕ} {r : Took}
    → Wanted structure entries k n want row tree held row' tree' r → took r ≡ false → mark_of r.fault ≡ 0 → ⊥
not_taken {r = r} round t e = let g : took r ≡ true = round.goes_on e in let z : ◌≡◌ {A = ℕ} 0 1 = cc in omega arith

module _ (j : Job) (draw : ℕ → ℕ) (is_IsLeaf : (d : ℕ) → draw d < 2 ^ j.size) {n : ℕ} {row₀ tree₀ : List ℕ} (b : Begins j draw n row₀ tree₀)
    (trace₀ : List ℕ) {h : Held} {froms : List ℕ} {m peak : ℕ} {row tree keys trace : List ℕ}
    (inv : Walked j draw n row₀ tree₀ trace₀ (held_by h froms) m peak row tree trace) (rows : InRows h froms keys) where
  pub rows_few : h.count ≤ 33
  rows_few = omega (arith, walked-few j draw is_IsLeaf b trace₀ inv, rows.counted)

  module _ (want : Want) (asked : wanted_in (after (program_of j) (nodes_of h)) ≡ some (to_want want)) where
    asked-now : wanted_in (after (program_of j) (nodes_held (held_by h froms))) ≡ some (to_want want)
    asked-now = rw rows.nodes-are asked

    pub rows-ready : RoundReady j.size want.link.tag m row tree (take h.count keys)
    rows-ready = rw (← rows.keys-are) (want-ready j draw is_IsLeaf b trace₀ inv want asked-now)

    module _ {row' tree' : List ℕ} {r : Took} (more : h.count < j.rounds) (round : Wanted j.structure j.entries j.size m want row tree (take h.count keys) row' tree' r)
        {peak' : ℕ} (raised : peak' ≡ max peak r.count) (room : h.count < length trace₀) where
      abbrev shown : List ℕ
      shown = set trace h.count want.link.tag

      fewer : length (held_by h froms) < j.rounds
      fewer = omega (arith, rows.counted)

      within : length (held_by h froms) < length trace₀
      within = omega (arith, rows.counted)

      round-now : Wanted j.structure j.entries j.size m want row tree (keys_held (held_by h froms)) row' tree' r
      round-now = rw rows.keys-are round

      -- Damage.
      pub walks-damaged : {f : Fetched} → f ≡ record { count = h.count; waiting = r.waiting; fault = r.fault; leaves = h.count + 1; peak = peak' } → took r ≡ false
          → Walks j draw n row₀ tree₀ trace₀ h froms row' tree' keys shown f
      walks-damaged e t =
          let marked = not_taken round t in
          let came = walked-shut j draw is_IsLeaf b trace₀ inv want asked-now fewer round-now raised within false t marked {count = h.count} (sym (ap length (append-nil (held_by h froms)) ∙ rows.counted)) in
          rw e (record { goes = λ z. absurd (marked z); finished = λ z. absurd (marked z); stops = λ z. record { came = rw (append-nil (held_by h froms), rows.counted) at came; nodes-are = rows.nodes-are } })

      module _ {h' : Held} {x : node.Node} {d : ℕ} (v : ℕ) (is : h' ≡ record { nodes = set h.nodes h.count x; count = h.count + 1 })
          (same : x ≡ record { key = (node_taken r).key; value = (node_taken r).value; tag = d; left = (node_taken r).left; right = (node_taken r).right })
          (drawn : d ≡ draw h.count) (from_is : from_in v ≡ to_from want.from) (row_sized : length h.nodes ≡ places) (froms-sized : length froms ≡ fetches)
          (keys-sized : length keys ≡ most_held) (taken : took r ≡ true) where
        abbrev g : fetch.Held
        g = taken_as want (draw h.count) (to_node (node_taken r))

        node-is : to_node x ≡ retag (draw h.count) (to_node (node_taken r))
        node-is = ap to_node same ∙ ap (λ (t : ℕ). retag t (to_node (node_taken r))) drawn

        few : h.count < 33
        few = omega (arith, at_most j draw is_IsLeaf b)

        then-held : held_by h' (set froms h.count v) ≡ held_by h froms ++ (g ∷ [])
        then-held = rw is (held-more-is rows few row_sized froms-sized keys-sized x v {g = g} node-is from_is)

        then-rows : InRows h' (set froms h.count v) (set keys h.count x.key)
        then-rows =
            rw is (rows_more rows few row_sized froms-sized keys-sized x v {g = g} node-is from_is)

        -- Overflow.
        pub walks-overflow : {f : Fetched} → f ≡ record { count = h.count + 1; waiting = r.waiting; fault = r.fault; leaves = h.count + 1; peak = peak' } → (mark_of r.fault ≡ 0 → ⊥)
            → Walks j draw n row₀ tree₀ trace₀ h' (set froms h.count v) row' tree' (set keys h.count x.key) shown f
        walks-overflow e marked =
            let many = sym (length-append (held_by h froms) (taken_as want (draw (length (held_by h froms))) (to_node (node_taken r)) ∷ []) ∙ ap (λ (n : ℕ). n + 1) rows.counted) in
            let came = rw rows.counted at (walked-shut j draw is_IsLeaf b trace₀ inv want asked-now fewer round-now raised within true taken marked {count = h.count + 1} many) in
            rw e (record { goes = λ z. absurd (marked z); finished = λ z. absurd (marked z); stops = λ z. record { came = rw then-held came; nodes-are = then-rows.nodes-are } })

        -- One round more.
        pub walked_next : mark_of r.fault ≡ 0
            → Walked j draw n row₀ tree₀ trace₀ (held_by h' (set froms h.count v)) r.waiting peak' row' tree' shown
            × InRows h' (set froms h.count v) (set keys h.count x.key)
        walked_next e =
            (rw then-held (rw rows.counted at (walked_on j draw is_IsLeaf b trace₀ inv want asked-now fewer round-now raised within taken e)), then-rows)
