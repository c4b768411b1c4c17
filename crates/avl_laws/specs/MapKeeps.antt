-- One call of the map keeps its invariant and answers as the plain table does.
use Rattle.std.specs.Prelude.{◌≡◌, true, false, ℕ, suc, pred, ◌≤◌, ◌<◌, ltb, length}
use Rattle.std.proofs.Math.Path.{refl}
use Rattle.std.proofs.Common.{sym, ap, ◌∙◌, ltb-true}
use mathlib.Core.List.{List, [], ◌∷◌, ◌++◌, append-nil}
use mathlib.Core.List as list
use Rattle.std.proofs.Math.Option.{none, some}
use native.Mathlib.Omega.{arith}
use Rattle.list_spec.specs.Perm.{Perm, nil as perm-none, trans}
use Rattle.list_laws.specs.PermLaws.{perm-refl, perm-sym, perm-of-eq, perm-append, perm-append-right, perm_append_comm, perm-front, perm-map}
use Rattle.balance_spec.specs.Tree.{Tree, leaf, node, height, Balanced}
use Rattle.method_spec.specs.Node.{Ahead, Node, absent, with_value}
use Rattle.method_spec.specs.Prog.{done, bind, start}
use Rattle.method_spec.specs.Answer.{map, Op, get, put, remove, Answer, found, replaced, new, removed, full}
use Rattle.method_spec.specs.Answer as answers
use Rattle.method_spec.specs.Plain.{Pair, Said, lookup, store, put_into, get_answer, remove_answer, plain}
use Rattle.method_spec.specs.Map.{top, Built, Spot, link_of, nodes_at, map_test, walk, climb, unwind, unwound, finish, get_step, get_prog, put_step, put_prog, remove_step, remove_prog}
use Rattle.method_spec.specs.Rounds.{spare}
use Rattle.method_spec.specs.Call.{Memory, program, ahead_after, draws_from}
use Rattle.run_laws.specs.Safe.{Safe, ends}
use Rattle.run_laws.specs.SafeLaws.{safe-then, safe-pick}
use Rattle.run_laws.specs.Calls.{given_tags}
use Rattle.run_laws.specs.Answers.{StepsTo}
use Rattle.avl_laws.specs.Search.{Entry, pairs, link_tree, node_at, nodes_of, Holds}
use Rattle.avl_laws.specs.Ascending.{Ascending, ends as none_left, ascending-search}
use Rattle.avl_laws.specs.View.{away, have, whole, tags, unfetched, fetched, below, further, top_node, sub_of, link-height, link-sub, hand-further, view-nodes, fetched-tags}
use Rattle.avl_laws.specs.Frames.{Frame, before, after, bare, step_of, others, entry_tags}
use Rattle.avl_laws.specs.Fetch.{stock-as}
use Rattle.avl_laws.specs.Turn.{Standing}
use Rattle.avl_laws.specs.Climb.{StockAt, close_at, climb-safe, unwind-stands}
use Rattle.avl_laws.specs.Walk.{Place, Sits, Reached, missing, present, walk-safe}
use Rattle.avl_laws.specs.Table.{present-lookup, present-store, store-ascends, erase-ascends, store_length, erase-length, missing-lookup, missing-store, missing-erase, new-ascends, new-length}
use Rattle.avl_laws.specs.Remove.{take-out-safe}
use Rattle.avl_laws.specs.Holds.{holds-ascending}

-- ---- what the plain machine says of a put

abbrev stored : ℕ → ℕ → List Pair → Answer → Said map
stored key value table a = record { contents = store key value table; answer = a }

module _ (limit key value : ℕ) (table : List Pair) where
  plain-present : (old : ℕ) → lookup key table ≡ some old
      → plain limit (put key value) table ≡ stored key value table (replaced old)
  unfolding plain put_into
  plain-present old e = rw e

  plain-new : lookup key table ≡ none → ltb (length table) limit ≡ true
      → plain limit (put key value) table ≡ stored key value table new
  unfolding plain put_into
  plain-new e t = rw (e, t)

  plain-full : lookup key table ≡ none → ltb (length table) limit ≡ false
      → plain limit (put key value) table ≡ record { contents = table; answer = full }
  unfolding plain put_into
  plain-full e t = rw (e, t)

-- ---- the end of a call

module _ {T : Type 0} {nil tag : T} {contents : List Pair} {more : List T} {b : Built T} {held ns : List (Node T)}
    (st : Standing nil tag Balanced contents [] [] more b held ns) where
  built-nodes : Perm (b.out ++ nodes_at b.sub) (fetched nil st.view)
  built-nodes =
      trans (perm-append st.emitted (perm-of-eq (ap nodes_at st.at-hand)))
      (trans (perm_append_comm (further nil st.view) (nodes_at (sub_of nil st.view))) (hand-further nil st.view))

  all-nodes : Perm ((b.out ++ nodes_at b.sub) ++ ns) (nodes_of nil (whole st.view))
  all-nodes =
      trans (perm-append built-nodes (trans st.stock.left (perm-of-eq (append-nil (unfetched nil st.view)))))
      (view-nodes nil st.view)

  built-tags : Perm (tag ∷ list.map (λ n. n.tag) held) (list.map (λ n. n.tag) (b.out ++ nodes_at b.sub) ++ more)
  built-tags =
      trans st.stock.tagged (perm-append-right more
      (trans (perm-of-eq (sym (fetched-tags nil st.view))) (perm-sym (perm-map (λ n. n.tag) built-nodes))))

module _ {T : Type 0} {nil tag : T} {limit : ℕ} where
  finish-keeps : {ahead : Ahead T} {contents : List Pair} {more : List T} {said : Said map} (entries : ℕ) (a : Answer) {b : Built T}
      {held ns : List (Node T)}
      → Standing nil tag Balanced contents [] [] more b held ns → contents ≡ said.contents → a ≡ said.answer
      → Ascending none none said.contents → entries ≡ length said.contents → length said.contents ≤ limit
      → StepsTo (Holds nil limit) said (tag ∷ []) ahead (finish entries a b) held ns
  finish-keeps {more = more} entries a st same ans ascends counted fits =
      record {
        contents = record {
          tree = whole st.view;
          balanced = st.shape;
          search = ascending-search (whole st.view) (rw (st.same ∙ same) ascends);
          same = st.same ∙ same;
          linked = ap link_of st.at-hand ∙ link-sub nil st.view;
          stored = all-nodes st;
          counted = counted;
          fits = fits;
        };
        answers = ans;
        retagged = record { dropped = more; among = built-tags st };
      }

  -- ---- after the walk

  module _ {key : ℕ} {table : List Pair} (ascends : Ascending none none table) (fits : length table ≤ limit) where
    -- Nothing changed but tags.
    unwound-stands : {s : Spot T} {held ns : List (Node T)} → Reached nil tag key table s held ns
        → Standing nil tag Balanced table [] [] (tag ∷ []) (unwound s) held ns
    unfolding unwound whole further below top_node sub_of link_tree height Balanced pairs
    unwound-stands (missing p sits stock) =
        rw (← p.same) (unwind-stands nil p.sound (away leaf) [] (tag ∷ []) perm-none tt p.reached stock)
    unwound-stands (present {l = l} {e = e} {r = r} old p same stock) =
        rw (← p.same)
        (unwind-stands nil p.sound (have (away l) e (away r)) [] (tag ∷ []) perm-none p.balanced p.reached stock)

    get_keeps : {ahead : Ahead T} (s : Spot T) (held ns : List (Node T)) → Reached nil tag key table s held ns
        → StepsTo (Holds nil limit) (plain limit (get key) table) (tag ∷ []) ahead (get_step (length table) s) held ns
    unfolding get_step plain get_answer
    get_keeps s held ns (missing p sits stock) =
        finish-keeps (length table) answers.absent (unwound-stands (missing p sits stock)) refl
        (rw (missing-lookup p sits)) ascends refl fits
    get_keeps s held ns (present {e = e} old p same stock) =
        finish-keeps (length table) (found e.value) (unwound-stands (present old p same stock)) refl
        (rw (same, present-lookup ascends p)) ascends refl fits

    -- ---- put

    new-climb : (value : ℕ) {fs : List (Frame T)} {held ns : List (Node T)} → Place table fs leaf → Sits key fs
        → StockAt nil tag (away leaf) fs (tag ∷ []) held ns
        → Safe map_test (Standing nil tag Balanced (store key value table) [] [] [])
        (climb (list.map (step_of nil) fs)
        (top (record { key = key; value = value; tag = tag; left = absent nil; right = absent nil }) none none) [])
        held ns
    unfolding whole further below top_node sub_of link_tree height Balanced pairs unfetched tags nodes_of
    new-climb value {fs} p sits stock =
        let e : Entry T = record { key = key; value = value; tag = tag } in
        rw (missing-store p sits value)
        (climb-safe nil p.sound (have (away leaf) e (away leaf)) [] [] perm-none
        (close_at fs p.reached
        (record { balanced = (tt, tt, omega arith, omega arith); least = omega arith; most = omega arith }))
        (rw (missing-store p sits value) at (new-ascends p sits value))
        (stock-as (perm-refl (others nil fs)) (perm-front (entry_tags fs) tag []) stock))

    put-new : {ahead : Ahead T} (value : ℕ) {fs : List (Frame T)} {held ns : List (Node T)} → length table < limit → Place table fs leaf
        → Sits key fs
        → StockAt nil tag (away leaf) fs (tag ∷ []) held ns
        → Safe map_test (StepsTo (Holds nil limit) (stored key value table new) (tag ∷ []) ahead)
        (bind (climb (list.map (step_of nil) fs)
        (top (record { key = key; value = value; tag = tag; left = absent nil; right = absent nil }) none none) [])
        (λ b. done (finish (suc (length table)) new b))) held ns
    put-new value {fs} room p sits stock =
        safe-then _
        (new-climb value p sits stock)
        (λ b h m st. ends (finish-keeps (suc (length table)) new st refl refl
        (new-ascends p sits value)
        (sym (new-length p sits value)) (let k = new-length p sits value in omega arith)))

    put-value : {ahead : Ahead T} (value : ℕ) {fs : List (Frame T)} {l : Tree (Entry T)} {e : Entry T} {r : Tree (Entry T)}
        {held ns : List (Node T)}
        → Place table fs (node l e r) → key ≡ e.key
        → StockAt nil tag (have (away l) e (away r)) fs (tag ∷ []) held ns
        → StepsTo (Holds nil limit) (stored key value table (replaced e.value)) (tag ∷ []) ahead
        (finish (length table) (replaced e.value)
        (unwind (list.map (step_of nil) fs) (top (with_value value (node_at nil l e r)) none none) [])) held ns
    unfolding whole further below top_node sub_of height Balanced pairs unfetched tags
    put-value value {fs} {l} {e} {r} p same stock =
        let e' : Entry T = record { key = e.key; value = value; tag = e.tag } in
        finish-keeps (length table) (replaced e.value)
        (unwind-stands nil p.sound (have (away l) e' (away r)) [] (tag ∷ []) perm-none p.balanced p.reached
        (record { left = stock.left; tagged = stock.tagged }))
        (rw same (sym (present-store ascends p value))) refl
        (rw same (store-ascends ascends p value))
        (rw same (sym (store_length ascends p value))) (let k = store_length ascends p value in rw same (omega arith))

    put_keeps : {ahead : Ahead T} (value : ℕ) (s : Spot T) (held ns : List (Node T)) → Reached nil tag key table s held ns
        → Safe map_test (StepsTo (Holds nil limit) (plain limit (put key value) table) (tag ∷ []) ahead)
        (put_step nil key value tag (length table) limit s) held ns
    unfolding put_step
    put_keeps value s held ns (missing p sits stock) =
        safe-pick (ltb (length table) limit)
        (λ t. rw (plain-new limit key value table (missing-lookup p sits) t)
        (put-new value (ltb-true (length table) limit t) p sits stock))
        (λ t. rw (plain-full limit key value table (missing-lookup p sits) t)
        (ends (finish-keeps (length table) full (unwound-stands (missing p sits stock)) refl refl ascends refl fits)))
    put_keeps value s held ns (present {e = e} old p same stock) =
        rw (plain-present limit key value table e.value (rw same (present-lookup ascends p))) (ends (put-value value p same stock))

    -- ---- remove

    remove-keeps : {ahead : Ahead T} (s : Spot T) (held ns : List (Node T)) → Reached nil tag key table s held ns
        → Safe map_test (StepsTo (Holds nil limit) (plain limit (remove key) table) (tag ∷ []) ahead) (remove_step (length table) s) held ns
    unfolding remove_step plain remove_answer
    remove-keeps s held ns (missing p sits stock) =
        ends (finish-keeps (length table) answers.absent (unwound-stands (missing p sits stock))
        (sym (missing-erase p sits)) (rw (missing-lookup p sits))
        (rw (missing-erase p sits) ascends) (rw (missing-erase p sits)) (rw (missing-erase p sits) fits))
    remove-keeps s held ns (present {l = l} {e = e} {r = r} old p same stock) =
        let k = erase-length ascends p in
        rw same
        (safe-then _ (take-out-safe nil tag ascends old l e r p stock)
        (λ b h m st. ends (finish-keeps (pred (length table)) (removed e.value) st refl
        (rw (present-lookup ascends p)) (erase-ascends ascends p) (omega arith) (omega arith))))

  -- ---- one call

  start-safe : (key : ℕ) {m : Memory T} {table : List Pair} → Holds nil limit table m
      → Safe map_test (Reached nil tag key table) (walk key m.root.height (start m.root) []) [] m.nodes
  unfolding before after others entry_tags unfetched tags
  start-safe key {m} {table} h =
      let k = link-height nil h.tree in
      rw h.linked
      (walk-safe nil tag key table (holds-ascending h) (link_tree nil h.tree).height h.tree {fs = []}
      (omega arith)
      (record { sound = bare; reached = tt; balanced = h.balanced; same = append-nil (pairs h.tree) ∙ h.same })
      (record { lower = none_left; upper = none_left })
      (record {
        left = trans h.stored (perm-of-eq (sym (append-nil (nodes_of nil h.tree))));
        tagged = perm-refl (tag ∷ []);
      }))

-- From a memory that holds the table, a call of the map finds each node that it wants, and keeps.
pub map-keeps : {T : Type 0} {nil : T} {limit : ℕ} {m : Memory T} {table : List Pair} (op : Op map) (spares : ℕ → T) → Holds nil limit table m
    → Safe map_test (StepsTo (Holds nil limit) (plain limit op table) (given_tags map m spares) (ahead_after nil op spares limit m.entries m.ahead))
    (program nil op spares limit m.entries m.ahead m.root) [] m.nodes
unfolding program ahead_after get_prog put_prog remove_prog spare draws_from
map-keeps (get key) spares h =
    rw h.counted (safe-then _ (start-safe {tag = spares 0} key h)
    (λ s held ns r. ends (get_keeps (holds-ascending h) h.fits s held ns r)))
map-keeps (put key value) spares h =
    rw h.counted (safe-then _ (start-safe key h) (put_keeps (holds-ascending h) h.fits value))
map-keeps (remove key) spares h =
    rw h.counted (safe-then _ (start-safe {tag = spares 0} key h) (remove-keeps (holds-ascending h) h.fits))
