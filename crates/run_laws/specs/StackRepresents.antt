-- The stack's memories: a chain of nodes with keys from 1 up, which every push and pop keeps, with the plain stack's answers.
use Rattle.std.specs.Prelude.{◌≡◌, true, false}
use Rattle.std.proofs.Math.Path.{refl, ap}
use Rattle.std.proofs.Common.{sym, ◌∙◌, le_refl, eq-eqb, ne_eqb, ltb-true}
use mathlib.Core.List.{List, [], ◌∷◌, map}
use Prim.Native.Nat.{ℕ, suc, pred, ◌≤◌, ◌<◌}
use native.Mathlib.Omega.{arith}
use Rattle.std.proofs.Math.Dec.{ltb}
use Rattle.std.proofs.Math.ListN.{length, length-map}
use Rattle.list_spec.specs.Perm.{Perm, cons, trans}
use Rattle.list_laws.specs.PermLaws.{perm-refl, perm-sym, perm-map}
use Rattle.list_spec.specs.Distinct.{Distinct, All}
use Rattle.list_laws.specs.DistinctLaws.{all_nil, all_cons, distinct-perm}
use Rattle.method_spec.specs.Node.{Node, Link, Ahead, Cell, absent, retag}
use Rattle.method_spec.specs.Prog.{Want, start}
use Rattle.method_spec.specs.Answer.{stack, Op, push, pop, pushed, popped, empty, full}
use Rattle.method_spec.specs.Plain.{plain, popped_from}
use Rattle.method_spec.specs.Outcome.{Outcome}
use Rattle.method_spec.specs.Stack.{push_prog, pop_prog, stack_test}
use Rattle.method_spec.specs.Rounds.{spare}
use Rattle.method_spec.specs.Call.{program, ahead_after, test, Memory, empty_memory, draws_from}
use Rattle.method_spec.specs.HeapShape.{countdown}
use Rattle.run_laws.specs.Safe.{Safe, ends, meets}
use Rattle.run_laws.specs.SafeLaws.{safe-pick, within_more}
use Rattle.run_laws.specs.Fetches.{keys}
use Rattle.run_laws.specs.EnoughRounds.{program-within}
use Rattle.run_laws.specs.Calls.{memory_of, given_tags}
use Rattle.run_laws.specs.Answers.{StepsTo, Represents}

module _ {T : Type 0} (nil : T) where
  -- The link to a chain and its nodes: the first cell is the top, and the last has key 1.
  unfoldable pub chain_link : List (Cell T) → Link T
  chain_link [] = absent nil
  chain_link (c ∷ cs) = record { height = 1; key = suc (length cs); tag = c.tag }

  abbrev pub chain_node : Cell T → List (Cell T) → Node T
  chain_node c cs =
      record { key = suc (length cs); value = c.value; tag = c.tag; left = chain_link cs; right = absent nil }

  unfoldable pub chain : List (Cell T) → List (Node T)
  chain [] = []
  chain (c ∷ cs) = chain_node c cs ∷ chain cs

  -- The stack's invariant: the memory holds a chain whose values are the plain stack.
  pub record HoldsStack (limit : ℕ) (vs : List ℕ) (m : Memory T) : Type 0 where
    pub cells : List (Cell T)
    pub values : map (λ (c : Cell T). c.value) cells ≡ vs
    pub counted : m.entries ≡ length vs
    pub rooted : m.root ≡ chain_link cells
    pub there : Perm m.nodes (chain cells)
    pub fits : length vs ≤ limit

  -- ---- keys

  pub chain-countdown : (cs : List (Cell T)) → keys (chain cs) ≡ countdown (length cs)
  unfolding chain countdown
  chain-countdown [] = refl
  chain-countdown (c ∷ cs) = ap (λ (ks : List ℕ). suc (length cs) ∷ ks) (chain-countdown cs)

  chain-keys : (cs : List (Cell T)) → All (λ k. k ≤ length cs) (keys (chain cs))
  unfolding chain
  chain-keys [] = all_nil (λ k. k ≤ 0)
  chain-keys (c ∷ cs) =
      all_cons {P = λ k. k ≤ suc (length cs)} (le_refl (suc (length cs)))
      (λ k m. let h = chain-keys cs k m in omega arith)

  chain-distinct : (cs : List (Cell T)) → Distinct (keys (chain cs))
  unfolding chain
  chain-distinct [] = tt
  chain-distinct (c ∷ cs) =
      (λ m. let h = chain-keys cs (suc (length cs)) m in omega arith, chain-distinct cs)

  -- ---- the fetch test

  chain-passes : (w : Want T) (c : Cell T) (cs : List (Cell T)) → stack_test w (chain_node c cs) ≡ true
  unfolding stack_test chain_link
  chain-passes w c [] = refl
  chain-passes w c (b ∷ cs) =
      rw (ne_eqb (suc (suc (length cs))) 1 (λ (e : suc (suc (length cs)) ≡ 1). omega arith))
      (eq-eqb (suc (suc (length cs))) (suc (suc (length cs))) refl)

  -- ---- push

  abbrev push_outcome : Memory T → ℕ → T → Outcome T
  push_outcome m value tag =
      record {
        nodes = record { key = suc m.entries; value = value; tag = tag; left = m.root; right = absent nil } ∷ [];
        root = record { height = 1; key = suc m.entries; tag = tag };
        entries = suc m.entries;
        answer = pushed;
      }

  abbrev full_outcome : Memory T → Outcome T
  full_outcome m = record { nodes = []; root = m.root; entries = m.entries; answer = full }

  module _ (limit : ℕ) (vs : List ℕ) (m : Memory T) (h : HoldsStack limit vs m) where
    pub cells-counted : m.entries ≡ length h.cells
    cells-counted = h.counted ∙ sym (ap length h.values) ∙ length-map h.cells (λ (c : Cell T). c.value)

    -- The memory with one cell more.
    one_more : (value : ℕ) (tag : T) → length vs < limit
        → HoldsStack limit (value ∷ vs) (memory_of m.ahead (push_outcome m value tag) m.nodes)
    unfolding chain chain_link
    one_more value tag room =
        let cell : Cell T = record { value = value; tag = tag } in
        record {
          cells = cell ∷ h.cells;
          values = ap (λ (l : List ℕ). value ∷ l) h.values;
          counted = ap suc h.counted;
          rooted = rw cells-counted;
          there = rw (cells-counted, h.rooted) (cons (chain_node cell h.cells) h.there);
          fits = room;
        }

    -- A push onto a stack with room, and onto a full one.
    push-room : (value : ℕ) (tag : T) → ltb (length vs) limit ≡ true
        → StepsTo (HoldsStack limit) (plain limit (push value) vs) (tag ∷ []) m.ahead (push_outcome m value tag) [] m.nodes
    unfolding plain
    push-room value tag room =
        record {
          contents = rw room (one_more value tag (ltb-true (length vs) limit room));
          answers = rw room;
          retagged = record { dropped = []; among = perm-refl (tag ∷ []) };
        }

    push-full : (value : ℕ) (tag : T) → ltb (length vs) limit ≡ false
        → StepsTo (HoldsStack limit) (plain limit (push value) vs) (tag ∷ []) m.ahead (full_outcome m) [] m.nodes
    unfolding plain
    push-full value tag room =
        record {
          contents = rw room h;
          answers = rw room;
          retagged = record { dropped = tag ∷ []; among = perm-refl (tag ∷ []) };
        }

    push-safe : (value : ℕ) (tag : T)
        → Safe stack_test (StepsTo (HoldsStack limit) (plain limit (push value) vs) (tag ∷ []) m.ahead) (push_prog nil value tag m.entries limit m.root) [] m.nodes
    unfolding push_prog
    push-safe value tag =
        let counted = ap (λ (n : ℕ). ltb n limit) (sym h.counted) in
        safe-pick (ltb m.entries limit)
        (λ room. ends (push-room value tag (counted ∙ room)))
        (λ room. ends (push-full value tag (counted ∙ room)))

  -- ---- pop

  module _ (limit : ℕ) where
    pop-empty : (tag : T) (m : Memory T) → m.entries ≡ 0 → Perm m.nodes []
        → StepsTo (HoldsStack limit) (plain limit pop []) (tag ∷ []) m.ahead
        (record { nodes = []; root = absent nil; entries = m.entries; answer = empty }) [] m.nodes
    unfolding plain popped_from chain chain_link
    pop-empty tag m counted there =
        record {
          contents =
              record { cells = []; values = refl; counted = counted; rooted = refl; there = there; fits = omega arith };
          answers = refl;
          retagged = record { dropped = tag ∷ []; among = perm-refl (tag ∷ []) };
        }

    pop-top : (tag d : T) (a : Ahead T) (c : Cell T) (cells : List (Cell T)) (entries : ℕ) → entries ≡ suc (length cells)
        → suc (length cells) ≤ limit
        → StepsTo (HoldsStack limit) (plain limit pop (c.value ∷ map (λ (b : Cell T). b.value) cells)) (tag ∷ []) a
        (record { nodes = []; root = chain_link cells; entries = pred entries; answer = popped c.value })
        (retag d (chain_node c cells) ∷ []) (chain cells)
    unfolding plain popped_from
    pop-top tag d a c cells entries counted fits =
        let values = map (λ (b : Cell T). b.value) cells in
        let same = length-map cells (λ (b : Cell T). b.value) in
        let fewer : pred entries ≡ length values = omega arith in
        let few : length values ≤ limit = omega arith in
        record {
          contents =
              record {
                cells = cells;
                values = refl;
                counted = fewer;
                rooted = refl;
                there = perm-refl (chain cells);
                fits = few;
              };
          answers = refl;
          retagged = record { dropped = tag ∷ d ∷ []; among = perm-refl (tag ∷ d ∷ []) };
        }

    pop-safe : (tag : T) (cells : List (Cell T)) (m : Memory T)
        → m.entries ≡ length cells → m.root ≡ chain_link cells → Perm m.nodes (chain cells) → length cells ≤ limit
        → Safe stack_test (StepsTo (HoldsStack limit) (plain limit pop (map (λ (c : Cell T). c.value) cells)) (tag ∷ []) m.ahead) (pop_prog m.entries m.root) [] m.nodes
    unfolding pop_prog chain chain_link
    pop-safe tag [] m counted rooted there fits = rw rooted (ends (pop-empty tag m counted there))
    pop-safe tag (c ∷ cells) m counted rooted there fits =
        rw rooted
        (meets (chain_node c cells) (chain cells) there refl refl (chain-passes (start (chain_link (c ∷ cells))) c cells)
        (λ d. ends (pop-top tag d m.ahead c cells m.entries counted fits)))

  -- ---- what the stack supplies

  pub stack-represents : (rounds limit : ℕ) → 1 ≤ rounds → Represents stack nil rounds limit (HoldsStack limit)
  unfolding program ahead_after test spare draws_from
  stack-represents rounds limit enough =
      record {
        unordered = λ vs entries root a xs ys p h. record {
          cells = h.cells;
          values = h.values;
          counted = h.counted;
          rooted = h.rooted;
          there = trans (perm-sym p) h.there;
          fits = h.fits;
        };
        distinct-keys = λ vs m h. distinct-perm (perm-map (λ (n : Node T). n.key) (perm-sym h.there)) (chain-distinct h.cells);
        within = λ vs m h op spares. within_more enough (program-within nil op spares limit m.entries m.ahead m.root);
        safe = λ vs m h. safe-step vs m h;
      }
    where
      safe-step : (vs : List ℕ) (m : Memory T) → HoldsStack limit vs m → (op : Op stack) (spares : ℕ → T)
          → Safe (test stack m.entries) (StepsTo (HoldsStack limit) (plain limit op vs) (given_tags stack m spares) (ahead_after nil op spares limit m.entries m.ahead))
          (program nil op spares limit m.entries m.ahead m.root) [] m.nodes
      safe-step vs m h (push value) spares = push-safe limit vs m h value (spares 0)
      safe-step vs m h pop spares =
          let counted = cells-counted limit vs m h in
          let total = h.counted in
          let fits = h.fits in
          rw (← h.values) (pop-safe limit (spares 0) h.cells m counted h.rooted h.there (omega arith))

  pub empty-stack : (limit : ℕ) → HoldsStack limit [] (empty_memory nil)
  unfolding empty_memory chain chain_link
  empty-stack limit =
      record { cells = []; values = refl; counted = refl; rooted = refl; there = perm-refl []; fits = omega arith }
