-- The checks of a call, one by one.
use Rattle.std.specs.Prelude.{◌≡◌, refl, true, false, Ok, Err, Some, None, List, [], ◌∷◌, map, ℕ, suc, ◌+◌, ◌*◌, ◌^◌, ◌≤◌, ◌<◌, length, drop, get_or}
use Rattle.std.proofs.Common.{sym, ◌∙◌, subst, append-nil, add-zero, arith, pow_mono}
use Rattle.std.proofs.Math.Path.{ap}
use mathlib.Core.List.Memᴰ
use Rattle.std.proofs.Math.Option.{Option, none, some}
use borrow.Author.Tests.{eq-eqb, ne_eqb, lt-ltb, le-ltb}
use Rattle.list_spec.specs.Ascending.{ascending}
use Rattle.list_spec.specs.Distinct.{All}
use Rattle.slot_spec.specs.LittleEndian.{Bytes}
use Rattle.slot_spec.specs.Tree.{tree_length}
use Rattle.slot_spec.specs.declared.Ahead.{Ahead}
use Rattle.method_spec.specs.Node.{Node}
use Rattle.method_spec.specs.Answer as method
use Rattle.method_spec.specs.Answer.{Structure, get, put, remove, push, pop, add, take as take-smallest, enqueue, dequeue}
use Rattle.method_spec.specs.Rounds.{rounds, spare}
use Rattle.run_laws.specs.RoundsLaws.{some-rounds}
use Rattle.state_laws.specs.FetchingLaws.{rounds-most}
use Rattle.round_laws.specs.Sorted.{ascending-distinct}
use Rattle.round_laws.specs.ReadHalf.{distinct-none-twice}
use Rattle.leaf_spec.specs.Leaf.{leaf_format}
use Rattle.stash_laws.specs.Waiting.{InWidths, waiting_in}
use Rattle.bucket_call_spec.specs.Call.{Store, draw_of}
use Rattle.leaf_spec.specs.Entries.{OpFits}
use Rattle.state_spec.specs.declared.Place.{Place}
use Rattle.state_spec.specs.declared.State.{State}
use Rattle.state_spec.specs.Fit.{fits, used, keys_in}
use Rattle.state_spec.specs.Ticket.{ticket_length, op_in, structure_of as numbered, out_of_keys, stray_fields}
use Rattle.state_spec.specs.Fetching.{rounds_of, spare_of}
use Rattle.leaf_spec.specs.Convert.{to_link, to_ahead, to_node}
use Rattle.operation_spec.specs.declared.Op.{Op}
use Rattle.operation_spec.specs.Method.{to_op, structure_asked}
use Rattle.tickets.specs.Asked.{from_op, from_asked, asked}
use Rattle.call_spec.specs.Store.{refusing, store_of, by_rounds, checks, first_met, decided, called}
use Rattle.fitness_laws.specs.FitState.{FitState, fit-state}
use Rattle.fitness_laws.specs.FitStores.{fit-store}
use Rattle.state_spec.specs.Widths.{LinkWidths, Widths}
use Rattle.fitness_laws.specs.Tickets.{op_fits, key_left}
use Rattle.stash.specs.Stash.{Loaded}
use Rattle.want_rounds.specs.declared.Job.{Job}
use Rattle.want_rounds.specs.Wanting.{store_at}
use Rattle.call_spec.specs.declared.Refusal.{Refusal}
use Rattle.call_spec.specs.Reply.{number_of}
use Rattle.fitness.specs.declared.Head.{Head}
use Rattle.call_ending.specs.declared.Ran.{Ran}
use Rattle.call_ending.specs.Ending.{left_by, ending_call}
use Rattle.short_outcomes.specs.OneFetch.{one_fetch}
use Rattle.short_outcomes.specs.OneFetchLaws.{round-one, more-rounds}
use Rattle.call_core.specs.Run.{StandsFor, Stands, CallsAs, job_for, Runs, RanAs}

-- Numbers each of which is below 256 are bytes.
pub bytes_of : (l : List ℕ) → ((i : ℕ) → get_or l i 0 < 256) → Bytes l
unfolding Bytes
bytes_of [] h = tt
bytes_of (b ∷ bs) h = (h 0, bytes_of bs (λ i. h (suc i)))

-- ---- what a ticket asks
pub unknown-none : {s : Structure} (o : Option (method.Op s)) → from_asked o ≡ None → o ≡ none
unfolding from_asked
unknown-none none e = refl
unknown-none (some op) e = let z : ◌≡◌ {A = ℕ} 0 1 = cc in absurd (omega arith)

pub record AsksFor (s : Structure) (o : Option (method.Op s)) (op : Op) : Type 0 where
  pub asks : method.Op s
  pub is : o ≡ some asks
  pub same : from_op asks ≡ op

pub asks-for : {s : Structure} (o : Option (method.Op s)) (op : Op) → from_asked o ≡ Some op → AsksFor s o op
unfolding from_asked
asks-for none op e = let z : ◌≡◌ {A = ℕ} 0 1 = cc in absurd (omega arith)
asks-for (some a) op e = let d : from_op a ≡ op = cc in record { asks = a; is = refl; same = d }

-- The operation there and back.
structure-back : {s : Structure} (a : method.Op s) → s ≡ structure_asked (from_op a)
unfolding from_op
structure-back (get k) = refl
structure-back (put k v) = refl
structure-back (remove k) = refl
structure-back (push v) = refl
structure-back pop = refl
structure-back (add v) = refl
structure-back take-smallest = refl
structure-back (enqueue v) = refl
structure-back dequeue = refl

fits-back : {s : Structure} (a : method.Op s) → OpFits a → OpFits (to_op (from_op a))
unfolding from_op
fits-back (get k) h = h
fits-back (put k v) h = h
fits-back (remove k) h = h
fits-back (push v) h = h
fits-back pop h = h
fits-back (add v) h = h
fits-back take-smallest h = h
fits-back (enqueue v) h = h
fits-back dequeue h = h

keys-back : {s : Structure} (a : method.Op s) (next : ℕ) → out_of_keys (to_op (from_op a)) next ≡ out_of_keys a next
unfolding from_op
keys-back (get k) next = refl
keys-back (put k v) next = refl
keys-back (remove k) next = refl
keys-back (push v) next = refl
keys-back pop next = refl
keys-back (add v) next = refl
keys-back take-smallest next = refl
keys-back (enqueue v) next = refl
keys-back dequeue next = refl

call_back : {s : Structure} (a : method.Op s) (structure k : ℕ) (trace : List ℕ) (F : ℕ) (draw : ℕ → ℕ) (st : Store)
    → ending_call structure k trace F (to_op (from_op a)) draw st ≡ ending_call structure k trace F a draw st
unfolding from_op
call_back (get k) structure n trace F draw st = refl
call_back (put k v) structure n trace F draw st = refl
call_back (remove k) structure n trace F draw st = refl
call_back (push v) structure n trace F draw st = refl
call_back pop structure n trace F draw st = refl
call_back (add v) structure n trace F draw st = refl
call_back take-smallest structure n trace F draw st = refl
call_back (enqueue v) structure n trace F draw st = refl
call_back dequeue structure n trace F draw st = refl

-- What is known ahead, within the widths of its types.
abbrev pub AheadWidths : Ahead → Type 0
AheadWidths a = (a.key < 2 ^ 32) × (a.tag < 2 ^ 16)

-- What the checks of a call make sure of, with the ranges that the types give.
pub record Checked (s : State) (op : Op) (F : ℕ) (tree ticket tape trace : List ℕ) : Type 0 where
  pub not-closed : s.mark ≡ 0
  pub fit : fits s ≡ true
  pub tree-sized : length tree ≡ tree_length s.size
  pub ticket-sized : length ticket ≡ ticket_length
  pub asks : asked s.structure ticket ≡ Some op
  pub clean : stray_fields ticket ≡ false
  pub keys : out_of_keys (to_op op) s.ahead.key ≡ false
  pub rounds-are : F ≡ rounds (numbered s.structure) s.size
  pub tape-long : 2 * F + spare_of s.structure ≤ length tape
  pub trace-long : 2 * F ≤ length trace
  pub tree-bytes : Bytes tree
  pub ticket-bytes : Bytes ticket
  pub root-widths : LinkWidths s.root
  pub ahead-widths : AheadWidths s.ahead

module _ (s : State) (tree ticket tape trace : List ℕ) where
  -- ---- the refusals, in document 01's order
  pub refused-1 : (s.mark ≡ 0 → ⊥) → called s tree ticket tape trace ≡ refusing 1 s tree trace
  unfolding called checks first_met decided
  refused-1 h = rw (ne_eqb s.mark 0 h)

  module _ (not-closed : s.mark ≡ 0) where
    pub refused-2 : fits s ≡ false → called s tree ticket tape trace ≡ refusing 2 s tree trace
    unfolding called checks first_met decided
    refused-2 h = rw (eq-eqb s.mark 0 not-closed, h)

    module _ (fit : fits s ≡ true) where
      pub refused-3 : (length tree ≡ tree_length s.size → ⊥) → called s tree ticket tape trace ≡ refusing 3 s tree trace
      unfolding called checks first_met decided
      refused-3 h = rw (eq-eqb s.mark 0 not-closed, fit, ne_eqb (length tree) (tree_length s.size) h)

      module _ (sized : length tree ≡ tree_length s.size) where
        pub refused-4 : (length ticket ≡ ticket_length → ⊥) → called s tree ticket tape trace ≡ refusing 4 s tree trace
        unfolding called checks first_met decided
        refused-4 h = rw (eq-eqb s.mark 0 not-closed, fit, eq-eqb (length tree) (tree_length s.size) sized, ne_eqb (length ticket) ticket_length h)

        module _ (whole : length ticket ≡ ticket_length) where
          abbrev st : Structure
          st = numbered s.structure

          -- The first four causes are not met.
          past : called s tree ticket tape trace ≡ decided (λ n. refusing n s tree trace) (λ op. by_rounds st op s tree tape trace) (first_met (drop 4 (checks st s tree ticket tape trace (op_in st ticket)))) (op_in st ticket)
          unfolding called checks first_met
          past = rw (eq-eqb s.mark 0 not-closed, fit, eq-eqb (length tree) (tree_length s.size) sized, eq-eqb (length ticket) ticket_length whole)

          pub refused-5 : asked s.structure ticket ≡ None → called s tree ticket tape trace ≡ refusing 5 s tree trace
          unfolding checks first_met decided
          refused-5 h = past ∙ rw (unknown-none (op_in st ticket) h)

          module _ (op : Op) (asks : asked s.structure ticket ≡ Some op) where
            a : AsksFor st (op_in st ticket) op
            a = asks-for (op_in st ticket) op asks

            same_keys : out_of_keys a.asks s.ahead.key ≡ out_of_keys (to_op op) s.ahead.key
            same_keys = sym (keys-back a.asks s.ahead.key) ∙ ap (λ (x : Op). out_of_keys (to_op x) s.ahead.key) a.same

            pub refused-19 : stray_fields ticket ≡ true → called s tree ticket tape trace ≡ refusing 19 s tree trace
            unfolding checks first_met decided
            refused-19 h = past ∙ rw (a.is, h)

            module _ (clean : stray_fields ticket ≡ false) where
              pub refused-17 : out_of_keys (to_op op) s.ahead.key ≡ true → called s tree ticket tape trace ≡ refusing 17 s tree trace
              unfolding checks first_met decided
              refused-17 h = past ∙ rw (a.is, clean, same_keys ∙ h)

              module _ (keys : out_of_keys (to_op op) s.ahead.key ≡ false) (F : ℕ) (rounds-are : F ≡ rounds st s.size) where
                has_key : out_of_keys a.asks s.ahead.key ≡ false
                has_key = same_keys ∙ keys

                pub refused-6 : length tape < 2 * F + spare_of s.structure → called s tree ticket tape trace ≡ refusing 6 s tree trace
                unfolding checks first_met decided
                refused-6 h = past ∙ rw (a.is, clean, has_key, ← rounds-are, lt-ltb (length tape) (2 * F + spare_of s.structure) h)

                module _ (tape-long : 2 * F + spare_of s.structure ≤ length tape) where
                  pub refused-7 : length trace < 2 * F → called s tree ticket tape trace ≡ refusing 7 s tree trace
                  unfolding checks first_met decided
                  refused-7 h = past ∙ rw (a.is, clean, has_key, ← rounds-are, le-ltb (length tape) (2 * F + spare_of s.structure) tape-long, lt-ltb (length trace) (2 * F) h)

                  pub goes_on : 2 * F ≤ length trace → called s tree ticket tape trace ≡ ending_call s.structure s.size trace F (to_op op) (draw_of s.size tape) (store_of s tree)
                  unfolding checks first_met decided
                  goes_on trace-long =
                      past
                      ∙ rw (a.is, clean, has_key, ← rounds-are, le-ltb (length tape) (2 * F + spare_of s.structure) tape-long, le-ltb (length trace) (2 * F) trace-long)
                      (sym (call_back a.asks s.structure s.size trace F (draw_of s.size tape) (store_of s tree))
                      ∙ ap (λ (x : Op). ending_call s.structure s.size trace F (to_op x) (draw_of s.size tape) (store_of s tree)) a.same)

-- ---- all checks were passed
module _ {s : State} {op : Op} {F : ℕ} {tree ticket tape trace : List ℕ} (ok : Checked s op F tree ticket tape trace) {n : ℕ} {row : List ℕ} (loaded : Loaded s row n) where
  abbrev k : ℕ
  k = s.size

  abbrev job : Job
  job = job_for s.structure k s.entries s.root s.ahead op F tape

  state-fits : FitState s
  state-fits = fit-state s ok.fit

  same_store : store_at job n row tree ≡ store_of s tree
  same_store = ap (λ (ws : List (Node ℕ)). record { entries = s.entries; root = to_link s.root; ahead = to_ahead s.ahead; waiting = ws; tree = tree }) loaded.waiting

  -- The waiting nodes that were loaded are within their widths.
  widths : Widths s
  widths =
      record {
        entries = let most : 2 ^ k ≤ 2 ^ 8 = pow_mono state-fits.size.1 in omega (arith, state-fits.entries);
        root = ok.root-widths;
        ahead = ok.ahead-widths;
        nodes = λ p m. subst (All InWidths) loaded.waiting loaded.holds.ranged (to_node p.node) (Memᴰ.map (λ (q : Place). to_node q.node) m);
      }

  ascends : ascending (map (λ (m : Node ℕ). m.key) (waiting_in n row)) ≡ true
  ascends = rw (loaded.waiting, keys_of (used s)) state-fits.order
    where
      keys_of : (ps : List Place) → map (λ (m : Node ℕ). m.key) (map (λ (p : Place). to_node p.node) ps) ≡ keys_in ps
      keys_of [] = refl
      keys_of (p ∷ ps) = ap (λ (ks : List ℕ). p.node.key ∷ ks) (keys_of ps)

  abbrev here : Structure
  here = numbered s.structure

  ask : AsksFor here (op_in here ticket) op
  ask = asks-for (op_in here ticket) op ok.asks

  structure-is : here ≡ structure_asked op
  structure-is = structure-back ask.asks ∙ ap structure_asked ask.same

  -- The rounds can begin.
  pub can-run : Runs job n row tree tape trace
  can-run =
      record {
        begins =
            record {
              some_size = state-fits.size.0;
              small = state-fits.size.1;
              rounds-are = ok.rounds-are ∙ ap (λ (x : Structure). rounds x k) structure-is;
              structure-is = structure-is;
              limit_is = refl;
              first-is = refl;
              second_is = refl;
              puts-are = ap (λ (x : Structure). F + spare x) structure-is ∙ sym (add-zero (F + spare (structure_asked op)));
              op_fits =
                  subst (λ (x : Op). OpFits (to_op x)) ask.same (fits-back ask.asks (op_fits here ticket ok.ticket-bytes ask.asks ask.is));
              key_left = key_left (to_op op) s.ahead.key ok.ahead-widths.0 ok.keys;
              fit = rw (same_store, ← structure-is) (fit-store s tree ok.fit ok.tree-sized ok.tree-bytes widths);
              rests =
                  record {
                    holds = loaded.holds;
                    order = ascends;
                    apart =
                        rw (append-nil (map (λ (m : Node ℕ). m.key) (waiting_in n row)))
                        (distinct-none-twice (map (λ (m : Node ℕ). m.key) (waiting_in n row)) (ascending-distinct leaf_format (waiting_in n row) ascends));
                  };
            };
        long = (omega (arith, ok.tape-long), ok.trace-long);
      }

  -- What the rounds and the step left.
  pub then-left : (r : Ran) (row' : List ℕ) {tree' trace' : List ℕ}
      → left_by s.structure k r row' tree' trace' ≡ ending_call s.structure k trace F (to_op op) (draw_of k tape) (store_at job n row tree)
      → left_by s.structure k r row' tree' trace' ≡ called s tree ticket tape trace
  then-left r row' q =
      q
      ∙ ap (ending_call s.structure k trace F (to_op op) (draw_of k tape)) same_store
      ∙ sym (goes_on s tree ticket tape trace ok.not-closed ok.fit ok.tree-sized ok.ticket-sized op ok.asks ok.clean ok.keys F ok.rounds-are ok.tape-long ok.trace-long)

-- ---- by the head that the core is given
some-spare : (x : Structure) → 1 ≤ spare x
unfolding spare
some-spare method.map = omega arith
some-spare method.stack = omega arith
some-spare method.heap = omega arith
some-spare method.queue = omega arith

module _ {s : State} {h : Head} {row : List ℕ} (st : StandsFor s h row) where
  pub head-sizes : (1 ≤ h.size) × (h.size ≤ 8)
  head-sizes = let q = (fit-state s st.fit).size in rw st.head q

  pub head-rounds : {F : ℕ} → F ≡ rounds_of h.structure h.size → 1 ≤ F
  head-rounds e = rw e (some-rounds (numbered h.structure) h.size head-sizes.0)

  pub head_few : {F : ℕ} → F ≡ rounds_of h.structure h.size → F ≤ 33
  head_few e = rw e (rounds-most (numbered h.structure) h.size head-sizes.1)

  pub head-spare : 1 ≤ spare_of h.structure
  head-spare = some-spare (numbered h.structure)

  module _ (tree ticket tape trace : List ℕ) where
    abbrev Gives : ℕ → Type 0
    Gives n = called s tree ticket tape trace ≡ refusing n s tree trace

    pub gives-3 : (length tree ≡ tree_length h.size → ⊥) → Gives 3
    gives-3 other = refused-3 s tree ticket tape trace st.not-closed st.fit (rw st.head at other)

    module _ (sized : length tree ≡ tree_length h.size) where
      tree_is : length tree ≡ tree_length s.size
      tree_is = rw st.head at sized

      pub gives-4 : (length ticket ≡ ticket_length → ⊥) → Gives 4
      gives-4 = refused-4 s tree ticket tape trace st.not-closed st.fit tree_is

      module _ (whole : length ticket ≡ ticket_length) where
        pub gives-5 : asked h.structure ticket ≡ None → Gives 5
        gives-5 e = refused-5 s tree ticket tape trace st.not-closed st.fit tree_is whole (rw st.head at e)

        module _ (op : Op) (asks : asked h.structure ticket ≡ Some op) where
          asks-is : asked s.structure ticket ≡ Some op
          asks-is = rw st.head at asks

          pub gives-19 : stray_fields ticket ≡ true → Gives 19
          gives-19 = refused-19 s tree ticket tape trace st.not-closed st.fit tree_is whole op asks-is

          module _ (clean : stray_fields ticket ≡ false) where
            pub gives-17 : out_of_keys (to_op op) h.ahead.key ≡ true → Gives 17
            gives-17 e = refused-17 s tree ticket tape trace st.not-closed st.fit tree_is whole op asks-is clean (rw st.head at e)

            module _ (keys : out_of_keys (to_op op) h.ahead.key ≡ false) (F : ℕ) (rounds-are : F ≡ rounds_of h.structure h.size) where
              keys-are : out_of_keys (to_op op) s.ahead.key ≡ false
              keys-are = rw st.head at keys

              rounds-is : F ≡ rounds_of s.structure s.size
              rounds-is = rw st.head at rounds-are

              pub gives-6 : length tape < 2 * F + spare_of h.structure → Gives 6
              gives-6 short = refused-6 s tree ticket tape trace st.not-closed st.fit tree_is whole op asks-is clean keys-are F rounds-is (rw st.head at short)

              module _ (long : 2 * F + spare_of h.structure ≤ length tape) where
                pub gives-7 : length trace < 2 * F → Gives 7
                gives-7 = refused-7 s tree ticket tape trace st.not-closed st.fit tree_is whole op asks-is clean keys-are F rounds-is (rw st.head at long)

                pub all-checked : 2 * F ≤ length trace → Bytes tree → Bytes ticket → LinkWidths h.root → AheadWidths h.ahead → Checked s op F tree ticket tape trace
                all-checked trace-long tree-bytes ticket-bytes root-widths ahead-widths =
                    record {
                      not-closed = st.not-closed;
                      fit = st.fit;
                      tree-sized = tree_is;
                      ticket-sized = whole;
                      asks = asks-is;
                      clean = clean;
                      keys = keys-are;
                      rounds-are = rounds-is;
                      tape-long = rw st.head at long;
                      trace-long = trace-long;
                      tree-bytes = tree-bytes;
                      ticket-bytes = ticket-bytes;
                      root-widths = rw st.head at root-widths;
                      ahead-widths = rw st.head at ahead-widths;
                    }

-- Only a stack and a queue have one fetch round.
module _ {s : State} {h : Head} {row : List ℕ} (st : StandsFor s h row) {op : Op} {F : ℕ} {tree ticket tape trace : List ℕ} (ok : Checked s op F tree ticket tape trace) where
  pub head-short : F ≡ 1 → one_fetch (structure_asked op) ≡ true
  head-short e = rw (← structure-is ok st.loaded) (round-one (numbered s.structure) s.size (sym ok.rounds-are ∙ e))

  pub head-long : (F ≡ 1 → ⊥) → one_fetch (structure_asked op) ≡ false
  head-long d = rw (← structure-is ok st.loaded) (more-rounds (numbered s.structure) s.size (λ e. d (ok.rounds-are ∙ e)))

-- What was run for a head is what is run for the state.
pub head-runs : {s : State} {h : Head} {row : List ℕ} (st : StandsFor s h row) {op : Op} {F : ℕ} {tree ticket tape trace : List ℕ}
    → Checked s op F tree ticket tape trace → Runs (job_for h.structure h.size h.entries h.root h.ahead op F tape) h.waiting row tree tape trace
head-runs st ok = rw st.head (can-run ok st.loaded)

pub head-left : {s : State} {h : Head} {row : List ℕ} (st : StandsFor s h row) {op : Op} {F : ℕ} {tree ticket tape trace : List ℕ}
    → Checked s op F tree ticket tape trace → (r : Ran) (row' : List ℕ) {tree' trace' : List ℕ}
    → RanAs (job_for h.structure h.size h.entries h.root h.ahead op F tape) h.waiting row tree tape trace row' tree' trace' r
    → left_by s.structure s.size r row' tree' trace' ≡ called s tree ticket tape trace
head-left st ok r row' ran = let q = rw st.head at ran in then-left ok st.loaded r row' q.ends

-- ---- what the core returns
module _ {h : Head} {row tree ticket tape trace : List ℕ} (st : Stands h row) where
  -- It refuses.
  pub core-refuses : (n : Refusal) → ((s : State) → StandsFor s h row → called s tree ticket tape trace ≡ refusing (number_of n) s tree trace)
      → CallsAs h row tree ticket tape trace row tree trace (Err n)
  core-refuses n gives = record { calls = λ s x. sym (gives s x); waits = refl }

  -- It ran.
  pub core-ran : {op : Op} {F : ℕ} → ((s : State) → StandsFor s h row → Checked s op F tree ticket tape trace) → (r : Ran) (row' : List ℕ) {tree' trace' : List ℕ}
      → RanAs (job_for h.structure h.size h.entries h.root h.ahead op F tape) h.waiting row tree tape trace row' tree' trace' r
      → CallsAs h row tree ticket tape trace row' tree' trace' (Ok r)
  core-ran ok r row' ran = record { calls = λ s x. head-left x (ok s x) r row' ran; waits = ran.holds }
