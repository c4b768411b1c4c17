-- The fetch rounds that want a node and those that are left, together.
use Rattle.std.specs.Prelude.{◌≡◌, refl, List, [], ◌++◌, ℕ, max, ◌+◌, ◌-◌, ◌^◌, ◌≤◌, ◌<◌, length, take, drop, None}
use Rattle.std.proofs.Common.{sym, ◌∙◌, ap, subst, arith, length-take, length-append, drop-drop}
use Rattle.std.proofs.Math.Option.{none}
use Rattle.std.proofs.lemmas.List.Edits.{sets, sets-eq}
use Rattle.std.proofs.Math.Seq.{length-sets, take-append_seam, drop-append_seam}
use Rattle.method_spec.specs.Prog.{Prog, done, want, after}
use Rattle.method_spec.specs.Outcome.{Outcome}
use Rattle.method_spec.specs.Call.{draws_from}
use Rattle.run_laws.specs.Calls.{draws-length}
use Rattle.bucket_call_spec.specs.Fetch as fetch
use Rattle.bucket_call_spec.specs.Fetch.{Going}
use Rattle.operation_spec.specs.Method.{wanted_in}
use Rattle.node_rows.specs.Held.{Held}
use Rattle.one_round.specs.OneRound.{going}
use Rattle.idle_rounds.specs.declared.idle.Idle.{Idle}
use Rattle.round_close.specs.Fault.{mark_of}
use Rattle.want_rounds.specs.declared.Job.{Job}
use Rattle.idle_rounds.specs.Idle.{Between, keys_held, IdledAll}
use Rattle.bucket_call_spec.specs.Peak.{peak_of}
use Rattle.peak_laws.specs.PeakLaws.{peak-none, rounds-none}
use Rattle.want_rounds.specs.Wanting.{held_by, nodes_held, structure_in, program_of, listed_from, Begins, Walked, FetchedAs, InRows, Fetches}
use Rattle.want_rounds.specs.WantingLaws.{rounds-left, done-rounds, walked-between, walked_all}

-- A program that wants none is done.
pub record Done (q : Prog ℕ (Outcome ℕ)) : Type 0 where
  pub outcome : Outcome ℕ
  pub is : q ≡ done outcome

pub is-done : (q : Prog ℕ (Outcome ℕ)) → wanted_in q ≡ none → Done q
is-done (done o) e = record { outcome = o; is = refl }
is-done (want w c) e = let z : ◌≡◌ {A = ℕ} 0 1 = cc in absurd (omega arith)

-- ---- numbers stored in a row from a place on
module _ (l vs : List ℕ) (i : ℕ) (room : i + length vs ≤ length l) where
  first_part : length (take i l ++ vs) ≡ i + length vs
  first_part = length-append (take i l) vs ∙ rw (length-take i l) (omega arith)

  split : sets l i vs ≡ (take i l ++ vs) ++ drop (i + length vs) l
  split = sets-eq vs l i room

  pub stored-first : take (i + length vs) (sets l i vs) ≡ take i l ++ vs
  stored-first =
      rw split
      (ap (λ (n : ℕ). take n ((take i l ++ vs) ++ drop (i + length vs) l)) (sym first_part) ∙ take-append_seam (take i l ++ vs) (drop (i + length vs) l))

  pub stored-rest : drop (i + length vs) (sets l i vs) ≡ drop (i + length vs) l
  stored-rest = rw split (ap (λ (n : ℕ). drop n ((take i l ++ vs) ++ drop (i + length vs) l)) (sym first_part) ∙ drop-append_seam (take i l ++ vs) (drop (i + length vs) l))

pub drop-on : (i n : ℕ) (xs ys : List ℕ) → drop i xs ≡ drop i ys → drop (i + n) xs ≡ drop (i + n) ys
drop-on i n xs ys e = sym (drop-drop n i xs) ∙ ap (drop n) e ∙ drop-drop n i ys

module _ (j : Job) (draw : ℕ → ℕ) (is_IsLeaf : (d : ℕ) → draw d < 2 ^ j.size) {n : ℕ} {row₀ tree₀ : List ℕ} (b : Begins j draw n row₀ tree₀)
    (trace₀ : List ℕ) {hs : List fetch.Held} {m peak : ℕ} {row tree trace : List ℕ} (inv : Walked j draw n row₀ tree₀ trace₀ hs m peak row tree trace)
    {count : ℕ} (counted : count ≡ length hs) where
  abbrev i : ℕ
  i = length hs

  abbrev here : Going
  here = going m row tree hs (take i trace)

  abbrev q : Prog ℕ (Outcome ℕ)
  q = after (program_of j) (nodes_held hs)

  -- None is wanted any more: the rounds that are left.
  pub rest-fetched : wanted_in (after (program_of j) (nodes_held hs)) ≡ none → j.rounds ≤ length trace₀ → {row' tree' trace' : List ℕ} {r : Idle} {peak' : ℕ} → peak' ≡ max peak r.peak
      → IdledAll j.size m draw (j.rounds - length hs) (length hs) (length hs) row tree trace (keys_held hs) row' tree' trace' r
      → FetchedAs j draw n row₀ tree₀ trace₀ hs row' tree' trace'
      (record { count = count; waiting = r.waiting; fault = r.fault; leaves = length hs + r.shown; peak = peak' })
  rest-fetched finished room {row'} {tree'} {trace'} {r} raised idled =
      let draws = draws_from draw r.shown i in
      let d = is-done q finished in
      let many : length draws ≡ r.shown = draws-length draw r.shown i in
      let fits : i + length draws ≤ length trace = omega (arith, many, idled.no_more, inv.upto, inv.trace-sized) in
      let first : take (i + r.shown) trace' ≡ take i trace ++ draws = rw idled.revealed (subst (λ (x : ℕ). take (i + x) (sets trace i draws) ≡ take i trace ++ draws) many (stored-first trace draws i fits)) in
      let later : drop (i + r.shown) trace' ≡ drop (i + r.shown) trace = rw idled.revealed (subst (λ (x : ℕ). drop (i + x) (sets trace i draws) ≡ drop (i + x) trace) many (stored-rest trace draws i fits)) in
      record {
        outcome =
            rounds-left (structure_in j) j.entries j.size draw (program_of j) (going n row₀ tree₀ [] []) i j.rounds here q inv.upto inv.so_far
            ∙ rw (d.is, first) (done-rounds (structure_in j) j.entries j.size draw (j.rounds - i) i d.outcome here ∙ idled.rounds hs (take i trace) d.outcome refl);
        peaked =
            inv.peaks
            ∙ ap (max peak)
            (ap (λ (p : Prog ℕ (Outcome ℕ)). peak_of (listed_from j draw i p here)) d.is
            ∙ idled.peaked (structure_in j) j.entries hs (take i trace) d.outcome refl)
            ∙ sym raised;
        finished = λ e. finished;
        counted = counted;
        upto = inv.upto;
        rests = idled.rests;
        low = inv.low;
        no_more = omega (arith, idled.no_more, inv.upto);
        all_shown = λ e. omega (arith, idled.all_shown e, inv.upto);
        trace-sized = ap length idled.revealed ∙ length-sets trace i draws ∙ inv.trace-sized;
        untouched = later ∙ drop-on i r.shown trace trace₀ inv.untouched;
      }

  -- All of them wanted a node.
  pub all-walked : length hs ≡ j.rounds → {leaves : ℕ} → leaves ≡ j.rounds
      → FetchedAs j draw n row₀ tree₀ trace₀ hs row tree trace (record { count = count; waiting = m; fault = None; leaves = leaves; peak = peak })
  all-walked all e =
      let none_left : j.rounds - length hs ≡ 0 = omega arith in
      let no-peak : peak_of (listed_from j draw i q here) ≡ 0 =
      rw none_left (ap peak_of (rounds-none (structure_in j) j.entries j.size draw i q here) ∙ peak-none (Outcome ℕ)) in
      rw e
      (record {
        outcome = rw (← all) inv.so_far;
        peaked = omega (arith, inv.peaks, no-peak);
        finished = λ z. walked_all j draw is_IsLeaf b trace₀ inv (omega arith);
        counted = counted;
        upto = inv.upto;
        rests = inv.rests;
        low = inv.low;
        no_more = omega arith;
        all_shown = λ z. refl;
        trace-sized = inv.trace-sized;
        untouched = rw (← all) inv.untouched;
      })

-- The rounds that are left, with the held nodes in rows.
module _ (j : Job) (draw : ℕ → ℕ) (is_IsLeaf : (d : ℕ) → draw d < 2 ^ j.size) {n : ℕ} {row₀ tree₀ : List ℕ} (b : Begins j draw n row₀ tree₀)
    (trace₀ : List ℕ) {h : Held} {froms : List ℕ} {m peak : ℕ} {row tree keys trace : List ℕ}
    (inv : Walked j draw n row₀ tree₀ trace₀ (held_by h froms) m peak row tree trace) (rows : InRows h froms keys) where
  pub rows-between : Between j.size m row tree (take h.count keys)
  rows-between = rw (← rows.keys-are) (walked-between j draw is_IsLeaf b trace₀ inv)

  pub rows-rest : wanted_in (after (program_of j) (nodes_held (held_by h froms))) ≡ none → j.rounds ≤ length trace₀ → {row' tree' trace' : List ℕ} {r : Idle} {peak' : ℕ} → peak' ≡ max peak r.peak
      → IdledAll j.size m draw (j.rounds - h.count) h.count h.count row tree trace (take h.count keys) row' tree' trace' r
      → Fetches j draw n row₀ tree₀ trace₀ h froms row' tree' trace'
      (record { count = h.count; waiting = r.waiting; fault = r.fault; leaves = h.count + r.shown; peak = peak' })
  rows-rest finished room {row'} {tree'} {trace'} {r} raised idled =
      let i = length (held_by h froms) in
      let rest : IdledAll j.size m draw (j.rounds - i) i i row tree trace (keys_held (held_by h froms)) row' tree' trace' r = rw (rows.keys-are, rows.counted) idled in
      record {
        came = rw rows.counted at (rest-fetched j draw is_IsLeaf b trace₀ inv (sym rows.counted) finished room raised rest);
        nodes-are = rows.nodes-are;
      }
