-- The put rounds: all of them, or the damage that the first finds.
use Rattle.std.specs.Prelude.{◌≡◌, refl, true, false, List, [], ◌∷◌, ◌++◌, ℕ, suc, ◌-◌, ◌≤◌, set, Some}
use Rattle.std.proofs.Common.{sym, ◌∙◌, ap, append-nil, arith}
use Rattle.method_spec.specs.Prog.{done}
use Rattle.method_spec.specs.Outcome.{Outcome}
use Rattle.method_spec.specs.Call.{draws_from}
use Rattle.round_laws.specs.ReadHalf.{distinct-none-twice}
use Rattle.list_spec.specs.Ascending.{ascending}
use Rattle.round_laws.specs.Sorted.{ascending-distinct}
use Rattle.leaf_spec.specs.Leaf.{leaf_format}
use Rattle.bucket_call_spec.specs.Fetch.{Going, shut, idle_round, fetch_round}
use Rattle.bucket_call_spec.specs.Call.{put_rounds}
use Rattle.bucket_call_spec.specs.Peak.{rounds_from, peak_of, peak_at}
use Rattle.peak_laws.specs.PeakLaws.{peak-damage, done-round, rounds-shuts}
use Rattle.one_round.specs.OneRound.{going, keys_waiting}
use Rattle.one_round.specs.TwiceLaws.{twice-shuts}
use Rattle.stash_laws.specs.Waiting.{waiting_in}
use Rattle.idle_rounds.specs.declared.idle.Idle.{Idle}
use Rattle.idle_rounds.specs.Idle.{Between, IdledAll}
use Rattle.idle_rounds.specs.IdleLaws.{put-shuts, draws-one}
use Rattle.round_close.specs.declared.Fault.TheVariants.{Damage}
use Rattle.put_rounds.specs.Put.{Stepped, Puts}

module _ {k n : ℕ} {row tree : List ℕ} (b : Stepped k n row tree) where
  -- Where the keys ascend the rounds can begin.
  pub stepped-between : ascending (keys_waiting n row) ≡ true → Between k n row tree []
  stepped-between e =
      record {
        small = b.small;
        is-tree = b.is-tree;
        rests =
            record {
              holds = b.holds;
              order = e;
              apart = rw (append-nil (keys_waiting n row)) (distinct-none-twice (keys_waiting n row) (ascending-distinct leaf_format (waiting_in n row) e));
            };
        proper = b.proper;
        few = omega (arith, b.few);
      }

module _ (k n : ℕ) (draw : ℕ → ℕ) (F first : ℕ) (row tree trace : List ℕ) where
  pub puts-idled : {row' tree' trace' : List ℕ} {r : Idle} → IdledAll k n draw F first F row tree trace [] row' tree' trace' r
      → Puts k n draw F first row tree trace row' tree' trace' r
  puts-idled i =
      record {
        rounds = λ ls o. i.rounds [] ls o refl;
        peaked = λ s e ls o. i.peaked s e [] ls o refl;
        revealed = i.revealed;
        holds = i.rests.holds;
        no_more = i.no_more;
        all_shown = i.all_shown;
      }

  -- A key that stands twice is damage to the first round.
  pub puts-twice : Stepped k n row tree → ascending (keys_waiting n row) ≡ false → 1 ≤ F → (leaf : ℕ) → leaf ≡ draw first
      → Puts k n draw F first row tree trace row tree (set trace F leaf) (record { fault = Some Damage; waiting = n; shown = 1; peak = 0 })
  puts-twice b e some leaf drawn =
      let one : draws_from draw 1 first ≡ leaf ∷ [] = draws-one draw first ∙ ap (λ (d : ℕ). d ∷ []) (sym drawn) in
      let more : F ≡ suc (F - 1) = omega arith in
      let here : List ℕ → Going = going n row tree [] in
      let shuts : (ls : List ℕ) (o : Outcome ℕ) → idle_round k (draw first) (done o) (here ls) ≡ shut 8 (here (ls ++ (draw first ∷ []))) =
      λ ls o. twice-shuts k (draw first) (done o) (here ls) refl (b.twice e) in
      record {
        rounds = λ ls o.
            ap (λ (m : ℕ). put_rounds k draw m first o (here ls)) more
            ∙ put-shuts k draw (F - 1) first o (here ls) (here (ls ++ (draw first ∷ []))) 8 (shuts ls o)
            ∙ rw (one, drawn);
        peaked = λ s x ls o.
            let first-shuts : fetch_round s x k (draw first) (done o) (here ls) ≡ shut 8 (here (ls ++ (draw first ∷ []))) =
            done-round s x k (draw first) o (here ls) ∙ shuts ls o in
            ap (λ (m : ℕ). peak_of (rounds_from s x k draw m first (done o) (here ls))) more
            ∙ ap peak_of (rounds-shuts s x k draw (F - 1) first (done o) (here ls) (here (ls ++ (draw first ∷ []))) 8 first-shuts)
            ∙ ap peak_at first-shuts
            ∙ peak-damage (Outcome ℕ) (here (ls ++ (draw first ∷ [])));
        revealed = rw one;
        holds = b.holds;
        no_more = some;
        all_shown = λ z. let y : ⊥ = omega arith in absurd y;
      }
