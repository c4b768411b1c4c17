-- The leaves revealed are those of the draws that the origin rule names, and the answers are the origin rule's.
use Rattle.std.specs.Prelude.{ℕ, ◌≡◌, List, map, get_or}
use Rattle.std.proofs.Common.{sym, ◌∙◌, ap, mod-eq_of_lt, pow_pos}
use Rattle.std.proofs.Math.ListN.{get_or-map}
use Rattle.method_spec.specs.Answer as answer
use Rattle.method_spec.specs.Answer.{Structure, Op}
use Rattle.method_spec.specs.Call.{capacity, empty_memory, run, Ran}
use Rattle.method_spec.specs.Origin.{Origin, no_draw, drawn, origins, names, leaf_of, leaf_run}
use Rattle.run_laws.specs.Natural.{map_ran, Natural, run-natural}
use Rattle.run_laws.specs.MapNatural.{map-natural}
use Rattle.run_laws.specs.StackNatural.{stack-natural}
use Rattle.run_laws.specs.HeapNatural.{heap-natural}
use Rattle.run_laws.specs.QueueNatural.{queue-natural}

pub natural : {T S : Type 0} (f : T → S) (s : Structure) (nil : T) → Natural f s nil
natural f answer.map nil = map-natural f nil
natural f answer.stack nil = stack-natural f nil
natural f answer.heap nil = heap-natural f nil
natural f answer.queue nil = queue-natural f nil

-- From the empty structure: a run over tags and then the function on them is the run over what the function gives.
pub run-mapped : {T S : Type 0} (f : T → S) (nil : T) {s : Structure} (rounds limit : ℕ) (draw : ℕ → ℕ → T) (ops : List (Op s))
    → run (f nil) rounds limit (λ c d. f (draw c d)) 1 ops (empty_memory (f nil)) ≡ map_ran f (run nil rounds limit draw 1 ops (empty_memory nil))
unfolding empty_memory
run-mapped f nil {s} rounds limit draw ops = run-natural f nil (natural f s nil) rounds limit draw 1 ops (empty_memory nil)

-- Where there is no draw the leaf is 0.
no-leaf : (size : ℕ) (tapes : List (List ℕ)) → leaf_of size tapes no_draw ≡ 0
unfolding leaf_of
no-leaf size tapes = mod-eq_of_lt (pow_pos size)

-- The leaf at a place of some names.
pub leaf-get_d : (size : ℕ) (tapes : List (List ℕ)) (names : List Origin) (place : ℕ)
    → get_or (map (leaf_of size tapes) names) place 0 ≡ leaf_of size tapes (get_or names place no_draw)
leaf-get_d size tapes names place =
    ap (get_or (map (leaf_of size tapes) names) place) (sym (no-leaf size tapes)) ∙ get_or-map (leaf_of size tapes) names place no_draw

pub leaves : {s : Structure} (rounds size : ℕ) (tapes : List (List ℕ)) (ops : List (Op s))
    → leaf_run rounds size tapes ops ≡ map_ran (leaf_of size tapes) (origins rounds size ops)
unfolding leaf_run origins
leaves rounds size tapes ops =
    ap (λ (nil : ℕ). run nil rounds (capacity size) (λ c d. leaf_of size tapes (drawn c d)) 1 ops (empty_memory nil)) (sym (no-leaf size tapes))
    ∙ run-mapped (leaf_of size tapes) no_draw rounds (capacity size) drawn ops

pub leaves-revealed : {s : Structure} (rounds size : ℕ) (tapes : List (List ℕ)) (ops : List (Op s))
    → (leaf_run rounds size tapes ops).revealed ≡ map (leaf_of size tapes) (names rounds size ops)
leaves-revealed rounds size tapes ops = ap (λ (r : Ran ℕ). r.revealed) (leaves rounds size tapes ops)

pub leaves-answers : {s : Structure} (rounds size : ℕ) (tapes : List (List ℕ)) (ops : List (Op s))
    → (leaf_run rounds size tapes ops).answers ≡ (origins rounds size ops).answers
leaves-answers rounds size tapes ops = ap (λ (r : Ran ℕ). r.answers) (leaves rounds size tapes ops)
