-- A good opening leaves the open state and the tree of the empty store, which fit.
use Rattle.std.specs.Prelude.{ℕ, ◌≤◌, ◌≡◌, true, List, length}
use Rattle.std.proofs.Common.{◌∙◌, ap}
use Rattle.std.proofs.Math.Path.{subst⁻¹}
use Rattle.slot_spec.specs.Tree.{tree_length}
use Rattle.method_spec.specs.Answer.{Structure}
use Rattle.method_spec.specs.Plain.{nothing}
use Rattle.method_spec.specs.Call.{capacity, empty_memory}
use Rattle.method_laws.specs.Represented.{held-empty}
use Rattle.simulation_laws.specs.Relation.{empty_store}
use Rattle.simulation_laws.specs.CallSim.{simulate-start}
use Rattle.state_spec.specs.Fit.{largest_size, fits}
use Rattle.state_laws.specs.OpeningLaws.{good-opening}
use Rattle.call_spec.specs.Store.{store_of}
use Rattle.demand_spec.specs.History.{StateAndTree, structure_number}
use Rattle.demand_spec.specs.Demands.{opened_store}
use Rattle.demand_laws.specs.OpenStates.{kept_of, store-back}
use Rattle.demand_laws.specs.FitKept.{in-range, structure-fits, state-fits}

module _ (st : Structure) (k : ℕ) (positive : 1 ≤ k) (small : k ≤ 8) (tree : List ℕ) (sized : length tree ≡ tree_length k) where
  pub opened-empty : opened_store st k tree ≡ kept_of st k (empty_store k)
  opened-empty =
      rw (good-opening (structure_number st) k tree (structure-fits st) (in-range k largest_size positive small) sized, sized)

  pub opened-fits : fits (opened_store st k tree).state ≡ true
  opened-fits =
      subst⁻¹ (λ (s : StateAndTree). fits s.state ≡ true) opened-empty
      (state-fits st k positive small (empty_store k) (empty_memory 0) (simulate-start k) (nothing st) (held-empty 0 st (capacity k)))

  pub opened-store : store_of (opened_store st k tree).state (opened_store st k tree).tree ≡ empty_store k
  opened-store =
      ap (λ (s : StateAndTree). store_of s.state s.tree) opened-empty ∙ store-back st k (empty_store k)
