-- The lengths that a host must lend, where structure and size are known and where not.
use Rattle.std.specs.Prelude.{◌≡◌, true, false, ℕ, ◌+◌, ◌*◌, ◌/◌, ◌≤◌}
use Rattle.std.proofs.Math.Bool.{and-eq-true_iff}
use Rattle.std.proofs.Common.{arith}
use Rattle.slot_spec.specs.Tree.{slot_length, tree_length}
use Rattle.state_spec.specs.Fit.{in_range, largest_structure, largest_size, places}
use Rattle.state_spec.specs.Fetching.{rounds_of, draws_of}
use Rattle.state_laws.specs.FitLaws.{in-range-true}
use Rattle.host_spec.specs.Lengths.{known_size, known_store, tree_lent, tape_lent, trace_lent, file_lent}

module _ (size : ℕ) where
  pub known-size : known_size size ≡ true → (1 ≤ size) × (size ≤ largest_size)
  known-size e = in-range-true size largest_size e

  pub tree-unknown : known_size size ≡ false → 0 ≡ tree_lent size
  tree-unknown e = rw e

  pub tree-known : known_size size ≡ true → tree_length size ≡ tree_lent size
  tree-known e = rw e

  pub file-unknown : known_size size ≡ false → 0 ≡ file_lent size
  unfolding file_lent
  file-unknown e = rw e

  pub file-known : known_size size ≡ true → 2 + (8 + 8) * (tree_length size / slot_length + places) ≡ file_lent size
  unfolding file_lent
  file-known e = rw e (omega arith)

module _ (structure size : ℕ) where
  pub known_store_lem : known_store structure size ≡ true → (structure ≤ largest_structure) × ((1 ≤ size) × (size ≤ largest_size))
  known_store_lem e =
      let a = (and-eq-true_iff (in_range structure largest_structure) (known_size size)).0 e in
      ((in-range-true structure largest_structure a.0).1, known-size size a.1)

  pub tape-unknown : known_store structure size ≡ false → 0 ≡ tape_lent structure size
  unfolding tape_lent
  tape-unknown e = rw e

  pub tape-known : known_store structure size ≡ true → 2 * draws_of structure size ≡ tape_lent structure size
  unfolding tape_lent
  tape-known e = rw e

  pub trace-unknown : known_store structure size ≡ false → 0 ≡ trace_lent structure size
  unfolding trace_lent
  trace-unknown e = rw e

  pub trace-known : known_store structure size ≡ true → 2 * (2 * rounds_of structure size) ≡ trace_lent structure size
  unfolding trace_lent
  trace-known e = rw e
