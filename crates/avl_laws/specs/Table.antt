-- What the plain machine does with the table at the place where a key is, or is missing.
use Rattle.std.specs.Prelude.{◌≡◌, ℕ, suc, length}
use Rattle.std.proofs.Math.Path.{sym}
use Rattle.std.proofs.Common.{ap, ◌∙◌, arith, length-append}
use mathlib.Core.List.{List, [], ◌∷◌, ◌++◌, append_assoc}
use Rattle.std.proofs.Math.Option.{none, some}
use Rattle.balance_spec.specs.Tree.{Tree, leaf, node}
use Rattle.method_spec.specs.Plain.{Pair, lookup, store, erase}
use Rattle.avl_laws.specs.Search.{Entry, pairs}
use Rattle.avl_laws.specs.Ascending.{pair, Ascending, Split, ascending-split, ascending-join, ascending-append, lookup-at, store_at, erase-at, lookup-between, store-between, erase-between}
use Rattle.avl_laws.specs.Frames.{Frame, pair_of, before, after, around}
use Rattle.avl_laws.specs.Walk.{Place, Sits}

-- ---- at a key of the table

module _ {T : Type 0} {table : List Pair} {fs : List (Frame T)} {l : Tree (Entry T)} {e : Entry T} {r : Tree (Entry T)}
    (ascends : Ascending none none table) (p : Place table fs (node l e r)) where
  lefts : List Pair
  lefts = before fs ++ pairs l

  rights : List Pair
  rights = pairs r ++ after fs

  table_is : table ≡ lefts ++ (pair_of e ∷ rights)
  unfolding pairs lefts rights
  table_is = sym p.same ∙ simp append_assoc

  parts : Split none none lefts (pair_of e) rights
  parts = ascending-split lefts (rw table_is at ascends)

  pub present-lookup : lookup e.key table ≡ some e.value
  present-lookup = rw table_is (lookup-at lefts (pair_of e) rights parts.before)

  pub present-store : (v : ℕ) → store e.key v table ≡ around fs (pairs l ++ (pair e.key v ∷ pairs r))
  unfolding lefts rights
  present-store v = rw table_is (store_at v lefts (pair_of e) rights parts.before ∙ simp append_assoc)

  pub present-erase : erase e.key table ≡ around fs (pairs l ++ pairs r)
  unfolding lefts rights
  present-erase = rw table_is (erase-at lefts (pair_of e) rights parts.before ∙ simp append_assoc)

  -- Ascending still, with as many pairs or one less.
  pub store-ascends : (v : ℕ) → Ascending none none (store e.key v table)
  store-ascends v =
      rw (ap (store e.key v) table_is, store_at v lefts (pair_of e) rights parts.before)
      (ascending-join lefts (pair e.key v) parts.before tt tt parts.after)

  pub erase-ascends : Ascending none none (erase e.key table)
  erase-ascends =
      rw (ap (erase e.key) table_is, erase-at lefts (pair_of e) rights parts.before)
      (ascending-append lefts tt tt parts.before parts.after)

  pub store_length : (v : ℕ) → length (store e.key v table) ≡ length table
  store_length v =
      ap length (ap (store e.key v) table_is ∙ store_at v lefts (pair_of e) rights parts.before)
      ∙ (length-append lefts _ ∙ (sym (length-append lefts _) ∙ ap length (sym table_is)))

  pub erase-length : suc (length (erase e.key table)) ≡ length table
  erase-length =
      let a = ap length (ap (erase e.key) table_is ∙ erase-at lefts (pair_of e) rights parts.before) in
      let b = ap length table_is in
      let c = length-append lefts rights in
      let d = length-append lefts (pair_of e ∷ rights) in
      omega arith

-- ---- at the place of a missing key

module _ {T : Type 0} {key : ℕ} {table : List Pair} {fs : List (Frame T)} (p : Place table fs leaf)
    (sits : Sits key fs) where
  apart-is : table ≡ before fs ++ after fs
  unfolding pairs
  apart-is = sym p.same

  pub missing-lookup : lookup key table ≡ none
  missing-lookup = rw apart-is (lookup-between key (before fs) (after fs) sits.lower sits.upper)

  pub missing-store : (v : ℕ) → store key v table ≡ around fs (pair key v ∷ [])
  missing-store v = rw apart-is (store-between key v (before fs) (after fs) sits.lower sits.upper)

  pub missing-erase : erase key table ≡ table
  missing-erase = rw apart-is (erase-between key (before fs) (after fs) sits.lower sits.upper)

  pub new-ascends : (v : ℕ) → Ascending none none (store key v table)
  new-ascends v = rw (missing-store v) (ascending-join (before fs) (pair key v) sits.lower tt tt sits.upper)

  pub new-length : (v : ℕ) → length (store key v table) ≡ suc (length table)
  new-length v =
      let a = ap length (missing-store v) in
      let b = ap length apart-is in
      let c = length-append (before fs) (after fs) in
      let d = length-append (before fs) (pair key v ∷ after fs) in
      omega arith
