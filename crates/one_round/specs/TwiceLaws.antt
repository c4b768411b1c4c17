-- A list in which a key stands twice is damage to a round. Nodes that join an ascending list leave one that ascends, or has a key twice.
use Rattle.std.specs.Prelude.{◌≡◌, refl, Bool, true, false, List, [], ℕ}
use Rattle.std.proofs.Common.{◌∙◌, ap, append-nil, arith}
use Rattle.std.proofs.lemmas.List.{map-append}
use Rattle.std.proofs.Math.Option.{Option, none}
use Rattle.list_laws.specs.PermLaws.{perm-map}
use Rattle.list_laws.specs.DistinctLaws.{distinct-perm}
use Rattle.method_spec.specs.Prog.{Prog}
use Rattle.round_spec.specs.Format.{Format}
use Rattle.round_spec.specs.Round.{Wish, keys_of, none_twice, join, read_half}
use Rattle.round_laws.specs.Lists.{join-perm}
use Rattle.round_laws.specs.ReadHalf.{none-twice-distinct}
use Rattle.list_spec.specs.Ascending.{ascending}
use Rattle.round_spec.specs.Whole.{Ascending}
use Rattle.round_laws.specs.Sorted.{ascending-join}
use Rattle.leaf_spec.specs.Leaf.{leaf_format}
use Rattle.word_round_laws.specs.KeepLaws.{read_twice}
use Rattle.bucket_call_spec.specs.Fetch.{Going, shut, revealing, held_keys, idle_round}
use Rattle.one_round.specs.IdleLaws.{idle-damaged}

module _ {E : Type 0} (F : Format E) where
  -- Without a key twice, the joined list ascends.
  pub join-twice : (es ws : List E) → Ascending F ws → ascending (keys_of F (join F es ws)) ≡ false → none_twice (keys_of F (join F es ws)) ≡ false
  join-twice es ws order descends = go (none_twice (keys_of F (join F es ws))) refl
    where
      go : (b : Bool) → none_twice (keys_of F (join F es ws)) ≡ b → none_twice (keys_of F (join F es ws)) ≡ false
      go false e = e
      go true e =
          let apart = distinct-perm (perm-map F.key (join-perm F es ws)) (none-twice-distinct (keys_of F (join F es ws)) e) in
          let ascends = ascending-join F es ws (rw (map-append F.key es ws) at apart) order in
          let z : ◌≡◌ {A = ℕ} 0 1 = cc in absurd (omega arith)

  pub twice-damage : (k : ℕ) (tree : List ℕ) (t : ℕ) (w : Option Wish) (ws : List E) → none_twice (keys_of F ws) ≡ false
      → read_half F k tree t w [] ws ≡ none
  twice-damage k tree t w ws twice = read_twice F k tree t w [] ws (rw (append-nil (keys_of F ws)) twice)

-- So a round that wants none shuts the store, where nothing is held.
pub twice-shuts : {A : Type 0} (k leaf : ℕ) (p : Prog ℕ A) (g : Going) → g.held ≡ [] → none_twice (keys_of leaf_format g.waiting) ≡ false
    → idle_round k leaf p g ≡ shut 8 (revealing leaf g)
twice-shuts k leaf p g nothing twice =
    let none-held : held_keys g ≡ [] = rw nothing in
    idle-damaged k leaf p g
    (ap (λ (ks : List ℕ). read_half leaf_format k g.tree leaf none ks g.waiting) none-held
    ∙ twice-damage leaf_format k g.tree leaf none g.waiting twice)
