-- The put rounds over two stores that are the same but for the value of one node: they do the same, and leave two such stores.
use Rattle.std.specs.Prelude.{◌≡◌, Bool, ◌⊎◌}
use Rattle.std.proofs.Math.Path.{refl, ap, subst}
use Rattle.std.proofs.Common.{sym, ap₂, inl, inr}
use Rattle.std.proofs.Math.Bool.{true, false}
use mathlib.Core.List.{List, [], ◌∷◌, ◌++◌, map}
use Rattle.std.proofs.Math.Option.{Option, none, some}
use Prim.Native.Nat.{ℕ, zero, suc, ◌^◌, ◌<◌}
use Rattle.std.proofs.Math.ListN.{length}
use Rattle.list_spec.specs.Choice.{pick}
use Rattle.method_spec.specs.Node.{Node}
use Rattle.method_spec.specs.Prog.{done}
use Rattle.method_spec.specs.Outcome.{Outcome}
use Rattle.round_spec.specs.Round.{Hand, read_half, exceeds_limit}
use Rattle.round_spec.specs.Whole.{IsTree}
use Rattle.round_laws.specs.NothingLost.{write-is-tree}
use Rattle.leaf_spec.specs.Leaf.{leaf_format, ProperLeaf}
use Rattle.leaf_laws.specs.Proper.{leaves-lawful}
use Rattle.bucket_call_spec.specs.Fetch.{Held, Going, held_keys, revealing, written, too_many, Round, on, shut, at_close, idle_round}
use Rattle.bucket_call_spec.specs.Call.{put_rounds}
use Rattle.none_lost_laws.specs.Putting.{puts-shut, puts-on}
use Rattle.promise_spec.specs.FullPut.{Apart}
use Rattle.full_put_laws.specs.RoundApart.{apart-length, BothRead, both-damaged, both-closed, round-apart}

-- Two stores between two rounds: nothing is held, the same leaves were revealed, and of one node the one has a and the other b.
pub record Near (k : ℕ) (a b : Node ℕ) (g h : Going) : Type 0 where
  pub none-held : g.held ≡ []
  pub held : h.held ≡ g.held
  pub leaves : h.leaves ≡ g.leaves
  pub is-tree : IsTree k g.tree
  pub other-tree : IsTree k h.tree
  pub apart : Apart leaf_format k a b g.tree g.waiting h.tree h.waiting

-- Where rounds over two such stores come to: both closed the store with one mark, 8 or 9, or both go on.
pub data NearRounds (k : ℕ) (a b : Node ℕ) (o q : Outcome ℕ) : Round (Outcome ℕ) → Round (Outcome ℕ) → Type 0 where
  near-shut : (m : ℕ) (g h : Going) → (m ≡ 8) ⊎ (m ≡ 9) → Near k a b g h → NearRounds k a b o q (shut m g) (shut m h)
  near_on : (g h : Going) → Near k a b g h → NearRounds k a b o q (on g (done o)) (on h (done q))

module _ (k : ℕ) {a b : Node ℕ} (same_key : b.key ≡ a.key) (same_tag : b.tag ≡ a.tag) (proper-a : ProperLeaf k a) (proper-b : ProperLeaf k b)
    (o q : Outcome ℕ) where
  close-near : (g h : Going) → Near k a b g h → NearRounds k a b o q (at_close g (done o)) (at_close h (done q))
  unfolding at_close
  close-near g h near =
      subst (λ (many : Bool). NearRounds k a b o q (pick (too_many g) (shut 9 g) (on g (done o))) (pick many (shut 9 h) (on h (done q))))
      (ap₂ exceeds_limit (apart-length near.apart) (ap length (sym near.held))) (go (too_many g))
    where
      go : (many : Bool) → NearRounds k a b o q (pick many (shut 9 g) (on g (done o))) (pick many (shut 9 h) (on h (done q)))
      go true = near-shut 9 g h (inr refl) near
      go false = near_on g h near

  pub idle-near : (leaf : ℕ) → leaf < 2 ^ k → (g h : Going) → Near k a b g h → NearRounds k a b o q (idle_round k leaf (done o) g) (idle_round k leaf (done q) h)
  unfolding idle_round
  idle-near leaf is_IsLeaf g h near =
      go
      (subst
      (λ (keys : List ℕ). BothRead leaf_format k a b g.tree h.tree leaf (read_half leaf_format k g.tree leaf none (held_keys g) g.waiting)
      (read_half leaf_format k h.tree leaf none keys h.waiting))
      (ap (map (λ (x : Held). x.node.key)) (sym near.held))
      (round-apart leaf_format leaves-lawful k same_key same_tag proper-a proper-b leaf is_IsLeaf g.tree h.tree g.waiting h.waiting
      near.is-tree near.other-tree near.apart (held_keys g)))
    where
      leaves : h.leaves ++ (leaf ∷ []) ≡ g.leaves ++ (leaf ∷ [])
      leaves = ap (λ (l : List ℕ). l ++ (leaf ∷ [])) near.leaves

      go : {x y : Option (Hand (Node ℕ))} → BothRead leaf_format k a b g.tree h.tree leaf x y
          → NearRounds k a b o q (elim x [ none ↦ shut 8 (revealing leaf g) | some i ↦ at_close (written k leaf i.waiting g.held g) (done o) ])
          (elim y [ none ↦ shut 8 (revealing leaf h) | some i ↦ at_close (written k leaf i.waiting h.held h) (done q) ])
      go both-damaged =
          near-shut 8 (revealing leaf g) (revealing leaf h) (inl refl)
          (record {
            none-held = near.none-held;
            held = near.held;
            leaves = leaves;
            is-tree = near.is-tree;
            other-tree = near.other-tree;
            apart = near.apart;
          })
      go (both-closed {h = i} {i = j} apart) =
          close-near (written k leaf i.waiting g.held g) (written k leaf j.waiting h.held h)
          (record {
            none-held = near.none-held;
            held = near.held;
            leaves = leaves;
            is-tree = write-is-tree leaf_format leaves-lawful k leaf is_IsLeaf g.tree near.is-tree i.waiting;
            other-tree = write-is-tree leaf_format leaves-lawful k leaf is_IsLeaf h.tree near.other-tree j.waiting;
            apart = apart;
          })

  pub puts-near : (draw : ℕ → ℕ) → ((d : ℕ) → draw d < 2 ^ k) → (n d : ℕ) (g h : Going) → Near k a b g h
      → NearRounds k a b o q (put_rounds k draw n d o g) (put_rounds k draw n d q h)
  unfolding put_rounds
  puts-near draw leaves zero d g h near = near_on g h near
  puts-near draw leaves (suc n) d g h near =
      go (puts-near draw leaves n (suc d)) refl refl (idle-near (draw d) (leaves d) g h near)
    where
      go : ((g h : Going) → Near k a b g h → NearRounds k a b o q (put_rounds k draw n (suc d) o g) (put_rounds k draw n (suc d) q h))
          → {x y : Round (Outcome ℕ)} → idle_round k (draw d) (done o) g ≡ x → idle_round k (draw d) (done q) h ≡ y → NearRounds k a b o q x y
          → NearRounds k a b o q (put_rounds k draw (suc n) d o g) (put_rounds k draw (suc n) d q h)
      go later e f (near-shut m i j closes apart) = rw (puts-shut k draw n d o g m i e, puts-shut k draw n d q h m j f) (near-shut m i j closes apart)
      go later e f (near_on i j apart) = rw (puts-on k draw n d o g (done o) i e, puts-on k draw n d q h (done q) j f) (later i j apart)
