-- Two programs that want the same nodes, one after the other: their fetch rounds do the same, on any content.
use Rattle.std.specs.Prelude.{◌≡◌, Bool, List, [], ◌∷◌, ◌++◌}
use Rattle.std.proofs.Math.Path.{refl}
use Rattle.std.proofs.Math.Bool.{true, false}
use Rattle.std.proofs.Math.Option.{Option, none, some}
use Prim.Native.Nat.{ℕ, zero, suc}
use Rattle.list_spec.specs.Choice.{pick}
use Rattle.method_spec.specs.Node.{Node, retag}
use Rattle.method_spec.specs.Prog.{Want, Prog, done, want}
use Rattle.method_spec.specs.Answer.{Structure}
use Rattle.method_spec.specs.Outcome.{Outcome}
use Rattle.method_spec.specs.Call.{test}
use Rattle.round_spec.specs.Round.{Hand, read_half}
use Rattle.leaf_spec.specs.Leaf.{leaf_format}
use Rattle.none_lost_laws.specs.Fetching.{fetches-shut, fetches-on}
use Rattle.bucket_call_spec.specs.Fetch.{Held, Going, held_keys, wish_for, revealing, written, too_many, Round, on, shut, at_close, idle_round, took_round, want_round, fetch_round, fetch_rounds}

-- Both are done, with outcomes that the relation has for the nodes held; or both want the same node, and go on so with whatever node comes.
pub data Both (R : List Held → Outcome ℕ → Outcome ℕ → Type 0) : List Held → Prog ℕ (Outcome ℕ) → Prog ℕ (Outcome ℕ) → Type 0 where
  both-done : {hs : List Held} {o q : Outcome ℕ} → R hs o q → Both R hs (done o) (done q)
  both-want : {hs : List Held} {w : Want ℕ} {c d : Node ℕ → Prog ℕ (Outcome ℕ)}
      → ((n : Node ℕ) → Both R (hs ++ (record { from = w.from; node = n } ∷ [])) (c n) (d n)) → Both R hs (want w c) (want w d)

-- Where the fetch rounds of such programs come to: both closed the store, or both go on, with the same tree, waiting and held nodes and leaves.
pub data Together (R : List Held → Outcome ℕ → Outcome ℕ → Type 0) : Round (Outcome ℕ) → Round (Outcome ℕ) → Type 0 where
  both-shut : (m : ℕ) (g : Going) → Together R (shut m g) (shut m g)
  both-on : (g : Going) {p q : Prog ℕ (Outcome ℕ)} → Both R g.held p q → Together R (on g p) (on g q)

module _ {R : List Held → Outcome ℕ → Outcome ℕ → Type 0} where
  pub both-same : ((hs : List Held) (o : Outcome ℕ) → R hs o o) → (hs : List Held) (p : Prog ℕ (Outcome ℕ)) → Both R hs p p
  both-same same hs (done o) = both-done (same hs o)
  both-same same hs (want w c) = both-want (λ n. both-same same (hs ++ (record { from = w.from; node = n } ∷ [])) (c n))

  close-together : (g : Going) {p q : Prog ℕ (Outcome ℕ)} → Both R g.held p q → Together R (at_close g p) (at_close g q)
  unfolding at_close
  close-together g {p} {q} both = go (too_many g)
    where
      go : (many : Bool) → Together R (pick many (shut 9 g) (on g p)) (pick many (shut 9 g) (on g q))
      go true = both-shut 9 g
      go false = both-on g both

  idle-together : (k leaf : ℕ) (g : Going) {p q : Prog ℕ (Outcome ℕ)} → Both R g.held p q → Together R (idle_round k leaf p g) (idle_round k leaf q g)
  unfolding idle_round
  idle-together k leaf g {p} {q} both = go (read_half leaf_format k g.tree leaf none (held_keys g) g.waiting)
    where
      go : (h : Option (Hand (Node ℕ)))
          → Together R (elim h [ none ↦ shut 8 (revealing leaf g) | some h ↦ at_close (written k leaf h.waiting g.held g) p ])
          (elim h [ none ↦ shut 8 (revealing leaf g) | some h ↦ at_close (written k leaf h.waiting g.held g) q ])
      go none = both-shut 8 (revealing leaf g)
      go (some h) = close-together (written k leaf h.waiting g.held g) both

  module _ (s : Structure) (entries k draw : ℕ) (w : Want ℕ) {c d : Node ℕ → Prog ℕ (Outcome ℕ)} (g : Going)
      (more : (n : Node ℕ) → Both R (g.held ++ (record { from = w.from; node = n } ∷ [])) (c n) (d n)) where
    abbrev taking : List (Node ℕ) → Node ℕ → Going
    taking ws n = written k w.link.tag ws (g.held ++ (record { from = w.from; node = retag draw n } ∷ [])) g

    took-together : (ws : List (Node ℕ)) (taken : Option (Node ℕ)) → Together R (took_round s entries k draw w c g ws taken) (took_round s entries k draw w d g ws taken)
    unfolding took_round
    took-together ws none = both-shut 8 (revealing w.link.tag g)
    took-together ws (some n) = go (test s entries w n)
      where
        go : (passed : Bool)
            → Together R (pick passed (at_close (taking ws n) (c (retag draw n))) (shut 8 (revealing w.link.tag g)))
            (pick passed (at_close (taking ws n) (d (retag draw n))) (shut 8 (revealing w.link.tag g)))
        go true = close-together (taking ws n) (more (retag draw n))
        go false = both-shut 8 (revealing w.link.tag g)

    want-together : Together R (want_round s entries k draw w c g) (want_round s entries k draw w d g)
    unfolding want_round
    want-together = go (read_half leaf_format k g.tree w.link.tag (some (wish_for w)) (held_keys g) g.waiting)
      where
        go : (h : Option (Hand (Node ℕ)))
            → Together R (elim h [ none ↦ shut 8 (revealing w.link.tag g) | some h ↦ took_round s entries k draw w c g h.waiting h.taken ])
            (elim h [ none ↦ shut 8 (revealing w.link.tag g) | some h ↦ took_round s entries k draw w d g h.waiting h.taken ])
        go none = both-shut 8 (revealing w.link.tag g)
        go (some h) = took-together h.waiting h.taken

  pub fetch-together : (s : Structure) (entries k draw : ℕ) (g : Going) {p q : Prog ℕ (Outcome ℕ)} → Both R g.held p q
      → Together R (fetch_round s entries k draw p g) (fetch_round s entries k draw q g)
  unfolding fetch_round
  fetch-together s entries k draw g (both-done r) = idle-together k draw g (both-done r)
  fetch-together s entries k draw g (both-want {w = w} more) = want-together s entries k draw w g more

  pub rounds-together : (s : Structure) (entries k : ℕ) (draw : ℕ → ℕ) (n i : ℕ) (g : Going) (p q : Prog ℕ (Outcome ℕ)) → Both R g.held p q
      → Together R (fetch_rounds s entries k draw n i p g) (fetch_rounds s entries k draw n i q g)
  unfolding fetch_rounds
  rounds-together s entries k draw zero i g p q both = both-on g both
  rounds-together s entries k draw (suc n) i g p q both =
      go (rounds-together s entries k draw n (suc i)) refl refl (fetch-together s entries k (draw i) g both)
    where
      go : ((h : Going) (a b : Prog ℕ (Outcome ℕ)) → Both R h.held a b
          → Together R (fetch_rounds s entries k draw n (suc i) a h) (fetch_rounds s entries k draw n (suc i) b h))
          → {x y : Round (Outcome ℕ)} → fetch_round s entries k (draw i) p g ≡ x → fetch_round s entries k (draw i) q g ≡ y → Together R x y
          → Together R (fetch_rounds s entries k draw (suc n) i p g) (fetch_rounds s entries k draw (suc n) i q g)
      go later e f (both-shut m h) = rw (fetches-shut s entries k draw n i p g m h e, fetches-shut s entries k draw n i q g m h f) (both-shut m h)
      go later e f (both-on h {p = a} {q = b} more) =
          rw (fetches-on s entries k draw n i p g a h e, fetches-on s entries k draw n i q g b h f) (later h a b more)
