-- With which marks a call's rounds end: 8 or 9 and no answer, or 0 and an answer.
use Prim.Native.Nat.{ℕ, zero, suc}
use Rattle.std.specs.Prelude.{◌≡◌, Bool, ◌⊎◌, List, []}
use Rattle.std.proofs.Math.Path.{refl}
use Rattle.std.proofs.Math.Bool.{true, false}
use Rattle.std.proofs.Math.Logic.{inl, inr}
use Rattle.std.proofs.Math.Option.{Option, none, some}
use Rattle.list_spec.specs.Choice.{pick}
use Rattle.method_spec.specs.Node.{Node, Ahead}
use Rattle.method_spec.specs.Prog.{Prog, done, want, Want}
use Rattle.method_spec.specs.Answer.{Structure, Op, Answer}
use Rattle.method_spec.specs.Rounds.{put_draw}
use Rattle.method_spec.specs.Outcome.{Outcome}
use Rattle.method_spec.specs.Call.{capacity, program, spare_tags, test}
use Rattle.round_spec.specs.Round.{Hand, read_half}
use Rattle.leaf_spec.specs.Leaf.{leaf_format}
use Rattle.bucket_call_spec.specs.Fetch.{Going, CallLeft, Round, on, shut, closing, held_keys, wish_for, too_many, at_close, idle_round, took_round, want_round, fetch_round, fetch_rounds}
use Rattle.bucket_call_spec.specs.Call.{Store, put_rounds, after_puts, after_fetches, stepped, ahead_then, bucket_call}

-- A mark that closes a store: damage or overflow.
abbrev pub Closing : ℕ → Type 0
Closing m = (m ≡ 8) ⊎ (m ≡ 9)

-- ---- rounds

-- A round that closes the store has such a mark.
abbrev Marked : {A : Type 0} → Round A → Type 0
Marked (on g p) = Unit {0}
Marked (shut m g) = Closing m

module _ {A : Type 0} where
  close-marked : (g : Going) (p : Prog ℕ A) → Marked (at_close g p)
  unfolding at_close
  close-marked g p = go (too_many g)
    where
      go : (many : Bool) → Marked (pick many (shut 9 g) (on g p))
      go true = inr refl
      go false = tt

  idle-marked : (k leaf : ℕ) (p : Prog ℕ A) (g : Going) → Marked (idle_round k leaf p g)
  unfolding idle_round
  idle-marked k leaf p g = go (read_half leaf_format k g.tree leaf none (held_keys g) g.waiting) refl
    where
      go : (r : Option (Hand (Node ℕ))) → read_half leaf_format k g.tree leaf none (held_keys g) g.waiting ≡ r → Marked (idle_round k leaf p g)
      go none e = rw (e, idle_round) (inl refl)
      go (some h) e = rw (e, idle_round) (close-marked _ p)

  module _ (s : Structure) (entries k d : ℕ) (w : Want ℕ) (c : Node ℕ → Prog ℕ A) (g : Going) where
    took-marked : (ws : List (Node ℕ)) (o : Option (Node ℕ)) → Marked (took_round s entries k d w c g ws o)
    unfolding took_round
    took-marked ws none = inl refl
    took-marked ws (some e) = go (test s entries w e) refl
      where
        go : (passed : Bool) → test s entries w e ≡ passed → Marked (took_round s entries k d w c g ws (some e))
        go true q = rw (q, took_round) (close-marked _ _)
        go false q = rw (q, took_round) (inl refl)

    want-marked : Marked (want_round s entries k d w c g)
    unfolding want_round
    want-marked = go (read_half leaf_format k g.tree w.link.tag (some (wish_for w)) (held_keys g) g.waiting) refl
      where
        go : (r : Option (Hand (Node ℕ))) → read_half leaf_format k g.tree w.link.tag (some (wish_for w)) (held_keys g) g.waiting ≡ r
            → Marked (want_round s entries k d w c g)
        go none e = rw (e, want_round) (inl refl)
        go (some h) e = rw (e, want_round) (took-marked h.waiting h.taken)

  fetch-marked : (s : Structure) (entries k d : ℕ) (p : Prog ℕ A) (g : Going) → Marked (fetch_round s entries k d p g)
  unfolding fetch_round
  fetch-marked s entries k d (done a) g = idle-marked k d (done a) g
  fetch-marked s entries k d (want w c) g = want-marked s entries k d w c g

  fetches-marked : (s : Structure) (entries k : ℕ) (draw : ℕ → ℕ) (n i : ℕ) (p : Prog ℕ A) (g : Going) → Marked (fetch_rounds s entries k draw n i p g)
  unfolding fetch_rounds
  fetches-marked s entries k draw zero i p g = tt
  fetches-marked s entries k draw (suc n) i p g =
      go (fetch_round s entries k (draw i) p g) refl (fetch-marked s entries k (draw i) p g) (λ q h. fetches-marked s entries k draw n (suc i) q h)
    where
      go : (r : Round A) → fetch_round s entries k (draw i) p g ≡ r → Marked r
          → ((q : Prog ℕ A) (h : Going) → Marked (fetch_rounds s entries k draw n (suc i) q h))
          → Marked (fetch_rounds s entries k draw (suc n) i p g)
      go (on h q) e marked later = rw e (later q h)
      go (shut m h) e marked later = rw e marked

puts-marked : (k : ℕ) (draw : ℕ → ℕ) (n d : ℕ) (o : Outcome ℕ) (g : Going) → Marked (put_rounds k draw n d o g)
unfolding put_rounds
puts-marked k draw zero d o g = tt
puts-marked k draw (suc n) d o g =
    go (idle_round k (draw d) (done o) g) refl (idle-marked k (draw d) (done o) g) (λ h. puts-marked k draw n (suc d) o h)
  where
    go : (r : Round (Outcome ℕ)) → idle_round k (draw d) (done o) g ≡ r → Marked r
        → ((h : Going) → Marked (put_rounds k draw n (suc d) o h))
        → Marked (put_rounds k draw (suc n) d o g)
    go (on h q) e marked later = rw e (later h)
    go (shut m h) e marked later = rw e marked

-- ---- a call

-- What a call leaves: it closed the store, or it has an answer.
pub data Ends (l : CallLeft) : Type 0 where
  closes : Closing l.mark → l.answer ≡ none → Ends l
  answers : (a : Answer) → l.mark ≡ 0 → l.answer ≡ some a → Ends l

puts-end : (a : Ahead ℕ) (o : Outcome ℕ) (r : Round (Outcome ℕ)) → Marked r → Ends (after_puts a o r)
unfolding after_puts closing
puts-end a o (on g p) marked = answers o.answer refl refl
puts-end a o (shut m g) marked = closes marked refl

fetches-end : (s : Structure) (k F : ℕ) (draw : ℕ → ℕ) (st : Store) (a : Ahead ℕ) (r : Round (Outcome ℕ)) → Marked r → Ends (after_fetches s k F draw st a r)
unfolding after_fetches closing
fetches-end s k F draw st a (shut m g) marked = closes marked refl
fetches-end s k F draw st a (on g (want w c)) marked = closes (inl refl) refl
fetches-end s k F draw st a (on g (done o)) marked =
    puts-end a o (put_rounds k draw F (put_draw s F 0) o (stepped o g)) (puts-marked k draw F (put_draw s F 0) o (stepped o g))

pub call_ends : {s : Structure} (k F : ℕ) (op : Op s) (draw : ℕ → ℕ) (st : Store) → Ends (bucket_call k F op draw st)
unfolding bucket_call
call_ends {s} k F op draw st =
    fetches-end s k F draw st (ahead_then k F op draw st) _
    (fetches-marked s st.entries k draw F 0 (program 0 op (spare_tags F draw) (capacity k) st.entries st.ahead st.root)
    (record { tree = st.tree; waiting = st.waiting; held = []; leaves = [] }))
