-- What a round needs of the waiting elements, it leaves: their keys ascend, and none is twice or held. So the next round's needs
-- follow from this round's result, whatever the tree holds.
use Rattle.std.proofs.Math.Path.{◌≡◌, refl}
use Rattle.std.proofs.Common.{sym, ◌∙◌, ap, subst, arith, ltb-true, ltb-false, eqb-true}
use Rattle.std.specs.Prelude.{not, Bool, ◌||◌, ℕ, suc, ◌<◌, eqb, ltb, length, take, drop, get_or}
use Rattle.std.proofs.Math.Bool.{and-false, true, false}
use mathlib.Core.List.{List, [], ◌∷◌, ◌++◌, map, append_assoc}
use Rattle.std.proofs.Math.Option.{Option, none, some}
use Rattle.std.proofs.Math.Seq.{split_at}
use Rattle.std.proofs.lemmas.Bool.{eqb-false}
use Rattle.list_spec.specs.Choice.{pick}
use Rattle.list_spec.specs.Distinct.{All}
use Rattle.list_spec.specs.Perm.{Perm, trans}
use Rattle.list_laws.specs.PermLaws.{perm-of-eq, perm-append-right, perm-append-swap, perm-front}
use Rattle.slot_spec.specs.Tree.{among, path}
use Rattle.round_spec.specs.Format.{Format, Read, full, empty, bad}
use Rattle.round_spec.specs.Round.{Hand, Wish, keys_of, none_twice, all_good, joined, read_buckets, granted, granted_from, read_half, insert, choose, evict, write_half, with_bucket}
use Rattle.slot_spec.specs.Slot.{bucket_bytes}
use Rattle.list_spec.specs.Ascending.{ascending}
use Rattle.word_round_laws.specs.Stash.{without, position, join_readings}
use Rattle.word_round_laws.specs.StashLaws.{ascending-holds, ascending-test}
use Rattle.word_round_laws.specs.PartLaws.{Part, part-whole, part_without, part-part, part-holds, part-ascending, part-distinct}
use Rattle.word_round_laws.specs.JoinLaws.{distinct_of, distinct-tested, none-twice-perm, readings-ascending, once, among-either}
use Rattle.word_round_laws.specs.LookLaws.{half-joined, from-damage, from-joined, granted-nothing, granted-missing, granted-other, granted-found}
use Rattle.word_round_laws.specs.ChooseLaws.{left-part}

module _ {E : Type 0} (F : Format E) where
  -- The key of an element in hand.
  abbrev pub taken_keys : Option E → List ℕ
  taken_keys none = []
  taken_keys (some e) = F.key e ∷ []

  -- ---- the read half
  readings-distinct : (held : List ℕ) (rs : List (Read E)) (ws vs : List E) → join_readings F held rs ws ≡ some vs
      → none_twice (keys_of F ws ++ held) ≡ true → none_twice (keys_of F vs ++ held) ≡ true
  unfolding join_readings
  readings-distinct held [] ws vs e d = let y : ws ≡ vs = cc in rw (← y) d
  readings-distinct held (empty ∷ rs) ws vs e d = readings-distinct held rs ws vs e d
  readings-distinct held (bad ∷ rs) ws vs e d = let z : ◌≡◌ {A = ℕ} 0 1 = cc in absurd (omega arith)
  readings-distinct held (full x ∷ rs) ws vs e d =
      go (readings-distinct held rs (insert F x ws) vs) (among (F.key x) held || among (F.key x) (keys_of F ws)) refl e
    where
      go : (join_readings F held rs (insert F x ws) ≡ some vs → none_twice (keys_of F (insert F x ws) ++ held) ≡ true → none_twice (keys_of F vs ++ held) ≡ true)
          → (t : Bool) → (among (F.key x) held || among (F.key x) (keys_of F ws)) ≡ t
          → pick t none (join_readings F held rs (insert F x ws)) ≡ some vs → none_twice (keys_of F vs ++ held) ≡ true
      go more true q e = let z : ◌≡◌ {A = ℕ} 0 1 = cc in absurd (omega arith)
      go more false q e = more e (once F x ws held d (among-either F (F.key x) ws held false q))

  -- What is granted of some elements: they are those in hand, in their order.
  pub record Granted (ws : List E) (h : Hand E) : Type 0 where
    pub part : Part h.waiting ws
    pub keys : Perm (keys_of F ws) (taken_keys h.taken ++ keys_of F h.waiting)

  keys-append : (xs ys : List E) → keys_of F (xs ++ ys) ≡ keys_of F xs ++ keys_of F ys
  keys-append [] ys = refl
  keys-append (x ∷ xs) ys = ap (λ (r : List ℕ). F.key x ∷ r) (keys-append xs ys)

  taken-keys : (ws : List E) (i : ℕ) (d : E) → i < length ws → Perm (keys_of F ws) (F.key (get_or ws i d) ∷ keys_of F (without i ws))
  taken-keys ws i d h =
      trans (perm-of-eq (ap (keys_of F) (split_at ws i d h) ∙ keys-append (take i ws) (get_or ws i d ∷ drop (suc i) ws)))
      (trans (perm-front (keys_of F (take i ws)) (F.key (get_or ws i d)) (keys_of F (drop (suc i) ws)))
      (perm-of-eq (ap (λ (r : List ℕ). F.key (get_or ws i d) ∷ r) (sym (keys-append (take i ws) (drop (suc i) ws))))))

  granted-wish : (w : Wish) (ws : List E) (d : E) (h : Hand E) → granted F (some w) ws ≡ some h → Granted ws h
  granted-wish w ws d h e = go (ltb (position F w.key ws) (length ws)) refl
    where
      p : ℕ
      p = position F w.key ws

      there : p < length ws → (t : Bool) → eqb (F.tag (get_or ws p d)) w.tag ≡ t → Granted ws h
      there l true q =
          let f = granted-found F w.key w.tag ws d l (eqb-true (F.tag (get_or ws p d)) w.tag q) in
          let s : record { taken = some (get_or ws p d); waiting = without p ws } ≡ h = cc in
          subst (Granted ws) s (record { part = part_without p ws; keys = taken-keys ws p d l })
      there l false q =
          let f = granted-other F w.key w.tag ws d l (eqb-false (F.tag (get_or ws p d)) w.tag q) in
          let z : ◌≡◌ {A = ℕ} 0 1 = cc in absurd (omega arith)

      go : (t : Bool) → ltb p (length ws) ≡ t → Granted ws h
      go true q = there (ltb-true p (length ws) q) (eqb (F.tag (get_or ws p d)) w.tag) refl
      go false q =
          let f = granted-missing F w.key w.tag ws (ltb-false p (length ws) q) in
          let z : ◌≡◌ {A = ℕ} 0 1 = cc in absurd (omega arith)

  granted-is : (w : Option Wish) (ws : List E) (h : Hand E) → granted F w ws ≡ some h → Granted ws h
  granted-is none ws h e =
      let q : record { taken = none; waiting = ws } ≡ h = cc (granted-nothing F ws) in
      subst (Granted ws) q (record { part = part-whole ws; keys = perm-of-eq refl })
  granted-is (some w) [] h e =
      let f = granted-missing F w.key w.tag [] (omega arith) in
      let z : ◌≡◌ {A = ℕ} 0 1 = cc in absurd (omega arith)
  granted-is (some w) (d ∷ ws) h e = granted-wish w (d ∷ ws) d h e

  -- A read half without damage joined the path's elements, and what it has in hand was granted of them.
  record ReadThrough (k : ℕ) (tree : List ℕ) (t : ℕ) (held : List ℕ) (ws : List E) (h : Hand E) : Type 0 where
    vs : List E
    joined : join_readings F held (read_buckets F k tree (path k t)) ws ≡ some vs
    hand : Granted vs h

  read_through : (k : ℕ) (tree : List ℕ) (t : ℕ) (w : Option Wish) (held : List ℕ) (ws : List E) (h : Hand E)
      → none_twice (keys_of F ws ++ held) ≡ true → read_half F k tree t w held ws ≡ some h → ReadThrough k tree t held ws h
  read_through k tree t w held ws h d e = go (join_readings F held (read_buckets F k tree (path k t)) ws) refl
    where
      g : granted_from F w (join_readings F held (read_buckets F k tree (path k t)) ws) ≡ some h
      g = sym (half-joined F k tree t w held ws d) ∙ e

      go : (o : Option (List E)) → join_readings F held (read_buckets F k tree (path k t)) ws ≡ o → ReadThrough k tree t held ws h
      go none q = let f = from-damage F w in let y = rw q at g in let z : ◌≡◌ {A = ℕ} 0 1 = cc in absurd (omega arith)
      go (some vs) q = record { vs = vs; joined = q; hand = granted-is w vs h (sym (from-joined F w vs) ∙ rw q at g) }

  module _ (k : ℕ) (tree : List ℕ) (t : ℕ) (w : Option Wish) (held : List ℕ) (ws : List E) (h : Hand E)
      (d : none_twice (keys_of F ws ++ held) ≡ true) (e : read_half F k tree t w held ws ≡ some h) where
    pub read-ascending : ascending (keys_of F ws) ≡ true → ascending (keys_of F h.waiting) ≡ true
    read-ascending a =
        let r = read_through k tree t w held ws h d e in
        ascending-test (keys_of F h.waiting)
        (part-ascending F r.hand.part
        (readings-ascending F held (read_buckets F k tree (path k t)) ws r.vs r.joined (ascending-holds (keys_of F ws) a)))

    -- The element that was taken out counts with the held ones.
    pub read-distinct : none_twice (keys_of F h.waiting ++ (taken_keys h.taken ++ held)) ≡ true
    read-distinct =
        let r = read_through k tree t w held ws h d e in
        let a = readings-distinct held (read_buckets F k tree (path k t)) ws r.vs r.joined d in
        sym (none-twice-perm
        (trans (perm-append-right held r.hand.keys)
        (trans (perm-of-eq (append_assoc (taken_keys h.taken) (keys_of F h.waiting) held))
        (perm-append-swap (taken_keys h.taken) (keys_of F h.waiting) held))))
        ∙ a

  -- Where a key is twice among waiting and held before the round, that is damage, whatever the path holds.
  twice-right : (xs ys : List ℕ) → none_twice ys ≡ false → none_twice (xs ++ ys) ≡ false
  unfolding none_twice
  twice-right [] ys h = h
  twice-right (x ∷ xs) ys h = rw (twice-right xs ys h) (and-false (not (among x (xs ++ ys))))

  pub read_twice : (k : ℕ) (tree : List ℕ) (t : ℕ) (w : Option Wish) (held : List ℕ) (ws : List E)
      → none_twice (keys_of F ws ++ held) ≡ false → read_half F k tree t w held ws ≡ none
  unfolding read_half joined granted_from
  read_twice k tree t w held ws h = go (all_good (read_buckets F k tree (path k t))) refl
    where
      go : (o : Option (List E)) → all_good (read_buckets F k tree (path k t)) ≡ o → granted_from F w (joined F held ws o) ≡ none
      go none q = refl
      go (some es) q = rw (twice-right (keys_of F es) (keys_of F ws ++ held) h)

  -- ---- the write half
  evict-part : (k : ℕ) (bs : List ℕ) (ws : List E) (tree : List ℕ) → Part (evict F k bs ws tree).waiting ws
  unfolding evict
  evict-part k [] ws tree = part-whole ws
  evict-part k (b ∷ bs) ws tree =
      part-part (evict-part k bs (choose F k b 4 ws).left (with_bucket tree b (bucket_bytes (map F.bytes (choose F k b 4 ws).ins)))) (left-part F k b 4 ws)

  module _ (k t : ℕ) (ws : List E) (tree : List ℕ) where
    -- What waits after the write half is of what waited before it, in its order.
    pub write-part : Part (write_half F k t ws tree).waiting ws
    write-part = evict-part k (path k t) ws tree

    pub write-ascending : ascending (keys_of F ws) ≡ true → ascending (keys_of F (write_half F k t ws tree).waiting) ≡ true
    write-ascending a =
        ascending-test (keys_of F (write_half F k t ws tree).waiting) (part-ascending F write-part (ascending-holds (keys_of F ws) a))

    pub write-distinct : (held : List ℕ) → none_twice (keys_of F ws ++ held) ≡ true → none_twice (keys_of F (write_half F k t ws tree).waiting ++ held) ≡ true
    write-distinct held d =
        distinct-tested (keys_of F (write_half F k t ws tree).waiting ++ held) (part-distinct F held write-part (distinct_of (keys_of F ws ++ held) d))

    pub write-holds : (P : E → Type 0) → All P ws → All P (write_half F k t ws tree).waiting
    write-holds P h = part-holds {P = P} write-part h
