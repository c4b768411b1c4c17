-- What the read half says: it finds no damage exactly where no slot of the path is bad, no key is twice among path, waiting and held, and
-- the wanted element is there under its link's tag; then what it took and what waits are, in another order, what the path held and
-- what waited.
use Rattle.std.proofs.Math.Path.{◌≡◌, refl, ap, subst}
use Rattle.std.proofs.Common.{sym, ◌∙◌, arith}
use Rattle.std.specs.Prelude.{Bool, not, ◌&&◌, ℕ}
use Rattle.std.proofs.Math.Bool.{true, false}
use mathlib.Core.List.{List, [], ◌∷◌, ◌++◌, append_assoc}
use Rattle.std.proofs.Math.Option.{Option, none, some}
use borrow.Author.Tests.{eqb-true, eq-eqb}
use Rattle.std.proofs.Math.Dec.{eqb}
use Rattle.list_spec.specs.Choice.{pick}
use Rattle.list_spec.specs.Perm.{Perm, trans}
use Rattle.list_laws.specs.PermLaws.{perm-refl, perm-sym}
use Rattle.list_spec.specs.Distinct.{Distinct, All}
use Rattle.list_laws.specs.DistinctLaws.{distinct-left}
use Rattle.slot_spec.specs.Tree.{path, among}
use Rattle.slot_laws.specs.TreeLaws.{among-member, member-among}
use Rattle.round_spec.specs.Format.{Format}
use Rattle.round_spec.specs.Round.{Wish, Hand, none_twice, all_good, keys_of, read_buckets, join, take_first, tagged, granted, joined, granted_from, read_half}
use Rattle.round_spec.specs.Whole.{good_ones, listed}
use Rattle.round_laws.specs.Readings.{NotBad, all-good-known, all-good-says}
use Rattle.round_laws.specs.Lists.{join-perm, take-perm, take-key}

-- ---- no number twice
pub none-twice-distinct : (ns : List ℕ) → none_twice ns ≡ true → Distinct ns
unfolding none_twice
none-twice-distinct [] h = tt
none-twice-distinct (n ∷ ns) h = go (none-twice-distinct ns) (among n ns) refl h
  where
    go : (none_twice ns ≡ true → Distinct ns) → (t : Bool) → among n ns ≡ t → (not t && none_twice ns) ≡ true → Distinct (n ∷ ns)
    go more true e h = let z : ◌≡◌ {A = ℕ} 0 1 = cc in absurd (omega arith)
    go more false e h = (λ m. let q = member-among n ns m in let z : ◌≡◌ {A = ℕ} 0 1 = cc in omega arith, more h)

pub distinct-none-twice : (ns : List ℕ) → Distinct ns → none_twice ns ≡ true
unfolding none_twice
distinct-none-twice [] d = refl
distinct-none-twice (n ∷ ns) d = go (distinct-none-twice ns d.1) (among n ns) refl
  where
    go : none_twice ns ≡ true → (t : Bool) → among n ns ≡ t → (not (among n ns) && none_twice ns) ≡ true
    go more true e = absurd (d.0 (among-member n ns e))
    go more false e = rw e more

pub distinct-but-last : {A : Type 0} (xs ys zs : List A) → Distinct (xs ++ (ys ++ zs)) → Distinct (xs ++ ys)
distinct-but-last xs ys zs d = distinct-left (xs ++ ys) zs (rw append_assoc d)

module _ {E : Type 0} (F : Format E) where
  -- ---- the wanted element
  tagged-says : (tag : ℕ) (o : Option E) (ws : List E) (h : Hand E) → tagged F tag (record { taken = o; waiting = ws }) ≡ some h
      → (e : E) × (o ≡ some e) × (F.tag e ≡ tag) × (h ≡ record { taken = o; waiting = ws })
  unfolding tagged
  tagged-says tag none ws h q = let z : ◌≡◌ {A = ℕ} 0 1 = cc in absurd (omega arith)
  tagged-says tag (some e) ws h q = go (eqb (F.tag e) tag) refl q
    where
      go : (t : Bool) → eqb (F.tag e) tag ≡ t → ◌≡◌ {A = Option (Hand E)} (pick t (some (record { taken = some e; waiting = ws })) none) (some h)
          → (d : E) × (some e ≡ some d) × (F.tag d ≡ tag) × (h ≡ record { taken = some e; waiting = ws })
      go true p q = (e, refl, eqb-true (F.tag e) tag p, cc)
      go false p q = let z : ◌≡◌ {A = ℕ} 0 1 = cc in absurd (omega arith)

  pub tagged-same : (tag : ℕ) (g h : Hand E) → tagged F tag g ≡ some h → h ≡ g
  tagged-same tag g h q = (tagged-says tag g.taken g.waiting h q).3

  pub tagged-known : (tag : ℕ) (e : E) (h : Hand E) → h.taken ≡ some e → F.tag e ≡ tag → tagged F tag h ≡ some h
  unfolding tagged
  tagged-known tag e h q p =
      subst (λ (o : Option E). tagged F tag (record { taken = o; waiting = h.waiting }) ≡ some (record { taken = o; waiting = h.waiting }))
      (sym q) (rw (eq-eqb (F.tag e) tag p))

  -- What a wish is granted by: nothing if none was wanted, else the element with that key and that tag.
  abbrev pub Grants : Option Wish → Option E → Type 0
  Grants none o = o ≡ none
  Grants (some w) o = (e : E) × (o ≡ some e) × (F.key e ≡ w.key) × (F.tag e ≡ w.tag)

  pub granted-says : (w : Option Wish) (ws : List E) (h : Hand E) → granted F w ws ≡ some h → Grants w h.taken
  unfolding granted
  granted-says none ws h q = let e : h ≡ record { taken = none; waiting = ws } = cc in ap (λ (g : Hand E). g.taken) e
  granted-says (some w) ws h q =
      let r = tagged-says w.tag (take_first F w.key ws).taken (take_first F w.key ws).waiting h q in
      (r.0, ap (λ (g : Hand E). g.taken) r.3 ∙ r.1, take-key F w.key ws r.0 r.1, r.2)

  -- What is taken of some, and what is left, are those.
  pub granted-perm : (w : Option Wish) (ws : List E) (h : Hand E) → granted F w ws ≡ some h → Perm ws (listed h.taken ++ h.waiting)
  unfolding granted
  granted-perm none ws h q = let e : h ≡ record { taken = none; waiting = ws } = cc in rw e (perm-refl ws)
  granted-perm (some w) ws h q =
      let r = tagged-says w.tag (take_first F w.key ws).taken (take_first F w.key ws).waiting h q in
      rw r.3 (take-perm F w.key ws)

  -- ---- the read half
  -- What the good slots of the path hold.
  abbrev pub found : ℕ → List ℕ → ℕ → List E
  found k tree t = good_ones (read_buckets F k tree (path k t))

  -- The read half found no damage, and has h in hand.
  pub record Undamaged (k : ℕ) (tree : List ℕ) (t : ℕ) (w : Option Wish) (held : List ℕ) (waiting : List E) (h : Hand E) : Type 0 where
    pub none-bad : All NotBad (read_buckets F k tree (path k t))
    pub none-twice : Distinct (keys_of F (found k tree t) ++ (keys_of F waiting ++ held))
    pub grants : granted F w (join F (found k tree t) waiting) ≡ some h

  module _ (k : ℕ) (tree : List ℕ) (t : ℕ) (w : Option Wish) (held : List ℕ) (waiting : List E) where
    pub read-half-known : All NotBad (read_buckets F k tree (path k t)) → Distinct (keys_of F (found k tree t) ++ (keys_of F waiting ++ held))
        → read_half F k tree t w held waiting ≡ granted F w (join F (found k tree t) waiting)
    unfolding read_half joined granted_from
    read-half-known good d =
        rw (
          all-good-known (read_buckets F k tree (path k t)) good,
          distinct-none-twice (keys_of F (found k tree t) ++ (keys_of F waiting ++ held)) d,
        )

    pub read-half-says : (h : Hand E) → read_half F k tree t w held waiting ≡ some h → Undamaged k tree t w held waiting h
    unfolding read_half joined granted_from
    read-half-says h q = go (all_good (read_buckets F k tree (path k t))) refl q
      where
        es : List E
        es = found k tree t

        twice : All NotBad (read_buckets F k tree (path k t)) → (b : Bool) → none_twice (keys_of F es ++ (keys_of F waiting ++ held)) ≡ b
            → granted_from F w (pick b (some (join F es waiting)) none) ≡ some h → Undamaged k tree t w held waiting h
        twice good true e q =
            record {
              none-bad = good;
              none-twice = none-twice-distinct (keys_of F es ++ (keys_of F waiting ++ held)) e;
              grants = q;
            }
        twice good false e q = let z : ◌≡◌ {A = ℕ} 0 1 = cc in absurd (omega arith)

        go : (o : Option (List E)) → all_good (read_buckets F k tree (path k t)) ≡ o → granted_from F w (joined F held waiting o) ≡ some h → Undamaged k tree t w held waiting h
        go none p q = let z : ◌≡◌ {A = ℕ} 0 1 = cc in absurd (omega arith)
        go (some ds) p q =
            let r = all-good-says (read_buckets F k tree (path k t)) ds p in
            twice r.0 (none_twice (keys_of F es ++ (keys_of F waiting ++ held))) refl
            (subst (λ (ds : List E). granted_from F w (joined F held waiting (some ds)) ≡ some h) r.1 q)

    module _ (h : Hand E) (read : read_half F k tree t w held waiting ≡ some h) where
      -- What was wanted is taken.
      pub read-grants : Grants w h.taken
      read-grants = granted-says w (join F (found k tree t) waiting) h (read-half-says h read).grants

      -- What is in hand is what the path held and what waited.
      pub hand-perm : Perm (found k tree t ++ waiting) (listed h.taken ++ h.waiting)
      hand-perm =
          trans (perm-sym (join-perm F (found k tree t) waiting))
          (granted-perm w (join F (found k tree t) waiting) h (read-half-says h read).grants)
