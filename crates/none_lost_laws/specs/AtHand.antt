-- The nodes that a step has at hand: each is within its bounds, and their keys and values are those of the nodes that it was given, but for
-- what it takes out and what it adds.
use Rattle.std.specs.Prelude.{◌≡◌, refl, Bool, true, false, List, [], ◌∷◌, ◌++◌, map, ℕ, ◌≤◌}
use Rattle.std.proofs.Common.{sym, ◌∙◌, ap, append_assoc}
use Rattle.std.proofs.lemmas.List.{map-append}
use Rattle.leaf_spec.specs.Entries.{pair_of}
use Rattle.list_spec.specs.Perm.{Perm, trans}
use Rattle.list_laws.specs.PermLaws.{perm-refl, perm-sym, perm-of-eq, perm-append-left, perm-front, perm-map}
use Rattle.list_spec.specs.Perm as perm
use Rattle.list_spec.specs.Distinct.{All}
use Rattle.list_laws.specs.DistinctLaws.{all_nil, all_cons, all_append, all_right, all-perm}
use Rattle.method_spec.specs.Node.{Link, Node, with_child}
use Rattle.method_spec.specs.Plain.{Pair}
use Rattle.none_lost_laws.specs.Fitting.{NodeFits, node-more}

abbrev pub pairs_of : {T : Type 0} → List (Node T) → List Pair
pairs_of ns = map pair_of ns

pub pair-with-child : {T : Type 0} (s : Bool) (n : Node T) (l : Link T) → pair_of (with_child s n l) ≡ pair_of n
pair-with-child true n l = refl
pair-with-child false n l = refl

pub pairs-three : {T : Type 0} (xs ys zs : List (Node T)) → pairs_of (xs ++ (ys ++ zs)) ≡ pairs_of xs ++ (pairs_of ys ++ pairs_of zs)
pairs-three xs ys zs = map-append pair_of xs (ys ++ zs) ∙ ap (λ (l : List Pair). pairs_of xs ++ l) (map-append pair_of ys zs)

-- Entries after others.
pub pairs-left : {T : Type 0} (xs ys zs : List (Node T)) → Perm (pairs_of ys) (pairs_of zs) → Perm (pairs_of (xs ++ ys)) (pairs_of (xs ++ zs))
pairs-left xs ys zs p = rw (map-append pair_of xs ys, map-append pair_of xs zs) (perm-append-left (pairs_of xs) p)

-- The nodes ns are at hand, of those held: their entries and `less` are those of the held ones and `more`.
pub record AtHand (k b : ℕ) (less more : List Pair) (ns held : List (Node ℕ)) : Type 0 where
  pub fit : All (NodeFits k b) ns
  pub whole : Perm (less ++ pairs_of ns) (more ++ pairs_of held)

pub at-hand-none : {k b : ℕ} → AtHand k b [] [] [] []
at-hand-none {k} {b} = record { fit = all_nil (NodeFits k b); whole = perm-refl [] }

module _ {k b : ℕ} {less more : List Pair} {ns held : List (Node ℕ)} where
  pub at-hand-more : {c : ℕ} → b ≤ c → AtHand k b less more ns held → AtHand k c less more ns held
  at-hand-more h a = record { fit = λ n m. node-more h (a.fit n m); whole = a.whole }

  -- Others with the same entries.
  pub at-hand-now : {c : ℕ} {ms : List (Node ℕ)} → Perm (pairs_of ns) (pairs_of ms) → All (NodeFits k c) ms
      → AtHand k b less more ns held → AtHand k c less more ms held
  at-hand-now p f a = record { fit = f; whole = trans (perm-append-left less (perm-sym p)) a.whole }

  -- The same in another order.
  pub at-hand-perm : {ms : List (Node ℕ)} → Perm ns ms → AtHand k b less more ns held → AtHand k b less more ms held
  at-hand-perm p a = at-hand-now (perm-map pair_of p) (all-perm {P = NodeFits k b} p a.fit) a

  -- A node that is given is held, and at hand.
  pub at-hand-given : {n : Node ℕ} → NodeFits k b n → AtHand k b less more ns held → AtHand k b less more (n ∷ ns) (n ∷ held)
  at-hand-given {n} f a =
      record {
        fit = all_cons {P = NodeFits k b} f a.fit;
        whole =
            trans (perm-front less (pair_of n) (pairs_of ns))
            (trans (perm.cons (pair_of n) a.whole) (perm-sym (perm-front more (pair_of n) (pairs_of held))));
      }

aside : (less : List Pair) (xs ns : List (Node ℕ)) → less ++ pairs_of (xs ++ ns) ≡ (less ++ pairs_of xs) ++ pairs_of ns
aside less xs ns = ap (λ (l : List Pair). less ++ l) (map-append pair_of xs ns) ∙ sym (append_assoc less (pairs_of xs) (pairs_of ns))

module _ {k b : ℕ} {less more : List Pair} (xs : List (Node ℕ)) {ns held : List (Node ℕ)} where
  -- Some of them are set aside, and come back.
  pub at-hand-aside : AtHand k b less more (xs ++ ns) held → AtHand k b (less ++ pairs_of xs) more ns held
  at-hand-aside a =
      record { fit = all_right {P = NodeFits k b} xs a.fit; whole = trans (perm-of-eq (sym (aside less xs ns))) a.whole }

  pub at-hand-back : All (NodeFits k b) xs → AtHand k b (less ++ pairs_of xs) more ns held → AtHand k b less more (xs ++ ns) held
  at-hand-back f a =
      record { fit = all_append {P = NodeFits k b} xs f a.fit; whole = trans (perm-of-eq (aside less xs ns)) a.whole }

-- The first of them are made anew, with their entries.
pub at-hand-anew : {k b c : ℕ} {less more : List Pair} {held : List (Node ℕ)} (ns ms xs : List (Node ℕ))
    → pairs_of ns ≡ pairs_of ms → b ≤ c → All (NodeFits k c) ms → AtHand k b less more (ns ++ xs) held → AtHand k c less more (ms ++ xs) held
at-hand-anew {k} {b} {c} ns ms xs same h f a =
    at-hand-now
    (perm-of-eq (map-append pair_of ns xs ∙ ap (λ (l : List Pair). l ++ pairs_of xs) same ∙ sym (map-append pair_of ms xs)))
    (all_append {P = NodeFits k c} ms f (λ n m. node-more h (all_right {P = NodeFits k b} ns a.fit n m))) a

-- A node more.
pub at-hand-add : {k b : ℕ} {less more : List Pair} {ns held : List (Node ℕ)} {n : Node ℕ} → NodeFits k b n → AtHand k b less more ns held
    → AtHand k b less (pair_of n ∷ more) (n ∷ ns) held
at-hand-add {k} {b} {less} {more} {ns} {held} {n} f a =
    record {
      fit = all_cons {P = NodeFits k b} f a.fit;
      whole = trans (perm-front less (pair_of n) (pairs_of ns)) (perm.cons (pair_of n) a.whole);
    }
