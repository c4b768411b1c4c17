-- Lists that are read off a view node by node: rotations keep them, and a part of the view can be taken out and put back.
use Rattle.std.specs.Prelude.{refl, Bool, List, [], ◌∷◌, ◌++◌}
use Rattle.list_spec.specs.Perm.{Perm, trans}
use Rattle.list_laws.specs.PermLaws.{perm-sym, perm-append, perm-append-left, perm-append-right}
use Rattle.list_laws.specs.Shuffle.{part, ◌&◌, shuffle}
use Rattle.method_spec.specs.Node.{Node}
use Rattle.avl_laws.specs.Search.{Entry}
use Rattle.avl_laws.specs.View.{View, join, tags, unfetched, unfetched-join, tags-join}
use Rattle.avl_laws.specs.Fetch.{Stock, stock-as}

module _ {T A : Type 0} where
  -- What m lists of a view is what w lists of its top, and what m lists of the two sides.
  pub record Additive (w : Entry T → List A) (m : View T → List A) : Type 0 where
    pub law : (s : Bool) (a : View T) (e : Entry T) (b : View T) → Perm (m (join s a e b)) (w e ++ (m a ++ m b))

  module _ {w : Entry T → List A} {m : View T → List A} (add : Additive w m) (s : Bool) where
    -- The near side, alone.
    pub measure-near : (a : View T) (e : Entry T) (b : View T) (rest : List A)
        → Perm (m (join s a e b) ++ rest) (m a ++ ((w e ++ m b) ++ rest))
    measure-near a e b rest =
        trans (perm-append-right rest (add.law s a e b))
        (shuffle (w e ∷ m a ∷ m b ∷ rest ∷ []) ((part 0 & (part 1 & part 2)) & part 3)
        (part 1 & ((part 0 & part 2) & part 3)) refl)

    -- The far side of the near side, alone.
    pub measure-inner : (a : View T) (c : Entry T) (b : View T) (e : Entry T) (z : View T) (rest : List A)
        → Perm (m (join s (join s a c b) e z) ++ rest) (m b ++ ((w c ++ m a) ++ ((w e ++ m z) ++ rest)))
    measure-inner a c b e z rest =
        trans (measure-near (join s a c b) e z rest)
        (trans (perm-append-right ((w e ++ m z) ++ rest) (add.law s a c b))
        (shuffle (w c ∷ m a ∷ m b ∷ ((w e ++ m z) ++ rest) ∷ []) ((part 0 & (part 1 & part 2)) & part 3)
        (part 2 & ((part 0 & part 1) & part 3)) refl))

    pub measure-single : (a : View T) (c : Entry T) (b : View T) (e : Entry T) (z : View T)
        → Perm (m (join s (join s a c b) e z)) (m (join s a c (join s b e z)))
    measure-single a c b e z =
        trans (add.law s (join s a c b) e z)
        (trans (perm-append-left (w e) (perm-append-right (m z) (add.law s a c b)))
        (trans (shuffle (w e ∷ w c ∷ m a ∷ m b ∷ m z ∷ []) (part 0 & ((part 1 & (part 2 & part 3)) & part 4))
        (part 1 & (part 2 & (part 0 & (part 3 & part 4)))) refl)
        (trans (perm-append-left (w c) (perm-append-left (m a) (perm-sym (add.law s b e z))))
        (perm-sym (add.law s a c (join s b e z))))))

    pub measure-double : (a : View T) (c : Entry T) (b : View T) (g : Entry T) (d : View T) (e : Entry T) (z : View T)
        → Perm (m (join s (join s a c (join s b g d)) e z)) (m (join s (join s a c b) g (join s d e z)))
    measure-double a c b g d e z =
        trans (add.law s (join s a c (join s b g d)) e z)
        (trans (perm-append-left (w e) (perm-append-right (m z)
        (trans (add.law s a c (join s b g d)) (perm-append-left (w c) (perm-append-left (m a) (add.law s b g d))))))
        (trans (shuffle (w e ∷ w c ∷ m a ∷ w g ∷ m b ∷ m d ∷ m z ∷ [])
        (part 0 & ((part 1 & (part 2 & (part 3 & (part 4 & part 5)))) & part 6))
        (part 3 & ((part 1 & (part 2 & part 4)) & (part 0 & (part 5 & part 6)))) refl)
        (trans (perm-append-left (w g) (perm-append (perm-sym (add.law s a c b)) (perm-sym (add.law s d e z))))
        (perm-sym (add.law s (join s a c b) g (join s d e z))))))

-- ---- the nodes not fetched and the tags

module _ {T : Type 0} where
  abbrev none_of : Entry T → List (Node T)
  none_of e = []

  abbrev tag_of : Entry T → List T
  tag_of e = e.tag ∷ []

  pub tags-additive : Additive tag_of tags
  tags-additive = record { law = tags-join }

  module _ (nil : T) where
    pub unfetched-additive : Additive none_of (unfetched nil)
    unfetched-additive = record { law = unfetched-join nil }

  module _ {nil tag : T} {rest : List (Node T)} {more : List T} {held ns : List (Node T)} (s : Bool) where
    pub stock-near : (a : View T) (e : Entry T) (b : View T) → Stock nil tag (join s a e b) rest more held ns
        → Stock nil tag a (unfetched nil b ++ rest) ((e.tag ∷ tags b) ++ more) held ns
    stock-near a e b =
        stock-as (measure-near (unfetched-additive nil) s a e b rest)
        (measure-near tags-additive s a e b more)

    pub stock-near-back : (a : View T) (e : Entry T) (b : View T)
        → Stock nil tag a (unfetched nil b ++ rest) ((e.tag ∷ tags b) ++ more) held ns
        → Stock nil tag (join s a e b) rest more held ns
    stock-near-back a e b =
        stock-as (perm-sym (measure-near (unfetched-additive nil) s a e b rest))
        (perm-sym (measure-near tags-additive s a e b more))

    pub stock-inner : (a : View T) (c : Entry T) (b : View T) (e : Entry T) (z : View T)
        → Stock nil tag (join s (join s a c b) e z) rest more held ns
        → Stock nil tag b (unfetched nil a ++ (unfetched nil z ++ rest))
        ((c.tag ∷ tags a) ++ ((e.tag ∷ tags z) ++ more)) held ns
    stock-inner a c b e z =
        stock-as (measure-inner (unfetched-additive nil) s a c b e z rest)
        (measure-inner tags-additive s a c b e z more)

    pub stock-inner-back : (a : View T) (c : Entry T) (b : View T) (e : Entry T) (z : View T)
        → Stock nil tag b (unfetched nil a ++ (unfetched nil z ++ rest))
        ((c.tag ∷ tags a) ++ ((e.tag ∷ tags z) ++ more)) held ns
        → Stock nil tag (join s (join s a c b) e z) rest more held ns
    stock-inner-back a c b e z =
        stock-as (perm-sym (measure-inner (unfetched-additive nil) s a c b e z rest))
        (perm-sym (measure-inner tags-additive s a c b e z more))

    pub stock-single : (a : View T) (c : Entry T) (b : View T) (e : Entry T) (z : View T)
        → Stock nil tag (join s (join s a c b) e z) rest more held ns
        → Stock nil tag (join s a c (join s b e z)) rest more held ns
    stock-single a c b e z =
        stock-as (perm-append-right rest (measure-single (unfetched-additive nil) s a c b e z))
        (perm-append-right more (measure-single tags-additive s a c b e z))

    pub stock-double : (a : View T) (c : Entry T) (b : View T) (g : Entry T) (d : View T) (e : Entry T) (z : View T)
        → Stock nil tag (join s (join s a c (join s b g d)) e z) rest more held ns
        → Stock nil tag (join s (join s a c b) g (join s d e z)) rest more held ns
    stock-double a c b g d e z =
        stock-as (perm-append-right rest (measure-double (unfetched-additive nil) s a c b g d e z))
        (perm-append-right more (measure-double tags-additive s a c b g d e z))
