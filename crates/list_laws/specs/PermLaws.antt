-- Laws of permutations: an equivalence, kept by append and map, with the same members, and with a head that cancels.
use Rattle.std.specs.Prelude.{◌≡◌, refl, ◌⊎◌, length, ℕ, suc}
use Rattle.std.proofs.Common.{sym, ◌∙◌, ap, ap₂, subst, inl, inr, ⊎_elim, arith}
use mathlib.Core.List.Memᴰ
use mathlib.Core.List.{List, [], ◌∷◌, ◌++◌, map, append-nil, append_assoc, Memᴰ}
use Rattle.list_spec.specs.Perm.{Perm, nil, cons, swap, trans}

module _ {A : Type 0} where
  -- ---- an equivalence

  pub perm-refl : (xs : List A) → Perm xs xs
  perm-refl [] = nil
  perm-refl (x ∷ xs) = cons x (perm-refl xs)

  pub perm-of-eq : {xs ys : List A} → xs ≡ ys → Perm xs ys
  perm-of-eq {xs} e = subst (λ (zs : List A). Perm xs zs) e (perm-refl xs)

  pub perm-sym : {xs ys : List A} → Perm xs ys → Perm ys xs
  perm-sym nil = nil
  perm-sym (cons a p) = cons a (perm-sym p)
  perm-sym (swap a b xs) = swap b a xs
  perm-sym (trans p q) = trans (perm-sym q) (perm-sym p)

  -- ---- append

  pub perm-append-right : {xs ys : List A} (us : List A) → Perm xs ys → Perm (xs ++ us) (ys ++ us)
  perm-append-right us nil = perm-refl us
  perm-append-right us (cons a p) = cons a (perm-append-right us p)
  perm-append-right us (swap a b xs) = swap a b (xs ++ us)
  perm-append-right us (trans p q) = trans (perm-append-right us p) (perm-append-right us q)

  pub perm-append-left : (us : List A) {xs ys : List A} → Perm xs ys → Perm (us ++ xs) (us ++ ys)
  perm-append-left [] p = p
  perm-append-left (u ∷ us) p = cons u (perm-append-left us p)

  pub perm-append : {xs ys us vs : List A} → Perm xs ys → Perm us vs → Perm (xs ++ us) (ys ++ vs)
  perm-append {ys = ys} {us = us} p q = trans (perm-append-right us p) (perm-append-left ys q)

  -- An element in the middle comes to the front.
  pub perm-front : (xs : List A) (a : A) (ys : List A) → Perm (xs ++ (a ∷ ys)) (a ∷ (xs ++ ys))
  perm-front [] a ys = perm-refl (a ∷ ys)
  perm-front (x ∷ xs) a ys = trans (cons x (perm-front xs a ys)) (swap x a (xs ++ ys))

  pub perm_append_comm : (xs ys : List A) → Perm (xs ++ ys) (ys ++ xs)
  perm_append_comm [] ys = perm-of-eq (sym (append-nil ys))
  perm_append_comm (x ∷ xs) ys = trans (cons x (perm_append_comm xs ys)) (perm-sym (perm-front ys x xs))

  pub perm-append-assoc : (xs ys zs : List A) → Perm ((xs ++ ys) ++ zs) (xs ++ (ys ++ zs))
  perm-append-assoc xs ys zs = perm-of-eq (append_assoc xs ys zs)

  -- The first two of three parts change places.
  pub perm-append-swap : (xs ys zs : List A) → Perm (xs ++ (ys ++ zs)) (ys ++ (xs ++ zs))
  perm-append-swap xs ys zs =
      trans (perm-sym (perm-append-assoc xs ys zs))
      (trans (perm-append-right zs (perm_append_comm xs ys)) (perm-append-assoc ys xs zs))

  -- ---- length and members

  pub perm-length : {xs ys : List A} → Perm xs ys → length xs ≡ length ys
  perm-length nil = refl
  perm-length (cons a p) = ap suc (perm-length p)
  perm-length (swap a b xs) = refl
  perm-length (trans p q) = perm-length p ∙ perm-length q

  pub perm-member : {a : A} {xs ys : List A} → Perm xs ys → Memᴰ a xs → Memᴰ a ys
  perm-member nil m = m
  perm-member {a} (cons b {ys = ys} p) m =
      ⊎_elim {C = Memᴰ a (b ∷ ys)} (λ e. Memᴰ.head e) (λ t. Memᴰ.tail (perm-member p t))
      (Memᴰ.cases_cons m)
  perm-member {a} (swap b c zs) m = outer (Memᴰ.cases_cons m)
    where
      inner : (a ≡ c) ⊎ Memᴰ a zs → Memᴰ a (c ∷ b ∷ zs)
      inner (inl e) = Memᴰ.head e
      inner (inr t) = Memᴰ.tail (Memᴰ.tail t)

      outer : (a ≡ b) ⊎ Memᴰ a (c ∷ zs) → Memᴰ a (c ∷ b ∷ zs)
      outer (inl e) = Memᴰ.tail (Memᴰ.head e)
      outer (inr t) = inner (Memᴰ.cases_cons t)
  perm-member (trans p q) m = perm-member q (perm-member p m)

  -- A member comes to the front.
  pub perm-remove : {a : A} {xs : List A} → Memᴰ a xs → (zs : List A) × Perm xs (a ∷ zs)
  perm-remove (Memᴰ.head {xs = xs} e) = (xs, perm-of-eq (ap (λ x. x ∷ xs) (sym e)))
  perm-remove {a} (Memᴰ.tail {x = x} m) =
      let r = perm-remove m in (x ∷ r.0, trans (cons x r.1) (swap x a r.0))

  -- ---- few elements

  pub perm-nil : {xs : List A} → Perm xs [] → xs ≡ []
  perm-nil {xs} p = go xs (perm-length p)
    where
      go : (ys : List A) → length ys ≡ 0 → ys ≡ []
      go [] e = refl
      go (y ∷ ys) e = let z : ⊥ = omega arith in absurd z

  pub perm-singleton : {a : A} {xs : List A} → Perm xs (a ∷ []) → xs ≡ a ∷ []
  perm-singleton {a} {xs} p = go xs (perm-length p) (perm-member (perm-sym p) (Memᴰ.head refl))
    where
      go : (ys : List A) → length ys ≡ 1 → Memᴰ a ys → ys ≡ a ∷ []
      go [] e m = absurd (Memᴰ.not-nil m)
      go (y ∷ []) e m = ap (λ x. x ∷ []) (sym (Memᴰ.eq_of_singleton m))
      go (y ∷ z ∷ ys) e m = let z : ⊥ = omega arith in absurd z

  -- ---- a head cancels

  -- The second list is the first with an a put in somewhere.
  data Inserted (a : A) : List A → List A → Type 0 where
    here : {x : A} {xs : List A} → a ≡ x → Inserted a xs (x ∷ xs)
    later : {x : A} {zs xs : List A} → Inserted a zs xs → Inserted a (x ∷ zs) (x ∷ xs)

  inserted-perm : {a : A} {zs xs : List A} → Inserted a zs xs → Perm (a ∷ zs) xs
  inserted-perm {a} (here {xs = xs} e) = perm-of-eq (ap (λ x. x ∷ xs) e)
  inserted-perm {a} (later {x = x} {zs = zs} i) = trans (swap a x zs) (cons x (inserted-perm i))

  -- Taking the a out of permutations gives permutations.
  inserted-along : {a : A} {zs xs ys : List A} → Perm xs ys → Inserted a zs xs → (ws : List A) × Inserted a ws ys × Perm zs ws
  inserted-along {a = a} {zs = zs} nil i = elim i [ ]
  inserted-along (cons b {ys = ys} p) (here e) = (ys, here e, p)
  inserted-along {a = a} (cons b {xs = xs} {ys = ys} p) (later {x = b'} {zs = zs} i) =
      let r = inserted-along {zs = zs} p i in (b ∷ r.0, later r.1, cons b r.2)
  inserted-along (swap b c xs) (here e) = (c ∷ xs, later (here e), perm-refl (c ∷ xs))
  inserted-along (swap b c xs) (later (here e)) = (b ∷ xs, here e, perm-refl (b ∷ xs))
  inserted-along (swap b c xs) (later (later {zs = zs} i)) = (c ∷ b ∷ zs, later (later i), swap b c zs)
  inserted-along {a = a} {zs = zs} (trans p q) i =
      let r = inserted-along {zs = zs} p i in
      let s = inserted-along {zs = r.0} q r.1 in
      (s.0, s.1, trans r.2 s.2)

  inserted-once : {a : A} {zs ws xs : List A} → Inserted a zs xs → Inserted a ws xs → Perm zs ws
  inserted-once (here {xs = xs} e) (here f) = perm-refl xs
  inserted-once (here e) (later {zs = ws} i) =
      trans (perm-sym (inserted-perm i)) (perm-of-eq (ap (λ x. x ∷ ws) e))
  inserted-once (later {zs = zs} i) (here e) =
      trans (perm-of-eq (ap (λ x. x ∷ zs) (sym e))) (inserted-perm i)
  inserted-once (later {x = x} i) (later j) = cons x (inserted-once i j)

  pub perm-cancel : {a : A} {xs ys : List A} → Perm (a ∷ xs) (a ∷ ys) → Perm xs ys
  perm-cancel p =
      let r = inserted-along p (here refl) in
      trans r.2 (inserted-once r.1 (here refl))

-- ---- map

module _ {A B : Type 0} where
  pub perm-map : (f : A → B) {xs ys : List A} → Perm xs ys → Perm (map f xs) (map f ys)
  perm-map f nil = nil
  perm-map f (cons a p) = cons (f a) (perm-map f p)
  perm-map f (swap a b xs) = swap (f a) (f b) (map f xs)
  perm-map f (trans p q) = trans (perm-map f p) (perm-map f q)

  -- A permutation of what the function gives is one of the list.
  pub perm-of-map : (f : A → B) {zs ks : List B} → Perm zs ks → (xs : List A) → map f xs ≡ zs → (ys : List A) × (Perm xs ys × (map f ys ≡ ks))
  perm-of-map f nil [] e = ([], (nil, refl))
  perm-of-map f nil (x ∷ xs) e = let z : ◌≡◌ {A = ℕ} 0 1 = cc in absurd (omega arith)
  perm-of-map f (cons a p) [] e = let z : ◌≡◌ {A = ℕ} 0 1 = cc in absurd (omega arith)
  perm-of-map f (cons a {ys = bs} p) (x ∷ xs) e =
      let first : f x ≡ a = cc in
      let r = perm-of-map f p xs (cc) in
      (x ∷ r.0, (cons x r.1.0, ap₂ (λ (b : B) (cs : List B). b ∷ cs) first r.1.1))
  perm-of-map f (swap a b zs) [] e = let z : ◌≡◌ {A = ℕ} 0 1 = cc in absurd (omega arith)
  perm-of-map f (swap a b zs) (x ∷ []) e = let z : ◌≡◌ {A = ℕ} 0 1 = cc in absurd (omega arith)
  perm-of-map f (swap a b zs) (x ∷ y ∷ xs) e =
      let first : f x ≡ a = cc in
      let second : f y ≡ b = cc in
      let others : map f xs ≡ zs = cc in
      (y ∷ x ∷ xs, (swap x y xs, rw (first, second, others)))
  perm-of-map f (trans p q) xs e =
      let r = perm-of-map f p xs e in
      let t = perm-of-map f q r.0 r.1.1 in
      (t.0, (trans r.1.0 t.1.0, t.1.1))
