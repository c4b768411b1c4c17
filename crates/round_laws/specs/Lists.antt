-- The steps of a round on lists of elements lose none: join, take out, choose. What each takes and leaves is, in another order, what
-- there was; the element taken has the key that was asked for; those chosen are few enough and pass the bucket.
use Rattle.std.proofs.Math.Path.{◌≡◌, refl, sym, ap}
use Rattle.std.proofs.Common.{◌∙◌, inl, inr, arith, eqb-true, eq-eqb, ne_eqb}
use Rattle.std.specs.Prelude.{Bool, ◌⊎◌, ℕ, zero, suc, ◌≤◌, ltb, length}
use Rattle.std.proofs.Math.Bool.{true, false}
use mathlib.Core.List.Memᴰ
use mathlib.Core.List.{List, [], ◌∷◌, ◌++◌, Memᴰ}
use Rattle.std.proofs.Math.Option.{Option, none, some}
use Rattle.std.proofs.Math.Dec.{eqb}
use Rattle.list_spec.specs.Choice.{pick}
use Rattle.list_spec.specs.Perm.{Perm, nil, cons, swap, trans}
use Rattle.list_laws.specs.PermLaws.{perm-refl, perm-sym, perm-front, perm-append-left}
use Rattle.list_spec.specs.Distinct.{Distinct, All}
use Rattle.list_laws.specs.DistinctLaws.{all_nil, all_cons}
use Rattle.slot_spec.specs.Tree.{passes}
use Rattle.round_spec.specs.Format.{Format}
use Rattle.round_spec.specs.Round.{Hand, Chosen, keys_of, insert, join, take_first, taking, leaving, choose}
use Rattle.round_spec.specs.Whole.{listed}

module _ {E : Type 0} (F : Format E) where
  -- ---- join
  pub insert-perm : (e : E) (ws : List E) → Perm (insert F e ws) (e ∷ ws)
  unfolding insert
  insert-perm e [] = perm-refl (e ∷ [])
  insert-perm e (w ∷ ws) = go (ltb (F.key e) (F.key w)) (insert-perm e ws)
    where
      go : (t : Bool) → Perm (insert F e ws) (e ∷ ws) → Perm (pick t (e ∷ w ∷ ws) (w ∷ insert F e ws)) (e ∷ w ∷ ws)
      go true p = perm-refl (e ∷ w ∷ ws)
      go false p = trans (cons w p) (swap w e ws)

  pub join-perm : (es ws : List E) → Perm (join F es ws) (es ++ ws)
  unfolding join
  join-perm [] ws = perm-refl ws
  join-perm (e ∷ es) ws =
      trans (join-perm es (insert F e ws)) (trans (perm-append-left es (insert-perm e ws)) (perm-front es e ws))

  -- ---- take out
  pub take-perm : (key : ℕ) (ws : List E) → Perm ws (listed (take_first F key ws).taken ++ (take_first F key ws).waiting)
  unfolding take_first
  take-perm key [] = nil
  take-perm key (w ∷ ws) = go (eqb key (F.key w)) (take_first F key ws).taken (take-perm key ws)
    where
      go : (t : Bool) (o : Option E) → Perm ws (listed o ++ (take_first F key ws).waiting)
          → Perm (w ∷ ws)
          (let h : Hand E = pick t (record { taken = some w; waiting = ws }) (record { taken = o; waiting = w ∷ (take_first F key ws).waiting }) in
          listed h.taken ++ h.waiting)
      go true o p = perm-refl (w ∷ ws)
      go false none p = cons w p
      go false (some e) p = trans (cons w p) (swap w e (take_first F key ws).waiting)

  pub take-key : (key : ℕ) (ws : List E) (e : E) → (take_first F key ws).taken ≡ some e → F.key e ≡ key
  unfolding take_first
  take-key key [] e q = let z : ◌≡◌ {A = ℕ} 0 1 = cc in absurd (omega arith)
  take-key key (w ∷ ws) e q = go (take-key key ws e) (eqb key (F.key w)) refl q
    where
      go : ((take_first F key ws).taken ≡ some e → F.key e ≡ key) → (t : Bool) → eqb key (F.key w) ≡ t
          → (let h : Hand E = pick t (record { taken = some w; waiting = ws }) (record { taken = (take_first F key ws).taken; waiting = w ∷ (take_first F key ws).waiting }) in h.taken ≡ some e)
          → F.key e ≡ key
      go more true p q = let s : w ≡ e = cc in ap F.key (sym s) ∙ sym (eqb-true key (F.key w) p)
      go more false p q = more q

  -- Where no key is twice, the element with the key is found.
  pub take-finds : (e : E) (ws : List E) → Distinct (keys_of F ws) → Memᴰ e ws → (take_first F (F.key e) ws).taken ≡ some e
  unfolding take_first
  take-finds e [] d m = absurd (Memᴰ.not-nil m)
  take-finds e (w ∷ ws) d m = go (take-finds e ws d.1) (Memᴰ.cases_cons m)
    where
      go : (Memᴰ e ws → (take_first F (F.key e) ws).taken ≡ some e) → (e ≡ w) ⊎ Memᴰ e ws → (take_first F (F.key e) (w ∷ ws)).taken ≡ some e
      go more (inl q) = rw (eq-eqb (F.key e) (F.key w) (ap F.key q)) (ap some (sym q))
      go more (inr n) = rw (ne_eqb (F.key e) (F.key w) (λ q. d.0 (Memᴰ.cast (sym q) (Memᴰ.map F.key n)))) (more n)

  -- ---- choose
  module _ (k b : ℕ) where
    abbrev pub Passing : E → Type 0
    Passing e = passes k (F.tag e) b ≡ true

    pub choose-none : (n : ℕ) → choose F k b n [] ≡ record { ins = []; left = [] }
    unfolding choose
    choose-none n = refl

    pub choose-full : (ws : List E) → choose F k b zero ws ≡ record { ins = []; left = ws }
    unfolding choose
    choose-full [] = refl
    choose-full (e ∷ es) = refl

    pub choose-takes : (n : ℕ) (e : E) (es : List E) → passes k (F.tag e) b ≡ true → choose F k b (suc n) (e ∷ es) ≡ taking F e (choose F k b n es)
    unfolding choose
    choose-takes n e es q = rw q

    pub choose-leaves : (n : ℕ) (e : E) (es : List E) → passes k (F.tag e) b ≡ false → choose F k b (suc n) (e ∷ es) ≡ leaving F e (choose F k b (suc n) es)
    unfolding choose
    choose-leaves n e es q = rw q

    -- A statement of what is chosen holds if each step keeps it.
    pub choose-keeps : (Q : ℕ → List E → Chosen E → Type 0)
        → ((n : ℕ) (ws : List E) → Q n ws (record { ins = []; left = ws }))
        → ((n : ℕ) (e : E) (es : List E) (c : Chosen E) → Passing e → Q n es c → Q (suc n) (e ∷ es) (taking F e c))
        → ((n : ℕ) (e : E) (es : List E) (c : Chosen E) → Q (suc n) es c → Q (suc n) (e ∷ es) (leaving F e c))
        → (n : ℕ) (ws : List E) → Q n ws (choose F k b n ws)
    choose-keeps Q all_left takes leaves n [] = rw choose-none (all_left n [])
    choose-keeps Q all_left takes leaves zero (e ∷ es) = rw choose-full (all_left zero (e ∷ es))
    choose-keeps Q all_left takes leaves (suc n) (e ∷ es) =
        go (choose-keeps Q all_left takes leaves n es) (choose-keeps Q all_left takes leaves (suc n) es) (passes k (F.tag e) b) refl
      where
        go : Q n es (choose F k b n es) → Q (suc n) es (choose F k b (suc n) es)
            → (t : Bool) → passes k (F.tag e) b ≡ t → Q (suc n) (e ∷ es) (choose F k b (suc n) (e ∷ es))
        go taken left true q = rw (choose-takes n e es q) (takes n e es (choose F k b n es) q taken)
        go taken left false q = rw (choose-leaves n e es q) (leaves n e es (choose F k b (suc n) es) left)

    pub choose-perm : (n : ℕ) (ws : List E) → Perm ws ((choose F k b n ws).ins ++ (choose F k b n ws).left)
    choose-perm =
        choose-keeps (λ n ws c. Perm ws (c.ins ++ c.left)) (λ n ws. perm-refl ws) (λ n e es c q p. cons e p)
        (λ n e es c p. trans (cons e p) (perm-sym (perm-front c.ins e c.left)))

    pub choose-few : (n : ℕ) (ws : List E) → length (choose F k b n ws).ins ≤ n
    choose-few =
        choose-keeps (λ n ws c. length c.ins ≤ n) (λ n ws. omega arith) (λ n e es c q l. omega arith) (λ n e es c l. l)

    pub choose-passes : (n : ℕ) (ws : List E) → All Passing (choose F k b n ws).ins
    choose-passes =
        choose-keeps (λ n ws c. All Passing c.ins) (λ n ws. all_nil Passing) (λ n e es c q h. all_cons {P = Passing} q h)
        (λ n e es c h. h)
