-- The replies of a list from a good opening: none is 2, 3 or 8.
use Rattle.std.specs.Prelude.{ℕ, zero, suc, ◌≡◌, refl, ◌⊎◌, List, [], ◌∷◌, map, get_or}
use Rattle.std.proofs.Common.{sym, subst, inl, inr, arith}
use mathlib.Core.List.Memᴰ
use Rattle.list_spec.specs.Distinct.{All}
use Rattle.list_laws.specs.DistinctLaws.{all_nil, all_cons}
use Rattle.bucket_call_spec.specs.Fetch.{CallLeft}
use Rattle.call_spec.specs.Reply.{Refused}
use Rattle.call_spec.specs.Store.{Ended, refusing, ending, replied}
use Rattle.demand_spec.specs.History.{Brought, StateAndTree, history}
use Rattle.demand_laws.specs.Marks.{Closing, Ends, closes, answers}
use Rattle.demand_laws.specs.Checks.{IllBrought}
use Rattle.demand_laws.specs.Refusals.{same_number, counted-number}
use Rattle.demand_laws.specs.HistorySteps.{early-history, closed-call}

abbrev pub Neither : ℕ → Type 0
Neither n = (n ≡ 2 → ⊥) × ((n ≡ 3 → ⊥) × (n ≡ 8 → ⊥))

abbrev pub Sound : Ended → Type 0
Sound e = (n : ℕ) → e.reply ≡ Refused n → Neither n

-- ---- one call

-- Refused with 1, or for what the call brings.
pub early-sound : (n : ℕ) → (n ≡ 1) ⊎ IllBrought n → (s : StateAndTree) (b : Brought) → Sound (refusing n s.state s.tree b.trace)
early-sound n (inl h) s b m r = let e = same_number r in omega arith
early-sound n (inr (inl h)) s b m r = let e = same_number r in omega arith
early-sound n (inr (inr (inl h))) s b m r = let e = same_number r in omega arith
early-sound n (inr (inr (inr h))) s b m r = let e = same_number r in omega arith

-- The rounds left the store open, or met overflow.
abbrev pub Undamaged : CallLeft → Type 0
Undamaged l = (l.mark ≡ 0) ⊎ (l.mark ≡ 9)

pub late-sound : (s : StateAndTree) (b : Brought) (l : CallLeft) (peak : ℕ) → Ends l → Undamaged l → Sound (ending s.state b.trace l peak)
late-sound s b l peak ends mark n r = go mark (counted-number l ends n r)
  where
    go : Undamaged l → (Closing n × (l.mark ≡ n)) ⊎ (n ≡ 10) → Neither n
    go (inl m) (inl x) = omega arith
    go (inl m) (inr x) = omega arith
    go (inr m) (inl x) = omega arith
    go (inr m) (inr x) = omega arith

-- The answer alone says its reply, with 9 where there is none.
pub reply-of-answer : (l : CallLeft) → Ends l → Undamaged l → replied l.mark l.answer ≡ replied 9 l.answer
unfolding replied
reply-of-answer l (answers a x e) m = rw e
reply-of-answer l (closes c e) (inr m) = rw m
reply-of-answer l (closes (inl x) e) (inl m) = let z : ⊥ = omega arith in absurd z
reply-of-answer l (closes (inr x) e) (inl m) = let z : ⊥ = omega arith in absurd z

-- ---- a list

pub closed-sound : (s : StateAndTree) → (s.state.mark ≡ 0 → ⊥) → (bs : List Brought) → All Sound (history s bs)
unfolding history
closed-sound s shut [] = all_nil Sound
closed-sound s shut (b ∷ bs) =
    subst (All Sound) (sym (early-history s b bs 1 refl (closed-call s shut b)))
    (all_cons {P = Sound} (early-sound 1 (inl refl) s b) (closed-sound s shut bs))

pub sound-at : (es : List Ended) → All Sound es → (i n : ℕ) → get_or (map (λ (e : Ended). e.reply) es) i (Refused 0) ≡ Refused n → Neither n
sound-at [] h i n r = let e : 0 ≡ n = same_number r in omega arith
sound-at (e ∷ es) h zero n r = h e (Memᴰ.head refl) n r
sound-at (e ∷ es) h (suc i) n r = sound-at es (λ x m. h x (Memᴰ.tail m)) i n r
