-- `held_keys::is_held` meets its contract: the slice's own search asks each key the other way round.
use Rattle.std.proofs.Common.{◌≡◌, refl, sym, ◌∙◌, ap, ap₂, ℕ, Bool, ◌||◌, eqb, List, [], ◌∷◌}
use Rattle.std.proofs.Math.Decide.{ℕ_discrete}
use Rattle.std.proofs.Common.{eq-eqb, ne_eqb}
use Rattle.std.specs.List.{list_any}
use Rattle.slot_spec.specs.Tree.{among}
use Rattle.held_keys.proofs.is_held.Goals as goal

eqb-turned : (a b : ℕ) → eqb a b ≡ eqb b a
eqb-turned a b = elim (ℕ_discrete a b) [
  | yes e ↦ eq-eqb a b e ∙ sym (eq-eqb b a (sym e))
  | no d ↦ ne_eqb a b d ∙ sym (ne_eqb b a (λ e. d (sym e)))
]

any-among : (key : ℕ) (ks : List ℕ) → list_any (λ k. eqb k key) ks ≡ among key ks
unfolding among
any-among key [] = refl
any-among key (k ∷ ks) = ap₂ (λ (a b : Bool). a || b) (eqb-turned k key) (any-among key ks)

pub returns : goal.returns
returns c = c.contains.ensures.value ∙ any-among c.args.key c.args.held.now
