-- What a passed test says of its parts, and what is true of a choice.
use Rattle.std.specs.Prelude.{◌≡◌, refl, Bool, true, false}
use Rattle.list_spec.specs.Choice.{pick}

-- A test that fails unless the first part passes.
pub pick-both : (b c : Bool) → pick b c false ≡ true → (b ≡ true) × (c ≡ true)
pick-both true c e = (refl, e)
pick-both false c e = (cc, cc)

-- A test that fails if the first part passes.
pub pick-neither : (b c : Bool) → pick b false c ≡ true → (b ≡ false) × (c ≡ true)
pick-neither true c e = (cc, cc)
pick-neither false c e = (refl, e)

-- What is true of both is true of the chosen one.
pub either : {A : Type 0} (P : A → Type 0) (s : Bool) {a b : A} → P a → P b → P (pick s a b)
either P true p q = p
either P false p q = q
