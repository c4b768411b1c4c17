-- `host_results::put_result` meets its contract.
use Rattle.std.proofs.Common.{◌≡◌, ◌<◌, ◌∙◌, ℕ, refl, arith}
use Rattle.std.specs.Prelude.{Option, Some, None, is_some}
use Rattle.std.specs.Option.{unwrap_or}
use mir.Val.{bool_byte}
use Rattle.host_results.specs.Values.{told_value}
use Rattle.host_results.specs.ResultLaws.{result-stored}
use Rattle.host_results.proofs.put_result.Goals as goal

has-told : (v : Option ℕ) → bool_byte (is_some v) ≡ (told_value v).has
has-told None = refl
has-told (Some x) = refl

value-told : (v : Option ℕ) → unwrap_or v 0 ≡ (told_value v).value
value-told None = refl
value-told (Some x) = refl

has-low : (v : Option ℕ) → (told_value v).has < 256
has-low None = omega arith
has-low (Some x) = omega arith

pub returns : goal.returns
returns c =
    let a = c.args in
    c.put_word.ensures
    ∙ rw (c.from.ensures, c.is_some.ensures, c.unwrap_or.ensures, has-told a.v, value-told a.v)
    (result-stored a.res.now (told_value a.v) a.leaves a.peak c.requires (has-low a.v))
