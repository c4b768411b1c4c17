-- The 12 result bytes of a call, and the number that it returns.
use Rattle.std.specs.Prelude.{ℕ, List, [], ◌∷◌}
use Rattle.std.proofs.Math.Option.{Option, none, some}
use Rattle.slot_spec.specs.Layout.{pack}
use Rattle.call_spec.specs.Reply.{Reply}
use Rattle.call_spec.specs.Store.{reply_meaning}
use Rattle.host_spec.specs.declared.Value.{Value}

-- "return the refusal number, or 0"
abbrev pub reply_number : Reply → ℕ
reply_number r = (reply_meaning r).number

abbrev pub no_value : Value
no_value = record { has = 0; value = 0 }

abbrev pub aValue : ℕ → Value
aValue v = record { has = 1; value = v }

abbrev pub result_value : Option ℕ → Value
result_value none = no_value
result_value (some v) = aValue v

abbrev pub reply_value : Reply → Value
reply_value r = result_value (reply_meaning r).value

-- "1 if its answer has a value, leaves revealed, largest count, a zero byte, then the value (8), each 0 where there is none"
abbrev pub result_widths : List ℕ
result_widths = 1 ∷ 1 ∷ 1 ∷ 1 ∷ 8 ∷ []

abbrev pub result_length : ℕ
result_length = 12

abbrev pub result_numbers : (v : Value) → (leaves peak : ℕ) → List ℕ
result_numbers v leaves peak = v.has ∷ leaves ∷ peak ∷ 0 ∷ v.value ∷ []

unfoldable pub result_bytes : Value → (leaves peak : ℕ) → List ℕ
result_bytes v leaves peak = pack result_widths (result_numbers v leaves peak)
