-- The fields that a kind uses, and those of a ticket.
use Rattle.std.specs.Prelude.{◌≡◌, refl, Bool, List, ◌⊎◌, ℕ, suc, ◌≤◌, ltb, length, get_or}
use Rattle.std.proofs.Common.{sym, ◌∙◌, ap, inl, inr, arith, ltb-true, ltb-false}
use Rattle.std.proofs.Math.Bool.{true, false}
use Rattle.std.proofs.Math.ListN.{get_or-eq_default}
use Rattle.state_spec.specs.declared.Uses.{Uses}
use Rattle.state_spec.specs.Ticket.{kind_in, key_in, value_in, both, uses_table, fields_used, stray, stray_fields}
use Rattle.tickets.specs.AskedLaws.{first_byte}

-- ---- kinds
less : (k n : ℕ) → (k ≡ suc n → ⊥) → k ≤ suc n → k ≤ n
less k n other h = omega arith

-- 0 and what is past the table.
pub uses-rest : (k : ℕ) → ((k ≡ 1) ⊎ (k ≡ 3) → ⊥) → (k ≡ 2 → ⊥) → ((k ≡ 4) ⊎ ((k ≡ 6) ⊎ (k ≡ 8)) → ⊥)
    → ((k ≡ 5) ⊎ ((k ≡ 7) ⊎ (k ≡ 9)) → ⊥) → both ≡ fields_used k
unfolding fields_used
uses-rest k no_key no-put no_value none = go (ltb 9 k) refl
  where
    least : k ≤ 9 → k ≤ 0
    least h =
        less k 0 (λ e. no_key (inl e))
        (less k 1 no-put
        (less k 2 (λ e. no_key (inr e))
        (less k 3 (λ e. no_value (inl e))
        (less k 4 (λ e. none (inl e))
        (less k 5 (λ e. no_value (inr (inl e)))
        (less k 6 (λ e. none (inr (inl e))) (less k 7 (λ e. no_value (inr (inr e))) (less k 8 (λ e. none (inr (inr e))) h))))))))

    go : (a : Bool) → ltb 9 k ≡ a → both ≡ get_or uses_table k both
    go true e = sym (get_or-eq_default uses_table both {n = k} (ltb-true 9 k e))
    go false e = let z : k ≡ 0 = omega (arith, least (ltb-false 9 k e)) in rw z

-- ---- a ticket: its key, and where that is in order its value
module _ (t : List ℕ) (used : Uses) (known : used ≡ fields_used (get_or t 0 0)) (whole : length t ≡ 13) where
  used-kind : used ≡ fields_used (kind_in t)
  used-kind = known ∙ ap fields_used (first_byte t (omega arith))

  pub key-tells : (k : Bool) → k ≡ stray used.key (key_in t) → k ≡ true → k ≡ stray_fields t
  unfolding stray_fields
  key-tells k e h =
      let f : stray (fields_used (kind_in t)).key (key_in t) ≡ true = rw (← used-kind, ← e) h in
      rw f h

  pub value_tells : (k v : Bool) → k ≡ stray used.key (key_in t) → k ≡ false → v ≡ stray used.value (value_in t) → v ≡ stray_fields t
  unfolding stray_fields
  value_tells k v e h g =
      let f : stray (fields_used (kind_in t)).key (key_in t) ≡ false = rw (← used-kind, ← e) h in
      rw (f, ← used-kind) g
