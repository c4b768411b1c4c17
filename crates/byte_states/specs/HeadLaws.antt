-- The head of a byte state, test by test.
use Rattle.std.specs.Prelude.{◌≡◌, Bool, not, ◌&&◌, ℕ, ◌+◌, ◌≤◌, ◌<◌}
use Rattle.std.proofs.Math.Path.{refl}
use Rattle.std.proofs.Math.Bool.{true, false}
use Rattle.std.proofs.Math.Dec.{eqb}
use borrow.Author.Tests.{eq-eqb, ne_eqb, le-leb, lt-leb, eqb-true, eqb-false}
use Rattle.list_spec.specs.Choice.{pick}
use Rattle.slot_spec.specs.declared.Link.{Link}
use Rattle.state_spec.specs.Fit.{head_fits}
use Rattle.state_spec.specs.Ticket.{last_key}
use Rattle.fitness.specs.Refusal.{head_refusal}
use Rattle.lent_bytes_spec.specs.declared.StateHead.{StateHead}
use Rattle.lent_bytes_spec.specs.StateBytes.{next_key, root_in, ahead_in, key_fits}
use Rattle.byte_states.specs.Refusal.{bytes_refusal}

module _ (h : StateHead) where
  -- ---- the queue's keys
  pub no-queue : (h.structure ≡ 4 → ⊥) → next_key h ≡ 0
  no-queue n = rw (ne_eqb h.structure 4 n)

  pub of-queue : h.structure ≡ 4 → next_key h ≡ h.key + h.entries
  of-queue q = rw (eq-eqb h.structure 4 q)

  abbrev keyed : ℕ → Link
  keyed key = record { height = h.height; key = key; tag = h.tag }

  pub root-other : (h.structure ≡ 4 → ⊥) → keyed h.key ≡ root_in h
  root-other n = rw (ne_eqb h.structure 4 n)

  pub root-empty : h.structure ≡ 4 → h.entries ≡ 0 → keyed 0 ≡ root_in h
  root-empty q e = rw (eq-eqb h.structure 4 q, eq-eqb h.entries 0 e)

  pub root-some : h.structure ≡ 4 → (h.entries ≡ 0 → ⊥) → keyed h.key ≡ root_in h
  root-some q n = rw (eq-eqb h.structure 4 q, ne_eqb h.entries 0 n)

  pub key_fits_lem : next_key h ≤ last_key → key_fits h ≡ true
  key_fits_lem low = le-leb (next_key h) last_key low

  -- ---- the refusal
  abbrev fit : Bool
  fit = head_fits h.structure h.size h.entries h.waiting (root_in h) (ahead_in h)

  pub refused-closed : (h.mark ≡ 0 → ⊥) → 1 ≡ bytes_refusal h
  unfolding bytes_refusal
  refused-closed n = rw (ne_eqb h.mark 0 n)

  pub refused-sum : h.mark ≡ 0 → last_key < next_key h → 2 ≡ bytes_refusal h
  unfolding bytes_refusal
  refused-sum m big = rw (eq-eqb h.mark 0 m, lt-leb (next_key h) last_key big)

  pub refused-head : h.mark ≡ 0 → next_key h ≤ last_key
      → head_refusal h.mark h.structure h.size h.entries h.waiting (root_in h) (ahead_in h) ≡ bytes_refusal h
  unfolding bytes_refusal head_refusal
  refused-head m low = rw (eq-eqb h.mark 0 m, le-leb (next_key h) last_key low)

  -- What the number says.
  pub data Refuses : ℕ → Type 0 where
    closed : (h.mark ≡ 0 → ⊥) → Refuses 1
    unfit : h.mark ≡ 0 → (key_fits h && fit) ≡ false → Refuses 2
    neither : h.mark ≡ 0 → key_fits h ≡ true → fit ≡ true → Refuses 0

  pub refuses : Refuses (bytes_refusal h)
  unfolding bytes_refusal
  refuses = go (eqb h.mark 0) refl (key_fits h) refl fit refl
    where
      go : (m : Bool) → eqb h.mark 0 ≡ m → (k : Bool) → key_fits h ≡ k → (f : Bool) → fit ≡ f
          → Refuses (pick (not m) 1 (pick (not (k && f)) 2 0))
      go false em k ek f ef = closed (eqb-false h.mark 0 em)
      go true em false ek f ef = unfit (eqb-true h.mark 0 em) (rw ek)
      go true em true ek false ef = unfit (eqb-true h.mark 0 em) (rw (ek, ef))
      go true em true ek true ef = neither (eqb-true h.mark 0 em) ek ef
