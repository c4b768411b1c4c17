-- `tickets::key_in` meets its contract: four bytes of a word.
use mathlib.Core.Path.{◌∙◌, ap}
use Prim.Native.Nat.{ℕ, ◌%◌}
use native.Mathlib.Omega.{arith}
use Rattle.tickets.specs.AskedLaws.{key_of}
use Rattle.tickets.proofs.key_in.Goals as goal

pub returns : goal.returns
returns c =
    let s = c in
    ap (λ (x : ℕ). x % 4294967296) c.word.ensures ∙ key_of s.args.ticket.now (λ i h. omega (arith, c.type_inv.ticket i)) s.requires
