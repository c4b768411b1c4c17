-- `puzlorig::lengths::puzlorig_trace_length` meets its contract.
use mathlib.Core.Path.{◌≡◌, sym, ◌∙◌, ap}
use mathlib.Core.Bool.{true}
use Prim.Native.Nat.{ℕ, ◌*◌}
use Rattle.host_spec.specs.Lengths.{known_store}
use Rattle.puzlorig.specs.LengthLaws.{trace-unknown, trace-known}
use Rattle.puzlorig.proofs.lengths.puzlorig_trace_length.Goals as goal

-- src/lengths.rt:89:9
pub returns-then-not-known_store : goal.returns-then-not-known_store
returns-then-not-known_store c = trace-unknown c.args.structure c.args.size (sym c.known_store.ensures ∙ c.if-not-known_store.true)

-- src/lengths.rt:84:1
pub returns : goal.returns
returns c =
    let known : known_store c.args.structure c.args.size ≡ true = sym c.known_store.ensures ∙ c.if-not-known_store.false in
    ap (λ (n : ℕ). 2 * (2 * n)) c.rounds_of.ensures.0 ∙ trace-known c.args.structure c.args.size known
