-- `call_ending::short::shut_short` meets its contract, whether the node is held or not.
use Rattle.call_ending.specs.ShortLaws.{shut_none, shut_one}
use native.Mathlib.Omega.{arith}
use Rattle.call_ending.proofs.short.shut_short.Goals as goal

pub returns-then-f-eq0 : goal.returns-then-f-eq0
returns-then-f-eq0 c =
    shut_none c.args.r c.args.job c.args.cause (omega (arith, c.if-f-eq0.true)) c.requires.holds c.closed.ensures

pub returns : goal.returns
returns c =
    shut_one c.args.r c.args.job c.args.cause (λ e. omega (arith, e, c.if-f-eq0.false)) c.join_node-waiting.ensures c.closed-2.ensures
