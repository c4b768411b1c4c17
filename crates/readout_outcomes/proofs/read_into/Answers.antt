-- `readout_outcomes::read_into` meets its contract: a file that was written lies within the output buffer.
use Rattle.std.proofs.Common.{sym, List, ℕ, ◌≤◌, length, length-take-le}
use Rattle.std.proofs.lemmas.Result.{IfOk-weaker}
use Rattle.io.specs.Counts.{IsPrefixLen}
use Rattle.readout_outcomes.specs.Fits.{file-within}
use Rattle.readout_outcomes.proofs.read_into.Goals as goal

counts : (n : ℕ) (xs : List ℕ) → n ≤ length xs → IsPrefixLen n xs
counts n xs h = (h, sym (length-take-le n xs h))

pub returns-clause-prefix_len : goal.returns-clause-prefix_len
returns-clause-prefix_len c =
    let a = c.args in
    let r = c.read_out in
    IfOk-weaker r.result _ _ (λ n h. counts n r.new.out h) (file-within a.state a.tree.now a.out.now r.new.out r.result r.ensures)
