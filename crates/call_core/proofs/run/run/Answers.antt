-- `call_core::run::run` meets its contract: a fetch round closed the store, or the step and the put rounds follow.
use Rattle.std.proofs.Common.{rules}
use Rattle.call_core.specs.RunLaws.{marked, went_on, still-long, run-few, run-shuts, run-ends-shut, run-finishes, run-ends-finished, run-low}
use Rattle.call_core.proofs.run.run.Goals as goal

pub shut-requires : goal.shut-requires
shut-requires c =
    let ok = c.requires.0 in
    let f = c.fetch_rounds-f.ensures in
    let met = marked c.in-Some.is c.cause_of.ensures in
    (run-shuts ok f.came met.0, (run-few ok f.came, (search rules, search rules)))

pub returns-in-Some : goal.returns-in-Some
returns-in-Some c =
    let ok = c.requires.0 in
    let came = c.fetch_rounds-f.ensures.came in
    let met = marked c.in-Some.is c.cause_of.ensures in
    run-ends-shut ok came met.0 met.1 c.shut.ensures

pub finish-requires : goal.finish-requires
finish-requires c =
    let ok = c.requires.0 in
    let f = c.fetch_rounds-f.ensures in
    let low = run-low ok f in
    let went = went_on c.in_default.not-Some c.cause_of.ensures in (
      rw f.nodes-are at (run-finishes ok f.came went),
      (
        (record { sized = search rules; few = run-few ok f.came; low = low.0; root-low = low.1 }, (search rules, c.requires.1)),
        still-long ok f.came,
      ),
    )

pub returns : goal.returns
returns c =
    let ok = c.requires.0 in
    let f = c.fetch_rounds-f.ensures in
    run-ends-finished ok f.came (went_on c.in_default.not-Some c.cause_of.ensures) (rw f.nodes-are c.finish.ensures)
