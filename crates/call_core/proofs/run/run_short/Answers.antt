-- `call_core::run::run_short` meets its contract: the fetch round closed the store, or the step and the put round follow.
use Rattle.call_core.specs.RunLaws.{marked, went_on, still-long, run-shuts, run-ends-shut, run-finishes, run-ends-finished}
use Rattle.call_core.proofs.run.run_short.Goals as goal

pub shut_short-requires : goal.shut_short-requires
shut_short-requires c =
    let ok = c.requires.0 in
    let f = c.short_fetch-r.ensures in
    run-shuts ok f (marked c.in-Some.is c.cause_of.ensures).0

pub returns-in-Some : goal.returns-in-Some
returns-in-Some c =
    let ok = c.requires.0 in
    let f = c.short_fetch-r.ensures in
    let met = marked c.in-Some.is c.cause_of.ensures in
    run-ends-shut ok f met.0 met.1 c.shut_short.ensures

pub finish_short-requires : goal.finish_short-requires
finish_short-requires c =
    let ok = c.requires.0 in
    let f = c.short_fetch-r.ensures in
    let went = went_on c.in_default.not-Some c.cause_of.ensures in
    (run-finishes ok f went, ((c.requires.1, f.finished went), still-long ok f))

pub returns : goal.returns
returns c =
    let ok = c.requires.0 in
    let f = c.short_fetch-r.ensures in
    run-ends-finished ok f (went_on c.in_default.not-Some c.cause_of.ensures) c.finish_short.ensures
