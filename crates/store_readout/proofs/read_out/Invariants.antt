-- The checks are passed, and the first i waiting places are put.
use Rattle.store_readout.specs.RefusalLaws.{Passed}
use Rattle.store_readout.specs.PlacesLaws.{PutSo}
use Rattle.store_readout.proofs.read_out.Given as goal

abbrev pub invariant-loop-i : goal.invariant-loop-i
invariant-loop-i l = Passed l.state l.tree × PutSo l.state.places l.state.count l.i l.waiting
