-- `host_calls::call_numbers` meets its contract.
use Rattle.host_calls.specs.LeftLaws.{head-size}
use Rattle.host_calls.proofs.call_numbers.Goals as goal

pub rounds_of-rounds-requires : goal.rounds_of-rounds-requires
rounds_of-rounds-requires c = head-size c.requires
