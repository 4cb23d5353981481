-- The three demands hold of the definitions.
use Rattle.agree.specs.Demands.{AllDemands}
use Rattle.agree.proofs.Refusals.{demand1, demand1-buffered, demand1-generated, demand1-rooms}
use Rattle.agree.proofs.TheTables.{demand2, demand2-loops}
use Rattle.agree.proofs.Whole.{demand3}

pub all-demands : AllDemands
all-demands = record {
  refusals = demand1;
  refusals_buffered = demand1-buffered;
  refusals_generated = demand1-generated;
  rooms = demand1-rooms;
  graphs = demand2;
  loops = demand2-loops;
  runs = demand3;
}
