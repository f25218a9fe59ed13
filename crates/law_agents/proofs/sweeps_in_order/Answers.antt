use Rattle.law_agents.proofs.SweepOrders.{sweeps_ask_so, sweeps_count}
use Rattle.law_agents.proofs.sweeps_in_order.Goals as goal

pub returns : goal.returns
returns c = record { asks = sweeps_ask_so; counts = sweeps_count }
