use Rattle.law_agents.proofs.Orders.{stages_rise, prepares_in_order, decides_in_order, finishes_in_order, all_finish}
use Rattle.law_agents.proofs.asks_in_order.Goals as goal

pub returns : goal.returns
returns c = record { stages = stages_rise; prepares = prepares_in_order; decides = decides_in_order; finishes = finishes_in_order; ends = all_finish }
