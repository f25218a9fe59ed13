use Rattle.agent_pool.proofs.Vocabulary.{◌≡◌, List, length, AllZip, AreInOrderIn, AreOfThese, IsFilled, done_in, filled_in, players_of, sitting, AreSeen}
use Rattle.agent_pool.proofs.Vocabulary.{places, numbers_of, IsWorkOf, SeatedAgent}
use Rattle.std.proofs.Common.{take}
use Rattle.agent_pool.proofs.gather.fill.Given as goal

abbrev pub invariant-loop-one : goal.invariant-loop-one
invariant-loop-one l =
    ((seats : List SeatedAgent) → AllZip (IsWorkOf l.jobs) seats l.worked → AllZip (IsFilled (sitting seats) (players_of l.worked)) l.jobs l.slots)
    × AreInOrderIn l.slots
    × AreOfThese (take l.one-index (numbers_of (players_of l.worked))) l.slots
    × (filled_in l.slots ≡ done_in (take l.one-index l.worked))
    × (length l.slots ≡ length l.fn.slots)
    × AreSeen (places (take l.one-index l.worked)) l.slots
