use Rattle.agent_pool.proofs.Vocabulary.{◌≡◌, ◌+◌, ◌≤◌, ◌++◌, length, into_iter_items, into_iter_len, players_of}
use Rattle.std.proofs.Common.{vec_len, vec_capacity}
use Rattle.agent_pool.specs.code.Filled.{passes_of}
use Rattle.agent_pool.proofs.gather.pool_of.Given as goal

abbrev pub invariant-loop-one : goal.invariant-loop-one
invariant-loop-one l =
    (goal.iterator-loop-one).can_next l.one-iterator
    × (goal.iterator-loop-one).is_finite l.one-iterator
    × (l.yielded ++ into_iter_items l.one-iterator ≡ into_iter_items l.initial.one-iterator)
    × (l.agents.items ≡ players_of l.yielded)
    × (l.passes.items ≡ l.fn.passes.items ++ passes_of l.yielded)
    × (into_iter_len l.one-iterator + vec_len l.agents ≤ vec_capacity l.agents)
    × (into_iter_len l.one-iterator + vec_len l.passes ≤ vec_capacity l.passes)
    × (into_iter_len l.one-iterator ≡ length (into_iter_items l.one-iterator))
