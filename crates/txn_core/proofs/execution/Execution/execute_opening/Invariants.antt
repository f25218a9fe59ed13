use Rattle.txn_core.proofs.Vocabulary.{◌≡◌, length, fixed_in, seen_on, IsReachedOn, seen_in}
use Rattle.txn_core.proofs.Rounds.{IsPlaying}
use Rattle.txn_core.proofs.execution.Execution.execute_opening.Given as goal

abbrev pub invariant-loop : goal.invariant-loop
invariant-loop l =
    IsPlaying (fixed_in l.self l.cache_after.cache.now) l.self.task.now (seen_on l.cache_after (seen_in l.after)) l.opened.items l.known
    × IsReachedOn l.known l.self.task.now l.progress
    × (length l.opened.items ≡ l.counter)
