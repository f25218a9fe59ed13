use Rattle.weak_cache.proofs.Vocabulary.{◌≡◌, length, entry_of, without, within_quota, within_budget, from_on, values}
use Rattle.weak_cache.proofs.Beside.{within_room}
use Rattle.weak_cache.proofs.stock.Stock.search_beside.Given as goal

abbrev pub invariant-loop-next : goal.invariant-loop-next
invariant-loop-next l =
    entry_of (within_budget l.budget l.slots (within_room l.new.site l.quota (without l.new.site l.new.suite (values (from_on l.next l.shelf.entries))))) l.site l.suite
    ≡ entry_of (within_budget l.new.budget l.new.slots (within_quota l.new.site l.new.quota (without l.new.site l.new.suite (values l.shelf.entries)))) l.site l.suite

abbrev pub decreases-loop-next : goal.decreases-loop-next
decreases-loop-next l = length (from_on l.next l.shelf.entries)
