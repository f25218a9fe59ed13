use Rattle.weak_cache.proofs.Vocabulary.{◌≡◌, length, from_on, values}
use Rattle.weak_cache.proofs.stock.Stock.same.Given as goal

-- if what is still to come is the same, all is
abbrev pub invariant-loop-own_next : goal.invariant-loop-own_next
invariant-loop-own_next l =
    values (from_on l.own_next l.own.entries) ≡ values (from_on l.their_next l.theirs.entries) → values l.own.entries ≡ values l.theirs.entries

abbrev pub decreases-loop-own_next : goal.decreases-loop-own_next
decreases-loop-own_next l = length (from_on l.own_next l.own.entries)
