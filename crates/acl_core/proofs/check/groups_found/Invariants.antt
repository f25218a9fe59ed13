use Rattle.acl_core.proofs.Vocabulary.{◌≡◌, filter, find, length, Entry, matches, OfGroups}
use Rattle.acl_core.proofs.check.groups_found.Given as goal

abbrev pub invariant-loop-rest : goal.invariant-loop-rest
invariant-loop-rest l = record {
  found : find (λ (e : Entry). matches OfGroups 0 l.group l.caller e.tag) l.rest ≡ find (λ (e : Entry). matches OfGroups 0 l.group l.caller e.tag) l.fn.entries;
  kept : filter (λ (e : Entry). matches OfGroups 0 l.group l.caller e.tag) l.rest ≡ filter (λ (e : Entry). matches OfGroups 0 l.group l.caller e.tag) l.fn.entries;
}

abbrev pub decreases-loop-rest : goal.decreases-loop-rest
decreases-loop-rest l = length l.rest
