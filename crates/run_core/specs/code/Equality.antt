-- When two ends of jobs are the same: where all their parts are. `==` tells it.
use Rattle.std.specs.Prelude.{◌≡◌, ◌==◌, Bool, ◌&&◌}
use Rattle.std.specs.Bool.{Decides}
use Rattle.std.specs.Cmp.{IsEquivalence, IsPartialEquivalence, partial_equiv_from_equiv, decided}
use Rattle.std.proofs.Common.{ap}
use Rattle.std.proofs.lemmas.Bool.Decides.{Decides-eqb, Decides-and, Decides-like}
use Rattle.txn_core.specs.code.Equality.{same_ending, same_ending_decides}
use Rattle.run_core.specs.declared.done.EndedJob.{EndedJob}

abbrev pub same_outcome : EndedJob → EndedJob → Bool
same_outcome a b = (a.agent == b.agent) && ((a.count == b.count) && ((a.steps == b.steps) && same_ending a.ending b.ending))

pub same_outcome_decides : (a b : EndedJob) → Decides (same_outcome a b) (a ≡ b)
same_outcome_decides a b =
    Decides-like _ (λ same i. record { agent = same.0 i; count = same.1.0 i; steps = same.1.1.0 i; ending = same.1.1.1 i })
    (λ same. (ap (λ o. o.agent) same, (ap (λ o. o.count) same, (ap (λ o. o.steps) same, ap (λ o. o.ending) same))))
    (Decides-and _ _ (Decides-eqb a.agent b.agent) (Decides-and _ _ (Decides-eqb a.count b.count) (Decides-and _ _ (Decides-eqb a.steps b.steps) (same_ending_decides a.ending b.ending))))

pub same_outcome_laws : IsEquivalence same_outcome
same_outcome_laws = decided same_outcome same_outcome_decides

pub same_outcome_partial_laws : IsPartialEquivalence same_outcome
same_outcome_partial_laws = partial_equiv_from_equiv same_outcome_laws
