-- When two votes are the same.
use Rattle.std.specs.Prelude.{◌≡◌, ◌==◌, Bool, ◌&&◌}
use Rattle.std.specs.Bool.{Decides}
use Rattle.std.specs.Cmp.{IsEquivalence, IsPartialEquivalence, partial_equiv_from_equiv, decided, unsigned_Decides}
use Rattle.std.specs.Cmp.Lexicographic.{pointwise, pointwise_decides}
use Rattle.std.proofs.Common.{ap}
use Rattle.std.proofs.lemmas.Bool.{and_parts, and_from}
use Rattle.vote_core.specs.Quorums.{Representative, Configuration}

abbrev pub same_representative : Representative → Representative → Bool
same_representative a b = (a.0 == b.0) && (a.1 == b.1)

abbrev pub same_votes : Configuration → Configuration → Bool
same_votes a b = pointwise same_representative a.reps b.reps && ((a.r == b.r) && (a.w == b.w))

pub same_representative_decides : (a b : Representative) → Decides (same_representative a b) (a ≡ b)
same_representative_decides a b = (
  λ same. let parts = and_parts (a.0 == b.0) (a.1 == b.1) same in (λ i. ((unsigned_Decides a.0 b.0).0 parts.0 i, (unsigned_Decides a.1 b.1).0 parts.1 i)),
  λ equal. and_from (a.0 == b.0) (a.1 == b.1) ((unsigned_Decides a.0 b.0).1 (ap (λ rep. rep.0) equal)) ((unsigned_Decides a.1 b.1).1 (ap (λ rep. rep.1) equal)),
)

pub same_votes_decides : (a b : Configuration) → Decides (same_votes a b) (a ≡ b)
same_votes_decides a b =
    let listed = pointwise_decides same_representative_decides a.reps b.reps in (
      λ same.
          let parts = and_parts (pointwise same_representative a.reps b.reps) ((a.r == b.r) && (a.w == b.w)) same in
          let thresholds = and_parts (a.r == b.r) (a.w == b.w) parts.1 in
          λ i. record { reps = listed.0 parts.0 i; r = (unsigned_Decides a.r b.r).0 thresholds.0 i; w = (unsigned_Decides a.w b.w).0 thresholds.1 i },
      λ equal.
          and_from (pointwise same_representative a.reps b.reps) ((a.r == b.r) && (a.w == b.w)) (listed.1 (ap (λ votes. votes.reps) equal))
          (and_from (a.r == b.r) (a.w == b.w) ((unsigned_Decides a.r b.r).1 (ap (λ votes. votes.r) equal)) ((unsigned_Decides a.w b.w).1 (ap (λ votes. votes.w) equal))),
    )

pub same_votes_laws : IsEquivalence same_votes
same_votes_laws = decided same_votes same_votes_decides

pub same_votes_partial_laws : IsPartialEquivalence same_votes
same_votes_partial_laws = partial_equiv_from_equiv same_votes_laws
