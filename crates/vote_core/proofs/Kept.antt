-- Representatives written over the front of an array, as `Votes` keeps them.
use Rattle.vote_core.proofs.Vocabulary.{◌≡◌, List, ◌++◌, length, take, drop, replicate, sym, subst, MAX_SERVERS, Representative, Configuration, IsValid, no_votes}
use Rattle.std.proofs.Math.Seq.{take-append_seam}
use Rattle.vote_core.specs.code.Padding.{IsPadded, padded_front}
use Rattle.vote_core.proofs.Faults.{few_if_valid}

-- a configuration is kept whole, and is valid
pub kept_votes : (votes : Configuration) (copied : List Representative) → IsValid votes → copied ≡ votes.reps
    → IsPadded MAX_SERVERS no_votes (length votes.reps) (copied ++ drop (length votes.reps) (replicate MAX_SERVERS no_votes))
    × IsValid (record votes { reps = take (length votes.reps) (copied ++ drop (length votes.reps) (replicate MAX_SERVERS no_votes)) })
kept_votes votes copied valid same =
    let unused : List Representative = drop (length votes.reps) (replicate MAX_SERVERS no_votes) in
    let at_place : List Representative → Type 0 = λ front. IsPadded MAX_SERVERS no_votes (length votes.reps) (front ++ unused) × IsValid (record votes { reps = take (length votes.reps) (front ++ unused) }) in
    let whole : take (length votes.reps) (votes.reps ++ unused) ≡ votes.reps = take-append_seam votes.reps unused in
    subst at_place (sym same) (
      padded_front MAX_SERVERS no_votes votes.reps (few_if_valid votes valid),
      subst (λ (reps : List Representative). IsValid (record votes { reps = reps })) (sym whole) valid,
    )
