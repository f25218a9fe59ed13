-- The fields of `Votes` from the configuration that they hold.
use Rattle.std.specs.Prelude.{◌≡◌, ℕ, List, take, length}
use Rattle.std.proofs.Common.{◌∙◌, ap}
use Rattle.vote_core.specs.declared.TheConstants.{MAX_SERVERS}
use Rattle.vote_core.specs.declared.votes.Votes.TheInside.{Inside}
use Rattle.vote_core.specs.Quorums.{Representative, Configuration}
use Rattle.vote_core.specs.code.Padding.{IsPadded, padded, padded-take, kept_length}

-- what stands in the places of an array that are not used
abbrev pub no_votes : Representative
no_votes = (0, 0)

abbrev pub configuration_of : Inside → Configuration
configuration_of fields = record { reps = take fields.count fields.reps; r = fields.r; w = fields.w }

abbrev pub fields_of : Configuration → Inside
fields_of votes = record { reps = padded MAX_SERVERS no_votes votes.reps; count = length votes.reps; r = votes.r; w = votes.w }

pub fields_back : (fields : Inside) → IsPadded MAX_SERVERS no_votes fields.count fields.reps → fields_of (configuration_of fields) ≡ fields
fields_back fields h =
    let with_reps : List Representative → ℕ → Inside = λ reps count. record { reps = reps; count = count; r = fields.r; w = fields.w } in
    ap (λ reps. with_reps reps (length (take fields.count fields.reps))) (padded-take MAX_SERVERS no_votes fields.count fields.reps h)
    ∙ ap (with_reps fields.reps) (kept_length MAX_SERVERS no_votes fields.count fields.reps h)
