-- The fields of servers, one after the other.
use Rattle.suite_script.proofs.Vocabulary.{◌≡◌, ℕ, suc, ◌+◌, ◌-◌, ◌<◌, ◌≤◌, nat_lt, true, false, List, [], ◌∷◌, ◌++◌, codes, length, take, set, Option, Some}
use Rattle.suite_script.proofs.Vocabulary.{None, option_map, refl, ◌∙◌, ap, sym, append_assoc, arith, flat_map, range_with_len, bytes_eq, nat_tests}
use Rattle.suite_script.proofs.Vocabulary.{take_more_set, number_up_to, Representative, max_servers, field_text, fields_text, last_server, reps_from}
use Rattle.suite_script.proofs.Vocabulary.{with_field, with_votes}

-- what is listed, where some servers were read already
abbrev pub reps_after : List Representative → Option (List Representative) → Option (List Representative)
reps_after front reps = option_map (λ more. front ++ more) reps

one_more : (front : List Representative) (server votes : ℕ) (rest : Option (List Representative)) → reps_after (front ++ (server, votes) ∷ []) rest ≡ reps_after front (with_votes server (Some votes) rest)
one_more front server votes (Some more) = ap Some (append_assoc front ((server, votes) ∷ []) more)
one_more front server votes None = refl

-- the field of a server that there may be
here : (server : ℕ) (field : List ℕ) (fields : List (List ℕ)) → server < max_servers → reps_from server (field ∷ fields) ≡ with_field server field (reps_from (server + 1) fields)
here server field fields inside =
    let within : nat_lt server max_servers ≡ true = grind (arith, nat_tests) in
    rw within refl

-- a server more is listed
pub listed_more : (reps : List Representative) (count server votes : ℕ) (field : List ℕ) (fields : List (List ℕ)) → count < length reps → server < max_servers
    → bytes_eq field (codes "-") ≡ false → number_up_to 255 field ≡ Some votes
    → reps_after (take (count + 1) (set reps count (server, votes))) (reps_from (server + 1) fields) ≡ reps_after (take count reps) (reps_from server (field ∷ fields))
listed_more reps count server votes field fields room inside differs spelled =
    ap (λ front. reps_after front (reps_from (server + 1) fields)) (take_more_set reps count (server, votes) room)
    ∙ one_more (take count reps) server votes (reps_from (server + 1) fields)
    ∙ ap (λ given. reps_after (take count reps) (with_votes server given (reps_from (server + 1) fields))) (sym spelled)
    ∙ ap (reps_after (take count reps)) (sym (here server field fields inside ∙ (rw differs refl)))

-- a server more is not listed
pub unlisted_more : (front : List Representative) (server : ℕ) (field : List ℕ) (fields : List (List ℕ)) → server < max_servers → bytes_eq field (codes "-") ≡ true
    → reps_after front (reps_from (server + 1) fields) ≡ reps_after front (reps_from server (field ∷ fields))
unlisted_more front server field fields inside same =
    ap (reps_after front) (sym (here server field fields inside ∙ (rw same refl)))

-- the fields of the servers from one on and before another, a comma before each
abbrev pub fields_from : List Representative → ℕ → ℕ → List ℕ
fields_from reps server end = flat_map (λ next. codes "," ++ field_text reps next) (range_with_len server (end - server))

-- the first field, and those after it
pub first_field : (reps : List Representative) (text : List ℕ) (end : ℕ) → end ≡ last_server reps + 1
    → (text ++ field_text reps 0) ++ fields_from reps 1 end ≡ text ++ fields_text reps
first_field reps text end is =
    let more : last_server reps + 1 ≡ suc (last_server reps) = omega arith in
    let rest : end - 1 ≡ last_server reps = omega arith in
    rw (rest, more) (append_assoc text (field_text reps 0) (flat_map (λ next. codes "," ++ field_text reps next) (range_with_len 1 (last_server reps))))

-- one field more
pub more_fields : (reps : List Representative) (text : List ℕ) (server end : ℕ) → server < end
    → ((text ++ codes ",") ++ field_text reps server) ++ fields_from reps (server + 1) end ≡ text ++ fields_from reps server end
more_fields reps text server end inside =
    let more : end - server ≡ suc (end - (server + 1)) = omega arith in
    rw more
    (append_assoc (text ++ codes ",") (field_text reps server) (fields_from reps (server + 1) end)
    ∙ append_assoc text (codes ",") (field_text reps server ++ fields_from reps (server + 1) end)
    ∙ ap (λ rest. text ++ rest) (sym (append_assoc (codes ",") (field_text reps server) (fields_from reps (server + 1) end))))

-- no field more
pub no_fields : (reps : List Representative) (server end : ℕ) → end ≤ server → fields_from reps server end ≡ []
no_fields reps server end past =
    let none : end - server ≡ 0 = omega arith in
    rw none refl
