-- The votes of a suite are set only where its content is known or set, since it is read before.
use Rattle.file_exec.proofs.Vocabulary.{◌≡◌, ◌⊎◌, ℕ, true, List, [], ◌∷◌, Option, Ok, ◌||◌, eqb-true, Identity, Answer, Action, Op, Service, Row, sets_votes, some, Edit, Edits, arith, sets_content, is_set, Ended, Known, known_of, known_rows}
use Rattle.file_exec.proofs.Vocabulary.{is_opened, Done, exec_of, IsTold, Licensed, AllLicensed}
use Rattle.file_exec.proofs.Licensing.{known_licensed}

-- whoever sets votes sets the content too, or it is told
told_too : {service : Service} {known : Known} {rows : ℕ → Option Row} {caller : Identity} {action : Action} {number : ℕ} {edits : Edits} {suite : ℕ} {edit : Edit} → Licensed service known rows caller action number edits suite edit
    → sets_votes edit ≡ true → (sets_content edit ≡ true) ⊎ IsTold known edits suite
told_too h0 h1 = search arith

votes_told : (service : Service) (known : Known) (rows : ℕ → Option Row) (t : ℕ) (caller : Identity) (ops : List Op) (edits : Edits) → AllLicensed service known rows t caller ops edits
    → (suite : ℕ) → some sets_votes edits suite ≡ true → IsTold known edits suite
votes_told service known rows t caller ops [] all suite sets = cc
votes_told service known rows t caller ops (e ∷ edits) all suite sets = search (told_too, eqb-true, votes_told service known rows t caller ops edits, arith)

-- where the executor is done, it knows or has set the content of each suite whose votes it has set
pub knows_whose_votes : (service : Service) (known : Known) (t : ℕ) (caller : Identity) (ops : List Op) (ended : Ended (List Answer)) → exec_of service known t caller ops ≡ Done (Ok ended)
    → (suite : ℕ) → some sets_votes ended.edits suite ≡ true → (is_set ended.edits suite || is_opened (known_of known suite)) ≡ true
knows_whose_votes service known t caller ops ended is = votes_told service known (known_rows known) t caller ops ended.edits (known_licensed service known t caller ops ended is)
