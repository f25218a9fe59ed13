-- The votes that a transaction sets are those that it may.
use Rattle.law_agents.proofs.Vocabulary.{◌≡◌, ℕ, false, List, [], ◌∷◌, Option, Ok, Configuration, Identity, Answer, Op, Service, lists_unknown, Row, Edit, SetVotes, arith, Make, Known, known_rows, Done, exec_of, known_licensed}
use Rattle.file_ops.specs.declared.operation.Action.{Action}
use Rattle.file_exec.specs.Following.{Edits, Ended}
use Rattle.file_exec.specs.Licensed.{Licensed, AllLicensed}

-- an edit sets no votes but such
abbrev pub Sets : (Configuration → Type 0) → Edit → Type 0
Sets W (SetVotes votes) = W votes
Sets W (Make made) = W made.votes
Sets W other = Unit {0}

-- each of these edits, the newest first
abbrev pub AllSet : (Configuration → Type 0) → Edits → Type 0
AllSet W [] = Unit {0}
AllSet W (e ∷ edits) = Sets W e.1 × AllSet W edits

-- votes that a transaction may set: those that list no server but known ones, and C0
module _ (W : Configuration → Type 0) (service : Service) (may : (votes : Configuration) → lists_unknown service votes ≡ false → W votes) (c0 : W service.c0) where
  sets : {known : Known} {rows : ℕ → Option Row} {caller : Identity} {action : Action} {number : ℕ} {edits : Edits} {suite : ℕ} {edit : Edit} → Licensed service known rows caller action number edits suite edit → Sets W edit
  sets h0 = search arith

  all_set : (known : Known) (rows : ℕ → Option Row) (t : ℕ) (caller : Identity) (ops : List Op) (edits : Edits) → AllLicensed service known rows t caller ops edits → AllSet W edits
  all_set known rows t caller ops [] all = tt
  all_set known rows t caller ops (e ∷ edits) all = (sets all.0.licensed, all_set known rows t caller ops edits all.1)

  -- where the executor is done, each edit sets no votes but such
  pub edits_set : (known : Known) (t : ℕ) (caller : Identity) (ops : List Op) (ended : Ended (List Answer)) → exec_of service known t caller ops ≡ Done (Ok ended) → AllSet W ended.edits
  edits_set known t caller ops ended is = all_set known (known_rows known) t caller ops ended.edits (known_licensed service known t caller ops ended is)
