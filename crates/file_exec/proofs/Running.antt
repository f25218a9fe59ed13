-- To run a course is to follow it.
use Rattle.file_exec.proofs.Vocabulary.{◌≡◌, true, false, cond, [], ◌∷◌, Some, refl, not, ◌||◌, Exclusive, Course, Give, Refuse, Look, Read, Set, ◌>>=◌, transaction, Hold, Know, Edits, is_set, looked, content_read, unless_set, needs, arith, ending}
use Rattle.file_exec.proofs.Vocabulary.{Known, known_rows, is_met, first_unmet, Needs, heard, run, then_run, ExecRuns}

-- two courses one after the other are run one after the other
pub runs_in_turn : {A B E : Type 0} (known : Known) (edits : Edits) (first : Course A E) (next : A → Course B E) → run known edits (◌>>=◌ first next) ≡ then_run known next (run known edits first)
runs_in_turn known edits (Give given) next = refl
runs_in_turn known edits (Refuse why) next = refl
runs_in_turn known edits (Look suite mode later) next =
    elim (is_met known (Hold suite mode)) as (λ b. cond b (run known edits (◌>>=◌ (later (looked (known_rows known) edits suite)) next))
    (Needs (Hold suite mode)) ≡ then_run known next (cond b (run known edits (later (looked (known_rows known) edits suite))) (Needs (Hold suite mode)))) [
      | true ↦ runs_in_turn known edits (later (looked (known_rows known) edits suite)) next
      | false ↦ refl
    ]
runs_in_turn known edits (Read suite later) next =
    elim (is_set edits suite || is_met known (Know suite)) as (λ b. cond b (run known edits (◌>>=◌ (later (content_read (known_rows known) edits suite)) next))
    (Needs (Know suite)) ≡ then_run known next (cond b (run known edits (later (content_read (known_rows known) edits suite))) (Needs (Know suite)))) [
      | true ↦ runs_in_turn known edits (later (content_read (known_rows known) edits suite)) next
      | false ↦ refl
    ]
runs_in_turn known edits (Set suite edit later) next =
    elim (is_met known (Hold suite Exclusive)) as (λ b. cond b (run known ((suite, edit) ∷ edits) (◌>>=◌ later next)) (Needs (Hold suite Exclusive)) ≡ then_run known next
    (cond b (run known ((suite, edit) ∷ edits) later) (Needs (Hold suite Exclusive)))) [
      | true ↦ runs_in_turn known ((suite, edit) ∷ edits) later next
      | false ↦ refl
    ]

pub followed_runs : {A E : Type 0} (known : Known) (edits : Edits) (course : Course A E) → heard (first_unmet known (needs (known_rows known) edits course)) (ending (known_rows known) edits course) ≡ run known edits course
followed_runs known edits (Give given) = refl
followed_runs known edits (Refuse why) = refl
followed_runs known edits (Look suite mode later) =
    let rest = followed_runs known edits (later (looked (known_rows known) edits suite)) in
    elim (is_met known (Hold suite mode)) as
    (λ b. heard (cond (not b) (Some (Hold suite mode)) (first_unmet known (needs (known_rows known) edits (later (looked (known_rows known) edits suite)))))
    (ending (known_rows known) edits (later (looked (known_rows known) edits suite))) ≡ cond b (run known edits (later (looked (known_rows known) edits suite)))
    (Needs (Hold suite mode))) [
      | true ↦ rest
      | false ↦ refl
    ]
followed_runs known edits (Read suite later) =
    let rest = followed_runs known edits (later (content_read (known_rows known) edits suite)) in
    elim (is_set edits suite) as (λ s. heard (first_unmet known (unless_set s suite (needs (known_rows known) edits (later (content_read (known_rows known) edits suite)))))
    (ending (known_rows known) edits (later (content_read (known_rows known) edits suite))) ≡ cond (s || is_met known (Know suite))
    (run known edits (later (content_read (known_rows known) edits suite))) (Needs (Know suite))) [
      | true ↦ rest
      | false ↦ search arith
    ]
followed_runs known edits (Set suite edit later) =
    let rest = followed_runs known ((suite, edit) ∷ edits) later in
    elim (is_met known (Hold suite Exclusive)) as
    (λ b. heard (cond (not b) (Some (Hold suite Exclusive)) (first_unmet known (needs (known_rows known) ((suite, edit) ∷ edits) later)))
    (ending (known_rows known) ((suite, edit) ∷ edits) later) ≡ cond b (run known ((suite, edit) ∷ edits) later) (Needs (Hold suite Exclusive))) [
      | true ↦ rest
      | false ↦ refl
    ]

pub exec_runs : ExecRuns
exec_runs service known t caller ops = followed_runs known [] (transaction service t caller ops)
