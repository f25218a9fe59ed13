-- One that ended undecided stands nowhere among the decisions; and the moment at which the end of one is fixed.
use Rattle.law_run_recovers.proofs.Vocabulary.{List, [], ap, append-nil, append_assoc, false, inl, inr, refl, subst, sym, ℕ, ⊎_elim, ◌++◌, ◌∙◌, ◌∷◌, ◌≡◌, ◌⊎◌, is_decided, EndStands, holds_of, NotIn, append_has_right, arith, IsNotDecided, ended}
use Rattle.law_run_recovers.proofs.Vocabulary.{number_of, Has, has_from, dones-append, outcomes-append, Decided, decisions, dones, outcomes, run, World, EndedJob, Event, Begin, Opening, Ending, Transaction, Begun, EndsThen, stands, is_running}
use Rattle.law_run_recovers.proofs.Vocabulary.{world_after}
use Rattle.law_run_recovers.proofs.AmongCourse.{head_or, tail_or, parted}
use Rattle.law_run_recovers.proofs.AmongOver.{has_after}
use Rattle.law_run_recovers.proofs.Keeps.{IsAtWork}
use Rattle.law_run_recovers.proofs.Sides.{ended_runs_not}
use Rattle.law_run_recovers.proofs.MeetCalm.{Fair, Calm}
use Rattle.law_run_recovers.proofs.MeetRun.{run_is}

-- ---- lists

-- two fronts of a list: one is a front of the other
pub fronts : {X : Type 0} (xs ys us vs : List X) → xs ++ us ≡ ys ++ vs → ((more : List X) × (ys ≡ xs ++ more)) ⊎ ((more : List X) × (xs ≡ ys ++ more))
fronts [] ys us vs is = inl (ys, refl)
fronts (x ∷ xs) [] us vs is = inr (x ∷ xs, refl)
fronts (x ∷ xs) (y ∷ ys) us vs is = search (head_or, tail_or, fronts xs ys us vs, arith)

-- the first front of a list of which something is not so
pub record Cut (W : List Event → Type 0) (all : List Event) : Type 0 where
  pub front : List Event
  pub back : List Event
  pub parts : all ≡ front ++ back
  pub rests : W front → ⊥
  pub works : (xs ys : List Event) (e : Event) → front ≡ xs ++ e ∷ ys → W xs

cut : (W : List Event → Type 0) → ((xs : List Event) → W xs ⊎ (W xs → ⊥)) → (todo done : List Event) → ((xs ys : List Event) (e : Event) → done ≡ xs ++ e ∷ ys → W xs) → (W (done ++ todo) → ⊥) → Cut W (done ++ todo)
cut W test [] done works rests = record { front = done; back = []; parts = refl; rests = λ work. rests (subst W (sym (append-nil done)) work); works = works }
cut W test (e ∷ todo) done works rests =
    ⊎_elim
    (λ work.
    let all : (done ++ e ∷ []) ++ todo ≡ done ++ e ∷ todo = append_assoc done (e ∷ []) todo in
    subst (Cut W) all
    (cut W test todo (done ++ e ∷ [])
    (λ xs ys other is. ⊎_elim (λ here. subst W (sym here.0) work) (λ before. works xs before.0 other before.1) (parted done e xs other ys is))
    (λ there. rests (subst W all there))))
    (λ none. record { front = done; back = e ∷ todo; parts = refl; rests = none; works = works })
    (test done)

nothing_before : {W : Type 0} (xs ys : List Event) (e : Event) → [] ≡ xs ++ e ∷ ys → W
nothing_before [] ys e is = search arith
nothing_before (x ∷ xs) ys e is = search arith

pub cut_at : (W : List Event → Type 0) → ((xs : List Event) → W xs ⊎ (W xs → ⊥)) → (all : List Event) → (W all → ⊥) → Cut W all
cut_at W test all rests = cut W test all [] (λ xs ys e is. nothing_before xs ys e is) rests

-- whether it is at work
tested : (w : World) (agent t : ℕ) → IsAtWork w agent t ⊎ (IsAtWork w agent t → ⊥)
tested w agent t = search arith

-- ---- it has ended

module _ (given : Opening) (events later : List Event) (fair : Fair given events later) (who : Begun given events later) (job : EndedJob)
    (ends : EndsThen given (events ++ who.before) who.after who.agent who.t who.caller who.site who.ops job) where
  abbrev its_event : Event
  its_event = Begin who.agent (Transaction who.caller who.site who.ops)

  whole_is : (events ++ who.before) ++ Begin who.agent (Transaction who.caller who.site who.ops) ∷ who.after ≡ events ++ later
  whole_is = append_assoc events who.before (its_event ∷ who.after) ∙ ap (λ later. events ++ later) (sym who.parts)

  ended_has : Has (ended given (events ++ later)) job
  ended_has = search (whole_is, dones-append, outcomes-append, append_has_right, has_after, has_from, arith)

  not_in : (ds : List Decided) (t : ℕ) (ending : Ending) → is_decided ending ≡ false → EndStands ds t ending → NotIn ds t
  not_in ds t ending h3 h4 = search arith

  -- undecided: then it is nowhere among the decisions
  pub undecided_not : is_decided job.ending ≡ false → IsNotDecided (decisions given (events ++ later)) who.t
  undecided_not none one there same =
      not_in (decisions given (events ++ later)) (number_of job) job.ending none ((holds_of given fair.can.accepted (events ++ later)).over job ended_has).stands
      one (has_from (decisions given (events ++ later)) one there) (same ∙ sym ends.of_it)

-- where the end of one is fixed
abbrev pub Fixed : (given : Opening) (events later : List Event) → Begun given events later → Type 0
Fixed given events later who = Cut (λ so_far. IsAtWork (world_after given (events ++ who.before) who.agent who.caller who.site who.ops so_far) who.agent who.t) who.after

module _ (given : Opening) (events later : List Event) {still : ℕ → Type 0} (calm : Calm given events later still) (who : Begun given events later) (job : EndedJob)
    (ends : EndsThen given (events ++ who.before) who.after who.agent who.t who.caller who.site who.ops job) where
  pub fixed_at : Fixed given events later who
  fixed_at =
      cut_at (λ so_far. IsAtWork (world_after given (events ++ who.before) who.agent who.caller who.site who.ops so_far) who.agent who.t)
      (λ so_far. tested (world_after given (events ++ who.before) who.agent who.caller who.site who.ops so_far) who.agent who.t) who.after
      (λ work. ended_runs_not given calm.fair.can.accepted (events ++ later) who.agent who.t job (ended_has given events later calm.fair who job ends) ends.of_it
      (ap (λ w. is_running w who.agent who.t) (ap (λ later. run given (events ++ later)) who.parts ∙ sym (run_is given events later calm who who.after)) ∙ work.running))
