-- What was so stays so under each event.
use Rattle.law_suite_machine.proofs.Vocabulary.{◌≡◌, ℕ, Bool, true, List, [], ◌∷◌, ◌++◌, Option, Some, None, refl, sym, ap, ◌∙◌, append_assoc, Beginning, Known, Change, Read, Wrote, World, Verdict, Answered, Refused, Aborted, set1, Event, Grant, Hear}
use Rattle.law_suite_machine.proofs.Vocabulary.{Raise, Aim, Prepare, DecideRead, DecideRefused, DecideWrite, DecideElsewhere, Overrule, GiveUp, Finish, Lose, happens, run, decided, May, Obeys, MayWrite, Stays}
use Rattle.law_suite_machine.proofs.Places.{at1}
use Rattle.law_suite_machine.proofs.Rows.{was_prefix, was_content}
use Rattle.law_suite_machine.proofs.Invariant.{Inv}
use Rattle.law_suite_machine.proofs.Writing.{new_row, new_log, next_row}
use Rattle.law_suite_machine.proofs.Steps.{step}

-- a record stays where another is made
verdict_stays : (f : ℕ → Option Verdict) (t : ℕ) (new : Verdict) → f t ≡ None → (u : ℕ) (v : Verdict) → f u ≡ Some v → set1 f t (Some new) u ≡ Some v
verdict_stays f t new none u v e = at1 (λ o. o ≡ Some v) f t (Some new) u (λ here. let at = ap f here in absurd cc) (λ _. e)

gave_up_stays : (f : ℕ → Bool) (t u : ℕ) → f u ≡ true → set1 f t true u ≡ true
gave_up_stays f t u e = at1 (λ b. b ≡ true) f t true u (λ _. refl) (λ _. e)

read_stays : (start : Beginning) (w : World) (t : ℕ) (v : Verdict) (known : Known) → w.verdict t ≡ None → Stays start w (decided w t v (Read t known ∷ w.log))
read_stays start w t v known none = record { prefixes = λ p was. was; contents = λ d c was. was; verdicts = verdict_stays w.verdict t v none; given_up = λ u e. e; grows = (Read t known ∷ [], refl) }

write_stays : (start : Beginning) (w : World) → Inv start w → (t : ℕ) (set : ℕ → Bool) (known : Known) (new : Change) → MayWrite start w t set known new → Stays start w (decided w t Answered (new_log start w t known new))
write_stays start w inv t set known new may =
    let next = next_row start w inv t set known new may in
    record {
      prefixes = was_prefix start w.log inv.logged t known (new_row start w new) next;
      contents = was_content start w.log inv.logged t known (new_row start w new) next;
      verdicts = verdict_stays w.verdict t Answered may.ready.undecided;
      given_up = λ u e. e;
      grows = (Wrote t known (new_row start w new) ∷ [], refl);
    }

quiet_stays : (start : Beginning) (w : World) (t : ℕ) (v : Verdict) → w.verdict t ≡ None → Stays start w (decided w t v w.log)
quiet_stays start w t v none = record { prefixes = λ p was. was; contents = λ d c was. was; verdicts = verdict_stays w.verdict t v none; given_up = λ u e. e; grows = ([], refl) }

step_stays : (start : Beginning) (w : World) → Inv start w → (event : Event) → May start w event → Stays start w (happens start w event)
step_stays start w inv (Grant i t e) may = record { prefixes = λ p was. was; contents = λ d c was. was; verdicts = λ t v e. e; given_up = λ t e. e; grows = ([], refl) }
step_stays start w inv (Raise i t) may = record { prefixes = λ p was. was; contents = λ d c was. was; verdicts = λ t v e. e; given_up = λ t e. e; grows = ([], refl) }
step_stays start w inv (Hear i t e) may = record { prefixes = λ p was. was; contents = λ d c was. was; verdicts = λ t v e. e; given_up = λ t e. e; grows = ([], refl) }
step_stays start w inv (Aim t new) may = record { prefixes = λ p was. was; contents = λ d c was. was; verdicts = λ t v e. e; given_up = λ t e. e; grows = ([], refl) }
step_stays start w inv (Prepare i t left) may = record { prefixes = λ p was. was; contents = λ d c was. was; verdicts = λ t v e. e; given_up = λ t e. e; grows = ([], refl) }
step_stays start w inv (DecideRead t set known) may = read_stays start w t Answered known may.ready.undecided
step_stays start w inv (DecideRefused t set known) may = read_stays start w t Refused known may.ready.undecided
step_stays start w inv (DecideWrite t set known new) may = write_stays start w inv t set known new may
step_stays start w inv (DecideElsewhere t v) may = quiet_stays start w t v may.undecided
step_stays start w inv (Overrule t) may = quiet_stays start w t Aborted may.undecided
step_stays start w inv (GiveUp t) may = record { prefixes = λ p was. was; contents = λ d c was. was; verdicts = λ t v e. e; given_up = λ u e. gave_up_stays w.gave_up t u e; grows = ([], refl) }
step_stays start w inv (Finish i t v) may = record { prefixes = λ p was. was; contents = λ d c was. was; verdicts = λ t v e. e; given_up = λ t e. e; grows = ([], refl) }
step_stays start w inv (Lose keep) may = record { prefixes = λ p was. was; contents = λ d c was. was; verdicts = λ t v e. e; given_up = λ t e. e; grows = ([], refl) }

both : (start : Beginning) (a b c : World) → Stays start a b → Stays start b c → Stays start a c
both start a b c first second = record {
  prefixes = λ p was. second.prefixes p (first.prefixes p was);
  contents = λ d content was. second.contents d content (first.contents d content was);
  verdicts = λ t v e. second.verdicts t v (first.verdicts t v e);
  given_up = λ t e. second.given_up t (first.given_up t e);
  grows =
      let newer = first.grows in
      let newest = second.grows in
      (newest.0 ++ newer.0, newest.1 ∙ ap (λ log. newest.0 ++ log) newer.1 ∙ sym (append_assoc newest.0 newer.0 a.log));
}

pub run_stays : (start : Beginning) (w : World) → Inv start w → (later : List Event) → Obeys start w later → Stays start w (run start w later)
run_stays start w inv [] may = record { prefixes = λ p was. was; contents = λ d c was. was; verdicts = λ t v e. e; given_up = λ t e. e; grows = ([], refl) }
run_stays start w inv (event ∷ later) may =
    let next = happens start w event in
    both start w next (run start next later) (step_stays start w inv event may.0) (run_stays start next (step start w inv event may.0) later may.1)
