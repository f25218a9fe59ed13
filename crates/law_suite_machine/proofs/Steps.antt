-- Every event keeps the invariant.
use Rattle.law_suite_machine.proofs.Vocabulary.{◌≡◌, ℕ, Bool, true, false, ◌⊎◌, inl, inr, List, [], ◌∷◌, map, Some, None, refl, ap, subst, nat_eq, Replica, Beginning, Known, Change, Entry, Read, transaction, WasCopy, World, Told, arith, Intention}
use Rattle.law_suite_machine.proofs.Vocabulary.{Verdict, Answered, Refused, Aborted, set1, is_answered, Event, Grant, Raise, Hear, Aim, Prepare, DecideRead, DecideRefused, DecideWrite, DecideElsewhere, Overrule, GiveUp, Finish, Lose, happens, run, heard}
use Rattle.law_suite_machine.proofs.Vocabulary.{decided, finished, May, Obeys, MayRead, MayWrite, MayFinish}
use Rattle.std.proofs.lemmas.Map.Keys.{IsDistinct-cons}
use Rattle.law_suite_machine.proofs.Places.{at2}
use Rattle.law_suite_machine.proofs.Sound.{Sound, some_told}
use Rattle.law_suite_machine.proofs.Holding.{granted_sound, raised_sound, heard_sound, lost_sound}
use Rattle.law_suite_machine.proofs.Preparing.{prepared_sound, prepared_effect}
use Rattle.law_suite_machine.proofs.Finishing.{finished_sound, finished_effect, finished_copy}
use Rattle.law_suite_machine.proofs.Rows.{read_logged, write_logged, was_copy}
use Rattle.law_suite_machine.proofs.Invariant.{Inv, Current, same_current}
use Rattle.law_suite_machine.proofs.Knowing.{all_known}
use Rattle.law_suite_machine.proofs.Deciding.{decided_sound, decided_effect, given_up_sound, aimed_sound, unlogged, recorded_on, recorded_given_up}
use Rattle.law_suite_machine.proofs.Writing.{new_row, new_log, next_row, same_kind, still_empty}
use Rattle.law_suite_machine.proofs.Reaching.{write_current}

-- ---- locks

heard_told : (start : Beginning) (w : World) → Inv start w → (i t : ℕ) (e : Bool) (j u : ℕ) (a : Told) → (heard w i t e).told j u ≡ Some a → WasCopy start w.log a.copy
heard_told start w inv i t e j u a = at2 (λ o. o ≡ Some a → WasCopy start w.log a.copy) w.told i t _ j u
    (λ _ is. subst (λ (a : Told). WasCopy start w.log a.copy) (some_told _ a is) (inv.stored i))
    (λ _. inv.told j u a)

-- ---- Finish

finished_stored : (start : Beginning) (w : World) → Inv start w → (i t : ℕ) (v : Verdict) → MayFinish w t v → (j : ℕ) → WasCopy start w.log ((finished w i t v).copy j)
finished_stored start w inv i t v may j = search (finished_copy, arith)

-- ---- decisions

-- a verdict that ends what it decides
abbrev IsEnd : Verdict → Type 0
IsEnd v = (v ≡ Answered) ⊎ (v ≡ Refused)

verdict_now : (w : World) (t : ℕ) (v : Verdict) → IsEnd v → (set1 w.verdict t (Some v) t ≡ Some Answered) ⊎ (set1 w.verdict t (Some v) t ≡ Some Refused)
verdict_now w t v end = search arith

still_going : (w : World) (t : ℕ) (v : Verdict) → w.gave_up t ≡ false → w.gave_up t ≡ true → v ≡ Aborted
still_going w t v going gone = cc

read_current : (start : Beginning) (copies : ℕ → Replica) (log : List Entry) (t : ℕ) (known : Known) → Current start copies log → Current start copies (Read t known ∷ log)
read_current start copies log t known k = record { were = k.were; reach = k.reach; content = k.content }

-- a transaction that only read the suite, or has not asked for it, intends nothing there
unaimed_unplanned : (w : World) → Sound w → (t : ℕ) (v : Verdict) → w.aim t ≡ None → (i : ℕ) (p : Intention) → w.plan i ≡ Some p → p.t ≡ t → is_answered (Some v) ≡ false
unaimed_unplanned w s t v none i p plan same = let old = (s.aims i p plan).1 in let at = ap w.aim same in absurd cc

read_step : (start : Beginning) (w : World) → Inv start w → (t : ℕ) (v : Verdict) → IsEnd v → (set : ℕ → Bool) (known : Known) → MayRead start w t set known → Inv start (decided w t v (Read t known ∷ w.log))
read_step start w inv t v end set known may =
    let ready = may.ready in
    let log = Read t known ∷ w.log in
    record {
      sound = decided_sound w inv.sound t v log (still_going w t v ready.going);
      stored = inv.stored;
      told = inv.told;
      current = search (read_current, same_current, decided_effect, unaimed_unplanned, arith);
      logged = read_logged start w.log t known (all_known start w inv t set known ready may.knows) inv.logged;
      once = IsDistinct-cons nat_eq t (map transaction w.log) (unlogged w t ready.undecided w.log inv.recorded) inv.once;
      recorded = ((verdict_now w t v end, ready.going), recorded_on w t v ready.undecided w.log inv.recorded);
    }

write_step : (start : Beginning) (w : World) → Inv start w → (t : ℕ) (set : ℕ → Bool) (known : Known) (new : Change) → MayWrite start w t set known new → Inv start (decided w t Answered (new_log start w t known new))
write_step start w inv t set known new may =
    let ready = may.ready in
    let next = next_row start w inv t set known new may in
    record {
      sound = decided_sound w inv.sound t Answered (new_log start w t known new) (still_going w t Answered ready.going);
      stored = λ i. was_copy start w.log inv.logged t known (new_row start w new) next (w.copy i) (inv.stored i);
      told = λ i u a e. was_copy start w.log inv.logged t known (new_row start w new) next a.copy (inv.told i u a e);
      current = write_current start w inv t set known new may;
      logged = write_logged start w.log inv.logged t known (new_row start w new) (all_known start w inv t set known ready may.knows) next may.valid
          (still_empty start w inv t set known new may) (same_kind start w inv t set known new may);
      once = IsDistinct-cons nat_eq t (map transaction w.log) (unlogged w t ready.undecided w.log inv.recorded) inv.once;
      recorded = ((verdict_now w t Answered (inl refl), ready.going), recorded_on w t Answered ready.undecided w.log inv.recorded);
    }

-- a verdict that adds nothing to the log and lays no intention open
quiet_step : (start : Beginning) (w : World) → Inv start w → (t : ℕ) (v : Verdict) → w.verdict t ≡ None → (w.gave_up t ≡ true → v ≡ Aborted)
    → ((i : ℕ) (p : Intention) → w.plan i ≡ Some p → p.t ≡ t → is_answered (Some v) ≡ false) → Inv start (decided w t v w.log)
quiet_step start w inv t v undecided fit unplanned = search (decided_sound, same_current, decided_effect, recorded_on, arith)

-- ---- every event

pub step : (start : Beginning) (w : World) → Inv start w → (event : Event) → May start w event → Inv start (happens start w event)
step start w inv (Grant i t e) may = record { sound = granted_sound w inv.sound i t e may; stored = inv.stored; told = inv.told; current = inv.current; logged = inv.logged; once = inv.once; recorded = inv.recorded }
step start w inv (Raise i t) may = record { sound = raised_sound w inv.sound i t may; stored = inv.stored; told = inv.told; current = inv.current; logged = inv.logged; once = inv.once; recorded = inv.recorded }
step start w inv (Hear i t e) may = record { sound = heard_sound w inv.sound i t e may; stored = inv.stored; told = heard_told start w inv i t e; current = inv.current; logged = inv.logged; once = inv.once; recorded = inv.recorded }
step start w inv (Aim t new) may = record { sound = aimed_sound w inv.sound t new may; stored = inv.stored; told = inv.told; current = inv.current; logged = inv.logged; once = inv.once; recorded = inv.recorded }
step start w inv (Prepare i t left) may = search (prepared_sound, same_current, prepared_effect, arith)
step start w inv (DecideRead t set known) may = read_step start w inv t Answered (inl refl) set known may
step start w inv (DecideRefused t set known) may = read_step start w inv t Refused (inr refl) set known may
step start w inv (DecideWrite t set known new) may = write_step start w inv t set known new may
step start w inv (DecideElsewhere t v) may = quiet_step start w inv t v may.undecided (still_going w t v may.going) (unaimed_unplanned w inv.sound t v may.unaimed)
step start w inv (Overrule t) may = quiet_step start w inv t Aborted may.undecided (λ _. refl) (λ _ _ _ _. refl)
step start w inv (GiveUp t) may = search (given_up_sound, recorded_given_up, arith)
step start w inv (Finish i t v) may = search (finished_sound, finished_stored, same_current, finished_effect, arith)
step start w inv (Lose keep) may = record { sound = lost_sound w inv.sound keep may; stored = inv.stored; told = inv.told; current = inv.current; logged = inv.logged; once = inv.once; recorded = inv.recorded }

pub all_steps : (start : Beginning) (w : World) → Inv start w → (events : List Event) → Obeys start w events → Inv start (run start w events)
all_steps start w inv [] may = inv
all_steps start w inv (event ∷ later) may = all_steps start (happens start w event) (step start w inv event may.0) later may.1
