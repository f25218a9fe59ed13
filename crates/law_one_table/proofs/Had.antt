-- Each prefix and each content that a register had is the register's own after some beginning of the run.
use Rattle.law_one_table.proofs.Vocabulary.{Content, Opening, Prefix, Replica, fixed_of, Decided, decided, Beginning, IsBeginning, Known, Entry, Wrote, IsNext, IsPlain, changed, row, prefix_at, content_at, World, Event, DecideRead, DecideRefused}
use Rattle.law_one_table.proofs.Vocabulary.{DecideWrite, happens, beginning, machine_of, register, AllKeepSides}
use Rattle.std.proofs.Common.{◌≡◌, inl, inr, ℕ, ◌<◌, ◌≤◌, List, [], ◌∷◌, ◌++◌, append_assoc, Option, Some, None, sym, ap, subst, ◌∙◌, arith}
use Rattle.law_runs.proofs.Table.{one_more}
use Rattle.law_suite_machine.proofs.Places.{at1}
use Rattle.run_core.specs.declared.event.Event as happening
use Rattle.run_core.specs.Runs as runs
use Rattle.law_one_table.proofs.Logs.{LogIs, decision_at, event_log}
use Rattle.law_one_table.proofs.Running.{earlier, next_kept, nothing_more, machine_one}
use Rattle.law_one_table.proofs.Effects.{follows, inv}

-- the register was of some kind after a beginning of these events
pub record Found (given : Opening) (z : ℕ) (events : List happening.Event) (P : Replica → Type 0) : Type 0 where
  pub before : List happening.Event
  pub later : List happening.Event
  pub parts : events ≡ before ++ later
  pub is : P (register given z before)

-- all that a log has
pub record Had (given : Opening) (z : ℕ) (events : List happening.Event) (log : List Entry) : Type 0 where
  pub prefix : (p : ℕ) → 0 < p → p ≤ (row (beginning z given) log).prefix.pver → Found given z events (λ held. (held.prefix.pver ≡ p) × (held.prefix ≡ prefix_at (beginning z given) log p))
  pub content : (d : ℕ) → 0 < d → d ≤ (row (beginning z given) log).dver → Found given z events (λ held. (held.dver ≡ d) × (held.content ≡ content_at (beginning z given) log d))

-- less, or the same
pub strict : (a b : ℕ) → a ≤ b → (a ≡ b → ⊥) → a < b
strict a b most other = search arith

-- ---- one event more

module _ (given : Opening) (z : ℕ) where
  abbrev start : Beginning
  start = beginning z given

  found_on : (events later : List happening.Event) (P : Replica → Type 0) → Found given z events P → Found given z (events ++ later) P
  found_on events later h2 found = search (append_assoc, arith)

  had_on : (events later : List happening.Event) (log : List Entry) → Had given z events log → Had given z (events ++ later) log
  had_on events later log had = grind (found_on, arith)

  -- the register as it is after all of them
  found_now : (events : List happening.Event) (P : Replica → Type 0) → P (register given z events) → Found given z events P
  found_now events P is = record { before = events; later = []; parts = sym (nothing_more events); is = is }

  wrote : (events : List happening.Event) (log : List Entry) (t : ℕ) (known : Known) (new : Replica) → register given z events ≡ new → IsNext (row start log) new → Had given z events log → Had given z events (Wrote t known new ∷ log)
  wrote events log t known new is next had = record {
    prefix = λ p some most.
        at1 (λ (value : Prefix). Found given z events (λ held. (held.prefix.pver ≡ p) × (held.prefix ≡ value))) (prefix_at start log) new.prefix.pver new.prefix p
        (λ here. found_now events (λ held. (held.prefix.pver ≡ p) × (held.prefix ≡ new.prefix)) (ap (λ (held : Replica). held.prefix.pver) is ∙ sym here, ap (λ (held : Replica). held.prefix) is))
        (λ other. had.prefix p some (let less = strict p new.prefix.pver most other in elim (next.prefix) [ inl same ↦ let e = ap (λ (prefix : Prefix). prefix.pver) same in omega arith | inr up ↦ omega arith ]));
    content = λ d some most.
        at1 (λ (value : Content). Found given z events (λ held. (held.dver ≡ d) × (held.content ≡ value))) (content_at start log) new.dver new.content d
        (λ here. found_now events (λ held. (held.dver ≡ d) × (held.content ≡ new.content)) (ap (λ (held : Replica). held.dver) is ∙ sym here, ap (λ (held : Replica). held.content) is))
        (λ other. had.content d some (let less = strict d new.dver most other in elim (next.content) [ inl same ↦ let e = same.0 in omega arith | inr up ↦ omega arith ]));
  }

  -- an event of the machine, after which the register is as after these events
  happened : (events : List happening.Event) (w : World) (event : Event) → register given z events ≡ row start (happens start w event).log
      → IsPlain start (happens start w event).log → Had given z events w.log → Had given z events (happens start w event).log
  happened events w (DecideRead t set known) is plain had = record { prefix = had.prefix; content = had.content }
  happened events w (DecideRefused t set known) is plain had = record { prefix = had.prefix; content = had.content }
  happened events w (DecideWrite t set known new) is plain had = wrote events w.log t known (changed new (row start w.log)) is plain.1 had
  happened events w other is plain had = had

  -- ---- of a run

  abbrev HadAll : List happening.Event → Type 0
  HadAll events = Had given z events (machine_of given z events).log

  had_first : IsBeginning start → HadAll []
  had_first begins = search arith

  module _ (events : List happening.Event) (event : happening.Event) (kept : AllKeepSides given (events ++ event ∷ [])) (had : HadAll events) where
    abbrev w : World
    w = machine_of given z events

    abbrev decision : Event
    decision = decision_at z w (runs.run given events) event

    abbrev all : List happening.Event
    all = events ++ event ∷ []

    log_is : LogIs start decision w (decided (fixed_of given) (runs.run given events) event) (machine_of given z all).log
    log_is =
        subst (λ (next : World). LogIs start decision w (decided (fixed_of given) (runs.run given events) event) next.log) (sym (machine_one given z events event))
        (event_log given z w (runs.run given events) (follows given events (earlier given events (event ∷ []) kept) z).shows event)

    had_more : HadAll all
    had_more = of (decided (fixed_of given) (runs.run given events) event) log_is
      where
        of : (one : Option Decided) → LogIs start decision w one (machine_of given z all).log → HadAll all
        of None is = subst (Had given z all) (sym is) (had_on events (event ∷ []) w.log had)
        of (Some one) is =
            subst (Had given z all) (sym is)
            (happened all w decision (ap (row start) is) (subst (IsPlain start) is (inv given all kept z).logged.plain) (had_on events (event ∷ []) w.log had))

  had_from : (later events : List happening.Event) → AllKeepSides given (events ++ later) → HadAll events → HadAll (events ++ later)
  had_from [] events kept had = subst HadAll (sym (nothing_more events)) had
  had_from (event ∷ later) events kept had =
      let goes = next_kept given events event later kept in
      subst HadAll (one_more events event later) (had_from later (events ++ event ∷ []) goes (had_more events event (earlier given (events ++ event ∷ []) later goes) had))

  pub had_all : (events : List happening.Event) → AllKeepSides given events → HadAll events
  had_all events kept = had_from events [] kept (had_first (follows given events kept z).begins)
