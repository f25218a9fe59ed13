-- What a world promises, from the laws of its run.
use Rattle.law_headline.proofs.Vocabulary.{List, [], ◌∷◌, ◌++◌, Opening, Event, decided_once, decisions_are_the_records, CanBe, VotesAreValid, after-append, arith}
use Rattle.run_core.specs.Runs.{after}
use Rattle.run_core.specs.Opened.{Opened}
use Rattle.law_headline.specs.Promises.{IsPromised, OpensARun, PlaysOn, Promises}
use Rattle.law_headline.proofs.Asked.{are_as_begun}
use Rattle.law_headline.proofs.Nothing.{not_decided_change_nothing}
use Rattle.law_headline.proofs.Conclusions.{answers_are_the_tables, audit_is_the_denials, answered_before, revocations_are_met, rows_have_versions}

-- ---- events that can be, and those of them that came first

pub front : (given : Opening) (before later : List Event) → CanBe given (before ++ later) → CanBe given before
front given before later can = record { accepted = can.accepted; c0 = can.c0; votes = of before can.votes }
  where
    of : (before : List Event) → VotesAreValid (before ++ later) → VotesAreValid before
    of [] votes = tt
    of (event ∷ before) votes = (votes.0, of before votes.1)

pub both : (before later : List Event) → VotesAreValid before → VotesAreValid later → VotesAreValid (before ++ later)
both [] later first second = second
both (event ∷ before) later first second = (first.0, both before later first.1 second)

-- ---- a world as it opens, and as it goes on

pub opens : OpensARun
opens opened accepted c0 is = record { can_be = record { accepted = accepted; c0 = c0; votes = tt }; is = is }

pub goes_on : PlaysOn
goes_on opened events later world so valid is = search (both, after-append, arith)

-- ---- what is promised

pub promised : (given : Opening) (events : List Event) → CanBe given events → IsPromised given events
promised given events can = let versions = rows_have_versions given events can in record {
  answers = answers_are_the_tables given events can;
  begun = are_as_begun given can.accepted events;
  in_order = answered_before given events can;
  changes = revocations_are_met given events can;
  versions = versions;
  once = decided_once given can.accepted events;
  nothing = λ t absent. not_decided_change_nothing given events versions t can absent;
  recorded = decisions_are_the_records given can.accepted events;
  audits = (audit_is_the_denials given events can).1;
  audit = (audit_is_the_denials given events can).0;
}

pub promises : (opened : Opened) → Promises opened
promises opened before later is = promised opened.given before (front opened.given before later is.can_be)
