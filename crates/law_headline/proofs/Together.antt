-- What holds together of a world and of the machine of a suite, as long as agents give what they owe: at the opening, and event by event.
use Rattle.law_headline.proofs.Vocabulary.{ℕ, ◌≤◌, sym, subst, Opening, IsValid, max_servers, fixed_of, step, World, begun, Inv, all_steps, Shows, beginning, KeepsSide, Owed, servers_open, event_comes, AllLinked, Readied, ready_next, event_all, next}
use Rattle.law_headline.proofs.Vocabulary.{opens_linked, opens_waiting, opens_readied, AllFit, event_fits, opens_fit, AllAgree, opens as jobs_open, servers_of, home_in, events_of, moved}
use Rattle.law_run_machine.proofs.Consistent.{AllConsistent, opening_consistent}
use Rattle.law_suite_machine.proofs.Starting.{begins}
use Rattle.law_server_moves.proofs.Opening.{opening_shows}
use Rattle.law_run_machine.proofs.Waited.{AllWaiting, waits_next}
use Rattle.law_run_quorums.proofs.Events.{event_agrees}
use Rattle.law_run_quorums.proofs.Runs.{opens_agree}
use Rattle.law_run_machine.proofs.Jobs.{All}
use Rattle.run_core.specs.declared.event.Event as happening
use Rattle.run_core.specs.Worlds as worlds

pub record Together (given : Opening) (z : ℕ) (w : World) (world : worlds.World) : Type 0 where
  pub inv : Inv (beginning z given) w
  pub shows : Shows z (home_in given) (servers_of given world) w
  pub all : AllConsistent (servers_of given world)
  pub linked : AllLinked z w world
  pub waiting : AllWaiting given world
  pub readied : Readied z w world
  pub jobs : All (fixed_of given) world
  pub fits : AllFit z (beginning z given) w world  -- what agents hold of the suite was its register's
  pub agrees : AllAgree z w world  -- and collectors hold what the machine told

-- at the opening
pub opens : (given : Opening) (z : ℕ) → IsValid given.c0 → given.agents ≤ 64 → given.servers ≤ max_servers → Together given z (begun (beginning z given)) (worlds.opening given)
opens given z valid few few_servers =
    let first = opening_shows z (home_in given) given valid in
    record {
      inv = begins (beginning z given) first.0;
      shows = subst (λ servers. Shows z (home_in given) servers (begun (beginning z given))) (sym (servers_open given)) first.1;
      all = opening_consistent given;
      linked = opens_linked z given few;
      waiting = opens_waiting given;
      readied = opens_readied z given few_servers;
      jobs = λ n actor. jobs_open (fixed_of given) 0 given.agents n actor;
      fits = opens_fit z given;
      agrees = opens_agree given z;
    }

module _ (given : Opening) (z : ℕ) (w : World) (world : worlds.World) (now : Together given z w world) where
  -- an event in which agents keep to their side
  pub goes_on : (event : happening.Event) → Owed given z w world → KeepsSide given z w world event × Together given z (moved given z w world event) (step (fixed_of given) world event).world
  goes_on event owed =
      let one = next given z w world now.inv now.shows now.all now.linked owed now.waiting now.readied now.jobs event in
      let comes = event_comes given z w world now.inv now.shows now.all event one.0 in (
        one.0,
        record {
          inv = all_steps (beginning z given) w now.inv (events_of given z w world event) comes.obeys;
          shows = comes.shows;
          all = comes.consistent;
          linked = one.1;
          waiting = waits_next given z w world now.linked now.waiting event;
          readied = ready_next given z w world now.readied event;
          jobs = event_all (fixed_of given) world now.jobs event;
          fits = event_fits given z w world now.inv now.shows now.all now.jobs now.fits event one.0;
          agrees = event_agrees given z w world now.inv now.shows now.all now.linked now.agrees event one.0;
        },
      )
