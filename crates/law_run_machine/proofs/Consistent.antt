-- What each request that is served keeps of the servers, each event keeps; so every server of a run is consistent.
use Rattle.law_run_machine.proofs.Vocabulary.{◌≡◌, ℕ, true, false, cond, List, [], ◌∷◌, Some, sym, ap, subst, ◌==◌, ◌∙◌, Opening, Request, Stamped, State, is_full, served, fixed_of, after, set1}
use Rattle.law_run_machine.proofs.Vocabulary.{servers_of, ServersAreConsistent}
use Rattle.rep_core.specs.Consistency.{IsConsistent}
use Rattle.rep_core.proofs.Consistent.{consistent_opening, consistent_step}
use Rattle.run_core.specs.declared.event.Event.{Event}
use Rattle.run_core.specs.Worlds.{World, opening, server_at, with_server, step}
use Rattle.rep_core.specs.Serving as serving
use Rattle.law_runs.proofs.Moves.{sent, unstamped, by_moves}
use Rattle.law_run_machine.proofs.Servers.{servers_set, server_there, servers_open}

-- a request that is served keeps it
abbrev pub ServingKeeps : Opening → ((ℕ → State) → Type 0) → Type 0
ServingKeeps given P = (world : World) (i : ℕ) (st : State) (asked : Stamped Request) → server_at world i ≡ Some st → is_full st asked ≡ false → P (servers_of given world) → P (servers_of given (with_server i (served st asked) world))

module _ (given : Opening) (P : (ℕ → State) → Type 0) (keeps : ServingKeeps given P) where
  event_keeps : (world : World) → P (servers_of given world) → (event : Event) → P (servers_of given (step (fixed_of given) world event).world)
  event_keeps world holds = by_moves (fixed_of given) world (λ _ stepped. P (servers_of given stepped.world)) (record {
    nothing = λ event. holds;
    begins = λ number actor job is. holds;
    forgets = λ number actor site is. holds;
    answers = λ number actor asked st is next there room. keeps world asked.0 st (sent actor asked.1) there room holds;
    lacks = λ event number actor asked why by is next. holds;
    operates = λ event server asked st by there room. keeps world server st (unstamped asked) there room holds;
  })

  pub all_keep : (world : World) (events : List Event) → P (servers_of given world) → P (servers_of given (after (fixed_of given) world events))
  all_keep world [] holds = holds
  all_keep world (event ∷ events) holds = all_keep (step (fixed_of given) world event).world events (event_keeps world holds event)

-- ---- consistent

abbrev pub AllConsistent : (ℕ → State) → Type 0
AllConsistent servers = (i : ℕ) → IsConsistent (servers i)

pub served_is : (st : State) (asked : Stamped Request) → is_full st asked ≡ false → serving.step st asked ≡ served st asked
served_is st asked none = ap (λ b. cond b st (served st asked)) none

pub stepped_is : (given : Opening) (world : World) (i : ℕ) (st : State) (asked : Stamped Request) → server_at world i ≡ Some st → is_full st asked ≡ false
    → set1 (servers_of given world) i (serving.step (servers_of given world i) asked) ≡ servers_of given (with_server i (served st asked) world)
stepped_is given world i st asked there none =
    ap (λ st. set1 (servers_of given world) i (serving.step st asked)) (server_there given world i st there)
    ∙ ap (set1 (servers_of given world) i) (served_is st asked none)
    ∙ servers_set given world i st (served st asked) there

pub consistent_serving : (given : Opening) → ServingKeeps given AllConsistent
consistent_serving given world i st asked there none all =
    let here : IsConsistent st = subst IsConsistent (server_there given world i st there) (all i) in
    subst AllConsistent (servers_set given world i st (served st asked) there) (λ j. by j (subst IsConsistent (served_is st asked none) (consistent_step st asked here)))
  where
    by : (j : ℕ) → IsConsistent (served st asked) → IsConsistent (set1 (servers_of given world) i (served st asked) j)
    by j is = elim (j == i) as (λ b. IsConsistent (cond b (served st asked) (servers_of given world j))) [ true ↦ is | false ↦ all j ]

pub opening_consistent : (given : Opening) → AllConsistent (servers_of given (opening given))
opening_consistent given = subst AllConsistent (sym (servers_open given)) (λ i. consistent_opening i given)

pub servers_are_consistent : ServersAreConsistent
servers_are_consistent given events = all_keep given AllConsistent (consistent_serving given) (opening given) events (opening_consistent given)
