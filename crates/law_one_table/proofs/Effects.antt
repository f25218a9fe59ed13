-- What is in effect at the servers is what the machines of the suites have in effect.
use Rattle.law_one_table.proofs.Vocabulary.{Configuration, Content, kind_of, Opening, Prefix, PrefixKind, Replica, Row, row_with, prefix_kind, fixed_of, opening, step, arith, Beginning, prefix_at, World, IsQuorum, effect, begun, Event, happens, run}
use Rattle.law_one_table.proofs.Vocabulary.{quorums_show, superseded, what_was_stays, Shows, beginning, servers_of, home_in, events_of, moved, machine_from, history_from, machine_of, history_of, run-append, machines_follow, register, AllKeepSides}
use Rattle.law_one_table.proofs.Vocabulary.{copy_at, HasOne, HasHead, IsInEffect}
use Rattle.std.proofs.Common.{◌≡◌, ℕ, ◌<◌, ◌≤◌, Bool, List, [], ◌∷◌, ◌++◌, append_assoc, Some, refl, sym, ap, subst, ◌∙◌}
use Rattle.law_suite_machine.specs.Conditions.{Obeys}
use Rattle.law_suite_machine.specs.Laws.{QuorumsShowRow, Stays}
use Rattle.law_suite_machine.proofs.Invariant.{Inv}
use Rattle.law_suite_machine.proofs.Starting.{begins}
use Rattle.law_suite_machine.proofs.Steps.{all_steps}
use Rattle.law_run_machine.specs.Laws.{Follows}
use Rattle.run_core.specs.declared.event.Event as happening
use Rattle.run_core.specs.Worlds as worlds
use Rattle.run_core.specs.Runs as runs
use Rattle.law_suite_machine.specs.Laws as laws
use Rattle.law_one_table.proofs.Shown.{FitsAs}
use Rattle.law_one_table.proofs.Running.{earlier}

-- ---- the copy in effect

module _ (given : Opening) (events : List happening.Event) (z : ℕ) (w : World) (shows : Shows z (home_in given) (servers_of given (runs.run given events)) w) where
  pub effect_is : (i : ℕ) → effect w i ≡ copy_at given events z i
  effect_is i = search arith

  pub has_one : (set : ℕ → Bool) (P : Replica → Type 0) → laws.Shows w set P → HasOne given events z set P
  has_one set P shown = record { server = shown.server; inside = shown.inside; is = subst P (effect_is shown.server) shown.is }

-- ---- a row that is shown

pub record IsOfRow (k : PrefixKind) (prefix : Prefix) (content : Content) (row : Row) : Type 0 where
  pub kind_is : k ≡ prefix_kind (kind_of row.content)
  pub owner : prefix.owner ≡ row.owner
  pub group : prefix.group ≡ row.group
  pub acl : prefix.acl ≡ row.acl
  pub votes : prefix.votes ≡ row.votes
  pub content_is : content ≡ row.content

pub of_row : (k : PrefixKind) (prefix : Prefix) (content : Content) (row : Row) → FitsAs k content → row_with k prefix (Some content) ≡ Some row → IsOfRow k prefix content row
of_row k prefix content row h4 h5 = search arith

pub has_head : (prefix : Prefix) (content : Content) (row : Row) (other : Prefix) → IsOfRow prefix.kind prefix content row → other ≡ prefix → HasHead row other
has_head prefix content row other of is = search arith

-- ---- the machine of a suite, after a run

module _ (given : Opening) (events : List happening.Event) (kept : AllKeepSides given events) (z : ℕ) where
  pub follows : Follows given z events
  follows = machines_follow given z events kept.valid (kept.keep z)

  pub inv : Inv (beginning z given) (machine_of given z events)
  inv = subst (Inv (beginning z given)) (sym follows.is) (all_steps (beginning z given) (begun (beginning z given)) (begins (beginning z given) follows.begins) (history_of given z events) follows.obeys)

  current : QuorumsShowRow (beginning z given) (machine_of given z events)
  current = quorums_show (beginning z given) (machine_of given z events) inv

  pub effect_at : (i : ℕ) → effect (machine_of given z events) i ≡ copy_at given events z i
  effect_at i = effect_is given events z (machine_of given z events) follows.shows i

  pub in_effect : (row : Row) → IsOfRow (register given z events).prefix.kind (register given z events).prefix (register given z events).content row
      → IsInEffect given events z row (record { prefix = (register given z events).prefix.pver; content = (register given z events).dver })
  in_effect row of =
      let held = register given z events in
      record {
        head = λ set quorum.
            let shown = current.prefix set (subst (λ (votes : Configuration). IsQuorum votes set) (sym of.votes) quorum) in
            has_one given events z (machine_of given z events) follows.shows set (λ copy. (copy.prefix.pver ≡ held.prefix.pver) × HasHead row copy.prefix)
            (record {
              server = shown.server;
              inside = shown.inside;
              is = (ap (λ (prefix : Prefix). prefix.pver) shown.is, has_head held.prefix held.content row (effect (machine_of given z events) shown.server).prefix of shown.is);
            });
        content = λ set quorum.
            let shown = current.content set (subst (λ (votes : Configuration). IsQuorum votes set) (sym of.votes) quorum) in
            has_one given events z (machine_of given z events) follows.shows set (λ copy. (copy.dver ≡ held.dver) × (copy.content ≡ row.content))
            (record { server = shown.server; inside = shown.inside; is = (shown.is.0, shown.is.1 ∙ of.content_is) });
      }

  pub greatest : (server : ℕ) → ((copy_at given events z server).prefix.pver ≤ (register given z events).prefix.pver) × ((copy_at given events z server).dver ≤ (register given z events).dver)
  greatest server =
      subst (λ (copy : Replica). (copy.prefix.pver ≤ (register given z events).prefix.pver) × (copy.dver ≤ (register given z events).dver)) (effect_at server) (current.greatest server)

  -- every quorum under a prefix that the register had, and has no more, has a newer one in effect
  pub newer : (p : ℕ) (prefix : Prefix) (set : ℕ → Bool) → p < (register given z events).prefix.pver → prefix_at (beginning z given) (machine_of given z events).log p ≡ prefix → IsQuorum prefix.votes set
      → HasOne given events z set (λ copy. p < copy.prefix.pver)
  newer p prefix set less was quorum =
      has_one given events z (machine_of given z events) follows.shows set (λ copy. p < copy.prefix.pver)
      (superseded (beginning z given) (machine_of given z events) inv p less set (subst (λ (prefix : Prefix). IsQuorum prefix.votes set) (sym was) quorum))

-- ---- a run goes on

pub history_more : (given : Opening) (z : ℕ) (w : World) (world : worlds.World) (events later : List happening.Event)
    → history_from given z w world (events ++ later) ≡ history_from given z w world events ++ history_from given z (machine_from given z w world events) (runs.after (fixed_of given) world events) later
history_more given z w world [] later = refl
history_more given z w world (event ∷ events) later =
    let next = (step (fixed_of given) world event).world in
    ap (λ rest. events_of given z w world event ++ rest) (history_more given z (moved given z w world event) next events later)
    ∙ sym (append_assoc (events_of given z w world event) (history_from given z (moved given z w world event) next events)
    (history_from given z (machine_from given z (moved given z w world event) next events) (runs.after (fixed_of given) next events) later))

pub obeys_later : (start : Beginning) (w : World) (first later : List Event) → Obeys start w (first ++ later) → Obeys start (run start w first) later
obeys_later start w [] later obeys = obeys
obeys_later start w (event ∷ first) later obeys = obeys_later start (happens start w event) first later obeys.1

module _ (given : Opening) (events later : List happening.Event) (kept : AllKeepSides given (events ++ later)) (z : ℕ) where
  abbrev before : AllKeepSides given events
  before = earlier given events later kept

  abbrev start : Beginning
  start = beginning z given

  abbrev first : List Event
  first = history_of given z events

  abbrev rest : List Event
  rest = history_from given z (machine_of given z events) (runs.run given events) later

  pub goes_on : Stays start (machine_of given z events) (machine_of given z (events ++ later))
  goes_on =
      let was = follows given events before z in
      let now = follows given (events ++ later) kept z in
      let joined : history_of given z (events ++ later) ≡ first ++ rest = history_more given z (begun start) (opening given) events later in
      let obeys = subst (Obeys start (begun start)) joined now.obeys in
      let is : machine_of given z (events ++ later) ≡ run start (run start (begun start) first) rest = now.is ∙ ap (run start (begun start)) joined ∙ run-append start (begun start) first rest in
      subst (λ (w : World). Stays start w (machine_of given z (events ++ later))) (sym was.is)
      (subst (Stays start (run start (begun start) first)) (sym is) (what_was_stays start was.begins first rest was.obeys (obeys_later start (begun start) first rest obeys)))
