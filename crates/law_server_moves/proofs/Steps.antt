-- A step of a server, whatever it is asked.
use Rattle.law_server_moves.proofs.Vocabulary.{◌≡◌, ℕ, true, false, cond, List, [], None, refl, Request, Reply, Stamped, in_the_way, has_lock, State, stands_prepared, can_prepare, reply_up, after_up, reply_down, after_down, arith, reply_of, after}
use Rattle.law_server_moves.proofs.Vocabulary.{asks_too_much, is_full, step, room, Beginning, World, set1, Event, run, Shows, AgentSide, moves, Follows, EachStepMoves}
use Rattle.rep_core.specs.Consistency.{IsConsistent}
use Rattle.rep_core.specs.declared.request.Request.TheVariants as request
use Rattle.law_server_moves.proofs.Keeping.{stays, nothing, shows_stamped}
use Rattle.law_server_moves.proofs.Asking.{poll_moves, upgrade_moves, break_moves, crash_moves}
use Rattle.law_server_moves.proofs.Ending.{finish_moves, decide_moves, resolve_moves}
use Rattle.law_server_moves.proofs.Preparing.{prepare_moves}

module _ (start : Beginning) (z : ℕ) (home : ℕ → ℕ) (servers : ℕ → State) (i : ℕ) (w : World) (decision : Event) (shows : Shows z home servers w)
    (consistent : IsConsistent (servers i)) (unlocked : (t : ℕ) → w.granted i t ≡ false → w.lock i t ≡ None) where
  abbrev Comes : Request → Reply → State → Type 0
  Comes asked said new = Follows start z home (set1 servers i new) w (moves z home decision i w asked said)

  none : Follows start z home (set1 servers i (servers i)) w []
  none = nothing start z home servers i w shows

  up : (asked : Request) → AgentSide start z home decision i (servers i).locks w asked → asks_too_much (servers i) asked ≡ false → Comes asked (reply_up (servers i) asked) (after_up (servers i) asked)
  up (request.Poll t s m) agent room = poll_moves start z home servers i w shows consistent.rising decision t s m agent (unlocked t) (in_the_way t s m (servers i).locks) refl
  up (request.Upgrade t s) agent room = upgrade_moves start z home servers i w shows consistent.rising decision t s (has_lock t s (servers i).locks) refl
  up (request.Prepare t parts) agent room = prepare_moves start z home servers i w shows decision t parts agent consistent.rising consistent.sound room (stands_prepared (servers i) t parts) (can_prepare (servers i) t parts) refl refl
  up (request.Decide t decided) agent room = decide_moves start z home servers i w shows t decided decision agent
  up (request.Resolve t) agent room = resolve_moves start z home servers i w shows t decision
  up (request.Finish t v) agent room = finish_moves start z home servers i w shows t v agent consistent.sound
  up (request.Break t s) agent room = break_moves start z home servers i w shows consistent.rising decision t s
  up request.Crash agent room = crash_moves start z home servers i w shows consistent.rising decision
  up _ agent room = none

  down : (asked : Request) → Comes asked (reply_down asked) (after_down (servers i) asked)
  down asked = search (stays, up, none, arith)

  any : (asked : Request) → AgentSide start z home decision i (servers i).locks w asked → ((servers i).up ≡ true → asks_too_much (servers i) asked ≡ false) → Comes asked (reply_of (servers i) asked) (after (servers i) asked)
  any asked agent room =
      elim ((servers i).up) as (λ b. (servers i).up ≡ b → Comes asked (cond b (reply_up (servers i) asked) (reply_down asked)) (cond b (after_up (servers i) asked) (after_down (servers i) asked))) [
        | true ↦ λ is. up asked agent (room is)
        | false ↦ λ _. down asked
      ] refl

  stamped : (new : State) (stamp : ℕ) (events : List Event) → Follows start z home (set1 servers i new) w events → Follows start z home (set1 servers i (record new { stamp = stamp })) w events
  stamped new stamp events follows = record { obeys = follows.obeys; shows = shows_stamped z home servers i new stamp (run start w events) follows.shows }

  pub step_moves : (asked : Stamped Request) → AgentSide start z home decision i (servers i).locks w asked.value → is_full (servers i) asked ≡ false → Comes asked.value (reply_of (servers i) asked.value) (step (servers i) asked)
  step_moves asked agent not_full = grind (stamped, any, room, arith)

pub each_step_moves : EachStepMoves
each_step_moves start z home servers i w decision asked shows consistent unlocked agent not_full = step_moves start z home servers i w decision shows consistent unlocked asked agent not_full
