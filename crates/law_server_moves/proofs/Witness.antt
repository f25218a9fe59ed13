-- A step that moves the machine: at a server of one, a transaction with an exclusive lock prepares a new prefix of the root.
use Rattle.law_server_moves.proofs.Vocabulary.{◌≡◌, ℕ, true, false, [], ◌∷◌, None, refl, subst, arith, IsValid, Prefix, Folder, Opening, Exclusive, Part, Request, Stamped, left_by, root_copy, State, opening, step, World, set1, begun, Overrule, aimed}
use Rattle.law_server_moves.proofs.Vocabulary.{Beginning, Change, Shows, SendsFixed, beginning, SomeStepMoves}
use Rattle.std.specs.FinSet.{empty}
use Rattle.std.proofs.lemmas.Option.{same_Some}
use Rattle.vote_core.specs.Quorums.{Configuration}
use Rattle.suite_prefix.specs.TwoLists.{closed_lists}
use Rattle.rep_core.proofs.Consistent.{consistent_opening, consistent_step}
use Rattle.std.specs.List.{IsDistinct}
use Rattle.rep_core.specs.declared.request.Take.TheVariants as take
use Rattle.rep_core.specs.declared.request.Request.TheVariants as request
use Rattle.law_suite_machine.specs.Events as events
use Rattle.law_server_moves.proofs.Opening.{opening_shows}

votes : Configuration
votes = record { reps = (0, 1) ∷ []; r = 1; w = 1 }

settings : Opening
unfolding votes
settings = record {
  servers = 1;
  agents = 1;
  c0 = votes;
  root_owner = 0;
  root_group = 0;
  root_acl = closed_lists;
  budget = 0;
  quota = 0;
  slots = 0;
  old = empty;
}

valid_votes : IsValid votes
unfolding votes IsDistinct
valid_votes = search arith

abbrev at_home : ℕ → ℕ
at_home t = 0

opened : ℕ → State
unfolding settings
opened i = opening i settings

polled : Stamped Request
polled = record { stamp = 0; value = request.Poll 5 0 Exclusive }

next_prefix : Prefix
unfolding votes
next_prefix = record { pver = 2; kind = Folder; owner = 0; group = 0; acl = closed_lists; votes = votes }

new_part : Part
new_part = record { suite = 0; mode = Exclusive; take = take.Prefix next_prefix }

new : Change
new = record { prefix = next_prefix; dver = 1; content = None }

locked : ℕ → State
unfolding opened polled
locked = set1 opened 0 (step (opened 0) polled)

start : Beginning
start = beginning 0 settings

before : World
before = aimed (events.heard (events.granted (begun start) 0 5 true) 0 5 true) 5 new

before_shows : Shows 0 at_home locked before
unfolding opened polled locked start before settings
before_shows = search arith

unlocked : (t : ℕ) → before.granted 0 t ≡ false → before.lock 0 t ≡ None
unfolding before start settings
unlocked t none = grind (arith)

sends : SendsFixed before (locked 0).locks 5 new_part
unfolding opened polled locked start before settings votes next_prefix new_part new
sends = record { first = refl; unanswered = λ e. cc; fixed = λ _. (new, refl, refl) }

pub some_step_moves : SomeStepMoves
unfolding opened polled locked start before settings votes next_prefix new_part new
some_step_moves = record {
  start = start;
  z = 0;
  home = at_home;
  servers = locked;
  i = 0;
  w = before;
  decision = Overrule 0;
  t = 5;
  parts = new_part ∷ [];
  left = left_by (take.Prefix next_prefix) (root_copy settings);
  begins = (opening_shows 0 at_home settings valid_votes).0;
  shows = before_shows;
  consistent = consistent_step (opened 0) polled (consistent_opening 0 settings);
  ungranted = unlocked;
  agent = λ part is. subst (λ part. SendsFixed before (locked 0).locks 5 part) (same_Some new_part part is) sends;
  not_full = refl;
  replies = refl;
  event = refl;
}
