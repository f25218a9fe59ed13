-- Single events: whether they have sense, what they serve, and what an agent puts down of them.
use Rattle.run_certify.proofs.Vocabulary.{◌≡◌, ◌≢◌, ℕ, zero, suc, ◌<◌, ◌≤◌, true, false, List, [], ◌∷◌, ◌++◌, length, Option, Some, None, refl, ap, ◌∙◌, arith, nat_lt, is_some, option_map, slice_get, nat_tests, none-some, same_Some, Request, Job}
use Rattle.run_certify.proofs.Vocabulary.{Response, Fixed, Agent, begin, forget, asked_at, asked_by, Done, EndedJob, Served, Event, Begin, Step, Crash, Return, Forget, Lack, asks_one, can_forget, has_sense, Actor, World, actor_at, becomes, lacks}
use Rattle.run_certify.proofs.Vocabulary.{operates, server_at, step, steps_once, AgentEntry, Asked, Ended, Lacked, ItemAt, asked, asker, entries_by, lacked, served_as, event_of, operated}
use Rattle.rep_core.specs.declared.request.Request.TheVariants as request
use Rattle.rep_core.specs.declared.stamped.Lack.{Lack as Why}
use Rattle.txn_core.specs.declared.response.Response.TheVariants.{Lacked as LackedResponse}

-- ---- numbers that there are, and others

get_there : {A : Type 0} (xs : List A) (i : ℕ) → i < length xs → (x : A) × (slice_get xs i ≡ Some x)
get_there [] i low = absurd (omega arith)
get_there (x ∷ xs) zero low = (x, refl)
get_there (x ∷ xs) (suc i) low = get_there xs i (omega arith)

get_past : {A : Type 0} (xs : List A) (i : ℕ) → length xs ≤ i → slice_get xs i ≡ None
get_past [] i past = refl
get_past (x ∷ xs) zero past = absurd (omega arith)
get_past (x ∷ xs) (suc i) past = get_past xs i (omega arith)

is_less : (a b : ℕ) → a < b → nat_lt a b ≡ true
is_less a b less = grind (arith, nat_tests)

is_no_less : (a b : ℕ) → b ≤ a → nat_lt a b ≡ false
is_no_less a b more = grind (arith, nat_tests)

-- ---- what stands first in a list of entries

abbrev first : AgentEntry → List AgentEntry → AgentEntry
first other [] = other
first other (entry ∷ entries) = entry

module _ (fixed : Fixed) (world : World) where
  -- ---- where nothing is served

  abbrev nothing : Done
  nothing = record { served = None; outcome = None }

  becomes_quiet : (number : ℕ) (change : Agent → Agent) (found : Option Actor) → (becomes world number change found).done ≡ nothing
  becomes_quiet number change found = search arith

  pub begin_quiet : (agent : ℕ) (job : Job) → (step fixed world (Begin agent job)).done ≡ nothing
  begin_quiet agent job = becomes_quiet agent (λ one. begin fixed one job) (actor_at world agent)

  pub forget_quiet : (agent site : ℕ) → (step fixed world (Forget agent site)).done ≡ nothing
  forget_quiet agent site = becomes_quiet agent (λ one. forget one site) (actor_at world agent)

  lacks_none : (number : ℕ) (response : Response) (found : Option Actor) → (lacks fixed world number response found).done.served ≡ None
  lacks_none number response found = search arith

  pub lack_serves_none : (agent : ℕ) (why : Why) → (step fixed world (Lack agent why)).done.served ≡ None
  lack_serves_none agent why = lacks_none agent (LackedResponse why) (actor_at world agent)

  -- ---- forgets

  pub forget_sense : (agent site : ℕ) → agent < length world.agents → site < 16 → has_sense fixed world (Forget agent site) ≡ true
  forget_sense agent site low small = ap (can_forget site) (get_there world.agents agent low).1 ∙ is_less site 16 small

  pub forget_none : (agent site : ℕ) → length world.agents ≤ agent → has_sense fixed world (Forget agent site) ≡ false
  forget_none agent site past = ap (can_forget site) (get_past world.agents agent past)

  pub forget_far : (agent site : ℕ) → 16 ≤ site → has_sense fixed world (Forget agent site) ≡ false
  forget_far agent site far = search arith

  -- ---- who is told that it is not served

  asks_some : (server : ℕ) (next : Option (ℕ × Request)) → option_map (λ (one : ℕ × Request). one.0) next ≡ Some server → is_some next ≡ true
  asks_some server next h2 = search arith

  pub lack_sense : (agent server : ℕ) (why : Why) → asked_at fixed world agent ≡ Some server → has_sense fixed world (Lack agent why) ≡ true
  lack_sense agent server why at = asks_some server (asked_by fixed (actor_at world agent)) at

  puts_lacked : (server : ℕ) (why : Why) (next : Option (ℕ × Request)) → option_map (λ (one : ℕ × Request). one.0) next ≡ Some server → lacked why next ≡ Lacked server why ∷ []
  puts_lacked server why next h3 = search arith

  pub lack_puts : (agent server : ℕ) (why : Why) → asked_at fixed world agent ≡ Some server → lacked why (asked_by fixed (actor_at world agent)) ≡ Lacked server why ∷ []
  lack_puts agent server why at = puts_lacked server why (asked_by fixed (actor_at world agent)) at

  puts_other : (server : ℕ) (why told : Why) (next : Option (ℕ × Request)) → option_map (λ (one : ℕ × Request). one.0) next ≢ Some server → is_some next ≡ true
      → (rest entries : List AgentEntry) → lacked why next ++ rest ≡ Lacked server told ∷ entries → ⊥
  puts_other server why told next h4 h5 rest entries h8 = search arith

  pub lack_other : (agent server : ℕ) (why told : Why) → asked_at fixed world agent ≢ Some server → has_sense fixed world (Lack agent why) ≡ true → (rest entries : List AgentEntry)
      → lacked why (asked_by fixed (actor_at world agent)) ++ rest ≡ Lacked server told ∷ entries → ⊥
  lack_other agent server why told other sense rest entries same = puts_other server why told (asked_by fixed (actor_at world agent)) other sense rest entries same

  -- ---- steps

  actor_serves : (number : ℕ) (what : Served) (found : Option Actor) → (steps_once fixed world number found).done.served ≡ Some what → asks_one world (asked_by fixed found) ≡ true
  actor_serves number what found h3 = search arith

  pub served_sense : (agent : ℕ) (what : Served) → (step fixed world (Step agent)).done.served ≡ Some what → has_sense fixed world (Step agent) ≡ true
  served_sense agent what is = actor_serves agent what (actor_at world agent) is

  pub unserved : (agent : ℕ) → (step fixed world (Step agent)).done.served ≡ None → (server stamp : ℕ) (rest entries : List AgentEntry) → has_sense fixed world (Step agent) ≡ true
      → entries_by fixed world (Step agent) (step fixed world (Step agent)).done ++ rest ≡ Asked server stamp ∷ entries → ⊥
  unserved agent none server stamp rest entries sense same = search arith

  -- ---- agents and servers that are not there

  pub no_agent : (agent : ℕ) (entry : AgentEntry) (event : Event) → length world.agents ≤ agent → event_of agent entry ≡ Some event → has_sense fixed world event ≡ false
  no_agent agent entry event past spells = search (get_past, same_Some, none-some, arith)

  no_server : (server : ℕ) (asked : Request) → length world.servers ≤ server → is_some (operates world server asked (server_at world server)).done.served ≡ false
  no_server server asked past = ap (λ found. is_some (operates world server asked found).done.served) (get_past world.servers server past)

  pub no_crash : (server : ℕ) → length world.servers ≤ server → has_sense fixed world (Crash server) ≡ false
  no_crash server past = no_server server request.Crash past

  pub no_return : (server : ℕ) → length world.servers ≤ server → has_sense fixed world (Return server) ≡ false
  no_return server past = no_server server request.Return past

  -- ---- of any event

  asked_it : (who : Option ℕ) (served : Option Served) (what : ItemAt) → served_as who served ≡ Some what → what.item.agent ≡ who
  asked_it who served what h3 = search arith

  pub asks_as : (event : Event) (what : ItemAt) → served_as (asker event) (step fixed world event).done.served ≡ Some what → what.item.agent ≡ asker event
  asks_as event what is = asked_it (asker event) (step fixed world event).done.served what is

  pub no_end : (event : Event) (outcome : EndedJob) (rest : List AgentEntry) → entries_by fixed world event (step fixed world event).done ≡ Ended outcome ∷ rest → ⊥
  no_end event outcome rest h3 = search arith

  pub operator_serves : (event : Event) (what : ItemAt) → asker event ≡ None → served_as (asker event) (step fixed world event).done.served ≡ Some what → operated what.server what.item.request.value ≡ event ∷ []
  operator_serves event what h2 h3 = search arith
