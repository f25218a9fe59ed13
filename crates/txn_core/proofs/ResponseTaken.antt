-- An agent that takes a response, as its code goes about it.
use Rattle.txn_core.proofs.Vocabulary.{◌≡◌, ◌<◌, ◌≤◌, Option, Some, None, Result, Ok, Err, refl, ap, sym, subst, ◌∙◌, option_map, MAX_SERVERS, Cache, Ending, Undecided, Flow, On, Ended, Response, Replied, Lacked, Reply, Lack, Agent, take_in, take, next_in, Fixed}
use Rattle.txn_core.proofs.Vocabulary.{TransactionRun, Doing, Running, Standing, arith, left_by, Steps, taken, request_of, HasUnused, Keeps, Resources, SweepRun, doing_of, standing_of, unbegun, GoesBy, IsStep, ending_of, fixed_by, replied}
use Rattle.std.specs.Borrow.{Bor}
use Rattle.suite_prefix.specs.SettingsRules.{max_agents}
use Rattle.txn_core.specs.Agents.{max_jobs}
use Rattle.txn_core.specs.Standing.{response_of}
use Rattle.txn_core.specs.Sweeps.{after_answer, after_response, asked_now}
use Rattle.txn_core.specs.Transactions.{lack_cause}
use Rattle.txn_core.specs.declared.agent.Agent.TheInside.{Inside}
use Rattle.txn_core.specs.declared.agent.Doing.{Doing as Coded}
use Rattle.txn_core.specs.declared.agent.Doing.TheVariants as coded
use Rattle.txn_core.specs.code.AgentFields.{IsStanding}
use Rattle.txn_core.specs.code.Goings.{lacked}
use Rattle.txn_core.specs.code.SweepRunFields.{Comes}

-- what was taken: the ending, and the agent after it
pub record Took (fixed : Fixed) (state : Agent) (response : Response) (ending : Option Ending) (cache : Cache) (doing : Option Doing) : Type 0 where
  pub told : ending ≡ (take fixed state response).ending
  pub agent : record state { cache = cache; doing = left_by ending doing } ≡ (take fixed state response).agent

module _ (fixed : Fixed) (state : Agent) (response : Response) (ending : Option Ending) where
  take_of : (doing : Option Doing) → state.doing ≡ doing → take fixed state response ≡ take_in fixed state response doing (next_in fixed doing)
  take_of doing is = ap (λ doing. take_in fixed state response doing (next_in fixed doing)) is

  -- ---- a transaction

  module _ (after : TransactionRun) (kept : Cache) where
    pub took_response : (running : TransactionRun) → state.doing ≡ Some (Running running)
        → Steps (taken fixed running state.cache (request_of fixed running) response) ending after kept → Took fixed state response ending kept (Some (Running after))
    took_response running is steps = search arith

-- ---- the fields of an agent that has taken a response, before a job at its end is let go

pub record Came (now : Standing) (response : Response) (ending : Option Ending) (fields : Inside) : Type 0 where
  pub told : ending ≡ (take now.fixed now.state response).ending
  pub fixed : (standing_of fields).fixed ≡ now.fixed
  pub agent : record (standing_of fields).state { doing = left_by ending (option_map doing_of fields.doing) } ≡ (take now.fixed now.state response).agent
  pub index : fields.index < max_agents
  pub jobs : fields.count ≤ max_jobs
  pub servers : (0 < fields.resources.fixed_parts.servers) × (fields.resources.fixed_parts.servers ≤ MAX_SERVERS)
  pub unused : HasUnused fields.resources.cache.entries

module _ (was : Inside) (stands : IsStanding was) (response : Response) (ending : Option Ending) where
  on_run : (before after : TransactionRun) (resources : Resources) → was.doing ≡ Some (coded.Running before)
      → Steps (taken (standing_of was).fixed before was.resources.cache.entries (request_of (standing_of was).fixed before) response) ending after resources.cache.entries
      → Keeps was.resources resources → Came (standing_of was) response ending (record { index = was.index; count = was.count; resources = resources; doing = Some (coded.Running after) })
  on_run before after resources is steps keeps =
      let took : Took (standing_of was).fixed (standing_of was).state response ending resources.cache.entries (Some (Running after)) =
      took_response (standing_of was).fixed (standing_of was).state response ending after resources.cache.entries before (ap (option_map doing_of) is) steps in
      search (took, arith)

  on_sweep : (before after : SweepRun) → was.doing ≡ Some (coded.RunningSweep before)
      → Comes (after_response was.resources.fixed_parts before (asked_now was.resources.fixed_parts before before.now).0 response) ending after
      → Came (standing_of was) response ending (record { index = was.index; count = was.count; resources = was.resources; doing = Some (coded.RunningSweep after) })
  on_sweep before after is comes = search arith

-- by what it did, what came, and what this led to
module _ {was : Inside} {now : Standing} {flow led : Flow} {fields : Inside} (view : standing_of was ≡ now) (stands : IsStanding was) (is : flow ≡ led) where
  to_now : (came : Result (Bor Reply) Lack) (response : Response) (left : Inside) → response_of came ≡ response → fields ≡ left → Came (standing_of was) response (ending_of led) left → Came now (response_of came) (ending_of flow) fields
  to_now came response left said same is-come = search arith

  pub run_replied : {came : Result (Bor Reply) Lack} {doing : Coded} {said : Bor Reply} {before after : TransactionRun} {resources : Resources} → came ≡ Ok said → was.doing ≡ Some doing → doing ≡ coded.Running before
      → IsStep was.resources (replied was.resources before said.now) led after resources
      → fields ≡ record { index = was.index; count = was.count; resources = resources; doing = Some (coded.Running after) } → Came now (response_of came) (ending_of flow) fields
  run_replied {came} {doing} {said} {before} {after} {resources} h1 h2 h3 step left =
      to_now came (Replied said.now) _ (ap response_of h1) left (on_run was stands (Replied said.now) (ending_of led) before after resources (h2 ∙ ap (λ (doing : Coded). Some doing) h3) step.steps step.keeps)

  pub run_lacked : {came : Result (Bor Reply) Lack} {doing : Coded} {why : Lack} {before after : TransactionRun} {resources : Resources} → came ≡ Err why → was.doing ≡ Some doing → doing ≡ coded.Running before
      → GoesBy (lacked (fixed_by was.resources) before was.resources.cache.entries why) led after was.resources.cache.entries → resources ≡ record was.resources { progress = unbegun }
      → fields ≡ record { index = was.index; count = was.count; resources = resources; doing = Some (coded.Running after) } → Came now (response_of came) (ending_of flow) fields
  run_lacked {came} {doing} {why} {before} {after} {resources} h1 h2 h3 steps same left =
      to_now came (Lacked why) _ (ap response_of h1) left
      (on_run was stands (Lacked why) (ending_of led) before after resources (h2 ∙ ap (λ (doing : Coded). Some doing) h3)
      (subst (λ (resources : Resources). GoesBy (lacked (fixed_by was.resources) before was.resources.cache.entries why) led after resources.cache.entries) (sym same) steps)
      (subst (λ (resources : Resources). Keeps was.resources resources) (sym same) (record { fixed_parts = refl; limits = refl; unused = stands.unused })))

  pub sweep_replied : {came : Result (Bor Reply) Lack} {doing : Coded} {said : Bor Reply} {before after : SweepRun} → came ≡ Ok said → was.doing ≡ Some doing → doing ≡ coded.RunningSweep before
      → Comes (after_answer was.resources.fixed_parts before before.now said.now) (ending_of led) after
      → fields ≡ record { index = was.index; count = was.count; resources = was.resources; doing = Some (coded.RunningSweep after) } → Came now (response_of came) (ending_of flow) fields
  sweep_replied {came} {doing} {said} {before} {after} h1 h2 h3 comes left =
      to_now came (Replied said.now) _ (ap response_of h1) left (on_sweep was stands (Replied said.now) (ending_of led) before after (h2 ∙ ap (λ (doing : Coded). Some doing) h3) comes)

  pub sweep_lacked : {came : Result (Bor Reply) Lack} {doing : Coded} {why : Lack} {before : SweepRun} → came ≡ Err why → was.doing ≡ Some doing → doing ≡ coded.RunningSweep before
      → led ≡ Ended (Undecided (lack_cause (asked_now was.resources.fixed_parts before before.now).0 why))
      → fields ≡ record { index = was.index; count = was.count; resources = was.resources; doing = Some (coded.RunningSweep before) } → Came now (response_of came) (ending_of flow) fields
  sweep_lacked {came} {doing} {why} {before} h1 h2 h3 ends left =
      to_now came (Lacked why) _ (ap response_of h1) left (on_sweep was stands (Lacked why) (ending_of led) before before (h2 ∙ ap (λ (doing : Coded). Some doing) h3) (ap ending_of ends))

  pub idle_told : (came : Result (Bor Reply) Lack) → was.doing ≡ None → led ≡ On → fields ≡ was → Came now (response_of came) (ending_of flow) fields
  idle_told came idle on left = to_now came (response_of came) was refl left (search arith)

-- the job is at its end, and let go
pub ended_stands : (now : Standing) (response : Response) (ending : Option Ending) (fields : Inside) (left : Resources) → Came now response ending fields
    → left ≡ record fields.resources { progress = unbegun } → IsStanding (record { index = fields.index; count = fields.count; resources = left; doing = None })
ended_stands now response ending fields left came is = search arith
