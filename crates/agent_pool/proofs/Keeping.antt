-- What an agent keeps: its number, and its count until it begins a job. At an ending it is idle.
use Rattle.agent_pool.proofs.Vocabulary.{◌≡◌, ◌≢◌, ℕ, ◌+◌, Bool, true, false, refl, ap, Option, Some, None, if◌then◌else◌, Request, Ending, Transaction, Sweep}
use Rattle.agent_pool.proofs.Vocabulary.{Response, Fixed, Doing, Running, RunningSweep, After, Ends, Agent, begin, end_of, is_idle, left, next_of, started}
use Rattle.agent_pool.proofs.Vocabulary.{take_in}
use Rattle.txn_core.specs.Doing.{GoesOn}
use Rattle.txn_core.specs.Agents.{begins, take}
use Rattle.txn_core.specs.declared.job.Job.{Job}

ended_idle : {D : Type 0} (as_doing : D → Doing) (after : After D) (ending : Ending) → end_of after ≡ Some ending → is_idle (left as_doing after) ≡ true
ended_idle as_doing (GoesOn more) ending ends = cc
ended_idle as_doing (Ends how) ending ends = refl

taken_index : (fixed : Fixed) (agent : Agent) (response : Response) (doing : Option Doing) (asked : Option (ℕ × Request)) → (take_in fixed agent response doing asked).agent.index ≡ agent.index
taken_index fixed agent response None asked = refl
taken_index fixed agent response (Some (Running running)) None = refl
taken_index fixed agent response (Some (RunningSweep sweep_run)) None = refl
taken_index fixed agent response (Some (Running running)) (Some asked) = refl
taken_index fixed agent response (Some (RunningSweep sweep_run)) (Some asked) = refl

taken_count : (fixed : Fixed) (agent : Agent) (response : Response) (doing : Option Doing) (asked : Option (ℕ × Request)) → (take_in fixed agent response doing asked).agent.count ≡ agent.count
taken_count fixed agent response None asked = refl
taken_count fixed agent response (Some (Running running)) None = refl
taken_count fixed agent response (Some (RunningSweep sweep_run)) None = refl
taken_count fixed agent response (Some (Running running)) (Some asked) = refl
taken_count fixed agent response (Some (RunningSweep sweep_run)) (Some asked) = refl

taken_idle : (fixed : Fixed) (agent : Agent) (response : Response) (doing : Option Doing) (asked : Option (ℕ × Request)) (ending : Ending) → (take_in fixed agent response doing asked).ending ≡ Some ending
    → is_idle (take_in fixed agent response doing asked).agent.doing ≡ true
taken_idle fixed agent response None asked ending ends = cc
taken_idle fixed agent response (Some (Running running)) None ending ends = cc
taken_idle fixed agent response (Some (RunningSweep sweep_run)) None ending ends = cc
taken_idle fixed agent response (Some (Running running)) (Some asked) ending ends = ended_idle Running _ ending ends
taken_idle fixed agent response (Some (RunningSweep sweep_run)) (Some asked) ending ends = ended_idle RunningSweep _ ending ends

pub take_index : (fixed : Fixed) (agent : Agent) (response : Response) → (take fixed agent response).agent.index ≡ agent.index
take_index fixed agent response = taken_index fixed agent response agent.doing (next_of fixed agent)

pub take_count : (fixed : Fixed) (agent : Agent) (response : Response) → (take fixed agent response).agent.count ≡ agent.count
take_count fixed agent response = taken_count fixed agent response agent.doing (next_of fixed agent)

pub take_idle : (fixed : Fixed) (agent : Agent) (response : Response) (ending : Ending) → (take fixed agent response).ending ≡ Some ending → is_idle (take fixed agent response).agent.doing ≡ true
take_idle fixed agent response ending ends = taken_idle fixed agent response agent.doing (next_of fixed agent) ending ends

started_index : (fixed : Fixed) (agent : Agent) (job : Job) → (started fixed agent job).index ≡ agent.index
started_index fixed agent (Transaction caller site ops) = refl
started_index fixed agent (Sweep server) = refl

-- what comes of a begin, by whether the job begins
abbrev begun : Bool → Fixed → Agent → Job → Agent
begun b fixed agent job = if b then record (started fixed agent job) { count = agent.count + 1 } else agent

begun_index : (b : Bool) (fixed : Fixed) (agent : Agent) (job : Job) → (begun b fixed agent job).index ≡ agent.index
begun_index true fixed agent job = started_index fixed agent job
begun_index false fixed agent job = refl

pub begin_index : (fixed : Fixed) (agent : Agent) (job : Job) → (begin fixed agent job).index ≡ agent.index
begin_index fixed agent job = begun_index (begins fixed agent job) fixed agent job

pub begin_count : (fixed : Fixed) (agent : Agent) (job : Job) → begins fixed agent job ≡ true → (begin fixed agent job).count ≡ agent.count + 1
begin_count fixed agent job is = ap (λ b. (begun b fixed agent job).count) is

pub begin_same : (fixed : Fixed) (agent : Agent) (job : Job) → begins fixed agent job ≡ false → begin fixed agent job ≡ agent
begin_same fixed agent job is = ap (λ b. begun b fixed agent job) is

began_by : (b : Bool) (fixed : Fixed) (agent : Agent) (job : Job) → (begun b fixed agent job).count ≢ agent.count → b ≡ true
began_by true fixed agent job other = refl
began_by false fixed agent job other = absurd (other refl)

-- where the count changes, the job began
pub began : (fixed : Fixed) (agent : Agent) (job : Job) → (begin fixed agent job).count ≢ agent.count → begins fixed agent job ≡ true
began fixed agent job other = began_by (begins fixed agent job) fixed agent job other
