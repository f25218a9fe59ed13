-- The order of a sweep's requests, said of its exchanges alone: its next request is a function of what it asked and was told, and so are its counts.
use Rattle.std.specs.Prelude.{◌≡◌, ℕ, not, Bool, true, false, ◌&&◌, if◌then◌else◌, List, [], ◌∷◌, ◌++◌, Option, Some, None}
use Rattle.file_ops.specs.declared.service.Service.{Service}
use Rattle.rep_core.specs.declared.lock.Lock.{Lock}
use Rattle.rep_core.specs.declared.request.Request.{Request}
use Rattle.rep_core.specs.declared.request.Request.TheVariants as request
use Rattle.rep_core.specs.declared.reply.Reply.TheVariants as reply
use Rattle.rep_core.specs.Locks.{is_own, has_prepared}
use Rattle.txn_core.specs.declared.response.Response.{Response}
use Rattle.txn_core.specs.declared.response.Response.TheVariants.{Replied}
use Rattle.txn_core.specs.declared.ending.Ending.TheVariants.{Swept}
use Rattle.txn_core.specs.declared.job.Job.TheVariants.{Sweep}
use Rattle.txn_core.specs.Doing.{Fixed, home_of}
use Rattle.txn_core.specs.Sweeps.{rising, others}
use Rattle.txn_core.specs.Agents.{Agent, Event, Take, next_of, take, is_idle}
use Rattle.txn_core.specs.Laws.{Exchange, of_job, count_of}
use Rattle.txn_core.specs.Undecided.{is_finish}
use Rattle.law_agents.specs.Steps.{agent_after}

-- ---- what is left of the locks that were listed

-- the locks without the first one that the transaction has on the suite
abbrev pub without : ℕ → ℕ → List Lock → List Lock
without t suite [] = []
without t suite (lock ∷ locks) = if is_own t suite lock then locks else lock ∷ without t suite locks

-- The locks that are told are left, rising. A Resolve has done with all locks of its transaction, a Break with its own.
abbrev pub left_then : List Lock → Request → Response → List Lock
left_then before request.Locks (Replied (reply.Locked locks)) = rising locks
left_then before (request.Resolve t) told = others t before
left_then before (request.Break t suite) told = without t suite before
left_then before asked told = before

abbrev pub left_from : List Lock → List Exchange → List Lock
left_from before [] = before
left_from before (one ∷ later) = left_from (left_then before one.request one.response) later

abbrev pub left_by : List Exchange → List Lock
left_by past = left_from [] past

-- ---- what is asked next

-- Of the first lock that is left: its home is asked how its transaction ended, where a lock of that is prepared, and else the lock is broken.
abbrev pub for_first : Service → ℕ → List Lock → Option (ℕ × Request)
for_first service server [] = None
for_first service server (lock ∷ left) =
    Some (if has_prepared lock.t (lock ∷ left) then (home_of service lock.t, request.Resolve lock.t) else (server, request.Break lock.t lock.suite))

-- but where a home just told how a transaction ended, the swept server is told
abbrev pub after_told : Service → ℕ → List Lock → Request → Response → Option (ℕ × Request)
after_told service server left (request.Resolve t) (Replied (reply.Verdict v)) = Some (server, request.Finish t v)
after_told service server left asked told = for_first service server left

-- and the locks are listed first
abbrev pub after_last : Service → ℕ → List Lock → Option Exchange → Option (ℕ × Request)
after_last service server left None = Some (server, request.Locks)
after_last service server left (Some one) = after_told service server left one.request one.response

abbrev pub last_or : Option Exchange → List Exchange → Option Exchange
last_or before [] = before
last_or before (one ∷ later) = last_or (Some one) later

abbrev pub to_sweep : Service → ℕ → List Exchange → Option (ℕ × Request)
to_sweep service server past = after_last service server (left_by past) (last_or None past)

abbrev pub SweepsAskSo : Type 0
SweepsAskSo =
    (fixed : Fixed) (agent : Agent) (server : ℕ) (events : List Event) (asked : ℕ × Request) →
    let job = Sweep server in
    is_idle agent.doing ≡ true → next_of fixed (agent_after fixed agent job events) ≡ Some asked
    → to_sweep fixed.service server (of_job fixed agent job events) ≡ Some asked

-- ---- what is counted

abbrev pub says_done : Response → Bool
says_done (Replied reply.Done) = true
says_done _ = false

abbrev pub says_verdict : Response → Bool
says_verdict (Replied (reply.Verdict v)) = true
says_verdict _ = false

abbrev pub is_break : Request → Bool
is_break (request.Break t suite) = true
is_break _ = false

abbrev pub is_resolve : Request → Bool
is_resolve (request.Resolve t) = true
is_resolve _ = false

-- It broke what it was told is done of the Breaks, finished what it was told is done of the Finishes, and left the transactions of which a home
-- told no verdict; and nothing is left to be asked.
pub record IsSwept (service : Service) (server : ℕ) (past : List Exchange) (broken finished left : ℕ) : Type 0 where
  pub broken_is : broken ≡ count_of (λ one. is_break one.request && says_done one.response) past
  pub finished_is : finished ≡ count_of (λ one. is_finish one.request && says_done one.response) past
  pub left_is : left ≡ count_of (λ one. is_resolve one.request && not (says_verdict one.response)) past
  pub all : to_sweep service server past ≡ None

abbrev pub SweepsCount : Type 0
SweepsCount =
    (fixed : Fixed) (agent : Agent) (server : ℕ) (events : List Event) (told : Response) (broken finished left : ℕ) →
    let job = Sweep server in
    is_idle agent.doing ≡ true → (take fixed (agent_after fixed agent job events) told).ending ≡ Some (Swept broken finished left)
    → IsSwept fixed.service server (of_job fixed agent job (events ++ Take told ∷ [])) broken finished left

-- ---- all of it

pub record SweepsInOrder : Type 0 where
  pub asks : SweepsAskSo
  pub counts : SweepsCount
