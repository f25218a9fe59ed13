-- Runs in which the promise says something.
use Rattle.std.specs.Prelude.{◌≡◌, ℕ, List, [], ◌∷◌, ◌++◌, map, option_map, Option, Some, None, Ok, Err}
use Rattle.acl_core.specs.declared.lists.Lists.{Lists}
use Rattle.acl_core.specs.declared.check.Decider.TheVariants.{Other}
use Rattle.vote_core.specs.Quorums.{Configuration}
use Rattle.suite_content.specs.declared.content.Content.{Content}
use Rattle.suite_content.specs.declared.content.Content.TheVariants.{Bytes}
use Rattle.suite_prefix.specs.declared.copies.Replica.{Replica}
use Rattle.suite_prefix.specs.SettingsRules.{Opening}
use Rattle.suite_prefix.specs.declared.lock_mode.LockMode.TheVariants.{Shared, Exclusive}
use Rattle.file_ops.specs.declared.answer.Answer.TheVariants as answer
use Rattle.file_ops.specs.declared.audit.AuditItem.{AuditItem}
use Rattle.file_ops.specs.declared.operation.Action.TheVariants as action
use Rattle.file_ops.specs.declared.operation.Op.{Op}
use Rattle.file_ops.specs.declared.refusal.Refusal.{Refusal}
use Rattle.file_ops.specs.declared.refusal.Why.TheVariants.{Denied}
use Rattle.file_ops.specs.Rows as rows
use Rattle.file_ops.specs.Rows.{row_of}
use Rattle.file_ops.specs.Walks.{to_read}
use Rattle.weak_cache.specs.Entries.{Entry as Kept, entry_of}
use Rattle.txn_core.specs.declared.ending.Ending.TheVariants.{Answered}
use Rattle.txn_core.specs.declared.job.Job.TheVariants.{Transaction}
use Rattle.txn_core.specs.Agents.{fixed_of}
use Rattle.txn_core.specs.Runs.{settings, owner, other, a, op, mode_lists}
use Rattle.run_core.specs.declared.event.Event.{Event}
use Rattle.run_core.specs.declared.event.Event.TheVariants.{Begin, Step, Crash, Return}
use Rattle.run_core.specs.Worlds.{Actor, actor_at, audit_of}
use Rattle.run_core.specs.Runs.{run}
use Rattle.run_core.specs.Decisions.{Decided, decided, decisions}
use Rattle.run_core.specs.TableOfRun.{table_of, AnswersAreTheTables}
use Rattle.law_runs.specs.Numbers.{begins_at}
use Rattle.law_runs.specs.Claims.{ended}
use Rattle.law_runs.specs.Worked.{so_many, make_a, read_a, ending_in}
use Rattle.law_one_table.specs.Effects.{copy_at}
use Rattle.law_headline.specs.Premises.{CanBe}
use Rattle.law_headline.specs.Laws.{TellsOfLock}

-- ---- a permission is taken away, and old copies remain

-- three servers with a vote each, two of them a quorum; two agents, each with a cache
abbrev pub with_caches : Opening
with_caches = record (settings 3 4096 2 2) { agents = 2 }

-- write /a 00 ; setacl /a u::rw,g::r,o::-
abbrev pub close_a : List Op
close_a = op a (action.Write (0 ∷ [])) ∷ op a (action.SetAcl (mode_lists 416)) ∷ []

-- A file that everyone may read is made, and read twice at another agent, whose cache then has its list and its bytes. While a server is down the owner
-- writes other bytes, and takes reading away from all others. Then the server is back, with the old list and the old bytes.
abbrev pub closed : List Event
closed =
    Begin 0 (Transaction owner 0 make_a) ∷ so_many 10 0
    ++ Begin 1 (Transaction other 0 read_a) ∷ so_many 11 1
    ++ Begin 1 (Transaction other 0 read_a) ∷ so_many 9 1
    ++ Crash 0 ∷ Begin 0 (Transaction owner 0 close_a) ∷ so_many 12 0
    ++ Return 0 ∷ []

-- Who could read before comes again, and then the owner, at the agent that has the old list and the old bytes.
abbrev pub revoked : List Event
revoked =
    closed
    ++ Begin 1 (Transaction other 0 read_a) ∷ so_many 9 1
    ++ Begin 1 (Transaction owner 0 read_a) ∷ so_many 10 1

-- the lists and the content of a copy
abbrev pub lists_and_content : Replica → Lists × Content
lists_and_content copy = (copy.prefix.acl, copy.content)

-- the lists and the content of the file that an agent's cache keeps for its site 0
abbrev pub cached : Option Actor → Option (Lists × Content)
cached (Some actor) = option_map (λ (kept : Kept). (kept.prefix.acl, kept.content)) (entry_of actor.agent.cache 0 1)
cached None = None

abbrev pub old : Lists × Content
old = (mode_lists 420, Bytes (104 ∷ 105 ∷ []))

abbrev pub new : Lists × Content
new = (mode_lists 416, Bytes (0 ∷ []))

abbrev pub denial : Refusal
denial = record { op = 1; why = Denied (record { suite = 1; wanted = to_read; decider = Other }) }

abbrev pub item : AuditItem
item = record { t = 129; uid = 2000; op = 1; denial = record { suite = 1; wanted = to_read; decider = Other } }

-- the reads before the change, the change, and the reads after it
abbrev pub revoked_decisions : List Decided
revoked_decisions =
    record { t = 0; caller = owner; ops = make_a; answer = Ok (answer.Made 1 ∷ answer.Wrote ∷ []) }
    ∷ record { t = 1; caller = other; ops = read_a; answer = Ok (answer.Read (104 ∷ 105 ∷ []) ∷ []) }
    ∷ record { t = 65; caller = other; ops = read_a; answer = Ok (answer.Read (104 ∷ 105 ∷ []) ∷ []) }
    ∷ record { t = 64; caller = owner; ops = close_a; answer = Ok (answer.Wrote ∷ answer.Set ∷ []) }
    ∷ record { t = 129; caller = other; ops = read_a; answer = Err denial }
    ∷ record { t = 193; caller = owner; ops = read_a; answer = Ok (answer.Read (0 ∷ []) ∷ []) } ∷ []

-- The change is answered before the last two requests begin. The old list and the old bytes are at a server and in a cache when they come, and at the
-- server still when they are answered; one is denied, and the other answered the new bytes, as the one table has them.
pub record SomeRunRevokes : Type 0 where
  pub can_be : CanBe with_caches revoked
  pub ends : map ending_in (ended with_caches closed) ≡
      (0, Answered (answer.Made 1 ∷ answer.Wrote ∷ [])) ∷ (1, Answered (answer.Read (104 ∷ 105 ∷ []) ∷ [])) ∷ (65, Answered (answer.Read (104 ∷ 105 ∷ []) ∷ [])) ∷ (64, Answered (answer.Wrote ∷ answer.Set ∷ [])) ∷ []
  pub begins : begins_at with_caches (run with_caches closed) (Begin 1 (Transaction other 0 read_a)) ≡ Some 129
  pub stale_copy : lists_and_content (copy_at with_caches closed 1 0) ≡ old
  pub stale_hint_and_content : cached (actor_at (run with_caches closed) 1) ≡ Some old
  pub in_order : decisions with_caches revoked ≡ revoked_decisions
  pub answers : AnswersAreTheTables (rows.opening with_caches) (decisions with_caches revoked)
  pub row : row_of (table_of with_caches revoked).rows 1 ≡ Some (record { owner = 1000; group = 100; acl = mode_lists 416; votes = with_caches.c0; content = Bytes (0 ∷ []) })
  pub copies : (lists_and_content (copy_at with_caches revoked 1 0) ≡ old) × (lists_and_content (copy_at with_caches revoked 1 1) ≡ new) × (lists_and_content (copy_at with_caches revoked 1 2) ≡ new)
  pub audit : audit_of (run with_caches revoked) 0 ≡ item ∷ []
  pub tables_audit : (table_of with_caches revoked).audit ≡ item ∷ []

-- ---- votes are moved away

-- six servers, of which three have a vote each at first
abbrev pub six_servers : Opening
six_servers = record (settings 6 0 2 2) { agents = 2 }

abbrev pub new_votes : Configuration
new_votes = record { reps = (3, 1) ∷ (4, 1) ∷ (5, 1) ∷ []; r = 2; w = 2 }

-- setvotes /a -,-,-,1,1,1/2/2
abbrev pub move_a : List Op
move_a = op a (action.SetVotes new_votes) ∷ []

abbrev pub made : List Event
made = Begin 0 (Transaction owner 0 make_a) ∷ so_many 10 0

-- The votes of a file are moved to other servers. Two of the old ones crash, so that no path can be walked; once one is back, the file is read
-- where its votes are.
abbrev pub moved : List Event
moved =
    made
    ++ Begin 0 (Transaction owner 0 move_a) ∷ so_many 17 0
    ++ Crash 0 ∷ Crash 1 ∷ Begin 1 (Transaction other 0 read_a) ∷ so_many 5 1
    ++ Return 1 ∷ Begin 1 (Transaction other 0 read_a) ∷ so_many 17 1

abbrev pub moved_decisions : List Decided
moved_decisions =
    record { t = 0; caller = owner; ops = make_a; answer = Ok (answer.Made 1 ∷ answer.Wrote ∷ []) }
    ∷ record { t = 64; caller = owner; ops = move_a; answer = Ok (answer.Set ∷ []) }
    ∷ record { t = 65; caller = other; ops = read_a; answer = Ok (answer.Read (104 ∷ 105 ∷ []) ∷ []) } ∷ []

-- the version and the votes of a copy
abbrev pub version_and_votes : Replica → ℕ × Configuration
version_and_votes copy = (copy.prefix.pver, copy.prefix.votes)

-- The prefix with the old votes was in effect at an old server; now a quorum of the old votes has the new one, and so have the new servers, with the content.
pub record SomeRunMovesVotes : Type 0 where
  pub can_be : CanBe six_servers moved
  pub before : version_and_votes (copy_at six_servers made 1 0) ≡ (1, six_servers.c0)
  pub old_servers : (version_and_votes (copy_at six_servers moved 1 0) ≡ (2, new_votes)) × (version_and_votes (copy_at six_servers moved 1 1) ≡ (2, new_votes))
  pub new_servers : (copy_at six_servers moved 1 3 ≡ copy_at six_servers moved 1 4) × (version_and_votes (copy_at six_servers moved 1 3) ≡ (2, new_votes)) × ((copy_at six_servers moved 1 3).content ≡ Bytes (104 ∷ 105 ∷ []))
  pub in_order : decisions six_servers moved ≡ moved_decisions
  pub answers : AnswersAreTheTables (rows.opening six_servers) (decisions six_servers moved)
  pub row : row_of (table_of six_servers moved).rows 1 ≡ Some (record { owner = 1000; group = 100; acl = mode_lists 420; votes = new_votes; content = Bytes (104 ∷ 105 ∷ []) })

-- ---- locks are told of, and stand

-- read /a ; write /a 00
abbrev pub rewrite_a : List Op
rewrite_a = op a action.Read ∷ op a (action.Write (0 ∷ [])) ∷ []

-- up to a Poll of the file, at its first server; and on up to the Upgrade of that lock
abbrev pub before_poll : List Event
before_poll = made ++ Begin 0 (Transaction owner 0 rewrite_a) ∷ so_many 3 0

abbrev pub before_upgrade : List Event
before_upgrade = before_poll ++ so_many 3 0

-- then the other server's Upgrade and two Prepares; and the first server crashes, and is back
abbrev pub upgraded : List Event
upgraded = before_upgrade ++ Step 0 ∷ so_many 3 0 ++ Crash 0 ∷ Return 0 ∷ []

-- The transaction is told of a shared lock there, and then of an exclusive one; it is decided in the next step.
pub record SomeRunHoldsLocks : Type 0 where
  pub can_be : CanBe six_servers upgraded
  pub shared : TellsOfLock six_servers before_poll (Step 0) 64 1 Shared 0
  pub exclusive : TellsOfLock six_servers before_upgrade (Step 0) 64 1 Exclusive 0
  pub decision : decided (fixed_of six_servers) (run six_servers upgraded) (Step 0) ≡
      Some (record { t = 64; caller = owner; ops = rewrite_a; answer = Ok (answer.Read (104 ∷ 105 ∷ []) ∷ answer.Wrote ∷ []) })
