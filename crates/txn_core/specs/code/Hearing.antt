-- What comes of a reply to what a suite asks.
use Rattle.std.specs.Prelude.{◌≡◌, ℕ, ◌<◌, List, true, option_map, Option, Some, None}
use Rattle.std.specs.Option.{option_or}
use Rattle.vote_core.specs.declared.TheConstants.{MAX_SERVERS}
use Rattle.suite_prefix.specs.declared.copies.Prefix.{Prefix}
use Rattle.rep_core.specs.Fits.{is_held}
use Rattle.rep_core.specs.declared.reply.Reply.{Reply}
use Rattle.rep_core.specs.declared.request.Request.{Request}
use Rattle.suite_collect.specs.declared.hearing.Hearing.{Hearing as Heard}
use Rattle.suite_collect.specs.declared.hearing.Hearing.TheVariants as coded
use Rattle.suite_collect.specs.declared.told.Told.{Told}
use Rattle.suite_collect.specs.Collecting as collecting
use Rattle.suite_collect.specs.Collecting.{Next, next, tell, told_by}
use Rattle.weak_cache.specs.Entries.{Cache}
use Rattle.txn_core.specs.Suites.{ReadPoint, GatheredSuite, Suites, suite_of, with_suite, settled}
use Rattle.txn_core.specs.declared.pending_quorum.PendingQuorum.{PendingQuorum}
use Rattle.txn_core.specs.declared.ending.Cause.TheVariants as cause
use Rattle.txn_core.specs.Doing.{Task, Phase, TransactionRun}
use Rattle.txn_core.specs.code.Seeing.{settled_with}
use Rattle.txn_core.specs.code.Unused.{says_unused, shows_unused}
use Rattle.txn_core.specs.Transactions.{Step, asked_for, on_with, give_up, short_cause}

-- the transaction ends; the suite asks on; nobody is left to ask; or it has a quorum, and knows what that gave
pub data Hearing : Type 0 where
  Lost : Hearing
  Asks : GatheredSuite → Hearing
  Short : GatheredSuite → ℕ → ℕ → Option (ℕ × ℕ) → Hearing
  Settled : GatheredSuite → Hearing

abbrev pub heard_next : GatheredSuite → Next → Hearing
heard_next suite (collecting.Current prefix dver members) = Settled (settled prefix dver members suite)
heard_next suite (collecting.Ask server asked) = Asks suite
heard_next suite (collecting.Short got needed busy) = Short suite got needed busy

abbrev pub heard_one : GatheredSuite → Option Told → Hearing
heard_one suite (Some one) = let after : GatheredSuite = record suite { collector = tell one suite.collector } in heard_next after (next after.collector)
heard_one suite None = Lost

-- the suite once its collector was told the reply, and settled where it so is Current
abbrev pub heard : GatheredSuite → Reply → Hearing
heard suite said = heard_one suite (told_by (next suite.collector) said)

-- the same of the suite of a number
abbrev pub heard_at : Option GatheredSuite → Reply → Hearing
heard_at (Some suite) said = heard suite said
heard_at None said = Lost

-- how the transaction goes on by it
abbrev pub on_hearing : Task → Cache → Suites → Phase → ℕ → ℕ → Hearing → (GatheredSuite → Step) → Step
on_hearing task cache suites phase number server Lost go_on = give_up task cache suites (cause.Lost server)
on_hearing task cache suites phase number server (Asks suite) go_on = on_with task cache (with_suite number suite suites) phase
on_hearing task cache suites phase number server (Short suite got needed busy) go_on =
    give_up task cache (with_suite number suite suites) (short_cause number got needed busy)
on_hearing task cache suites phase number server (Settled suite) go_on = go_on suite

-- ---- what a call leaves

-- nobody is left to ask of a suite
abbrev pub FallsShort : Hearing → GatheredSuite → Type 0
FallsShort hearing after =
    (got : ℕ) × (needed : ℕ) × (busy : Option (ℕ × ℕ)) × (next after.collector ≡ collecting.Short got needed busy) × (hearing ≡ Short after got needed busy)

-- with a quorum a suite is to be settled
abbrev pub IsSettled : Hearing → Type 0
IsSettled hearing = (suite : GatheredSuite) × (hearing ≡ Settled suite)

-- what a server said is of one of the service, and shows no version that is used up
pub record IsSound (last : Told) : Type 0 where
  pub known : last.server < MAX_SERVERS
  pub unused : says_unused last.said ≡ true

-- a lock with which a suite has a quorum
pub record Completes (last : Told) (suite : GatheredSuite) (said : Reply) : Type 0 where
  pub settled : IsSettled (heard suite said)
  pub told : told_by (next suite.collector) said ≡ Some last
  pub held : is_held said ≡ true
  pub sound : IsSound last

abbrev pub CompletesAt : Option GatheredSuite → Told → Reply → Type 0
CompletesAt (Some suite) last said = Completes last suite said
CompletesAt None last said = IsSettled Lost

-- a suite was told; or the lock gives a quorum, and the suite is as it was
abbrev pub Hears : Heard → GatheredSuite → Reply → GatheredSuite → Type 0
Hears coded.Lost before said after = (heard before said ≡ Lost) × (after ≡ before)
Hears coded.Asks before said after = heard before said ≡ Asks after
Hears coded.Short before said after = FallsShort (heard before said) after
Hears (coded.Quorum last) before said after = Completes last before said × (after ≡ before)

-- the same of a suite among those of a transaction's run
abbrev pub HearsIn : Heard → ℕ → GatheredSuite → TransactionRun → Reply → TransactionRun → Type 0
HearsIn coded.Lost number suite before said after = (heard suite said ≡ Lost) × (after ≡ before)
HearsIn (coded.Quorum last) number suite before said after = Completes last suite said × (after ≡ before)
HearsIn heard number suite before said after = (new : GatheredSuite) × Hears heard suite said new × (after ≡ record before { suites = with_suite number new before.suites })

abbrev pub HearsAt : Option GatheredSuite → ℕ → Heard → TransactionRun → Reply → TransactionRun → Type 0
HearsAt (Some suite) number heard before said after = HearsIn heard number suite before said after
HearsAt None number heard before said after = (heard ≡ coded.Lost) × (after ≡ before)

-- the server that a suite asks
abbrev pub asks_in : TransactionRun → ℕ → Option ℕ
asks_in txn_run number = option_map (λ (asked : ℕ × Request). asked.0) (asked_for txn_run.task number (suite_of txn_run.suites number))

-- what that server says shows no version that is used up
abbrev pub ShowsUnused : TransactionRun → ℕ → Reply → Type 0
ShowsUnused txn_run number said = (server : ℕ) → asks_in txn_run number ≡ Some server → shows_unused said ≡ true

-- a suite heard it; where it asks nobody, nothing changed
abbrev pub HearsFrom : Option (ℕ × Heard) → ℕ → TransactionRun → Reply → TransactionRun → Type 0
HearsFrom (Some one) number before said after = HearsAt (suite_of before.suites number) number one.1 before said after
HearsFrom None number before said after = after ≡ before

-- what the first quorum gives, where there is one once a suite is told, and was none before
abbrev pub IsFirstAfter : GatheredSuite → Told → Option ReadPoint → Type 0
IsFirstAfter suite last first =
    (prefix : Prefix) (dver : ℕ) (members : List ℕ) → next (tell last suite.collector) ≡ collecting.Current prefix dver members
    → option_or suite.first first ≡ (settled prefix dver members (record suite { collector = tell last suite.collector })).first

-- the quorum that a suite is to have with a reply; none, where a lock is lost
abbrev pub Settles : Option PendingQuorum → GatheredSuite → Reply → Type 0
Settles (Some pending) suite said = IsSettled (heard suite said) → heard suite said ≡ Settled (settled_with pending suite)
Settles None suite said = heard suite said ≡ Lost

abbrev pub SettlesAt : Option GatheredSuite → Option PendingQuorum → Reply → Type 0
SettlesAt (Some suite) pending said = Settles pending suite said
SettlesAt None pending said = pending ≡ None

-- it settles by whatever reply says this
abbrev pub SettlesBy : Option GatheredSuite → Told → Option PendingQuorum → Type 0
SettlesBy found last pending = (said : Reply) → CompletesAt found last said → SettlesAt found pending said
