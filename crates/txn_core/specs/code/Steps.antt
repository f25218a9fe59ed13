-- What a call on a transaction's run leaves, against the step that it takes.
use Rattle.std.specs.Prelude.{◌≡◌, ℕ, Option, Some, None}
use Rattle.vote_core.specs.Quorums.{Configuration}
use Rattle.rep_core.specs.declared.request.Request.{Request}
use Rattle.suite_collect.specs.Collecting.{widen, next}
use Rattle.weak_cache.specs.Entries.{Cache}
use Rattle.suite_collect.specs.declared.coming.Coming.{Coming}
use Rattle.suite_collect.specs.declared.coming.Coming.TheVariants as coming
use Rattle.txn_core.specs.declared.ending.Ending.{Ending}
use Rattle.txn_core.specs.declared.response.Response.{Response}
use Rattle.suite_collect.specs.Answering.{Comes}
use Rattle.txn_core.specs.Doing.{Fixed, TransactionRun, After, GoesOn, Ends}
use Rattle.txn_core.specs.Suites.{GatheredSuite, suite_of, with_suite}
use Rattle.txn_core.specs.Transactions.{Step, after_response}

-- a transaction's run that goes on, or an ending
abbrev pub Becomes : After TransactionRun → Option Ending → TransactionRun → Type 0
Becomes (GoesOn more) ending txn_run = (ending ≡ None) × (txn_run ≡ more)
Becomes (Ends how) ending txn_run = ending ≡ Some how

abbrev pub Steps : Step → Option Ending → TransactionRun → Cache → Type 0
Steps step ending txn_run cache = (cache ≡ step.cache) × Becomes step.after ending txn_run

-- what comes of a response to what is asked; where nothing is asked, nothing
abbrev pub taken : Fixed → TransactionRun → Cache → Option (ℕ × Request) → Response → Step
taken fixed txn_run cache (Some asked) response = after_response fixed txn_run cache asked.0 asked.1 response
taken fixed txn_run cache None response = record { cache = cache; after = GoesOn txn_run }

-- a suite is widened to some votes, with what comes next of it; where there is no such suite, nothing has to be asked
abbrev pub WidensTo : Option GatheredSuite → ℕ → Configuration → TransactionRun → Coming → TransactionRun → Type 0
WidensTo (Some suite) number votes before next' after =
    let new : GatheredSuite = record suite { collector = widen votes suite.collector } in
    (after ≡ record before { suites = with_suite number new before.suites }) × Comes next' (next new.collector)
WidensTo None number votes before next' after = (after ≡ before) × (next' ≡ coming.Current)

abbrev pub Widens : ℕ → Configuration → TransactionRun → Coming → TransactionRun → Type 0
Widens number votes before next' after = WidensTo (suite_of before.suites number) number votes before next' after
