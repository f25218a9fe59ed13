-- What causes an undecided end, and what a phase stands on.
use Rattle.txn_core.proofs.Vocabulary.{◌≡◌, ℕ, Bool, true, false, cond, List, [], ◌∷◌, ◌++◌, Option, Some, None, refl, sym, ◌⊎◌, ap, ◌∙◌, ◌==◌, ◌&&◌, eqb-true, Contains-append_left, Contains-push, Part, Request, Reply, is_prepared, arith, fits, Told}
use Rattle.txn_core.proofs.Vocabulary.{Said, Prefix, Has, Collector, all_told, mode_of, request_for, Asked, Next, Short, next, Cache, GatheredSuite, Suites, suite_of, with_suite, told_in, Response, Cause, Ending, Replied, Unavailable, Busy, Lost}
use Rattle.txn_core.proofs.Vocabulary.{Overruled, HomeDown, Full, Memory, Undecided, Fixed, Task, Phase, Gathering, Fetching, Widening, Finishing, TransactionRun, After, GoesOn, Ends, Step, to_widen, start_from, said_to, asked_by, given_in, Exchange}
use Rattle.txn_core.proofs.Vocabulary.{locks, is_decide, told_of, told_by, fits_response, all_fit}
use Rattle.std.proofs.lemmas.List.Folds.{list_all-append}
use Rattle.txn_core.specs.Undecided.{Was, says_aborted, says_down, stops, loses}
use Rattle.rep_core.specs.declared.request.Request.TheVariants as request
use Rattle.rep_core.specs.declared.stamped.Lack.TheVariants as lack
use Rattle.suite_collect.specs.Collecting as collecting
use Rattle.txn_core.proofs.Gathers.{self, with_at, Each, EachBut, Base, Wants, Sets, Grants, Kept, Asking}
use Rattle.txn_core.proofs.ToldLists.{Are, are_with}

-- ---- replies that lose a lock

lost_lock : (t number : ℕ) (question : Asked) (said : Reply) → fits (request_for t number question) said ≡ true → said_to (request_for t number question) said ≡ None → loses (request_for t number question) (Replied said) ≡ true
lost_lock t number question said h4 h5 = search arith

pub lost_fetch : (t number : ℕ) (said : Reply) → fits (request.Fetch t number) said ≡ true → given_in said ≡ None → loses (request.Fetch t number) (Replied said) ≡ true
lost_fetch t number said h3 h4 = search arith

pub lost_prepare : (t : ℕ) (parts : List Part) (said : Reply) → fits (request.Prepare t parts) said ≡ true → is_prepared said ≡ false → loses (request.Prepare t parts) (Replied said) ≡ true
lost_prepare t parts said h3 h4 = search arith

-- ---- causes

abbrev pub push : List Exchange → ℕ → Request → Response → List Exchange
push past server asked response = past ++ record { server = server; request = asked; response = response } ∷ []

abbrev pub Tells : List Exchange → ℕ → List Told
Tells past number = told_of number [] past

-- a start that is one, or else that of a suite of which nothing was told
abbrev pub Begun : (ℕ → Prefix → Type 0) → (ℕ → Prefix → Type 0) → ℕ → Collector → Type 0
Begun Old Loose suite collector = Old suite collector.start ⊎ (Loose suite collector.start × (all_told collector ≡ []))

-- a collector that was told just this falls short
pub record ShortBy (fixed : Fixed) (task : Task) (Old : Base) (Loose : ℕ → Prefix → Type 0) (past : List Exchange) (suite got needed : ℕ) (busy : Option (ℕ × ℕ)) : Type 0 where
  pub collector : Collector
  pub told : all_told collector ≡ told_of suite [] past
  pub short : next collector ≡ Short got needed busy
  pub begun : Begun Old.start Loose suite collector
  pub wide : (w : collecting.Widening) → collector.widening ≡ Some w → Sets fixed task Old past suite w.votes
  pub wanted : Wants fixed task Old past suite collector.mode

abbrev pub CausedBy : Fixed → Task → Base → (ℕ → Prefix → Type 0) → List Exchange → Cause → Type 0
CausedBy fixed task Old Loose past (Unavailable suite got needed) = ShortBy fixed task Old Loose past suite got needed None
CausedBy fixed task Old Loose past (Busy server holder) = (suite got needed : ℕ) × ShortBy fixed task Old Loose past suite got needed (Some (server, holder))
CausedBy fixed task Old Loose past (Lost server) = Was past server loses
CausedBy fixed task Old Loose past Overruled = (server : ℕ) × Was past server (λ asked response. is_decide asked && says_aborted response)
CausedBy fixed task Old Loose past HomeDown = (server : ℕ) × Was past server (λ asked response. is_decide asked && says_down response)
CausedBy fixed task Old Loose past (Full server) = Was past server (stops lack.Full)
CausedBy fixed task Old Loose past Memory = (server : ℕ) × Was past server (stops lack.Memory)

abbrev pub EndIs : Fixed → Task → Base → (ℕ → Prefix → Type 0) → List Exchange → Ending → Type 0
EndIs fixed task Old Loose past (Undecided cause) = CausedBy fixed task Old Loose past cause
EndIs fixed task Old Loose past _ = Unit {0}

-- where all that was told fits
abbrev pub EndCaused : Fixed → Task → Base → (ℕ → Prefix → Type 0) → List Exchange → Ending → Type 0
EndCaused fixed task Old Loose past ending = all_fit past ≡ true → EndIs fixed task Old Loose past ending

-- What a phase keeps: of the suite that is gathered, of all others, of the suites that get votes, and of how it ends.
abbrev pub StandsOn : Fixed → Task → (Old : Base) (Now Loose : ℕ → Prefix → Type 0) → List Exchange → Suites → Phase → Type 0
StandsOn fixed task Old Now Loose past suites (Gathering number) =
    Are (Tells past) suites × EachBut (Kept fixed task Old past) number suites × ((suite : GatheredSuite) → suite_of suites number ≡ Some suite → Asking fixed task Old Now past number suite)
StandsOn fixed task Old Now Loose past suites (Fetching number) = Are (Tells past) suites × Each (Kept fixed task Old past) suites
StandsOn fixed task Old Now Loose past suites (Widening left granted) =
    Are (Tells past) suites × Each (Kept fixed task Old past) suites × Grants fixed task Old past granted.answers granted.changes × ((number : ℕ) → Has left number → Has (to_widen granted.changes) number)
StandsOn fixed task Old Now Loose past suites (Finishing servers v ending) = EndCaused fixed task Old Loose past ending
StandsOn fixed task Old Now Loose past suites _ = Unit {0}

-- the same where nothing is said of contents
abbrev pub started_from : (ℕ → Prefix → Type 0) → Base
started_from Old = record { start = Old; content = λ number first content. Unit {0} }

abbrev pub Stands : Fixed → Task → (Old Now Loose : ℕ → Prefix → Type 0) → List Exchange → Suites → Phase → Type 0
Stands fixed task Old Now Loose past suites phase = StandsOn fixed task (started_from Old) Now Loose past suites phase

-- from where a suite starts that is gathered just now
pub record Fresh (fixed : Fixed) (task : Task) (cache : Cache) (past : List Exchange) (number : ℕ) (start : Prefix) : Type 0 where
  pub from : start ≡ start_from fixed task cache number
  pub untold : told_of number [] past ≡ []

abbrev pub OrFresh : Fixed → Task → Cache → List Exchange → (ℕ → Prefix → Type 0) → ℕ → Prefix → Type 0
OrFresh fixed task cache past Old number start = Old number start ⊎ Fresh fixed task cache past number start

abbrev pub LeftOf : Fixed → Task → (Old : Base) (Loose : ℕ → Prefix → Type 0) → List Exchange → Cache → After TransactionRun → Type 0
LeftOf fixed task Old Loose past cache (GoesOn txn_run) =
    (txn_run.task ≡ task) × StandsOn fixed task Old (OrFresh fixed task cache past Old.start) (OrFresh fixed task cache past Loose) past txn_run.suites txn_run.phase
LeftOf fixed task Old Loose past cache (Ends ending) = EndCaused fixed task Old (OrFresh fixed task cache past Loose) past ending

-- what a step leaves
abbrev pub Leaves : Fixed → Task → (Old : Base) (Loose : ℕ → Prefix → Type 0) → List Exchange → Step → Type 0
Leaves fixed task Old Loose past step = LeftOf fixed task Old Loose past step.cache step.after

pub was_now : (past : List Exchange) (server : ℕ) (asked : Request) (response : Response) (kind : Request → Response → Bool) → kind asked response ≡ true → Was (push past server asked response) server kind
was_now past server asked response kind is = record {
  one = record { server = server; request = asked; response = response };
  there = Contains-push past (record { server = server; request = asked; response = response });
  at = refl;
  is = is;
}

pub was_more : (past more : List Exchange) (server : ℕ) (kind : Request → Response → Bool) → Was past server kind → Was (past ++ more) server kind
was_more past more server kind was = record { one = was.one; there = Contains-append_left past more was.one was.there; at = was.at; is = was.is }

told-push : (number : ℕ) (before : List Told) (past : List Exchange) (one : Exchange) → told_of number before (past ++ one ∷ []) ≡ cond (locks number one.request) (told_by (told_of number before past) one one.response)
    (told_of number before past)
told-push number before [] one = refl
told-push number before (first ∷ past) one = told-push number (cond (locks number first.request) (told_by before first first.response) before) past one

pub told_same : (past : List Exchange) (server : ℕ) (asked : Request) (response : Response) → ((number : ℕ) → locks number asked ≡ false) → (number : ℕ) → Tells (push past server asked response) number ≡ Tells past number
told_same past server asked response none number = search (told-push, arith)

pub are_quiet : (past : List Exchange) (suites : Suites) (server : ℕ) (asked : Request) (response : Response) → ((number : ℕ) → locks number asked ≡ false) → Are (Tells past) suites → Are (Tells (push past server asked response)) suites
are_quiet past suites server asked response none are = (are.0, λ number. are.1 number ∙ sym (told_same past server asked response none number))

-- ---- what fits

pub both_fit : (past later : List Exchange) → all_fit (past ++ later) ≡ true → (all_fit past ≡ true) × (all_fit later ≡ true)
both_fit past later fine = search (list_all-append, arith)

pub last_fits : (past : List Exchange) (server : ℕ) (asked : Request) (response : Response) → all_fit (push past server asked response) ≡ true → fits_response asked response ≡ true
last_fits past server asked response fine = search (both_fit, arith)

-- ---- what is told

pub lost_asked : (task : Task) (number : ℕ) (after : Next) (server : ℕ) (asked : Request) (said : Reply) → asked_by task number after ≡ Some (server, asked) → fits asked said ≡ true → said_to asked said ≡ None
    → loses asked (Replied said) ≡ true
lost_asked task number after server asked said h6 = search arith

-- what was told of each suite, once one of them heard something
pub tells_heard : (past : List Exchange) (number server : ℕ) (asked : Request) (said : Reply) (heard : Said) → ((other : ℕ) → locks other asked ≡ (number == other)) → said_to asked said ≡ Some heard
    → (other : ℕ) → Tells (push past server asked (Replied said)) other ≡ cond (number == other) (record { server = server; mode = mode_of asked; said = heard } ∷ Tells past other) (Tells past other)
tells_heard past number server asked said heard lock was other = search (told-push, arith)

pub are_heard : (told new : ℕ → List Told) (suites : Suites) (number : ℕ) (one : Told) (now : GatheredSuite) → Are told suites → ((other : ℕ) → new other ≡ cond (number == other) (one ∷ told other) (told other))
    → all_told now.collector ≡ one ∷ told number
    → Are new (with_suite number now suites)
are_heard told new suites number one now are newly same = search (are_with told suites number now are, eqb-true, arith)

pub told_there : (past : List Exchange) (suites : Suites) (number : ℕ) (found : Option GatheredSuite) → suite_of suites number ≡ found → Are (Tells past) suites → told_in found ≡ Tells past number
told_there past suites number found there are = ap told_in (sym there) ∙ are.1 number

pub there_with : (number : ℕ) (suite : GatheredSuite) (suites : Suites) → suite_of (with_suite number suite suites) number ≡ Some suite
there_with number suite suites = with_at number suite suites number ∙ ap (λ b. cond b (Some suite) (suite_of suites number)) (self number)
