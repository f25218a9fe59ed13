-- What was so stays so: whatever happens to a suite, what an agent keeps and holds of it was still its register's.
use Rattle.law_run_knowledge.proofs.Vocabulary.{◌≡◌, ℕ, List, [], ◌∷◌, Option, Some, None, ◌∙◌, nat_cmp, IsOrdered, Content, Prefix, Said, Cache, GatheredSuite, Suites, Doing, Running, arith, RunningSweep, Agent, Each}
use Rattle.law_run_knowledge.proofs.Vocabulary.{Beginning, GoesWith, Told, World, Event, run, Obeys, Stays, Inv, told_to, SaidIs, AreTold, CacheWas, ToldVersion, SuiteWas}
use Rattle.law_suite_machine.proofs.Lasting.{run_stays}
use Rattle.law_suite_machine.proofs.Licences.{good_all}
use Rattle.suite_collect.specs.declared.told.Said.TheVariants as said
use Rattle.suite_collect.specs.declared.told.Told as collect
use Rattle.law_run_knowledge.proofs.Walk.{InPhase}

-- ---- what was told

-- told of the same copy
abbrev pub StillTold : Option Told → Told → Type 0
StillTold o told = (later : Told) × (o ≡ Some later) × (later.copy ≡ told.copy)

-- ---- what agents hold

-- what stays from one world to a later one
pub record Lasts (start : Beginning) (w later : World) : Type 0 where
  pub stays : Stays start w later
  pub told : (i t : ℕ) (told : Told) → w.told i t ≡ Some told → StillTold (later.told i t) told

pub lasts : (start : Beginning) (w : World) (events : List Event) → Inv start w → Obeys start w events → Lasts start w (run start w events)
lasts start w events inv may = record { stays = run_stays start w inv events may; told = (good_all start w inv events may).told }

-- the suites of a transaction are in order, and what it holds of the suite z was the register's
abbrev pub FitIn : ℕ → Beginning → World → ℕ → Suites → Type 0
FitIn z start w t suites = IsOrdered nat_cmp suites × Each (λ number suite. number ≡ z → SuiteWas start w t suite) suites

abbrev pub DoingFits : ℕ → Beginning → World → Option Doing → Type 0
DoingFits z start w (Some (Running txn_run)) = FitIn z start w txn_run.task.t txn_run.suites × InPhase txn_run.suites txn_run.phase
DoingFits z start w (Some (RunningSweep sweep_run)) = Unit {0}
DoingFits z start w None = Unit {0}

pub record AgentFits (z : ℕ) (start : Beginning) (w : World) (agent : Agent) : Type 0 where
  pub cache : CacheWas z start w.log agent.cache
  pub doing : DoingFits z start w agent.doing

module _ (z : ℕ) (start : Beginning) (w later : World) (l : Lasts start w later) where
  version_later : (t i dver : ℕ) → ToldVersion w t i dver → ToldVersion later t i dver
  version_later t i dver was = search arith

  pub said_later : (t i : ℕ) (said : Said) → SaidIs (w.told i t) said → SaidIs (later.told i t) said
  said_later t i said h3 = search arith

  are_later : (t : ℕ) (told : List collect.Told) → AreTold (told_to w t) told → AreTold (told_to later t) told
  are_later t [] are = tt
  are_later t (one ∷ told) are = (said_later t one.server one.said are.0, are_later t told are.1)

  goes_later : (prefix : Prefix) (dver : ℕ) (content : Content) → GoesWith start w.log prefix dver content → GoesWith start later.log prefix dver content
  goes_later prefix dver content h3 = search arith

  suite_later : (t : ℕ) (suite : GatheredSuite) → SuiteWas start w t suite → SuiteWas start later t suite
  suite_later t suite was = record {
    from = l.stays.prefixes suite.collector.start was.from;
    told = are_later t _ was.told;
    since = are_later t _ was.since;
    first = λ first is. let old = was.first first is in record { prefix = l.stays.prefixes first.prefix old.prefix; source = λ some. version_later t first.source first.dver (old.source some) };
    content = λ content is. let old = was.content content is in (old.0, old.1, goes_later old.0.prefix old.0.dver content old.2);
  }

  cache_later : (cache : Cache) → CacheWas z start w.log cache → CacheWas z start later.log cache
  cache_later cache was entry there is =
      let old = was entry there is in
      record { prefix = l.stays.prefixes entry.prefix old.prefix; content = λ some. l.stays.contents entry.dver entry.content (old.content some) }

  doing_later : (doing : Option Doing) → DoingFits z start w doing → DoingFits z start later doing
  doing_later (Some (Running txn_run)) fits = ((fits.0.0, λ number suite there is. suite_later txn_run.task.t suite (fits.0.1 number suite there is)), fits.1)
  doing_later (Some (RunningSweep sweep_run)) fits = tt
  doing_later None fits = tt

  pub agent_later : (agent : Agent) → AgentFits z start w agent → AgentFits z start later agent
  agent_later agent fits = record { cache = cache_later agent.cache fits.cache; doing = doing_later agent.doing fits.doing }
