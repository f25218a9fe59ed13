-- What a transaction keeps: it asks somebody, and whomever it asks, votes or the service name.
use Rattle.law_agents.proofs.Vocabulary.{◌≡◌, ℕ, zero, suc, ◌<◌, Bool, true, false, cond, List, [], ◌∷◌, ◌++◌, Option, Some, None, Ok, Err, refl, sym, ap, subst, ◌∙◌, filter, arith, unwrap_or, is_some, nat_cmp, is_at, none-some, same_Some}
use Rattle.law_agents.proofs.Vocabulary.{Configuration, max_servers, Content, absent_prefix, Prefix, LockMode, Shared, Exclusive, serves, Row, lists_unknown, Answer, Change, Edit, Hold, Know, Known, Heard, Needs, Done, known_rows, exec_of, Verdict}
use Rattle.law_agents.proofs.Vocabulary.{is_held, holds, newest, Entry, Cache, hint, searched_has, hint_has, ReadPoint, GatheredSuite, Suites, suite_of, with_suite, row_with, known_row, known_if, known_of, has_locks, change_of, Cause, Ending}
use Rattle.law_agents.proofs.Vocabulary.{Undecided, Changes, Granted, home_of, Fixed, Task, Proposal, Phase, Gathering, Fetching, Preparing, Deciding, Finishing, TransactionRun, After, GoesOn, Ends, Step, Gathered, tell_end, give_up, prepare}
use Rattle.law_agents.proofs.Vocabulary.{locked_at, numbers_from, gather_by, start_from, widen_by, widen_one, widened, widen_all, opened, or_all, open_needed, open_suite, open_first, opened_with, after_search, heard_on, raised_or_new, proceed}
use Rattle.law_agents.proofs.Vocabulary.{execute, Each, EachBut, each_but, each_with, with_at, self, reads_known, Outcome as Executed, Widening as Widens}
use Rattle.suite_prefix.specs.declared.copies.PrefixKind.{PrefixKind}
use Rattle.file_ops.specs.declared.refusal.Refusal.{Refusal}
use Rattle.file_exec.specs.declared.need.Need.{Need}
use Rattle.file_exec.specs.Changes.{some, answered}
use Rattle.file_exec.specs.Following.{Edits, changed, seen}
use Rattle.file_exec.proofs.Leading.{changes_by_suite}
use Rattle.file_exec.proofs.Unmet.{needs_what_is_unmet}
use Rattle.txn_core.proofs.Setting.{known_at}
use Rattle.suite_collect.specs.Collecting.{Widening, Collector, told_since, all_told, needed, needed_of, votes_or, mode_or, collect, raise, Asked, Next, Ask, Current, Short, next}
use Rattle.file_exec.specs.declared.executor.Outcome.TheVariants as exec
use Rattle.file_exec.specs.Changes as changes
use Rattle.file_exec.specs.Known as known
use Rattle.rep_core.specs.declared.reply.Verdict.TheVariants as verdict
use Rattle.weak_cache.proofs.Origins as origins
use Rattle.law_agents.proofs.Courses.{Sets, AllSet, edits_set}
use Rattle.law_agents.proofs.Collectors.{IsPlain, none_exclusive, not_current, AllReps, AllTold, AllIn, newest_so, all_append, teller}

-- Votes that may be met, and servers that may be asked: a quorum of such votes is of some votes, and they name no others; nor does the service.
pub record Goes (fixed : Fixed) (V : Configuration → Type 0) (S : ℕ → Type 0) : Type 0 where
  pub some : (votes : Configuration) → V votes → (0 < votes.r) × (0 < votes.w)
  pub names : (votes : Configuration) → V votes → AllReps V S votes.reps
  pub opening : V fixed.service.c0
  pub first : S 0
  pub home : (t : ℕ) → S (home_of fixed.service t)
  pub known : (votes : Configuration) → lists_unknown fixed.service votes ≡ false → AllReps V S votes.reps

-- a suite of which something is known was asked for
pub suite_known : (suites : Suites) (number : ℕ) → is_some (known.known_of (known_of suites) number) ≡ true → (suite : GatheredSuite) × (suite_of suites number ≡ Some suite)
suite_known [] number is = cc
suite_known (e ∷ suites) number is = of e.1.first (is_at (nat_cmp number) e.0) refl is (suite_known suites number)
  where
    of : (first : Option ReadPoint) (b : Bool) → is_at (nat_cmp number) e.0 ≡ b → is_some (known.known_of (known_if e.0 e.1 first (known_of suites)) number) ≡ true
        → (is_some (known.known_of (known_of suites) number) ≡ true → (suite : GatheredSuite) × (suite_of suites number ≡ Some suite)) → (suite : GatheredSuite) × (suite_of (e ∷ suites) number ≡ Some suite)
    of first true at is rest = (e.1, ap (λ b. cond b (Some e.1) (suite_of suites number)) at)
    of None false at is rest = let found = rest is in (found.0, ap (λ b. cond b (Some e.1) (suite_of suites number)) at ∙ found.1)
    of (Some first) false at is rest =
        let found = rest (sym (ap (λ b. is_some (cond b (Some (known_row e.1 first)) (known.known_of (known_of suites) number))) at) ∙ is) in
        (found.0, ap (λ b. cond b (Some e.1) (suite_of suites number)) at ∙ found.1)

module _ (fixed : Fixed) (V : Configuration → Type 0) (S : ℕ → Type 0) (goes : Goes fixed V S) where
  abbrev Names : Configuration → Type 0
  Names votes = AllReps V S votes.reps

  -- ---- suites

  pub record Fine (suite : GatheredSuite) : Type 0 where
    pub start : V suite.collector.start.votes
    pub told : AllTold V S suite.collector.told
    pub since : AllTold V S (told_since suite.collector.widening)
    pub wide : (w : Widening) → suite.collector.widening ≡ Some w → Names w.votes
    pub first : (f : ReadPoint) → suite.first ≡ Some f → V f.prefix.votes × S f.source

  abbrev pub AllFine : Suites → Type 0
  AllFine [] = Unit {0}
  AllFine (one ∷ suites) = Fine one.1 × AllFine suites

  -- a suite that had a quorum, and no more was asked of it since
  pub record Full (suite : GatheredSuite) : Type 0 where
    pub first : ReadPoint
    pub was : suite.first ≡ Some first
    pub narrow : suite.collector.widening ≡ None
    pub mode : suite.mode ≡ suite.collector.mode
    pub plain : IsPlain suite.collector

  abbrev IsFull : ℕ → GatheredSuite → Type 0
  IsFull number suite = Full suite

  -- a suite whose collector asks
  pub record Asking (suites : Suites) (number : ℕ) : Type 0 where
    pub suite : GatheredSuite
    pub there : suite_of suites number ≡ Some suite
    pub server : ℕ
    pub asked : Asked
    pub asks : next suite.collector ≡ Ask server asked

  pub record Gathers (suites : Suites) (number : ℕ) : Type 0 where
    pub asking : Asking suites number
    pub narrow : asking.suite.collector.widening ≡ None
    pub plain : IsPlain asking.suite.collector

  -- the votes that are set
  abbrev pub ChangesName : Changes → Type 0
  ChangesName changes = (number : ℕ) (change : Change) → change_of changes number ≡ Some change → Names change.row.votes

  abbrev pub InPhase : Suites → Phase → Type 0
  InPhase suites (Gathering number) = AllFine suites × EachBut IsFull number suites × Gathers suites number
  InPhase suites (Fetching number) = AllFine suites × Each IsFull suites × ((suite : GatheredSuite) × (suite_of suites number ≡ Some suite))
  InPhase suites (Widens (number ∷ left) granted) = AllFine suites × Asking suites number × ChangesName granted.changes
  InPhase suites (Preparing (server ∷ left) outcome) = AllFine suites × AllIn V S (server ∷ left)
  InPhase suites (Deciding outcome) = AllFine suites
  InPhase suites (Finishing (server ∷ left) v ending) = AllIn V S (server ∷ left)
  InPhase suites other = ⊥

  abbrev pub CacheFine : Cache → Type 0
  CacheFine cache = (entry : Entry) → origins.Has cache entry → V entry.prefix.votes

  abbrev pub Goes' : After TransactionRun → Type 0
  Goes' (GoesOn txn_run) = InPhase txn_run.suites txn_run.phase
  Goes' (Ends ending) = Unit {0}

  abbrev pub Leaves : Step → Type 0
  Leaves step = CacheFine step.cache × Goes' step.after

  -- ---- suites by their numbers

  pub fine_at : (suites : Suites) (number : ℕ) (suite : GatheredSuite) → AllFine suites → suite_of suites number ≡ Some suite → Fine suite
  fine_at [] number suite all is = cc
  fine_at (e ∷ suites) number suite all is = search (same_Some, fine_at suites number suite, arith)

  pub fine_with : (suites : Suites) (number : ℕ) (new : GatheredSuite) → AllFine suites → Fine new → AllFine (with_suite number new suites)
  fine_with [] number new all fine = (fine, tt)
  fine_with (e ∷ suites) number new all fine = search (fine_with suites number new, arith)

  pub there_with : (suites : Suites) (number : ℕ) (suite : GatheredSuite) → suite_of (with_suite number suite suites) number ≡ Some suite
  there_with suites number suite = with_at number suite suites number ∙ ap (λ b. cond b (Some suite) (suite_of suites number)) (self number)

  -- ---- servers that hold locks

  fine_told : (suite : GatheredSuite) → Fine suite → AllTold V S (all_told suite.collector)
  fine_told suite fine = all_append V S (told_since suite.collector.widening) suite.collector.told fine.since fine.told

  locking : (suites : Suites) (server : ℕ) → AllFine suites → has_locks suites server ≡ true → S server
  locking [] server all is = cc
  locking (e ∷ suites) server all is = search (teller, fine_told, locking suites server, arith)

  all_passing : (test : ℕ → Bool) (numbers : List ℕ) → ((server : ℕ) → test server ≡ true → S server) → AllIn V S (filter test numbers)
  all_passing test [] so = tt
  all_passing test (n ∷ numbers) so = search (all_passing test numbers so, arith)

  pub all_locking : (suites : Suites) → AllFine suites → AllIn V S (locked_at suites)
  all_locking suites all = all_passing (has_locks suites) (numbers_from 0 max_servers) (λ server is. locking suites server all is)

  -- ---- the end

  pub l_end : (task : Task) (cache : Cache) (suites : Suites) (v : Verdict) (ending : Ending) (servers : List ℕ) → CacheFine cache → AllIn V S servers → Leaves (tell_end task cache suites v ending servers)
  l_end task cache suites v ending servers h6 h7 = search arith

  pub l_give_up : (task : Task) (cache : Cache) (suites : Suites) (cause : Cause) → CacheFine cache → AllFine suites → Leaves (give_up task cache suites cause)
  l_give_up task cache suites cause cached all = l_end task cache suites verdict.Aborted (Undecided cause) (locked_at suites) cached (all_locking suites all)

  pub l_prepare : (task : Task) (cache : Cache) (suites : Suites) (outcome : Proposal) (servers : List ℕ) → CacheFine cache → AllFine suites → AllIn V S servers → Leaves (prepare task cache suites outcome servers)
  l_prepare task cache suites outcome servers h5 h6 h7 = search arith

  -- ---- widenings

  fine_widened : (changes : Changes) (number : ℕ) (suite : GatheredSuite) → ChangesName changes → Fine suite → Fine (widened changes number suite)
  fine_widened changes number suite sets fine = search arith

  l_widen_by : (task : Task) (cache : Cache) (suites : Suites) (number : ℕ) (left : List ℕ) (granted : Granted) (suite : GatheredSuite) (after : Next) (go_on : Suites → Step) → next suite.collector ≡ after
      → CacheFine cache → AllFine (with_suite number suite suites) → ChangesName granted.changes → ((suites : Suites) → AllFine suites → Leaves (go_on suites))
      → Leaves (widen_by task cache (with_suite number suite suites) (Widens (number ∷ left) granted) number after go_on)
  l_widen_by task cache suites number left granted suite after go_on h9 h10 h11 h12 h13 = search (there_with, l_give_up, arith)

  l_widen_one : (task : Task) (cache : Cache) (suites : Suites) (number : ℕ) (left : List ℕ) (granted : Granted) (found : Option GatheredSuite) (go_on : Suites → Step) → suite_of suites number ≡ found
      → CacheFine cache → AllFine suites → ChangesName granted.changes → ((suites : Suites) → AllFine suites → Leaves (go_on suites))
      → Leaves (widen_one task cache suites (Widens (number ∷ left) granted) granted.changes number found go_on)
  l_widen_one task cache suites number left granted None go_on there cached fine sets more = more suites fine
  l_widen_one task cache suites number left granted (Some suite) go_on there cached fine sets more = search (l_widen_by, fine_with, fine_widened, fine_at, arith)

  pub l_widen : (task : Task) (cache : Cache) (suites : Suites) (granted : Granted) (left : List ℕ) → CacheFine cache → AllFine suites → ChangesName granted.changes → Leaves (widen_all task cache suites granted left)
  l_widen task cache suites granted [] cached fine sets = l_prepare task cache suites (Ok granted) (locked_at suites) cached fine (all_locking suites fine)
  l_widen task cache suites granted (number ∷ left) cached fine sets =
      l_widen_one task cache suites number left granted (suite_of suites number) _ refl cached fine sets (λ suites fine. l_widen task cache suites granted left cached fine sets)

  -- ---- what is set

  known_votes : (k : PrefixKind) (prefix : Prefix) (content : Option Content) (row : Row) → row_with k prefix content ≡ Some row → row.votes ≡ prefix.votes
  known_votes k prefix content row h4 = search arith

  abbrev NamesIn : Option Row → Type 0
  NamesIn row = (r : Row) → row ≡ Some r → Names r.votes

  known_names : (suites : Suites) (number : ℕ) → AllFine suites → NamesIn (known_rows (known_of suites) number)
  known_names [] number all = λ r is. cc
  known_names (e ∷ suites) number all = search (known_votes, known_names suites number, arith)

  changed_names : (edit : Edit) (row : Option Row) → Sets Names edit → NamesIn row → NamesIn (changed edit row)
  changed_names edit row h2 h3 h4 h5 = search arith

  seen_names : (edits : Edits) (suite : ℕ) (row : Option Row) → AllSet Names edits → NamesIn row → NamesIn (seen edits suite row)
  seen_names [] suite row sets names = names
  seen_names (e ∷ edits) suite row sets names = search (changed_names, seen_names edits suite row, arith)

  touched : (b : Bool) (found : Option Change) (change : Change) → cond b found None ≡ Some change → found ≡ Some change
  touched b found change h3 = search arith

  edits_name : (suites : Suites) (edits : Edits) → AllFine suites → AllSet Names edits → ChangesName (changes.changes_of (known_of suites) edits)
  edits_name suites edits fine sets number change is = search (touched, changes_by_suite, none-some, same_Some, seen_names, known_names, arith)

  done_names : (task : Task) (suites : Suites) (answers : List Answer) (changes' : Changes) → heard_on fixed task suites ≡ exec.Done answers changes' → AllFine suites → ChangesName changes'
  done_names task suites answers changes' is fine = of (exec_of fixed.service (known_of suites) task.t task.caller task.ops) refl is
    where
      of : (heard : Heard (List Answer) Refusal) → exec_of fixed.service (known_of suites) task.t task.caller task.ops ≡ heard → answered (known_of suites) heard ≡ exec.Done answers changes' → ChangesName changes'
      of (Done (Ok ended)) was is =
          let same : changes.changes_of (known_of suites) ended.edits ≡ changes' = cc in
          subst ChangesName same
          (edits_name suites ended.edits fine
          (edits_set Names fixed.service goes.known (goes.names fixed.service.c0 goes.opening) (known_of suites) task.t task.caller task.ops ended was))
      of other was is = cc

  -- ---- what is needed

  needed_first : (known' : Known) (heard : Heard (List Answer) Refusal) (need : Need) → answered known' heard ≡ exec.Need need → heard ≡ Needs need
  needed_first known' heard need h3 = search arith

  read_there : (task : Task) (suites : Suites) (number : ℕ) → heard_on fixed task suites ≡ exec.Need (Know number) → (suite : GatheredSuite) × (suite_of suites number ≡ Some suite)
  read_there task suites number is = search (suite_known, reads_known, needed_first, arith)

  shared_only : (mode other : LockMode) → serves mode other ≡ false → mode ≡ Shared
  shared_only mode other h2 = search arith

  -- a suite of which a lock is needed is held in the other mode
  was_shared : (task : Task) (suites : Suites) (number : ℕ) (mode : LockMode) (suite : GatheredSuite) → heard_on fixed task suites ≡ exec.Need (Hold number mode) → suite_of suites number ≡ Some suite → Full suite → suite.mode ≡ Shared
  was_shared task suites number mode suite is there full =
      shared_only suite.mode mode
      (sym (ap (known.is_held mode) (known_at suites number suite full.first there full.was))
      ∙ needs_what_is_unmet fixed.service (known_of suites) task.t task.caller task.ops (Hold number mode)
      (needed_first (known_of suites) (exec_of fixed.service (known_of suites) task.t task.caller task.ops) (Hold number mode) is))

  -- ---- a suite is gathered

  thresholds : (mode : LockMode) (votes : Configuration) → V votes → 0 < needed_of mode votes
  thresholds mode votes h2 = search arith

  needs_some : (c : Collector) → c.widening ≡ None → V (newest c.start c.told).votes → 0 < needed c
  needs_some c narrow is = subst (λ w. 0 < needed_of (mode_or w c.mode) (votes_or w (newest c.start c.told))) (sym narrow) (thresholds c.mode (newest c.start c.told).votes is)

  hinted : (task : Task) (cache : Cache) (number : ℕ) → CacheFine cache → V (start_from fixed task cache number).votes
  hinted task cache number cached = of (hint cache task.site number) refl
    where
      of : (found : Option Prefix) → hint cache task.site number ≡ found → V (unwrap_or found (absent_prefix fixed.service.c0)).votes
      of None is = goes.opening
      of (Some prefix) is = let came = hint_has cache task.site number prefix is in subst (λ (prefix : Prefix). V prefix.votes) came.3 (cached came.0 came.1)

  -- what begins to be gathered, and is not gathered at once
  record Begins (suite : GatheredSuite) : Type 0 where
    fine : Fine suite
    narrow : suite.collector.widening ≡ None
    plain : IsPlain suite.collector
    asks : (prefix : Prefix) (dver : ℕ) (members : List ℕ) → next suite.collector ≡ Current prefix dver members → ⊥

  begins_new : (task : Task) (cache : Cache) (number : ℕ) (mode : LockMode) → CacheFine cache → Begins (raised_or_new fixed task cache number mode None)
  begins_new task cache number mode cached =
      let start = start_from fixed task cache number in
      record {
        fine = record { start = hinted task cache number cached; told = tt; since = tt; wide = λ w is. absurd (none-some w is); first = λ f is. absurd (none-some f is) };
        narrow = refl;
        plain = λ shared. tt;
        asks = λ prefix dver members is. not_current (collect mode start) prefix dver members (needs_some (collect mode start) refl (hinted task cache number cached)) (λ server. refl) is;
      }

  begins_raised : (suite : GatheredSuite) → Fine suite → Full suite → suite.mode ≡ Shared → Begins (record suite { collector = raise suite.collector })
  begins_raised suite fine full shared =
      let c = raise suite.collector in
      let exclusive : c.mode ≡ Exclusive = ap (λ w. Rattle.suite_collect.specs.Collecting.raised w suite.collector.mode) full.narrow in
      record {
        fine = record { start = fine.start; told = fine.told; since = fine.since; wide = fine.wide; first = fine.first };
        narrow = full.narrow;
        plain = λ is. absurd (apart c.mode exclusive is);
        asks = λ prefix dver members is.
            not_current c prefix dver members (needs_some c full.narrow (newest_so V S c.start c.told fine.start fine.told))
            (λ server.
            ap (λ w. holds (mode_or w c.mode) (told_since w ++ c.told) server) full.narrow
            ∙ ap (λ mode. holds mode c.told server) exclusive
            ∙ none_exclusive c.told server (full.plain (sym full.mode ∙ shared))) is;
      }
    where
      apart : (mode : LockMode) → mode ≡ Exclusive → mode ≡ Shared → ⊥
      apart mode h1 h2 = search arith

  begins_on : (task : Task) (cache : Cache) (suites : Suites) (number : ℕ) (mode : LockMode) (found : Option GatheredSuite) → suite_of suites number ≡ found → heard_on fixed task suites ≡ exec.Need (Hold number mode)
      → CacheFine cache → AllFine suites → Each IsFull suites → Begins (raised_or_new fixed task cache number mode found)
  begins_on task cache suites number mode None there is cached fine full = begins_new task cache number mode cached
  begins_on task cache suites number mode (Some suite) there is cached fine full = search (begins_raised, fine_at, was_shared, arith)

  l_gather : (task : Task) (cache : Cache) (suites : Suites) (number : ℕ) (suite : GatheredSuite) (after : Next) → next suite.collector ≡ after → CacheFine cache → AllFine suites → EachBut IsFull number suites → Begins suite
      → Leaves (gather_by task cache (with_suite number suite suites) number after)
  l_gather task cache suites number suite (Short had wanting busy) is cached fine others begins = search (l_give_up, fine_with, arith)
  l_gather task cache suites number suite (Ask server asked) is cached fine others begins = (
    cached,
    (
      fine_with suites number suite fine begins.fine,
      Rattle.txn_core.proofs.Gathers.but_with IsFull number suites suite others,
      record {
        asking = record { suite = suite; there = there_with suites number suite; server = server; asked = asked; asks = is };
        narrow = begins.narrow;
        plain = begins.plain;
      },
    ),
  )
  l_gather task cache suites number suite (Current prefix dver members) is cached fine others begins = absurd (begins.asks prefix dver members is)

  -- ---- the executor

  fine_content : (suite : GatheredSuite) (content : Option Content) → Fine suite → Fine (record suite { content = content })
  fine_content suite content fine = record { start = fine.start; told = fine.told; since = fine.since; wide = fine.wide; first = fine.first }

  full_content : (suite : GatheredSuite) (content : Option Content) → Full suite → Full (record suite { content = content })
  full_content suite content full = record { first = full.first; was = full.was; narrow = full.narrow; mode = full.mode; plain = full.plain }

  pub record Whole (all : Gathered) : Type 0 where
    pub fine : AllFine all.suites
    pub full : Each IsFull all.suites
    pub cached : CacheFine all.cache

  pub whole_content : (suites : Suites) (number : ℕ) (suite : GatheredSuite) (content : Content) (cache : Cache) → AllFine suites → Each IsFull suites → CacheFine cache → suite_of suites number ≡ Some suite
      → Whole (record { suites = with_suite number (record suite { content = Some content }) suites; cache = cache })
  whole_content suites number suite content cache fine full cached there = search (fine_with, fine_content, fine_at, each_with, each_but, full_content, arith)

  searched_fine : (task : Task) (cache : Cache) (number : ℕ) (first : ReadPoint) → CacheFine cache → CacheFine (after_search task cache number first)
  searched_fine task cache number first cached = search (searched_has, arith)

  whole_opened : (n : ℕ) (task : Task) (all : Gathered) → Whole all → Whole (opened n fixed task all)
  whole_opened zero task all whole = whole
  whole_opened (suc n) task all whole = of (heard_on fixed task all.suites) (λ more whole. whole_opened n task more whole)
    where
      or' : (found : Option Gathered) → ((more : Gathered) → found ≡ Some more → Whole more) → ((more : Gathered) → Whole more → Whole (opened n fixed task more)) → Whole (or_all all found (λ all. opened n fixed task all))
      or' found h1 h2 = search arith

      with_content : (number : ℕ) (suite : GatheredSuite) (first : ReadPoint) (content : Option Content) (more : Gathered) → suite_of all.suites number ≡ Some suite → opened_with task all number suite first content ≡ Some more → Whole more
      with_content number suite first (Some content) more there is =
          subst Whole (same_Some _ more is)
          (whole_content all.suites number suite content (after_search task all.cache number first) whole.fine whole.full (searched_fine task all.cache number first whole.cached) there)
      with_content number suite first None more there is = cc

      at_first : (number : ℕ) (suite : GatheredSuite) (first : Option ReadPoint) (more : Gathered) → suite_of all.suites number ≡ Some suite → open_first task all number suite first ≡ Some more → Whole more
      at_first number suite first more h4 h5 = search (with_content, arith)

      at_suite : (number : ℕ) (found : Option GatheredSuite) (more : Gathered) → suite_of all.suites number ≡ found → open_suite task all number found ≡ Some more → Whole more
      at_suite number found more h3 h4 = search (at_first, arith)

      needed' : (heard : Executed) (more : Gathered) → open_needed task all heard ≡ Some more → Whole more
      needed' heard more h2 = search (at_suite, arith)

      of : (heard : Executed) → ((more : Gathered) → Whole more → Whole (opened n fixed task more)) → Whole (or_all all (open_needed task all heard) (λ all. opened n fixed task all))
      of heard later = or' (open_needed task all heard) (needed' heard) later

  l_proceed : (task : Task) (cache : Cache) (suites : Suites) (heard : Executed) → heard_on fixed task suites ≡ heard → CacheFine cache → AllFine suites → Each IsFull suites → Leaves (proceed fixed task cache suites heard)
  l_proceed task cache suites (exec.Need (Hold number mode)) is cached fine full = search (l_gather, each_but, begins_on, arith)
  l_proceed task cache suites (exec.Need (Know number)) is cached fine full = (cached, (fine, full, read_there task suites number is))
  l_proceed task cache suites (exec.Done answers changes') is cached fine full = search (l_widen, done_names, arith)
  l_proceed task cache suites (exec.Refused refusal) is cached fine full = l_prepare task cache suites (Err refusal) (locked_at suites) cached fine (all_locking suites fine)

  pub l_execute : (task : Task) (all : Gathered) → Whole all → Leaves (execute fixed task all)
  l_execute task all whole = search (whole_opened, l_proceed, arith)
