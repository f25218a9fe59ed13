-- What a transaction holds of a suite, and what its agent caches of it, stays the register's in each step.
use Rattle.law_run_knowledge.proofs.Vocabulary.{◌≡◌, ℕ, zero, suc, ◌<◌, Bool, true, false, cond, ◌⊎◌, inl, inr, List, [], ◌∷◌, Option, Some, None, Ok, Err, refl, sym, ap, subst, ◌∙◌, arith, ◌==◌, length, find, nat_cmp, eqb-true, and_parts}
use Rattle.law_run_knowledge.proofs.Vocabulary.{nat_cmp_total, same_Some, none-some, IsOrdered, Content, absent_prefix, Prefix, LockMode, Request, Reply, Hold, Know, Said, gives_of, Entry, Cache, is_of, entry_of, hint, content_at, at_version, put}
use Rattle.law_run_knowledge.proofs.Vocabulary.{searched, ReadPoint, GatheredSuite, Suites, suite_of, with_suite, first_or, settled, source_of, Response, Replied, Lacked, Granted, Fixed, Task, Proposal, Phase, Gathering, Fetching, Widening}
use Rattle.law_run_knowledge.proofs.Vocabulary.{Preparing, Deciding, Finishing, TransactionRun, After, GoesOn, Ends, asks_same, Each, each_but, each_with, Beginning, WasPrefix, WasContent, GoesWith, World, CopiesWere, SaidIs, EntryWas, CacheWas}
use Rattle.law_run_knowledge.proofs.Vocabulary.{ToldVersion, FirstWas, SuiteWas, Lack, entries_come_from_puts, Has, has_to}
use Rattle.std.specs.Prelude.{unwrap_or}
use Rattle.sorted_map.specs.Laws.{IsOrdered-insert}
use Rattle.rep_core.specs.declared.reply.Verdict.{Verdict}
use Rattle.rep_core.specs.Fits.{is_prepared}
use Rattle.suite_collect.specs.Collecting.{Collector, tell_at, tell, mode_of, Next, Ask, Current, Short, next}
use Rattle.weak_cache.proofs.Found.{find_passes}
use Rattle.txn_core.specs.declared.ending.Cause.{Cause}
use Rattle.txn_core.specs.declared.ending.Cause.TheVariants.{Lost}
use Rattle.txn_core.specs.declared.ending.Ending.{Ending}
use Rattle.txn_core.specs.Transactions.{Step, Gathered, tell_end, give_up, prepare, locked_at, short_cause, gather_by, start_from, widen_by, widen_one, widened, widen_all, opened, or_all, open_needed, open_suite, open_first, opened_with}
use Rattle.txn_core.specs.Transactions.{free_content, after_search, heard_on, raised_or_new, keep_content, heard_of, said_to, proceed, execute, collected, hear, fetched, fetched_at, fetched_for, after_lack, after_response, given_in}
use Rattle.txn_core.specs.Transactions.{lack_cause, request_in}
use Rattle.txn_core.proofs.Cached.{given_is}
use Rattle.file_exec.specs.declared.executor.Outcome.{Outcome as Executed}
use Rattle.rep_core.specs.declared.request.Request.TheVariants as request
use Rattle.rep_core.specs.declared.reply.Reply.TheVariants as reply
use Rattle.file_exec.specs.declared.executor.Outcome.TheVariants as exec
use Rattle.suite_collect.specs.declared.told.Told as collect
use Rattle.law_run_knowledge.proofs.Opened.{fetched_above}
use Rattle.law_run_knowledge.proofs.Showed.{newest_was, showed, sourced, narrow_version}

-- a suite whose content is fetched has one of a version above 0
abbrev pub InPhase : Suites → Phase → Type 0
InPhase suites (Fetching number) = (suite : GatheredSuite) (first : ReadPoint) → suite_of suites number ≡ Some suite → suite.first ≡ Some first → 0 < first.dver
InPhase suites _ = Unit {0}

-- before a suite had a Current it was not widened
abbrev pub IsNarrow : GatheredSuite → Type 0
IsNarrow suite = suite.first ≡ None → suite.collector.widening ≡ None

tell_narrow : (one : collect.Told) (c : Collector) → c.widening ≡ None → (tell one c).widening ≡ None
tell_narrow one c narrow = ap (λ w. (tell_at w one c).widening) narrow ∙ narrow

found_has : (q : Entry → Bool) (c : Cache) (x : Entry) → find q c ≡ Some x → Has c x
found_has q [] x is = cc
found_has q (e ∷ c) x is =
    elim (q e) as (λ t. cond t (Some e) (find q c) ≡ Some x → Has (e ∷ c) x) [
      | true ↦ λ is. inl (same_Some e x is)
      | false ↦ λ is. inr (found_has q c x is)
    ] is

entry_suite : (site suite : ℕ) (entry : Entry) → is_of site suite entry ≡ true → entry.suite ≡ suite
entry_suite site suite entry is = eqb-true entry.suite suite (and_parts (entry.site == site) (entry.suite == suite) is).1

module _ (start : Beginning) (z : ℕ) (w : World) (copies : CopiesWere start w) (fixed : Fixed) (never : WasPrefix start w.log (absent_prefix fixed.service.c0)) (task : Task) where
  abbrev pub K : ℕ → GatheredSuite → Type 0
  K number suite = number ≡ z → SuiteWas start w task.t suite

  abbrev pub Fit : Suites → Type 0
  Fit suites = IsOrdered nat_cmp suites × Each K suites

  abbrev pub Kept : Cache → Type 0
  Kept cache = CacheWas z start w.log cache

  abbrev pub AfterFits : After TransactionRun → Type 0
  AfterFits (GoesOn txn_run) = (txn_run.task ≡ task) × Fit txn_run.suites × InPhase txn_run.suites txn_run.phase
  AfterFits (Ends ending) = Unit {0}

  abbrev pub Fits : Step → Type 0
  Fits step = Kept step.cache × AfterFits step.after

  with_fit : (number : ℕ) (suite : GatheredSuite) (suites : Suites) → Fit suites → K number suite → Fit (with_suite number suite suites)
  with_fit number suite suites fit own = (IsOrdered-insert nat_cmp_total suites number suite fit.0, each_with K number suites suite (each_but K number suites fit.1) own)

  -- ---- caches

  found_was : (cache : Cache) (number dver : ℕ) (content : Content) → Kept cache → number ≡ z → 0 < dver → content_at cache task.site number dver ≡ Some content → WasContent start w.log dver content
  found_was cache number dver content kept is some found = of (entry_of cache task.site number) refl found
    where
      of : (o : Option Entry) → entry_of cache task.site number ≡ o → at_version dver o ≡ Some content → WasContent start w.log dver content
      of None there found = cc
      of (Some entry) there found =
          elim (entry.dver == dver) as (λ b. (entry.dver == dver) ≡ b → cond b (Some entry.content) None ≡ Some content → WasContent start w.log dver content) [
            | true ↦ λ same found.
                let at = eqb-true entry.dver dver same in
                let was = kept entry (has_to cache entry (found_has (is_of task.site number) cache entry there)) (entry_suite task.site number entry (find_passes (is_of task.site number) cache entry there) ∙ is) in
                subst (λ content. WasContent start w.log dver content) (same_Some entry.content content found) (subst (λ d. WasContent start w.log d entry.content) at (was.content (subst (λ d. 0 < d) (sym at) some)))
            | false ↦ λ _ found. absurd (none-some content found)
          ] refl found

  started_was : (cache : Cache) (number : ℕ) → Kept cache → number ≡ z → WasPrefix start w.log (start_from fixed task cache number)
  started_was cache number kept is = of (hint cache task.site number) refl
    where
      of : (o : Option Prefix) → hint cache task.site number ≡ o → WasPrefix start w.log (unwrap_or o (absent_prefix fixed.service.c0))
      of None found = never
      of (Some prefix) found =
          let came = entries_come_from_puts.hint cache task.site number prefix found in
          subst (WasPrefix start w.log) came.3 (kept came.0 came.1 (entry_suite task.site number came.0 came.2 ∙ is)).prefix

  searched_kept : (number dver : ℕ) (cache : Cache) → Kept cache → Kept (searched task.site number dver cache)
  searched_kept number dver cache kept entry there = kept entry (entries_come_from_puts.searched task.site number dver cache entry there)

  put_kept : (number : ℕ) (first : ReadPoint) (content : Content) (cache : Cache) → (number ≡ z → FirstWas start w task.t first × (0 < first.dver → WasContent start w.log first.dver content)) → Kept cache
      → Kept (put fixed.limits (record { site = task.site; suite = number; prefix = first.prefix; dver = first.dver; content = content }) cache)
  put_kept number first content cache new kept entry there is =
      let it : Entry = record { site = task.site; suite = number; prefix = first.prefix; dver = first.dver; content = content } in
      elim (entries_come_from_puts.put fixed.limits it cache entry there) [
        | inl same ↦
            let own = new (ap (λ (entry : Entry). entry.suite) (sym same) ∙ is) in
            subst (EntryWas start w.log) (sym same) (record { prefix = own.0.prefix; content = own.1 })
        | inr before ↦ kept entry before is
      ]

  -- ---- steps

  fits_end : (cache : Cache) (suites : Suites) (v : Verdict) (ending : Ending) (servers : List ℕ) → Kept cache → Fit suites → Fits (tell_end task cache suites v ending servers)
  fits_end cache suites v ending [] kept fit = (kept, tt)
  fits_end cache suites v ending (server ∷ servers) kept fit = (kept, (refl, fit, tt))

  fits_give_up : (cache : Cache) (suites : Suites) (cause : Cause) → Kept cache → Fit suites → Fits (give_up task cache suites cause)
  fits_give_up cache suites cause kept fit = fits_end cache suites _ _ (locked_at suites) kept fit

  fits_prepare : (cache : Cache) (suites : Suites) (outcome : Proposal) (servers : List ℕ) → Kept cache → Fit suites → Fits (prepare task cache suites outcome servers)
  fits_prepare cache suites outcome [] kept fit = (kept, (refl, fit, tt))
  fits_prepare cache suites outcome (server ∷ servers) kept fit = (kept, (refl, fit, tt))

  fits_gather : (cache : Cache) (suites : Suites) (number : ℕ) (next : Next) → Kept cache → Fit suites → Fits (gather_by task cache suites number next)
  fits_gather cache suites number (Short got needed busy) kept fit = fits_give_up cache suites (short_cause number got needed busy) kept fit
  fits_gather cache suites number _ kept fit = (kept, (refl, fit, tt))

  fits_widen_by : (cache : Cache) (suites : Suites) (left : List ℕ) (granted : Granted) (number : ℕ) (next : Next) (go_on : Suites → Step) → Kept cache → Fit suites
      → ((suites : Suites) → Fit suites → Fits (go_on suites)) → Fits (widen_by task cache suites (Widening left granted) number next go_on)
  fits_widen_by cache suites left granted number (Current prefix dver members) go_on kept fit more = more suites fit
  fits_widen_by cache suites left granted number (Ask server asked) go_on kept fit more = (kept, (refl, fit, tt))
  fits_widen_by cache suites left granted number (Short got needed busy) go_on kept fit more = fits_give_up cache suites (short_cause number got needed busy) kept fit

  fits_widen_one : (cache : Cache) (suites : Suites) (left : List ℕ) (granted : Granted) (number : ℕ) (found : Option GatheredSuite) (go_on : Suites → Step)
      → suite_of suites number ≡ found → Kept cache → Fit suites → ((suites : Suites) → Fit suites → Fits (go_on suites))
      → Fits (widen_one task cache suites (Widening left granted) granted.changes number found go_on)
  fits_widen_one cache suites left granted number (Some suite) go_on there kept fit more =
      let now = widened granted.changes number suite in
      fits_widen_by cache (with_suite number now suites) left granted number (next now.collector) go_on kept
      (with_fit number now suites fit (λ is. let was = fit.1 number suite there is in record { from = was.from; told = was.told; since = was.since; first = was.first; content = was.content })) more
  fits_widen_one cache suites left granted number None go_on there kept fit more = more suites fit

  fits_widen : (cache : Cache) (suites : Suites) (granted : Granted) (left : List ℕ) → Kept cache → Fit suites → Fits (widen_all task cache suites granted left)
  fits_widen cache suites granted [] kept fit = fits_prepare cache suites (Ok granted) (locked_at suites) kept fit
  fits_widen cache suites granted (number ∷ left) kept fit =
      fits_widen_one cache suites (number ∷ left) granted number (suite_of suites number) _ refl kept fit (λ suites fit. fits_widen cache suites granted left kept fit)

  fits_raised : (cache : Cache) (number : ℕ) (mode : LockMode) (found : Option GatheredSuite) → Kept cache → ((suite : GatheredSuite) → found ≡ Some suite → K number suite) → K number (raised_or_new fixed task cache number mode found)
  fits_raised cache number mode (Some suite) kept each is = let was = each suite refl is in record { from = was.from; told = was.told; since = was.since; first = was.first; content = was.content }
  fits_raised cache number mode None kept each is = record { from = started_was cache number kept is; told = tt; since = tt; first = λ first same. cc; content = λ content same. cc }

  fits_proceed : (cache : Cache) (suites : Suites) (heard : Executed) → Kept cache → Fit suites → ((number : ℕ) → heard ≡ exec.Need (Know number) → InPhase suites (Fetching number)) → Fits (proceed fixed task cache suites heard)
  fits_proceed cache suites (exec.Need (Hold number mode)) kept fit above = search (fits_raised cache number mode (suite_of suites number) kept (fit.1 number), fits_gather, with_fit, arith)
  fits_proceed cache suites (exec.Need (Know number)) kept fit above = (kept, (refl, fit, above number refl))
  fits_proceed cache suites (exec.Done answers changes) kept fit above = fits_widen cache suites (record { answers = answers; changes = changes }) _ kept fit
  fits_proceed cache suites (exec.Refused refusal) kept fit above = fits_prepare cache suites (Err refusal) (locked_at suites) kept fit

  -- ---- contents that are had without asking

  above_zero : (n : ℕ) → (n == 0) ≡ false → 0 < n
  above_zero n h1 = search arith

  free_goes : (cache : Cache) (number : ℕ) (first : ReadPoint) (content : Content) → Kept cache → number ≡ z → free_content task cache number first ≡ Some content → GoesWith start w.log first.prefix first.dver content
  free_goes cache number first content kept is found = search (eqb-true, same_Some, found_was, above_zero, arith)

  after_kept : (cache : Cache) (number : ℕ) (first : ReadPoint) → Kept cache → Kept (after_search task cache number first)
  after_kept cache number first kept = elim (first.dver == 0) as (λ b. Kept (cond b cache (searched task.site number first.dver cache))) [ true ↦ kept | false ↦ searched_kept number first.dver cache kept ]

  abbrev AllFit : Gathered → Type 0
  AllFit all = Kept all.cache × Fit all.suites

  module _ (all : Gathered) (fits : AllFit all) where
    with_content : (number : ℕ) (suite : GatheredSuite) (first : ReadPoint) (content : Option Content) (more : Gathered) → suite_of all.suites number ≡ Some suite
        → suite.first ≡ Some first → free_content task all.cache number first ≡ content → opened_with task all number suite first content ≡ Some more → AllFit more
    with_content number suite first (Some content) more there was free is =
        let new : GatheredSuite = record suite { content = Some content } in
        let own : K number new = λ is.
        let old = fits.1.1 number suite there is in
        record {
          from = old.from;
          told = old.told;
          since = old.since;
          first = old.first;
          content = λ other same. (first, was, subst (GoesWith start w.log first.prefix first.dver) (same_Some content other same) (free_goes all.cache number first content fits.0 is free));
        } in
        subst AllFit (same_Some _ more is) (after_kept all.cache number first fits.0, with_fit number new all.suites fits.1 own)
    with_content number suite first None more there was free is = cc

    at_first : (number : ℕ) (suite : GatheredSuite) (first : Option ReadPoint) (more : Gathered) → suite_of all.suites number ≡ Some suite → suite.first ≡ first → open_first task all number suite first ≡ Some more → AllFit more
    at_first number suite (Some first) more there was is = with_content number suite first (free_content task all.cache number first) more there was refl is
    at_first number suite None more there was is = cc

    at_suite : (number : ℕ) (found : Option GatheredSuite) (more : Gathered) → suite_of all.suites number ≡ found → open_suite task all number found ≡ Some more → AllFit more
    at_suite number (Some suite) more there is = at_first number suite suite.first more there refl is
    at_suite number None more there is = cc

    needed_fits : (heard : Executed) (more : Gathered) → open_needed task all heard ≡ Some more → AllFit more
    needed_fits (exec.Need (Know number)) more is = at_suite number (suite_of all.suites number) more refl is
    needed_fits other more is = cc

  opened_fits : (n : ℕ) (all : Gathered) → AllFit all → AllFit (opened n fixed task all)
  opened_fits zero all fits = fits
  opened_fits (suc n) all fits = of (open_needed task all (heard_on fixed task all.suites)) refl (λ more fits. opened_fits n more fits)
    where
      of : (found : Option Gathered) → open_needed task all (heard_on fixed task all.suites) ≡ found → ((more : Gathered) → AllFit more → AllFit (opened n fixed task more)) → AllFit (or_all all found (λ all. opened n fixed task all))
      of (Some more) is later = later more (needed_fits all fits (heard_on fixed task all.suites) more is)
      of None is later = fits

  pub fits_execute : (all : Gathered) → Kept all.cache → Fit all.suites → Fits (execute fixed task all)
  fits_execute all kept fit = search (opened_fits (length all.suites) all (kept, fit), fits_proceed, fetched_above, arith)

  -- ---- replies

  settled_was : (prefix : Prefix) (dver : ℕ) (members : List ℕ) (suite : GatheredSuite) → IsNarrow suite → next suite.collector ≡ Current prefix dver members
      → SuiteWas start w task.t suite → SuiteWas start w task.t (settled prefix dver members suite)
  settled_was prefix dver members suite narrow is was = of suite.first refl
    where
      new : ReadPoint
      new = record { prefix = prefix; dver = dver; source = source_of suite.collector dver members }

      new_was : suite.collector.widening ≡ None → FirstWas start w task.t new
      new_was none = search (gives_of, newest_was, showed, sourced, narrow_version, arith)

      no_first : (content : Content) → suite.content ≡ Some content → suite.first ≡ None → ⊥
      no_first content there none = let known = was.content content there in none-some known.0 (sym none ∙ known.1)

      of : (first : Option ReadPoint) → suite.first ≡ first → SuiteWas start w task.t (settled prefix dver members suite)
      of (Some old) had = record {
        from = was.from;
        told = was.told;
        since = was.since;
        first = λ first same. was.first first (had ∙ (ap (λ o. first_or o new) (sym had) ∙ same));
        content = λ content there. let known = was.content content there in (known.0, ap (λ o. first_or o new) known.1, known.2);
      }
      of None had = record {
        from = was.from;
        told = was.told;
        since = was.since;
        first = λ first same. subst (FirstWas start w task.t) (same_Some new first (ap (λ o. first_or o new) (sym had) ∙ same)) (new_was (narrow had));
        content = λ content there. absurd (no_first content there had);
      }

  told_was : (one : collect.Told) (suite : GatheredSuite) → SaidIs (w.told one.server task.t) one.said → SuiteWas start w task.t suite → SuiteWas start w task.t (record suite { collector = tell one suite.collector })
  told_was one suite said was = search arith

  -- what a reply of this server to a request of the suite says to a collector
  abbrev pub SaysTo : ℕ → Request → Reply → Type 0
  SaysTo server asked said = (heard : Said) → said_to asked said ≡ Some heard → SaidIs (w.told server task.t) heard

  fits_heard : (cache : Cache) (suites : Suites) (phase : Phase) (number : ℕ) (found : Option GatheredSuite) (server : ℕ) (asked : Request) (said : Reply) (go_on : Suites → Step)
      → ((suites : Suites) → InPhase suites phase) → suite_of suites number ≡ found
      → (number ≡ z → (suite : GatheredSuite) → suite_of suites number ≡ Some suite → IsNarrow suite) → (number ≡ z → SaysTo server asked said) → Kept cache → Fit suites → ((suites : Suites) → Fit suites → Fits (go_on suites))
      → Fits (heard_of task cache suites phase number found server asked said go_on)
  fits_heard cache suites phase number None server asked said go_on any there narrow says kept fit more = fits_give_up cache suites (Lost server) kept fit
  fits_heard cache suites phase number (Some suite) server asked said go_on any there narrow says kept fit more = of (said_to asked said) refl
    where
      at : (now : GatheredSuite) (after : Next) → K number now → (number ≡ z → IsNarrow now) → next now.collector ≡ after → Fits (collected task cache suites phase number now after (λ suite. go_on (with_suite number suite suites)))
      at now (Ask who what) own narrow_now is = (kept, (refl, with_fit number now suites fit own, any (with_suite number now suites)))
      at now (Short got needed busy) own narrow_now is = fits_give_up cache (with_suite number now suites) (short_cause number got needed busy) kept (with_fit number now suites fit own)
      at now (Current prefix dver members) own narrow_now is =
          more (with_suite number (settled prefix dver members now) suites) (with_fit number (settled prefix dver members now) suites fit (λ here. settled_was prefix dver members now (narrow_now here) is (own here)))

      of : (heard : Option Said) → said_to asked said ≡ heard → Fits (hear task cache suites phase number suite server asked heard (λ suite. go_on (with_suite number suite suites)))
      of None is = fits_give_up cache suites (Lost server) kept fit
      of (Some heard) is =
          let one : collect.Told = record { server = server; mode = mode_of asked; said = heard } in
          let now : GatheredSuite = record suite { collector = tell one suite.collector } in
          at now (next now.collector) (λ here. told_was one suite (says here heard is) (fit.1 number suite there here)) (λ here none. tell_narrow one suite.collector (narrow here suite there none)) refl

  -- what it gives of the suite's content to a transaction that was told there of a version above 0
  abbrev pub Gives : ℕ → Request → Reply → Type 0
  Gives server asked said = (t dver given : ℕ) (content : Content) → asked ≡ request.Fetch t z → said ≡ reply.Given given content → t ≡ task.t → 0 < dver → ToldVersion w task.t server dver → WasContent start w.log dver content

  fits_fetched : (cache : Cache) (suites : Suites) (number : ℕ) (server : ℕ) (asked : Request) (said : Reply)
      → request_in fixed task suites (Fetching number) ≡ Some (server, asked) → InPhase suites (Fetching number) → Gives server asked said → Kept cache → Fit suites
      → Fits (fetched fixed task cache suites number (suite_of suites number) server (given_in said))
  fits_fetched cache suites number server asked said is above gives kept fit = of (suite_of suites number) refl is (given_in said) refl
    where
      keeps : (suite : GatheredSuite) (content : Content) (first : Option ReadPoint) → suite_of suites number ≡ Some suite → suite.first ≡ first
          → fetched_at task number first ≡ Some (server, asked) → given_in said ≡ Some content → Fits (keep_content fixed task cache suites number suite content first server)
      keeps suite content None there was is told = fits_give_up cache suites (Lost server) kept fit
      keeps suite content (Some first) there was is told =
          let new : GatheredSuite = record suite { content = Some content } in
          let given = given_is said content told in
          let at : first.source ≡ server = ap (λ (pair : ℕ × Request). pair.0) (same_Some (first.source, request.Fetch task.t number) (server, asked) is) in
          let what : request.Fetch task.t number ≡ asked = asks_same first.source server (request.Fetch task.t number) asked is in
          let some = above suite first there was in
          let had : number ≡ z → WasContent start w.log first.dver content = λ here.
          gives task.t first.dver given.0 content (sym what ∙ ap (request.Fetch task.t) here) given.1 refl some (subst (λ server. ToldVersion w task.t server first.dver) at (((fit.1 number suite there here).first first was).source some)) in
          let own : K number new = λ here.
          let old = fit.1 number suite there here in
          record {
            from = old.from;
            told = old.told;
            since = old.since;
            first = old.first;
            content = λ other same. (first, was, inl (subst (WasContent start w.log first.dver) (same_Some content other same) (had here)));
          } in
          fits_execute _ (put_kept number first content cache (λ here. ((fit.1 number suite there here).first first was, λ _. had here)) kept) (with_fit number new suites fit own)

      of : (found : Option GatheredSuite) → suite_of suites number ≡ found → fetched_for task number found ≡ Some (server, asked) → (content : Option Content)
          → given_in said ≡ content → Fits (fetched fixed task cache suites number found server content)
      of (Some suite) there is (Some content) told = keeps suite content suite.first there refl is told
      of (Some suite) there is None told = fits_give_up cache suites (Lost server) kept fit
      of None there is (Some content) told = fits_give_up cache suites (Lost server) kept fit
      of None there is None told = fits_give_up cache suites (Lost server) kept fit

  fits_lack : (cache : Cache) (suites : Suites) (phase : Phase) (server : ℕ) (lacked : Lack) → Kept cache → Fit suites → Fits (after_lack task cache suites phase server lacked)
  fits_lack cache suites (Finishing [] v ending) server lacked kept fit = (kept, tt)
  fits_lack cache suites (Finishing (now ∷ left) v ending) server lacked kept fit = fits_end cache suites v ending left kept fit
  fits_lack cache suites other server lacked kept fit = fits_give_up cache suites (lack_cause server lacked) kept fit

  -- what a response is to the suite: a request of it is answered so
  pub record Says (suites : Suites) (phase : Phase) (server : ℕ) (asked : Request) (response : Response) : Type 0 where
    pub narrow : (number : ℕ) → (phase ≡ Gathering number) ⊎ ((left : List ℕ) × (granted : Granted) × (phase ≡ Widening (number ∷ left) granted)) → number ≡ z → (suite : GatheredSuite) → suite_of suites number ≡ Some suite → IsNarrow suite
    pub says : (number : ℕ) → (phase ≡ Gathering number) ⊎ ((left : List ℕ) × (granted : Granted) × (phase ≡ Widening (number ∷ left) granted)) → number ≡ z → (said : Reply) → response ≡ Replied said → SaysTo server asked said
    pub gives : (said : Reply) → response ≡ Replied said → Gives server asked said

  pub fits_response : (cache : Cache) (suites : Suites) (phase : Phase) (server : ℕ) (asked : Request) (response : Response)
      → request_in fixed task suites phase ≡ Some (server, asked) → InPhase suites phase → Says suites phase server asked response → Kept cache → Fit suites
      → Fits (after_response fixed (record { task = task; suites = suites; phase = phase }) cache server asked response)
  fits_response cache suites phase server asked (Lacked lacked) is above says kept fit = fits_lack cache suites phase server lacked kept fit
  fits_response cache suites (Gathering number) server asked (Replied said) is above says kept fit =
      fits_heard cache suites (Gathering number) number (suite_of suites number) server asked said _ (λ suites. tt) refl (says.narrow number (inl refl)) (λ here. says.says number (inl refl) here said refl) kept fit
      (λ suites fit. fits_execute (record { suites = suites; cache = cache }) kept fit)
  fits_response cache suites (Fetching number) server asked (Replied said) is above says kept fit = fits_fetched cache suites number server asked said is above (says.gives said refl) kept fit
  fits_response cache suites (Widening [] granted) server asked (Replied said) is above says kept fit = fits_give_up cache suites (Lost server) kept fit
  fits_response cache suites (Widening (number ∷ left) granted) server asked (Replied said) is above says kept fit =
      fits_heard cache suites (Widening (number ∷ left) granted) number (suite_of suites number) server asked said _ (λ suites. tt) refl
      (says.narrow number (inr (left, granted, refl))) (λ here. says.says number (inr (left, granted, refl)) here said refl) kept fit
      (λ suites fit. fits_widen cache suites granted left kept fit)
  fits_response cache suites (Preparing [] outcome) server asked (Replied said) is above says kept fit = fits_give_up cache suites (Lost server) kept fit
  fits_response cache suites (Preparing (now ∷ left) outcome) server asked (Replied said) is above says kept fit = of (is_prepared said)
    where
      of : (b : Bool) → Fits (cond b (prepare task cache suites outcome left) (give_up task cache suites (Lost server)))
      of true = fits_prepare cache suites outcome left kept fit
      of false = fits_give_up cache suites (Lost server) kept fit
  fits_response cache suites (Deciding outcome) server asked (Replied said) is above says kept fit = search (fits_end, arith)
  fits_response cache suites (Finishing [] v ending) server asked (Replied said) is above says kept fit = (kept, tt)
  fits_response cache suites (Finishing (now ∷ left) v ending) server asked (Replied said) is above says kept fit = fits_end cache suites v ending left kept fit
