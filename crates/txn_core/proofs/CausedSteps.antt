-- Each step leaves what is caused: a phase that stands on what was told, or an end with its cause.
use Rattle.txn_core.proofs.Vocabulary.{◌≡◌, ℕ, true, false, cond, List, [], ◌∷◌, ◌++◌, Option, Some, None, Ok, Err, refl, sym, inl, inr, ap, subst, ◌∙◌, ◌==◌, ◌&&◌, not, length, same_Some, Content, Decision, Request, Reply, Verdict, Lack, arith}
use Rattle.txn_core.proofs.Vocabulary.{is_prepared, fits, Hold, Know, Told, Said, Prefix, LockMode, Shared, Exclusive, Has, Collector, all_told, raise, tell, mode_of, Asked, Next, Ask, Current, Short, next, Cache, put, ReadPoint, GatheredSuite}
use Rattle.txn_core.proofs.Vocabulary.{Suites, suite_of, with_suite, settled, told_in, parts_at, Response, Cause, Ending, Replied, Lacked, Unavailable, Busy, Lost, Full, Undecided, Granted, home_of, Fixed, Task, Proposal, Phase, Gathering, Fetching}
use Rattle.txn_core.proofs.Vocabulary.{Widening, Preparing, Deciding, Finishing, Step, Gathered, tell_end, give_up, prepare, locked_at, short_cause, gather_by, widen_by, widen_one, widened, widen_all, to_widen, opened, start_from, heard_on}
use Rattle.txn_core.proofs.Vocabulary.{raised_or_new, keep_content, heard_of, said_to, proceed, execute, collected, hear, fetched, after_lack, after_response, asked_by, asked_for, fetched_at, fetched_for, request_in, changes_of, decision_of}
use Rattle.txn_core.proofs.Vocabulary.{given_in, verdict_in, ending_by, cause_of_abort, lack_cause, Exchange, locks, is_decide, told_of, all_fit, Outcome as Executed}
use Rattle.txn_core.specs.Undecided.{says_aborted, says_down, is_finish, stops, loses}
use Rattle.rep_core.specs.declared.request.Request.TheVariants as request
use Rattle.rep_core.specs.declared.reply.Reply.TheVariants as reply
use Rattle.rep_core.specs.declared.reply.Verdict.TheVariants as verdict
use Rattle.rep_core.specs.declared.stamped.Lack.TheVariants as lack
use Rattle.file_exec.specs.declared.executor.Outcome.TheVariants as exec
use Rattle.suite_collect.specs.Collecting as collecting
use Rattle.txn_core.proofs.Asks.{asks_same, asked_as, fetched_as}
use Rattle.txn_core.proofs.Fetches.{exclusive_needed}
use Rattle.txn_core.proofs.Gathers.{self, at_with, Each, EachBut, each_but, each_with, but_with, tell_start, Base, Knows, AllGathered, Wants, Sets, Grants, wants_more, sets_more, grants_more}
use Rattle.txn_core.proofs.Gathers.{Kept, Asking, wide_told, wants_told, wide_widened, kept_same, kept_more, kept_told, asking_of, asks_new, asks_on, settles_on}
use Rattle.txn_core.proofs.Cached.{given_is}
use Rattle.txn_core.proofs.Contents.{Free, each_opened, FreeIn, free_before, GivenTo, GivenIn}
use Rattle.txn_core.proofs.ToldLists.{Are, are_same, are_opened, told_raised, all_told-tell, asks_lock}
use Rattle.txn_core.proofs.Causes.{lost_fetch, lost_prepare, push, Tells, Begun, ShortBy, CausedBy, EndIs, EndCaused, StandsOn, OrFresh, Leaves, was_now, was_more}
use Rattle.txn_core.proofs.Causes.{told_same, are_quiet, both_fit, last_fits, lost_asked, tells_heard, are_heard, told_there, there_with}

-- ---- steps

module _ (fixed : Fixed) (task : Task) (Old : Base) (Loose : ℕ → Prefix → Type 0) where
  abbrev Keeps : List Exchange → ℕ → GatheredSuite → Type 0
  Keeps past number suite = Kept fixed task Old past number suite

  -- what no lock is asked for leaves causes as they were
  short_still : (past : List Exchange) (cache : Cache) (server : ℕ) (asked : Request) (response : Response) → ((number : ℕ) → locks number asked ≡ false) → (suite had wanting : ℕ) (busy : Option (ℕ × ℕ))
      → ShortBy fixed task Old Loose past suite had wanting busy
      → ShortBy fixed task Old (OrFresh fixed task cache (push past server asked response) Loose) (push past server asked response) suite had wanting busy
  short_still past cache server asked response none suite had wanting busy by = search (told_same, sets_more, wants_more, arith)

  still_caused : (past : List Exchange) (cache : Cache) (server : ℕ) (asked : Request) (response : Response) → ((number : ℕ) → locks number asked ≡ false) → (cause : Cause) → CausedBy fixed task Old Loose past cause
      → CausedBy fixed task Old (OrFresh fixed task cache (push past server asked response) Loose) (push past server asked response) cause
  still_caused past cache server asked response none (Unavailable suite had wanting) is = short_still past cache server asked response none suite had wanting None is
  still_caused past cache server asked response none (Busy at holder) is = (is.0, is.1, is.2, short_still past cache server asked response none is.0 is.1 is.2 (Some (at, holder)) is.3)
  still_caused past cache server asked response none (Lost at) is = was_more past _ at _ is
  still_caused past cache server asked response none (Full at) is = was_more past _ at _ is
  still_caused past cache server asked response none _ is = (is.0, was_more past _ is.0 _ is.1)

  still_ended : (past : List Exchange) (cache : Cache) (server : ℕ) (asked : Request) (response : Response) → ((number : ℕ) → locks number asked ≡ false) → (ending : Ending) → EndCaused fixed task Old Loose past ending
      → EndCaused fixed task Old (OrFresh fixed task cache (push past server asked response) Loose) (push past server asked response) ending
  still_ended past cache server asked response h5 ending h7 h8 = search (still_caused, both_fit, arith)

  short_caused : (L : ℕ → Prefix → Type 0) (past : List Exchange) (number : ℕ) (collector : Collector) (had wanting : ℕ) (busy : Option (ℕ × ℕ)) → all_told collector ≡ Tells past number → next collector ≡ Short had wanting busy
      → Begun Old.start L number collector
      → ((w : collecting.Widening) → collector.widening ≡ Some w → Sets fixed task Old past number w.votes) → Wants fixed task Old past number collector.mode → CausedBy fixed task Old L past (short_cause number had wanting busy)
  short_caused L past number collector had wanting None same is begun wide wanted = record { collector = collector; told = same; short = is; begun = begun; wide = wide; wanted = wanted }
  short_caused L past number collector had wanting (Some busy) same is begun wide wanted = (number, had, wanting, record { collector = collector; told = same; short = is; begun = begun; wide = wide; wanted = wanted })

  lack_caused : (L : ℕ → Prefix → Type 0) (past : List Exchange) (server : ℕ) (asked : Request) (lacked : Lack) → is_finish asked ≡ false → CausedBy fixed task Old L (push past server asked (Lacked lacked)) (lack_cause server lacked)
  lack_caused L past server asked lack.Full open' = was_now past server asked (Lacked lack.Full) (stops lack.Full) (ap (λ b. not b && true) open')
  lack_caused L past server asked lack.Memory open' = (server, was_now past server asked (Lacked lack.Memory) (stops lack.Memory) (ap (λ b. not b && true) open'))

  -- ---- steps that hear nothing

  caused_end : (past : List Exchange) (cache : Cache) (suites : Suites) (v : Verdict) (ending : Ending) (servers : List ℕ) → EndCaused fixed task Old (OrFresh fixed task cache past Loose) past ending
      → Leaves fixed task Old Loose past (tell_end task cache suites v ending servers)
  caused_end past cache suites v ending [] is = is
  caused_end past cache suites v ending (server ∷ servers) is = (refl, is)

  caused_give_up : (past : List Exchange) (cache : Cache) (suites : Suites) (cause : Cause) → (all_fit past ≡ true → CausedBy fixed task Old (OrFresh fixed task cache past Loose) past cause)
      → Leaves fixed task Old Loose past (give_up task cache suites cause)
  caused_give_up past cache suites cause is = caused_end past cache suites verdict.Aborted (Undecided cause) (locked_at suites) is

  caused_prepare : (past : List Exchange) (cache : Cache) (suites : Suites) (outcome : Proposal) (servers : List ℕ) → Leaves fixed task Old Loose past (prepare task cache suites outcome servers)
  caused_prepare past cache suites outcome servers = search arith

  caused_gather : (past : List Exchange) (cache : Cache) (suites : Suites) (number : ℕ) (suite : GatheredSuite) (after : Next) → Are (Tells past) suites → EachBut (Keeps past) number suites → suite_of suites number ≡ Some suite
      → all_told suite.collector ≡ Tells past number → Asking fixed task Old (OrFresh fixed task cache past Old.start) past number suite → next suite.collector ≡ after
      → Leaves fixed task Old Loose past (gather_by task cache suites number after)
  caused_gather past cache suites number suite (Short had wanting busy) are others there same asking is =
      caused_give_up past cache suites (short_cause number had wanting busy) (λ _. short_caused (OrFresh fixed task cache past Loose) past number suite.collector had wanting busy same is
      (elim asking.start [ inl old ↦ inl old | inr fresh ↦ inr (inr fresh, same ∙ fresh.untold) ]) asking.wide asking.wanted)
  caused_gather past cache suites number suite _ are others there same asking is = search (same_Some, arith)

  -- what is gathered: a suite that is there, or a new one
  gathers : (past : List Exchange) (cache : Cache) (number : ℕ) (mode : LockMode) (found : Option GatheredSuite) → ((suite : GatheredSuite) → found ≡ Some suite → Keeps past number suite) → (found ≡ None → told_of number [] past ≡ [])
      → Wants fixed task Old past number mode
      → ((suite : GatheredSuite) (first : ReadPoint) → found ≡ Some suite → suite.first ≡ Some first → mode ≡ Exclusive)
      → Asking fixed task Old (OrFresh fixed task cache past Old.start) past number (raised_or_new fixed task cache number mode found)
  gathers past cache number mode (Some suite) kept untold wants exclusive =
      let raised : GatheredSuite = record suite { collector = raise suite.collector } in
      let was = kept suite refl in
      let wanted : Wants fixed task Old past number raised.collector.mode =
      wants_raised suite.collector.widening (subst (Wants fixed task Old past number) (exclusive suite was.first.first refl was.first.was) wants) was.wanted in
      let now = kept_same fixed task Old past number suite raised refl refl was.content (λ w is. was.wide w is) wanted was in
      record { start = inl now.start; first = inl now.first; content = now.content; wide = now.wide; wanted = wanted }
    where
      wants_raised : (w : Option collecting.Widening) → Wants fixed task Old past number Exclusive → Wants fixed task Old past number suite.collector.mode → Wants fixed task Old past number (collecting.raised w suite.collector.mode)
      wants_raised w h1 h2 = search arith
  gathers past cache number mode None kept untold wants exclusive =
      asks_new fixed task Old past number (OrFresh fixed task cache past Old.start) mode Shared (start_from fixed task cache number) (untold refl) (inr (record { from = refl; untold = untold refl })) wants

  caused_widen_by : (past : List Exchange) (cache : Cache) (suites : Suites) (left : List ℕ) (granted : Granted) (number : ℕ) (collector : Collector) (after : Next) (go_on : Suites → Step)
      → StandsOn fixed task Old (OrFresh fixed task cache past Old.start) (OrFresh fixed task cache past Loose) past suites (Widening left granted) → all_told collector ≡ Tells past number → next collector ≡ after
      → Old.start number collector.start
      → ((w : collecting.Widening) → collector.widening ≡ Some w → Sets fixed task Old past number w.votes) → Wants fixed task Old past number collector.mode → Leaves fixed task Old Loose past (go_on suites)
      → Leaves fixed task Old Loose past (widen_by task cache suites (Widening left granted) number after go_on)
  caused_widen_by past cache suites left granted number collector (Current prefix dver members) go_on stands same is old wide wanted more = more
  caused_widen_by past cache suites left granted number collector (Ask server asked) go_on stands same is old wide wanted more = (refl, stands)
  caused_widen_by past cache suites left granted number collector (Short had wanting busy) go_on stands same is old wide wanted more =
      caused_give_up past cache suites (short_cause number had wanting busy) (λ _. short_caused (OrFresh fixed task cache past Loose) past number collector had wanting busy same is (inl old) wide wanted)

  caused_widen_one : (past : List Exchange) (cache : Cache) (suites : Suites) (number : ℕ) (left : List ℕ) (granted : Granted) (found : Option GatheredSuite) (go_on : Suites → Step) → suite_of suites number ≡ found
      → Are (Tells past) suites → Each (Keeps past) suites
      → Grants fixed task Old past granted.answers granted.changes → ((n : ℕ) → Has (number ∷ left) n → Has (to_widen granted.changes) n)
      → ((suites : Suites) → Are (Tells past) suites → Each (Keeps past) suites → Leaves fixed task Old Loose past (go_on suites))
      → Leaves fixed task Old Loose past (widen_one task cache suites (Widening (number ∷ left) granted) granted.changes number found go_on)
  caused_widen_one past cache suites number left granted None go_on there are each grants gets more = more suites are each
  caused_widen_one past cache suites number left granted (Some suite) go_on there are each grants gets more =
      let now = widened granted.changes number suite in
      let was = each number suite there in
      let kept = kept_same fixed task Old past number suite now refl refl was.content (wide_widened fixed task Old past granted.changes granted.answers number suite grants (gets number (inl refl))) was.wanted was in
      let are' = are_same (Tells past) suites number now are (sym (ap told_in there)) in
      let each' = each_with (Keeps past) number suites now (each_but (Keeps past) number suites each) kept in
      caused_widen_by past cache (with_suite number now suites) (number ∷ left) granted number now.collector (next now.collector) go_on (are', each', grants, gets)
      (told_there past suites number (Some suite) there are) refl kept.start kept.wide kept.wanted
      (more (with_suite number now suites) are' each')

  caused_widen : (past : List Exchange) (cache : Cache) (suites : Suites) (granted : Granted) (left : List ℕ) → Are (Tells past) suites → Each (Keeps past) suites → Grants fixed task Old past granted.answers granted.changes
      → ((n : ℕ) → Has left n → Has (to_widen granted.changes) n) → Leaves fixed task Old Loose past (widen_all task cache suites granted left)
  caused_widen past cache suites granted [] are each grants gets = caused_prepare past cache suites (Ok granted) (locked_at suites)
  caused_widen past cache suites granted (number ∷ left) are each grants gets =
      caused_widen_one past cache suites number left granted (suite_of suites number) _ refl are each grants gets (λ suites are each. caused_widen past cache suites granted left are each grants (λ n has. gets n (inr has)))

  gathered : (past : List Exchange) (suites : Suites) → Each (Keeps past) suites → AllGathered Old past suites
  gathered past suites each n suite there = let kept = each n suite there in (kept.start, kept.first, kept.content)

  caused_proceed : (past : List Exchange) (cache : Cache) (suites : Suites) (heard : Executed) → heard_on fixed task suites ≡ heard → Are (Tells past) suites → Each (Keeps past) suites
      → Leaves fixed task Old Loose past (proceed fixed task cache suites heard)
  caused_proceed past cache suites (exec.Need (Hold number mode)) is are each =
      let suite = raised_or_new fixed task cache number mode (suite_of suites number) in
      let same = told_raised fixed task cache number mode (suite_of suites number) in
      caused_gather past cache (with_suite number suite suites) number suite (next suite.collector) (are_same (Tells past) suites number suite are same)
      (but_with (Keeps past) number suites suite (each_but (Keeps past) number suites each)) (there_with number suite suites) (same ∙ are.1 number)
      (gathers past cache number mode (suite_of suites number) (each number) (λ none. sym (ap told_in (sym none) ∙ are.1 number))
      (record { suites = suites; gathered = gathered past suites each; needs = is }) (λ suite first there was. exclusive_needed fixed task suites number mode suite first is there was)) refl
  caused_proceed past cache suites (exec.Need (Know number)) is are each = (refl, (are, each))
  caused_proceed past cache suites (exec.Done answers changes) is are each = search (caused_widen, gathered, arith)
  caused_proceed past cache suites (exec.Refused refusal) is are each = caused_prepare past cache suites (Err refusal) (locked_at suites)

  pub caused_execute : (past : List Exchange) (all : Gathered) → FreeIn Old.content task all.cache → Are (Tells past) all.suites → Each (Keeps past) all.suites → Leaves fixed task Old Loose past (execute fixed task all)
  caused_execute past all free are each =
      let open' = opened (length all.suites) fixed task all in
      caused_proceed past open'.cache open'.suites (heard_on fixed task open'.suites) refl (are_opened (Tells past) (length all.suites) fixed task all are)
      (each_opened all.cache task (Keeps past) opens (length all.suites) fixed all (λ number dver. refl) each)
    where
      opens : (number : ℕ) (suite : GatheredSuite) (first : ReadPoint) (content : Content) → suite.first ≡ Some first → Free task all.cache first number content → Keeps past number suite
          → Keeps past number (record suite { content = Some content })
      opens number suite first content was found kept = search (kept_same, same_Some, arith)

  -- ---- a reply to a collector

  -- a suite that was told something: what is kept of it, and what follows
  record Hears (past : List Exchange) (cache : Cache) (suites : Suites) (phase : Phase) (number : ℕ) (go_on : Suites → Step) (now : GatheredSuite) : Type 0 where
    told : all_told now.collector ≡ Tells past number
    are : (it : GatheredSuite) → it.collector ≡ now.collector → Are (Tells past) (with_suite number it suites)
    begun : Old.start number now.collector.start
    wide : (w : collecting.Widening) → now.collector.widening ≡ Some w → Sets fixed task Old past number w.votes
    wanted : Wants fixed task Old past number now.collector.mode
    asks : (who : ℕ) (what : Asked) → next now.collector ≡ Ask who what → StandsOn fixed task Old (OrFresh fixed task cache past Old.start) (OrFresh fixed task cache past Loose) past (with_suite number now suites) phase
    settles : (prefix : Prefix) (dver : ℕ) (members : List ℕ) → next now.collector ≡ Current prefix dver members → Keeps past number (settled prefix dver members now)
    more : (it : GatheredSuite) → Are (Tells past) (with_suite number it suites) → Keeps past number it → Leaves fixed task Old Loose past (go_on (with_suite number it suites))

  caused_collected : (past : List Exchange) (cache : Cache) (suites : Suites) (phase : Phase) (number : ℕ) (go_on : Suites → Step) (now : GatheredSuite) (after : Next) → Hears past cache suites phase number go_on now
      → next now.collector ≡ after
      → Leaves fixed task Old Loose past (collected task cache suites phase number now after (λ suite. go_on (with_suite number suite suites)))
  caused_collected past cache suites phase number go_on now (Ask server asked) hears is = (refl, hears.asks server asked is)
  caused_collected past cache suites phase number go_on now (Short had wanting busy) hears is =
      caused_give_up past cache (with_suite number now suites) (short_cause number had wanting busy)
      (λ _. short_caused (OrFresh fixed task cache past Loose) past number now.collector had wanting busy hears.told is (inl hears.begun) hears.wide hears.wanted)
  caused_collected past cache suites phase number go_on now (Current prefix dver members) hears is = search arith

  caused_heard : (past : List Exchange) (cache : Cache) (suites : Suites) (phase : Phase) (number : ℕ) (found : Option GatheredSuite) (server : ℕ) (asked : Request) (said : Reply) (go_on : Suites → Step)
      → Are (Tells past) suites → suite_of suites number ≡ found → asked_for task number found ≡ Some (server, asked) → ((suite : GatheredSuite) → found ≡ Some suite → Asking fixed task Old Old.start past number suite)
      → ((suite : GatheredSuite) (one : Told) → found ≡ Some suite → (heard : all_told (tell one suite.collector) ≡ Tells (push past server asked (Replied said)) number)
      → Are (Tells (push past server asked (Replied said))) (with_suite number (record suite { collector = tell one suite.collector }) suites)
      → Asking fixed task Old Old.start (push past server asked (Replied said)) number (record suite { collector = tell one suite.collector })
      → StandsOn fixed task Old (OrFresh fixed task cache (push past server asked (Replied said)) Old.start) (OrFresh fixed task cache (push past server asked (Replied said)) Loose) (push past server asked (Replied said))
      (with_suite number (record suite { collector = tell one suite.collector }) suites) phase)
      → ((it : GatheredSuite) → Are (Tells (push past server asked (Replied said))) (with_suite number it suites) → Keeps (push past server asked (Replied said)) number it
      → Leaves fixed task Old Loose (push past server asked (Replied said)) (go_on (with_suite number it suites)))
      → Leaves fixed task Old Loose (push past server asked (Replied said)) (heard_of task cache suites phase number found server asked said go_on)
  caused_heard past cache suites phase number None server asked said go_on are there is own keep more = cc
  caused_heard past cache suites phase number (Some suite) server asked said go_on are there is own keep more = at (next suite.collector) refl is
    where
      px : List Exchange
      px = push past server asked (Replied said)

      at : (after : Next) → next suite.collector ≡ after → asked_by task number after ≡ Some (server, asked) → Leaves fixed task Old Loose (push past server asked (Replied said))
          (hear task cache suites phase number suite server asked (said_to asked said) (λ suite. go_on (with_suite number suite suites)))
      at (Ask who question) asks is = of (said_to asked said) refl
        where
          of : (heard : Option Said) → said_to asked said ≡ heard → Leaves fixed task Old Loose (push past server asked (Replied said))
              (hear task cache suites phase number suite server asked heard (λ suite. go_on (with_suite number suite suites)))
          of None was =
              caused_give_up (push past server asked (Replied said)) cache suites (Lost server)
              (λ fine. was_now past server asked (Replied said) loses (lost_asked task number (Ask who question) server asked said is (last_fits past server asked (Replied said) fine) was))
          of (Some heard) was =
              let one : Told = record { server = server; mode = mode_of asked; said = heard } in
              let now : GatheredSuite = record suite { collector = tell one suite.collector } in
              let x : Exchange = record { server = server; request = asked; response = Replied said } in
              let lock : (other : ℕ) → locks other asked ≡ (number == other) = asks_lock task number (Some suite) server asked (ap (asked_by task number) asks ∙ is) in
              let newly = tells_heard past number server asked said heard lock was in
              let same : all_told (tell one suite.collector) ≡ one ∷ Tells past number = all_told-tell one suite.collector ∙ ap (λ told. one ∷ told) (told_there past suites number (Some suite) there are) in
              let told : all_told (tell one suite.collector) ≡ Tells (push past server asked (Replied said)) number = same ∙ ap (λ b. cond b (one ∷ Tells past number) (Tells past number)) (sym (self number)) ∙ sym (newly number) in
              let asking = own suite refl in
              let areas : (it : GatheredSuite) → it.collector ≡ now.collector → Are (Tells (push past server asked (Replied said))) (with_suite number it suites) =
              λ it at. are_heard (Tells past) (Tells (push past server asked (Replied said))) suites number one it are newly (ap all_told at ∙ same) in
              caused_collected (push past server asked (Replied said)) cache suites phase number go_on now (next now.collector) (record {
                told = told;
                are = areas;
                begun = subst (Old.start number) (sym (tell_start one suite.collector)) asking.start;
                wide = wide_told fixed task Old past number suite one (x ∷ []) asking.wide;
                wanted = wants_told fixed task Old past number suite one (x ∷ []) asking.wanted;
                asks = λ at what is. keep suite one refl told (areas now refl) (asks_on fixed task Old past number suite one x told who question asks asking at what is);
                settles = settles_on fixed task Old past number suite one x told who question asks asking;
                more = more;
              }) refl
      at _ asks is = cc

  -- ---- other responses

  caused_fetched : (past : List Exchange) (cache : Cache) (suites : Suites) (number : ℕ) (found : Option GatheredSuite) (server : ℕ) (asked : Request) (said : Reply) → Are (Tells past) suites → Each (Keeps past) suites
      → suite_of suites number ≡ found
      → fetched_for task number found ≡ Some (server, asked) → GivenTo Old.content task server asked said → FreeIn Old.content task (fetched fixed task cache suites number found server (given_in said)).cache
      → Leaves fixed task Old Loose (push past server asked (Replied said)) (fetched fixed task cache suites number found server (given_in said))
  caused_fetched past cache suites number None server asked said are each there is given free = cc
  caused_fetched past cache suites number (Some suite) server asked said are each there is given free = of (given_in said) refl free
    where
      what : (first : Option ReadPoint) → fetched_at task number first ≡ Some (server, asked) → request.Fetch task.t number ≡ asked
      what first h1 = search (asks_same, arith)

      x : Exchange
      x = record { server = server; request = asked; response = Replied said }

      opens : (content : Content) → Knows Old.content number (record suite { content = Some content }) → Keeps (past ++ x ∷ []) number (record suite { content = Some content })
      opens content knows =
          let kept = kept_more fixed task Old past number (x ∷ []) suite (each number suite there) in
          kept_same fixed task Old (past ++ x ∷ []) number suite (record suite { content = Some content }) refl refl knows (λ w is. kept.wide w is) kept.wanted kept

      kept : (content : Content) (first : Option ReadPoint) → suite.first ≡ first → fetched_at task number first ≡ Some (server, asked) → given_in said ≡ Some content
          → FreeIn Old.content task (keep_content fixed task cache suites number suite content first server).cache → Leaves fixed task Old Loose (push past server asked (Replied said))
          (keep_content fixed task cache suites number suite content first server)
      kept content None was is told free = cc
      kept content (Some first) was is told free =
          let all : Gathered = record {
            suites = with_suite number (record suite { content = Some content }) suites;
            cache = put fixed.limits (record { site = task.site; suite = number; prefix = first.prefix; dver = first.dver; content = content }) cache;
          } in
          let said_is = given_is said content told in
          let at : server ≡ first.source = sym (ap (λ (pair : ℕ × Request). pair.0) (same_Some (first.source, request.Fetch task.t number) (server, asked) is)) in
          let knows : Knows Old.content number (record suite { content = Some content }) =
          λ other is'. (first, was, subst (Old.content number first) (same_Some content other is') (given number first content said_is.0 at (sym (what (Some first) is)) said_is.1)) in
          caused_execute (push past server asked (Replied said)) all (free_before Old.content fixed task all free)
          (are_same (Tells (push past server asked (Replied said))) suites number (record suite { content = Some content })
          (are_quiet past suites server asked (Replied said) (λ number. ap (locks number) (sym (what (Some first) is))) are) (sym (ap told_in there)))
          (each_with (Keeps (past ++ x ∷ [])) number suites (record suite { content = Some content }) (λ n other _ at. kept_more fixed task Old past n (x ∷ []) other (each n other at)) (opens content knows))

      of : (given : Option Content) → given_in said ≡ given → FreeIn Old.content task (fetched fixed task cache suites number (Some suite) server given).cache
          → Leaves fixed task Old Loose (push past server asked (Replied said)) (fetched fixed task cache suites number (Some suite) server given)
      of (Some content) was free = kept content suite.first refl is was free
      of None was free =
          caused_give_up (push past server asked (Replied said)) cache suites (Lost server)
          (λ fine. was_now past server asked (Replied said) loses (subst (λ asked. fits asked said ≡ true → loses asked (Replied said) ≡ true) (what suite.first is) (λ fine. lost_fetch task.t number said fine was)
          (last_fits past server asked (Replied said) fine)))

  caused_lack : (past : List Exchange) (cache : Cache) (suites : Suites) (phase : Phase) (server : ℕ) (asked : Request) (lacked : Lack) → request_in fixed task suites phase ≡ Some (server, asked)
      → StandsOn fixed task Old Old.start Loose past suites phase
      → Leaves fixed task Old Loose (push past server asked (Lacked lacked)) (after_lack task cache suites phase server lacked)
  caused_lack past cache suites (Gathering number) server asked lacked is stands =
      caused_give_up _ cache suites (lack_cause server lacked) (λ _. lack_caused _ past server asked lacked (asked_as is_finish false task number (suite_of suites number) server asked (λ _. refl) refl is))
  caused_lack past cache suites (Fetching number) server asked lacked is stands =
      caused_give_up _ cache suites (lack_cause server lacked) (λ _. lack_caused _ past server asked lacked (fetched_as is_finish false task number (suite_of suites number) server asked refl is))
  caused_lack past cache suites (Widening [] granted) server asked lacked is stands = cc
  caused_lack past cache suites (Widening (number ∷ left) granted) server asked lacked is stands =
      caused_give_up _ cache suites (lack_cause server lacked) (λ _. lack_caused _ past server asked lacked (asked_as is_finish false task number (suite_of suites number) server asked (λ _. refl) refl is))
  caused_lack past cache suites (Preparing [] outcome) server asked lacked is stands = cc
  caused_lack past cache suites (Preparing (now ∷ left) outcome) server asked lacked is stands =
      caused_give_up _ cache suites (lack_cause server lacked)
      (λ _. lack_caused _ past server asked lacked (ap is_finish (sym (asks_same now server (request.Prepare task.t (parts_at suites (changes_of outcome) now)) asked is))))
  caused_lack past cache suites (Deciding outcome) server asked lacked is stands =
      caused_give_up _ cache suites (lack_cause server lacked)
      (λ _. lack_caused _ past server asked lacked (ap is_finish (sym (asks_same (home_of fixed.service task.t) server (request.Decide task.t (decision_of task outcome)) asked is))))
  caused_lack past cache suites (Finishing [] v ending) server asked lacked is stands = cc
  caused_lack past cache suites (Finishing (now ∷ left) v ending) server asked lacked is stands = search (caused_end, still_ended, asks_same, arith)

  decided_caused : (L : ℕ → Prefix → Type 0) (past : List Exchange) (server t : ℕ) (decision : Decision) (said : Reply) → fits (request.Decide t decision) said ≡ true
      → EndIs fixed task Old L (push past server (request.Decide t decision) (Replied said)) (ending_by (verdict_in said verdict.Aborted) (cause_of_abort said))
  decided_caused L past server t decision (reply.Verdict (verdict.Answered answers)) fine = tt
  decided_caused L past server t decision (reply.Verdict (verdict.Refused refusal)) fine = tt
  decided_caused L past server t decision (reply.Verdict verdict.Aborted) fine =
      (server, was_now past server (request.Decide t decision) (Replied (reply.Verdict verdict.Aborted)) (λ asked response. is_decide asked && says_aborted response) refl)
  decided_caused L past server t decision reply.Down fine = (server, was_now past server (request.Decide t decision) (Replied reply.Down) (λ asked response. is_decide asked && says_down response) refl)
  decided_caused L past server t decision _ fine = cc

  pub caused_response : (past : List Exchange) (cache : Cache) (suites : Suites) (phase : Phase) (server : ℕ) (asked : Request) (response : Response) → request_in fixed task suites phase ≡ Some (server, asked)
      → StandsOn fixed task Old Old.start Loose past suites phase
      → FreeIn Old.content task cache → GivenIn Old.content task server asked response → FreeIn Old.content task (after_response fixed (record { task = task; suites = suites; phase = phase }) cache server asked response).cache
      → Leaves fixed task Old Loose (push past server asked response) (after_response fixed (record { task = task; suites = suites; phase = phase }) cache server asked response)
  caused_response past cache suites phase server asked (Lacked lacked) is stands free given then' = caused_lack past cache suites phase server asked lacked is stands
  caused_response past cache suites (Gathering number) server asked (Replied said) is stands free given then' =
      let x : Exchange = record { server = server; request = asked; response = Replied said } in
      let others : EachBut (Keeps (past ++ x ∷ [])) number suites = λ n suite other at. kept_more fixed task Old past n (x ∷ []) suite (stands.1 n suite other at) in
      caused_heard past cache suites (Gathering number) number (suite_of suites number) server asked said _ stands.0 refl is stands.2
      (λ suite one there heard are asking. (
        are,
        but_with (Keeps (past ++ x ∷ [])) number suites (record suite { collector = tell one suite.collector }) others,
        λ found at. subst (Asking fixed task Old (OrFresh fixed task cache (past ++ x ∷ []) Old.start) (past ++ x ∷ []) number) (at_with number (record suite { collector = tell one suite.collector }) found suites at)
            (record { start = inl asking.start; first = asking.first; content = asking.content; wide = asking.wide; wanted = asking.wanted }),
      ))
      (λ it are kept. caused_execute (push past server asked (Replied said)) (record { suites = with_suite number it suites; cache = cache }) free are (each_with (Keeps (past ++ x ∷ [])) number suites it others kept))
  caused_response past cache suites (Fetching number) server asked (Replied said) is stands free given then' = caused_fetched past cache suites number (suite_of suites number) server asked said stands.0 stands.1 refl is given then'
  caused_response past cache suites (Widening [] granted) server asked (Replied said) is stands free given then' = cc
  caused_response past cache suites (Widening (number ∷ left) granted) server asked (Replied said) is stands free given then' =
      let x : Exchange = record { server = server; request = asked; response = Replied said } in
      let others : EachBut (Keeps (past ++ x ∷ [])) number suites = λ n suite _ at. kept_more fixed task Old past n (x ∷ []) suite (stands.1 n suite at) in
      caused_heard past cache suites (Widening (number ∷ left) granted) number (suite_of suites number) server asked said _ stands.0 refl is (λ suite at. asking_of fixed task Old past number suite (stands.1 number suite at))
      (λ suite one there heard are asking. (
        are,
        each_with (Keeps (past ++ x ∷ [])) number suites (record suite { collector = tell one suite.collector }) others (kept_told fixed task Old past number suite one x heard (stands.1 number suite there)),
        grants_more fixed task Old past (x ∷ []) granted.answers granted.changes stands.2,
        stands.3,
      ))
      (λ it are kept. caused_widen (push past server asked (Replied said)) cache (with_suite number it suites) granted left are (each_with (Keeps (past ++ x ∷ [])) number suites it others kept)
      (grants_more fixed task Old past (x ∷ []) granted.answers granted.changes stands.2) (λ n has. stands.3 n (inr has)))
  caused_response past cache suites (Preparing [] outcome) server asked (Replied said) is stands free given then' = cc
  caused_response past cache suites (Preparing (now ∷ left) outcome) server asked (Replied said) is stands free given then' =
      elim (is_prepared said) as (λ b. is_prepared said ≡ b → Leaves fixed task Old Loose (push past server asked (Replied said)) (cond b (prepare task cache suites outcome left) (give_up task cache suites (Lost server)))) [
        | true ↦ λ _. caused_prepare (push past server asked (Replied said)) cache suites outcome left
        | false ↦ λ not'. caused_give_up (push past server asked (Replied said)) cache suites (Lost server) (λ fine. was_now past server asked (Replied said) loses
            (subst (λ asked. fits asked said ≡ true → loses asked (Replied said) ≡ true) what (λ fine. lost_prepare task.t (parts_at suites (changes_of outcome) now) said fine not') (last_fits past server asked (Replied said) fine)))
      ] refl
    where
      what : request.Prepare task.t (parts_at suites (changes_of outcome) now) ≡ asked
      what = asks_same now server (request.Prepare task.t (parts_at suites (changes_of outcome) now)) asked is
  caused_response past cache suites (Deciding outcome) server asked (Replied said) is stands free given then' =
      caused_end (push past server asked (Replied said)) cache suites (verdict_in said verdict.Aborted) (ending_by (verdict_in said verdict.Aborted) (cause_of_abort said)) (locked_at suites)
      (λ fine. subst (λ asked. fits asked said ≡ true → EndIs fixed task Old (OrFresh fixed task cache (push past server asked (Replied said)) Loose) (push past server asked (Replied said))
      (ending_by (verdict_in said verdict.Aborted) (cause_of_abort said)))
      (asks_same (home_of fixed.service task.t) server (request.Decide task.t (decision_of task outcome)) asked is)
      (decided_caused (OrFresh fixed task cache (push past server (request.Decide task.t (decision_of task outcome)) (Replied said)) Loose) past server task.t (decision_of task outcome) said)
      (last_fits past server asked (Replied said) fine))
  caused_response past cache suites (Finishing [] v ending) server asked (Replied said) is stands free given then' = cc
  caused_response past cache suites (Finishing (now ∷ left) v ending) server asked (Replied said) is stands free given then' = search (caused_end, push, still_ended, asks_same, arith)
