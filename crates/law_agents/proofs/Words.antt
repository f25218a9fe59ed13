-- What a transaction keeps after each response, and what a sweep keeps: it asks somebody, and whom it may.
use Rattle.law_agents.proofs.Vocabulary.{◌≡◌, ⊎_elim, ℕ, List, [], ◌∷◌, Option, Some, None, refl, sym, ap, subst, ◌∙◌, none-some, same_Some, Configuration, Content, Prefix, Request, Reply, Told, Said, arith, Entry, Cache, put, put_has, ReadPoint}
use Rattle.law_agents.proofs.Vocabulary.{GatheredSuite, Suites, suite_of, with_suite, source_of, first_or, settled, Response, Replied, Lacked, Lost, Granted, Fixed, Task, Proposal, Phase, Gathering, Fetching, Preparing, Deciding, Finishing, Step}
use Rattle.law_agents.proofs.Vocabulary.{short_cause, widen_all, keep_content, heard_of, said_to, execute, collected, hear, fetched, prepared, after_response, asked_by, asked_for, given_in, lack_cause, request_in, Each, each_with, but_with}
use Rattle.law_agents.proofs.Vocabulary.{Widening as Widens}
use Rattle.suite_collect.specs.Collecting.{Collector, counted, mode_of, mode_asked, tell, tell_at, Asked, Next, Ask, Current, Short, next}
use Rattle.rep_core.specs.declared.reply.Reply.TheVariants as reply
use Rattle.suite_collect.specs.declared.told.Said.TheVariants as said
use Rattle.law_agents.proofs.Collectors.{IsPlain, asks_shared, current_gives, AllReps, SaysSo, AllIn, newest_so, asked_so, given_so}
use Rattle.law_agents.proofs.Walk as walk
use Rattle.law_agents.proofs.Walk.{Goes, Fine, AllFine, Full, Asking, InPhase, CacheFine, Leaves}

module _ (fixed : Fixed) (V : Configuration → Type 0) (S : ℕ → Type 0) (goes : Goes fixed V S) where
  abbrev Names : Configuration → Type 0
  Names votes = AllReps V S votes.reps

  abbrev Fine' : GatheredSuite → Type 0
  Fine' suite = Fine fixed V S goes suite

  abbrev AllFine' : Suites → Type 0
  AllFine' suites = AllFine fixed V S goes suites

  abbrev IsFull : ℕ → GatheredSuite → Type 0
  IsFull number suite = Full fixed V S goes suite

  abbrev Cached : Cache → Type 0
  Cached cache = CacheFine fixed V S goes cache

  abbrev Left : Step → Type 0
  Left step = Leaves fixed V S goes step

  -- ---- what a response says

  abbrev pub ResponseSo : Response → Type 0
  ResponseSo (Replied (reply.Held prefix dver)) = V prefix.votes
  ResponseSo _ = Unit {0}

  said_so : (asked : Request) (reply' : Reply) (heard : Said) → ResponseSo (Replied reply') → said_to asked reply' ≡ Some heard → SaysSo V S heard
  said_so asked reply' heard h3 h4 = search arith

  -- ---- a suite that was told more

  fine_tell : (suite : GatheredSuite) (one : Told) → S one.server → SaysSo V S one.said → Fine' suite → Fine' (record suite { collector = tell one suite.collector })
  fine_tell suite one server says fine = search arith

  counted_so : (suite : GatheredSuite) → Fine' suite → Names (counted suite.collector)
  counted_so suite fine = search (newest_so, arith)

  -- it was Current
  fine_settled : (suite : GatheredSuite) (prefix : Prefix) (dver : ℕ) (members : List ℕ) → Fine' suite → next suite.collector ≡ Current prefix dver members → Fine' (settled prefix dver members suite)
  fine_settled suite prefix dver members fine is = record { start = fine.start; told = fine.told; since = fine.since; wide = fine.wide; first = of suite.first refl }
    where
      new : ReadPoint
      new = record { prefix = prefix; dver = dver; source = source_of suite.collector dver members }

      of : (first : Option ReadPoint) → suite.first ≡ first → (f : ReadPoint) → first_or first new ≡ Some f → V f.prefix.votes × S f.source
      of (Some first) was f same = fine.first f (was ∙ same)
      of None was f same =
          let gives = current_gives suite.collector prefix dver members is in
          subst (λ (f : ReadPoint). V f.prefix.votes × S f.source) (same_Some new f same) (
            subst (λ (prefix : Prefix). V prefix.votes) gives.prefix_is (newest_so V S suite.collector.start suite.collector.told fine.start fine.told),
            given_so V S suite.collector prefix dver members goes.first (counted_so suite fine) is,
          )

  full_settled : (suite : GatheredSuite) (prefix : Prefix) (dver : ℕ) (members : List ℕ) → suite.collector.widening ≡ None → IsPlain suite.collector → Full fixed V S goes (settled prefix dver members suite)
  full_settled suite prefix dver members narrow plain = search arith

  -- ---- what was asked

  record Question (c : Collector) (server : ℕ) (asked : Request) : Type 0 where
    question : Asked
    asks : next c ≡ Ask server question
    mode : mode_of asked ≡ mode_asked question

  questioned : (task : Task) (number : ℕ) (c : Collector) (server : ℕ) (asked : Request) → asked_by task number (next c) ≡ Some (server, asked) → Question c server asked
  questioned task number c server asked is = search arith

  plain_tell : (c : Collector) (server : ℕ) (asked : Request) (heard : Said) → c.widening ≡ None → IsPlain c → Question c server asked → IsPlain (tell (record { server = server; mode = mode_of asked; said = heard }) c)
  plain_tell c server asked heard narrow plain question = search (asks_shared, arith)

  narrow_tell : (one : Told) (c : Collector) → c.widening ≡ None → (tell one c).widening ≡ None
  narrow_tell one c narrow = ap (λ w. (tell_at w one c).widening) narrow ∙ narrow

  found_is : (suites : Suites) (number : ℕ) (a b : GatheredSuite) → suite_of suites number ≡ Some a → suite_of suites number ≡ Some b → a ≡ b
  found_is suites number a b x y = same_Some a b (sym x ∙ y)

  -- ---- a response to a collector

  abbrev Phase' : Suites → Phase → Type 0
  Phase' suites phase = InPhase fixed V S goes suites phase

  l_gathered : (task : Task) (cache : Cache) (suites : Suites) (number : ℕ) (found : Option GatheredSuite) (server : ℕ) (asked : Request) (reply' : Reply) → suite_of suites number ≡ found → Cached cache → Phase' suites (Gathering number)
      → asked_for task number found ≡ Some (server, asked) → ResponseSo (Replied reply')
      → Left (heard_of task cache suites (Gathering number) number found server asked reply' (λ suites. execute fixed task (record { suites = suites; cache = cache })))
  l_gathered task cache suites number None server asked reply' there cached in' is so = absurd (none-some (server, asked) is)
  l_gathered task cache suites number (Some suite) server asked reply' there cached in' is so = of (said_to asked reply') refl
    where
      same : in'.2.asking.suite ≡ suite
      same = found_is suites number in'.2.asking.suite suite in'.2.asking.there there

      narrow : suite.collector.widening ≡ None
      narrow = subst (λ (suite : GatheredSuite). suite.collector.widening ≡ None) same in'.2.narrow

      plain : IsPlain suite.collector
      plain = subst (λ (suite : GatheredSuite). IsPlain suite.collector) same in'.2.plain

      fine : Fine' suite
      fine = walk.fine_at fixed V S goes suites number suite in'.0 there

      question : Question suite.collector server asked
      question = questioned task number suite.collector server asked is

      server_so : S server
      server_so = asked_so V S suite.collector server question.question (counted_so suite fine) question.asks

      by : (now : GatheredSuite) → Fine' now → now.collector.widening ≡ None → IsPlain now.collector → (after : Next) → next now.collector ≡ after
          → Left (collected task cache suites (Gathering number) number now after (λ suite. execute fixed task (record { suites = with_suite number suite suites; cache = cache })))
      by now fine narrow plain (Ask who what) is = (
        cached,
        (
          walk.fine_with fixed V S goes suites number now in'.0 fine,
          but_with IsFull number suites now in'.1,
          record { asking = record { suite = now; there = walk.there_with fixed V S goes suites number now; server = who; asked = what; asks = is }; narrow = narrow; plain = plain },
        ),
      )
      by now fine narrow plain (Short had wanting busy) is =
          walk.l_give_up fixed V S goes task cache (with_suite number now suites) (short_cause number had wanting busy) cached (walk.fine_with fixed V S goes suites number now in'.0 fine)
      by now fine narrow plain (Current prefix dver members) is =
          let new = settled prefix dver members now in
          walk.l_execute fixed V S goes task (record { suites = with_suite number new suites; cache = cache }) (record {
            fine = walk.fine_with fixed V S goes suites number new in'.0 (fine_settled now prefix dver members fine is);
            full = each_with IsFull number suites new in'.1 (full_settled now prefix dver members narrow plain);
            cached = cached;
          })

      of : (heard : Option Said) → said_to asked reply' ≡ heard
          → Left (hear task cache suites (Gathering number) number suite server asked heard (λ suite. execute fixed task (record { suites = with_suite number suite suites; cache = cache })))
      of None heard_is = walk.l_give_up fixed V S goes task cache suites (Lost server) cached in'.0
      of (Some heard) heard_is =
          let one : Told = record { server = server; mode = mode_of asked; said = heard } in
          by (record suite { collector = tell one suite.collector }) (fine_tell suite one server_so (said_so asked reply' heard so heard_is) fine)
          (narrow_tell one suite.collector narrow) (plain_tell suite.collector server asked heard narrow plain question) (next (tell one suite.collector)) refl

  l_widened : (task : Task) (cache : Cache) (suites : Suites) (number : ℕ) (left : List ℕ) (granted : Granted) (found : Option GatheredSuite) (server : ℕ) (asked : Request) (reply' : Reply) → suite_of suites number ≡ found → Cached cache
      → Phase' suites (Widens (number ∷ left) granted) → asked_for task number found ≡ Some (server, asked) → ResponseSo (Replied reply')
      → Left (heard_of task cache suites (Widens (number ∷ left) granted) number found server asked reply' (λ suites. widen_all task cache suites granted left))
  l_widened task cache suites number left granted None server asked reply' there cached in' is so = absurd (none-some (server, asked) is)
  l_widened task cache suites number left granted (Some suite) server asked reply' there cached in' is so = of (said_to asked reply') refl
    where
      fine : Fine' suite
      fine = walk.fine_at fixed V S goes suites number suite in'.0 there

      question : Question suite.collector server asked
      question = questioned task number suite.collector server asked is

      server_so : S server
      server_so = asked_so V S suite.collector server question.question (counted_so suite fine) question.asks

      by : (now : GatheredSuite) → Fine' now → (after : Next) → next now.collector ≡ after
          → Left (collected task cache suites (Widens (number ∷ left) granted) number now after (λ suite. widen_all task cache (with_suite number suite suites) granted left))
      by now fine (Ask who what) is = (
        cached,
        (
          walk.fine_with fixed V S goes suites number now in'.0 fine,
          record { suite = now; there = walk.there_with fixed V S goes suites number now; server = who; asked = what; asks = is },
          in'.2,
        ),
      )
      by now fine (Short had wanting busy) is =
          walk.l_give_up fixed V S goes task cache (with_suite number now suites) (short_cause number had wanting busy) cached (walk.fine_with fixed V S goes suites number now in'.0 fine)
      by now fine (Current prefix dver members) is =
          let new = settled prefix dver members now in
          walk.l_widen fixed V S goes task cache (with_suite number new suites) granted left cached
          (walk.fine_with fixed V S goes suites number new in'.0 (fine_settled now prefix dver members fine is)) in'.2

      of : (heard : Option Said) → said_to asked reply' ≡ heard
          → Left (hear task cache suites (Widens (number ∷ left) granted) number suite server asked heard (λ suite. widen_all task cache (with_suite number suite suites) granted left))
      of None heard_is = walk.l_give_up fixed V S goes task cache suites (Lost server) cached in'.0
      of (Some heard) heard_is =
          let one : Told = record { server = server; mode = mode_of asked; said = heard } in
          by (record suite { collector = tell one suite.collector }) (fine_tell suite one server_so (said_so asked reply' heard so heard_is) fine) (next (tell one suite.collector)) refl

  -- ---- a content

  cached_put : (task : Task) (cache : Cache) (number : ℕ) (first : ReadPoint) (content : Content) → Cached cache → V first.prefix.votes
      → Cached (put fixed.limits (record { site = task.site; suite = number; prefix = first.prefix; dver = first.dver; content = content }) cache)
  cached_put task cache number first content cached votes entry has =
      let new : Entry = record { site = task.site; suite = number; prefix = first.prefix; dver = first.dver; content = content } in
      ⊎_elim (λ same. subst (λ (entry : Entry). V entry.prefix.votes) (sym same) votes) (λ old. cached entry old) (put_has fixed.limits new cache entry has)

  l_fetched : (task : Task) (cache : Cache) (suites : Suites) (number : ℕ) (found : Option GatheredSuite) (server : ℕ) (given : Option Content) → suite_of suites number ≡ found → Cached cache → AllFine' suites → Each IsFull suites
      → Left (fetched fixed task cache suites number found server given)
  l_fetched task cache suites number None server (Some content) there cached fine full = walk.l_give_up fixed V S goes task cache suites (Lost server) cached fine
  l_fetched task cache suites number None server None there cached fine full = walk.l_give_up fixed V S goes task cache suites (Lost server) cached fine
  l_fetched task cache suites number (Some suite) server None there cached fine full = walk.l_give_up fixed V S goes task cache suites (Lost server) cached fine
  l_fetched task cache suites number (Some suite) server (Some content) there cached fine full = of suite.first refl
    where
      of : (first : Option ReadPoint) → suite.first ≡ first → Left (keep_content fixed task cache suites number suite content first server)
      of None was = walk.l_give_up fixed V S goes task cache suites (Lost server) cached fine
      of (Some first) was =
          let own = walk.fine_at fixed V S goes suites number suite fine there in
          walk.l_execute fixed V S goes task _
          (walk.whole_content fixed V S goes suites number suite content _ fine full (cached_put task cache number first content cached (own.first first was).0) there)

  -- ---- any response

  l_prepared : (task : Task) (cache : Cache) (suites : Suites) (outcome : Proposal) (server : ℕ) (left : List ℕ) (said' : Reply) → Cached cache → AllFine' suites → AllIn V S left → Left (prepared task cache suites outcome server left said')
  l_prepared task cache suites outcome server left said' cached fine all = search (walk.l_prepare, walk.l_give_up, arith)

  pub l_response : (task : Task) (cache : Cache) (suites : Suites) (phase : Phase) (server : ℕ) (asked : Request) (response : Response) → Cached cache → Phase' suites phase
      → request_in fixed task suites phase ≡ Some (server, asked) → ResponseSo response
      → Left (after_response fixed (record { task = task; suites = suites; phase = phase }) cache server asked response)
  l_response task cache suites (Gathering number) server asked (Replied said') cached in' is so = l_gathered task cache suites number (suite_of suites number) server asked said' refl cached in' is so
  l_response task cache suites (Fetching number) server asked (Replied said') cached in' is so = l_fetched task cache suites number (suite_of suites number) server (given_in said') refl cached in'.0 in'.1
  l_response task cache suites (Widens [] granted) server asked response cached in' is so = absurd in'
  l_response task cache suites (Widens (number ∷ left) granted) server asked (Replied said') cached in' is so = l_widened task cache suites number left granted (suite_of suites number) server asked said' refl cached in' is so
  l_response task cache suites (Preparing [] outcome) server asked response cached in' is so = absurd in'
  l_response task cache suites (Preparing (now ∷ left) outcome) server asked (Replied said') cached in' is so = l_prepared task cache suites outcome server left said' cached in'.0 in'.1.1
  l_response task cache suites (Deciding outcome) server asked (Replied said') cached in' is so = search (walk.l_end, walk.all_locking, arith)
  l_response task cache suites (Deciding outcome) server asked (Lacked lacked) cached in' is so = walk.l_give_up fixed V S goes task cache suites (lack_cause server lacked) cached in'
  l_response task cache suites (Finishing [] v ending) server asked response cached in' is so = absurd in'
  l_response task cache suites (Finishing (now ∷ left) v ending) server asked (Replied said') cached in' is so = walk.l_end fixed V S goes task cache suites v ending left cached in'.1
  l_response task cache suites (Finishing (now ∷ left) v ending) server asked (Lacked lacked) cached in' is so = walk.l_end fixed V S goes task cache suites v ending left cached in'.1
  l_response task cache suites other server asked (Lacked lacked) cached in' is so = walk.l_give_up fixed V S goes task cache suites (lack_cause server lacked) cached in'.0

  -- ---- whom it asks

  -- it asks somebody, and whom it may
  abbrev pub AsksSo : Option (ℕ × Request) → Type 0
  AsksSo (Some asked) = S asked.0
  AsksSo None = ⊥

  collector_asks : (task : Task) (suites : Suites) (number : ℕ) → AllFine' suites → Asking fixed V S goes suites number → AsksSo (asked_for task number (suite_of suites number))
  collector_asks task suites number fine asking =
      subst (λ found. AsksSo (asked_for task number found)) (sym asking.there)
      (subst (λ after. AsksSo (asked_by task number after)) (sym asking.asks)
      (asked_so V S asking.suite.collector asking.server asking.asked (counted_so asking.suite (walk.fine_at fixed V S goes suites number asking.suite fine asking.there)) asking.asks))

  fetch_asks : (task : Task) (suites : Suites) (number : ℕ) → AllFine' suites → Each IsFull suites → (suite : GatheredSuite) → suite_of suites number ≡ Some suite → AsksSo (request_in fixed task suites (Fetching number))
  fetch_asks task suites number fine full suite there =
      let own = full number suite there in
      let has = walk.fine_at fixed V S goes suites number suite fine there in
      subst (λ found. AsksSo (Rattle.txn_core.specs.Transactions.fetched_for task number found)) (sym there)
      (subst (λ first. AsksSo (Rattle.txn_core.specs.Transactions.fetched_at task number first)) (sym own.was) (has.first own.first own.was).1)

  pub phase_asks : (task : Task) (suites : Suites) (phase : Phase) → Phase' suites phase → AsksSo (request_in fixed task suites phase)
  phase_asks task suites phase h3 = search (collector_asks, fetch_asks, arith)
