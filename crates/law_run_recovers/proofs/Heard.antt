-- What a transaction makes of a reply that is right: it stands as before, or ends as it should.
use Rattle.law_run_recovers.proofs.Vocabulary.{◌≡◌, inl, ◌⊎◌, ℕ, true, false, cond, List, [], ◌∷◌, Option, Some, None, is_some, refl, sym, ap, subst, ◌∙◌, false≢true, nat_cmp_total, none-some, same_Some, arith, Content, Prefix, LockMode, is_prepared}
use Rattle.law_run_recovers.proofs.Vocabulary.{verdict_of, Request, Reply, PlainTable, row_of, IsSoAt, Told, Collector, Asked, request_for, mode_of, mode_asked, tell, tell_at, told_by, Next, Current, Ask, Short, next, Cache, put, Undecided, Lost}
use Rattle.law_run_recovers.proofs.Vocabulary.{ReadPoint, GatheredSuite, Suites, suite_of, with_suite, known_of, first_or, settled, Fixed, Task, Granted, Phase, Gathering, Fetching, Preparing, Deciding, Finishing, TransactionRun, GoesOn, home_of}
use Rattle.law_run_recovers.proofs.Vocabulary.{self, with_at, but_with, World, is_up, MayStart, is_met, mode_stays, same_mode}
use Rattle.sorted_map.specs.Edits.{insert-insert}
use Rattle.txn_core.specs.Transactions.{Step, Gathered, asked_by, asked_for, fetched_at, fetched_for, request_in, decision_of, hear, collected, heard_of, given_in, keep_content, fetched, prepare, give_up, short_cause, verdict_in}
use Rattle.txn_core.specs.Transactions.{cause_of_abort, locked_at, widen_all, execute, after_reply}
use Rattle.rep_core.specs.declared.reply.Reply.TheVariants as reply
use Rattle.rep_core.specs.declared.reply.Verdict.TheVariants as verdict
use Rattle.file_exec.specs.Known as known
use Rattle.txn_core.specs.Doing as doing
use Rattle.txn_core.specs.Transactions as txn_run
use Rattle.law_run_recovers.proofs.Asking.{held_in, held_if}
use Rattle.law_run_recovers.proofs.Led.{reached_told}
use Rattle.law_run_recovers.proofs.Polled.{Sight, Answers, hears}
use Rattle.law_run_recovers.proofs.Widened.{WidenedShort, start_stays, same_said, right_more}
use Rattle.law_run_recovers.proofs.Hinting.{hint_put}
use Rattle.law_run_recovers.proofs.Stands.{IsKept, held_same, Ground, asks_of, locks_on, of_votes, demand_of, EndsRight, IsRight, asked_with, Hints, HasAll, answer_in, Sets, IsWidening, IsFound, found_right, IsWhole}
use Rattle.law_run_recovers.proofs.Stands.{IsReady, IsGathering, PhaseStands, StepStands, told_stands, prepare_stands}
use Rattle.law_run_recovers.proofs.Widens.{by_short, by_current, sets_with, sets_on, set_short, widen_stands}
use Rattle.law_run_recovers.proofs.Gathered.{gathering_short, settled_ready}
use Rattle.law_run_recovers.proofs.Executes.{none_with, hinted_with, content_ready, execute_stands}
use Rattle.law_run_recovers.proofs.KnownStays.{agreed}

-- ---- replies

-- what is right for a transaction to be answered, by where it stands: servers say of a suite what they showed, or whose lock is in the way, or are down;
-- a content is given, and Prepare is done; and the home decides as it is asked, or is down
abbrev pub LockRight : Fixed → World → Sight → ℕ → ℕ → ℕ → Request → Reply → Type 0
LockRight fixed world sight t z server asked said = (question : Asked) → asked ≡ request_for t z question → Answers fixed world sight z question server said

abbrev pub RightFor : Fixed → World → Sight → Task → Phase → ℕ → Request → Reply → Type 0
RightFor fixed world sight task (Gathering z) server asked said = LockRight fixed world sight task.t z server asked said
RightFor fixed world sight task (Fetching z) server asked said = is_some (given_in said) ≡ true
RightFor fixed world sight task (doing.Widening (z ∷ left) granted) server asked said = LockRight fixed world sight task.t z server asked said
RightFor fixed world sight task (Preparing left outcome) server asked said = is_prepared said ≡ true
RightFor fixed world sight task (Deciding outcome) server asked said =
    ((is_up world server ≡ true) × (said ≡ reply.Verdict (verdict_of (decision_of task outcome)))) ⊎ ((is_up world server ≡ false) × (said ≡ reply.Down))
RightFor fixed world sight task other server asked said = Unit {0}

-- where a transaction stands that may execute next
abbrev pub MayExecute : Phase → Type 0
MayExecute (Gathering number) = Unit {0}
MayExecute (Fetching number) = Unit {0}
MayExecute other = ⊥

-- what a collector asks of a server
pub record AsksFor (t number : ℕ) (c : Collector) (server : ℕ) (asked : Request) : Type 0 where
  pub question : Asked
  pub is : next c ≡ Ask server question
  pub asked_is : asked ≡ request_for t number question

pub asks_for : (task : Task) (number : ℕ) (c : Collector) (server : ℕ) (asked : Request) → asked_by task number (next c) ≡ Some (server, asked) → AsksFor task.t number c server asked
asks_for task number c server asked = search arith

-- what it is told so
record HeardOne (number : ℕ) (suite : GatheredSuite) (server : ℕ) (asked : Request) (said : Reply) : Type 0 where
  one : Told
  told : told_by (next suite.collector) said ≡ Some one
  is : (task : Task) (now : Cache) (suites : Suites) (phase : Phase) (go_on : GatheredSuite → Step) → hear task now suites phase number suite server asked (txn_run.said_to asked said) go_on
      ≡ collected task now suites phase number (record suite { collector = tell one suite.collector }) (next (tell one suite.collector)) go_on

module _ (fixed : Fixed) (world : World) (sight : Sight) (t number : ℕ) (suite : GatheredSuite) (server : ℕ) (asked : Request) (said : Reply) (asks : AsksFor t number suite.collector server asked)
    (so : Answers fixed world sight number asks.question server said) where
  heard_one : HeardOne number suite server asked said
  heard_one =
      let heard = hears fixed world sight number asks.question server said so in
      let one : Told = record { server = server; mode = mode_of asked; said = heard.0 } in
      let modes : mode_of asked ≡ mode_asked asks.question = ap mode_of asks.asked_is ∙ same_mode t number asks.question in
      record {
        one = one;
        told = search arith;
        is = λ task now suites phase go_on. ap (λ found. hear task now suites phase number suite server asked found go_on) (ap (λ asked. txn_run.said_to asked said) asks.asked_is ∙ same_said t number asks.question said ∙ heard.1);
      }

  answers_it : (who : ℕ) (question : Asked) → next suite.collector ≡ Ask who question → Answers fixed world sight number question who said
  answers_it who question is = search arith

module _ (fixed : Fixed) (world : World) (sight : Sight) (table : PlainTable) (task : Task) (cache : Cache) (Was : ℕ → Prefix → Type 0)
    (ground : Ground fixed world sight cache task.site (locks_on table task) Was) (same_service : table.service ≡ fixed.service) where
  abbrev Good : Step → Type 0
  Good step = StepStands fixed world sight table task cache Was ground step

  abbrev Hinted : Suites → Cache → Type 0
  Hinted suites now = Hints fixed world sight table task cache suites now

  abbrev Whole : ℕ → GatheredSuite → Type 0
  Whole z suite = IsWhole fixed world sight table task cache Was ground z suite

  abbrev Now : Suites → ℕ → Type 0
  Now suites number = IsGathering fixed world sight table task cache Was ground suites number

  -- what it knows where it goes on, of the suites that it asks for, is so on the table
  abbrev pub KnowsSo : Step → Type 0
  KnowsSo step = (txn_run : TransactionRun) → step.after ≡ GoesOn txn_run → (z : ℕ) → asks_of (locks_on table task) z ≡ true → IsSoAt (known.known_of (known_of txn_run.suites) z) (row_of table.rows z)

  -- it executes on what it gathered
  executes : (all : Gathered) → IsReady fixed world sight table task cache Was ground all.suites → Hinted all.suites all.cache → (number : ℕ)
      → is_some (suite_of all.suites number) ≡ true → KnowsSo (execute fixed task all) → Good (execute fixed task all)
  executes all ready hints number some so = search (execute_stands, agreed, arith)

  is_there : (suites : Suites) (number : ℕ) (new : GatheredSuite) → suite_of (with_suite number new suites) number ≡ Some new
  is_there suites number new = with_at number new suites number ∙ ap (λ b. cond b (Some new) (suite_of suites number)) (self number)

  -- ---- a suite is gathered

  module _ (now : Cache) (suites : Suites) (number : ℕ) (g : Now suites number) (hints : Hinted suites now) (server : ℕ) (asked : Request) (said : Reply)
      (asks : AsksFor task.t number g.suite.collector server asked) (so : Answers fixed world sight number asks.question server said) where
    heard_here : HeardOne number g.suite server asked said
    heard_here = heard_one fixed world sight task.t number g.suite server asked said asks so

    abbrev after_one : Told → GatheredSuite
    after_one one = record g.suite { collector = tell one g.suite.collector }

    abbrev go_on : GatheredSuite → Step
    go_on suite = execute fixed task (record { suites = with_suite number suite suites; cache = now })

    gathering_on : (one : Told) → told_by (next g.suite.collector) said ≡ Some one → Now (with_suite number (after_one one) suites) number
    gathering_on one told =
        let new = after_one one in
        let found : IsFound fixed world sight table task cache Was ground number new = record {
          start = g.found.start;
          may = g.found.may;
          asked = g.found.asked;
          reached = search (reached_told, answers_it, arith);
          led = g.found.led;
          version = g.found.version;
        } in
        record {
          asked = g.asked;
          asks = asked_with fixed world sight table task cache suites g.asked number new g.asks (found_right fixed world sight table task cache Was ground number new found)
              (λ old there. start_stays g.suite.collector one ∙ ap (λ (suite : GatheredSuite). suite.collector.start) (same_Some g.suite old (sym g.there ∙ there)))
              (λ mode. held mode g.suite.first ∙ ap (held_in mode) (sym g.there));
          whole = but_with Whole number suites new g.whole;
          suite = new;
          there = is_there suites number new;
          found = found;
          mode = g.mode;
          mode_is = mode_stays g.suite.collector one ∙ g.mode_is;
          next_is = g.next_is;
          weaker = g.weaker;
        }
      where
        held : (mode : LockMode) (first : Option ReadPoint) → held_if (after_one one) mode first ≡ held_if g.suite mode first
        held mode first = search arith

    collected_stands : (one : Told) (g' : Now (with_suite number (after_one one) suites) number) → g'.suite ≡ after_one one → (after : Next) → next (tell one g.suite.collector) ≡ after
        → KnowsSo (collected task now suites (Gathering number) number (after_one one) after go_on) → Good (collected task now suites (Gathering number) number (after_one one) after go_on)
    collected_stands one g' same (Ask who question) is knows = (refl, (g', hinted_with fixed world sight table task cache Was ground suites number (after_one one) now hints))
    collected_stands one g' same (Short had wanting busy) is knows =
        told_stands fixed world sight table task cache Was ground now (with_suite number (after_one one) suites) verdict.Aborted (Undecided (short_cause number had wanting busy)) (locked_at (with_suite number (after_one one) suites))
        (gathering_short fixed world sight table task cache Was ground (with_suite number (after_one one) suites) number g' had wanting busy (ap (λ (suite : GatheredSuite). next suite.collector) same ∙ is))
    collected_stands one g' same (Current prefix dver members) is knows =
        let last = settled prefix dver members (after_one one) in
        let ready : IsReady fixed world sight table task cache Was ground (with_suite number last suites) =
        subst (IsReady fixed world sight table task cache Was ground)
        (ap (λ suite. with_suite number (settled prefix dver members suite) (with_suite number (after_one one) suites)) same ∙ insert-insert nat_cmp_total suites number
        (after_one one) last)
        (settled_ready fixed world sight table task cache Was ground (with_suite number (after_one one) suites) number g' prefix dver members (ap (λ (suite : GatheredSuite). next suite.collector) same ∙ is)) in
        executes (record { suites = with_suite number last suites; cache = now }) ready (hinted_with fixed world sight table task cache Was ground suites number last now hints) number (ap is_some (is_there suites number last)) knows

    gathers : KnowsSo (hear task now suites (Gathering number) number g.suite server asked (txn_run.said_to asked said) go_on) → Good (hear task now suites (Gathering number) number g.suite server asked (txn_run.said_to asked said) go_on)
    unfolding gathering_on
    gathers knows =
        let is = heard_here.is task now suites (Gathering number) go_on in
        subst Good (sym is)
        (collected_stands heard_here.one (gathering_on heard_here.one heard_here.told) refl (next (tell heard_here.one g.suite.collector)) refl (subst KnowsSo is knows))

  -- ---- a suite is widened

  module _ (now : Cache) (suites : Suites) (number : ℕ) (left : List ℕ) (granted : Granted) (w : IsWidening fixed world sight table task cache suites number left granted) (server : ℕ) (asked : Request) (said : Reply)
      (asks : AsksFor task.t number w.suite.collector server asked) (so : Answers fixed world sight number asks.question server said) where
    was : IsRight fixed world sight table task cache number w.suite
    was = w.sets.right number w.suite w.there

    heard_now : HeardOne number w.suite server asked said
    heard_now = heard_one fixed world sight task.t number w.suite server asked said asks so

    abbrev told_one : Told → GatheredSuite
    told_one one = record w.suite { collector = tell one w.suite.collector }

    abbrev widen_on : GatheredSuite → Step
    widen_on suite = widen_all task now (with_suite number suite suites) granted left

    more_widening : (one : Told) → (tell one w.suite.collector).widening ≡ Some (record w.widening { told = one ∷ w.widening.told })
    more_widening one = ap (λ found. (tell_at found one w.suite.collector).widening) w.widening_is

    told_right : (one : Told) → told_by (next w.suite.collector) said ≡ Some one → IsRight fixed world sight table task cache number (told_one one)
    told_right one told = record {
      may = subst (λ start. MayStart fixed cache task.site number start) (sym (start_stays w.suite.collector one)) was.may;
      right = right_more fixed world sight number w.suite.collector was.right said one (answers_it fixed world sight task.t number w.suite server asked said asks so) told;
    }

    was_kept : IsKept w.suite
    was_kept = w.sets.whole (number, w.votes) (inl refl) w.suite w.there

    sets_now : (new : GatheredSuite) → new.collector.start ≡ w.suite.collector.start → IsRight fixed world sight table task cache number new → new.mode ≡ w.suite.mode
        → new.first ≡ w.suite.first → new.mode ≡ new.collector.mode → Sets fixed world sight table task cache (with_suite number new suites) w.done
        ((number, w.votes) ∷ w.later) granted
    sets_now new start right mode first kept =
        sets_with fixed world sight table task cache suites number new w.done ((number, w.votes) ∷ w.later) granted w.sets right
        (λ old there. start ∙ ap (λ (suite : GatheredSuite). suite.collector.start) (same_Some w.suite old (sym w.there ∙ there)))
        (λ asked. held_same new w.suite asked mode first ∙ ap (held_in asked) (sym w.there)) (kept, ap is_some first ∙ was_kept.1)

    told_kept : (one : Told) → w.suite.mode ≡ (tell one w.suite.collector).mode
    told_kept one = was_kept.0 ∙ sym (mode_stays w.suite.collector one)

    first_kept : (first : Option ReadPoint) (new : ReadPoint) → is_some first ≡ true → first_or first new ≡ first
    first_kept first new h2 = search arith

    abbrev phase : Phase
    phase = doing.Widening (number ∷ left) granted

    widened_stands : (one : Told) → told_by (next w.suite.collector) said ≡ Some one → (after : Next) → next (tell one w.suite.collector) ≡ after → Good (collected task now suites phase number (told_one one) after widen_on)
    widened_stands one told (Ask who question) is = (
      refl,
      record {
        votes = w.votes;
        done = w.done;
        later = w.later;
        left_is = w.left_is;
        sets = sets_now (told_one one) (start_stays w.suite.collector one) (told_right one told) refl refl (told_kept one);
        suite = told_one one;
        there = is_there suites number (told_one one);
        widening = record w.widening { told = one ∷ w.widening.told };
        widening_is = more_widening one;
        votes_are = w.votes_are;
      },
    )
    widened_stands one told (Short had wanting busy) is =
        let more = with_suite number (told_one one) suites in
        told_stands fixed world sight table task cache Was ground now more verdict.Aborted (Undecided (short_cause number had wanting busy)) (locked_at more)
        (set_short fixed world sight table task cache more w.done w.later (number, w.votes) granted (sets_now (told_one one) (start_stays w.suite.collector one) (told_right one told) refl refl (told_kept one)) had wanting busy
        (subst (λ votes. WidenedShort fixed world sight number votes had wanting busy) w.votes_are
        (by_short fixed world sight number (tell one w.suite.collector) (record w.widening { told = one ∷ w.widening.told }) (more_widening one)
        (told_right one told).right had wanting busy is)))
    widened_stands one told (Current prefix dver members) is =
        let last = settled prefix dver members (told_one one) in
        let right = told_right one told in
        let met : is_met (demand_of sight (of_votes (number, w.votes))) ≡ true =
        subst (λ votes. is_met (demand_of sight (of_votes (number, votes))) ≡ true) w.votes_are
        (by_current fixed world sight number (tell one w.suite.collector) (record w.widening { told = one ∷ w.widening.told })
        (more_widening one) right.right prefix dver members is) in
        subst (λ left. Good (widen_all task now (with_suite number last suites) granted left)) w.left_is
        (widen_stands fixed world sight table task cache Was ground w.later now (with_suite number last suites) ((number, w.votes) ∷ w.done) granted
        (sets_on fixed world sight table task cache (with_suite number last suites) w.done w.later (number, w.votes) granted
        (sets_now last (start_stays w.suite.collector one) (record { may = right.may; right = right.right }) (sym (told_kept one))
        (first_kept w.suite.first _ was_kept.1) refl) met))

    widens : Good (hear task now suites phase number w.suite server asked (txn_run.said_to asked said) widen_on)
    widens = subst Good (sym (heard_now.is task now suites phase widen_on)) (widened_stands heard_now.one heard_now.told (next (tell heard_now.one w.suite.collector)) refl)

  -- ---- a content is fetched

  fetches : (now : Cache) (suites : Suites) (number : ℕ) → IsReady fixed world sight table task cache Was ground suites → Hinted suites now → (server : ℕ) (asked : Request)
      → fetched_for task number (suite_of suites number) ≡ Some (server, asked)
      → (given : Option Content) → is_some given ≡ true → KnowsSo (fetched fixed task now suites number (suite_of suites number) server given) → Good (fetched fixed task now suites number (suite_of suites number) server given)
  fetches now suites number ready hints server asked request given some = of (suite_of suites number) refl request given some
    where
      by : (suite : GatheredSuite) → suite_of suites number ≡ Some suite → (content : Content) (first : Option ReadPoint) → fetched_at task number first ≡ Some (server, asked)
          → KnowsSo (keep_content fixed task now suites number suite content first server) → Good (keep_content fixed task now suites number suite content first server)
      by suite there content None request knows = absurd (none-some (server, asked) request)
      by suite there content (Some first) request knows =
          let new : GatheredSuite = record suite { content = Some content } in
          executes (record {
            suites = with_suite number new suites;
            cache = put fixed.limits (record { site = task.site; suite = number; prefix = first.prefix; dver = first.dver; content = content }) now;
          })
          (content_ready fixed world sight table task cache Was ground suites number suite (Some content) ready there)
          (λ z none prefix hinted.
          let both = none_with suites number new z none in
          hints z both.0 prefix (hint_put task.site z number both.1 fixed.limits (record { site = task.site; suite = number; prefix = first.prefix; dver = first.dver; content = content }) refl refl now prefix hinted))
          number (ap is_some (is_there suites number new)) knows

      of : (found : Option GatheredSuite) → suite_of suites number ≡ found → fetched_for task number found ≡ Some (server, asked) → (given : Option Content) → is_some given ≡ true
          → KnowsSo (fetched fixed task now suites number found server given) → Good (fetched fixed task now suites number found server given)
      of None there request given some knows = absurd (none-some (server, asked) request)
      of (Some suite) there request None some knows = absurd (false≢true some)
      of (Some suite) there request (Some content) some knows = by suite there content suite.first request knows

  -- ---- the home says how it ended

  decides : (suites : Suites) (outcome : doing.Proposal) → HasAll fixed world sight table task cache suites (answer_in fixed world sight table task cache outcome) → (server : ℕ) → server ≡ home_of fixed.service task.t → (said : Reply)
      → ((is_up world server ≡ true) × (said ≡ reply.Verdict (verdict_of (decision_of task outcome)))) ⊎ ((is_up world server ≡ false) × (said ≡ reply.Down))
      → EndsRight fixed world sight table task cache suites (txn_run.ending_by (verdict_in said verdict.Aborted) (cause_of_abort said))
  decides suites outcome all server home said right = search arith

  -- ---- any reply

  asked_of : (number : ℕ) (suites : Suites) (suite : GatheredSuite) (server : ℕ) (asked : Request) → suite_of suites number ≡ Some suite
      → asked_for task number (suite_of suites number) ≡ Some (server, asked) → AsksFor task.t number suite.collector server asked
  asked_of number suites suite server asked there request = asks_for task number suite.collector server asked (sym (ap (asked_for task number) there) ∙ request)

  pub reply_stands : (now : Cache) (suites : Suites) (phase : Phase) → PhaseStands fixed world sight table task cache Was ground suites now phase → (server : ℕ) (asked : Request) → request_in fixed task suites phase ≡ Some (server, asked)
      → (said : Reply) → RightFor fixed world sight task phase server asked said → (MayExecute phase → KnowsSo (after_reply fixed task now suites phase server asked said)) → Good (after_reply fixed task now suites phase server asked said)
  reply_stands now suites (Gathering number) at server asked request said right knows =
      let g = at.0 in
      let step : Option GatheredSuite → Step = λ found. heard_of task now suites (Gathering number) number found server asked said (λ suites. execute fixed task (record { suites = suites; cache = now })) in
      subst (λ found. Good (step found)) (sym g.there)
      (gathers now suites number g at.1 server asked said (asked_of number suites g.suite server asked g.there request)
      (right (asked_of number suites g.suite server asked g.there request).question (asked_of number suites g.suite server asked g.there request).asked_is) (subst (λ found. KnowsSo (step found)) g.there (knows tt)))
  reply_stands now suites (Fetching number) at server asked request said right knows = fetches now suites number at.0 at.1 server asked request (given_in said) right (knows tt)
  reply_stands now suites (doing.Widening [] granted) at server asked request said right knows = absurd at
  reply_stands now suites (doing.Widening (number ∷ left) granted) w server asked request said right knows =
      let step : Option GatheredSuite → Step = λ found. heard_of task now suites (doing.Widening (number ∷ left) granted) number found server asked said (λ suites. widen_all task now suites granted left) in
      subst (λ found. Good (step found)) (sym w.there) (widens now suites number left granted w server asked said (asked_of number suites w.suite server asked w.there request)
      (right (asked_of number suites w.suite server asked w.there request).question (asked_of number suites w.suite server asked w.there request).asked_is))
  reply_stands now suites (Preparing [] outcome) all server asked request said right knows = absurd (none-some (server, asked) request)
  reply_stands now suites (Preparing (first ∷ left) outcome) all server asked request said right knows =
      subst (λ b. Good (cond b (prepare task now suites outcome left) (give_up task now suites (Lost server)))) (sym right) (prepare_stands fixed world sight table task cache Was ground now suites outcome left all)
  reply_stands now suites (Deciding outcome) all server asked request said right knows =
      told_stands fixed world sight table task cache Was ground now suites (verdict_in said verdict.Aborted) (txn_run.ending_by (verdict_in said verdict.Aborted) (cause_of_abort said)) (locked_at suites)
      (decides suites outcome all server (sym (ap (λ (asked : ℕ × Request). asked.0) (same_Some _ (server, asked) request))) said right)
  reply_stands now suites (Finishing [] v ended) ends server asked request said right knows = (suites, ends)
  reply_stands now suites (Finishing (first ∷ left) v ended) ends server asked request said right knows = told_stands fixed world sight table task cache Was ground now suites v ended left ends
