-- What comes of a reply to what a suite asks, as a transaction goes on by it.
use Rattle.txn_core.proofs.Vocabulary.{◌≡◌, ℕ, List, [], ◌∷◌, Option, Some, None, true, refl, ap, ◌∙◌, none-some, ◌==◌, find, unwrap_or, option_or, Prefix, Reply, Told, newest, shown, IsAsk, IsShort, arith, has_quorum, read_point, gives_of, Cache}
use Rattle.txn_core.proofs.Vocabulary.{ReadPoint, GatheredSuite, Suites, first_or, settled, source_of, Task, Phase, Step, said_to, hear, PendingQuorum, heard_next, heard_one, heard, on_hearing, FallsShort, IsFirstAfter, IsSettled, settled_with}
use Rattle.suite_collect.specs.Collecting.{told_by, Collector, Asked, Next, Current, Ask, counted, is_member, members_of, version, tell, request_for, mode_of, mode_asked, next}
use Rattle.txn_core.specs.code.Hearing as hearing

pub same_mode : (t number : ℕ) (asked : Asked) → mode_of (request_for t number asked) ≡ mode_asked asked
same_mode t number asked = search arith

module _ (task : Task) (cache : Cache) (suites : Suites) (phase : Phase) (number : ℕ) (suite : GatheredSuite) (server : ℕ) (go_on : GatheredSuite → Step) where
  -- the reply to what it asks
  pub hears : (asked : Asked) (answer : Reply) → next suite.collector ≡ Ask server asked
      → hear task cache suites phase number suite server (request_for task.t number asked) (said_to (request_for task.t number asked) answer) go_on
      ≡ on_hearing task cache suites phase number server (heard suite answer) go_on
  hears asked answer is = search arith

-- the first that showed a version is found
pub source_found : (c : Collector) (dver : ℕ) (members : List ℕ) → unwrap_or (find (λ server. shown c.told server == dver) members) 0 ≡ source_of c dver members
source_found c dver [] = refl
source_found c dver (server ∷ members) = search (source_found c dver members, arith)

-- ---- what comes of a reply, by what the collector says of it

pub mode_stays : (c : Collector) (one : Told) → (tell one c).mode ≡ c.mode
mode_stays c one = search arith

module _ (suite : GatheredSuite) (answer : Reply) where
  pub hears_lost : told_by (next suite.collector) answer ≡ None → heard suite answer ≡ hearing.Lost
  hears_lost told = ap (heard_one suite) told

  pub hears_asks : (last : Told) (after : Collector) → told_by (next suite.collector) answer ≡ Some last → after ≡ tell last suite.collector → IsAsk (next after)
      → heard suite answer ≡ hearing.Asks (record suite { collector = after })
  hears_asks last after told new asks = search arith

  pub hears_short : (last : Told) (after : Collector) → told_by (next suite.collector) answer ≡ Some last → after ≡ tell last suite.collector → IsShort (next after)
      → FallsShort (heard suite answer) (record suite { collector = after })
  hears_short last after told new short = search arith

  -- it is to be settled where there is a quorum, and only there
  pub hears_quorum : (last : Told) → told_by (next suite.collector) answer ≡ Some last → has_quorum (next (tell last suite.collector)) ≡ true → IsSettled (heard suite answer)
  hears_quorum last told quorum = of (next c) refl quorum
    where
      c : Collector
      c = tell last suite.collector

      of : (what : Next) → next c ≡ what → has_quorum what ≡ true → IsSettled (heard suite answer)
      of (Current prefix dver members) is quorum = (settled prefix dver members (record suite { collector = c }), ap (heard_one suite) told ∙ ap (heard_next (record suite { collector = c })) is)
      of _ is quorum = cc

  pub settles_if : (pending : PendingQuorum) → told_by (next suite.collector) answer ≡ Some pending.last → IsFirstAfter suite pending.last pending.first → IsSettled (heard suite answer)
      → heard suite answer ≡ hearing.Settled (settled_with pending suite)
  settles_if pending told first settles = search arith

-- what a quorum gives is what the first one of a suite gives
abbrev the_first : Prefix → ℕ → ℕ → ReadPoint
the_first prefix dver source = record { prefix = prefix; dver = dver; source = source }

module _ (c : Collector) (prefix : Prefix) (dver : ℕ) (members : List ℕ) (is : next c ≡ Current prefix dver members) where
  point_given : read_point c ≡ the_first prefix dver (source_of c dver members)
  point_given =
      let all = gives_of c prefix dver members is in
      ap (the_first (newest c.start c.told) (version c)) (source_found c (version c) (members_of (counted c) (is_member c)))
      ∙ ap (λ prefix. the_first prefix (version c) (source_of c (version c) (members_of (counted c) (is_member c)))) all.prefix_is
      ∙ ap (λ dver. the_first prefix dver (source_of c dver (members_of (counted c) (is_member c)))) all.version_is
      ∙ ap (λ members. the_first prefix dver (source_of c dver members)) all.members_are

  given_first : (first : Option ReadPoint) → first ≡ None → option_or first (Some (read_point c)) ≡ first_or first (the_first prefix dver (source_of c dver members))
  given_first first h1 = search (point_given, none-some, arith)

pub first_given : (suite : GatheredSuite) (last : Told) (point : ReadPoint) → suite.first ≡ None → point ≡ read_point (tell last suite.collector) → IsFirstAfter suite last (Some point)
first_given suite last point none gives prefix dver members is = search (given_first, arith)
