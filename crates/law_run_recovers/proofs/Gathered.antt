-- A suite that a transaction gathers: it falls short as its demand says, or had a Current.
use Rattle.law_run_recovers.proofs.Vocabulary.{◌≡◌, inr, ℕ, ◌+◌, ◌<◌, ◌≤◌, Bool, true, false, cond, List, [], ◌∷◌, Option, Some, None, is_some, refl, sym, ap, subst, ◌∙◌, arith, ◌==◌, ◌||◌, not, nat_lt, nat_le, nat_tests, nat_cmp_total, same_Some}
use Rattle.law_run_recovers.proofs.Vocabulary.{IsOrdered-insert, Representative, Configuration, votes_in, IsValid, Prefix, LockMode, Shared, Has, contains_from, PlainTable, holds, newest, Collector, all_told, first_members, version, needed}
use Rattle.law_run_recovers.proofs.Vocabulary.{needed_of, got, Next, Current, Short, next, Cache, Undecided, ReadPoint, GatheredSuite, Suites, suite_of, with_suite, settled, first_or, source_of, Fixed, Task, short_cause, gather_by, locked_at, self}
use Rattle.law_run_recovers.proofs.Vocabulary.{with_at, each_but, each_with, World, is_met, demand_by, led_to_by, has_asked, serves_shared, Told, and_parts, or_cases, or_right, false≢true}
use Rattle.txn_core.specs.Transactions.{Step}
use Rattle.rep_core.specs.declared.reply.Verdict.TheVariants as verdict
use Rattle.law_run_recovers.proofs.Asking.{onto, held_in}
use Rattle.law_run_recovers.proofs.Led.{EndsShort, reached_short, reached_leads, reached_current, reached_settled}
use Rattle.law_run_recovers.proofs.Polled.{Sight, finds_at, AllBelow, greatest_below, Refusing, gathering, at_current}
use Rattle.law_run_recovers.proofs.Stands.{Ground, locks_on, of_lock, unmet, EndsRight, ends_short, short_lock, IsRight, start_of, starts, may_start, had_met, SameStart, had_with, Hints, IsFound, found_start, found_right, HasLock}
use Rattle.law_run_recovers.proofs.Stands.{IsWhole, IsReady, IsGathering, StepStands, told_stands}

-- ---- voters

-- of so many votes some server has some
pub record Voter (reps : List Representative) (set : ℕ → Bool) : Type 0 where
  pub rep : Representative
  pub has : Has reps rep
  pub inside : set rep.0 ≡ true
  pub votes : nat_lt 0 rep.1 ≡ true

pub some_voter : (reps : List Representative) (set : ℕ → Bool) → 0 < votes_in reps set → Voter reps set
some_voter [] set some = absurd (omega (arith, some))
some_voter (rep ∷ reps) set some = of (set rep.0) refl (nat_lt 0 rep.1) refl (some_voter reps set) some
  where
    later : Voter reps set → Voter (rep ∷ reps) set
    later voter = record { rep = voter.rep; has = inr voter.has; inside = voter.inside; votes = voter.votes }

    none : (n : ℕ) → nat_lt 0 n ≡ false → 0 < n + votes_in reps set → 0 < votes_in reps set
    none n is some = grind (arith, nat_tests)

    of : (b : Bool) → set rep.0 ≡ b → (c : Bool) → nat_lt 0 rep.1 ≡ c → (0 < votes_in reps set → Voter reps set) → 0 < cond b rep.1 0 + votes_in reps set → Voter (rep ∷ reps) set
    of b h1 c h3 h4 h5 = search (later, none, arith)

holds_shared : (mode : LockMode) (list : List Told) (i : ℕ) → holds mode list i ≡ true → holds Shared list i ≡ true
holds_shared mode [] i is = is
holds_shared mode (one ∷ list) i is = search (and_parts, serves_shared, or_right, or_cases, false≢true, holds_shared mode list i, arith)

above_none : (wanted got : ℕ) → 0 < wanted → nat_le wanted got ≡ true → 0 < got
above_none wanted got some is = grind (arith, nat_tests)

below : (a b : ℕ) → a < b → nat_lt a b ≡ true
below a b is = grind (arith, nat_tests)

wants_some : (votes : Configuration) → IsValid votes → (mode : LockMode) → 0 < needed_of mode votes
wants_some votes h1 mode = search arith

one_of : (a b : Bool) → (b ≡ true → a ≡ true) → a ≡ (a || b)
one_of a b h2 = search arith

module _ (fixed : Fixed) (world : World) (sight : Sight) (table : PlainTable) (task : Task) (cache : Cache) (Was : ℕ → Prefix → Type 0) (ground : Ground fixed world sight cache task.site (locks_on table task) Was) where
  abbrev Good : Step → Type 0
  Good step = StepStands fixed world sight table task cache Was ground step

  abbrev Now : Suites → ℕ → Type 0
  Now suites number = IsGathering fixed world sight table task cache Was ground suites number

  abbrev Right : ℕ → GatheredSuite → Type 0
  Right z suite = IsRight fixed world sight table task cache z suite

  abbrev Whole : ℕ → GatheredSuite → Type 0
  Whole z suite = IsWhole fixed world sight table task cache Was ground z suite

  -- ---- it falls short

  module _ (suites : Suites) (number : ℕ) (g : Now suites number) where
    abbrev led : Prefix → Prefix
    led from = led_to_by fixed world (finds_at sight number) number from

    same_start : starts fixed world sight table task cache suites number ≡ g.found.start
    same_start = ap (start_of fixed world sight table task cache) g.there ∙ found_start fixed world sight table task cache Was ground number g.suite g.found

    pub gathering_short : (had wanting : ℕ) (busy : Option (ℕ × ℕ)) → next g.suite.collector ≡ Short had wanting busy → EndsRight fixed world sight table task cache suites (Undecided (short_cause number had wanting busy))
    gathering_short had wanting busy is =
        let start = starts fixed world sight table task cache suites in
        let rules = ground.rules number g.found.start g.found.asked g.found.may in
        let ends = subst (λ mode. EndsShort fixed world sight number (Was number) g.found.start rules mode had wanting busy) g.mode_is
        (reached_short fixed world sight number (Was number) g.found.start rules g.suite.collector g.found.reached had wanting busy is) in
        let short : unmet sight (of_lock fixed world sight start (number, g.mode)) ≡ true =
        ap (λ p. not (is_met (demand_by (sight.opens number g.mode) number g.mode (led p).votes))) same_start ∙ ap not ends.too_few in
        ends_short fixed world sight table task cache suites start (may_start fixed world sight table task cache suites g.asks.right) (of_lock fixed world sight start (number, g.mode))
        (short_lock fixed world sight table task cache start g.asked _ (number, g.mode) (g.asks.order ∙ ap (onto g.asked) g.next_is)
        (λ other has. had_met fixed world sight table task cache suites other (g.asks.had other has)) short)
        (inr (
          record {
            suite = g.suite;
            there = g.there;
            right = (found_right fixed world sight table task cache Was ground number g.suite g.found).right;
            leads = reached_leads fixed world sight number (Was number) g.found.start rules g.suite.collector g.found.reached had wanting busy is ∙ sym (ap led same_start);
          },
          refl,
        ))
        number had wanting busy refl
        (ends.had_is ∙ sym (ap (λ p. votes_in (led p).votes.reps (sight.opens number g.mode)) same_start))
        (ends.wanting_is ∙ sym (ap (λ p. needed_of g.mode (led p).votes) same_start))
        (subst (λ p. Refusing fixed world sight number g.mode (led p).votes.reps busy) (sym same_start) ends.refuses)

    -- or asks on
    pub gather_by_stands : (now : Cache) → Hints fixed world sight table task cache suites now → Good (gather_by task now suites number (next g.suite.collector))
    gather_by_stands now hints = of (next g.suite.collector) refl
      where
        of : (after : Next) → next g.suite.collector ≡ after → Good (gather_by task now suites number after)
        of (Short had wanting busy) is =
            told_stands fixed world sight table task cache Was ground now suites verdict.Aborted (Undecided (short_cause number had wanting busy)) (locked_at suites) (gathering_short had wanting busy is)
        of other is = (refl, (g, hints))

  -- ---- it had a Current

  has_lock : (z : ℕ) (suite : GatheredSuite) → (found : IsFound fixed world sight table task cache Was ground z suite) → (prefix : Prefix) (dver : ℕ) (members : List ℕ) → next suite.collector ≡ Current prefix dver members
      → (new : GatheredSuite) → new.collector ≡ suite.collector → HasLock fixed world sight table task cache Was ground new
  has_lock z suite found prefix dver members is new same =
      let at = found.reached in
      let c : Collector = gathering found.start at.mode at.told in
      let enough : nat_le (needed_of at.mode (newest found.start at.told).votes) (votes_in (newest found.start at.told).votes.reps (holds at.mode at.told)) ≡ true =
      subst (λ (c : Collector). nat_le (needed c) (got c) ≡ true) at.is (at_current suite.collector prefix dver members is).enough in
      let valid = ground.valid z (newest found.start at.told) at.going.known in
      let voter = some_voter (newest found.start at.told).votes.reps (holds at.mode at.told)
      (above_none (needed_of at.mode (newest found.start at.told).votes) (votes_in (newest found.start at.told).votes.reps (holds at.mode at.told)) (wants_some (newest found.start at.told).votes valid at.mode) enough) in
      record {
        server = voter.rep.0;
        is_one = search (below, contains_from, arith);
        holds = ap (λ (c : Collector). holds Shared (all_told c) voter.rep.0) (same ∙ at.is) ∙ holds_shared at.mode at.told voter.rep.0 voter.inside;
      }

  pub current_whole : (z : ℕ) (suite : GatheredSuite) → IsFound fixed world sight table task cache Was ground z suite → (prefix : Prefix) (dver : ℕ) (members : List ℕ)
      → next suite.collector ≡ Current prefix dver members → Whole z (settled prefix dver members suite)
  current_whole z suite found prefix dver members is = record {
    found = record { start = found.start; may = found.may; asked = found.asked; reached = found.reached; led = λ first. led_of suite.first refl first; version = λ first. version_of suite.first refl first };
    had = some suite.first _;
    mode_is = refl;
    lock = has_lock z suite found prefix dver members is (settled prefix dver members suite) refl;
    none_newer = reached_settled fixed world sight z (Was z) found.start (ground.rules z found.start found.asked found.may) suite.collector found.reached prefix dver members is;
  }
    where
      some : (first : Option ReadPoint) (given : ReadPoint) → is_some (first_or first given) ≡ true
      some first given = search arith

      led_of : (old : Option ReadPoint) → suite.first ≡ old → (first : ReadPoint) → first_or old
          (record { prefix = prefix; dver = dver; source = source_of suite.collector dver members }) ≡ Some first
          → first.prefix ≡ led_to_by fixed world (finds_at sight z) z found.start
      led_of (Some old) was first same = ap (λ (first : ReadPoint). first.prefix) (sym (same_Some old first same)) ∙ found.led old was
      led_of None was first same =
          ap (λ (first : ReadPoint). first.prefix) (sym (same_Some _ first same))
          ∙ (reached_current fixed world sight z (Was z) found.start (ground.rules z found.start found.asked found.may) suite.collector found.reached prefix dver members is).prefix_is

      now_below : (n : ℕ) → AllBelow fixed world sight z n → dver ≤ n
      now_below n all =
          let at = found.reached in
          let told = subst (λ (c : Collector). version c ≡ dver) at.is (at_current suite.collector prefix dver members is).version_is in
          subst (λ d. d ≤ n) told (greatest_below fixed world sight z at.mode at.told at.going.right n all (first_members (gathering found.start at.mode at.told)))

      version_of : (old : Option ReadPoint) → suite.first ≡ old → (first : ReadPoint) → first_or old
          (record { prefix = prefix; dver = dver; source = source_of suite.collector dver members }) ≡ Some first → (n : ℕ) → AllBelow fixed world sight z n → first.dver ≤ n
      version_of (Some old) was first same n all = subst (λ (first : ReadPoint). first.dver ≤ n) (same_Some old first same) (found.version old was n all)
      version_of None was first same n all = subst (λ (first : ReadPoint). first.dver ≤ n) (same_Some _ first same) (now_below n all)

  module _ (suites : Suites) (number : ℕ) (g : Now suites number) (prefix : Prefix) (dver : ℕ) (members : List ℕ) (is : next g.suite.collector ≡ Current prefix dver members) where
    abbrev new : GatheredSuite
    new = settled prefix dver members g.suite

    whole : Whole number new
    whole = current_whole number g.suite g.found prefix dver members is

    met : is_met (demand_by (sight.opens number g.mode) number g.mode (led_to_by fixed world (finds_at sight number) number g.suite.collector.start).votes) ≡ true
    met =
        let ends = reached_current fixed world sight number (Was number) g.found.start (ground.rules number g.found.start g.found.asked g.found.may) g.suite.collector g.found.reached prefix dver members is in
        ap (λ p. is_met (demand_by (sight.opens number g.mode) number g.mode (led_to_by fixed world (finds_at sight number) number p).votes)) (found_start fixed world sight table task cache Was ground number g.suite g.found)
        ∙ ap (λ mode. is_met (demand_by (sight.opens number mode) number mode (led_to_by fixed world (finds_at sight number) number g.found.start).votes)) (sym g.mode_is) ∙ ends.enough

    same_from : SameStart fixed world sight table task cache suites number new
    same_from old there = ap (λ (suite : GatheredSuite). suite.collector.start) (same_Some g.suite old (sym g.there ∙ there))

    modes_on : (z : ℕ) (mode : LockMode) (b : Bool) → (number == z) ≡ b → held_in mode (cond b (Some new) (suite_of suites z)) ≡ has_asked ((number, g.mode) ∷ g.asked) z mode
    modes_on z mode b h3 = search arith

    -- then it has asked for this too
    pub settled_ready : IsReady fixed world sight table task cache Was ground (with_suite number (settled prefix dver members g.suite) suites)
    settled_ready = record {
      asked = (number, g.mode) ∷ g.asked;
      asks = record {
        ordered = IsOrdered-insert nat_cmp_total suites number new g.asks.ordered;
        right = each_with Right number suites new (each_but Right number suites g.asks.right) (found_right fixed world sight table task cache Was ground number new whole.found);
        had = search (with_at, self, met, had_with, same_from, arith);
        modes = λ z mode. ap (held_in mode) (with_at number new suites z) ∙ modes_on z mode (number == z) refl;
        order = g.asks.order ∙ ap (onto g.asked) g.next_is;
      };
      whole = each_with Whole number suites new g.whole whole;
    }
