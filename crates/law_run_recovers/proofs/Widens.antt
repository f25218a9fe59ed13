-- A transaction that sets votes: one suite after the other is widened to them.
use Rattle.law_run_recovers.proofs.Vocabulary.{◌≡◌, inl, inr, ⊎_elim, ℕ, Bool, true, false, cond, List, [], ◌∷◌, ◌++◌, Option, Some, None, is_some, Ok, refl, sym, ap, subst, ◌∙◌, ◌==◌, not, map, false≢true, eqb-true, same_Some, arith, Configuration}
use Rattle.law_run_recovers.proofs.Vocabulary.{Prefix, LockMode, Exclusive, PlainTable, Change, Collector, all_told, told_since, widen, Next, Current, Ask, Short, next, Cache, Undecided, GatheredSuite, Suites, suite_of, with_suite, Fixed, Task}
use Rattle.law_run_recovers.proofs.Vocabulary.{Granted, short_cause, votes_then, widened, widen_by, widen_one, widen_all, locked_at, self, with_at, each_but, each_with, World, is_met, Has, Widening}
use Rattle.txn_core.specs.Transactions.{Step}
use Rattle.rep_core.specs.declared.reply.Verdict.TheVariants as verdict
use Rattle.txn_core.specs.Doing as doing
use Rattle.law_run_recovers.proofs.Polled.{Sight, AllRight}
use Rattle.law_run_recovers.proofs.Widened.{WidenedShort, widened_short, widened_current}
use Rattle.law_run_recovers.proofs.VotesSet.{IsSet}
use Rattle.law_run_recovers.proofs.Asked.{onto_left}
use Rattle.law_run_recovers.proofs.Asking.{held_in}
use Rattle.law_run_recovers.proofs.Stands.{IsKept, held_same, Ground, locks_on, of_votes, demand_of, EndsRight, ends_short, short_votes, none_short, IsRight, had_met, starts, may_start, SameStart, had_with, HasAll, Sets, StepStands}
use Rattle.law_run_recovers.proofs.Stands.{told_stands, prepare_stands}

-- ---- a collector that is widened

module _ (fixed : Fixed) (world : World) (sight : Sight) (z : ℕ) (c : Collector) (w : Widening) (is : c.widening ≡ Some w) (right : AllRight fixed world sight z Exclusive (all_told c)) where
  right_since : AllRight fixed world sight z Exclusive (w.told ++ c.told)
  right_since = subst (λ o. AllRight fixed world sight z Exclusive (told_since o ++ c.told)) is right

  pub by_short : (had wanting : ℕ) (busy : Option (ℕ × ℕ)) → next c ≡ Short had wanting busy → WidenedShort fixed world sight z w.votes had wanting busy
  by_short had wanting busy short = widened_short fixed world sight z c w.votes w.told right_since had wanting busy (sym (ap (λ o. next (record c { widening = o })) is) ∙ short)

  pub by_current : (prefix : Prefix) (dver : ℕ) (members : List ℕ) → next c ≡ Current prefix dver members → is_met (demand_of sight (of_votes (z, w.votes))) ≡ true
  by_current prefix dver members current = widened_current fixed world sight z c w.votes w.told right_since prefix dver members (sym (ap (λ o. next (record c { widening = o })) is) ∙ current)

-- ---- one suite after the other

abbrev pub numbers : List (ℕ × Configuration) → List ℕ
numbers sets = map (λ (one : ℕ × Configuration). one.0) sets

module _ (fixed : Fixed) (world : World) (sight : Sight) (table : PlainTable) (task : Task) (cache : Cache) where
  abbrev Setting : Suites → List (ℕ × Configuration) → List (ℕ × Configuration) → Granted → Type 0
  Setting suites done left granted = Sets fixed world sight table task cache suites done left granted

  pub sets_with : (suites : Suites) (number : ℕ) (new : GatheredSuite) (done left : List (ℕ × Configuration)) (granted : Granted) → Setting suites done left granted → IsRight fixed world sight table task cache number new
      → SameStart fixed world sight table task cache suites number new → ((mode : LockMode) → held_in mode (Some new) ≡ held_in mode (suite_of suites number)) → IsKept new → Setting (with_suite number new suites) done left granted
  sets_with suites number new done left granted s right same held kept = record {
    right = each_with (IsRight fixed world sight table task cache) number suites new (each_but (IsRight fixed world sight table task cache) number suites s.right) right;
    so_far = s.so_far;
    had = λ one has. had_with fixed world sight table task cache suites number new one same (s.had one has);
    all = s.all;
    answer_is = s.answer_is;
    sets = s.sets;
    met = s.met;
    are_set = s.are_set;
    locked = s.locked;
    exclusive = s.exclusive;
    there = λ one has. ap is_some (with_at number new suites one.0) ∙ of one (number == one.0) (s.there one has);
    modes = λ z mode. ap (held_in mode) (with_at number new suites z) ∙ held_so z mode (number == z) refl ∙ s.modes z mode;
    whole = λ one has suite is. kept_so one has suite (number == one.0) (sym (with_at number new suites one.0) ∙ is);
  }
    where
      held_so : (z : ℕ) (mode : LockMode) (b : Bool) → (number == z) ≡ b → held_in mode (cond b (Some new) (suite_of suites z)) ≡ held_in mode (suite_of suites z)
      held_so z mode b h3 = search (held_in, eqb-true, arith)

      kept_so : (one : ℕ × Configuration) → Has left one → (suite : GatheredSuite) (b : Bool) → cond b (Some new) (suite_of suites one.0) ≡ Some suite → IsKept suite
      kept_so one has suite true is = subst IsKept (same_Some new suite is) kept
      kept_so one has suite false is = s.whole one has suite is

      of : (one : ℕ × Configuration) (b : Bool) → is_some (suite_of suites one.0) ≡ true → is_some (cond b (Some new) (suite_of suites one.0)) ≡ true
      of one b h2 = search arith

  -- one more is met
  pub sets_on : (suites : Suites) (done left : List (ℕ × Configuration)) (one : ℕ × Configuration) (granted : Granted) → Setting suites done (one ∷ left) granted
      → is_met (demand_of sight (of_votes one)) ≡ true → Setting suites (one ∷ done) left granted
  sets_on suites done left one granted s met = record {
    right = s.right;
    so_far = s.so_far;
    had = s.had;
    all = s.all;
    answer_is = s.answer_is;
    sets = s.sets;
    met = λ other has. ⊎_elim (λ same. subst (λ one. is_met (demand_of sight (of_votes one)) ≡ true) same met) (s.met other) has;
    are_set = λ other has. s.are_set other (inr has);
    there = λ other has. s.there other (inr has);
    locked = λ other has. s.locked other (inr has);
    exclusive = λ other has. s.exclusive other (inr has);
    modes = s.modes;
    whole = λ other has. s.whole other (inr has);
  }

  -- all are
  pub all_set : (suites : Suites) (done : List (ℕ × Configuration)) (granted : Granted) → Setting suites done [] granted → HasAll fixed world sight table task cache suites (Ok granted.answers)
  all_set suites done granted s = record {
    start = starts fixed world sight table task cache suites;
    from = may_start fixed world sight table task cache suites s.right;
    none = search (none_short, starts, had_met, arith);
    answer_is = s.answer_is;
    right = s.right;
    gathered = s.modes;
  }

  -- one is not
  pub set_short : (suites : Suites) (done left : List (ℕ × Configuration)) (one : ℕ × Configuration) (granted : Granted) → Setting suites done (one ∷ left) granted
      → (had wanting : ℕ) (busy : Option (ℕ × ℕ)) → WidenedShort fixed world sight one.0 one.1 had wanting busy → EndsRight fixed world sight table task cache suites (Undecided (short_cause one.0 had wanting busy))
  set_short suites done left one granted s had wanting busy short =
      let start = starts fixed world sight table task cache suites in
      ends_short fixed world sight table task cache suites start (may_start fixed world sight table task cache suites s.right) (of_votes one)
      (short_votes fixed world sight table task cache start s.so_far done left one s.all (λ other has. had_met fixed world sight table task cache suites other (s.had other has))
      s.sets (λ other has. ap not (s.met other has)) (ap not short.too_few))
      (inl (one, subst (λ sets. Has sets one) (sym s.sets) (onto_left done (one ∷ left) one (inl refl)), refl))
      one.0 had wanting busy refl short.had_is short.wanting_is short.refuses

  module _ (Was : ℕ → Prefix → Type 0) (ground : Ground fixed world sight cache task.site (locks_on table task) Was) where
    abbrev Good : Step → Type 0
    Good step = StepStands fixed world sight table task cache Was ground step

    pub widen_stands : (later : List (ℕ × Configuration)) (now : Cache) (suites : Suites) (done : List (ℕ × Configuration)) (granted : Granted) → Setting suites done later granted → Good (widen_all task now suites granted (numbers later))
    widen_stands [] now suites done granted s = prepare_stands fixed world sight table task cache Was ground now suites (Ok granted) (locked_at suites) (all_set suites done granted s)
    widen_stands (one ∷ later) now suites done granted s = of (suite_of suites one.0) refl (s.there one (inl refl)) (λ suites s. widen_stands later now suites (one ∷ done) granted s)
      where
        go_on : Suites → Step
        go_on suites = widen_all task now suites granted (numbers later)

        phase : doing.Phase
        phase = doing.Widening (one.0 ∷ numbers later) granted

        of : (found : Option GatheredSuite) → suite_of suites one.0 ≡ found → is_some found ≡ true
            → ((suites : Suites) → Setting suites (one ∷ done) later granted → Good (go_on suites)) → Good (widen_one task now suites phase granted.changes one.0 found go_on)
        of None is some go = absurd (false≢true some)
        of (Some suite) is some go = by (next (widened granted.changes one.0 suite).collector) refl
          where
            set : IsSet granted.changes one
            set = s.are_set one (inl refl)

            more : Suites
            more = with_suite one.0 (widened granted.changes one.0 suite) suites

            is_by : (widened granted.changes one.0 suite).collector.widening ≡ Some (record { votes = one.1; told = told_since suite.collector.widening })
            is_by = ap (λ (found : Option Change). (widen (votes_then found suite.first suite.collector.start.votes) suite.collector).widening) set.is ∙ ap (λ votes. (widen votes suite.collector).widening) set.votes

            right : IsRight fixed world sight table task cache one.0 (widened granted.changes one.0 suite)
            right = let was = s.right one.0 suite is in record { may = was.may; right = was.right }

            same : SameStart fixed world sight table task cache suites one.0 (widened granted.changes one.0 suite)
            same old there = ap (λ (found : Option GatheredSuite). start_in found) (sym is ∙ there)
              where
                start_in : Option GatheredSuite → Prefix
                start_in (Some suite) = suite.collector.start
                start_in None = suite.collector.start

            sets : Setting more done (one ∷ later) granted
            sets =
                sets_with suites one.0 (widened granted.changes one.0 suite) done (one ∷ later) granted s right same
                (λ mode. held_same (widened granted.changes one.0 suite) suite mode refl refl ∙ ap (held_in mode) (sym is)) (s.whole one (inl refl) suite is)

            there' : suite_of more one.0 ≡ Some (widened granted.changes one.0 suite)
            there' = with_at one.0 (widened granted.changes one.0 suite) suites one.0 ∙ ap (λ b. cond b (Some (widened granted.changes one.0 suite)) (suite_of suites one.0)) (self one.0)

            by : (after : Next) → next (widened granted.changes one.0 suite).collector ≡ after → Good (widen_by task now more phase one.0 after go_on)
            by (Current prefix dver members) now' =
                go more (sets_on more done later one granted sets
                (by_current fixed world sight one.0 (widened granted.changes one.0 suite).collector (record { votes = one.1; told = told_since suite.collector.widening }) is_by right.right prefix dver members now'))
            by (Ask server asked) now' = (
              refl,
              record {
                votes = one.1;
                done = done;
                later = later;
                left_is = refl;
                sets = sets;
                suite = widened granted.changes one.0 suite;
                there = there';
                widening = record { votes = one.1; told = told_since suite.collector.widening };
                widening_is = is_by;
                votes_are = refl;
              },
            )
            by (Short had wanting busy) now' =
                told_stands fixed world sight table task cache Was ground now more verdict.Aborted (Undecided (short_cause one.0 had wanting busy)) (locked_at more)
                (set_short more done later one granted sets had wanting busy
                (by_short fixed world sight one.0 (widened granted.changes one.0 suite).collector (record { votes = one.1; told = told_since suite.collector.widening }) is_by right.right had wanting busy now'))
