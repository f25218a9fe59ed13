-- A transaction executes on what it gathered: what it needs next on the table is asked for, or all is known.
use Rattle.law_run_recovers.proofs.Vocabulary.{◌≡◌, inl, inr, ℕ, zero, suc, Bool, true, false, cond, List, [], ◌∷◌, length, Option, Some, None, is_some, Result, Ok, Err, refl, sym, ap, subst, ◌∙◌, ◌==◌, ◌||◌, not, map, filter, find, arith, list_any}
use Rattle.law_run_recovers.proofs.Vocabulary.{nat_cmp, false≢true, and_parts, and_from, false_from_ne_true, none-some, same_Some, IsOrdered, Configuration, Content, Prefix, LockMode, Shared, Exclusive, serves, Has, any_has, has_any, Answer, Refusal}
use Rattle.law_run_recovers.proofs.Vocabulary.{PlainTable, row_of, Change, Need, Hold, Know, Ended, Heard, heard, Done, first_unmet, exec_of, AgreesWith, on_transaction, changes_are_held, Collector, collect, raise, Cache, hint, searched}
use Rattle.law_run_recovers.proofs.Vocabulary.{search_keeps_all, ReadPoint, GatheredSuite, Suites, suite_of, with_suite, known_of, Fixed, Task, Granted, self, with_at, each_but, each_with, but_with, are_nil, World, is_met, MayStart, has_asked}
use Rattle.law_run_recovers.proofs.Vocabulary.{not_asked, changes_on, first_mode, serves_shared, or_right, Outcome as Executed, is_held}
use Rattle.file_exec.proofs.Alike.{goes_alike}
use Rattle.file_exec.specs.Changes.{answered}
use Rattle.txn_core.specs.Transactions.{Step, Gathered, start_from, raised_or_new, gather, widen_all, heard_on, after_search, free_content, opened_with, open_first, open_suite, open_needed, or_all, opened, proceed, execute, prepare}
use Rattle.txn_core.specs.Transactions.{locked_at}
use Rattle.file_exec.specs.declared.executor.Outcome.TheVariants as exec
use Rattle.file_exec.specs.Changes as changes
use Rattle.file_exec.specs.Known as known
use Rattle.law_run_recovers.proofs.Asking.{onto, any_onto, first_hold, first_new, none_left, held_in, held_if, held_is}
use Rattle.law_run_recovers.proofs.Led.{reached_first, reached_raise}
use Rattle.law_run_recovers.proofs.VotesSet.{as_set, sets, votes_of, same_votes, changes_ordered, IsSet, set_by}
use Rattle.law_run_recovers.proofs.Polled.{Sight, serves_all}
use Rattle.law_run_recovers.proofs.Stands.{Ground, asks_of, of_lock, demand_of, needed_on, result_on, locks_on, answer_to, starts, may_start, had_met, none_short, SameStart, asked_with, Hints, IsFound, found_right, IsWhole}
use Rattle.law_run_recovers.proofs.Stands.{IsReady, IsGathering, StepStands, prepare_stands}
use Rattle.law_run_recovers.proofs.Widens.{numbers, widen_stands}
use Rattle.law_run_recovers.proofs.Gathered.{gather_by_stands}

-- ---- on the table

-- what a table answers a transaction is what its operations come to there
abbrev given_by : Result (Ended (List Answer)) Refusal → Result (List Answer) Refusal
given_by (Ok ended) = Ok ended.given
given_by (Err refusal) = Err refusal

answer_on_table : (table : PlainTable) (task : Task) → given_by (result_on table task) ≡ answer_to table task
answer_on_table table task = search (result_on table task, on_transaction table.service table.rows task.t task.caller task.ops, arith)

-- the suites that get votes
numbers_are : (all : List (ℕ × Change)) → map (λ (one : ℕ × Change). one.0) all ≡ numbers (map as_set all)
numbers_are [] = refl
numbers_are (one ∷ all) = ap (λ rest. one.0 ∷ rest) (numbers_are all)

-- what was asked for in some mode
any_wider : (asked : List (ℕ × LockMode)) (z : ℕ) → has_asked asked z Exclusive ≡ true → list_any (λ (lock : ℕ × LockMode). lock.0 == z) asked ≡ true
any_wider asked z is = search (any_has, has_any, and_parts, arith)

-- ---- what is not gathered

pub none_with : (suites : Suites) (number : ℕ) (new : GatheredSuite) (z : ℕ) → suite_of (with_suite number new suites) z ≡ None → (suite_of suites z ≡ None) × ((number == z) ≡ false)
none_with suites number new z none = search (with_at, none-some, arith)

-- what is among those left is among all
asks_onto : (so_far left : List (ℕ × LockMode)) (z : ℕ) → asks_of left z ≡ true → asks_of (onto so_far left) z ≡ true
asks_onto [] left z is = is
asks_onto (one ∷ so_far) left z is = asks_onto so_far (one ∷ left) z (or_right (one.0 == z) (asks_of left z) is)

weak_or_not : (mode other : LockMode) → serves mode other ≡ false → other ≡ Exclusive
weak_or_not mode other h2 = search arith

-- what is asked for first of a suite that was not asked for
find_onto : {X : Type 0} (p : X → Bool) (so_far left : List X) → ((x : X) → Has so_far x → p x ≡ false) → find p (onto so_far left) ≡ find p left
find_onto p [] left none = refl
find_onto p (x ∷ so_far) left none = find_onto p so_far (x ∷ left) (λ y has. none y (inr has)) ∙ ap (λ b. cond b (Some x) (find p left)) (none x (inl refl))

first_asked : (asked left : List (ℕ × LockMode)) (number : ℕ) (mode : LockMode) → has_asked asked number Shared ≡ false → first_mode (onto asked ((number, mode) ∷ left)) number ≡ mode
first_asked asked left number mode none = search (find_onto, self, false_from_ne_true, false≢true, has_any, and_from, serves_shared, arith)

module _ (fixed : Fixed) (world : World) (sight : Sight) (table : PlainTable) (task : Task) (cache : Cache) (Was : ℕ → Prefix → Type 0) (ground : Ground fixed world sight cache task.site (locks_on table task) Was) where
  abbrev Good : Step → Type 0
  Good step = StepStands fixed world sight table task cache Was ground step

  abbrev Ready : Suites → Type 0
  Ready suites = IsReady fixed world sight table task cache Was ground suites

  abbrev Hinted : Suites → Cache → Type 0
  Hinted suites now = Hints fixed world sight table task cache suites now

  abbrev Whole : ℕ → GatheredSuite → Type 0
  Whole z suite = IsWhole fixed world sight table task cache Was ground z suite

  pub hinted_with : (suites : Suites) (number : ℕ) (new : GatheredSuite) (now : Cache) → Hinted suites now → Hinted (with_suite number new suites) now
  hinted_with suites number new now hints z none = hints z (none_with suites number new z none).0

  -- nothing is gathered yet
  pub none_ready : Ready []
  none_ready = record {
    asked = [];
    asks = record {
      ordered = are_nil.0;
      right = λ z suite is. absurd (none-some suite is);
      had = λ one has. absurd has;
      modes = λ z mode. refl;
      order = refl;
    };
    whole = λ z suite is. absurd (none-some suite is);
  }

  -- ---- contents that are to be had without asking

  pub content_ready : (suites : Suites) (number : ℕ) (suite : GatheredSuite) (content : Option Content) → Ready suites → suite_of suites number ≡ Some suite → Ready (with_suite number (record suite { content = content }) suites)
  content_ready suites number suite content ready there = record {
    asked = ready.asked;
    asks = asked_with fixed world sight table task cache suites ready.asked number (record suite { content = content }) ready.asks
        (record { may = (ready.asks.right number suite there).may; right = (ready.asks.right number suite there).right })
        (λ old is. ap (λ (suite : GatheredSuite). suite.collector.start) (same_Some suite old (sym there ∙ is)))
        (λ mode. held mode suite.first ∙ ap (held_in mode) (sym there));
    whole = each_with Whole number suites (record suite { content = content }) (each_but Whole number suites ready.whole) (of (ready.whole number suite there));
  }
    where
      held : (mode : LockMode) (first : Option ReadPoint) → held_if (record suite { content = content }) mode first ≡ held_if suite mode first
      held mode first = search arith

      of : Whole number suite → Whole number (record suite { content = content })
      of w = search arith

  pub record Opened (all more : Gathered) : Type 0 where
    pub ready : Ready more.suites
    pub hints : Hinted more.suites more.cache
    pub there : (z : ℕ) → is_some (suite_of all.suites z) ≡ true → is_some (suite_of more.suites z) ≡ true

  pub hint_after : (now : Cache) (number : ℕ) (first : ReadPoint) (z : ℕ) → hint (after_search task now number first) task.site z ≡ hint now task.site z
  hint_after now number first z = of (first.dver == 0)
    where
      of : (b : Bool) → hint (cond b now (searched task.site number first.dver now)) task.site z ≡ hint now task.site z
      of true = refl
      of false = search_keeps_all.hint task.site number first.dver task.site z now

  pub still_there : (suites : Suites) (number : ℕ) (new : GatheredSuite) (z : ℕ) → is_some (suite_of suites z) ≡ true → is_some (suite_of (with_suite number new suites) z) ≡ true
  still_there suites number new z some = search (with_at, arith)

  module _ (all : Gathered) (ready : Ready all.suites) (hints : Hinted all.suites all.cache) where
    opens_with : (number : ℕ) (suite : GatheredSuite) (first : ReadPoint) → suite_of all.suites number ≡ Some suite → (found : Option Content) (more : Gathered) → opened_with task all number suite first found ≡ Some more → Opened all more
    opens_with number suite first h3 found more h6 = search (none-some, same_Some, content_ready, none_with, hint_after, still_there, arith)

    opens_first : (number : ℕ) (suite : GatheredSuite) → suite_of all.suites number ≡ Some suite → (first : Option ReadPoint) (more : Gathered) → open_first task all number suite first ≡ Some more → Opened all more
    opens_first number suite there (Some first) more is = opens_with number suite first there (free_content task all.cache number first) more is
    opens_first number suite there None more is = absurd (none-some more is)

    opens_suite : (number : ℕ) (found : Option GatheredSuite) → suite_of all.suites number ≡ found → (more : Gathered) → open_suite task all number found ≡ Some more → Opened all more
    opens_suite number (Some suite) there more is = opens_first number suite there suite.first more is
    opens_suite number None there more is = absurd (none-some more is)

    opens : (what : Executed) (more : Gathered) → open_needed task all what ≡ Some more → Opened all more
    opens (exec.Need (Know number)) more is = opens_suite number (suite_of all.suites number) refl more is
    opens other more is = absurd (none-some more is)

  pub opened_stands : (n : ℕ) (all : Gathered) → Ready all.suites → Hinted all.suites all.cache → Opened all (opened n fixed task all)
  opened_stands zero all ready hints = record { ready = ready; hints = hints; there = λ z some. some }
  opened_stands (suc n) all ready hints = of (open_needed task all (heard_on fixed task all.suites)) refl (λ more ready hints. opened_stands n more ready hints)
    where
      of : (found : Option Gathered) → open_needed task all (heard_on fixed task all.suites) ≡ found → ((more : Gathered) → Ready more.suites → Hinted more.suites more.cache → Opened more (opened n fixed task more))
          → Opened all (or_all all found (λ all. opened n fixed task all))
      of None is go = record { ready = ready; hints = hints; there = λ z some. some }
      of (Some more) is go =
          let first = opens all ready hints (heard_on fixed task all.suites) more is in
          let rest = go more first.ready first.hints in
          record { ready = rest.ready; hints = rest.hints; there = λ z some. rest.there z (first.there z some) }

  -- ---- a lock that is needed

  module _ (now : Cache) (suites : Suites) (ready : Ready suites) (hints : Hinted suites now) where
    modes_known : (z : ℕ) (mode : LockMode) → is_held mode (known.known_of (known_of suites) z) ≡ has_asked ready.asked z mode
    modes_known z mode = held_is suites ready.asks.ordered z mode ∙ ready.asks.modes z mode

    module _ (number : ℕ) (mode : LockMode) (is : first_unmet (known_of suites) (needed_on table task) ≡ Some (Hold number mode)) where
      is_new : has_asked ready.asked number mode ≡ false
      is_new = first_new (known_of suites) ready.asked modes_known (needed_on table task) number mode is

      gathers : (new : GatheredSuite) → IsFound fixed world sight table task cache Was ground number new → new.collector.mode ≡ mode → SameStart fixed world sight table task cache suites number new
          → ((other : LockMode) → held_in other (Some new) ≡ held_in other (suite_of suites number)) → ((other : LockMode) → has_asked ready.asked number other ≡ true → serves mode other ≡ true)
          → IsGathering fixed world sight table task cache Was ground (with_suite number new suites) number
      gathers new found mode_is same held weaker = record {
        asked = ready.asked;
        asks = asked_with fixed world sight table task cache suites ready.asked number new ready.asks (found_right fixed world sight table task cache Was ground number new found) same held;
        whole = but_with Whole number suites new (each_but Whole number suites ready.whole);
        suite = new;
        there = with_at number new suites number ∙ ap (λ b. cond b (Some new) (suite_of suites number)) (self number);
        found = found;
        mode = mode;
        mode_is = mode_is;
        next_is = first_hold (known_of suites) ready.asked modes_known (needed_on table task) number mode is;
        weaker = weaker;
      }

      -- it is among those that are asked for
      asked_for_it : asks_of (locks_on table task) number ≡ true
      asked_for_it =
          ap (λ locks. asks_of locks number) (ready.asks.order ∙ ap (onto ready.asked) (first_hold (known_of suites) ready.asked modes_known (needed_on table task) number mode is))
          ∙ asks_onto ready.asked _ number (ap (λ b. b || asks_of (not_asked ((number, mode) ∷ ready.asked) (needed_on table task)) number) (self number))

      may_from : (z : ℕ) → suite_of suites z ≡ None → MayStart fixed cache task.site z (start_from fixed task now z)
      may_from z none = search arith

      -- it is asked for in the mode in which it is first
      first_of : suite_of suites number ≡ None → mode ≡ sight.first number
      first_of none =
          sym (ap (λ locks. first_mode locks number) (ready.asks.order ∙ ap (onto ready.asked) (first_hold (known_of suites) ready.asked modes_known (needed_on table task) number mode is))
          ∙ first_asked ready.asked _ number mode (sym (ready.asks.modes number Shared) ∙ ap (held_in Shared) none))
          ∙ sym (ground.first number)

      pub gather_stands : Good (gather task now suites number (raised_or_new fixed task now number mode (suite_of suites number)))
      unfolding gathers
      gather_stands = of (suite_of suites number) refl
        where
          of : (found : Option GatheredSuite) → suite_of suites number ≡ found → Good (gather task now suites number (raised_or_new fixed task now number mode found))
          of None none =
              let start = start_from fixed task now number in
              let may = may_from number none in
              let new : GatheredSuite = record { collector = collect mode start; first = None; mode = Shared; content = None } in
              let g = gathers new (record {
                start = start;
                may = may;
                asked = asked_for_it;
                reached = reached_first fixed world sight number (Was number) start
                    (ground.rules number start asked_for_it may) mode (first_of none);
                led = λ first had. absurd (none-some first had);
                version = λ first had. absurd (none-some first had);
              }) refl
              (λ old there. absurd (none-some old (sym none ∙ there))) (λ other. ap (held_in other) (sym none))
              (λ other had. absurd (false≢true (sym (ap (held_in other) none) ∙ ready.asks.modes number other ∙ had))) in
              gather_by_stands fixed world sight table task cache Was ground (with_suite number new suites) number g now (hinted_with suites number new now hints)
          of (Some suite) there =
              let whole = ready.whole number suite there in
              let found = whole.found in
              let new : GatheredSuite = record suite { collector = raise suite.collector } in
              let raised_mode : new.collector.mode ≡ Exclusive = ap (λ (c : Collector). (raise c).mode) found.reached.is in
              let weak : serves suite.mode mode ≡ false = sym (by_first suite.first whole.had) ∙ ap (held_in mode) (sym there) ∙ ready.asks.modes number mode ∙ is_new in
              let exclusive : mode ≡ Exclusive = weak_or_not suite.mode mode weak in
              let g = gathers new (record {
                start = found.start;
                may = found.may;
                asked = found.asked;
                reached = search (reached_raise, arith);
                led = found.led;
                version = found.version;
              })
              (raised_mode ∙ sym exclusive)
              (λ old is. ap (λ (suite : GatheredSuite). suite.collector.start) (same_Some suite old (sym there ∙ is)))
              (λ other. held other suite.first ∙ ap (held_in other) (sym there))
              (λ other had. ap (λ mode. serves mode other) exclusive ∙ serves_all other) in
              gather_by_stands fixed world sight table task cache Was ground (with_suite number new suites) number g now (hinted_with suites number new now hints)
            where
              by_first : (first : Option ReadPoint) → is_some first ≡ true → held_if suite mode first ≡ serves suite.mode mode
              by_first first h1 = search (false≢true, arith)

              held : (other : LockMode) (first : Option ReadPoint) → held_if (record suite { collector = raise suite.collector }) other first ≡ held_if suite other first
              held other first = search arith

    -- ---- all is known

    module _ (unmet : first_unmet (known_of suites) (needed_on table task) ≡ None) where
      all_asked : locks_on table task ≡ onto ready.asked []
      all_asked = ready.asks.order ∙ ap (onto ready.asked) (none_left (known_of suites) ready.asked modes_known (needed_on table task) unmet)

      all_had : (other : ℕ × LockMode) → Has ready.asked other → not (is_met (demand_of sight (of_lock fixed world sight (starts fixed world sight table task cache suites) other))) ≡ false
      all_had other has = had_met fixed world sight table task cache suites other (ready.asks.had other has)

      all_modes : (z : ℕ) (mode : LockMode) → held_in mode (suite_of suites z) ≡ has_asked (locks_on table task) z mode
      all_modes z mode = search (all_asked, any_onto, arith)

      refused_stands : (refusal : Refusal) → result_on table task ≡ Err refusal → Good (prepare task now suites (Err refusal) (locked_at suites))
      refused_stands refusal is =
          let start = starts fixed world sight table task cache suites in
          prepare_stands fixed world sight table task cache Was ground now suites (Err refusal) (locked_at suites) (record {
            start = start;
            from = may_start fixed world sight table task cache suites ready.asks.right;
            none = none_short fixed world sight table task cache start ready.asked [] all_asked all_had (ap (λ result. votes_of (changes_on table.rows result)) is) (λ other has. absurd has);
            answer_is = sym (ap given_by is) ∙ answer_on_table table task;
            right = ready.asks.right;
            gathered = all_modes;
          })

      granted_stands : (ended : Ended (List Answer)) → result_on table task ≡ Ok ended → AgreesWith (known_of suites) (row_of table.rows)
          → exec_of fixed.service (known_of suites) task.t task.caller task.ops ≡ Done (Ok ended)
          → Good (proceed fixed task now suites (exec.Done ended.given (changes.changes_of (known_of suites) ended.edits)))
      granted_stands ended is agrees done =
          subst (λ left. Good (widen_all task now suites granted left)) (sym (numbers_are (filter sets made)))
          (widen_stands fixed world sight table task cache Was ground (votes_of made) now suites [] granted (record {
            right = ready.asks.right;
            so_far = ready.asked;
            had = ready.asks.had;
            all = all_asked;
            answer_is = sym (ap given_by is) ∙ answer_on_table table task;
            sets = ap (λ result. votes_of (changes_on table.rows result)) is ∙ sym (same_votes fixed.service (known_of suites) table.rows task.t task.caller task.ops ended agrees done);
            met = λ one has. absurd has;
            are_set = λ one has. set_by made ordered one has;
            there = λ one has. set_there one (set_by made ordered one has);
            locked = λ one has. any_wider ready.asked one.0 (sym (ready.asks.modes one.0 Exclusive) ∙ set_held one (set_by made ordered one has));
            exclusive = λ one has. sym (ready.asks.modes one.0 Exclusive) ∙ set_held one (set_by made ordered one has);
            modes = all_modes;
            whole = λ one has suite is. let whole = ready.whole one.0 suite is in (whole.mode_is, whole.had);
          }))
        where
          made : List (ℕ × Change)
          made = changes.changes_of (known_of suites) ended.edits

          granted : Granted
          granted = record { answers = ended.given; changes = changes.changes_of (known_of suites) ended.edits }

          ordered : IsOrdered nat_cmp (changes.changes_of (known_of suites) ended.edits)
          ordered = changes_ordered (changes.change_of (known_of suites) ended.edits) ended.edits

          set_held : (one : ℕ × Configuration) → IsSet (changes.changes_of (known_of suites) ended.edits) one → held_in Exclusive (suite_of suites one.0) ≡ true
          set_held one set =
              sym (held_is suites ready.asks.ordered one.0 Exclusive)
              ∙ changes_are_held fixed.service (known_of suites) task.t task.caller task.ops ended.given made one.0 (ap (answered (known_of suites)) done) (ap is_some set.is)

          set_there : (one : ℕ × Configuration) → IsSet (changes.changes_of (known_of suites) ended.edits) one → is_some (suite_of suites one.0) ≡ true
          set_there one set = of (suite_of suites one.0) (set_held one set)
            where
              of : (found : Option GatheredSuite) → held_in Exclusive found ≡ true → is_some found ≡ true
              of found h1 = search (false≢true, arith)

    -- ---- what it needs on the table

    module _ (same_service : table.service ≡ fixed.service) (agrees : AgreesWith (known_of suites) (row_of table.rows)) where
      goes : exec_of fixed.service (known_of suites) task.t task.caller task.ops ≡ heard (first_unmet (known_of suites) (needed_on table task)) (result_on table task)
      goes = search (goes_alike, arith)

      pub proceed_stands : Good (proceed fixed task now suites (heard_on fixed task suites))
      proceed_stands =
          subst (λ (h : Heard (List Answer) Refusal). Good (proceed fixed task now suites (answered (known_of suites) h))) (sym goes) (of (first_unmet (known_of suites) (needed_on table task)) refl (result_on table task) refl)
        where
          of : (unmet : Option Need) → first_unmet (known_of suites) (needed_on table task) ≡ unmet → (result : Result (Ended (List Answer)) Refusal) → result_on table task ≡ result
              → Good (proceed fixed task now suites (answered (known_of suites) (heard unmet result)))
          of unmet h1 result h3 = search (gather_stands, refused_stands, granted_stands, goes, result_on, arith)

  -- ---- it executes

  module _ (same_service : table.service ≡ fixed.service) where
    pub execute_stands : (all : Gathered) → Ready all.suites → Hinted all.suites all.cache → AgreesWith (known_of (opened (length all.suites) fixed task all).suites) (row_of table.rows) → Good (execute fixed task all)
    execute_stands all ready hints agrees = search (opened_stands, proceed_stands, arith)

    pub begin_stands : Good (execute fixed task (record { suites = []; cache = cache }))
    begin_stands = execute_stands (record { suites = []; cache = cache }) none_ready (λ z none prefix hinted. hinted) (λ z. tt)
