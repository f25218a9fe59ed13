-- A collector of whatever votes to which servers stand as a sight says: what it hears, and where one that is widened ends.
use Rattle.law_run_recovers.proofs.Vocabulary.{◌≡◌, ℕ, ◌≤◌, true, false, List, ◌++◌, Option, Some, sym, ap, subst, ◌∙◌, arith, nat_le, nat_tests, Configuration, votes_in, votes_in-wider, absent_prefix, Prefix, Exclusive, Reply, Told, holds}
use Rattle.law_run_recovers.proofs.Vocabulary.{Collector, Asked, request_for, said_to, all_told, tell, told_by, Current, Ask, Short, next, Fixed, World}
use Rattle.suite_collect.proofs.Fewness.{all_told-tell}
use Rattle.txn_core.specs.Transactions as txn_run
use Rattle.law_run_recovers.proofs.Polled.{Sight, serves_all, Answers, AllRight, right_wider, held_open, Refusing, refusing, told_is, held_are_open, at_current, at_short}

-- ---- what a collector is told

pub start_stays : (c : Collector) (one : Told) → (tell one c).start ≡ c.start
start_stays c one = search arith

-- ---- the same in a transaction's words

pub same_said : (t number : ℕ) (asked : Asked) (said : Reply) → txn_run.said_to (request_for t number asked) said ≡ said_to asked said
same_said t number asked said = search arith

-- ---- whose servers answer rightly

module _ (fixed : Fixed) (world : World) (sight : Sight) (suite : ℕ) where
  -- what it was told stays right
  pub right_more : (c : Collector) → AllRight fixed world sight suite Exclusive (all_told c) → (answer : Reply) (one : Told) → ((server : ℕ) (asked : Asked) → next c ≡ Ask server asked → Answers fixed world sight suite asked server answer)
      → told_by (next c) answer ≡ Some one → AllRight fixed world sight suite Exclusive (all_told (tell one c))
  right_more c right answer one so is =
      subst (AllRight fixed world sight suite Exclusive) (sym (all_told-tell one c))
      (right_wider fixed world sight suite one.mode Exclusive one.mode one.server one.said (serves_all one.mode) (told_is fixed world sight suite (next c) answer one is so).0, right)

  -- ---- widened

  abbrev pub by_votes : Collector → Configuration → List Told → Collector
  by_votes c votes since = record c { widening = Some (record { votes = votes; told = since }) }

  pub record WidenedShort (votes : Configuration) (had wanting : ℕ) (busy : Option (ℕ × ℕ)) : Type 0 where
    pub had_is : had ≡ votes_in votes.reps (sight.opens suite Exclusive)
    pub wanting_is : wanting ≡ votes.w
    pub too_few : nat_le votes.w (votes_in votes.reps (sight.opens suite Exclusive)) ≡ false
    pub refuses : Refusing fixed world sight suite Exclusive votes.reps busy

  pub widened_short : (c : Collector) (votes : Configuration) (since : List Told) → AllRight fixed world sight suite Exclusive (since ++ c.told)
      → (had wanting : ℕ) (busy : Option (ℕ × ℕ)) → next (by_votes c votes since) ≡ Short had wanting busy → WidenedShort votes had wanting busy
  widened_short c votes since right had wanting busy is =
      let at = at_short (by_votes c votes since) had wanting busy is in
      let open' = held_are_open fixed world sight suite Exclusive (since ++ c.told) right votes.reps at.nobody in
      record {
        had_is = sym at.had_is ∙ open';
        wanting_is = sym at.wanting_is;
        too_few = ap (nat_le votes.w) (sym open') ∙ at.too_few;
        refuses = subst (Refusing fixed world sight suite Exclusive votes.reps) at.busy_is (refusing fixed world sight suite Exclusive Exclusive (since ++ c.told) right votes.reps at.nobody);
      }

  pub widened_current : (c : Collector) (votes : Configuration) (since : List Told) → AllRight fixed world sight suite Exclusive (since ++ c.told)
      → (prefix : Prefix) (dver : ℕ) (members : List ℕ) → next (by_votes c votes since) ≡ Current prefix dver members
      → nat_le votes.w (votes_in votes.reps (sight.opens suite Exclusive)) ≡ true
  widened_current c votes since right prefix dver members is =
      up_to votes.w (votes_in votes.reps (holds Exclusive (since ++ c.told))) (votes_in votes.reps (sight.opens suite Exclusive)) (at_current (by_votes c votes since) prefix dver members is).enough
      (votes_in-wider votes.reps (holds Exclusive (since ++ c.told)) (sight.opens suite Exclusive)
      (λ server has. (held_open fixed world sight suite (absent_prefix fixed.service.c0) Exclusive (since ++ c.told) right Exclusive server has).0))
    where
      up_to : (a b c : ℕ) → nat_le a b ≡ true → b ≤ c → nat_le a c ≡ true
      up_to a b c le more = grind (arith, nat_tests)
