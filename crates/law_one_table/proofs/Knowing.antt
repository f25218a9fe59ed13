-- What an agent knows where its transaction is decided is what the registers hold.
use Rattle.law_one_table.proofs.Vocabulary.{nat_cmp, IsOrdered, Replica, Row, Rows, row_of, KnownSuite, IsSo, IsSoAt, AgreesWith, ReadPoint, GatheredSuite, Suites, suite_of, known_row, known_of, Task, Proposal, known_from, arith, Beginning, Known}
use Rattle.law_one_table.proofs.Vocabulary.{Change, IsKnown, IsPlain, row, World, happens, to_write, known_by, decides_with, decision_with}
use Rattle.std.proofs.Common.{◌≡◌, ℕ, Option, Some, None, refl, subst}
use Rattle.file_exec.specs.Known as known
use Rattle.law_one_table.proofs.Shown.{IsShown}

-- ---- what a decision knew

pub known_by_plain : (start : Beginning) (w : World) (t : ℕ) (known : Known) (outcome : Proposal) (new : Option Change) → IsPlain start (happens start w (decides_with w t known outcome new)).log → IsKnown (row start w.log) known
known_by_plain start w t known outcome new h6 = search arith

-- a decision on a suite that had a first Current
pub decision_is : (z : ℕ) (w : World) (task : Task) (suites : Suites) (outcome : Proposal) (suite : GatheredSuite) (first : ReadPoint) → suite_of suites z ≡ Some suite → suite.first ≡ Some first
    → decision_with z w task suites outcome ≡ decides_with w task.t (known_by first suite) outcome (to_write z suites outcome)
decision_is z w task suites outcome suite first there was = search arith

-- ---- what is known agrees with the rows

so_at : (suite : GatheredSuite) (first : ReadPoint) (held : Replica) (row : Option Row) → IsShown held row → IsKnown held (known_by first suite) → IsSo (known_row suite first) row
so_at suite first held row shown knows = search arith

pub agrees : (suites : Suites) (rows : Rows) (held : ℕ → Replica) → IsOrdered nat_cmp suites → ((z : ℕ) → IsShown (held z) (row_of rows z))
    → ((z : ℕ) (suite : GatheredSuite) (first : ReadPoint) → suite_of suites z ≡ Some suite → suite.first ≡ Some first → IsKnown (held z) (known_by first suite)) → AgreesWith (known_of suites) (row_of rows)
agrees suites rows held ordered shown knows z = of (known.known_of (known_of suites) z) refl
  where
    of : (it : Option KnownSuite) → known.known_of (known_of suites) z ≡ it → IsSoAt it (row_of rows z)
    of None is = tt
    of (Some it) is =
        let found = known_from suites z it ordered is in
        subst (λ (it : KnownSuite). IsSo it (row_of rows z)) found.is (so_at found.suite found.first (held z) (row_of rows z) (shown z) (knows z found.suite found.first found.there found.was))
