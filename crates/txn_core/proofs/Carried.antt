-- How suites stand once a plan was carried out.
use Rattle.txn_core.proofs.Vocabulary.{◌≡◌, ℕ, Some, None, sym, ap, ◌∙◌, is_some, nat_cmp, nat_cmp_total, IsOrdered, replace, insert_present, replace_same, Content, raise, ReadPoint, GatheredSuite, Suites, suite_of, with_suite, Task, arith, Gathered}
use Rattle.txn_core.proofs.Vocabulary.{opened_by, raised_at, changed_at}
use Rattle.txn_core.proofs.Rounds.{opens}

-- another value of a suite that is there
pub set_there : (suites : Suites) (number : ℕ) (suite new : GatheredSuite) → IsOrdered nat_cmp suites → suite_of suites number ≡ Some suite → replace nat_cmp suites number new ≡ with_suite number new suites
set_there suites number suite new ordered is = sym (insert_present nat_cmp_total suites number new ordered (ap is_some is))

pub raised : (suites : Suites) (number : ℕ) (suite new : GatheredSuite) → IsOrdered nat_cmp suites → Some suite ≡ suite_of suites number → new ≡ record suite { collector = raise suite.collector }
    → replace nat_cmp suites number new ≡ raised_at number (suite_of suites number) suites
raised suites number suite new ordered is more = search (set_there, arith)

pub opens_none : (task : Task) (all : Gathered) (number : ℕ) (content : Content) (suite : GatheredSuite) → Some suite ≡ suite_of all.suites number → suite.first ≡ None
    → replace nat_cmp all.suites number suite ≡ (opened_by task all (number, content)).suites
opens_none task all number content suite is was =
    replace_same nat_cmp_total all.suites number suite (sym is) ∙ ap (λ (g : Gathered). g.suites) (sym (opens task all number content suite None (sym is) was))

pub opens_some : (task : Task) (all : Gathered) (number : ℕ) (content : Content) (suite new : GatheredSuite) (first : ReadPoint) → IsOrdered nat_cmp all.suites → Some suite ≡ suite_of all.suites number → suite.first ≡ Some first
    → new ≡ record suite { content = Some content } → replace nat_cmp all.suites number new ≡ (opened_by task all (number, content)).suites
opens_some task all number content suite new first ordered is was more = search (set_there, opens, arith)

-- a suite gets what was learned of it
pub changed_there : (change : GatheredSuite → GatheredSuite) (suites : Suites) (number : ℕ) (suite new : GatheredSuite) → IsOrdered nat_cmp suites → Some suite ≡ suite_of suites number → new ≡ change suite
    → replace nat_cmp suites number new ≡ changed_at change number (suite_of suites number) suites
changed_there change suites number suite new ordered is more = search (set_there, arith)
