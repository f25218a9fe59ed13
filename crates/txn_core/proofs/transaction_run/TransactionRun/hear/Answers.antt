use Rattle.txn_core.proofs.Vocabulary.{◌≡◌, Ok, refl, sym, ap, subst, IsOrdered, replace, Coming, Comes, next, TransactionRun, Suites, nat_cmp}
use Rattle.txn_core.proofs.Handling.{err_by}
use Rattle.txn_core.proofs.InPlace.{asks_nobody, asks_there, hears_there, left_there}
use Rattle.txn_core.proofs.transaction_run.TransactionRun.hear.Goals as goal

pub returns-in_default-next : goal.returns-in_default-next
returns-in_default-next c =
    let now = c.args.self.now in
    let held = c.self.inside.suites.pairs in
    let suite = c.in-Some.suite.now in
    let same : held ≡ now.suites = ap (λ (txn_run : TransactionRun). txn_run.suites) c.self.view_is in
    record {
      from = asks_nobody now held c.args.number suite same c.in-Some.ensures.value c.next.result c.in_default-next.not-Ask c.next.ensures;
      ok = left_there now _ held c.args.number suite suite same c.in-Some.ensures.value refl (ap (λ (txn_run : TransactionRun). record txn_run { suites = replace nat_cmp held c.args.number suite }) c.self.view_is);
      ordered = subst (λ (suites : Suites). IsOrdered nat_cmp suites) same c.get_mut.ensures.ordered;
      err = tt;
      asked = tt;
      memory = tt;
    }

pub hear-requires : goal.hear-requires
hear-requires c =
    let now = c.args.self.now in
    let suite = c.in-Some.suite.now in
    let comes = subst (λ (coming : Coming). Comes coming (next suite.collector)) c.in-Ask.is c.next.ensures in
    let asks = asks_there now c.self.inside.suites.pairs c.args.number suite (ap (λ (txn_run : TransactionRun). txn_run.suites) c.self.view_is) c.in-Some.ensures.value c.in-Ask.server c.in-Ask.asked comes in
    c.requires c.in-Ask.server (sym asks)

pub returns-in_err-hearing-clause-err : goal.returns-in_err-hearing-clause-err
returns-in_err-hearing-clause-err c =
    let held = c.self.inside.suites.pairs in
    err_by c.from_residual.result
    (left_there c.args.self.now _ held c.args.number c.in-Some.suite.now c.hear.new.self (ap (λ (txn_run : TransactionRun). txn_run.suites) c.self.view_is) c.in-Some.ensures.value c.in_err-hearing.ensures.err
    (ap (λ (txn_run : TransactionRun). record txn_run { suites = replace nat_cmp held c.args.number c.hear.new.self }) c.self.view_is))

pub returns-clause-ok : goal.returns-clause-ok
returns-clause-ok c =
    let held = c.self.inside.suites.pairs in
    hears_there c.args.self.now _ held c.args.number c.in-Some.suite.now c.hear.new.self c.args.said.now (ap (λ (txn_run : TransactionRun). txn_run.suites) c.self.view_is) c.in-Some.ensures.value c.get_mut.ensures.ordered
    (ap (λ (txn_run : TransactionRun). record txn_run { suites = replace nat_cmp held c.args.number c.hear.new.self }) c.self.view_is) (Ok c.in_ok-hearing.hearing) c.in_ok-hearing.ensures.ok
