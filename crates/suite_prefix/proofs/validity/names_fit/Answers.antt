use Rattle.suite_prefix.proofs.Vocabulary.{◌<◌, ◌^◌, take, sym, get_or, take_all, All-more, All-same, IsName}
use Rattle.suite_prefix.proofs.validity.names_fit.Goals as goal

pub loop-name-preserved : goal.loop-name-preserved
loop-name-preserved c =
    let names = c.args.names.now in
    let i = c.loop-name.name-index in
    let entry = c.loop-name-item.result in
    let is_name : IsName (get_or names i entry).0 = rw c.loop-name-item.is at c.as_bytes-bytes.ensures.is_name in
    let fits : (get_or names i entry).1 < 2 ^ 64 = rw c.loop-name-item.is at c.fits_eight.ensures in
    record {
      are_names = All-more (λ e. IsName e.0) names i entry c.loop-name-test.true c.loop-name.invariant.are_names is_name;
      suites_fit = All-more (λ e. e.1 < 2 ^ 64) names i entry c.loop-name-test.true c.loop-name.invariant.suites_fit fits;
    }

pub returns-clause-are_names : goal.returns-clause-are_names
returns-clause-are_names c =
    let names = c.args.names.now in
    let i = c.loop-name.name-index in
    All-same (λ e. IsName e.0) names (take i names) (sym (take_all i names c.loop-name-test.false)) c.loop-name.invariant.are_names

pub returns-clause-suites_fit : goal.returns-clause-suites_fit
returns-clause-suites_fit c =
    let names = c.args.names.now in
    let i = c.loop-name.name-index in
    All-same (λ e. e.1 < 2 ^ 64) names (take i names) (sym (take_all i names c.loop-name-test.false)) c.loop-name.invariant.suites_fit
