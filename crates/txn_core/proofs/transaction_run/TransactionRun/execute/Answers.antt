use Rattle.txn_core.proofs.Vocabulary.{refl, subst, ap, ◌∙◌, GoesBy, executed, Resources, phase_of, TransactionRun, Suites, Step}
use Rattle.txn_core.proofs.Reaching.{follows_unless, unbegun_by}
use Rattle.txn_core.proofs.transaction_run.TransactionRun.execute.Goals as goal

pub returns-in-Ok-clause-ok : goal.returns-in-Ok-clause-ok
returns-in-Ok-clause-ok c =
    let cache = c.execute.new.cache in
    let Goes : Step → Type 0 = λ step. GoesBy step c.follow.result c.follow.new.self cache.entries in
    record {
      steps =
          subst Goes (c.in-Ok.ensures.ok ∙ ap (λ (txn_run : TransactionRun). executed c.args.resources.now txn_run c.args.just_learned) c.self.view_is)
          (c.follow.ensures cache.entries);
      keeps = record { fixed_parts = refl; limits = c.execute.ensures.limits; unused = c.execute.ensures.unused };
      reached = follows_unless c.args.resources.now.fixed_parts c.execute.new.progress c.self.inside.task c.execute.new.suites.pairs c.in-Ok.next_phase c.follow.result c.follow.new.self c.in-Ok.ensures.reached c.follow.ensures;
    }

pub returns-in-Err-clause-err : goal.returns-in-Err-clause-err
returns-in-Err-clause-err c =
    let put : Suites → TransactionRun = λ suites. record { task = c.self.inside.task; suites = suites; phase = phase_of c.self.inside.phase } in
    record {
      same = ap put c.in-Err.ensures.err.0 ∙ c.self.view_is;
      cache = ap (λ (resources : Resources). resources.cache) c.begin_anew.ensures ∙ c.in-Err.ensures.err.1;
      fixed_parts = ap (λ (resources : Resources). resources.fixed_parts) c.begin_anew.ensures;
      reached =
          unbegun_by c.begin_anew.new.self.fixed_parts (put c.execute.new.suites.pairs) c.begin_anew.new.self.progress
          (ap (λ (resources : Resources). resources.progress) c.begin_anew.ensures);
    }
