use Rattle.suite_collect.proofs.Vocabulary.{◌≡◌, true, Some, refl, sym, ap, subst, ◌∙◌, rules, IsTold, Hears, has_quorum, Collecting, next, tell, told_by, due_of}
use Rattle.suite_collect.specs.declared.hearing.Hearing.{Hearing}
use Rattle.suite_collect.specs.code.Dues as due
use Rattle.suite_collect.proofs.Dues.{current_next, ask_next, short_next}
use Rattle.suite_collect.proofs.Refusals.{quorum_shows}
use Rattle.suite_collect.proofs.collect.Collect.hear.Goals.{in-Ask, in-Short}
use Rattle.suite_collect.proofs.collect.Collect.hear.Goals as goal

pub returns-in-Current-clause-ok : goal.returns-in-Current-clause-ok
returns-in-Current-clause-ok c =
    let was = c.args.self.now.collector in
    let last = c.in-Some.last in
    let told : told_by (next was) c.args.reply.now ≡ Some last = search rules in
    let is : due_of (tell last was) ≡ due.Current = search rules in
    let after = current_next (tell last was) is in
    let quorum : has_quorum (next (tell last was)) ≡ true = search rules in
    record { told = told; known = search rules; lock = quorum_shows was c.args.reply.now last told quorum; quorum = quorum; same = refl }

pub returns-clause-ok : goal.returns-clause-ok
returns-clause-ok c =
    let was = c.args.self.now.collector in
    let last = c.in-Some.last in
    let after = tell last was in
    let told : told_by (next was) c.args.reply.now ≡ Some last = search rules in
    let new : c.put.new.self ≡ record c.args.self.now { collector = after } = search rules in
    let tells : IsTold c.args.self.now c.args.reply.now c.put.new.self = record { last = last; told = told; new = new } in
    let Heard : Hearing → Type 0 = λ hearing. Hears hearing c.args.self.now c.args.reply.now c.put.new.self in
    let comes = ap (λ (now : Collecting). next now.collector) new in
    elim c.match-due.branch [
      | in-Ask w ↦
          let is : due_of after ≡ due.Ask w.in-Ask.server = search rules in
          subst Heard (sym w.hearing-is) (tells, (_, _, comes ∙ ask_next after w.in-Ask.server is))
      | in-Short w ↦
          let is : due_of after ≡ due.Short w.in-Short.got w.in-Short.needed = search rules in
          subst Heard (sym w.hearing-is) (tells, (_, _, _, comes ∙ short_next after w.in-Short.got w.in-Short.needed is))
    ]
