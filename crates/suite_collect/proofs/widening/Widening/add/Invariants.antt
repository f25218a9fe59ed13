use Rattle.suite_collect.proofs.widening.Widening.add.Given as goal

abbrev pub ghost-and : goal.ghost-and
ghost-and a = a._from.now
