use Rattle.suite_collect.proofs.heard.Heard.add_lock.Given as goal

abbrev pub ghost-and : goal.ghost-and
ghost-and a = a._from.now
