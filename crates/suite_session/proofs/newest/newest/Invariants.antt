use Rattle.suite_session.proofs.Vocabulary.{◌≡◌, option_copied, copies_of, copy_in}
use Rattle.suite_session.specs.Rows.{newest}
use Rattle.suite_session.proofs.newest.newest.Given as goal

abbrev pub invariant-loop-server : goal.invariant-loop-server
invariant-loop-server l = copy_in (option_copied l.best) ≡ newest l.side (copies_of l.which l.service.world.world l.service.settings.servers) l.suite l.server
