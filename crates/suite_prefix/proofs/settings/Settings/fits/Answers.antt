use Rattle.suite_prefix.proofs.Vocabulary.{arith, ◌≡◌, ◌<◌, ◌^◌, true, false, cond, refl, Holds, One, Two}
use Rattle.std.specs.FinSet.{contains}
use Rattle.suite_prefix.proofs.settings.Settings.fits.Goals as goal

pub returns-clause-held : goal.returns-clause-held
returns-clause-held c = λ server.
    let given = c.args.self.now in
    elim (contains given.old server) as (λ b. contains given.old server ≡ b → Holds (cond b One Two) given.root_acl given.c0) [
      | true ↦ λ there. c.servers-servers.ensures.accepted.old_fits server there
      | false ↦ λ _. tt
    ] refl

pub returns-clause-root : goal.returns-clause-root
returns-clause-root c =
    let r : c.c0-votes.result.now.r < 2 ^ 16 = omega arith in
    let w : c.c0-votes.result.now.w < 2 ^ 16 = omega arith in
    record {
      acl = rw c.root_acl.ensures at c.lists_fit.ensures.acls;
      votes = rw c.c0-votes.ensures at c.reps-reps.ensures.valid;
      pver = omega arith;
      owner = rw c.root_owner.ensures at c.fits_four.ensures;
      group = rw c.root_group.ensures at c.fits_four-2.ensures;
      qualifiers = rw c.root_acl.ensures at c.lists_fit.ensures.numbers;
      r = rw c.c0-votes.ensures at r;
      w = rw c.c0-votes.ensures at w;
    }
