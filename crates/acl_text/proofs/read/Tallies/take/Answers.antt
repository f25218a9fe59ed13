use Rattle.acl_text.proofs.Vocabulary.{refl, Access, Default}
use Rattle.acl_text.proofs.EntryByEntry.{on_ok, tally_more, tally_stays}
use Rattle.acl_text.proofs.read.Tallies.take.Goals as goal

pub returns-in-Access : goal.returns-in-Access
returns-in-Access c = record {
  taken = on_ok c.take.result c.take.ensures.taken (λ more taken are. record {
    access = tally_more c.args.self.now.access c.take.new.self Access taken c.args.said c.in-Access.is refl more are.access;
    default = tally_stays c.args.self.now.default Default Access taken c.args.said c.in-Access.is refl are.default;
  });
}

pub returns-in-Default : goal.returns-in-Default
returns-in-Default c = record {
  taken = on_ok c.take-in-Default.result c.take-in-Default.ensures.taken (λ more taken are. record {
    access = tally_stays c.args.self.now.access Access Default taken c.args.said c.in-Default.is refl are.access;
    default = tally_more c.args.self.now.default c.take-in-Default.new.self Default taken c.args.said c.in-Default.is refl more are.default;
  });
}
