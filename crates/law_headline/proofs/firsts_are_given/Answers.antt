use Rattle.law_headline.proofs.Vocabulary.{inr, refl, after_all, begin}
use Rattle.law_headline.proofs.Firsts.{firsts_given}
use Rattle.law_headline.proofs.firsts_are_given.Goals as goal

pub returns : goal.returns
returns c fixed agent job told txn_run idle running number suite first there is =
    firsts_given fixed (after_all fixed (begin fixed agent job) told) (inr (record { before = agent; job = job; told = told; idle = idle; is = refl })) txn_run running number suite there first is
