-- Runs by computation.
use Rattle.law_run_recovers.proofs.Vocabulary.{refl, NoneOfTwoCrossed, NoneOfTwoThatRaise, NoneOfTwoOfWhichOneRaises, NoneOfTwoThatWriteAll, NoneOfThree, NoneOfTwoThatSetVotes, SomeRunsStarve}

crossed : NoneOfTwoCrossed
crossed = record {
  up = refl;
  free = refl;
  ends = refl;
}

raised : NoneOfTwoThatRaise
raised = record {
  up = refl;
  free = refl;
  ends = refl;
}

one_raises : NoneOfTwoOfWhichOneRaises
one_raises = record {
  up = refl;
  free = refl;
  ends = refl;
}

write_all : NoneOfTwoThatWriteAll
write_all = record {
  up = refl;
  free = refl;
  ends = refl;
}

three : NoneOfThree
three = record {
  up = refl;
  free = refl;
  ends = refl;
}

votes_set : NoneOfTwoThatSetVotes
votes_set = record {
  up = refl;
  free = refl;
  ends = refl;
}

pub some_runs_starve : SomeRunsStarve
some_runs_starve = record {
  crossed = crossed;
  raised = raised;
  one_raises = one_raises;
  write_all = write_all;
  three = three;
  votes_set = votes_set;
}
