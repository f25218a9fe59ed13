-- Runs by computation.
use Rattle.law_run_recovers.proofs.Vocabulary.{refl, AreNotFound, AreFoundTwiceOn, FewerToWrite, AreMissing, IsSweptAway, IsInNoWay, IsInDoubt, SomeRunsRecover}

not_found : AreNotFound
not_found = record {
  rows_up = refl;
  not_found = refl;
  so_it_ends = refl;
}

found_twice_on : AreFoundTwiceOn
found_twice_on = record {
  found_twice_on = refl;
  so_it_is_read = refl;
}

fewer_to_write : FewerToWrite
fewer_to_write = record {
  asked = refl;
  both = refl;
  alone = refl;
  both_end = refl;
  alone_ends = refl;
}

missing : AreMissing
missing = record {
  both_missing = refl;
  home_missing = refl;
  ends_unavailable = refl;
  ends_home_down = refl;
}

swept_away : IsSweptAway
swept_away = record {
  before = refl;
  goes = refl;
  free = refl;
  then_read = refl;
}

in_no_way : IsInNoWay
in_no_way = record {
  kept_there = refl;
  in_no_way = refl;
  to_be_read = refl;
  is_read = refl;
}

doubt : IsInDoubt
doubt = record {
  certain = refl;
  two_locks = refl;
  one_holder = refl;
  doubtful = refl;
  one_left = refl;
}

pub some_runs_recover : SomeRunsRecover
some_runs_recover = record {
  not_found = not_found;
  found_twice_on = found_twice_on;
  fewer_to_write = fewer_to_write;
  missing = missing;
  swept_away = swept_away;
  in_no_way = in_no_way;
  doubt = doubt;
}
