-- They hold by computation.
use Rattle.law_run_alone.proofs.Vocabulary.{ℕ, zero, suc, ◌<◌, List, [], ◌∷◌, ◌++◌, refl, sym, ◌∙◌, arith, All, nat_cmp, false≢true, Representative, IsValid, max_servers, IsAccepted, Transaction, Event, Begin, Crash, Return, VotesAreValid}
use Rattle.std.specs.FinSet.{contains-empty}
use Rattle.std.proofs.lemmas.List.Elements.{All-nil, All-cons}
use Rattle.txn_core.specs.Runs.{owner, other}
use Rattle.law_runs.specs.Worked.{two_agents, so_many, close_a, read_a}
use Rattle.law_run_alone.specs.Worked.{with_caches, undisturbed, mended, reads, IsUndisturbed, SomeRunsGoAlone}
use Rattle.std.specs.List.{IsDistinct}

-- three servers with a vote each, below some number
three : (most : ℕ) → 2 < most → All (λ (rep : Representative). rep.0 < most) ((0, 1) ∷ (1, 1) ∷ (2, 1) ∷ [])
three most small =
    let P : Representative → Type 0 = λ rep. rep.0 < most in
    All-cons P (0, 1) ((1, 1) ∷ (2, 1) ∷ []) (omega (arith, small)) (All-cons P (1, 1) ((2, 1) ∷ []) (omega (arith, small)) (All-cons P (2, 1) [] small (All-nil P)))

few_votes : All (λ (rep : Representative). rep.1 < 256) ((0, 1) ∷ (1, 1) ∷ (2, 1) ∷ [])
few_votes =
    let P : Representative → Type 0 = λ rep. rep.1 < 256 in
    All-cons P (0, 1) ((1, 1) ∷ (2, 1) ∷ []) (omega arith) (All-cons P (1, 1) ((2, 1) ∷ []) (omega arith) (All-cons P (2, 1) [] (omega arith) (All-nil P)))

valid_votes : IsValid two_agents.c0
unfolding IsDistinct
valid_votes = record {
  some_listed = omega arith;
  numbered = three max_servers (omega arith);
  few_votes = few_votes;
  listed_once = ((refl, (refl, tt)), ((refl, tt), (tt, tt)));
  some_votes = omega arith;
  r_in_range = (omega arith, omega arith);
  w_in_range = (omega arith, omega arith);
  reads_meet_writes = omega arith;
  writes_meet = omega arith;
}

append_valid : (xs ys : List Event) → VotesAreValid xs → VotesAreValid ys → VotesAreValid (xs ++ ys)
append_valid [] ys valid more = more
append_valid (x ∷ xs) ys valid more = (valid.0, append_valid xs ys valid.1 more)

many_valid : (steps agent : ℕ) → VotesAreValid (so_many steps agent)
many_valid zero agent = tt
many_valid (suc steps) agent = (tt, many_valid steps agent)

-- the last jobs of the run, then more of them
abbrev fifth : List Event
fifth = Begin 1 (Transaction other 0 read_a) ∷ so_many 11 1

abbrev fourth : List Event
fourth = Begin 0 (Transaction owner 0 close_a) ∷ so_many 13 0 ++ fifth

abbrev third : List Event
third = Begin 1 (Transaction other 0 read_a) ∷ so_many 11 1 ++ fourth

abbrev second : List Event
second = Begin 1 (Transaction other 0 read_a) ∷ so_many 11 1 ++ third

fifth_valid : VotesAreValid fifth
fifth_valid = ((tt, tt), many_valid 11 1)

fourth_valid : VotesAreValid fourth
fourth_valid = ((tt, tt), append_valid (so_many 13 0) fifth (many_valid 13 0) fifth_valid)

third_valid : VotesAreValid third
third_valid = ((tt, tt), append_valid (so_many 11 1) fourth (many_valid 11 1) fourth_valid)

second_valid : VotesAreValid second
second_valid = ((tt, tt), append_valid (so_many 11 1) third (many_valid 11 1) third_valid)

jobs_valid : VotesAreValid undisturbed
jobs_valid = ((tt, (tt, tt)), append_valid (so_many 10 0) second (many_valid 10 0) second_valid)

without_accepted : IsAccepted two_agents
without_accepted = record {
  some_servers = (omega arith, omega arith);
  some_agents = (omega arith, omega arith);
  known_servers = three 3 (omega arith);
  budget_fits = omega arith;
  quota_fits = omega arith;
  slots_fit = omega arith;
  old_known = λ server there. absurd (false≢true (sym (contains-empty nat_cmp server) ∙ there));
  old_fits = λ server there. absurd (false≢true (sym (contains-empty nat_cmp server) ∙ there));
}

with_accepted : IsAccepted with_caches
with_accepted = record {
  some_servers = (omega arith, omega arith);
  some_agents = (omega arith, omega arith);
  known_servers = three 3 (omega arith);
  budget_fits = omega arith;
  quota_fits = omega arith;
  slots_fit = omega arith;
  old_known = λ server there. absurd (false≢true (sym (contains-empty nat_cmp server) ∙ there));
  old_fits = λ server there. absurd (false≢true (sym (contains-empty nat_cmp server) ∙ there));
}

mended_valid : VotesAreValid (mended ++ reads ∷ so_many 11 1)
mended_valid = ((tt, (tt, tt)), append_valid (so_many 10 0) (Crash 0 ∷ Return 0 ∷ reads ∷ so_many 11 1) (many_valid 10 0) (tt, (tt, fifth_valid)))

undisturbed_read : IsUndisturbed
undisturbed_read = record {
  can = record { accepted = without_accepted; c0 = valid_votes; votes = mended_valid };
  begins = refl;
  idle = refl;
  up = refl;
  unlocked = refl;
  alone = refl;
  calm = refl;
  ends = refl;
}

pub some_runs_go_alone : SomeRunsGoAlone
some_runs_go_alone = record {
  alone = refl;
  ends = refl;
  decided = refl;
  alone_without = refl;
  alone_with = refl;
  same_jobs = refl;
  ends_without = refl;
  ends_with = refl;
  steps_without = refl;
  steps_with = refl;
  can_without = record { accepted = without_accepted; c0 = valid_votes; votes = jobs_valid };
  can_with = record { accepted = with_accepted; c0 = valid_votes; votes = jobs_valid };
  disturbs_some = refl;
  disturbs_none_without = refl;
  disturbs_none_with = refl;
  undisturbed_after_crash = undisturbed_read;
}
