-- They can be, and the rest holds by computation.
use Rattle.law_headline.proofs.Vocabulary.{◌≡◌, inl, inr, ℕ, ◌<◌, Bool, true, List, [], ◌∷◌, Option, Some, None, is_some, refl, sym, ap, ◌∙◌, subst, arith, lit<, nat_lt, ◌&&◌, not, AllByRecursion, list_all, nat_cmp, and_parts, false≢true, nat_tests}
use Rattle.law_headline.proofs.Vocabulary.{All-from_recursion, Configuration, Representative, IsValid, first_fault, max_servers, IsAccepted, Shared, Prefix, Action, Op, row_of, Transaction, Event, Begin, decisions, GivesValidVotes}
use Rattle.law_headline.proofs.Vocabulary.{EventGivesValidVotes, VotesAreValid}
use Rattle.std.specs.FinSet.{contains-empty}
use Rattle.vote_core.specs.declared.fault.VotesFault.{VotesFault}
use Rattle.vote_core.proofs.Faults.{accepted_without_fault}
use Rattle.suite_prefix.specs.declared.copies.PrefixKind.TheVariants.{File}
use Rattle.txn_core.specs.Runs.{mode_lists}
use Rattle.run_core.specs.TableOfRun.{table_after_all, AnswersAreTheTables}
use Rattle.law_headline.specs.Worked.{with_caches, revoked, revoked_decisions, SomeRunRevokes, six_servers, moved_decisions, SomeRunMovesVotes, upgraded, SomeRunHoldsLocks, moved}
use Rattle.rep_core.specs.declared.request.Request.TheVariants as request
use Rattle.rep_core.specs.declared.reply.Reply.TheVariants as reply
use Rattle.file_ops.specs.declared.operation.Action.TheVariants as action
use Rattle.file_ops.specs.Rows as rows

-- ---- valid votes, by a test

all_by : {X : Type 0} (P : X → Type 0) (p : X → Bool) → ((x : X) → p x ≡ true → P x) → (xs : List X) → list_all p xs ≡ true → AllByRecursion P xs
all_by P p each [] is = tt
all_by P p each (x ∷ xs) is =
    let parts = and_parts (p x) (list_all p xs) is in
    (each x parts.0, all_by P p each xs parts.1)

abbrev pub votes_fit : Configuration → Bool
votes_fit votes = not (is_some (first_fault max_servers votes)) && list_all (λ rep. nat_lt rep.1 256) votes.reps

pub valid_votes : (votes : Configuration) → votes_fit votes ≡ true → IsValid votes
valid_votes votes is =
    let parts = and_parts (not (is_some (first_fault max_servers votes))) (list_all (λ rep. nat_lt rep.1 256) votes.reps) is in
    let few = all_by (λ (rep : Representative). rep.1 < 256) (λ rep. nat_lt rep.1 256) (λ rep. below rep.1 256) votes.reps parts.1 in
    (accepted_without_fault max_servers votes (none (first_fault max_servers votes) parts.0) (All-from_recursion (λ (rep : Representative). rep.1 < 256) votes.reps few)).valid
  where
    below : (a b : ℕ) → nat_lt a b ≡ true → a < b
    below a b is = grind (arith, nat_tests)

    none : (o : Option VotesFault) → not (is_some o) ≡ true → o ≡ None
    none None is = refl
    none (Some fault) is = absurd (false≢true is)

abbrev action_fits : Action → Bool
action_fits (action.Make kind init (Some votes)) = votes_fit votes
action_fits (action.SetVotes votes) = votes_fit votes
action_fits _ = true

valid_action : (one : Action) → action_fits one ≡ true → GivesValidVotes one
valid_action (action.Make kind init (Some votes)) is = valid_votes votes is
valid_action (action.Make kind init None) is = tt
valid_action (action.SetVotes votes) is = valid_votes votes is
valid_action _ is = tt

abbrev pub event_fits : Event → Bool
event_fits (Begin number (Transaction caller site ops)) = list_all (λ (op : Op). action_fits op.action) ops
event_fits _ = true

pub valid_event : (event : Event) → event_fits event ≡ true → EventGivesValidVotes event
valid_event (Begin number (Transaction caller site ops)) is = all_by (λ (op : Op). GivesValidVotes op.action) (λ op. action_fits op.action) (λ op. valid_action op.action) ops is
valid_event other is = tt

valid_events : (events : List Event) → list_all event_fits events ≡ true → VotesAreValid events
valid_events events is = all_by EventGivesValidVotes event_fits valid_event events is

-- ---- they can be

first_votes : IsValid with_caches.c0
first_votes = valid_votes with_caches.c0 refl

caches_accepted : IsAccepted with_caches
caches_accepted = record {
  some_servers = (omega arith, omega arith);
  some_agents = (omega arith, omega arith);
  known_servers = All-from_recursion (λ (rep : Representative). rep.0 < 3) with_caches.c0.reps (lit< tt, (lit< tt, (lit< tt, tt)));
  budget_fits = omega arith;
  quota_fits = omega arith;
  slots_fit = omega arith;
  old_known = λ server there. absurd (false≢true (sym (contains-empty nat_cmp server) ∙ there));
  old_fits = λ server there. absurd (false≢true (sym (contains-empty nat_cmp server) ∙ there));
}

six_accepted : IsAccepted six_servers
six_accepted = record {
  some_servers = (omega arith, omega arith);
  some_agents = (omega arith, omega arith);
  known_servers = All-from_recursion (λ (rep : Representative). rep.0 < 6) six_servers.c0.reps (lit< tt, (lit< tt, (lit< tt, tt)));
  budget_fits = omega arith;
  quota_fits = omega arith;
  slots_fit = omega arith;
  old_known = λ server there. absurd (false≢true (sym (contains-empty nat_cmp server) ∙ there));
  old_fits = λ server there. absurd (false≢true (sym (contains-empty nat_cmp server) ∙ there));
}

-- ---- what they came to

revoked_in_order : decisions with_caches revoked ≡ revoked_decisions
revoked_in_order = refl

revoked_answers : AnswersAreTheTables (rows.opening with_caches) (decisions with_caches revoked)
revoked_answers = subst (AnswersAreTheTables (rows.opening with_caches)) (sym revoked_in_order) (refl, (refl, (refl, (refl, (refl, (refl, tt))))))

pub some_run_revokes : SomeRunRevokes
some_run_revokes = record {
  can_be = record { accepted = caches_accepted; c0 = first_votes; votes = valid_events revoked refl };
  ends = refl;
  begins = refl;
  stale_copy = refl;
  stale_hint_and_content = refl;
  in_order = revoked_in_order;
  answers = revoked_answers;
  row = ap (λ ds. row_of (table_after_all (rows.opening with_caches) ds).rows 1) revoked_in_order;
  copies = (refl, refl, refl);
  audit = refl;
  tables_audit = ap (λ ds. (table_after_all (rows.opening with_caches) ds).audit) revoked_in_order;
}

moved_in_order : decisions six_servers moved ≡ moved_decisions
moved_in_order = refl

pub some_run_moves_votes : SomeRunMovesVotes
some_run_moves_votes = record {
  can_be = record { accepted = six_accepted; c0 = first_votes; votes = valid_events moved refl };
  before = refl;
  old_servers = (refl, refl);
  new_servers = (refl, refl, refl);
  in_order = moved_in_order;
  answers = subst (AnswersAreTheTables (rows.opening six_servers)) (sym moved_in_order) (refl, (refl, (refl, tt)));
  row = ap (λ ds. row_of (table_after_all (rows.opening six_servers) ds).rows 1) moved_in_order;
}

-- ---- locks

held_a : Prefix
held_a = record { pver = 1; kind = File; owner = 1000; group = 100; acl = mode_lists 420; votes = six_servers.c0 }

pub some_run_holds_locks : SomeRunHoldsLocks
unfolding held_a
some_run_holds_locks = record {
  can_be = record { accepted = six_accepted; c0 = first_votes; votes = valid_events upgraded refl };
  shared = record {
    what = record { server = 0; request = record { stamp = 13; value = request.Poll 64 1 Shared }; reply = record { stamp = 14; value = reply.Held held_a 1 } };
    served = refl;
    at = refl;
    asked = inl refl;
    prefix = held_a;
    dver = 1;
    told = refl;
  };
  exclusive = record {
    what = record { server = 0; request = record { stamp = 16; value = request.Upgrade 64 1 }; reply = record { stamp = 17; value = reply.Held held_a 1 } };
    served = refl;
    at = refl;
    asked = inr (refl, refl);
    prefix = held_a;
    dver = 1;
    told = refl;
  };
  decision = refl;
}
