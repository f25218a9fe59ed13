-- It holds by computation.
use Rattle.law_runs.proofs.Vocabulary.{◌≡◌, ℕ, ◌<◌, [], ◌∷◌, refl, sym, ap, ◌∙◌, subst, arith, nat_cmp, false≢true, decisions, table_of, table_after_all, AnswersAreTheTables}
use Rattle.std.specs.FinSet.{contains-empty}
use Rattle.std.proofs.lemmas.List.Elements.{All-nil, All-cons}
use Rattle.law_runs.specs.Worked.{two_agents, revoked, item, the_decisions, SomeRunsDecide}
use Rattle.file_ops.specs.Rows as rows

abbrev known : ℕ × ℕ → Type 0
known rep = rep.0 < 3

in_order : decisions two_agents revoked ≡ the_decisions
in_order = refl

answers : AnswersAreTheTables (rows.opening two_agents) (decisions two_agents revoked)
answers = subst (AnswersAreTheTables (rows.opening two_agents)) (sym in_order) (refl, (refl, (refl, tt)))

tables_audit : (table_of two_agents revoked).audit ≡ item ∷ []
tables_audit = ap (λ ds. (table_after_all (rows.opening two_agents) ds).audit) in_order

pub some_runs_decide : SomeRunsDecide
some_runs_decide = record {
  accepted = record {
    some_servers = (omega arith, omega arith);
    some_agents = (omega arith, omega arith);
    known_servers = All-cons known (0, 1) ((1, 1) ∷ (2, 1) ∷ []) (omega arith) (All-cons known (1, 1) ((2, 1) ∷ []) (omega arith) (All-cons known (2, 1) [] (omega arith) (All-nil known)));
    budget_fits = omega arith;
    quota_fits = omega arith;
    slots_fit = omega arith;
    old_known = λ server there. absurd (false≢true (sym (contains-empty nat_cmp server) ∙ there));
    old_fits = λ server there. absurd (false≢true (sym (contains-empty nat_cmp server) ∙ there));
  };
  ends = refl;
  in_order = in_order;
  audit = refl;
  none_elsewhere = (refl, refl);
  answers = answers;
  tables_audit = tables_audit;
  not_yet = refl;
  now = refl;
  numbers = refl;
}
