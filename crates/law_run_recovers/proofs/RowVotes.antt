-- The votes that the rows of a run's table have, and those that a transaction sets on it, are valid and list servers that there are.
use Rattle.law_run_recovers.proofs.Vocabulary.{◌≡◌, ⊎_elim, ℕ, ◌<◌, Bool, true, false, cond, List, [], ◌∷◌, All, Option, Some, None, Result, Ok, Err, refl, sym, ap, subst, ◌∙◌, arith, ◌==◌, ◌||◌, nat_le, list_any, option_map, map, filter}
use Rattle.law_run_recovers.proofs.Vocabulary.{AllByRecursion, nat_cmp, insert, nat_cmp_total, false≢true, eqb-true, eq-eqb, nat_tests, none-some, same_Some, Identity, Representative, Configuration, IsValid, Opening, Prefix, Exclusive, Answer, Op}
use Rattle.law_run_recovers.proofs.Vocabulary.{Refusal, PlainTable, Service, Row, Rows, row_of, Change, Edit, Need, Hold, Know, some, makes, sets_acl, sets_votes, Edits, Ended, seen, is_set, needs, ending, transaction, on_transaction, Has, has_any}
use Rattle.law_run_recovers.proofs.Vocabulary.{has_filter, has_map, Event, Decided, decisions, table_of, table_after_all, WasPrefix, beginning, machine_of, CanBe, all_keep, change_in, changes_on, votes_set, votes_of_row, fixed_of, listed}
use Rattle.law_run_recovers.proofs.Vocabulary.{All-from_recursion, changed, KnownSuite, get-insert, Played, table_after, table_with, played_on, AllGiveValidVotes, listed}
use Rattle.file_exec.proofs.Alike.{goes_alike}
use Rattle.law_suite_machine.proofs.Rows.{none_or_some}
use Rattle.std.specs.Cmp.{unsigned_tied}
use Rattle.file_exec.proofs.StepOnTable.{row_of-with_edits}
use Rattle.file_exec.specs.Known.{known_of, is_met, Known, known_rows, Done, heard, exec_of, first_unmet, AgreesWith, on_table}
use Rattle.law_agents.proofs.Courses.{Sets, AllSet, edits_set}
use Rattle.law_headline.proofs.Editing.{FitsRow, AllFit, edits_fit}
use Rattle.file_ops.specs.Rows as rows
use Rattle.file_ops.specs.Transactions as plain
use Rattle.law_one_table.proofs.Versions as versions

-- ---- on a table a transaction sets what an executor sets that knows all that it needs

abbrev suite_in : Need → ℕ
suite_in (Hold suite mode) = suite
suite_in (Know suite) = suite

abbrev whole : Option Row → KnownSuite
whole row = record { mode = Exclusive; row = row; opened = true }

pub all_known : (ℕ → Option Row) → List Need → Known
all_known rows [] = []
all_known rows (need ∷ needed) = insert nat_cmp (all_known rows needed) (suite_in need) (whole (rows (suite_in need)))

known_with : (known : Known) (key : ℕ) (value : KnownSuite) (z : ℕ) → known_of (insert nat_cmp known key value) z ≡ cond (key == z) (Some value) (known_of known z)
known_with known key value z = get-insert nat_cmp_total known key value z ∙ ap (λ b. cond b (Some value) (known_of known z)) (unsigned_tied key z)

all_agree : (rows : ℕ → Option Row) (needed : List Need) → AgreesWith (all_known rows needed) rows
unfolding all_known
all_agree rows [] z = tt
all_agree rows (need ∷ needed) z = search (known_with, all_known, eqb-true, all_agree rows needed z, arith)

there_whole : (rows : ℕ → Option Row) (needed : List Need) (z : ℕ) → list_any (λ need. suite_in need == z) needed ≡ true → known_of (all_known rows needed) z ≡ Some (whole (rows z))
unfolding all_known
there_whole rows [] z is = absurd (false≢true is)
there_whole rows (need ∷ needed) z is = search (known_with, all_known, eqb-true, there_whole rows needed z, arith)

is_met_so : (rows : ℕ → Option Row) (needed : List Need) (need : Need) → list_any (λ other. suite_in other == suite_in need) needed ≡ true → is_met (all_known rows needed) need ≡ true
is_met_so rows needed need h3 = search (there_whole, arith)

any_has' : (needed : List Need) (need : Need) → Has needed need → list_any (λ other. suite_in other == suite_in need) needed ≡ true
any_has' needed need has = has_any (λ other. suite_in other == suite_in need) needed need has (eq-eqb (suite_in need) (suite_in need) refl)

none_unmet : (known : Known) (needed : List Need) → ((need : Need) → Has needed need → is_met known need ≡ true) → first_unmet known needed ≡ None
none_unmet known [] all = refl
none_unmet known (need ∷ needed) all = search (none_unmet known needed, arith)

module _ (service : Service) (rows : Rows) (t : ℕ) (caller : Identity) (ops : List Op) where
  abbrev needed : List Need
  needed = needs (row_of rows) [] (transaction service t caller ops)

  abbrev pub knows_all : Known
  knows_all = all_known (row_of rows) (needs (row_of rows) [] (transaction service t caller ops))

  pub done_is : exec_of service knows_all t caller ops ≡ Done (ending (row_of rows) [] (transaction service t caller ops))
  done_is =
      goes_alike knows_all (row_of rows) (all_agree (row_of rows) needed) [] (λ _ set. cc) (transaction service t caller ops)
      ∙ ap (λ need. heard need (ending (row_of rows) [] (transaction service t caller ops)))
      (none_unmet knows_all needed (λ need has. is_met_so (row_of rows) needed need (any_has' needed need has)))

-- ---- votes of edits

module _ (W : Configuration → Type 0) where
  abbrev pub AreIn : Option Row → Type 0
  AreIn row = (r : Row) → row ≡ Some r → W r.votes

  changed_in : (e : Edit) (row : Option Row) → Sets W e → (sets_votes e ≡ false → AreIn row) → AreIn (changed e row)
  changed_in e row h2 h3 h4 h5 = search arith

  -- where some edit sets them, or where they are so before
  seen_in : (found : ℕ → Option Row) (edits : Edits) (z : ℕ) → AllSet W edits → (some sets_votes edits z ≡ false → AreIn (found z)) → AreIn (seen edits z (found z))
  seen_in found [] z all before = before refl
  seen_in found (e ∷ edits) z all before = search (changed_in, seen_in found edits z, arith)

-- ---- on a table

module _ (W : Configuration → Type 0) (table : PlainTable) (t : ℕ) (caller : Identity) (ops : List Op) where
  abbrev result : Result (Ended (List Answer)) Refusal
  result = ending (row_of table.rows) [] (transaction table.service t caller ops)

  abbrev pub SetSo : Type 0
  SetSo = (ended : Ended (List Answer)) → ending (row_of table.rows) [] (transaction table.service t caller ops) ≡ Ok ended → AllSet W ended.edits

  pub set_so : SetSo → (set : ℕ × Configuration) → Has (votes_set table t caller ops) set → W set.1
  set_so so set has = of result refl has
    where
      of : (found : Result (Ended (List Answer)) Refusal) → result ≡ found
          → Has (map (λ (one : ℕ × Change). (one.0, one.1.row.votes)) (filter (λ (one : ℕ × Change). one.1.votes) (changes_on table.rows found))) set → W set.1
      of (Err refusal) is has = absurd has
      of (Ok ended) is has =
          let from = has_map (λ (one : ℕ × Change). (one.0, one.1.row.votes)) (filter (λ (one : ℕ × Change). one.1.votes) (changes_on table.rows (Ok ended))) set has in
          let there = has_filter (λ (one : ℕ × Change). one.1.votes) (changes_on table.rows (Ok ended)) from.0 from.1 in
          let change = listed (change_in table.rows ended.edits) ended.edits from.0 there.0 in
          subst W (ap (λ (one : ℕ × Configuration). one.1) from.2) (by ended is from.0.0 from.0.1 there.1 (seen ended.edits from.0.0 (row_of table.rows from.0.0)) refl change)
        where
          by : (ended : Ended (List Answer)) → result ≡ Ok ended → (z : ℕ) (change : Change) → change.votes ≡ true → (row : Option Row) → seen ended.edits z (row_of table.rows z) ≡ row
              → option_map (λ (row : Row). record { made = some makes ended.edits z; acl = some sets_acl ended.edits z; votes = some sets_votes ended.edits z; content = is_set ended.edits z; row = row }) row ≡ Some change → W change.row.votes
          by ended is z change votes None there same = absurd (none-some change same)
          by ended is z change votes (Some row) there same =
              let at = same_Some _ change same in
              subst W (ap (λ (change : Change). change.row.votes) at)
              (seen_in W (row_of table.rows) ended.edits z (so ended is) (λ none. absurd (false≢true (sym none ∙ ap (λ (change : Change). change.votes) at ∙ votes))) row there)

  -- and so are the rows' after it
  pub rows_after : SetSo → ((z : ℕ) → AreIn W (row_of table.rows z)) → (z : ℕ) → AreIn W (row_of (table_after table t caller (plain.transaction table.service table.rows t caller ops)).rows z)
  rows_after so before z =
      subst (λ played. AreIn W (row_of (table_after table t caller played).rows z)) (on_transaction table.service table.rows t caller ops) (of result refl)
    where
      of : (found : Result (Ended (List Answer)) Refusal) → result ≡ found → AreIn W (row_of (table_after table t caller (on_table table.rows found)).rows z)
      of (Err refusal) is = before z
      of (Ok ended) is = λ r there. seen_in W (row_of table.rows) ended.edits z (so ended is) (λ none. before z) r (sym (row_of-with_edits table.rows ended.edits z) ∙ there)

-- ---- servers that there are

abbrev pub ListsKnown : ℕ → Configuration → Type 0
ListsKnown servers votes = All (λ (rep : Representative). rep.0 < servers) votes.reps

known_by : (servers : ℕ) (votes : Configuration) → list_any (λ (rep : Representative). nat_le servers rep.0) votes.reps ≡ false → ListsKnown servers votes
known_by servers votes none = All-from_recursion (λ (rep : Representative). rep.0 < servers) votes.reps (go votes.reps none)
  where
    below : (a b : ℕ) → nat_le a b ≡ false → b < a
    below a b is = grind (arith, nat_tests)

    both : (a b : Bool) → (a || b) ≡ false → (a ≡ false) × (b ≡ false)
    both a b h2 = search (false≢true, arith)

    go : (reps : List Representative) → list_any (λ (rep : Representative). nat_le servers rep.0) reps ≡ false → AllByRecursion (λ (rep : Representative). rep.0 < servers) reps
    go [] none = tt
    go (rep ∷ reps) none = let parts = both (nat_le servers rep.0) _ none in (below servers rep.0 parts.0, go reps parts.1)

-- where it ends well on the table the executor is done so
module _ (table : PlainTable) (t : ℕ) (caller : Identity) (ops : List Op) (ended : Ended (List Answer)) (is : ending (row_of table.rows) [] (transaction table.service t caller ops) ≡ Ok ended) where
  done_so : exec_of table.service (knows_all table.service table.rows t caller ops) t caller ops ≡ Done (Ok ended)
  done_so = done_is table.service table.rows t caller ops ∙ ap (λ found. Done found) is

pub sets_known : (table : PlainTable) (t : ℕ) (caller : Identity) (ops : List Op) → ListsKnown table.service.servers table.service.c0 → SetSo (ListsKnown table.service.servers) table t caller ops
sets_known table t caller ops c0 ended is = search (edits_set, known_by, done_so, arith)

pub sets_valid : (table : PlainTable) (t : ℕ) (caller : Identity) (ops : List Op) → IsValid table.service.c0 → AllGiveValidVotes ops → SetSo IsValid table t caller ops
sets_valid table t caller ops c0 valid ended is =
    go ended.edits (edits_fit table.service (knows_all table.service table.rows t caller ops) t caller ops ended c0 valid (done_so table t caller ops ended is))
  where
    known : ℕ → Option Row
    known = known_rows (knows_all table.service table.rows t caller ops)

    one : (e : Edit) (row : Option Row) → FitsRow e row → Sets IsValid e
    one e row h2 = search arith

    go : (edits : Edits) → AllFit known edits → AllSet IsValid edits
    go [] all = tt
    go (e ∷ edits) all = (one e.1 (seen edits e.0 (known e.0)) all.0, go edits all.1)

-- ---- in a run

module _ (given : Opening) (opening_known : ListsKnown given.servers given.c0) where
  -- a table of this service, whose rows have such votes
  record IsSo' (table : PlainTable) : Type 0 where
    service : table.service ≡ (rows.opening given).service
    rows : (z : ℕ) → AreIn (ListsKnown given.servers) (row_of table.rows z)

  next_so : (table : PlainTable) (one : Decided) → IsSo' table → IsSo' (table_with table one)
  next_so table one so = record {
    service = of (played_on table one) ∙ so.service;
    rows = rows_after (ListsKnown given.servers) table one.t one.caller one.ops
        (subst (λ service. SetSo (ListsKnown service.servers) table one.t one.caller one.ops) so.service
        (sets_known table one.t one.caller one.ops (subst (λ service. ListsKnown service.servers service.c0) (sym so.service) opening_known))) so.rows;
  }
    where
      of : (played : Result Played Refusal) → (table_after table one.t one.caller played).service ≡ table.service
      of played = search arith

  all_so : (ds : List Decided) (table : PlainTable) → IsSo' table → IsSo' (table_after_all table ds)
  all_so [] table so = so
  all_so (one ∷ ds) table so = all_so ds (table_with table one) (next_so table one so)

  first_so : IsSo' (rows.opening given)
  first_so = search arith

  pub table_known : (events : List Event) (z : ℕ) → AreIn (ListsKnown given.servers) (row_of (table_of given events).rows z)
  table_known events = (all_so (decisions given events) (rows.opening given) first_so).rows

  pub row_known : (events : List Event) (z : ℕ) → ListsKnown given.servers (votes_of_row (fixed_of given) (row_of (table_of given events).rows z))
  row_known events z = of (row_of (table_of given events).rows z) refl
    where
      of : (found : Option Row) → row_of (table_of given events).rows z ≡ found → ListsKnown given.servers (votes_of_row (fixed_of given) found)
      of found h1 = search (table_known, arith)

  -- each prefix that a suite had
  pub prefix_known : (events : List Event) → CanBe given events → (z : ℕ) (prefix : Prefix) → WasPrefix (beginning z given) (machine_of given z events).log prefix → ListsKnown given.servers prefix.votes
  prefix_known events can z prefix was =
      let had = versions.prefix_was given events (all_keep given events can) z prefix was in
      ⊎_elim
      (λ never. subst (λ (prefix : Prefix). ListsKnown given.servers prefix.votes) (sym (had.never never)) opening_known)
      (λ some. let row' = had.had some in subst (ListsKnown given.servers) (sym (row'.is.1.votes)) (table_known row'.before z row'.row row'.there))
      (none_or_some prefix.pver)
