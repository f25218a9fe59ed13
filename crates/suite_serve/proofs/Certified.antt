-- What was certified is what came of a script's jobs.
use Rattle.suite_serve.proofs.Vocabulary.{◌≡◌, ◌∙◌, ap, arith, refl, sym, subst, ℕ, ◌+◌, List, [], ◌∷◌, length, map, None, begun_by, Played, Item, AgentEntry}
use Rattle.suite_serve.proofs.Vocabulary.{IsCertified, CertifiedIsPromised, TellsOfTime, made_by, JobOutcome, NamedJob, Plan, AreBefore, AreFirst, AreJobEnds}
use Rattle.suite_serve.proofs.Vocabulary.{Came, IsServed, begun_in, end_in, items_in, AreDone, HaveEnded, StandBefore, named_from, transcripts_of, Worked}
use Rattle.suite_serve.specs.Served.{AreApart, AreInOrder}
use Rattle.txn_core.specs.declared.job.Job.{Job}
use Rattle.suite_serve.proofs.Ended.{all_ends, apart_ends, before_ends, first_ends, order_ends}

-- what came of jobs, by the outcomes that a pool gave
abbrev pub came_of : List (List AgentEntry) → List JobOutcome → ℕ → Came
came_of transcripts outcomes steps = record { ends = map (end_in transcripts) outcomes; steps = steps }

begun_same : (players : List Played) → begun_in (transcripts_of players) ≡ begun_by players
begun_same [] = refl
begun_same (p ∷ players) = let e = begun_same players in omega arith

named_long : (number : ℕ) (jobs : List Job) → length (named_from number jobs) ≡ length jobs
named_long number [] = refl
named_long number (job ∷ jobs) = let e = named_long (number + 1) jobs in omega arith

pub is_served : (plan : Plan) (came : Came) (histories : List (List Item)) (transcripts : List (List AgentEntry)) (jobs : List NamedJob) (worked : Worked)
    → IsCertified plan.settings histories transcripts → CertifiedIsPromised plan.settings histories transcripts → TellsOfTime plan.settings histories transcripts
    → made_by None histories ≡ 0 → jobs ≡ named_from 0 plan.jobs → transcripts ≡ transcripts_of worked.agents.items → AreDone jobs plan.alone worked
    → came ≡ came_of transcripts worked.outcomes.items (items_in histories) → IsServed plan came
is_served plan came histories transcripts jobs worked certified promised time quiet named told done is =
    let players = worked.agents.items in
    let outcomes = worked.outcomes.items in
    let ended : HaveEnded players (named_from 0 plan.jobs) outcomes = subst (λ (js : List NamedJob). HaveEnded players js outcomes) named done.each in
    let each = all_ends players done.numbered 0 plan.jobs outcomes ended in
    let apart = apart_ends players done.numbered jobs outcomes done.each done.apart in
    let first = first_ends players done.numbered plan.alone jobs outcomes done.each done.first in
    let order = order_ends players done.numbered jobs outcomes done.each done.order in
    record {
      histories = histories;
      transcripts = transcripts;
      certified = certified;
      promised = promised;
      time = time;
      quiet = quiet;
      each =
          subst (λ (all : Came). AreJobEnds transcripts 0 plan.jobs all.ends) (sym is)
          (subst (λ (ts : List (List AgentEntry)). AreJobEnds ts 0 plan.jobs (map (end_in ts) outcomes)) (sym told) each);
      apart = subst (λ (all : Came). AreApart all.ends) (sym is) (subst (λ (ts : List (List AgentEntry)). AreApart (map (end_in ts) outcomes)) (sym told) apart);
      alone = subst (λ (all : Came). AreFirst plan.alone all.ends) (sym is) (subst (λ (ts : List (List AgentEntry)). AreFirst plan.alone (map (end_in ts) outcomes)) (sym told) first);
      before =
          subst (λ (all : Came). AreBefore plan.alone all.ends transcripts) (sym is)
          (before_ends plan.alone outcomes transcripts done.first (subst (λ (ts : List (List AgentEntry)). StandBefore plan.alone outcomes ts) (sym told) done.before));
      once = ap begun_in told ∙ begun_same players ∙ done.once ∙ ap length named ∙ named_long 0 plan.jobs;
      order = subst (λ (all : Came). AreInOrder all.ends) (sym is) (subst (λ (ts : List (List AgentEntry)). AreInOrder (map (end_in ts) outcomes)) (sym told) order);
      steps = ap (λ (all : Came). all.steps) is;
    }
