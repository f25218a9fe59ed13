-- With valid votes a suite that is gathered was told of, so a lock on it was asked for at its start.
use Rattle.law_agents.proofs.Vocabulary.{◌≡◌, inl, inr, ℕ, ◌<◌, Bool, true, false, List, [], ◌∷◌, ◌++◌, append_assoc, Option, Some, None, refl, sym, ap, subst, ◌∙◌, arith, is_some, option_map, unwrap_or, Contains, false≢true, Contains-append_left}
use Rattle.law_agents.proofs.Vocabulary.{Representative, Configuration, total_votes, IsValid, absent_prefix, Prefix, LockMode, Exclusive, Has, contains_from, Said, Told, has_told, newest, Collector, next, Current, hint, hint_has, has_to}
use Rattle.law_agents.proofs.Vocabulary.{GatheredSuite, known_of, change_of, Job, Fixed, Change, Agent, Event, Take, Forget, next_of, take, begin, forget, is_idle, after_all, Exchange, exchange_of, exchanges, of_job, told_of, has_said, holding}
use Rattle.law_agents.proofs.Vocabulary.{refusing, task_of, IsStart, WasGathered, SetsVotes, IsShort, untold_before, kind_of, told_said, agent_after, VotesAreValid}
use Rattle.file_exec.specs.KnownSuites.{KnownSuite}
use Rattle.file_exec.proofs.Unset.{changes_are_held}
use Rattle.suite_collect.proofs.Sources.{some_needed}
use Rattle.law_agents.specs.Starts.{IsAsked, StartsAreAsked}
use Rattle.file_exec.specs.Known as known
use Rattle.law_agents.proofs.Collectors.{not_current}
use Rattle.law_agents.proofs.Walk.{suite_known}
use Rattle.law_agents.proofs.Ends.{caches_stay_valid}

-- ---- votes of which nobody has any

zero_of : (n : ℕ) → (0 < n → ⊥) → n ≡ 0
zero_of n h1 = search arith

no_total : (reps : List Representative) → ((rep : Representative) → Has reps rep → 0 < rep.1 → ⊥) → total_votes reps ≡ 0
no_total [] none = refl
no_total (rep ∷ reps) none = search (zero_of rep.1 (none rep (inl refl)), no_total reps, arith)

-- ---- nothing was told of a suite

none_said : (past : List Exchange) (suite : ℕ) (kind : LockMode → Said → Bool) (server : ℕ) → told_of suite [] past ≡ [] → has_said past suite kind server ≡ false
none_said past suite kind server none = sym (told_said kind suite server [] past) ∙ ap (λ told. has_told (kind_of kind) told server) none

-- so no quorum of valid votes was told
untold_short : (start : Prefix) (mode : LockMode) (told : List Told) (prefix : Prefix) (dver : ℕ) (members : List ℕ) → IsValid start.votes → told ≡ []
    → next (record { start = start; mode = mode; told = told; widening = None }) ≡ Current prefix dver members → ⊥
untold_short start mode told prefix dver members valid none gave =
    let nothing : Collector = record { start = start; mode = mode; told = []; widening = None } in
    not_current nothing prefix dver members (some_needed mode start.votes valid) (λ server. refl)
    (ap (λ (told : List Told). next (record { start = start; mode = mode; told = told; widening = None })) (sym none) ∙ gave)

-- ---- the exchanges of more events begin with those of fewer

exchanges_more : (fixed : Fixed) (agent : Agent) (before later : List Event) → exchanges fixed agent (before ++ later) ≡ exchanges fixed agent before ++ exchanges fixed (after_all fixed agent before) later
exchanges_more fixed agent [] later = refl
exchanges_more fixed agent (Forget site ∷ before) later = exchanges_more fixed (forget agent site) before later
exchanges_more fixed agent (Take response ∷ before) later =
    let now = (take fixed agent response).agent in
    ap (λ past. exchange_of (next_of fixed agent) response ++ past) (exchanges_more fixed now before later)
    ∙ sym (append_assoc (exchange_of (next_of fixed agent) response) (exchanges fixed now before) (exchanges fixed (after_all fixed now before) later))

module _ (fixed : Fixed) (agent : Agent) (job : Job) (events : List Event) (idle : is_idle agent.doing ≡ true) (valid : VotesAreValid fixed agent (of_job fixed agent job events)) where
  abbrev past : List Exchange
  past = of_job fixed agent job events

  -- the votes that were met up to some moment
  valid_before : (before later : List Event) → events ≡ before ++ later → VotesAreValid fixed agent (of_job fixed agent job before)
  valid_before before later parts = record {
    servers = valid.servers;
    opening = valid.opening;
    cached = valid.cached;
    replied = λ one said there is. valid.replied one said (subst (λ past. Contains past one) (sym whole) (Contains-append_left (of_job fixed agent job before) _ one there)) is;
  }
    where
      whole : past ≡ of_job fixed agent job before ++ exchanges fixed (agent_after fixed agent job before) later
      whole = ap (of_job fixed agent job) parts ∙ exchanges_more fixed (begin fixed agent job) before later

  start_valid : (suite : ℕ) (start : Prefix) → IsStart fixed agent job events suite start → IsValid start.votes
  start_valid suite start is = subst (λ (start : Prefix). IsValid start.votes) (sym is.from) (of (hint now.cache is.site suite) refl)
    where
      now : Agent
      now = agent_after fixed agent job is.before

      of : (found : Option Prefix) → hint now.cache is.site suite ≡ found → IsValid (unwrap_or found (absent_prefix fixed.service.c0)).votes
      of (Some prefix) found =
          let has = hint_has now.cache is.site suite prefix found in
          subst (λ (prefix : Prefix). IsValid prefix.votes) has.3
          (caches_stay_valid fixed agent job is.before has.0 idle (valid_before is.before is.later is.parts) (has_to now.cache has.0 has.1))
      of None found = valid.opening.valid

  -- ---- a suite that was gathered

  gathered_told : (number : ℕ) (suite : GatheredSuite) → WasGathered fixed agent job events number suite → told_of number [] past ≡ [] → ⊥
  gathered_told number suite was none = search (untold_short, start_valid, untold_before, arith)

  gathered_asked : (number : ℕ) (suite : GatheredSuite) (was : WasGathered fixed agent job events number suite) → IsAsked fixed agent job events number was.start was.gathered
  gathered_asked number suite was = elim was.gathered.moment [
    | inl asked ↦ asked
    | inr none ↦ absurd (gathered_told number suite was none)
  ]

  -- ---- a suite of which too few votes were to be had

  set_there : (suite : ℕ) (votes : Configuration) (sets : SetsVotes fixed agent job events suite votes) → (found : GatheredSuite) × WasGathered fixed agent job events suite found
  set_there suite votes sets =
      let task = task_of agent sets.caller sets.site sets.ops in
      let held = changes_are_held fixed.service (known_of sets.suites) task.t task.caller task.ops sets.answers sets.changes suite sets.done (changed (change_of sets.changes suite) sets.are) in
      let there = suite_known sets.suites suite (known_held (known.known_of (known_of sets.suites) suite) held) in
      (there.0, sets.gathered suite there.0 there.1)
    where
      changed : (change : Option Change) → option_map (λ (change : Change). change.row.votes) change ≡ Some votes → is_some change ≡ true
      changed change h1 = search arith

      known_held : (found : Option KnownSuite) → known.is_held Exclusive found ≡ true → is_some found ≡ true
      known_held found h1 = search arith

  short_told : (suite got needed : ℕ) (busy : Option (ℕ × ℕ)) → IsShort fixed agent job events suite got needed busy → told_of suite [] past ≡ [] → ⊥
  short_told suite got needed busy short none = elim short.count [
    | inl counts ↦ too_few (subst IsValid (sym (counts.0 ∙ ap (λ (told : List Told). (newest short.start told).votes) none)) (start_valid suite short.start short.gathered))
    | inr counts ↦ let there = set_there suite short.votes counts.1 in gathered_told suite there.0 there.1 none
  ]
    where
      nobody : (rep : Representative) → Has short.votes.reps rep → 0 < rep.1 → ⊥
      nobody rep has votes = elim (short.none_left rep (contains_from short.votes.reps rep has) votes) [
        | inl holds ↦ false≢true (sym (none_said past suite (holding short.mode) rep.0 none) ∙ holds)
        | inr refuses ↦ false≢true (sym (none_said past suite refusing rep.0 none) ∙ refuses)
      ]

      too_few : IsValid short.votes → ⊥
      too_few votes = search (no_total, nobody, arith)

  short_asked : (suite got needed : ℕ) (busy : Option (ℕ × ℕ)) (short : IsShort fixed agent job events suite got needed busy) → IsAsked fixed agent job events suite short.start short.gathered
  short_asked suite got needed busy short = elim short.gathered.moment [
    | inl asked ↦ asked
    | inr none ↦ absurd (short_told suite got needed busy short none)
  ]

pub starts_are_asked : StartsAreAsked
starts_are_asked = search (short_asked, gathered_asked, arith)
