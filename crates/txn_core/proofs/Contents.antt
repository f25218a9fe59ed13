-- Which contents are to be had: without asking, or as a server gave them.
use Rattle.txn_core.proofs.Vocabulary.{◌≡◌, ℕ, zero, suc, Bool, true, false, cond, ◌⊎◌, inl, inr, List, [], ◌∷◌, ◌++◌, Option, Some, None, refl, sym, ap, subst, ◌∙◌, ◌==◌, Contains, same_Some, append-nil, append_assoc, arith, Contains-append_left}
use Rattle.txn_core.proofs.Vocabulary.{Contains-push, Content, empty_content, held_by, Request, Reply, Cache, content_at, searched, search_keeps_all, ReadPoint, GatheredSuite, suite_of, Response, Replied, Lacked, Job, Fixed, Task, Executes, Point}
use Rattle.txn_core.proofs.Vocabulary.{point, Move, MovesTo, Step, Gathered, opened, or_all, open_needed, open_suite, open_first, opened_with, free_content, after_search, heard_on, execute, Agent, Event, begin, after_all, Exchange, of_job}
use Rattle.txn_core.proofs.Vocabulary.{IsContentOf, Outcome as Executed}
use Rattle.rep_core.specs.declared.request.Request.TheVariants as request
use Rattle.rep_core.specs.declared.reply.Reply.TheVariants as reply
use Rattle.txn_core.proofs.Moving.{kept, execute_moves}
use Rattle.txn_core.proofs.Gathers.{Each, each_but, each_with}
use Rattle.txn_core.proofs.Cached.{ends_same}

-- ---- a search keeps what is found

searched_finds : (task : Task) (cache : Cache) (other : ℕ) (first : ReadPoint) (number dver : ℕ) → content_at (after_search task cache other first) task.site number dver ≡ content_at cache task.site number dver
searched_finds task cache other first number dver = of (first.dver == 0)
  where
    of : (b : Bool) → content_at (cond b cache (searched task.site other first.dver cache)) task.site number dver ≡ content_at cache task.site number dver
    of true = refl
    of false = search_keeps_all.content task.site other first.dver task.site number dver cache

move_finds : (fixed : Fixed) (task : Task) (number dver : ℕ) {at next : Point} → Move fixed task at next → content_at next.cache task.site number dver ≡ content_at at.cache task.site number dver
move_finds fixed task number dver h4 = search (searched_finds, arith)

moves_find : (fixed : Fixed) (task : Task) (at : Point) (step : Step) → MovesTo fixed task at step → (number dver : ℕ) → content_at step.cache task.site number dver ≡ content_at at.cache task.site number dver
moves_find fixed task at step moves number dver =
    ap (λ cache. content_at cache task.site number dver) (ends_same task moves.end step moves.ends)
    ∙ kept fixed task (λ now. content_at now.cache task.site number dver ≡ content_at at.cache task.site number dver) (λ at next move before. move_finds fixed task number dver move ∙ before) moves.moves refl

-- ---- contents that are opened

-- a content that is to be had without asking
abbrev pub Free : Task → Cache → ReadPoint → ℕ → Content → Type 0
Free task cache first number content = ((first.dver ≡ 0) × (content ≡ empty_content (held_by first.prefix.kind))) ⊎ (content_at cache task.site number first.dver ≡ Some content)

pub free_is : (task : Task) (cache : Cache) (number : ℕ) (first : ReadPoint) (content : Content) → free_content task cache number first ≡ Some content → Free task cache first number content
free_is task cache number first content is = search arith

-- contents are opened as they are found from the start on
pub each_opened : (start : Cache) (task : Task) (K : ℕ → GatheredSuite → Type 0)
    → ((number : ℕ) (suite : GatheredSuite) (first : ReadPoint) (content : Content) → suite.first ≡ Some first → Free task start first number content → K number suite → K number (record suite { content = Some content }))
    → (n : ℕ) (fixed : Fixed) (all : Gathered) → ((number dver : ℕ) → content_at all.cache task.site number dver ≡ content_at start task.site number dver) → Each K all.suites → Each K (opened n fixed task all).suites
each_opened start task K opening zero fixed all same each = each
each_opened start task K opening (suc n) fixed all same each = of (heard_on fixed task all.suites) (λ more same each. each_opened start task K opening n fixed more same each)
  where
    or' : (found : Option Gathered)
        → ((more : Gathered) → found ≡ Some more → ((number dver : ℕ) → content_at more.cache task.site number dver ≡ content_at start task.site number dver) × Each K more.suites)
        → ((more : Gathered) → ((number dver : ℕ) → content_at more.cache task.site number dver ≡ content_at start task.site number dver) → Each K more.suites → Each K (opened n fixed task more).suites)
        → Each K (or_all all found (λ all. opened n fixed task all)).suites
    or' found h1 h2 = search arith

    back : (first : ReadPoint) (number : ℕ) (content : Content) → Free task all.cache first number content → Free task start first number content
    back first number content h3 = search arith

    with_content : (number : ℕ) (suite : GatheredSuite) (first : ReadPoint) (content : Option Content) (more : Gathered) → suite_of all.suites number ≡ Some suite
        → suite.first ≡ Some first → free_content task all.cache number first ≡ content
        → opened_with task all number suite first content ≡ Some more → ((number dver : ℕ) → content_at more.cache task.site number dver ≡ content_at start task.site number dver) × Each K more.suites
    with_content number suite first (Some content) more there was given is =
        subst (λ (more : Gathered). ((number dver : ℕ) → content_at more.cache task.site number dver ≡ content_at start task.site number dver) × Each K more.suites) (same_Some _ more is) (
          λ other dver. searched_finds task all.cache number first other dver ∙ same other dver,
          each_with K number all.suites (record suite { content = Some content }) (each_but K number all.suites each)
              (opening number suite first content was (back first number content (free_is task all.cache number first content given)) (each number suite there)),
        )
    with_content number suite first None more there was given is = cc

    at_first : (number : ℕ) (suite : GatheredSuite) (first : Option ReadPoint) (more : Gathered) → suite_of all.suites number ≡ Some suite → suite.first ≡ first → open_first task all number suite first ≡ Some more
        → ((number dver : ℕ) → content_at more.cache task.site number dver ≡ content_at start task.site number dver) × Each K more.suites
    at_first number suite first more h4 h5 h6 = search (with_content, arith)

    at_suite : (number : ℕ) (found : Option GatheredSuite) (more : Gathered) → suite_of all.suites number ≡ found → open_suite task all number found ≡ Some more
        → ((number dver : ℕ) → content_at more.cache task.site number dver ≡ content_at start task.site number dver) × Each K more.suites
    at_suite number found more h3 h4 = search (at_first, arith)

    needed' : (heard : Executed) (more : Gathered) → open_needed task all heard ≡ Some more → ((number dver : ℕ) → content_at more.cache task.site number dver ≡ content_at start task.site number dver) × Each K more.suites
    needed' heard more h2 = search (at_suite, arith)

    of : (heard : Executed)
        → ((more : Gathered) → ((number dver : ℕ) → content_at more.cache task.site number dver ≡ content_at start task.site number dver) → Each K more.suites → Each K (opened n fixed task more).suites)
        → Each K (or_all all (open_needed task all heard) (λ all. opened n fixed task all)).suites
    of heard later = or' (open_needed task all heard) (needed' heard) later

-- all that is to be had without asking is so
abbrev pub FreeIn : (ℕ → ReadPoint → Content → Type 0) → Task → Cache → Type 0
FreeIn C task cache = (number : ℕ) (first : ReadPoint) (content : Content) → Free task cache first number content → C number first content

-- so it is where the same is found
free_same : (C : ℕ → ReadPoint → Content → Type 0) (task : Task) (cache other : Cache) → ((number dver : ℕ) → content_at other task.site number dver ≡ content_at cache task.site number dver) → FreeIn C task cache → FreeIn C task other
free_same h0 task cache other h4 h5 h6 h7 h8 h9 = search arith

-- moves leave what is found as it was
pub free_start : (C : ℕ → ReadPoint → Content → Type 0) (fixed : Fixed) (task : Task) (at : Point) (step : Step) → MovesTo fixed task at step → FreeIn C task step.cache → FreeIn C task at.cache
free_start C fixed task at step moves free = free_same C task step.cache at.cache (λ number dver. sym (moves_find fixed task at step moves number dver)) free

pub free_next : (C : ℕ → ReadPoint → Content → Type 0) (fixed : Fixed) (task : Task) {at next : Point} → Move fixed task at next → FreeIn C task at.cache → FreeIn C task next.cache
free_next C fixed task {at = at} {next = next} move free = free_same C task at.cache next.cache (λ number dver. move_finds fixed task number dver move) free

pub free_before : (C : ℕ → ReadPoint → Content → Type 0) (fixed : Fixed) (task : Task) (all : Gathered) → FreeIn C task (execute fixed task all).cache → FreeIn C task all.cache
free_before C fixed task all free = free_start C fixed task (point Executes all.cache all.suites) (execute fixed task all) (execute_moves fixed task all) free

-- ---- contents that are given

-- what a Given told
abbrev pub GivenTo : (ℕ → ReadPoint → Content → Type 0) → Task → ℕ → Request → Reply → Type 0
GivenTo C task server asked said = (number : ℕ) (first : ReadPoint) (content : Content) (dver : ℕ) → server ≡ first.source → asked ≡ request.Fetch task.t number → said ≡ reply.Given dver content → C number first content

abbrev pub GivenIn : (ℕ → ReadPoint → Content → Type 0) → Task → ℕ → Request → Response → Type 0
GivenIn C task server asked (Replied said) = GivenTo C task server asked said
GivenIn C task server asked (Lacked lacked) = Unit {0}

-- ---- after each event

module _ (fixed : Fixed) (agent : Agent) (job : Job) where
  abbrev pub Content_of : List Event → ℕ → ℕ → ReadPoint → Content → Type 0
  Content_of events site number first content = IsContentOf fixed agent job events site number first content

  -- what is so stays so
  pub content_more : (events : List Event) (event : Event) (one : List Exchange) → of_job fixed agent job (events ++ event ∷ []) ≡ of_job fixed agent job events ++ one → (site number : ℕ) (first : ReadPoint) (content : Content)
      → Content_of events site number first content → Content_of (events ++ event ∷ []) site number first content
  content_more events event one told site number first content (inl none) = inl none
  content_more events event one told site number first content (inr (inl cached)) = search (append_assoc, arith)
  content_more events event one told site number first content (inr (inr given)) = inr (inr (record {
    t = given.t;
    dver = given.dver;
    there = subst (λ past. Contains past (record { server = first.source; request = request.Fetch given.t number; response = Replied (reply.Given given.dver content) })) (sym told)
        (Contains-append_left (of_job fixed agent job events) one _ given.there);
  }))

  -- what is found in the cache after an event
  pub free_now : (events : List Event) (task : Task) (cache : Cache) → (after_all fixed (begin fixed agent job) events).cache ≡ cache → FreeIn (Content_of events task.site) task cache
  free_now events task cache h3 h4 h5 h6 h7 = search (append-nil, arith)

  -- what was given is so once it was told
  pub given_now : (events more : List Event) (task : Task) (server : ℕ) (asked : Request) (heard : Response) → of_job fixed agent job more ≡ of_job fixed agent job events ++ record { server = server; request = asked; response = heard } ∷ []
      → GivenIn (Content_of more task.site) task server asked heard
  given_now events more task server asked (Lacked lacked) told = tt
  given_now events more task server asked (Replied said) told = λ number first content dver at what says.
      let with' : ℕ → Request → Reply → Exchange = λ server asked said. record { server = server; request = asked; response = Replied said } in
      let same : with' server asked said ≡ with' first.source (request.Fetch task.t number) (reply.Given dver content) =
      ap (λ server. with' server asked said) at ∙ ap (λ asked. with' first.source asked said) what ∙ ap (with' first.source (request.Fetch task.t number)) says in
      let there : Contains (of_job fixed agent job events ++ with' server asked said ∷ []) (with' server asked said) = Contains-push (of_job fixed agent job events) (with' server asked said) in
      inr (inr (record {
        t = task.t;
        dver = dver;
        there = subst (Contains (of_job fixed agent job more)) same (subst (λ past. Contains past (with' server asked said)) (sym told) there);
      }))
