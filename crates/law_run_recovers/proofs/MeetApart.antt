-- Of two that meet no two locks that clash stand at one server: what one was granted stands as long as it is at work, and keeps out the other.
use Rattle.law_run_recovers.proofs.Vocabulary.{◌≡◌, ⊎_elim, ℕ, true, false, List, [], ◌∷◌, ◌++◌, append_assoc, Some, None, is_some, refl, sym, ap, subst, ◌∙◌, ◌==◌, slice_get, false≢true, eqb-true, eq-eqb, same_Some, Opening, arith, LockMode, serves}
use Rattle.law_run_recovers.proofs.Vocabulary.{Request, Stamped, in_the_way, State, served, answer_of, mode_of, Transaction, fixed_of, next_of, Served, Event, Begin, Step, Actor, World, server_at, actor_at, step, run, puts_in, CanBe, clashes, Begun}
use Rattle.law_run_recovers.proofs.Vocabulary.{locks_in, locks_at, begun_world, world_after, serves_itself}
use Rattle.law_run_recovers.proofs.AmongCourse.{tail_or}
use Rattle.law_run_recovers.proofs.Keeps.{IsAtWork, step_asks}
use Rattle.law_run_recovers.proofs.Sides.{compared, names_one}
use Rattle.law_run_recovers.proofs.StepsServed.{OwnTook, own_took}
use Rattle.law_run_recovers.proofs.MeetBoth.{Place, place, its_event, held_in, world_in, in_part, cancel, agent_in}
use Rattle.law_run_recovers.proofs.MeetCalm.{Calm, IsOurs, up_at}
use Rattle.law_run_recovers.proofs.MeetCount.{clash_wider}
use Rattle.law_run_recovers.proofs.MeetEnds.{Fixed}
use Rattle.law_run_recovers.proofs.MeetLocks.{HasMode, Granted, granted, keeps_out, keeps_to}
use Rattle.law_run_recovers.proofs.MeetQuiet.{GoesQuietly, next_is}
use Rattle.law_run_recovers.proofs.MeetRun.{its_actor, goes_of, run_is}
use Rattle.law_run_recovers.proofs.MeetTold.{for_lock, for_lock_named, says_held, grants, some_step, Found, found_in, there_in, serves_over, four}

-- whichever of two it is, they clash
pub clashes_back : (y : ℕ) (a b : LockMode) → clashes (y, a) (y, b) ≡ true → clashes (y, b) (y, a) ≡ true
clashes_back y a b h3 = search arith

-- ---- what was granted

module _ (given : Opening) (events part : List Event) {still : ℕ → Type 0} (calm : Calm given events part still) (agent t y : ℕ) (mode : LockMode) (server : ℕ) where
  -- the step in which it was
  pub record Got : Type 0 where
    pub front : List Event
    pub back : List Event
    pub parts : part ≡ front ++ Step agent ∷ back
    pub what : Served
    pub served : (step (fixed_of given) (run given (events ++ front)) (Step agent)).done.served ≡ Some what
    pub lock : for_lock t y what.request.value ≡ true
    pub st : State
    pub at : server_at (run given (events ++ front)) server ≡ Some st
    pub free : in_the_way t y (mode_of what.request.value) st.locks ≡ None
    pub strong : serves (mode_of what.request.value) mode ≡ true
    pub has : HasMode t y mode (locks_at (step (fixed_of given) (run given (events ++ front)) (Step agent)).world server)

  pub got : held_in given events part agent t y mode server ≡ true → Got
  got is = record {
    front = f.front;
    back = f.back;
    parts = f.parts;
    what = f.what;
    served = served';
    lock = facts.1;
    st = took.st;
    at = ap (server_at w) (sym same_server) ∙ took.at;
    free = subst (λ (asked : Request). in_the_way t y (mode_of asked) took.st.locks ≡ None) asked_is g.free;
    strong = facts.3;
    has = subst (λ s. HasMode t y mode (locks_at (step (fixed_of given) w (Step agent)).world s)) same_server
        (subst (λ servers. HasMode t y mode (locks_in (slice_get servers took.asked.0))) (sym took.servers)
        (subst (λ found. HasMode t y mode (locks_in found)) (sym (puts_in w.servers took.asked.0 took.st (served took.st stamped) took.at).here) wide));
  }
    where
      f : Found (grants t y mode server) agent (fixed_of given) (run given events) part
      f = found_in (grants t y mode server) agent (fixed_of given) (run given events) part is

      w : World
      w = run given (events ++ f.front)

      served' : (step (fixed_of given) (run given (events ++ f.front)) (Step agent)).done.served ≡ Some f.what
      served' = ap (λ w. (step (fixed_of given) w (Step agent)).done.served) (sym (world_in given events f.front)) ∙ f.served

      facts : ((f.what.server == server) ≡ true) × (for_lock t y f.what.request.value ≡ true) × (says_held f.what.reply.value ≡ true) × (serves (mode_of f.what.request.value) mode ≡ true)
      facts = four (f.what.server == server) (for_lock t y f.what.request.value) (says_held f.what.reply.value) (serves (mode_of f.what.request.value) mode) f.is

      asks : (here : Actor) × (actor_at (run given (events ++ f.front)) agent ≡ Some here) × (next_of (fixed_of given) here.agent ≡ Some (f.what.server, f.what.request.value))
      asks = step_asks (fixed_of given) w agent (actor_at w agent) f.what served'

      took : OwnTook (fixed_of given) (run given (events ++ f.front)) agent asks.0 asks.1 (step (fixed_of given) (run given (events ++ f.front)) (Step agent))
      took = own_took (fixed_of given) w agent asks.0 asks.1 (ap is_some served')

      stamped : Stamped Request
      stamped = record { stamp = asks.0.stamp; value = took.asked.1 }

      said : Served
      said = record { server = took.asked.0; request = stamped; reply = answer_of took.st stamped }

      same : said ≡ f.what
      same = same_Some said f.what (sym took.done ∙ served')

      asked_is : took.asked.1 ≡ f.what.request.value
      asked_is = ap (λ (what : Served). what.request.value) same

      same_server : took.asked.0 ≡ server
      same_server = ap (λ (what : Served). what.server) same ∙ eqb-true f.what.server server facts.0

      g : Granted t y took.st took.asked.1
      g = granted t y took.st took.asked.1 (up_at given events part calm.fair f.front (Step agent ∷ f.back) f.parts took.asked.0 took.st took.at)
          (ap (for_lock t y) asked_is ∙ facts.1) (ap (λ (what : Served). says_held what.reply.value) same ∙ facts.2)

      wide : HasMode t y mode (served took.st stamped).locks
      wide = record {
        lock = g.has.lock;
        has = g.has.has;
        own = g.has.own;
        strong = serves_over g.has.lock.mode (mode_of took.asked.1) mode g.has.strong (subst (λ asked. serves (mode_of asked) mode ≡ true) (sym asked_is) facts.3);
      }

-- ---- both

module _ (given : Opening) (events later : List Event) (one other : Begun given events later) (can : CanBe given (events ++ later))
    (part rest : List Event) (whole : later ≡ part ++ rest) {still : ℕ → Type 0} (calm : Calm given events part still) where
  -- a part of the run in which it is at work to the end
  pub record Room (who : Begun given events later) : Type 0 where
    pub fixed : Fixed given events later who
    pub more : List Event
    pub room : who.before ++ Begin who.agent (Transaction who.caller who.site who.ops) ∷ fixed.front ≡ part ++ more
    pub ours : IsOurs given events part still who.agent who.t who.caller who.ops

  -- what it was granted there it was granted since its begin, while it was at work
  module _ (who : Begun given events later) (room : Room who) (y server : ℕ) (a : LockMode) (is : held_in given events part who.agent who.t y a server ≡ true) where
    f : Found (grants who.t y a server) who.agent (fixed_of given) (run given events) part
    f = found_in (grants who.t y a server) who.agent (fixed_of given) (run given events) part is

    served_then : (step (fixed_of given) (run given (events ++ f.front)) (Step who.agent)).done.served ≡ Some f.what
    served_then = ap (λ w. (step (fixed_of given) w (Step who.agent)).done.served) (sym (world_in given events f.front)) ∙ f.served

    lock_then : for_lock who.t y f.what.request.value ≡ true
    lock_then = (four (f.what.server == server) (for_lock who.t y f.what.request.value) (says_held f.what.reply.value) (serves (mode_of f.what.request.value) a) f.is).1

    at : Place given events later who f.front who.agent who.t
    at = place given events later can part rest whole calm.fair f.front f.back who.agent f.parts f.what served_then who.t y lock_then who refl

    abbrev its_begin : Event
    its_begin = its_event given events later who

    all_then : part ≡ who.before ++ Begin who.agent (Transaction who.caller who.site who.ops) ∷ (at.mid ++ Step who.agent ∷ f.back)
    all_then = f.parts ∙ ap (λ xs. xs ++ Step who.agent ∷ f.back) at.parts ∙ append_assoc who.before (its_begin ∷ at.mid) (Step who.agent ∷ f.back)

    front_then : room.fixed.front ≡ at.mid ++ Step who.agent ∷ (f.back ++ room.more)
    front_then = search (tail_or, cancel, all_then, append_assoc, arith)

    pub granted_since : some_step (grants who.t y a server) who.agent (fixed_of given) (begun_world given (events ++ who.before) who.agent who.caller who.site who.ops) room.fixed.front ≡ true
    granted_since =
        subst (λ front. some_step (grants who.t y a server) who.agent (fixed_of given) (begun_world given (events ++ who.before) who.agent who.caller who.site who.ops) front ≡ true) (sym front_then)
        (there_in (grants who.t y a server) who.agent (fixed_of given) at.mid (f.back ++ room.more) (begun_world given (events ++ who.before) who.agent who.caller who.site who.ops) f.what
        (ap (λ w. (step (fixed_of given) w (Step who.agent)).done.served)
        (run_is given events part calm (in_part given events later part who (at.mid ++ Step who.agent ∷ f.back) all_then) at.mid ∙ ap (λ front. run given (events ++ front)) (sym at.parts))
        ∙ served_then) f.is)

  -- what it was granted keeps out the other from there on
  module _ (who : Begun given events later) (room : Room who) (agent u y server : ℕ) (a b : LockMode) (two : (who.t == u) ≡ false)
      (g : Got given events part calm who.agent who.t y a server) (h : Got given events part calm agent u y b server) (clash : clashes (y, a) (y, b) ≡ true)
      (between : List Event) (order : h.front ≡ g.front ++ Step who.agent ∷ between) where
    its : Place given events later who g.front who.agent who.t
    its = place given events later can part rest whole calm.fair g.front g.back who.agent g.parts g.what g.served who.t y g.lock who refl

    abbrev begins : Event
    begins = its_event given events later who

    -- what follows its begin
    all_is : part ≡ who.before ++ Begin who.agent (Transaction who.caller who.site who.ops) ∷ (its.mid ++ Step who.agent ∷ g.back)
    all_is = g.parts ∙ ap (λ xs. xs ++ Step who.agent ∷ g.back) its.parts ∙ append_assoc who.before (begins ∷ its.mid) (Step who.agent ∷ g.back)

    abbrev on : List Event
    on = its.mid ++ Step who.agent ∷ []

    back_is : g.back ≡ between ++ Step agent ∷ h.back
    back_is = search (tail_or, cancel, append_assoc, arith)

    abbrev actor : Actor
    actor = (its_actor given events part calm (in_part given events later part who (its.mid ++ Step who.agent ∷ g.back) all_is)).0

    goes : GoesQuietly given events (events ++ who.before) (its.mid ++ Step who.agent ∷ g.back) who.agent who.t who.caller who.site who.ops actor
    goes = goes_of given events part calm (in_part given events later part who (its.mid ++ Step who.agent ∷ g.back) all_is) room.ours

    world_at : (so_far : List Event) → world_after given (events ++ who.before) who.agent who.caller who.site who.ops so_far ≡ run given (events ++ (who.before ++ Begin who.agent (Transaction who.caller who.site who.ops) ∷ so_far))
    world_at so_far = run_is given events part calm (in_part given events later part who (its.mid ++ Step who.agent ∷ g.back) all_is) so_far

    after_is : its.mid ++ Step who.agent ∷ g.back ≡ (on ++ between) ++ Step agent ∷ h.back
    after_is = search (back_is, append_assoc, arith)

    front_is : h.front ≡ who.before ++ Begin who.agent (Transaction who.caller who.site who.ops) ∷ (on ++ between)
    front_is =
        order ∙ ap (λ xs. xs ++ Step who.agent ∷ between) its.parts ∙ append_assoc who.before (begins ∷ its.mid) (Step who.agent ∷ between)
        ∙ ap (λ xs. who.before ++ begins ∷ xs) (sym (append_assoc its.mid (Step who.agent ∷ []) between))

    -- it is at work till then
    fixed_is : room.fixed.front ≡ (on ++ between) ++ Step agent ∷ (h.back ++ room.more)
    fixed_is = search (tail_or, cancel, all_is, after_is, append_assoc, arith)

    works : (xs ys : List Event) (e : Event) → between ≡ xs ++ e ∷ ys → IsAtWork (world_after given (events ++ who.before) who.agent who.caller who.site who.ops (on ++ xs)) who.agent who.t
    works xs ys e is =
        room.fixed.works (on ++ xs) (ys ++ Step agent ∷ (h.back ++ room.more)) e
        (fixed_is ∙ ap (λ between. (on ++ between) ++ Step agent ∷ (h.back ++ room.more)) is
        ∙ ap (λ front. front ++ Step agent ∷ (h.back ++ room.more)) (sym (append_assoc on xs (e ∷ ys)))
        ∙ append_assoc (on ++ xs) (e ∷ ys) (Step agent ∷ (h.back ++ room.more)))

    -- and has it till then
    has_first : HasMode who.t y a (locks_at (world_after given (events ++ who.before) who.agent who.caller who.site who.ops on) server)
    has_first =
        subst (λ w. HasMode who.t y a (locks_at w server))
        (ap (λ w. (step (fixed_of given) w (Step who.agent)).world) (ap (λ front. run given (events ++ front)) its.parts ∙ sym (world_at its.mid))
        ∙ sym (next_is given events (events ++ who.before) (its.mid ++ Step who.agent ∷ g.back) who.agent who.t who.caller who.site who.ops actor goes its.mid (Step who.agent))) g.has

    has_then : HasMode who.t y a h.st.locks
    has_then =
        subst (λ locks. HasMode who.t y a locks) (ap (λ w. locks_at w server) (world_at (on ++ between) ∙ ap (λ front. run given (events ++ front)) (sym front_is)) ∙ ap locks_in h.at)
        (keeps_to given events (events ++ who.before) (its.mid ++ Step who.agent ∷ g.back) who.agent who.t who.caller who.site who.ops actor goes y a server on between (Step agent ∷ h.back) after_is works has_first)

    pub kept_out : ⊥
    kept_out = search (keeps_out, has_then, clash_wider, serves_itself, arith)

  -- two that are granted to both never clash
  module _ (room : Room one) (other_room : Room other) (two : (one.t == other.t) ≡ false) where
    two_back : (other.t == one.t) ≡ false
    two_back = search arith

    pub stand_apart : (y server : ℕ) (a b : LockMode) → held_in given events part one.agent one.t y a server ≡ true → held_in given events part other.agent other.t y b server ≡ true → clashes (y, a) (y, b) ≡ true → ⊥
    stand_apart y server a b is other_is clash =
        let g = got given events part calm one.agent one.t y a server is in
        let h = got given events part calm other.agent other.t y b server other_is in
        ⊎_elim
        (λ same.
        let agents : one.agent ≡ other.agent = ap agent_in same.1 in
        let whats = same_Some g.what h.what
        (sym g.served ∙ ap (λ front. (step (fixed_of given) (run given (events ++ front)) (Step one.agent)).done.served) same.0
        ∙ ap (λ i. (step (fixed_of given) (run given (events ++ h.front)) (Step i)).done.served) agents ∙ h.served) in
        let named = subst (λ (what : Served). for_lock one.t y what.request.value ≡ true) whats g.lock in
        false≢true (sym two ∙ eq-eqb one.t other.t (names_one one.t other.t h.what.request.value (for_lock_named one.t y h.what.request.value named).0 (for_lock_named other.t y h.what.request.value h.lock).0)))
        (λ order. ⊎_elim
        (λ first. kept_out one room other.agent other.t y server a b two g h clash first.0 first.1)
        (λ second. kept_out other other_room one.agent one.t y server b a two_back h g (clashes_back y a b clash) second.0 second.1)
        order)
        (compared g.front h.front (Step one.agent) (Step other.agent) g.back h.back (sym g.parts ∙ h.parts))
