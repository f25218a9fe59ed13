-- What holds of a thread's work, as it goes on.
use Rattle.agent_pool.proofs.Vocabulary.{◌≡◌, ◌≢◌, ℕ, zero, suc, ◌+◌, ◌≤◌, List, [], ◌∷◌, ◌++◌, true, false, length, refl, ap, ◌∙◌, sym, subst, arith}
use Rattle.agent_pool.proofs.Vocabulary.{append_assoc, is_some, slice_get, Contains, Option, Some, None, length-append, same_Some, has_sense, Fixed}
use Rattle.agent_pool.proofs.Vocabulary.{AgentEntry, Begun, JobDone, Halt, SeatedAgent, Worked, NamedJob, IsWorkOf, DidJob, end_entry, job_numbers, Played}
use Rattle.agent_pool.proofs.Vocabulary.{IsIdle, IsLonger, IsTold, Leads, at_rest, number_of, AllDone, IsDone, IsHalted, RiseBetween, RiseInPlace}
use Rattle.std.proofs.Common.{append-nil}
use Rattle.agent_pool.specs.Transcripts.{GoesOn, begins}
use Rattle.txn_core.specs.declared.job.Job.{Job}
use Rattle.agent_pool.specs.declared.asking.Came.TheVariants as came
use Rattle.agent_pool.specs.declared.work.Halt.TheVariants.{Lacked}
use Rattle.agent_pool.proofs.Begins.{begins-append, goes-append}
use Rattle.agent_pool.proofs.Leaving.{leads_longer, longer_longer}

pub told_longer : (a b : Played) (job : Job) (count at : ℕ) → IsLonger a b → IsTold a job count at → IsTold b job count at
told_longer a b job count at longer told =
    let end = end_entry (number_of a) count (length told.asked) told.ending in
    let same : end ≡ end_entry (number_of b) count (length told.asked) told.ending = ap (λ n. end_entry n count (length told.asked) told.ending) (sym longer.number) in
    let rest = longer.rest in
    let split : b.entries ≡ told.before ++ Begun job ∷ (told.asked ++ end ∷ (told.after ++ rest)) =
    longer.entries ∙ ap (λ es. es ++ rest) told.split ∙ append_assoc told.before (Begun job ∷ (told.asked ++ end ∷ told.after)) rest
    ∙ ap (λ es. told.before ++ Begun job ∷ es) (append_assoc told.asked (end ∷ told.after) rest) in
    record {
      before = told.before;
      asked = told.asked;
      after = told.after ++ rest;
      ending = told.ending;
      split = split ∙ ap (λ e. told.before ++ Begun job ∷ (told.asked ++ e ∷ (told.after ++ rest))) same;
      count = told.count;
      asks = told.asks;
      at = told.at;
      start = told.start;
      end = told.end;
      leads =
          subst (λ (e : AgentEntry). Leads b.agent.fixed (at_rest told.start) (Begun job ∷ (told.asked ++ e ∷ [])) (at_rest told.end)) same
          (subst (λ (f : Fixed). Leads f (at_rest told.start) (Begun job ∷ (told.asked ++ end ∷ [])) (at_rest told.end)) (sym longer.fixed) told.leads);
    }

done_longer : (jobs : List NamedJob) (began : ℕ) (a b : Played) (ds : List JobDone) → IsLonger a b → AllDone jobs began a ds → AllDone jobs began b ds
done_longer jobs began a b [] longer all = tt
done_longer jobs began a b (d ∷ ds) longer all =
    let one = all.0 in
    let sense : has_sense b.agent.fixed one.named.job ≡ true = subst (λ (f : Fixed). has_sense f one.named.job ≡ true) (sym longer.fixed) one.sense in
    (record { named = one.named; there = one.there; told = told_longer a b one.named.job d.ran.count d.ran.at longer one.told; since = one.since; sense = sense }, done_longer jobs began a b ds longer all.1)

done_more : (jobs : List NamedJob) (began : ℕ) (a : Played) (ds : List JobDone) (d : JobDone) → AllDone jobs began a ds → IsDone jobs began a d → AllDone jobs began a (ds ++ d ∷ [])
done_more jobs began a [] d all one = (one, tt)
done_more jobs began a (e ∷ ds) d all one = (all.0, done_more jobs began a ds d all.1 one)

rise_longer : (low high higher : ℕ) (ds : List JobDone) → RiseBetween low ds high → high ≤ higher → RiseBetween low ds higher
rise_longer low high higher [] rise more = omega arith
rise_longer low high higher (d ∷ ds) rise more = (rise.0, rise_longer (d.ran.count + 1) high higher ds rise.1 more)

rise_more : (low high : ℕ) (ds : List JobDone) (d : JobDone) → RiseBetween low ds high → high ≤ d.ran.count → RiseBetween low (ds ++ d ∷ []) (d.ran.count + 1)
rise_more low high [] d rise more = (omega arith, omega arith)
rise_more low high (e ∷ ds) d rise more = (rise.0, rise_more (e.ran.count + 1) high ds d rise.1 more)

pub place_longer : (low high higher : ℕ) (ds : List JobDone) → RiseInPlace low ds high → high ≤ higher → RiseInPlace low ds higher
place_longer low high higher [] rise more = omega arith
place_longer low high higher (d ∷ ds) rise more = (rise.0, place_longer (d.place + 1) high higher ds rise.1 more)

pub place_more : (low high : ℕ) (ds : List JobDone) (d : JobDone) → RiseInPlace low ds high → high ≤ d.place → RiseInPlace low (ds ++ d ∷ []) (d.place + 1)
place_more low high [] d rise more = (omega arith, omega arith)
place_more low high (e ∷ ds) d rise more = (rise.0, place_more (e.place + 1) high ds d rise.1 more)

-- an agent that did nothing yet
pub works_first : (jobs : List NamedJob) (seat : SeatedAgent) (w : Worked) → w.player ≡ seat.player → w.pass ≡ seat.pass → w.done.items ≡ [] → w.halt ≡ None → IsIdle seat.player → IsWorkOf jobs seat w
works_first jobs seat w player pass none ran idle = record {
  longer = record {
    fixed = ap (λ (p : Played). p.agent.fixed) player;
    number = ap (λ (p : Played). number_of p) player;
    rest = [];
    entries = ap (λ (p : Played). p.entries) player ∙ sym (append-nil seat.player.entries);
    knows = ap (λ (p : Played). p.known) player;
  };
  went = pass;
  done = subst (λ ds. AllDone jobs (begins seat.player.entries) w.player ds) (sym none) tt;
  rise = subst (λ ds. RiseBetween (begins seat.player.entries) ds (begins w.player.entries)) (sym none) (let e = ap (λ (p : Played). begins p.entries) player in omega arith);
  next = 0;
  order = subst (λ ds. RiseInPlace 0 ds 0) (sym none) (omega arith);
  halted = subst (λ h. IsHalted jobs w.player h) (sym ran) (subst (λ (p : Played). IsIdle p) (sym player) idle);
  leads = λ other. ap (λ (p : Played). at_rest p.agent.state) player;
  once = λ all. let same = ap (λ (p : Played). begins p.entries) player in let few = ap length none in omega arith;
}

not_lacked : (halt : Option Halt) → halt ≡ None → halt ≢ Some Lacked
not_lacked halt none is = let bad : None ≡ Some Lacked = sym none ∙ is in cc

-- the agent went on, and runs nothing more
pub works_longer : (jobs : List NamedJob) (seat : SeatedAgent) (w v : Worked) (why : Halt) (longer : IsLonger w.player v.player) → IsWorkOf jobs seat w → w.halt ≡ None
    → GoesOn longer.rest w.pass v.pass → v.done.items ≡ w.done.items → v.halt ≡ Some why
    → IsHalted jobs v.player (Some why) → (why ≢ Lacked → Leads w.player.agent.fixed (at_rest w.player.agent.state) longer.rest (at_rest v.player.agent.state)) → IsWorkOf jobs seat v
works_longer jobs seat w v why longer old before went same is halted led =
    let more = begins-append w.player.entries longer.rest in
    let there = ap begins longer.entries in
    record {
      longer = longer_longer seat.player w.player v.player old.longer longer;
      went = goes-append old.longer.rest longer.rest seat.pass w.pass v.pass old.went went;
      done = subst (λ ds. AllDone jobs (begins seat.player.entries) v.player ds) (sym same) (done_longer jobs (begins seat.player.entries) w.player v.player w.done.items longer old.done);
      rise = subst (λ ds. RiseBetween (begins seat.player.entries) ds (begins v.player.entries)) (sym same) (rise_longer (begins seat.player.entries) (begins w.player.entries) (begins v.player.entries) w.done.items old.rise (omega arith));
      next = old.next;
      order = subst (λ ds. RiseInPlace 0 ds old.next) (sym same) old.order;
      halted = subst (λ h. IsHalted jobs v.player h) (sym is) halted;
      leads = λ other. leads_longer seat.player w.player v.player old.longer longer (old.leads (not_lacked w.halt before)) (led (λ e. other (is ∙ ap (λ (h : Halt). Some h) e)));
      once = λ all. let bad : Some why ≡ None = sym is ∙ all in cc;
    }

-- it runs nothing more, and did nothing since
pub works_stop : (jobs : List NamedJob) (seat : SeatedAgent) (w v : Worked) (why : Halt) → IsWorkOf jobs seat w → w.halt ≡ None → v.player ≡ w.player → v.pass ≡ w.pass
    → v.done.items ≡ w.done.items → v.halt ≡ Some why → IsHalted jobs w.player (Some why) → IsWorkOf jobs seat v
works_stop jobs seat w v why old before player pass same is halted =
    works_longer jobs seat w v why
    (record {
      fixed = ap (λ (p : Played). p.agent.fixed) player;
      number = ap (λ (p : Played). number_of p) player;
      rest = [];
      entries = ap (λ (p : Played). p.entries) player ∙ sym (append-nil w.player.entries);
      knows = ap (λ (p : Played). p.known) player;
    })
    old before pass same is (subst (λ (p : Played). IsHalted jobs p (Some why)) (sym player) halted) (λ n. ap (λ (p : Played). at_rest p.agent.state) player)

pub not_some : (halt : Option Halt) → is_some halt ≡ false → halt ≡ None
not_some None none = refl
not_some (Some why) none = cc

-- and it did this one
pub works_more : (servers : ℕ) (jobs : List NamedJob) (seat : SeatedAgent) (w v : Worked) (d : JobDone) (named : NamedJob) → IsWorkOf jobs seat w
    → DidJob servers named.job w.player v.player w.pass v.pass (came.Ended d.ran) → v.done.items ≡ w.done.items ++ d ∷ []
    → slice_get jobs d.place ≡ Some named → w.halt ≡ None → v.halt ≡ None → RiseInPlace 0 w.done.items d.place → IsWorkOf jobs seat v
works_more servers jobs seat w v d named old did same there before ran order =
    let longer = did.longer in
    let began = begins seat.player.entries in
    let since : began ≤ d.ran.count = let more = ap begins old.longer.entries ∙ begins-append seat.player.entries old.longer.rest in let at = did.ran.1 in omega arith in
    let one : IsDone jobs began v.player d = record { named = named; there = there; told = did.ran.0; since = since; sense = did.ran.4 } in
    record {
      longer = longer_longer seat.player w.player v.player old.longer longer;
      went = goes-append old.longer.rest longer.rest seat.pass w.pass v.pass old.went did.went;
      done = subst (λ ds. AllDone jobs began v.player ds) (sym same) (done_more jobs began v.player w.done.items d (done_longer jobs began w.player v.player w.done.items longer old.done) one);
      rise = subst (λ ds. RiseBetween (begins seat.player.entries) ds (begins v.player.entries)) (sym same)
          (subst (λ n. RiseBetween (begins seat.player.entries) (w.done.items ++ d ∷ []) n) (sym did.ran.2)
          (rise_more (begins seat.player.entries) (begins w.player.entries) w.done.items d old.rise (let e = did.ran.1 in omega arith)));
      next = d.place + 1;
      order = subst (λ ds. RiseInPlace 0 ds (d.place + 1)) (sym same) (place_more 0 d.place w.done.items d order (omega arith));
      halted = subst (λ h. IsHalted jobs v.player h) (sym ran) did.ran.3;
      leads = λ other. leads_longer seat.player w.player v.player old.longer longer (old.leads (not_lacked w.halt before)) (did.leads (λ e. cc));
      once = λ all.
          let all_done = ap length same ∙ length-append w.done.items (d ∷ []) in
          let were = old.once before in
          let at = did.ran.1 in
          let next = did.ran.2 in
          omega arith;
    }

-- the number of a job that was handed in is one of theirs
pub number_there : (jobs : List NamedJob) (place : ℕ) (named : NamedJob) → slice_get jobs place ≡ Some named → Contains (job_numbers jobs) named.number
number_there [] place named at = cc
number_there (j ∷ jobs) zero named at = (0, omega arith, ap (λ (k : NamedJob). k.number) (same_Some j named at))
number_there (j ∷ jobs) (suc place) named at = let more = number_there jobs place named at in (suc more.0, (let low = more.1 in omega arith), more.2)
