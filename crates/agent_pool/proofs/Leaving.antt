-- What an agent leaves in its transcript for a job.
use Rattle.agent_pool.proofs.Vocabulary.{◌≡◌, ◌≢◌, ◌⊎◌, inl, inr, ℕ, ◌+◌, ◌-◌, ◌<◌, ◌≤◌, List, [], ◌∷◌, ◌++◌, true, false, refl, ap, ◌∙◌, sym, subst, arith}
use Rattle.agent_pool.proofs.Vocabulary.{length, append_assoc, ◌&&◌, nat_lt, slice_index, IsTrue, Option, Some, None, Result, Ok, Err, IfOk, IfSome}
use Rattle.agent_pool.proofs.Vocabulary.{length-set, length-append, same_Some, Reply, Request, Stamped, fits, Miss, Lack, Stale, Held, after_reply, front_at}
use Rattle.agent_pool.proofs.Vocabulary.{sent_stamp, and_parts, Fixed, Ending, Agent, Taken, begin, has_sense, is_idle, max_jobs, next_of, FitsAsked, Standing}
use Rattle.agent_pool.proofs.Vocabulary.{AgentEntry, Begun, Asked, Forgot, Ended, Came, Delivery, AsksNobody, CannotGoOn, DidJob, DidMore, HasSeen, Hears}
use Rattle.agent_pool.proofs.Vocabulary.{RanTo, delivery_from, end_entry, known_after, stamp_in, Played, AreAsks, At, Does, IsLonger, Leads, after_response}
use Rattle.agent_pool.proofs.Vocabulary.{at_rest, is_ask, number_of}
use Rattle.std.proofs.Common.{append-nil}
use Rattle.txn_core.specs.Agents.{begins as begins_job, take}
use Rattle.run_certify.specs.declared.entry.AgentEntry.TheVariants.{Lacked}
use Rattle.agent_pool.specs.code.Steps.{Leaves}
use Rattle.agent_pool.specs.Transcripts.{GoesOn, Learns, begins}
use Rattle.txn_core.specs.declared.job.Job.{Job}
use Rattle.agent_pool.specs.declared.asking.Came.TheVariants as came
use Rattle.agent_pool.proofs.Begins.{begins-append, goes-append, learns-append}

asks-append : (xs ys : List AgentEntry) → AreAsks xs → AreAsks ys → AreAsks (xs ++ ys)
asks-append [] ys all more = more
asks-append (x ∷ xs) ys all more = (all.0, asks-append xs ys all.1 more)

no_begins : (xs : List AgentEntry) → AreAsks xs → begins xs ≡ 0
no_begins [] all = refl
no_begins (Begun job ∷ xs) all = cc
no_begins (Asked server stamp ∷ xs) all = no_begins xs all.1
no_begins (Lacked server lack ∷ xs) all = no_begins xs all.1
no_begins (Forgot site ∷ xs) all = cc
no_begins (Ended outcome ∷ xs) all = cc

abbrev pub longer_longer : (a b c : Played) → IsLonger a b → IsLonger b c → IsLonger a c
longer_longer a b c x y = record {
  fixed = y.fixed ∙ x.fixed;
  number = y.number ∙ x.number;
  rest = x.rest ++ y.rest;
  entries = y.entries ∙ ap (λ es. es ++ y.rest) x.entries ∙ append_assoc a.entries x.rest y.rest;
  knows = learns-append x.rest y.rest a.known b.known c.known x.knows y.knows;
}

abbrev pub longer_same : (a : Played) → IsLonger a a
longer_same a = record { fixed = refl; number = refl; rest = []; entries = sym (append-nil a.entries); knows = refl }

-- ---- what the agent function makes of it

pub leads-append : (fixed : Fixed) (a b c : At) (xs ys : List AgentEntry) → Leads fixed a xs b → Leads fixed b ys c → Leads fixed a (xs ++ ys) c
leads-append fixed a b c [] ys x y = subst (λ (q : At). Leads fixed q ys c) x y
leads-append fixed a b c (e ∷ xs) ys x y = (x.0, x.1, leads-append fixed x.0 b c xs ys x.2 y)

-- the same agent, which did more, and still more
pub leads_longer : (a b c : Played) (x : IsLonger a b) (y : IsLonger b c) → Leads a.agent.fixed (at_rest a.agent.state) x.rest (at_rest b.agent.state) → Leads b.agent.fixed (at_rest b.agent.state) y.rest (at_rest c.agent.state)
    → Leads a.agent.fixed (at_rest a.agent.state) (x.rest ++ y.rest) (at_rest c.agent.state)
leads_longer a b c x y first second =
    leads-append a.agent.fixed (at_rest a.agent.state) (at_rest b.agent.state) (at_rest c.agent.state) x.rest y.rest first
    (subst (λ (f : Fixed). Leads f (at_rest b.agent.state) y.rest (at_rest c.agent.state)) x.fixed second)

same_rest : (a b : Standing) → b ≡ a → at_rest b.state ≡ at_rest a.state
same_rest a b same = ap (λ (s : Standing). at_rest s.state) same

-- what is written down of an answer is what the agent does, which asked and is told
pub does_by : (fixed : Fixed) (agent : Agent) (server : ℕ) (request : Request) (reply : Result (Stamped Reply) Miss) (delivery : Delivery) → delivery_from server reply ≡ Some delivery → next_of fixed agent ≡ Some (server, request)
    → IfOk reply (λ reply. IsTrue (fits request reply.value)) → Does fixed (at_rest agent) delivery.entry (after_response fixed (at_rest agent) delivery.response)
does_by fixed agent server request (Ok reply) delivery is asks suits =
    subst (λ (t : Delivery). Does fixed (at_rest agent) t.entry (after_response fixed (at_rest agent) t.response)) (same_Some _ delivery is) (request, reply.value, refl, asks, suits, refl)
does_by fixed agent server request (Err (Lack lack)) delivery is asks suits =
    subst (λ (t : Delivery). Does fixed (at_rest agent) t.entry (after_response fixed (at_rest agent) t.response)) (same_Some _ delivery is) (request, refl, asks, refl)
does_by fixed agent server request (Err (Stale long)) delivery is asks suits = cc

abbrev at_of : Agent → Option Ending → At
at_of agent ending = record { agent = agent; due = ending }

took : (taken : Taken) (agent : Agent) (ending : Option Ending) → agent ≡ taken.agent → taken.ending ≡ ending → at_of taken.agent taken.ending ≡ at_of agent ending
took taken agent ending is gives = let back = sym is in λ i. record { agent = back i; due = gives i }

-- it did nothing yet
pub did_nothing : (servers begun : ℕ) (a : Played) (p : Held) → DidMore servers begun a a p p came.On
did_nothing servers begun a p = record { longer = longer_same a; went = refl; leads = λ n. refl; leaves = tt; stuck = λ e. cc }

leaves_on : (begun : ℕ) (a b c : Played) (rest more : List AgentEntry) (what : Came) → number_of b ≡ number_of a → b.entries ≡ a.entries ++ rest → AreAsks rest → Leaves begun b more c what → Leaves begun a (rest ++ more) c what
leaves_on begun a b c rest more came.On number is all after = asks-append rest more all after
leaves_on begun a b c rest more came.Stuck number is all after = asks-append rest more all after
leaves_on begun a b c rest more came.Lacked number is all after = asks-append rest more all after
leaves_on begun a b c rest more (came.Ended ran) number is all after =
    let asked = after.0 in
    let ending = after.1 in
    let long : length b.entries ≡ length a.entries + length rest = ap length is ∙ length-append a.entries rest in
    let longs = length-append rest asked in
    let steps : length b.entries + length asked - begun ≡ length a.entries + length (rest ++ asked) - begun = omega arith in
    let end : end_entry (number_of b) ran.count (length b.entries + length asked - begun) ending ≡ end_entry (number_of a) ran.count (length a.entries + length (rest ++ asked) - begun) ending =
    ap (λ n. end_entry n ran.count (length b.entries + length asked - begun) ending) number ∙ ap (λ n. end_entry (number_of a) ran.count n ending) steps in
    let none = no_begins rest all in
    let counted : begins b.entries ≡ begins a.entries = ap begins is ∙ begins-append a.entries rest ∙ omega arith in (
      rest ++ asked,
      ending,
      asks-append rest asked all after.2,
      ap (λ es. rest ++ es) (after.3 ∙ ap (λ e. asked ++ e ∷ []) end) ∙ sym (append_assoc rest asked (end_entry (number_of a) ran.count (length a.entries + length (rest ++ asked) - begun) ending ∷ [])),
      after.4 ∙ omega arith,
      after.5 ∙ ap (λ n. n - 1) counted,
      after.6,
    )

-- it did more, and still more
pub did_more : (servers begun : ℕ) (a b c : Played) (p q r : Held) (what : Came) → DidMore servers begun a b p q came.On → DidMore servers begun b c q r what → DidMore servers begun a c p r what
did_more servers begun a b c p q r what x y = record {
  longer = longer_longer a b c x.longer y.longer;
  went = goes-append x.longer.rest y.longer.rest p q r x.went y.went;
  leads = λ n. leads_longer a b c x.longer y.longer (x.leads (λ e. cc)) (y.leads n);
  leaves = leaves_on begun a b c x.longer.rest y.longer.rest what x.longer.number x.longer.entries x.leaves y.leaves;
  stuck = y.stuck;
}

-- what is written down of an answer, beside the pass
pub goes_by : (server before : ℕ) (reply : Result (Stamped Reply) Miss) (delivery : Delivery) (pass : Held) → delivery_from server reply ≡ Some delivery
    → IfOk reply (λ reply. front_at pass server ≤ before) → IfOk reply (λ reply. sent_stamp pass < reply.stamp)
    → GoesOn (delivery.entry ∷ []) pass (after_reply pass server before reply)
goes_by server before (Ok reply) delivery pass is front rises = subst (λ (t : Delivery). GoesOn (t.entry ∷ []) pass (after_reply pass server before (Ok reply))) (same_Some _ delivery is) (before, front, rises, refl)
goes_by server before (Err (Lack lack)) delivery pass is front rises = subst (λ (t : Delivery). GoesOn (t.entry ∷ []) pass pass) (same_Some _ delivery is) refl
goes_by server before (Err (Stale long)) delivery pass is front rises = cc

-- and what is known then of its server
pub learned_by : (server : ℕ) (reply : Result (Stamped Reply) Miss) (delivery : Delivery) (known more : List ℕ) → delivery_from server reply ≡ Some delivery → server < length known
    → IfSome (stamp_in reply) (λ stamp. slice_index known server < stamp) → more ≡ known_after known server (stamp_in reply) → Learns known (delivery.entry ∷ []) more
learned_by server (Ok reply) delivery known more is low later after = subst (λ (t : Delivery). Learns known (t.entry ∷ []) more) (same_Some _ delivery is) (low, later, after)
learned_by server (Err (Lack lack)) delivery known more is low later after = subst (λ (t : Delivery). Learns known (t.entry ∷ []) more) (same_Some _ delivery is) after
learned_by server (Err (Stale long)) delivery known more is low later after = cc

-- what is told answers what was asked
pub answer_fits : (server : ℕ) (request : Request) (reply : Result (Stamped Reply) Miss) (delivery : Delivery) (asked : Option (ℕ × Request)) → delivery_from server reply ≡ Some delivery → asked ≡ Some (server, request)
    → IfOk reply (λ reply. IsTrue (fits request reply.value)) → FitsAsked asked delivery.response
answer_fits server request (Ok reply) delivery asked is asks suits =
    subst (λ (a : Option (ℕ × Request)). FitsAsked a delivery.response) (sym asks) (subst (λ (t : Delivery). FitsAsked (Some (server, request)) t.response) (same_Some _ delivery is) suits)
answer_fits server request (Err (Lack lack)) delivery asked is asks suits =
    subst (λ (a : Option (ℕ × Request)). FitsAsked a delivery.response) (sym asks) (subst (λ (t : Delivery). FitsAsked (Some (server, request)) t.response) (same_Some _ delivery is) refl)
answer_fits server request (Err (Stale long)) delivery asked is asks suits = cc

pub delivery_asks : (server : ℕ) (reply : Result (Stamped Reply) Miss) (delivery : Delivery) → delivery_from server reply ≡ Some delivery → is_ask delivery.entry ≡ true
delivery_asks server (Ok reply) delivery is = ap (λ (t : Delivery). is_ask t.entry) (sym (same_Some _ delivery is))
delivery_asks server (Err (Lack lack)) delivery is = ap (λ (t : Delivery). is_ask t.entry) (sym (same_Some _ delivery is))
delivery_asks server (Err (Stale long)) delivery is = cc

-- what an agent does that a delivery is told to
abbrev DoesBy : Delivery → Standing → Type 0
DoesBy delivery agent = Does agent.fixed (at_rest agent.state) delivery.entry (after_response agent.fixed (at_rest agent.state) delivery.response)

-- an agent heard, and what it had done before is counted
pub heard : (servers begun : ℕ) (delivery : Delivery) (old new : Played) (p q : Held) (what : Came) → old.agent.state.count ≡ begins old.entries → is_ask delivery.entry ≡ true
    → GoesOn (delivery.entry ∷ []) p q → Learns old.known (delivery.entry ∷ []) new.known → DoesBy delivery old.agent
    → Hears (number_of old) begun delivery old.agent old.entries new.agent new.entries what → DidMore servers begun old new p q what
heard servers begun delivery old new p q came.On counted asks goes learns does h =
    let is : after_response old.agent.fixed (at_rest old.agent.state) delivery.response ≡ at_rest new.agent.state = took (take old.agent.fixed old.agent.state delivery.response) new.agent.state None h.3.1.0 h.3.1.1 in
    record {
      longer = record { fixed = h.0; number = h.1; rest = delivery.entry ∷ []; entries = h.3.0; knows = learns };
      went = goes;
      leads = λ n. (at_rest new.agent.state, subst (λ (q : At). Does old.agent.fixed (at_rest old.agent.state) delivery.entry q) is does, refl);
      leaves = (asks, tt);
      stuck = λ e. cc;
    }
heard servers begun delivery old new p q came.Stuck counted asks goes learns does h = absurd h.3
heard servers begun delivery old new p q came.Lacked counted asks goes learns does h = record {
  longer = record { fixed = h.0; number = h.1; rest = delivery.entry ∷ []; entries = h.3; knows = learns };
  went = goes;
  leads = λ n. absurd (n refl);
  leaves = (asks, tt);
  stuck = λ e. cc;
}
heard servers begun delivery old new p q (came.Ended ran) counted asks goes learns does h =
    let on = h.3 in
    let ending = on.0 in
    let due : At = record { agent = new.agent.state; due = Some ending } in
    let is : after_response old.agent.fixed (at_rest old.agent.state) delivery.response ≡ due = took (take old.agent.fixed old.agent.state delivery.response) new.agent.state (Some ending) on.5.0 on.5.1 in
    let end = end_entry (number_of old) ran.count (length old.entries + 1 - begun) ending in
    record {
      longer = record { fixed = h.0; number = h.1; rest = delivery.entry ∷ end ∷ []; entries = on.1; knows = learns-append (delivery.entry ∷ []) (end ∷ []) old.known new.known new.known learns refl };
      went = goes-append (delivery.entry ∷ []) (end ∷ []) p q q goes refl;
      leads = λ n. (
        due,
        subst (λ (q : At). Does old.agent.fixed (at_rest old.agent.state) delivery.entry q) is does,
        (at_rest new.agent.state, (refl, sym h.1, on.3 ∙ ap (λ (n : ℕ). n - 1) (sym h.2), refl), refl),
      );
      leaves = (delivery.entry ∷ [], ending, (asks, tt), refl, on.2, on.3 ∙ ap (λ n. n - 1) counted, on.4);
      stuck = λ e. cc;
    }

ran_to : (job : Job) (old mid new : Played) (rest : List AgentEntry) (what : Came) → number_of mid ≡ number_of old → mid.entries ≡ old.entries ++ Begun job ∷ [] → number_of new ≡ number_of mid → new.entries ≡ mid.entries ++ rest
    → Leaves (length mid.entries) mid rest new what → (what ≢ came.Lacked → Leads new.agent.fixed (at_rest old.agent.state) (Begun job ∷ rest) (at_rest new.agent.state)) → has_sense new.agent.fixed job ≡ true → RanTo job old new what
ran_to job old mid new rest came.On same began number more leaves leads sense = tt
ran_to job old mid new rest came.Stuck same began number more leaves leads sense = tt
ran_to job old mid new rest came.Lacked same began number more leaves leads sense = tt
ran_to job old mid new rest (came.Ended ran) same began number more leaves leads sense =
    let asked = leaves.0 in
    let ending = leaves.1 in
    let steps : length mid.entries + length asked - length mid.entries ≡ length asked = omega arith in
    let end = end_entry (number_of new) ran.count (length asked) ending in
    let ends : end_entry (number_of mid) ran.count (length mid.entries + length asked - length mid.entries) ending ≡ end =
    ap (λ n. end_entry (number_of mid) ran.count n ending) steps ∙ ap (λ n. end_entry n ran.count (length asked) ending) (sym number) in
    let rests : rest ≡ asked ++ end ∷ [] = leaves.3 ∙ ap (λ e. asked ++ e ∷ []) ends in
    let split : new.entries ≡ old.entries ++ Begun job ∷ (asked ++ end ∷ []) =
    more ∙ ap (λ es. es ++ rest) began ∙ append_assoc old.entries (Begun job ∷ []) rest ∙ ap (λ es. old.entries ++ Begun job ∷ es) rests in
    let none = no_begins asked leaves.2 in
    let some : begins mid.entries ≡ begins old.entries + 1 = ap begins began ∙ begins-append old.entries (Begun job ∷ []) in
    let all = ap begins split in
    let a = begins-append old.entries (Begun job ∷ (asked ++ end ∷ [])) in
    let b = begins-append asked (end ∷ []) in
    let long = ap length began ∙ length-append old.entries (Begun job ∷ []) in
    let count : ran.count ≡ begins old.entries = leaves.5 ∙ omega arith in (
      record {
        before = old.entries;
        asked = asked;
        after = [];
        ending = ending;
        split = split;
        count = sym count;
        asks = leaves.2;
        at = (let at = leaves.4 in omega arith);
        start = old.agent.state;
        end = new.agent.state;
        leads = subst (λ (es : List AgentEntry). Leads new.agent.fixed (at_rest old.agent.state) (Begun job ∷ es) (at_rest new.agent.state)) rests (leads (λ e. cc));
      },
      count,
      omega arith,
      leaves.6,
      sense,
    )

-- a job that begins has sense
begins_sense : (fixed : Fixed) (agent : Agent) (job : Job) → begins_job fixed agent job ≡ true → has_sense fixed job ≡ true
begins_sense fixed agent job is = (and_parts (is_idle agent.doing) (has_sense fixed job) (and_parts (is_idle agent.doing && has_sense fixed job) (nat_lt agent.count max_jobs) is).0).1

-- a job was begun, and then more was done for it
pub did_job : (servers : ℕ) (job : Job) (old mid new : Played) (p q : Held) (what : Came) → mid.agent.fixed ≡ old.agent.fixed → number_of mid ≡ number_of old → mid.known ≡ old.known → mid.entries ≡ old.entries ++ Begun job ∷ []
    → begins_job old.agent.fixed old.agent.state job ≡ true → mid.agent.state ≡ begin old.agent.fixed old.agent.state job → DidMore servers (length mid.entries) mid new p q what → DidJob servers job old new p q what
did_job servers job old mid new p q what fixed same known began begins starts more =
    let rest = more.longer.rest in
    let does : Leads old.agent.fixed (at_rest old.agent.state) (Begun job ∷ []) (at_rest mid.agent.state) = (at_rest mid.agent.state, (refl, begins, ap at_rest starts), refl) in
    let leads : what ≢ came.Lacked → Leads old.agent.fixed (at_rest old.agent.state) (Begun job ∷ rest) (at_rest new.agent.state) =
    λ n. leads_longer old mid new (record { fixed = fixed; number = same; rest = Begun job ∷ []; entries = began; knows = known }) more.longer does (more.leads n) in
    record {
      longer = longer_longer old mid new (record { fixed = fixed; number = same; rest = Begun job ∷ []; entries = began; knows = known }) more.longer;
      went = more.went;
      leads = leads;
      ran = ran_to job old mid new rest what same began more.longer.number more.longer.entries more.leaves
          (λ n. subst (λ (f : Fixed). Leads f (at_rest old.agent.state) (Begun job ∷ rest) (at_rest new.agent.state)) (sym (more.longer.fixed ∙ fixed)) (leads n))
          (subst (λ (f : Fixed). has_sense f job ≡ true) (sym (more.longer.fixed ∙ fixed)) (begins_sense old.agent.fixed old.agent.state job begins));
      stuck = λ e. inr (more.stuck e);
    }

-- nothing was done, and the agent cannot go on
pub did_stick : (servers begun : ℕ) (a b : Played) (p q : Held) → b.agent ≡ a.agent → b.entries ≡ a.entries → b.known ≡ a.known → q ≡ p → CannotGoOn servers a p → DidMore servers begun a b p q came.Stuck
did_stick servers begun a b p q agent entries known pass why = record {
  longer = record { fixed = ap (λ (s : Standing). s.fixed) agent; number = ap (λ (s : Standing). s.state.index) agent; rest = []; entries = entries ∙ sym (append-nil a.entries); knows = known };
  went = pass;
  leads = λ n. same_rest a.agent b.agent agent;
  leaves = tt;
  stuck = λ e. subst (λ (r : Held). CannotGoOn servers b r) (sym pass)
      (subst (λ (s : Standing). AsksNobody servers (next_of s.fixed s.state) ⊎ HasSeen p (next_of s.fixed s.state)) (sym agent) why);
}

pub did_lack : (servers begun : ℕ) (a b : Played) (p : Held) → b.agent ≡ a.agent → b.entries ≡ a.entries → b.known ≡ a.known → DidMore servers begun a b p p came.Lacked
did_lack servers begun a b p agent entries known = record {
  longer = record { fixed = ap (λ (s : Standing). s.fixed) agent; number = ap (λ (s : Standing). s.state.index) agent; rest = []; entries = entries ∙ sym (append-nil a.entries); knows = known };
  went = refl;
  leads = λ n. absurd (n refl);
  leaves = tt;
  stuck = λ e. cc;
}

pub no_job : (servers : ℕ) (job : Job) (a b : Played) (p : Held) → b ≡ a → begins_job a.agent.fixed a.agent.state job ≡ false → DidJob servers job a b p p came.Stuck
no_job servers job a b p same not = record {
  longer = record {
    fixed = ap (λ (p : Played). p.agent.fixed) same;
    number = ap (λ (p : Played). number_of p) same;
    rest = [];
    entries = ap (λ (p : Played). p.entries) same ∙ sym (append-nil a.entries);
    knows = ap (λ (p : Played). p.known) same;
  };
  went = refl;
  leads = λ n. ap (λ (p : Played). at_rest p.agent.state) same;
  ran = tt;
  stuck = λ e. inl (ap (λ (p : Played). begins_job p.agent.fixed p.agent.state job) same ∙ not);
}

pub lacked_job : (servers : ℕ) (job : Job) (a b : Played) (p : Held) → b ≡ a → DidJob servers job a b p p came.Lacked
lacked_job servers job a b p same = record {
  longer = record {
    fixed = ap (λ (p : Played). p.agent.fixed) same;
    number = ap (λ (p : Played). number_of p) same;
    rest = [];
    entries = ap (λ (p : Played). p.entries) same ∙ sym (append-nil a.entries);
    knows = ap (λ (p : Played). p.known) same;
  };
  went = refl;
  leads = λ n. absurd (n refl);
  ran = tt;
  stuck = λ e. cc;
}

-- the same as `heard`, where the fields are named apart
pub heard_in : (servers begun number : ℕ) (delivery : Delivery) (old new : Played) (agent : Standing) (entries : List AgentEntry) (p q : Held) (what : Came) → agent ≡ old.agent
    → entries ≡ old.entries → number ≡ number_of old → old.agent.state.count ≡ begins old.entries
    → is_ask delivery.entry ≡ true → GoesOn (delivery.entry ∷ []) p q → Learns old.known (delivery.entry ∷ []) new.known → DoesBy delivery agent
    → Hears number begun delivery agent entries new.agent new.entries what → DidMore servers begun old new p q what
heard_in servers begun number delivery old new agent entries p q what a e n counted asks goes learns does h =
    heard servers begun delivery old new p q what counted asks goes learns (subst (λ (s : Standing). DoesBy delivery s) a does)
    (subst (λ (m : ℕ). Hears m begun delivery old.agent old.entries new.agent new.entries what) n
    (subst (λ (es : List AgentEntry). Hears number begun delivery old.agent es new.agent new.entries what) e (subst (λ (s : Standing). Hears number begun delivery s entries new.agent new.entries what) a h)))

ask_first : (entry : AgentEntry) (entries : List AgentEntry) → is_ask entry ≡ true → begins (entry ∷ entries) ≡ begins entries
ask_first (Begun job) entries asks = cc
ask_first (Asked server stamp) entries asks = refl
ask_first (Lacked server lack) entries asks = refl
ask_first (Forgot site) entries asks = cc
ask_first (Ended outcome) entries asks = cc

pub heard_begins : (number begun : ℕ) (delivery : Delivery) (old : Standing) (entries : List AgentEntry) (new : Standing) (more : List AgentEntry) (what : Came)
    → is_ask delivery.entry ≡ true → Hears number begun delivery old entries new more what → begins more ≡ begins entries
heard_begins number begun delivery old entries new more came.On asks h = ap begins h.3.0 ∙ begins-append entries (delivery.entry ∷ []) ∙ (let one = ask_first delivery.entry [] asks in omega arith)
heard_begins number begun delivery old entries new more came.Stuck asks h = absurd h.3
heard_begins number begun delivery old entries new more came.Lacked asks h = ap begins h.3 ∙ begins-append entries (delivery.entry ∷ []) ∙ (let one = ask_first delivery.entry [] asks in omega arith)
heard_begins number begun delivery old entries new more (came.Ended ran) asks h =
    let on = h.3 in
    let end = end_entry number ran.count (length entries + 1 - begun) on.0 in
    ap begins on.1 ∙ begins-append entries (delivery.entry ∷ end ∷ []) ∙ (let one = ask_first delivery.entry (end ∷ []) asks in omega arith)

-- nothing is delivered where the pass is of other servers, of which it has seen something
pub stale_seen : (server before : ℕ) (request : Request) (reply : Result (Stamped Reply) Miss) (pass : Held) (asked : Option (ℕ × Request)) → delivery_from server reply ≡ None
    → ((long : ℕ) → reply ≡ Err (Stale long) → before < front_at pass server)
    → asked ≡ Some (server, request) → HasSeen pass asked
stale_seen server before request (Ok reply) pass asked none stale is = cc
stale_seen server before request (Err (Lack lack)) pass asked none stale is = cc
stale_seen server before request (Err (Stale long)) pass asked none stale is = subst (λ a. HasSeen pass a) (sym is) (let low = stale long refl in omega arith)

-- of as many servers something is known as before
pub known_long : (server : ℕ) (told : Option ℕ) (known : List ℕ) → length (known_after known server told) ≡ length known
known_long server (Some stamp) known = length-set known server stamp
known_long server None known = refl
