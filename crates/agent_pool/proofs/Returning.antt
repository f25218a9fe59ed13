-- The passes that come back.
use Rattle.agent_pool.proofs.Vocabulary.{◌≡◌, ℕ, List, [], ◌∷◌, ◌++◌, refl, ap, ◌∙◌, sym, subst, Option, Some, None, AllZip, All-head, All-tail, filter-append}
use Rattle.agent_pool.proofs.Vocabulary.{passes_by, Held, after_item, AgentEntry, Begun, Asked, Forgot, Ended, SeatedAgent, Worked, NamedJob, players_of}
use Rattle.agent_pool.proofs.Vocabulary.{AllRan, AreDistinct, IsOther, WentOn, numbers_of, passes_for, AreSeated, IsSeated, IsWorkOf, Played, Leads, at_rest}
use Rattle.agent_pool.proofs.Vocabulary.{number_of}
use Rattle.std.proofs.Common.{append-nil}
use Rattle.run_certify.specs.declared.entry.AgentEntry.TheVariants.{Lacked}
use Rattle.agent_pool.specs.code.Filled.{passes_of}
use Rattle.agent_pool.specs.Transcripts.{GoesOn, Learns}
use Rattle.agent_pool.specs.declared.work.Halt.TheVariants.{Lacked as NoMemory}
use Rattle.agent_pool.proofs.Seating.{AreApartFrom, apart_from, other_cons, own_cons}

goes_agent : (entries : List AgentEntry) (a b : Held) → GoesOn entries a b → b.agent ≡ a.agent
goes_agent [] a b goes = ap (λ (p : Held). p.agent) goes
goes_agent (Begun job ∷ es) a b goes = goes_agent es a b goes
goes_agent (Asked server stamp ∷ es) a b goes = goes_agent es (after_item a server goes.0 stamp) b goes.3
goes_agent (Lacked server lack ∷ es) a b goes = goes_agent es a b goes
goes_agent (Forgot site ∷ es) a b goes = goes_agent es a b goes
goes_agent (Ended outcome ∷ es) a b goes = goes_agent es a b goes

-- an agent that sat down, and what it did; it ran whatever it took
record Sat (jobs : List NamedJob) (old left : List Held) (player : Played) (seat : SeatedAgent) (worked : Worked) : Type 0 where
  seated : IsSeated old left player seat
  work : IsWorkOf jobs seat worked
  ran : worked.halt ≡ None

sat_agent : (jobs : List NamedJob) (old left : List Held) (player : Played) (seat : SeatedAgent) (worked : Worked) → Sat jobs old left player seat worked → worked.pass.agent ≡ Some (number_of player)
sat_agent jobs old left player seat worked sat = goes_agent sat.work.longer.rest seat.pass worked.pass sat.work.went ∙ sat.seated.of

-- all did
abbrev AllSat : (jobs : List NamedJob) (old left : List Held) → List Played → List SeatedAgent → List Worked → Type 0
AllSat jobs old left [] [] [] = Unit {0}
AllSat jobs old left (p ∷ players) (s ∷ seats) (w ∷ worked) = Sat jobs old left p s w × AllSat jobs old left players seats worked
AllSat jobs old left _ _ _ = ⊥

all_sat : (jobs : List NamedJob) (old left : List Held) (players : List Played) (seats : List SeatedAgent) (worked : List Worked) → AllZip (IsSeated old left) players seats
    → AllZip (IsWorkOf jobs) seats worked → AllRan worked → AllSat jobs old left players seats worked
all_sat jobs old left [] [] [] a b ran = tt
all_sat jobs old left [] [] (w ∷ worked) a b ran = absurd b
all_sat jobs old left [] (s ∷ seats) worked a b ran = absurd a
all_sat jobs old left (p ∷ players) [] worked a b ran = absurd a
all_sat jobs old left (p ∷ players) (s ∷ seats) [] a b ran = absurd b
all_sat jobs old left (p ∷ players) (s ∷ seats) (w ∷ worked) a b ran = (
  record { seated = a.0; work = b.0; ran = All-head (λ (one : Worked). one.halt ≡ None) w worked ran },
  all_sat jobs old left players seats worked a.1 b.1 (All-tail (λ (one : Worked). one.halt ≡ None) w worked ran),
)

-- none of these passes is another asker's
none_of : (jobs : List NamedJob) (old left : List Held) (asker : Option ℕ) (players : List Played) (seats : List SeatedAgent) (worked : List Worked)
    → AllSat jobs old left players seats worked → IsOther players asker → passes_by asker (passes_of worked) ≡ []
none_of jobs old left asker [] [] [] all other = refl
none_of jobs old left asker [] [] (w ∷ worked) all other = absurd all
none_of jobs old left asker [] (s ∷ seats) worked all other = absurd all
none_of jobs old left asker (p ∷ players) [] worked all other = absurd all
none_of jobs old left asker (p ∷ players) (s ∷ seats) [] all other = absurd all
none_of jobs old left asker (p ∷ players) (s ∷ seats) (w ∷ worked) all other =
    other_cons asker (number_of p) w.pass (passes_of worked) (sat_agent jobs old left p s w all.0) other.0 ∙ none_of jobs old left asker players seats worked all.1 other.1

-- each agent's pass comes back, before these others
abbrev AllCome : (jobs : List NamedJob) (old left back : List Held) → List Played → List Worked → Type 0
AllCome jobs old left back [] [] = Unit {0}
AllCome jobs old left back (p ∷ players) (w ∷ worked) = (passes_for (number_of p) back ≡ w.pass ∷ []) × AllCome jobs old left back players worked
AllCome jobs old left back _ _ = ⊥

come_under : (jobs : List NamedJob) (old left back : List Held) (n : ℕ) (x : Held) (players : List Played) (worked : List Worked) → x.agent ≡ Some n → IsOther players (Some n) → AllCome jobs old left back players worked
    → AllCome jobs old left (x ∷ back) players worked
come_under jobs old left back n x [] [] of other all = tt
come_under jobs old left back n x [] (w ∷ worked) of other all = absurd all
come_under jobs old left back n x (p ∷ players) [] of other all = absurd all
come_under jobs old left back n x (p ∷ players) (w ∷ worked) of other all =
    (other_cons (Some (number_of p)) n x back of (λ e. other.0 (sym e)) ∙ all.0, come_under jobs old left back n x players worked of other.1 all.1)

all_come : (jobs : List NamedJob) (old left : List Held) (players : List Played) (seats : List SeatedAgent) (worked : List Worked) → AllSat jobs old left players seats worked
    → AreApartFrom players → AllCome jobs old left (passes_of worked) players worked
all_come jobs old left [] [] [] all apart = tt
all_come jobs old left [] [] (w ∷ worked) all apart = absurd all
all_come jobs old left [] (s ∷ seats) worked all apart = absurd all
all_come jobs old left (p ∷ players) [] worked all apart = absurd all
all_come jobs old left (p ∷ players) (s ∷ seats) [] all apart = absurd all
all_come jobs old left (p ∷ players) (s ∷ seats) (w ∷ worked) all apart =
    let of = sat_agent jobs old left p s w all.0 in (
      own_cons (number_of p) w.pass (passes_of worked) of ∙ ap (λ zs. w.pass ∷ zs) (none_of jobs old left (Some (number_of p)) players seats worked all.1 apart.0),
      come_under jobs old left (passes_of worked) (number_of p) w.pass players worked of apart.0 (all_come jobs old left players seats worked all.1 apart.1),
    )

went_one : (jobs : List NamedJob) (old left new : List Held) (p : Played) (s : SeatedAgent) (w : Worked) → Sat jobs old left p s w → passes_for (number_of p) new ≡ passes_for (number_of p) left ++ w.pass ∷ [] → WentOn old new p w.player
went_one jobs old left new p s w sat is =
    let sits = sat.seated.sits in
    let longer = sat.work.longer in
    record {
      longer = record {
        fixed = longer.fixed ∙ ap (λ (q : Played). q.agent.fixed) sits;
        number = longer.number ∙ ap (λ (q : Played). number_of q) sits;
        rest = longer.rest;
        entries = longer.entries ∙ ap (λ (q : Played). q.entries ++ longer.rest) sits;
        knows = subst (λ (q : Played). Learns q.known longer.rest w.player.known) sits longer.knows;
      };
      leads = subst (λ (q : Played). Leads q.agent.fixed (at_rest q.agent.state) longer.rest (at_rest w.player.agent.state)) sits (sat.work.leads (λ lacked. let bad : None ≡ Some NoMemory = sym sat.ran ∙ lacked in cc));
      others = passes_for (number_of p) left;
      pass = s.pass;
      later = w.pass;
      old_are = sat.seated.own;
      new_are = is;
      went = sat.work.went;
    }

went_all : (jobs : List NamedJob) (old left back new : List Held) (players : List Played) (seats : List SeatedAgent) (worked : List Worked) → new ≡ left ++ back
    → AllSat jobs old left players seats worked → AllCome jobs old left back players worked
    → AllZip (WentOn old new) players (players_of worked)
went_all jobs old left back new [] [] [] is all come = tt
went_all jobs old left back new [] [] (w ∷ worked) is all come = absurd all
went_all jobs old left back new [] (s ∷ seats) worked is all come = absurd all
went_all jobs old left back new (p ∷ players) [] worked is all come = absurd all
went_all jobs old left back new (p ∷ players) (s ∷ seats) [] is all come = absurd all
went_all jobs old left back new (p ∷ players) (s ∷ seats) (w ∷ worked) is all come = (
  went_one jobs old left new p s w all.0 (ap (λ zs. passes_for (number_of p) zs) is ∙ filter-append _ left back ∙ ap (λ zs. passes_for (number_of p) left ++ zs) come.0),
  went_all jobs old left back new players seats worked is all.1 come.1,
)

pub all_went : (jobs : List NamedJob) (old left new : List Held) (players : List Played) (seats : List SeatedAgent) (worked : List Worked) → AreDistinct (numbers_of players)
    → AreSeated old left players seats → AllZip (IsWorkOf jobs) seats worked
    → AllRan worked → new ≡ left ++ passes_of worked → AllZip (WentOn old new) players (players_of worked)
all_went jobs old left new players seats worked distinct seated work ran is =
    let all = all_sat jobs old left players seats worked seated.each work ran in
    went_all jobs old left (passes_of worked) new players seats worked is all (all_come jobs old left players seats worked all (apart_from players distinct))

pub others_back : (jobs : List NamedJob) (old left new : List Held) (players : List Played) (seats : List SeatedAgent) (worked : List Worked) → AreSeated old left players seats
    → AllZip (IsWorkOf jobs) seats worked → AllRan worked → new ≡ left ++ passes_of worked
    → (asker : Option ℕ) → IsOther players asker → passes_by asker new ≡ passes_by asker old
others_back jobs old left new players seats worked seated work ran is asker other =
    ap (λ zs. passes_by asker zs) is ∙ filter-append _ left (passes_of worked)
    ∙ ap (λ zs. passes_by asker left ++ zs) (none_of jobs old left asker players seats worked (all_sat jobs old left players seats worked seated.each work ran) other)
    ∙ append-nil (passes_by asker left) ∙ seated.others asker other
