-- What an agent took, as it goes on.
use Rattle.agent_pool.proofs.Vocabulary.{◌≡◌, ◌≢◌, ◌⊎◌, inl, inr, ⊎_elim, ℕ, zero, suc, ◌<◌, ◌≤◌, Bool, true, false, List, [], ◌∷◌, ◌++◌, length, refl, ap}
use Rattle.agent_pool.proofs.Vocabulary.{◌∙◌, sym, subst, arith, append_assoc, is_some, get_or, Contains, IfErr, IfOk, Option, Some, None, Result, Ok, Err}
use Rattle.agent_pool.proofs.Vocabulary.{AllZip, Contains-append_left, same_Some, slice_get_within, PoolFault, Double, Memory, Missing, Stranger, NamedJob}
use Rattle.agent_pool.proofs.Vocabulary.{JobDone, Halt, Strange, Stuck, SeatedAgent, Worked, Gathers, HaveOne, IsDouble, IsMissing, NoneFailed, TellsOf}
use Rattle.agent_pool.proofs.Vocabulary.{first_strange, first_stuck, lacked_or, lacks_memory, places, places_by, strange_or, stuck_or, places_below, weigh}
use Rattle.agent_pool.proofs.Vocabulary.{IsFaultOf, job_numbers, AllTook, AreTaken, HasReason, Took, IsWorkOf}
use Rattle.std.proofs.Common.{append-nil}
use Rattle.agent_pool.specs.declared.work.Halt.TheVariants.{Lacked}
use Rattle.agent_pool.specs.Taken.{Leaves}
use Rattle.agent_pool.proofs.Lines.{weigh_append}
use Rattle.agent_pool.proofs.Seen.{strange_is}
use Rattle.agent_pool.proofs.Works.{number_there}

-- ---- one agent

pub took_none : (servers : ℕ) (jobs : List NamedJob) (w : Worked) (taken : List ℕ) → w.done.items ≡ [] → w.halt ≡ None → taken ≡ [] → Took servers jobs w taken
took_none servers jobs w taken none ran nothing = record {
  left = [];
  split = nothing ∙ sym (append-nil (places_by w.done.items) ∙ ap places_by none);
  leaves = subst (λ (h : Option Halt). Leaves servers jobs w.player w.pass [] h) (sym ran) refl;
}

leaves_more : (servers : ℕ) (jobs : List NamedJob) (w : Worked) (left : List ℕ) (place : ℕ) (halt : Option Halt) → is_some halt ≡ true
    → Leaves servers jobs w.player w.pass left halt → Leaves servers jobs w.player w.pass (left ++ place ∷ []) halt
leaves_more servers jobs w left place None halted leaves = cc
leaves_more servers jobs w left place (Some Lacked) halted leaves = tt
leaves_more servers jobs w left place (Some (Stuck job)) halted leaves = record {
  place = leaves.place;
  named = leaves.named;
  there = leaves.there;
  of = leaves.of;
  took = Contains-append_left left (place ∷ []) leaves.place leaves.took;
  cannot = leaves.cannot;
}
leaves_more servers jobs w left place (Some (Strange at)) halted leaves = Contains-append_left left (place ∷ []) at leaves

-- an agent that halted leaves what it takes
pub took_left : (servers : ℕ) (jobs : List NamedJob) (w : Worked) (taken : List ℕ) (place : ℕ) → is_some w.halt ≡ true → Took servers jobs w taken → Took servers jobs w (taken ++ place ∷ [])
took_left servers jobs w taken place halted took = record {
  left = took.left ++ place ∷ [];
  split = ap (λ ps. ps ++ place ∷ []) took.split ∙ append_assoc (places_by w.done.items) took.left (place ∷ []);
  leaves = leaves_more servers jobs w took.left place w.halt halted took.leaves;
}

took_all : (servers : ℕ) (jobs : List NamedJob) (w : Worked) (taken : List ℕ) → w.halt ≡ None → Took servers jobs w taken → taken ≡ places_by w.done.items
took_all servers jobs w taken ran took =
    let none : took.left ≡ [] = subst (λ (h : Option Halt). Leaves servers jobs w.player w.pass took.left h) ran took.leaves in
    took.split ∙ ap (λ ps. places_by w.done.items ++ ps) none ∙ append-nil (places_by w.done.items)

-- an agent that ran until then halts at what it takes
pub took_halted : (servers : ℕ) (jobs : List NamedJob) (w v : Worked) (why : Halt) (taken : List ℕ) (place : ℕ) → w.halt ≡ None → v.done.items ≡ w.done.items → v.halt ≡ Some why
    → Leaves servers jobs v.player v.pass (place ∷ []) (Some why) → Took servers jobs w taken
    → Took servers jobs v (taken ++ place ∷ [])
took_halted servers jobs w v why taken place ran same halts leaves took = record {
  left = place ∷ [];
  split = ap (λ ps. ps ++ place ∷ []) (took_all servers jobs w taken ran took ∙ ap places_by (sym same));
  leaves = subst (λ (h : Option Halt). Leaves servers jobs v.player v.pass (place ∷ []) h) (sym halts) leaves;
}

places_push : (ds : List JobDone) (d : JobDone) → places_by (ds ++ d ∷ []) ≡ places_by ds ++ d.place ∷ []
places_push [] d = refl
places_push (x ∷ ds) d = ap (λ ps. x.place ∷ ps) (places_push ds d)

-- or does it
pub took_done : (servers : ℕ) (jobs : List NamedJob) (w v : Worked) (d : JobDone) (taken : List ℕ) → w.halt ≡ None → v.done.items ≡ w.done.items ++ d ∷ [] → v.halt ≡ None
    → Took servers jobs w taken → Took servers jobs v (taken ++ d.place ∷ [])
took_done servers jobs w v d taken ran more still took = record {
  left = [];
  split = ap (λ ps. ps ++ d.place ∷ []) (took_all servers jobs w taken ran took) ∙ sym (append-nil (places_by v.done.items) ∙ ap places_by more ∙ places_push w.done.items d);
  leaves = subst (λ (h : Option Halt). Leaves servers jobs v.player v.pass [] h) (sym still) refl;
}

-- ---- all agents

pub all_took_more : (servers : ℕ) (jobs : List NamedJob) (worked : List Worked) (one : Worked) (taken own : List ℕ) → AllTook servers jobs worked taken → Took servers jobs one own → AllTook servers jobs (worked ++ one ∷ []) (taken ++ own)
all_took_more servers jobs [] one taken own all took = (own, [], ap (λ ps. ps ++ own) all ∙ sym (append-nil own), took, refl)
all_took_more servers jobs (w ∷ worked) one taken own all took = (
  all.0,
  all.1 ++ own,
  ap (λ ps. ps ++ own) all.2 ∙ append_assoc all.0 all.1 own,
  all.3,
  all_took_more servers jobs worked one all.1 own all.4 took,
)

-- ---- how often a place stands in a list

abbrev same_place : ℕ → ℕ → ℕ
same_place zero zero = 1
same_place zero (suc n) = 0
same_place (suc m) zero = 0
same_place (suc m) (suc n) = same_place m n

same_here : (p : ℕ) → same_place p p ≡ 1
same_here zero = refl
same_here (suc p) = same_here p

same_or : (p x : ℕ) → (x ≡ p) ⊎ (same_place p x ≡ 0)
same_or zero zero = inl refl
same_or zero (suc x) = inr refl
same_or (suc p) zero = inr refl
same_or (suc p) (suc x) = ⊎_elim (λ (h : x ≡ p). inl (ap suc h)) (λ (h : same_place p x ≡ 0). inr h) (same_or p x)

times_at : (p : ℕ) (xs : List ℕ) (i : ℕ) → i < length xs → get_or xs i p ≡ p → 0 < weigh (same_place p) xs
times_at p [] i low is = absurd (omega arith)
times_at p (x ∷ xs) zero low is = let here : same_place p x ≡ 1 = ap (same_place p) is ∙ same_here p in omega arith
times_at p (x ∷ xs) (suc i) low is = let more = times_at p xs i (omega arith) is in omega arith

holds_some : (p : ℕ) (xs : List ℕ) → Contains xs p → 0 < weigh (same_place p) xs
holds_some p xs has = times_at p xs has.0 has.1 has.2

some_holds : (p : ℕ) (xs : List ℕ) → 0 < weigh (same_place p) xs → Contains xs p
some_holds p [] few = absurd (omega arith)
some_holds p (x ∷ xs) few =
    ⊎_elim (λ (here : x ≡ p). (0, (omega arith), here))
    (λ (apart : same_place p x ≡ 0).
    let more = some_holds p xs (omega arith) in
    (suc more.0, (let low = more.1 in omega arith), more.2))
    (same_or p x)

below_far : (n p : ℕ) → n ≤ p → weigh (same_place p) (places_below n) ≡ 0
below_far zero p far = refl
below_far (suc n) p far =
    let more = below_far n p (omega arith) in
    let all = weigh_append (same_place p) (places_below n) (n ∷ []) in
    let apart = ⊎_elim (λ (here : n ≡ p). absurd (omega arith)) (λ (h : same_place p n ≡ 0). h) (same_or p n) in
    omega arith

below_once : (n p : ℕ) → weigh (same_place p) (places_below n) ≤ 1
below_once zero p = omega arith
below_once (suc n) p =
    let all = weigh_append (same_place p) (places_below n) (n ∷ []) in
    ⊎_elim (λ (here : n ≡ p). let none = below_far n p (omega arith) in let one = ap (same_place p) here ∙ same_here p in omega arith)
    (λ (apart : same_place p n ≡ 0). let more = below_once n p in omega arith) (same_or p n)

below_there : (n p : ℕ) → p < n → 0 < weigh (same_place p) (places_below n)
below_there zero p low = absurd (omega arith)
below_there (suc n) p low =
    let all = weigh_append (same_place p) (places_below n) (n ∷ []) in
    ⊎_elim (λ (here : n ≡ p). let one = ap (same_place p) here ∙ same_here p in omega arith)
    (λ (apart : same_place p n ≡ 0).
    let not : n ≢ p = λ same. let one = ap (same_place p) same ∙ same_here p in omega arith in
    let more = below_there n p (omega arith) in
    omega arith) (same_or p n)

-- ---- what agents took, and what they did of it

done_few : (servers : ℕ) (jobs : List NamedJob) (worked : List Worked) (taken : List ℕ) (p : ℕ) → AllTook servers jobs worked taken → weigh (same_place p) (places worked) ≤ weigh (same_place p) taken
done_few servers jobs [] taken p all = omega arith
done_few servers jobs (w ∷ worked) taken p all =
    let more = done_few servers jobs worked all.1 p all.4 in
    let own = all.3 in
    let both = ap (weigh (same_place p)) all.2 ∙ weigh_append (same_place p) all.0 all.1 in
    let mine = ap (weigh (same_place p)) own.split ∙ weigh_append (same_place p) (places_by w.done.items) own.left in
    let done = weigh_append (same_place p) (places_by w.done.items) (places worked) in
    omega arith

-- an agent that left a place left more than all did
left_more : (servers : ℕ) (jobs : List NamedJob) (w : Worked) (worked : List Worked) (taken : List ℕ) (p : ℕ) (all : AllTook servers jobs (w ∷ worked) taken)
    → Contains all.3.left p → weigh (same_place p) (places (w ∷ worked)) < weigh (same_place p) taken
left_more servers jobs w worked taken p all has =
    let more = done_few servers jobs worked all.1 p all.4 in
    let own = all.3 in
    let both = ap (weigh (same_place p)) all.2 ∙ weigh_append (same_place p) all.0 all.1 in
    let mine = ap (weigh (same_place p)) own.split ∙ weigh_append (same_place p) (places_by w.done.items) own.left in
    let done = weigh_append (same_place p) (places_by w.done.items) (places worked) in
    let some = holds_some p own.left has in
    omega arith

later_more : (servers : ℕ) (jobs : List NamedJob) (w : Worked) (worked : List Worked) (taken : List ℕ) (p : ℕ) (all : AllTook servers jobs (w ∷ worked) taken) → weigh (same_place p) (places worked) < weigh (same_place p) all.1
    → weigh (same_place p) (places (w ∷ worked)) < weigh (same_place p) taken
later_more servers jobs w worked taken p all more =
    let own = all.3 in
    let both = ap (weigh (same_place p)) all.2 ∙ weigh_append (same_place p) all.0 all.1 in
    let mine = ap (weigh (same_place p)) own.split ∙ weigh_append (same_place p) (places_by w.done.items) own.left in
    let done = weigh_append (same_place p) (places_by w.done.items) (places worked) in
    omega arith

strange_here : (servers : ℕ) (jobs : List NamedJob) (w : Worked) (left : List ℕ) (halt : Option Halt) (later : Option ℕ) (place : ℕ)
    → Leaves servers jobs w.player w.pass left halt → strange_or halt later ≡ Some place → Contains left place ⊎ (later ≡ Some place)
strange_here servers jobs w left None later place leaves is = inr is
strange_here servers jobs w left (Some Lacked) later place leaves is = inr is
strange_here servers jobs w left (Some (Stuck job)) later place leaves is = inr is
strange_here servers jobs w left (Some (Strange at)) later place leaves is = inl (subst (λ p. Contains left p) (same_Some at place is) leaves)

strange_taken : (servers : ℕ) (jobs : List NamedJob) (worked : List Worked) (taken : List ℕ) (place : ℕ) → AllTook servers jobs worked taken → first_strange worked ≡ Some place
    → weigh (same_place place) (places worked) < weigh (same_place place) taken
strange_taken servers jobs [] taken place all is = cc
strange_taken servers jobs (w ∷ worked) taken place all is =
    ⊎_elim (λ (has : Contains all.3.left place). left_more servers jobs w worked taken place all has)
    (λ (later : first_strange worked ≡ Some place). later_more servers jobs w worked taken place all (strange_taken servers jobs worked all.1 place all.4 later))
    (strange_here servers jobs w all.3.left w.halt (first_strange worked) place all.3.leaves is)

-- a place that an agent got stuck at
record StuckAt (jobs : List NamedJob) (done taken : List ℕ) : Type 0 where
  place : ℕ
  low : place < length jobs
  more : weigh (same_place place) done < weigh (same_place place) taken

stuck_here : (servers : ℕ) (jobs : List NamedJob) (w : Worked) (worked : List Worked) (taken : List ℕ) (all : AllTook servers jobs (w ∷ worked) taken) (halt : Option Halt)
    (later : Option ℕ) (job : ℕ) → Leaves servers jobs w.player w.pass all.3.left halt
    → stuck_or halt later ≡ Some job → StuckAt jobs (places (w ∷ worked)) taken ⊎ (later ≡ Some job)
stuck_here servers jobs w worked taken all None later job leaves is = inr is
stuck_here servers jobs w worked taken all (Some Lacked) later job leaves is = inr is
stuck_here servers jobs w worked taken all (Some (Strange at)) later job leaves is = inr is
stuck_here servers jobs w worked taken all (Some (Stuck at)) later job leaves is =
    inl (record { place = leaves.place; low = slice_get_within jobs leaves.place leaves.named leaves.there; more = left_more servers jobs w worked taken leaves.place all leaves.took })

stuck_taken : (servers : ℕ) (jobs : List NamedJob) (worked : List Worked) (taken : List ℕ) (job : ℕ) → AllTook servers jobs worked taken → first_stuck worked ≡ Some job → StuckAt jobs (places worked) taken
stuck_taken servers jobs [] taken job all is = cc
stuck_taken servers jobs (w ∷ worked) taken job all is =
    ⊎_elim (λ (at : StuckAt jobs (places (w ∷ worked)) taken). at)
    (λ (later : first_stuck worked ≡ Some job).
    let at = stuck_taken servers jobs worked all.1 job all.4 later in
    record { place = at.place; low = at.low; more = later_more servers jobs w worked taken at.place all at.more })
    (stuck_here servers jobs w worked taken all w.halt (first_stuck worked) job all.3.leaves is)

-- what is left was left by one who got stuck, where memory sufficed and nobody took a strange one
left_by : (servers : ℕ) (jobs : List NamedJob) (w : Worked) (left : List ℕ) (p : ℕ) (halt : Option Halt) (a : Bool) (b c : Option ℕ)
    → Leaves servers jobs w.player w.pass left halt → lacked_or halt a ≡ false → strange_or halt b ≡ None → stuck_or halt c ≡ None
    → (left ≡ []) × (a ≡ false) × (b ≡ None) × (c ≡ None)
left_by servers jobs w left p None a b c leaves x y z = (leaves, x, y, z)
left_by servers jobs w left p (Some Lacked) a b c leaves x y z = cc
left_by servers jobs w left p (Some (Strange at)) a b c leaves x y z = cc
left_by servers jobs w left p (Some (Stuck job)) a b c leaves x y z = cc

all_done : (servers : ℕ) (jobs : List NamedJob) (worked : List Worked) (taken : List ℕ) (p : ℕ) → AllTook servers jobs worked taken → lacks_memory worked ≡ false → first_strange worked ≡ None → first_stuck worked ≡ None
    → weigh (same_place p) (places worked) ≡ weigh (same_place p) taken
all_done servers jobs [] taken p all x y z = sym (ap (weigh (same_place p)) all)
all_done servers jobs (w ∷ worked) taken p all x y z =
    let one = left_by servers jobs w all.3.left p w.halt (lacks_memory worked) (first_strange worked) (first_stuck worked) all.3.leaves x y z in
    let more = all_done servers jobs worked all.1 p all.4 one.1 one.2 one.3 in
    let both = ap (weigh (same_place p)) all.2 ∙ weigh_append (same_place p) all.0 all.1 in
    let mine = ap (weigh (same_place p)) (all.3.split ∙ ap (λ ps. places_by w.done.items ++ ps) one.0) ∙ weigh_append (same_place p) (places_by w.done.items) [] in
    let done = weigh_append (same_place p) (places_by w.done.items) (places worked) in
    omega arith

-- ---- what is told

pub no_stranger : (servers : ℕ) (jobs : List NamedJob) (worked : List Worked) (place : ℕ) → AreTaken servers jobs worked → first_strange worked ≡ Some place → length jobs ≤ place → ⊥
no_stranger servers jobs worked place taken is far =
    let some = strange_taken servers jobs worked taken.0 place taken.1 is in
    let same = taken.2 (same_place place) in
    let none = below_far (length jobs) place far in
    omega arith

pub no_double : (servers : ℕ) (jobs : List NamedJob) (worked : List Worked) (job : ℕ) → AreTaken servers jobs worked → IsDouble jobs (places worked) job → ⊥
no_double servers jobs worked job taken is =
    let place = is.place in
    let few = done_few servers jobs worked taken.0 place taken.1 in
    let same = taken.2 (same_place place) in
    let once = below_once (length jobs) place in
    let all = ap (weigh (same_place place)) is.twice.split ∙ weigh_append (same_place place) is.twice.before (place ∷ is.twice.after) in
    let again = holds_some place is.twice.before is.twice.again in
    let here = same_here place in
    omega arith

pub no_second : (servers : ℕ) (jobs : List NamedJob) (worked : List Worked) (job : ℕ) → AreTaken servers jobs worked → HaveOne jobs (places worked) → first_stuck worked ≡ Some job → ⊥
no_second servers jobs worked job taken one is =
    let at = stuck_taken servers jobs worked taken.0 job taken.1 is in
    let more = at.more in
    let same = taken.2 (same_place at.place) in
    let once = below_once (length jobs) at.place in
    let some = holds_some at.place (places worked) (one.all at.place at.low) in
    omega arith

pub has_stuck : (servers : ℕ) (jobs : List NamedJob) (worked : List Worked) (job : ℕ) → AreTaken servers jobs worked → NoneFailed worked → IsMissing jobs (places worked) job → first_stuck worked ≢ None
has_stuck servers jobs worked job taken none missing ran =
    let place = missing.place in
    let whole = all_done servers jobs worked taken.0 place taken.1 none.memory none.strange ran in
    let same = taken.2 (same_place place) in
    let low = slice_get_within jobs place missing.named missing.there in
    let there = below_there (length jobs) place low in
    missing.none (some_holds place (places worked) (omega arith))

pub fault_of : (servers : ℕ) (jobs : List NamedJob) (seats : List SeatedAgent) (worked : List Worked) (fault : PoolFault) → AllZip (IsWorkOf jobs) seats worked
    → AreTaken servers jobs worked → TellsOf jobs worked fault → IsFaultOf jobs fault
fault_of servers jobs seats worked Memory all taken tells = tt
fault_of servers jobs seats worked (Stranger place) all taken tells = no_stranger servers jobs worked place taken tells.1 (strange_is jobs seats worked place all tells.1)
fault_of servers jobs seats worked (Double job) all taken tells =
    ⊎_elim (λ (d : IsDouble jobs (places worked) job). no_double servers jobs worked job taken d)
    (λ (s : HaveOne jobs (places worked) × (first_stuck worked ≡ Some job)). no_second servers jobs worked job taken s.0 s.1) tells.1
fault_of servers jobs seats worked (Missing job) all taken tells =
    let is = tells.2 in
    subst (λ n. Contains (job_numbers jobs) n) (sym is.of) (number_there jobs is.place is.named is.there)

pub has_reason : {A : Type 0} (servers : ℕ) (jobs : List NamedJob) (worked : List Worked) (result : Result A PoolFault) → AreTaken servers jobs worked → Gathers jobs worked result → HasReason worked result
has_reason servers jobs worked (Ok pool) taken gathers = tt
has_reason servers jobs worked (Err Memory) taken gathers = tt
has_reason servers jobs worked (Err (Stranger place)) taken gathers = tt
has_reason servers jobs worked (Err (Double job)) taken gathers = tt
has_reason servers jobs worked (Err (Missing job)) taken gathers = has_stuck servers jobs worked job taken gathers.0 gathers.2

pub fault_in : {A : Type 0} (servers : ℕ) (jobs : List NamedJob) (seats : List SeatedAgent) (worked : List Worked) (result : Result A PoolFault)
    → AllZip (IsWorkOf jobs) seats worked → AreTaken servers jobs worked → Gathers jobs worked result → IfErr result (IsFaultOf jobs)
fault_in servers jobs seats worked (Ok pool) all taken gathers = tt
fault_in servers jobs seats worked (Err fault) all taken gathers = fault_of servers jobs seats worked fault all taken gathers

pub by_ok : {T E : Type 0} (P Q : T → Type 0) → ((x : T) → P x → Q x) → (result : Result T E) → IfOk result P → IfOk result Q
by_ok P Q more (Ok x) holds = more x holds
by_ok P Q more (Err e) holds = tt
