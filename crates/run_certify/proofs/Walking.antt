-- One step of the walk after another.
use Rattle.run_certify.proofs.Vocabulary.{◌≡◌, ◌⊎◌, ℕ, ◌<◌, true, false, List, [], ◌∷◌, ◌++◌, length, slice_set, subst, refl, ap, ◌∙◌, sym, arith, append_assoc, append-nil, Option, Some, None, cons_option, same_Some, IsAccepted, Fixed, fixed_of, Job}
use Rattle.run_certify.proofs.Vocabulary.{EndedJob, Event, Begin, Step, Crash, Return, Forget, Lack, Decided, decided, has_sense, World, step, Item, AgentEntry, Asked, Ended, AreCounted, HasPlace, IsCounted, counts_after, jobs_after, ItemAt}
use Rattle.run_certify.proofs.Vocabulary.{agent_of, asker, entries_by, served_as, event_of, operated, transcript_of, AreAllPlayed, IsLeast, IsTaken, at_server, IsTurn, is_asked, Fails, Goes, IsLeft, IsOfRun, IsSound, IsUse, Walked}
use Rattle.run_certify.proofs.Bridge.{decides, next, puts, sense, serves}
use Rattle.run_certify.proofs.Counted.{count_on}
use Rattle.run_certify.proofs.Deciding.{goes_on}
use Rattle.run_certify.proofs.Facts.{asks_as, no_end, operator_serves}
use Rattle.run_certify.proofs.Lists.{cons_append, long_set, no_cons}
use Rattle.run_certify.proofs.Moves as moves

-- ---- of the run

module _ (fixed : Fixed) where
  abbrev pub Left : World → List ItemAt → List (List Item) → List (List AgentEntry) → List Decided → Type 0
  Left = moves.IsLeft (next fixed) (sense fixed) (serves fixed) (puts fixed) (decides fixed)

  pub to_left : (w : World) (taken : List ItemAt) (histories : List (List Item)) (unused : List (List AgentEntry)) (ds : List Decided) → Left w taken histories unused ds → IsLeft fixed w taken histories unused ds
  to_left w taken histories unused ds left = search arith

  pub from_left : (w : World) (taken : List ItemAt) (histories : List (List Item)) (unused : List (List AgentEntry)) (ds : List Decided) → IsLeft fixed w taken histories unused ds → Left w taken histories unused ds
  from_left w taken histories unused ds left = search arith

-- ---- one step after the other

pub goes_nowhere : (was : Walked) (taken : List ItemAt) → Goes was taken was taken
goes_nowhere was taken = record { sound = λ s. s; on = λ s total run. run; back = λ s total run. run }

pub goes_further : (a b c : Walked) (x y z : List ItemAt) → Goes a x b y → Goes b y c z → Goes a x c z
goes_further a b c x y z one two = search arith

pub fails_further : (a b : Walked) (x y : List ItemAt) → Goes a x b y → Fails b y → Fails a x
fails_further a b x y one fails = λ s total run. fails (one.sound s) total (one.on s total run)

-- ---- an event

-- the event was played, and this was decided in it; these entries are then unused
pub record IsAfter (was : Walked) (event : Event) (left : List (List AgentEntry)) (ds : List Decided) (now : Walked) : Type 0 where
  pub settings : now.settings ≡ was.settings
  pub given : now.given ≡ was.given
  pub world : now.world ≡ (step (fixed_of was.given) was.world event).world
  pub histories : now.histories ≡ was.histories
  pub unused : now.unused ≡ left
  pub jobs : now.begun.jobs ≡ jobs_after was.begun.jobs event
  pub counts : now.begun.counts ≡ counts_after was.begun.counts event
  pub made : now.made ≡ was.made ++ ds

-- an agent of an event has its place
abbrev pub HasSeat : ℕ → Event → Type 0
HasSeat seats event = (agent : ℕ) → agent_of event ≡ Some agent → agent < seats

place_of : (jobs : List (Option Job)) (seats : ℕ) (event : Event) → length jobs ≡ seats → HasSeat seats event → HasPlace jobs event
place_of jobs seats (Begin agent job) long seat = let l = seat agent refl in omega arith
place_of jobs seats (Step agent) long seat = tt
place_of jobs seats (Crash server) long seat = tt
place_of jobs seats (Return server) long seat = tt
place_of jobs seats (Forget agent site) long seat = tt
place_of jobs seats (Lack agent why) long seat = tt

counted_of : (counts : List ℕ) (seats : ℕ) (event : Event) → length counts ≡ seats → HasSeat seats event → IsCounted counts event
counted_of counts seats (Begin agent job) long seat = let l = seat agent refl in omega arith
counted_of counts seats (Step agent) long seat = tt
counted_of counts seats (Crash server) long seat = tt
counted_of counts seats (Return server) long seat = tt
counted_of counts seats (Forget agent site) long seat = tt
counted_of counts seats (Lack agent why) long seat = tt

jobs_long : (jobs : List (Option Job)) (event : Event) → length (jobs_after jobs event) ≡ length jobs
jobs_long jobs event = search (long_set, arith)

counts_long : (counts : List ℕ) (event : Event) → length (counts_after counts event) ≡ length counts
counts_long counts event = search (long_set, arith)

pub sound_after : (was now : Walked) (event : Event) (left : List (List AgentEntry)) (ds : List Decided) → IsAfter was event left ds now → length left ≡ length was.unused → HasSeat (length was.unused) event
    → has_sense (fixed_of was.given) was.world event ≡ true → IsSound was → IsSound now
sound_after was now event left ds after long seat has sound = record {
  accepted = subst (λ g. IsAccepted g) (sym after.given) sound.accepted;
  same = after.settings ∙ sound.same ∙ sym after.given;
  played = search (goes_on, place_of, arith);
  counted = subst (λ w. AreCounted w now.begun.counts) (sym after.world) (subst (λ cs. AreCounted (step (fixed_of was.given) was.world event).world cs) (sym after.counts)
      (count_on (fixed_of was.given) was.world was.begun.counts sound.counted event has (counted_of was.begun.counts (length was.unused) event sound.counts_there seat)));
  jobs_there = ap (λ js. length js) after.jobs ∙ jobs_long was.begun.jobs event ∙ sound.jobs_there ∙ sym long ∙ sym (ap (λ us. length us) after.unused);
  counts_there = ap (λ cs. length cs) after.counts ∙ counts_long was.begun.counts event ∙ sound.counts_there ∙ sym long ∙ sym (ap (λ us. length us) after.unused);
}

module _ (was now : Walked) (event : Event) (left : List (List AgentEntry)) (ds : List Decided) (taken later : List ItemAt) (after : IsAfter was event left ds now) where
  abbrev world : World
  world = (step (fixed_of was.given) was.world event).world

  there : (more : List Decided) → IsLeft (fixed_of was.given) world later was.histories left more → IsLeft (fixed_of now.given) now.world later now.histories now.unused more
  there more is = search arith

  here : (more : List Decided) → IsLeft (fixed_of now.given) now.world later now.histories now.unused more → IsLeft (fixed_of was.given) world later was.histories left more
  here more is = search arith

  pub after_on : ((all : List Decided) → IsLeft (fixed_of was.given) was.world taken was.histories was.unused all → (more : List Decided) × (all ≡ ds ++ more) × IsLeft (fixed_of was.given) world later was.histories left more)
      → (total : List Decided) → IsOfRun was taken total → IsOfRun now later total
  after_on goes total run =
      let h = goes run.later run.left in
      record {
        later = h.0;
        parts = run.parts ∙ ap (λ xs. was.made ++ xs) h.1 ∙ sym (append_assoc was.made ds h.0) ∙ ap (λ xs. xs ++ h.0) (sym after.made);
        left = there h.0 h.2;
      }

  pub after_back : ((more : List Decided) → IsLeft (fixed_of was.given) world later was.histories left more → IsLeft (fixed_of was.given) was.world taken was.histories was.unused (ds ++ more))
      → (total : List Decided) → IsOfRun now later total → IsOfRun was taken total
  after_back goes total run = search (append_assoc, here, arith)

none_some : (agent : ℕ) → ◌≡◌ {A = Option ℕ} None (Some agent) → ⊥
none_some agent e = cc

-- ---- an entry

-- the event of an entry without a stamp was played, and these entries are left of the agent's
pub record IsEntryPlayed (was : Walked) (agent : ℕ) (entry : AgentEntry) (event : Event) (rest : List AgentEntry) : Type 0 where
  pub other : is_asked entry ≡ false
  pub spells : event_of agent entry ≡ Some event
  pub of : agent_of event ≡ Some agent
  pub has : IsSound was → has_sense (fixed_of was.given) was.world event ≡ true
  pub quiet : served_as (asker event) (step (fixed_of was.given) was.world event).done.served ≡ None
  pub silent : decided (fixed_of was.given) was.world event ≡ None
  pub told : transcript_of was.unused agent ≡ entries_by (fixed_of was.given) was.world event (step (fixed_of was.given) was.world event).done ++ rest

seat_of : (seats agent : ℕ) (event : Event) → agent_of event ≡ Some agent → agent < seats → HasSeat seats event
seat_of seats agent event of low other is = let e : agent ≡ other = same_Some agent other (sym of ∙ is) in omega arith

pub entry_goes : (was old now : Walked) (agent : ℕ) (entry : AgentEntry) (event : Event) (ys rest : List AgentEntry) (taken : List ItemAt) → IsUse was agent entry old → IsTurn taken was.histories was.unused agent
    → transcript_of was.unused agent ≡ entry ∷ ys → (ys ≡ rest) ⊎ ((outcome : EndedJob) × (ys ≡ Ended outcome ∷ rest)) → IsEntryPlayed was agent entry event rest
    → IsAfter was event (slice_set was.unused agent rest) [] now → Goes was taken now taken
entry_goes was old now agent entry event ys rest taken it turn at past played after =
    let fixed : Fixed = fixed_of was.given in
    let plays : IsSound was → moves.Plays (next fixed) (sense fixed) (serves fixed) (puts fixed) (decides fixed) was.world was.unused agent entry ys event rest = λ sound. record {
      there = it.used.there;
      at = at;
      other = played.other;
      spells = played.spells;
      of = played.of;
      sense_is = played.has sound;
      quiet = played.quiet;
      silent = played.silent;
      told = played.told;
      past = past;
    } in
    record {
      sound = λ sound. sound_after was now event (slice_set was.unused agent rest) [] after (long_set was.unused agent rest) (seat_of (length was.unused) agent event played.of it.used.there) (played.has sound) sound;
      on = λ sound. after_on was now event (slice_set was.unused agent rest) [] taken taken after
          (λ all left. (
            all,
            refl,
            to_left fixed _ taken was.histories (slice_set was.unused agent rest) all
                (moves.entry_on (next fixed) (sense fixed) (serves fixed) (puts fixed) (decides fixed) was.world taken was.histories was.unused agent entry ys event rest all turn
                (plays sound) (from_left fixed was.world taken was.histories was.unused all left)),
          ));
      back = λ sound. after_back was now event (slice_set was.unused agent rest) [] taken taken after
          (λ more left. to_left fixed was.world taken was.histories was.unused more
          (moves.entry_back (next fixed) (sense fixed) (serves fixed) (puts fixed) (decides fixed) was.world taken was.histories was.unused agent entry ys event rest more turn
          (plays sound) (from_left fixed _ taken was.histories (slice_set was.unused agent rest) more left)));
    }

-- the next entry of the agent spells an event without sense
pub entry_senseless : (was old : Walked) (agent : ℕ) (entry : AgentEntry) (event : Event) (taken : List ItemAt) → IsUse was agent entry old
    → IsTurn taken was.histories was.unused agent → is_asked entry ≡ false → event_of agent entry ≡ Some event
    → (IsSound was → has_sense (fixed_of was.given) was.world event ≡ false) → Fails was taken
entry_senseless was old agent entry event taken it turn other spells none = λ sound total run.
    let fixed : Fixed = fixed_of was.given in
    moves.senseless (next fixed) (sense fixed) (serves fixed) (puts fixed) (decides fixed) was.world taken was.histories was.unused agent entry it.used.rest event run.later turn it.used.first other spells (none sound)
    (from_left fixed was.world taken was.histories was.unused run.later run.left)

-- it has sense, and what is put down of it begins the agent's transcript
pub entry_so : (was old : Walked) (agent : ℕ) (entry : AgentEntry) (event : Event) (taken : List ItemAt) → IsUse was agent entry old → IsTurn taken was.histories was.unused agent → is_asked entry ≡ false → event_of agent entry ≡ Some event
    → agent_of event ≡ Some agent
    → ((rest : List AgentEntry) → has_sense (fixed_of was.given) was.world event ≡ true → transcript_of was.unused agent ≡ entries_by (fixed_of was.given) was.world event (step (fixed_of was.given) was.world event).done ++ rest → ⊥)
    → Fails was taken
entry_so was old agent entry event taken it turn other spells of none = λ sound total run.
    let fixed : Fixed = fixed_of was.given in
    let h = moves.told_so (next fixed) (sense fixed) (serves fixed) (puts fixed) (decides fixed) was.world taken was.histories was.unused agent entry it.used.rest event run.later turn it.used.first other spells of
    (from_left fixed was.world taken was.histories was.unused run.later run.left) in
    none h.1.0 h.0 h.1.1

-- no transcript begins with an end
pub ended_fails : (was old : Walked) (agent : ℕ) (outcome : EndedJob) (taken : List ItemAt) → IsUse was agent (Ended outcome) old → Fails was taken
ended_fails was old agent outcome taken it = λ sound total run.
    let fixed : Fixed = fixed_of was.given in
    moves.ended_first (next fixed) (sense fixed) (serves fixed) (puts fixed) (decides fixed) (λ w. asks_as fixed w) (λ w. no_end fixed w) was.world taken was.histories was.unused agent outcome it.used.rest run.later it.used.first
    (from_left fixed was.world taken was.histories was.unused run.later run.left)

-- ---- items

pub taken_goes : (was now : Walked) (server : ℕ) (item : Item) → IsTaken was.histories server item now.histories → now ≡ record was { histories = now.histories } → Goes was [] now (at_server server item ∷ [])
taken_goes was now server item taken is =
    let fixed : Fixed = fixed_of was.given in
    let hs : List (List Item) = slice_set was.histories server taken.later in
    let now_is : now ≡ record was { histories = hs } = is ∙ ap (λ h. record was { histories = h }) taken.set in
    subst (λ n. Goes was [] n (at_server server item ∷ [])) (sym now_is) (record {
      sound = search arith;
      on = search (to_left, moves.taken_on, next, sense, serves, puts, decides, from_left, arith);
      back = λ sound total run. record {
        later = run.later;
        parts = run.parts;
        left = to_left fixed was.world [] was.histories was.unused run.later
            (moves.taken_back (next fixed) (sense fixed) (serves fixed) (puts fixed) (decides fixed) was.world was.histories was.unused server item taken.later run.later taken.is.there taken.is.first
            (subst (λ h. IsLeast h server item) taken.set taken.after)
            (from_left fixed was.world (at_server server item ∷ []) hs was.unused run.later run.left));
      };
    })

-- the operator's item
pub operated_goes : (was now : Walked) (one : ItemAt) (event : Event) → one.item.agent ≡ None → operated one.server one.item.request.value ≡ event ∷ [] → agent_of event ≡ None
    → (IsSound was → has_sense (fixed_of was.given) was.world event ≡ true) → served_as (asker event) (step (fixed_of was.given) was.world event).done.served ≡ Some one → decided (fixed_of was.given) was.world event ≡ None
    → IsAfter was event was.unused [] now → Goes was (one ∷ []) now []
operated_goes was now one event of spells none has served silent after =
    let fixed : Fixed = fixed_of was.given in
    record {
      sound = λ sound. sound_after was now event was.unused [] after refl (λ agent is. absurd (none_some agent (sym none ∙ is))) (has sound) sound;
      on = λ sound. after_on was now event was.unused [] (one ∷ []) [] after
          (λ all left. (
            all,
            refl,
            to_left fixed _ [] was.histories was.unused all
                (moves.operated_on (next fixed) (sense fixed) (serves fixed) (puts fixed) (decides fixed) was.world one event was.histories was.unused all of spells none (has sound) served silent
                (from_left fixed was.world (one ∷ []) was.histories was.unused all left)),
          ));
      back = λ sound. after_back was now event was.unused [] (one ∷ []) [] after
          (λ more left. to_left fixed was.world (one ∷ []) was.histories was.unused more
          (moves.operated_back (next fixed) (sense fixed) (serves fixed) (puts fixed) (decides fixed) was.world one event was.histories was.unused more of spells none (has sound) served silent
          (from_left fixed _ [] was.histories was.unused more left)));
    }

pub operated_fails : (was : Walked) (one : ItemAt) (event : Event) → one.item.agent ≡ None → operated one.server one.item.request.value ≡ event ∷ []
    → (IsSound was → has_sense (fixed_of was.given) was.world event ≡ true → ((what : ItemAt) → served_as (asker event) (step (fixed_of was.given) was.world event).done.served ≡ Some what → one ≡ what) → ⊥) → Fails was (one ∷ [])
operated_fails was one event of spells none = search arith

-- an item of the operator's is that a server crashed or restarted
abbrev IsOperated : ItemAt → Type 0
IsOperated one = one.item.agent ≡ None → (event : Event) × (operated one.server one.item.request.value ≡ event ∷ [])

pub operator_fails : (was : Walked) (one : ItemAt) → one.item.agent ≡ None → operated one.server one.item.request.value ≡ [] → Fails was (one ∷ [])
operator_fails was one of none = λ sound total run.
    let fixed : Fixed = fixed_of was.given in
    moves.unlike (next fixed) (sense fixed) (serves fixed) (puts fixed) (decides fixed) (λ w. asks_as fixed w) IsOperated
    (λ w event what is who. (event, operator_serves fixed w event what (sym (asks_as fixed w event what is) ∙ who) is)) was.world one was.histories was.unused run.later
    (λ spells. let h = spells of in no_cons h.0 [] (sym none ∙ h.1))
    (from_left fixed was.world (one ∷ []) was.histories was.unused run.later run.left)

-- an item of an agent of which nothing is left
pub nothing_fails : (was : Walked) (one : ItemAt) (agent : ℕ) → one.item.agent ≡ Some agent → transcript_of was.unused agent ≡ [] → Fails was (one ∷ [])
nothing_fails was one agent of none = λ sound total run.
    let fixed : Fixed = fixed_of was.given in
    moves.nothing_of (next fixed) (sense fixed) (serves fixed) (puts fixed) (decides fixed) (λ w. asks_as fixed w) was.world one was.histories was.unused agent run.later of none
    (from_left fixed was.world (one ∷ []) was.histories was.unused run.later run.left)

-- an agent's item is served
pub asked_goes : (was now : Walked) (one : ItemAt) (agent server stamp : ℕ) (ys rest : List AgentEntry) → one.item.agent ≡ Some agent → agent < length was.unused → transcript_of was.unused agent ≡ Asked server stamp ∷ ys
    → has_sense (fixed_of was.given) was.world (Step agent) ≡ true → served_as (Some agent) (step (fixed_of was.given) was.world (Step agent)).done.served ≡ Some one
    → transcript_of was.unused agent ≡ entries_by (fixed_of was.given) was.world (Step agent) (step (fixed_of was.given) was.world (Step agent)).done ++ rest → (ys ≡ rest) ⊎ ((outcome : EndedJob) × (ys ≡ Ended outcome ∷ rest))
    → (new : IsSound was → IsAfter was (Step agent) (slice_set was.unused agent rest) (cons_option (decided (fixed_of was.given) was.world (Step agent)) []) now) → Goes was (one ∷ []) now []
asked_goes was now one agent server stamp ys rest of low at has served told past after =
    let fixed : Fixed = fixed_of was.given in
    let d : Option Decided = decided fixed was.world (Step agent) in
    let left : List (List AgentEntry) = slice_set was.unused agent rest in
    record {
      sound = λ sound. sound_after was now (Step agent) left (cons_option d []) (after sound) (long_set was.unused agent rest) (seat_of (length was.unused) agent (Step agent) refl low) has sound;
      on = λ sound. after_on was now (Step agent) left (cons_option d []) (one ∷ []) [] (after sound)
          (λ all is.
          let h = moves.asked_on (next fixed) (sense fixed) (serves fixed) (puts fixed) (decides fixed) was.world one was.histories was.unused agent server stamp ys rest all of low at has served told past
          (from_left fixed was.world (one ∷ []) was.histories was.unused all is) in
          (h.0, h.1 ∙ sym (cons_append d [] h.0), to_left fixed _ [] was.histories left h.0 h.2));
      back = λ sound. after_back was now (Step agent) left (cons_option d []) (one ∷ []) [] (after sound)
          (λ more is. to_left fixed was.world (one ∷ []) was.histories was.unused (cons_option d [] ++ more)
          (subst (λ ds. Left fixed was.world (one ∷ []) was.histories was.unused ds) (sym (cons_append d [] more))
          (moves.asked_back (next fixed) (sense fixed) (serves fixed) (puts fixed) (decides fixed) was.world one was.histories was.unused agent server stamp ys rest more of low at has served told past
          (from_left fixed _ [] was.histories left more is))));
    }

pub asked_fails : (was : Walked) (one : ItemAt) (agent server stamp : ℕ) (ys : List AgentEntry) → one.item.agent ≡ Some agent → transcript_of was.unused agent ≡ Asked server stamp ∷ ys
    → (has_sense (fixed_of was.given) was.world (Step agent) ≡ true
    → (rest : List AgentEntry) → transcript_of was.unused agent ≡ entries_by (fixed_of was.given) was.world (Step agent) (step (fixed_of was.given) was.world (Step agent)).done ++ rest
    → ((what : ItemAt) → served_as (Some agent) (step (fixed_of was.given) was.world (Step agent)).done.served ≡ Some what → one ≡ what) → ⊥)
    → Fails was (one ∷ [])
asked_fails was one agent server stamp ys of at none = λ sound total run.
    let fixed : Fixed = fixed_of was.given in
    let h = moves.asked_so (next fixed) (sense fixed) (serves fixed) (puts fixed) (decides fixed) was.world one was.histories was.unused agent server stamp ys run.later of at
    (from_left fixed was.world (one ∷ []) was.histories was.unused run.later run.left) in
    none h.0 h.1.0 h.1.1 h.2

pub rest_fails : (was : Walked) (agent server stamp : ℕ) (ys : List AgentEntry) → AreAllPlayed was.histories → ((i : ℕ) → i < agent → transcript_of was.unused i ≡ [])
    → agent < length was.unused → transcript_of was.unused agent ≡ Asked server stamp ∷ ys
    → (has_sense (fixed_of was.given) was.world (Step agent) ≡ true
    → (rest : List AgentEntry) → transcript_of was.unused agent ≡ entries_by (fixed_of was.given) was.world (Step agent) (step (fixed_of was.given) was.world (Step agent)).done ++ rest
    → ((what : ItemAt) → served_as (Some agent) (step (fixed_of was.given) was.world (Step agent)).done.served ≡ Some what → ⊥) → ⊥)
    → Fails was []
rest_fails was agent server stamp ys empty before low at none = λ sound total run.
    let fixed : Fixed = fixed_of was.given in
    let h = moves.rest_so (next fixed) (sense fixed) (serves fixed) (puts fixed) (decides fixed) was.world was.histories was.unused agent server stamp ys run.later empty before low at
    (from_left fixed was.world [] was.histories was.unused run.later run.left) in
    none h.0 h.1.0 h.1.1 h.2

-- ---- the end

pub nothing_left : (was : Walked) → AreAllPlayed was.histories → ((agent : ℕ) → transcript_of was.unused agent ≡ []) → IsOfRun was [] was.made
nothing_left was empty none = record {
  later = [];
  parts = sym (append-nil was.made);
  left = to_left (fixed_of was.given) was.world [] was.histories was.unused []
      (moves.all_done (next (fixed_of was.given)) (sense (fixed_of was.given)) (serves (fixed_of was.given)) (puts (fixed_of was.given)) (decides (fixed_of was.given)) was.world was.histories was.unused empty none);
}
