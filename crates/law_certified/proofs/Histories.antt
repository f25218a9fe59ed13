-- What stands in a history that is certified was served so in the run; so who was finished first was decided first, and changes are met.
use Rattle.law_certified.proofs.Vocabulary.{◌≡◌, ⊎_elim, ℕ, Bool, true, false, cond, List, [], ◌∷◌, ◌++◌, Option, Some, None, refl, sym, ap, subst, ◌∙◌, nat_eq, Contains, Result, Ok, Err, cons_option, append-nil, IsAccepted, Opening}
use Rattle.law_certified.proofs.Vocabulary.{Answer, Refusal, PlainTable, replies, Verdict, Has, has_from, contains_from, Fixed, fixed_of, Event, Served, World, opening, step, after, dones, done_in, run, Decided, decisions, played_on}
use Rattle.law_certified.proofs.Vocabulary.{table_with, table_after_all, dones-append, Item, IsDecidedAs, IsMet, IsNotDecided, asks_for_itself, EndedSo, later_decisions, decisions_go_on, finish_is_after, finished_before}
use Rattle.law_certified.proofs.Vocabulary.{append_has_left, AgentEntry, items_of, weave, asker, item_by, items_from, served_as, CertifiedIsPromised, StandsFirst, FinishedBeforeInHistory, ChangesAreMetInHistory, TellsOfTime}
use Rattle.file_ops.specs.Rows as rows
use Rattle.rep_core.specs.declared.request.Request.TheVariants as request
use Rattle.rep_core.specs.declared.reply.Verdict.TheVariants as verdict
use Rattle.run_core.specs.TableOfRun as table

-- ---- where an item of a server was served

-- the event of a run that served an item, where it is the first of these that a server served after some others; what that server served later stands behind it
record IsServedAt (fixed : Fixed) (world : World) (events : List Event) (server : ℕ) (item : Item) (rest : List Item) : Type 0 where
  firsts : List Event
  event : Event
  later : List Event
  what : Served
  is : events ≡ firsts ++ event ∷ later
  served : (step fixed (after fixed world firsts) event).done.served ≡ Some what
  same : what.request ≡ item.request
  behind : items_of server (items_from fixed (step fixed (after fixed world firsts) event).world later) ≡ rest

nil_not : (before : List Item) (item : Item) (rest : List Item) → [] ≡ before ++ item ∷ rest → ⊥
nil_not [] item rest is = cc
nil_not (one ∷ before) item rest is = cc

heads : (a b : Item) (xs ys : List Item) → a ∷ xs ≡ b ∷ ys → a ≡ b
heads a b xs ys is = cc

tails : (a b : Item) (xs ys : List Item) → a ∷ xs ≡ b ∷ ys → xs ≡ ys
tails a b xs ys is = cc

served_at : (fixed : Fixed) (server : ℕ) (item : Item) (rest : List Item) (events : List Event) (world : World) (before : List Item)
    → items_of server (items_from fixed world events) ≡ before ++ item ∷ rest → IsServedAt fixed world events server item rest
served_at fixed server item rest [] world before is = absurd (nil_not before item rest is)
served_at fixed server item rest (event ∷ events) world before is =
    of (step fixed world event).done.served refl is (λ before is. served_at fixed server item rest events (step fixed world event).world before is)
  where
    next : World
    next = (step fixed world event).world

    late : List Item
    late = items_of server (items_from fixed next events)

    on : IsServedAt fixed (step fixed world event).world events server item rest → IsServedAt fixed world (event ∷ events) server item rest
    on s = record {
      firsts = event ∷ s.firsts;
      event = s.event;
      later = s.later;
      what = s.what;
      is = ap (λ events. event ∷ events) s.is;
      served = s.served;
      same = s.same;
      behind = s.behind;
    }

    here : (what : Served) → (step fixed world event).done.served ≡ Some what → (before : List Item) → (item_by (asker event) what).item ∷ late ≡ before ++ item ∷ rest
        → ((before : List Item) → late ≡ before ++ item ∷ rest → IsServedAt fixed next events server item rest) → IsServedAt fixed world (event ∷ events) server item rest
    here what found [] is go = record {
      firsts = [];
      event = event;
      later = events;
      what = what;
      is = refl;
      served = found;
      same = ap (λ (one : Item). one.request) (heads (item_by (asker event) what).item item late rest is);
      behind = tails (item_by (asker event) what).item item late rest is;
    }
    here what found (one ∷ before) is go = on (go before (tails (item_by (asker event) what).item one late (before ++ item ∷ rest) is))

    at : (what : Served) → (step fixed world event).done.served ≡ Some what → (b : Bool) → cons_option (cond b (Some (item_by (asker event) what).item) None) late ≡ before ++ item ∷ rest
        → ((before : List Item) → late ≡ before ++ item ∷ rest → IsServedAt fixed next events server item rest) → IsServedAt fixed world (event ∷ events) server item rest
    at what found true is go = here what found before is go
    at what found false is go = on (go before is)

    of : (found : Option Served) → (step fixed world event).done.served ≡ found → items_of server (cons_option (served_as (asker event) found) (items_from fixed next events)) ≡ before ++ item ∷ rest
        → ((before : List Item) → late ≡ before ++ item ∷ rest → IsServedAt fixed next events server item rest) → IsServedAt fixed world (event ∷ events) server item rest
    of None found is go = on (go before is)
    of (Some what) found is go = at what found (nat_eq what.server server) is go

-- what was done in a run, in three parts
parts_of_done : (fixed : Fixed) (world : World) (events firsts later : List Event) (event : Event) → events ≡ firsts ++ event ∷ later
    → dones fixed world events ≡ dones fixed world firsts ++ (step fixed (after fixed world firsts) event).done ∷ dones fixed (step fixed (after fixed world firsts) event).world later
parts_of_done fixed world events firsts later event is = ap (dones fixed world) is ∙ dones-append fixed world firsts (event ∷ later)

-- ---- who was finished first

-- of a run that served what a history has
finished_first : (given : Opening) → IsAccepted given → (events : List Event) (server : ℕ) (before between after' : List Item) (finish asked : Item) (t : ℕ) (v : Verdict) (second : Decided)
    → items_of server (items_from (fixed_of given) (opening given) events) ≡ before ++ finish ∷ (between ++ asked ∷ after')
    → finish.request.value ≡ request.Finish t v → asks_for_itself second.t asked.request.value ≡ true → StandsFirst (decisions given events) t v second
finished_first given accepted events server before between after' finish asked t v second is finishes own = of v finishes ended
  where
    fixed : Fixed
    fixed = fixed_of given

    a : IsServedAt fixed (opening given) events server finish (between ++ asked ∷ after')
    a = served_at fixed server finish (between ++ asked ∷ after') events (opening given) before is

    next : World
    next = (step fixed (run given a.firsts) a.event).world

    b : IsServedAt fixed next a.later server asked after'
    b = served_at fixed server asked after' a.later next between a.behind

    told : a.what.request.value ≡ request.Finish t v
    told = ap (λ request. request.value) a.same ∙ finishes

    ended : EndedSo given a.firsts t v
    ended = finish_is_after.served given accepted a.firsts a.event a.what t v a.served told

    done : done_in given events ≡ dones fixed (opening given) a.firsts ++ (step fixed (run given a.firsts) a.event).done
        ∷ (dones fixed next b.firsts ++ (step fixed (after fixed next b.firsts) b.event).done ∷ dones fixed (step fixed (after fixed next b.firsts) b.event).world b.later)
    done = parts_of_done fixed (opening given) events a.firsts a.later a.event a.is
        ∙ ap (λ later. dones fixed (opening given) a.firsts ++ (step fixed (run given a.firsts) a.event).done ∷ later) (parts_of_done fixed next a.later b.firsts b.later b.event b.is)

    met : (v : Verdict) (answer : Result (List Answer) Refusal) → finish.request.value ≡ request.Finish t v → IsDecidedAs (decisions given a.firsts) t answer → IsMet (decisions given events) t answer second
    met v answer finishes decided =
        let there : Contains (decisions given events) decided.decision =
        contains_from (decisions given events) decided.decision (subst (λ ds. Has ds decided.decision) (sym (decisions_go_on given a.firsts (a.event ∷ a.later)) ∙ sym (ap (decisions given) a.is))
        (append_has_left (decisions given a.firsts) (later_decisions given a.firsts (a.event ∷ a.later)) decided.decision (has_from (decisions given a.firsts) decided.decision decided.there))) in
        record {
          change = decided.decision;
          there = there;
          of_it = decided.of_it;
          answered = decided.answered;
          before = finished_before given accepted events (dones fixed (opening given) a.firsts) (dones fixed next b.firsts) (dones fixed (step fixed (after fixed next b.firsts) b.event).world b.later)
              (step fixed (run given a.firsts) a.event).done (step fixed (after fixed next b.firsts) b.event).done a.what b.what v decided.decision second done a.served
              (ap (λ request. request.value) a.same ∙ finishes ∙ ap (λ t. request.Finish t v) (sym decided.of_it))
              b.served (ap (λ request. asks_for_itself second.t request.value) b.same ∙ own) there;
        }

    of : (v : Verdict) → finish.request.value ≡ request.Finish t v → EndedSo given a.firsts t v → StandsFirst (decisions given events) t v second
    of (verdict.Answered answers) finishes decided = met (verdict.Answered answers) (Ok answers) finishes decided
    of (verdict.Refused refusal) finishes decided = met (verdict.Refused refusal) (Err refusal) finishes decided
    of verdict.Aborted finishes never = subst (λ events. IsNotDecided (decisions given events) t) (sym a.is) (never (a.event ∷ a.later))

pub finished_before_in_history : FinishedBeforeInHistory
finished_before_in_history given accepted histories transcripts ds is server before between after' finish asked t v second there finishes own =
    let c = is.certified in
    subst (λ ds. StandsFirst ds t v second) (sym is.decided)
    (finished_first given accepted (weave c.items transcripts) server before between after' finish asked t v second
    (ap (items_of server) c.run.served ∙ c.merge.each server ∙ there) finishes own)

-- ---- changes are met

-- where a member stands
record StandsAt (all : List Decided) (one : Decided) : Type 0 where
  before : List Decided
  after' : List Decided
  parts : all ≡ before ++ one ∷ after'

stands_at : (all : List Decided) (one : Decided) → Has all one → StandsAt all one
stands_at [] one has = absurd has
stands_at (d ∷ all) one has =
    ⊎_elim
    (λ is. record { before = []; after' = all; parts = ap (λ d. d ∷ all) is })
    (λ rest. let at = stands_at all one rest in record { before = d ∷ at.before; after' = at.after'; parts = ap (λ all. d ∷ all) at.parts })
    has

-- its answer is that of the table after those before it
answer_at : (plain : PlainTable) (before : List Decided) (one : Decided) (after' : List Decided) → table.AnswersAreTheTables plain (before ++ one ∷ after') → one.answer ≡ replies (played_on (table_after_all plain before) one)
answer_at plain [] one after' answers = answers.0
answer_at plain (d ∷ before) one after' answers = answer_at (table_with plain d) before one after' answers.1

pub changes_are_met_in_history : ChangesAreMetInHistory
changes_are_met_in_history given accepted histories transcripts promised ds is server before between after' finish asked t answers second there finishes own stands =
    let met : IsMet ds t (Ok answers) second = finished_before_in_history given accepted histories transcripts ds is server before between after' finish asked t (verdict.Answered answers) second there finishes own in
    let events = weave is.certified.items transcripts in
    let so = subst (table.AnswersAreTheTables (rows.opening given)) (sym is.decided) (promised is.certified events [] (sym (append-nil events))).1.answers in
    let at = stands_at ds second (has_from ds second stands) in
    record {
      before = at.before;
      after = at.after';
      parts = at.parts;
      change = met.change;
      there = met.before at.before at.after' at.parts;
      of_it = met.of_it;
      answered = met.answered;
      answers = answer_at (rows.opening given) at.before second at.after' (subst (table.AnswersAreTheTables (rows.opening given)) at.parts so);
    }

pub tells_of_time : (given : Opening) → IsAccepted given → (histories : List (List Item)) (transcripts : List (List AgentEntry)) → CertifiedIsPromised given histories transcripts → TellsOfTime given histories transcripts
tells_of_time given accepted histories transcripts promised = record {
  finished = finished_before_in_history given accepted histories transcripts;
  changes = changes_are_met_in_history given accepted histories transcripts promised;
}
