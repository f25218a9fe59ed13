-- What one server served, in its order, was served so in the run.
use Rattle.law_run_recovers.proofs.Vocabulary.{◌≡◌, ℕ, List, [], ◌∷◌, ◌++◌, Option, Some, None, refl, ap, ◌∙◌, cons_option, Served, done_in, finished_before, finished_changes_are_met, arith}
use Rattle.law_run_recovers.specs.Histories.{if_at, served_at, FinishedBeforeAtServer, ChangesAreMetAtServer}
use Rattle.run_core.specs.declared.done.Done.{Done}

abbrev head_or : Served → List Served → Served
head_or what [] = what
head_or what (other ∷ more) = other

abbrev tail_of : List Served → List Served
tail_of [] = []
tail_of (other ∷ more) = more

-- where one is among what a server served, it was served in the run, and what is behind it later
record Split (server : ℕ) (all : List Done) (what : Served) (rest : List Served) : Type 0 where
  front : List Done
  done : Done
  back : List Done
  is : all ≡ front ++ done ∷ back
  served : done.served ≡ Some what
  behind : served_at server back ≡ rest

nil_not : (before : List Served) (what : Served) (rest : List Served) → [] ≡ before ++ what ∷ rest → ⊥
nil_not [] what rest is = cc
nil_not (one ∷ before) what rest is = cc

served_there : (server : ℕ) (found : Option Served) (what : Served) → if_at server found ≡ Some what → found ≡ Some what
served_there server found what h3 = search arith

split : (server : ℕ) (all : List Done) (before : List Served) (what : Served) (rest : List Served) → served_at server all ≡ before ++ what ∷ rest → Split server all what rest
split server [] before what rest is = absurd (nil_not before what rest is)
split server (done ∷ all) before what rest is = of (if_at server done.served) refl is (λ before is. split server all before what rest is)
  where
    later : Split server all what rest → Split server (done ∷ all) what rest
    later s = record { front = done ∷ s.front; done = s.done; back = s.back; is = ap (λ all. done ∷ all) s.is; served = s.served; behind = s.behind }

    by : (here : Served) → if_at server done.served ≡ Some here → (before : List Served) → here ∷ served_at server all ≡ before ++ what ∷ rest
        → ((before : List Served) → served_at server all ≡ before ++ what ∷ rest → Split server all what rest) → Split server (done ∷ all) what rest
    by here found [] is go = record {
      front = [];
      done = done;
      back = all;
      is = refl;
      served = served_there server done.served what (found ∙ ap (λ one. Some one) (ap (head_or here) is));
      behind = ap tail_of is;
    }
    by here found (one ∷ before) is go = later (go before (ap tail_of is))

    of : (found : Option Served) → if_at server done.served ≡ found → cons_option found (served_at server all) ≡ before ++ what ∷ rest
        → ((before : List Served) → served_at server all ≡ before ++ what ∷ rest → Split server all what rest) → Split server (done ∷ all) what rest
    of None found is go = later (go before is)
    of (Some here) found is go = by here found before is go

pub finished_before_at_server : FinishedBeforeAtServer
finished_before_at_server given events can server before between after finish asked v first second is finished own there =
    let a = split server (done_in given events) before finish (between ++ asked ∷ after) is in
    let b = split server a.back between asked after a.behind in
    finished_before given can.accepted events a.front b.front b.back a.done b.done finish asked v first second (a.is ∙ ap (λ back. a.front ++ a.done ∷ back) b.is) a.served finished b.served own there

pub changes_are_met_at_server : ChangesAreMetAtServer
changes_are_met_at_server given events can server before between after finish asked t answers second is finished own =
    let a = split server (done_in given events) before finish (between ++ asked ∷ after) is in
    let b = split server a.back between asked after a.behind in
    finished_changes_are_met given can.accepted events a.front b.front b.back a.done b.done finish asked t answers second (a.is ∙ ap (λ back. a.front ++ a.done ∷ back) b.is) a.served finished b.served own
