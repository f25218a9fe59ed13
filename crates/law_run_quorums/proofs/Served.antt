-- What a request that is served makes of the machine's telling, and of the collector's list.
use Rattle.law_run_quorums.proofs.Vocabulary.{false≢true, eqb-true, nat_tests, Prefix, LockMode, Exclusive, serves, Request, Reply, heard_by, Beginning, Told, Hold, World, set2, is_exclusive, Obeys, TellsCopy, Tells, told_to}
use Rattle.law_run_quorums.proofs.Vocabulary.{ToldOf, AreTold, Agrees, Replied, Event, happens, run}
use Rattle.suite_collect.specs.declared.told.Said.TheVariants.{Held}
use Rattle.law_suite_machine.specs.Conditions.{May}
use Rattle.law_suite_machine.specs.Events.{Grant, Raise, Hear}
use Rattle.law_server_moves.specs.Moves.{moves, hears}
use Rattle.std.proofs.Common.{◌≡◌, ◌++◌, cond, ℕ, Bool, true, false, List, [], ◌∷◌, Option, Some, None, refl, sym, ap, subst, ◌∙◌, arith, ◌==◌, ◌||◌}
use Rattle.txn_core.proofs.Locks.{serves_shared}
use Rattle.law_suite_machine.proofs.Places.{at2, one_is, itself}
use Rattle.law_suite_machine.proofs.Sound.{Sound}
use Rattle.law_runs.specs.Naming.{names}
use Rattle.law_run_machine.proofs.Joining.{run-append}
use Rattle.law_run_machine.proofs.Asked.{exchanged, told_served}
use Rattle.suite_prefix.specs.LockModes as modes
use Rattle.rep_core.specs.declared.request.Request.TheVariants as request
use Rattle.rep_core.specs.declared.reply.Reply.TheVariants as reply
use Rattle.suite_collect.specs.declared.told.Told as collect
use Rattle.law_suite_machine.specs.Events as machine

-- ---- a list of what was told

-- the copies stay
abbrev Grows : (ℕ → Option Told) → (ℕ → Option Told) → Type 0
Grows f g = (i : ℕ) (one : Told) → f i ≡ Some one → (more : Told) × (g i ≡ Some more) × (more.copy ≡ one.copy)

grows_of : (f g : ℕ → Option Told) (i : ℕ) (prefix : Prefix) (dver : ℕ) → Grows f g → ToldOf (f i) prefix dver → ToldOf (g i) prefix dver
grows_of f g i prefix dver grows is = search arith

are_grown : (f g : ℕ → Option Told) (list : List collect.Told) → Grows f g → AreTold f list → AreTold g list
are_grown f g [] grows are = tt
are_grown f g (one ∷ list) grows are = search (grows_of, are_grown f g list grows, arith)

serves_exclusive : (mode : LockMode) → serves mode Exclusive ≡ modes.is_exclusive mode
serves_exclusive mode = search arith

same_test : (a b : ℕ) → (a == b) ≡ true → (b == a) ≡ true
same_test a b e = grind (arith, nat_tests)

other_test : (a b : ℕ) → (a == b) ≡ false → (b == a) ≡ false
other_test a b e = grind (arith, nat_tests)

-- one more is told of: the rest stays, and here is this copy under a lock that is exclusive now, or was before
pub held_agrees : (f g : ℕ → Option Told) (list : List collect.Told) (i : ℕ) (mode : LockMode) (prefix : Prefix) (dver : ℕ) → Agrees f list → Grows f g → ((who : ℕ) → (who ≡ i → ⊥) → g who ≡ f who) → ToldOf (g i) prefix dver
    → is_exclusive (g i) ≡ (modes.is_exclusive mode || is_exclusive (f i)) → Agrees g (record { server = i; mode = mode; said = Held prefix dver } ∷ list)
held_agrees f g list i mode prefix dver agrees grows others here exclusive = search (are_grown, eqb-true, serves_shared, serves_exclusive, false≢true, itself, arith)

-- ---- the machine

module _ (start : Beginning) (z : ℕ) (home : ℕ → ℕ) (decision : Event) (i : ℕ) (w : World) (sound : Sound w) (keeps : (happens start w decision).told ≡ w.told) where
  abbrev Later : Request → Reply → World
  Later asked said = run start w (exchanged z home decision i w asked said)

  -- what is no lock tells of none
  tells_nobody : (asked : Request) (said : Reply) → hears z i asked said ≡ [] → (Later asked said).told ≡ w.told
  tells_nobody asked said none =
      ap (λ (w : World). w.told) (run-append start w (moves z home decision i w asked said) (hears z i asked said))
      ∙ ap (λ events. (run start (run start w (moves z home decision i w asked said)) events).told) none
      ∙ told_served start z home decision i w asked said keeps

  same_list : (t : ℕ) (later : World) (list : List collect.Told) → later.told ≡ w.told → Agrees (told_to w t) list → Agrees (told_to later t) list
  same_list t later list same agrees = subst (λ told. Agrees (λ i. told i t) list) (sym same) agrees

  or_none : (a b : Bool) → b ≡ false → a ≡ (a || b)
  or_none a b h2 = search arith

  module _ (t : ℕ) (list : List collect.Told) (agrees : Agrees (told_to w t) list) (prefix : Prefix) (dver : ℕ) (copy : TellsCopy w i prefix dver) where
    -- a lock that is told of
    heard_lock : (u : ℕ) (mode : LockMode) → u ≡ t → ((one : Told) → w.told i t ≡ Some one → w.copy i ≡ one.copy) → modes.is_exclusive mode ≡ (modes.is_exclusive mode || is_exclusive (w.told i t))
        → Agrees (told_to (machine.heard w i u (modes.is_exclusive mode)) t) (record { server = i; mode = mode; said = Held prefix dver } ∷ list)
    heard_lock u mode same copies exclusive =
        let new : Told = record { exclusive = modes.is_exclusive mode; copy = w.copy i } in
        let here : set2 w.told i u (Some new) i t ≡ Some new = at2 (λ o. o ≡ Some new) w.told i u (Some new) i t (λ _. refl) (λ no. absurd (no (refl, sym same))) in
        held_agrees (told_to w t) (λ who. set2 w.told i u (Some new) who t) list i mode prefix dver agrees
        (λ who one is. at2 (λ o. (more : Told) × (o ≡ Some more) × (more.copy ≡ one.copy)) w.told i u (Some new) who t
        (λ at. (new, refl, copies one (ap (λ i. w.told i t) (sym at.0) ∙ is))) (λ _. (one, is, refl)))
        (λ who apart. at2 (λ o. o ≡ w.told who t) w.told i u (Some new) who t (λ at. absurd (apart at.0)) (λ _. refl))
        (record { one = new; is = here; prefix_is = copy.prefix_is; dver_is = copy.dver_is })
        (ap is_exclusive here ∙ exclusive)

    -- a new one: none was told of before
    polled_lock : (u : ℕ) (mode : LockMode) → u ≡ t → w.granted i u ≡ false → Agrees (told_to (machine.heard w i u (modes.is_exclusive mode)) t) (record { server = i; mode = mode; said = Held prefix dver } ∷ list)
    polled_lock u mode same ungranted =
        let untold : w.told i t ≡ None = ap (w.told i) (sym same) ∙ sound.unheard i u ungranted in
        heard_lock u mode same (λ one is. absurd (let e = sym untold ∙ is in cc)) (or_none (modes.is_exclusive mode) (is_exclusive (w.told i t)) (ap is_exclusive untold))

    -- one that became exclusive: it stood unbroken, so the copy is the one that was told of
    upgraded_lock : (u : ℕ) (hold : Hold) → u ≡ t → w.lock i u ≡ Some hold → Agrees (told_to (machine.heard w i u true) t) (record { server = i; mode = Exclusive; said = Held prefix dver } ∷ list)
    upgraded_lock u hold same stands = heard_lock u Exclusive same (λ one is. sound.shown i t one hold is (ap (w.lock i) (sym same) ∙ stands)) refl

  -- a reply that refuses a lock
  refused : (t : ℕ) (asked : Request) (said : Reply) (list : List collect.Told) → ((prefix : Prefix) (dver : ℕ) → said ≡ reply.Held prefix dver → ⊥) → Agrees (told_to w t) list → Agrees (told_to w t) (heard_by z list i asked (Replied said))
  refused t asked said list none agrees = search arith

  -- a lock on a suite: on this one, or on another
  asked_agrees : (t s : ℕ) (first second : Event) (list : List collect.Told) (one : collect.Told) → Agrees (told_to w t) list
      → (z ≡ s → May start w first → Agrees (told_to (happens start (happens start w first) second) t) (one ∷ list))
      → Obeys start w (cond (z == s) (first ∷ []) [] ++ cond (z == s) (second ∷ []) [])
      → Agrees (told_to (run start w (cond (z == s) (first ∷ []) [] ++ cond (z == s) (second ∷ []) [])) t) (cond (s == z) (one ∷ list) list)
  asked_agrees t s first second list one agrees here =
      elim (z == s) as (λ b. (z == s) ≡ b → Obeys start w (cond b (first ∷ []) [] ++ cond b (second ∷ []) [])
      → Agrees (told_to (run start w (cond b (first ∷ []) [] ++ cond b (second ∷ []) [])) t) (cond (s == z) (one ∷ list) list)) [
        | true ↦ λ e may. subst (λ b. Agrees (told_to (happens start (happens start w first) second) t) (cond b (one ∷ list) list)) (sym (same_test z s e)) (here (one_is s z e) may.0)
        | false ↦ λ e _. subst (λ b. Agrees (told_to w t) (cond b (one ∷ list) list)) (sym (other_test z s e)) agrees
      ] refl

  -- whatever is asked in the transaction's name and replied
  pub served_agrees : (t : ℕ) (asked : Request) (said : Reply) (list : List collect.Told) → names t asked ≡ true → Obeys start w (exchanged z home decision i w asked said)
      → Tells z home i w (Later asked said) asked said → Agrees (told_to w t) list
      → Agrees (told_to (Later asked said) t) (heard_by z list i asked (Replied said))
  served_agrees t (request.Poll u s m) (reply.Held prefix dver) list is obeys tells agrees =
      asked_agrees t s (Grant i u (modes.is_exclusive m)) (Hear i u (modes.is_exclusive m)) list (record { server = i; mode = m; said = Held prefix dver }) agrees
      (λ same may. polled_lock t list agrees prefix dver (tells same) u m (one_is t u is) may.ungranted) obeys
  served_agrees t (request.Upgrade u s) (reply.Held prefix dver) list is obeys tells agrees =
      asked_agrees t s (Raise i u) (Hear i u true) list (record { server = i; mode = Exclusive; said = Held prefix dver }) agrees
      (λ same may. upgraded_lock t list agrees prefix dver (tells same) u may.lock (one_is t u is) may.stands) obeys
  served_agrees t (request.Poll u s m) said list is obeys tells agrees = refused t (request.Poll u s m) said list (λ prefix dver is. absurd cc) agrees
  served_agrees t (request.Upgrade u s) said list is obeys tells agrees = refused t (request.Upgrade u s) said list (λ prefix dver is. absurd cc) agrees
  served_agrees t other said list is obeys tells agrees = same_list t (Later other said) list (tells_nobody other said refl) agrees
