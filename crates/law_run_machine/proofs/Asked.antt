-- What a request of a transaction, once it is served and heard of, is to the machine of a suite.
use Rattle.law_run_machine.proofs.Vocabulary.{◌≡◌, ℕ, Bool, true, false, cond, List, [], ◌∷◌, ◌++◌, Option, Some, is_some, refl, sym, ap, subst, ◌∙◌, arith, ◌==◌, ◌&&◌, ◌||◌, false≢true, nat_tests, Part, Request, Reply, Replied, locks, says_held}
use Rattle.law_run_machine.proofs.Vocabulary.{Beginning, World, Verdict, Event, Grant, Hear, happens, run, at2, itself, another, one_is, prepare_of, first_verdict, moves, hears, names, may_sweep}
use Rattle.suite_prefix.specs.LockModes.{is_exclusive}
use Rattle.rep_core.specs.declared.request.Request.TheVariants as request
use Rattle.rep_core.specs.declared.reply.Reply.TheVariants as reply
use Rattle.law_run_machine.proofs.Joining.{run-append}
use Rattle.law_run_machine.proofs.Own.{Unheard}
use Rattle.law_run_machine.proofs.Quiet.{IsOf, AreOf}

-- ---- what is heard

turned : (a b : ℕ) → (a == b) ≡ true → (b == a) ≡ true
turned a b e = grind (arith, nat_tests)

other_test : (a b : ℕ) → (a == b) ≡ false → (b == a) ≡ false
other_test a b e = grind (arith, nat_tests)

and_false : (a : Bool) → (a && false) ≡ false
and_false a = search arith

and_true : (a : Bool) → a ≡ true → (a && true) ≡ true
and_true a is = search arith

-- nothing, or of a lock on the suite
pub hears_as : (z i : ℕ) (P : List Event → Type 0) (asked : Request) (said : Reply) → ((locks z asked && says_held (Replied said)) ≡ false → P [])
    → ((t : ℕ) (exclusive : Bool) → ((u : ℕ) → names u asked ≡ (t == u)) → (locks z asked && says_held (Replied said)) ≡ true → P (Hear i t exclusive ∷ []))
    → P (hears z i asked said)
hears_as z i P (request.Poll t s m) (reply.Held prefix dver) none some =
    elim (z == s) as (λ b. (z == s) ≡ b → P (cond b (Hear i t (is_exclusive m) ∷ []) [])) [
      | true ↦ λ e. some t (is_exclusive m) (λ u. refl) (and_true (s == z) (turned z s e))
      | false ↦ λ e. none (ap (λ b. b && true) (other_test z s e))
    ] refl
hears_as z i P (request.Upgrade t s) (reply.Held prefix dver) none some =
    elim (z == s) as (λ b. (z == s) ≡ b → P (cond b (Hear i t true ∷ []) [])) [
      | true ↦ λ e. some t true (λ u. refl) (and_true (s == z) (turned z s e))
      | false ↦ λ e. none (ap (λ b. b && true) (other_test z s e))
    ] refl
hears_as z i P (request.Poll t s m) said none some = none (and_false (s == z))
hears_as z i P (request.Upgrade t s) said none some = none (and_false (s == z))
hears_as z i P asked said none some = none refl

-- ---- whose events

of_first : (t : ℕ) (o : Option Verdict) (event : Event) → IsOf t event → AreOf t (first_verdict o event)
of_first t o event h3 = search arith

of_append : (t : ℕ) (first later : List Event) → AreOf t first → AreOf t later → AreOf t (first ++ later)
of_append t [] later is are = are
of_append t (event ∷ first) later is are = (is.0, of_append t first later is.1 are)

module _ (z : ℕ) (home : ℕ → ℕ) (decision : Event) (i : ℕ) (w : World) where
  -- what the server does, and then what its agent hears
  abbrev pub exchanged : Request → Reply → List Event
  exchanged asked said = moves z home decision i w asked said ++ hears z i asked said

  served_of : (t : ℕ) (asked : Request) (said : Reply) → names t asked ≡ true → IsOf t decision → AreOf t (moves z home decision i w asked said)
  served_of t asked said h3 h4 = search arith

  -- of a request in the transaction's name
  pub named_of : (t : ℕ) (asked : Request) (said : Reply) → names t asked ≡ true → IsOf t decision → AreOf t (exchanged asked said)
  named_of t asked said named of =
      of_append t (moves z home decision i w asked said) (hears z i asked said) (served_of t asked said named of)
      (hears_as z i (AreOf t) asked said (λ _. tt) (λ u exclusive is _. (one_is t u (sym (is t) ∙ named), tt)))

  -- of a request of a sweep
  pub swept_of : (t : ℕ) (asked : Request) (said : Reply) → may_sweep asked ≡ true → AreOf t (exchanged asked said)
  swept_of t asked said h3 = search arith

-- ---- what stays

-- whether a verdict is asked for
abbrev pub rules : Request → Bool
rules (request.Decide t decision) = true
rules (request.Resolve t) = true
rules _ = false

-- what is aimed at, who gave up, and what is recorded
pub record Steady (w later : World) : Type 0 where
  pub aim : later.aim ≡ w.aim
  pub gave_up : later.gave_up ≡ w.gave_up
  pub verdict : later.verdict ≡ w.verdict

-- each lock that was set for it, it was told of
abbrev pub AllHeard : World → ℕ → Type 0
AllHeard w t = (who : ℕ) → is_some (w.told who t) ≡ false → w.granted who t ≡ false

module _ (start : Beginning) (z : ℕ) (home : ℕ → ℕ) (decision : Event) (i : ℕ) (w : World) where
  steady_served : (asked : Request) (said : Reply) → rules asked ≡ false → Steady w (run start w (moves z home decision i w asked said))
  steady_served asked said h2 = search arith

  pub steady_exchanged : (asked : Request) (said : Reply) → rules asked ≡ false → Steady w (run start w (exchanged z home decision i w asked said))
  steady_exchanged asked said calm =
      subst (Steady w) (sym (run-append start w (moves z home decision i w asked said) (hears z i asked said)))
      (let is = steady_served asked said calm in
      hears_as z i (λ events. Steady w (run start (run start w (moves z home decision i w asked said)) events)) asked said
      (λ _. is)
      (λ t exclusive _ _. record { aim = is.aim; gave_up = is.gave_up; verdict = is.verdict }))

  -- ---- what a server does tells nobody

  told_if : (b : Bool) (event : Event) → (happens start w event).told ≡ w.told → (run start w (cond b (event ∷ []) [])).told ≡ w.told
  told_if b event h2 = search arith

  told_prepare : (t : ℕ) (o : Option Part) → (run start w (prepare_of i t w o)).told ≡ w.told
  told_prepare t o = search arith

  told_ruling : (b : Bool) (o : Option Verdict) (event : Event) → (happens start w event).told ≡ w.told → (run start w (cond b (first_verdict o event) [])).told ≡ w.told
  told_ruling b o event h3 = search arith

  pub told_served : (asked : Request) (said : Reply) → (happens start w decision).told ≡ w.told → (run start w (moves z home decision i w asked said)).told ≡ w.told
  told_served asked said keeps = search (told_if, told_prepare, told_ruling, arith)

  -- ---- what its transaction is told

  no_lock : (a b c d : Bool) → (c && d) ≡ false → a ≡ (a || (b && c && d))
  no_lock a b c d h4 = search arith

  on : (a b c d : Bool) → b ≡ true → (c && d) ≡ true → true ≡ (a || (b && c && d))
  on a b c d h4 h5 = search arith

  off : (a b c d : Bool) → b ≡ false → a ≡ (a || (b && c && d))
  off a b c d h4 = search arith

  told_heard : (later : World) (t : ℕ) (asked : Request) (said : Reply) → names t asked ≡ true → (who : ℕ)
      → is_some ((run start later (hears z i asked said)).told who t) ≡ (is_some (later.told who t) || ((i == who) && locks z asked && says_held (Replied said)))
  told_heard later t asked said named who =
      hears_as z i (λ events. is_some ((run start later events).told who t) ≡ (is_some (later.told who t) || ((i == who) && locks z asked && says_held (Replied said)))) asked said
      (λ none. no_lock (is_some (later.told who t)) (i == who) (locks z asked) (says_held (Replied said)) none)
      (λ u exclusive is some.
      let same : u ≡ t = one_is t u (sym (is t) ∙ named) in
      at2 (λ o. is_some o ≡ (is_some (later.told who t) || ((i == who) && locks z asked && says_held (Replied said)))) later.told i u (Some (record { exclusive = exclusive; copy = later.copy i })) who t
      (λ here. on (is_some (later.told who t)) (i == who) (locks z asked) (says_held (Replied said)) (itself who i (sym here.0)) some)
      (λ apart. off (is_some (later.told who t)) (i == who) (locks z asked) (says_held (Replied said)) (another who i (λ at. apart (sym at, sym same)))))

  -- what was told, and a lock on the suite that is held now
  pub told_exchanged : (t : ℕ) (asked : Request) (said : Reply) → names t asked ≡ true → (happens start w decision).told ≡ w.told → (who : ℕ)
      → is_some ((run start w (exchanged z home decision i w asked said)).told who t) ≡ (is_some (w.told who t) || ((i == who) && locks z asked && says_held (Replied said)))
  told_exchanged t asked said named keeps who =
      ap (λ (w : World). is_some (w.told who t)) (run-append start w (moves z home decision i w asked said) (hears z i asked said))
      ∙ told_heard (run start w (moves z home decision i w asked said)) t asked said named who
      ∙ ap (λ told. is_some (told who t) || ((i == who) && locks z asked && says_held (Replied said))) (told_served asked said keeps)

  -- ---- no lock is set for it of which it is not told

  granted_lock : (t s : ℕ) (exclusive : Bool) (who u : ℕ) → ((i == who) && (s == z) && true) ≡ false → (run start w (cond (z == s) (Grant i t exclusive ∷ []) [])).granted who u ≡ w.granted who u
  granted_lock t s exclusive who u none =
      elim (z == s) as (λ b. (z == s) ≡ b → (run start w (cond b (Grant i t exclusive ∷ []) [])).granted who u ≡ w.granted who u) [
        | true ↦ λ e. at2 (λ b. b ≡ w.granted who u) w.granted i t true who u
            (λ here. absurd (false≢true (sym none ∙ ap (λ b. b && (s == z) && true) (itself who i (sym here.0)) ∙ ap (λ b. b && true) (turned z s e))))
            (λ _. refl)
        | false ↦ λ _. refl
      ] refl

  granted_served : (asked : Request) (said : Reply) → (happens start w decision).granted ≡ w.granted → (who u : ℕ) → ((i == who) && locks z asked && says_held (Replied said)) ≡ false
      → (run start w (moves z home decision i w asked said)).granted who u ≡ w.granted who u
  granted_served (request.Poll t s m) (reply.Held prefix dver) keeps who u none = granted_lock t s (is_exclusive m) who u none
  granted_served asked said keeps who u none = search arith

  neither : (a b : Bool) → (a || b) ≡ false → (a ≡ false) × (b ≡ false)
  neither a b h2 = search arith

  pub heard_exchanged : (t : ℕ) (asked : Request) (said : Reply) → names t asked ≡ true → Unheard w (happens start w decision) → AllHeard w t → AllHeard (run start w (exchanged z home decision i w asked said)) t
  heard_exchanged t asked said named keeps heard who none =
      let both = neither (is_some (w.told who t)) ((i == who) && locks z asked && says_held (Replied said)) (sym (told_exchanged t asked said named keeps.told who) ∙ none) in
      ap (λ (w : World). w.granted who t) (run-append start w (moves z home decision i w asked said) (hears z i asked said))
      ∙ hears_as z i (λ events. (run start (run start w (moves z home decision i w asked said)) events).granted who t ≡ (run start w (moves z home decision i w asked said)).granted who t) asked said
      (λ _. refl)
      (λ u exclusive _ _. refl)
      ∙ granted_served asked said keeps.granted who t both.1
      ∙ heard who both.0
