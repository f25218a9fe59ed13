-- Two users go side by side, by computation.
use Rattle.law_run_recovers.proofs.Vocabulary.{◌≡◌, ◌⊎◌, inl, inr, ⊎_elim, ℕ, Bool, true, false, List, [], ◌∷◌, ◌++◌, Some, refl, sym, ap, ◌∙◌, ◌&&◌, list_all, false≢true, and_parts, same_Some, LockMode, Job, Transaction, fixed_of, owner, a, Event}
use Rattle.law_run_recovers.proofs.Vocabulary.{Begin, Step, World, opening, after, run, EventGivesValidVotes, CanBe, with_caches, some_run_revokes, begins_job, clash, Begun, its_asks, two_made, two_write, first_down, SomeRunsGoSideBySide, b, puts}
use Rattle.law_run_recovers.proofs.Vocabulary.{asks_for, is_running, is_up}
use Rattle.law_run_recovers.proofs.AmongCourse.{head_or, tail_or}
use Rattle.law_run_recovers.proofs.Keeps.{after_append}
use Rattle.law_run_recovers.proofs.LawsWorked.{holds_at, none_spoils_it, same_ups, up_same}
use Rattle.law_run_recovers.proofs.ValidEvents.{all_by, event_sets_none, valid_event}

-- ---- they can be

pub they_can : (events : List Event) → list_all event_sets_none events ≡ true → CanBe with_caches events
they_can events is = record { accepted = some_run_revokes.can_be.accepted; c0 = some_run_revokes.can_be.c0; votes = all_by EventGivesValidVotes event_sets_none valid_event events is }

-- ---- the two that begin

abbrev first : Event
first = Begin 0 (Transaction owner 0 (puts a 0 ∷ []))

abbrev second : Event
second = Begin 1 (Transaction owner 0 (puts b 1 ∷ []))

-- what came before one, its begin, and its number
abbrev Spot : Type 0
Spot = List Event × Event × ℕ

spot : List Event → Event → ℕ → Spot
spot before begin t = (before, begin, t)

abbrev pub is_step : Event → Bool
is_step (Step agent) = true
is_step other = false

pub none_begins : (before : List Event) (agent : ℕ) (job : Job) (rest : List Event) → list_all is_step (before ++ Begin agent job ∷ rest) ≡ true → ⊥
none_begins [] agent job rest is = false≢true is
none_begins (x ∷ before) agent job rest is = none_begins before agent job rest (and_parts (is_step x) (list_all is_step (before ++ Begin agent job ∷ rest)) is).1

abbrev agent_in : Event → ℕ
agent_in (Begin agent job) = agent
agent_in other = 0

abbrev asks_in : List Event → List Event → ℕ → Event → List (ℕ × LockMode)
asks_in made before t (Begin agent (Transaction caller site ops)) = asks_for with_caches (made ++ before) t caller ops
asks_in made before t other = []

abbrev runs_and_clash : List Event → Spot → Spot → Bool
runs_and_clash made one other = is_running (run with_caches (made ++ other.0)) (agent_in one.1) one.2 && clash (asks_in made one.0 one.2 one.1) (asks_in made other.0 other.2 other.1)

module _ (made : List Event) (begins_first : begins_job with_caches (run with_caches (made ++ [])) first ≡ Some (64, Transaction owner 0 (puts a 0 ∷ [])))
    (begins_second : begins_job with_caches (run with_caches (made ++ first ∷ [])) second ≡ Some (1, Transaction owner 0 (puts b 1 ∷ [])))
    (first_first : runs_and_clash made (spot [] first 64) (spot [] first 64) ≡ false) (first_second : runs_and_clash made (spot [] first 64) (spot (first ∷ []) second 1) ≡ false)
    (second_first : runs_and_clash made (spot (first ∷ []) second 1) (spot [] first 64) ≡ false) (second_second : runs_and_clash made (spot (first ∷ []) second 1) (spot (first ∷ []) second 1) ≡ false) where
  number_is : (before : List Event) (begin : Event) (u t : ℕ) (job : Job) → begins_job with_caches (run with_caches (made ++ before)) begin ≡ Some (u, job) → (other : Job)
      → begins_job with_caches (run with_caches (made ++ before)) begin ≡ Some (t, other) → t ≡ u
  number_is before begin u t job is other also = sym (ap (λ (pair : ℕ × Job). pair.0) (same_Some (u, job) (t, other) (sym is ∙ also)))

  abbrev spot_of : Begun with_caches made two_write → Spot
  spot_of one = spot one.before (Begin one.agent (Transaction one.caller one.site one.ops)) one.t

  where_it_is : (one : Begun with_caches made two_write) → (spot_of one ≡ spot [] first 64) ⊎ (spot_of one ≡ spot (first ∷ []) second 1)
  where_it_is one = of one.before refl one.parts
    where
      begin : Event
      begin = Begin one.agent (Transaction one.caller one.site one.ops)

      at : (before : List Event) (begin : Event) (u : ℕ) (job : Job) → one.before ≡ before → Begin one.agent (Transaction one.caller one.site one.ops) ≡ begin
          → begins_job with_caches (run with_caches (made ++ before)) begin ≡ Some (u, job) → spot_of one ≡ spot before begin u
      at before begin u job same is begins =
          ap (λ before. spot before (Begin one.agent (Transaction one.caller one.site one.ops)) one.t) same ∙ ap (λ begin. spot before begin one.t) is
          ∙ ap (spot before begin) (number_is before begin u one.t job begins (Transaction one.caller one.site one.ops)
          (sym (ap (λ before. begins_job with_caches (run with_caches (made ++ before)) (Begin one.agent (Transaction one.caller one.site one.ops))) same ∙ ap
          (begins_job with_caches (run with_caches (made ++ before))) is) ∙ one.begins))

      of : (before : List Event) → one.before ≡ before → two_write ≡ before ++ Begin one.agent (Transaction one.caller one.site one.ops) ∷ one.after → (spot_of one ≡ spot [] first 64) ⊎ (spot_of one ≡ spot (first ∷ []) second 1)
      of [] same parts = inl (at [] first 64 (Transaction owner 0 (puts a 0 ∷ [])) same (sym (ap (head_or first) parts)) begins_first)
      of (x ∷ []) same parts =
          inr (at (first ∷ []) second 1 (Transaction owner 0 (puts b 1 ∷ [])) (same ∙ ap (λ x. x ∷ []) (sym (ap (head_or first) parts))) (sym (ap (λ list. head_or first (tail_or list)) parts)) begins_second)
      of (x ∷ y ∷ before) same parts = absurd (none_begins before one.agent (Transaction one.caller one.site one.ops) one.after (ap (λ list. list_all is_step (tail_or (tail_or list))) (sym parts)))

  -- ---- they are apart

  none_clash : (one other : Begun with_caches made two_write) → runs_and_clash made (spot_of one) (spot_of other) ≡ false
  none_clash one other =
      ⊎_elim
      (λ p. ⊎_elim (λ q. both (spot [] first 64) (spot [] first 64) p q ∙ first_first) (λ q. both (spot [] first 64) (spot (first ∷ []) second 1) p q ∙ first_second) (where_it_is other))
      (λ p. ⊎_elim (λ q. both (spot (first ∷ []) second 1) (spot [] first 64) p q ∙ second_first) (λ q. both (spot (first ∷ []) second 1) (spot (first ∷ []) second 1) p q ∙ second_second) (where_it_is other))
      (where_it_is one)
    where
      both : (s t : Spot) → spot_of one ≡ s → spot_of other ≡ t → runs_and_clash made (spot_of one) (spot_of other) ≡ runs_and_clash made s t
      both s t p q = ap (λ s. runs_and_clash made s (spot_of other)) p ∙ ap (runs_and_clash made s) q

  apart : (one other : Begun with_caches made two_write) → is_running (run with_caches (made ++ other.before)) one.agent one.t ≡ true
      → clash (its_asks with_caches made two_write one) (its_asks with_caches made two_write other) ≡ false
  unfolding spot
  apart one other running = no (clash (its_asks with_caches made two_write one) (its_asks with_caches made two_write other))
      (sym (ap (λ x. x && clash (its_asks with_caches made two_write one) (its_asks with_caches made two_write other)) running) ∙ none_clash one other)
    where
      no : (x : Bool) → (true && x) ≡ false → x ≡ false
      no true is = is
      no false is = refl

-- ---- both runs

abbrev up_now : World → World → Bool
up_now first w = same_ups w first

stays_so : (before rest : List Event) → two_write ≡ before ++ rest → (server : ℕ) → is_up (run with_caches (first_down ++ before)) server ≡ is_up (run with_caches first_down) server
stays_so before rest split server =
    ap (λ w. is_up w server) (after_append (fixed_of with_caches) first_down before (opening with_caches))
    ∙ up_same (after (fixed_of with_caches) (run with_caches first_down) before) (run with_caches first_down)
    (holds_at (up_now (run with_caches first_down)) (λ w event. true) (fixed_of with_caches) two_write before rest (run with_caches first_down) refl split) server

apart_up : (one other : Begun with_caches two_made two_write) → is_running (run with_caches (two_made ++ other.before)) one.agent one.t ≡ true
    → clash (its_asks with_caches two_made two_write one) (its_asks with_caches two_made two_write other) ≡ false
unfolding spot
apart_up = apart two_made refl refl refl refl refl refl

apart_down : (one other : Begun with_caches first_down two_write) → is_running (run with_caches (first_down ++ other.before)) one.agent one.t ≡ true
    → clash (its_asks with_caches first_down two_write one) (its_asks with_caches first_down two_write other) ≡ false
unfolding spot
apart_down = apart first_down refl refl refl refl refl refl

pub some_runs_go_side_by_side : SomeRunsGoSideBySide
some_runs_go_side_by_side = record {
  goes = record {
    can = they_can (two_made ++ two_write) refl;
    idle = refl;
    up = refl;
    free = refl;
    unspoiled = none_spoils_it with_caches two_made two_write refl;
    apart = apart_up;
  };
  ends = refl;
  go_while_down = record {
    can = they_can (first_down ++ two_write) refl;
    idle = refl;
    free = refl;
    stays = stays_so;
    unspoiled = none_spoils_it with_caches first_down two_write refl;
    apart = apart_down;
  };
  end_while_down = refl;
}
