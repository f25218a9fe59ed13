-- What agents do by themselves is nothing to the servers.
use Rattle.law_run_machine.proofs.Vocabulary.{◌≡◌, ℕ, List, [], ◌∷◌, Option, refl, State, Doing, Taken, Beginning, Change, World, Event, Grant, Raise, Hear, Aim, arith, Prepare, DecideRead, DecideRefused, DecideWrite, DecideElsewhere, Overrule, GiveUp, Finish}
use Rattle.law_run_machine.proofs.Vocabulary.{Lose, run, aimed, given_up, Shows, aimed_shows, given_up_shows, begun_events, own_events}

-- each is an agent's own
abbrev AllOwn : List Event → Type 0
AllOwn [] = Unit {0}
AllOwn (Aim t new ∷ events) = AllOwn events
AllOwn (GiveUp t ∷ events) = AllOwn events
AllOwn (_ ∷ events) = ⊥

begun_own : (z : ℕ) (before after : Option Doing) → AllOwn (begun_events z before after)
begun_own z before after = search arith

all_own : (z : ℕ) (before : Option Doing) (taken : Taken) → AllOwn (own_events z before taken)
all_own z before taken = search arith

-- what fixing and giving up keep, all that an agent does by itself keeps
own_all : (start : Beginning) (P : World → Type 0) → ((w : World) (t : ℕ) (new : Change) → P w → P (aimed w t new)) → ((w : World) (t : ℕ) → P w → P (given_up w t))
    → (events : List Event) (w : World) → AllOwn events → P w → P (run start w events)
own_all start P aim gives_up [] w own is = is
own_all start P aim gives_up (Aim t new ∷ events) w own is = own_all start P aim gives_up events (aimed w t new) own (aim w t new is)
own_all start P aim gives_up (GiveUp t ∷ events) w own is = own_all start P aim gives_up events (given_up w t) own (gives_up w t is)
own_all start P aim gives_up (Grant i t exclusive ∷ events) w own is = absurd own
own_all start P aim gives_up (Raise i t ∷ events) w own is = absurd own
own_all start P aim gives_up (Hear i t exclusive ∷ events) w own is = absurd own
own_all start P aim gives_up (Prepare i t left ∷ events) w own is = absurd own
own_all start P aim gives_up (DecideRead t set known ∷ events) w own is = absurd own
own_all start P aim gives_up (DecideRefused t set known ∷ events) w own is = absurd own
own_all start P aim gives_up (DecideWrite t set known new ∷ events) w own is = absurd own
own_all start P aim gives_up (DecideElsewhere t verdict ∷ events) w own is = absurd own
own_all start P aim gives_up (Overrule t ∷ events) w own is = absurd own
own_all start P aim gives_up (Finish i t verdict ∷ events) w own is = absurd own
own_all start P aim gives_up (Lose keep ∷ events) w own is = absurd own

module _ (start : Beginning) (z : ℕ) (home : ℕ → ℕ) (servers : ℕ → State) where
  pub own_shows : (before : Option Doing) (taken : Taken) (w : World) → Shows z home servers w → Shows z home servers (run start w (own_events z before taken))
  own_shows before taken w shows = own_all start (Shows z home servers) (aimed_shows z home servers) (given_up_shows z home servers) (own_events z before taken) w (all_own z before taken) shows

  pub begun_shows : (before after : Option Doing) (w : World) → Shows z home servers w → Shows z home servers (run start w (begun_events z before after))
  begun_shows before after w shows = own_all start (Shows z home servers) (aimed_shows z home servers) (given_up_shows z home servers) (begun_events z before after) w (begun_own z before after) shows

-- nor does it change which locks were set, and what was told of them
pub record Unheard (w later : World) : Type 0 where
  pub granted : later.granted ≡ w.granted
  pub told : later.told ≡ w.told

unheard : (start : Beginning) (events : List Event) (w : World) → AllOwn events → Unheard w (run start w events)
unheard start events w own = own_all start (Unheard w) (λ w t new is. record { granted = is.granted; told = is.told }) (λ w t is. record { granted = is.granted; told = is.told }) events w own (record { granted = refl; told = refl })

pub own_unheard : (start : Beginning) (z : ℕ) (before : Option Doing) (taken : Taken) (w : World) → Unheard w (run start w (own_events z before taken))
own_unheard start z before taken w = unheard start (own_events z before taken) w (all_own z before taken)

pub begun_unheard : (start : Beginning) (z : ℕ) (before after : Option Doing) (w : World) → Unheard w (run start w (begun_events z before after))
begun_unheard start z before after w = unheard start (begun_events z before after) w (begun_own z before after)
