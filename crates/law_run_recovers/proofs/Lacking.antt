-- What comes of an own step of an agent that is not served, and of what tells it so.
use Rattle.law_run_recovers.proofs.Vocabulary.{◌≡◌, ◌⊎◌, inl, inr, ℕ, Bool, true, false, cond, Option, Some, None, is_some, refl, sym, subst, ◌∙◌, not, false≢true, and_parts, eqb-true, none-some, same_Some, Opening, Request, arith, Stamped, State}
use Rattle.law_run_recovers.proofs.Vocabulary.{is_full, answer_of, Lacked, fixed_of, next_of, take, Served, Event, Step, Lack, Actor, World, Stepped, server_at, actor_at, quiet, serve, moved, outcome_of, answered, asks_at, asks, lacks_for, lacks}
use Rattle.law_run_recovers.proofs.Vocabulary.{step, puts_in, hinders_itself, not-true}
use Rattle.rep_core.specs.declared.stamped.Lack.{Lack as Why}
use Rattle.rep_core.specs.declared.stamped.Lack.TheVariants as lack

module _ (given : Opening) (agent : ℕ) (w : World) (here : Actor) (there : actor_at w agent ≡ Some here) where
  -- it was told that its request was not served
  pub record Lacking (stepped : Stepped) : Type 0 where
    pub why : Why
    pub asked : ℕ × Request
    pub next : next_of (fixed_of given) here.agent ≡ Some asked
    pub none : stepped.done.served ≡ None
    pub new : Actor
    pub now : actor_at stepped.world agent ≡ Some new
    pub took : new.agent ≡ (take (fixed_of given) here.agent (Lacked why)).agent
    pub ended : stepped.done.outcome ≡ outcome_of agent here (take (fixed_of given) here.agent (Lacked why)).ending

  -- nothing came of it: it asks nothing, or a server that is not there
  pub record Nothing (stepped : Stepped) : Type 0 where
    pub is : stepped ≡ quiet w
    pub none : (asked : ℕ × Request) → next_of (fixed_of given) here.agent ≡ Some asked → server_at w asked.0 ≡ None

  abbrev Either : Stepped → Type 0
  Either stepped = Lacking stepped ⊎ Nothing stepped

  asks_none : (stepped : Stepped) → stepped ≡ quiet w → next_of (fixed_of given) here.agent ≡ None → Either stepped
  asks_none stepped is next = inr (record { is = is; none = λ asked some. absurd (none-some asked (sym next ∙ some)) })

  -- ---- a step

  of_serving : (asked : ℕ × Request) (st : State) → next_of (fixed_of given) here.agent ≡ Some asked
      → is_some (answered (fixed_of given) w agent here st (serve asked.0 st (record { stamp = here.stamp; value = asked.1 }))).done.served ≡ false
      → Either (answered (fixed_of given) w agent here st (serve asked.0 st (record { stamp = here.stamp; value = asked.1 })))
  of_serving asked st next = by (is_full st stamped)
    where
      stamped : Stamped Request
      stamped = record { stamp = here.stamp; value = asked.1 }

      what : Served
      what = record { server = asked.0; request = stamped; reply = answer_of st stamped }

      by : (b : Bool) → is_some (answered (fixed_of given) w agent here st (cond b None (Some what))).done.served ≡ false → Either (answered (fixed_of given) w agent here st (cond b None (Some what)))
      by true none =
          let new = moved here here.stamp (take (fixed_of given) here.agent (Lacked lack.Full)) in
          inl (record { why = lack.Full; asked = asked; next = next; none = refl; new = new; now = (puts_in w.agents agent here new there).here; took = refl; ended = refl })
      by false none = absurd (false≢true (sym none))

  of_server : (asked : ℕ × Request) → next_of (fixed_of given) here.agent ≡ Some asked → (found : Option State) → server_at w asked.0 ≡ found
      → is_some (asks_at (fixed_of given) w agent here asked found).done.served ≡ false → Either (asks_at (fixed_of given) w agent here asked found)
  of_server asked h1 found h3 h4 = grind (same_Some, of_serving, arith)

  of_next : (asked : Option (ℕ × Request)) → next_of (fixed_of given) here.agent ≡ asked → is_some (asks (fixed_of given) w agent here asked).done.served ≡ false → Either (asks (fixed_of given) w agent here asked)
  of_next asked h1 h2 = search (asks_none, of_server, arith)

  of_step : is_some (step (fixed_of given) w (Step agent)).done.served ≡ false → Either (step (fixed_of given) w (Step agent))
  of_step = search (of_next, arith)

  -- ---- it is told so

  lack_next : (why : Why) (asked : Option (ℕ × Request)) → next_of (fixed_of given) here.agent ≡ asked → Either (lacks_for (fixed_of given) w agent here (Lacked why) asked)
  lack_next why None next = asks_none (lacks_for (fixed_of given) w agent here (Lacked why) None) refl next
  lack_next why (Some asked) next =
      let new = moved here here.stamp (take (fixed_of given) here.agent (Lacked why)) in
      inl (record { why = why; asked = asked; next = next; none = refl; new = new; now = (puts_in w.agents agent here new there).here; took = refl; ended = refl })

  of_lack : (why : Why) → Either (step (fixed_of given) w (Lack agent why))
  of_lack why = subst (λ found. Either (lacks (fixed_of given) w agent (Lacked why) found)) (sym there) (lack_next why (next_of (fixed_of given) here.agent) refl)

  -- ---- either

  pub hindered : (event : Event) → hinders_itself given agent w event ≡ true → Lacking (step (fixed_of given) w event) ⊎ Nothing (step (fixed_of given) w event)
  hindered (Lack i why) is = subst (λ i. Either (step (fixed_of given) w (Lack i why))) (sym (eqb-true i agent is)) (of_lack why)
  hindered (Step i) is = search (and_parts, eqb-true, of_step, not-true, arith)
  hindered other is = absurd (false≢true is)
