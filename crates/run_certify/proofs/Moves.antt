-- What is left before an event is played, and after it: of any machine.
use Rattle.run_certify.proofs.Vocabulary.{◌≡◌, ◌≢◌, ◌⊎◌, ℕ, ◌<◌, Bool, true, false, List, [], ◌∷◌, ◌++◌, length, slice_set, subst, refl, ap, ◌∙◌, sym, arith, Option, Some, None, cons_option, EndedJob, Event, Step, Item, AgentEntry, Asked, Ended}
use Rattle.run_certify.proofs.Vocabulary.{ItemAt, IsMerge, history_of, event_of, operated, transcript_of, weave, agent_of, asker, AreAllPlayed, IsLeast, at_server, IsTurn, is_asked}
use Rattle.run_certify.proofs.Ends.{merge_none, none_merge, weave_empty, weave_ended, weave_rest}
use Rattle.run_certify.proofs.Lists.{long_set, no_cons, set_again, set_here}
use Rattle.run_certify.proofs.Picking.{picked, picks}
use Rattle.run_certify.proofs.Refuting as refuting
use Rattle.run_certify.proofs.Steps.{AreOf, Fits, decided_in, goes_back, goes_on, no_sense, puts_first, serves_first}
use Rattle.run_certify.proofs.Weaving.{weave_asked, weave_other}

pub turn_of_item : (one : ItemAt) (histories : List (List Item)) (unused : List (List AgentEntry)) (agent : ℕ) → one.item.agent ≡ Some agent → agent < length unused → IsTurn (one ∷ []) histories unused agent
turn_of_item one histories unused agent of low = λ y ys at other items merge. weave_other one items unused agent y ys of low at other

pub turn_of_rest : (histories : List (List Item)) (unused : List (List AgentEntry)) (agent : ℕ) → AreAllPlayed histories → ((i : ℕ) → i < agent → transcript_of unused i ≡ []) → agent < length unused → IsTurn [] histories unused agent
turn_of_rest histories unused agent empty before low = λ y ys at other items merge.
    let none : items ≡ [] = merge_none histories items empty merge in
    ap (λ xs. weave xs unused) none ∙ weave_rest unused agent y ys before low at ∙ ap (λ xs. cons_option (event_of agent y) (weave xs (slice_set unused agent ys))) (sym none)

-- a job that ended is put down next, or none ended
pub same_after : (unused : List (List AgentEntry)) (agent : ℕ) (ys rest : List AgentEntry) → agent < length unused → (ys ≡ rest) ⊎ ((outcome : EndedJob) × (ys ≡ Ended outcome ∷ rest)) → (items : List ItemAt)
    → weave items (slice_set unused agent ys) ≡ weave items (slice_set unused agent rest)
same_after unused agent ys rest low how items = search (slice_set unused agent ys, long_set unused agent ys, set_here unused agent ys [] low, set_again unused agent ys rest, weave_ended, arith)

module _ {W D : Type 0} (next : W → Event → W) (sense : W → Event → Bool) (serves : W → Event → Option ItemAt) (puts : W → Event → List AgentEntry) (decides : W → Event → Option D) where
  abbrev Of : W → List Event → List ItemAt → List (List AgentEntry) → Type 0
  Of = AreOf next sense serves puts decides

  abbrev decided : W → List Event → List D
  decided = decided_in next sense serves puts decides

  -- What is left of histories and transcripts, from a world on, with what is decided there; an item that was taken already may stand before the rest.
  pub record IsLeft (w : W) (taken : List ItemAt) (histories : List (List Item)) (unused : List (List AgentEntry)) (ds : List D) : Type 0 where
    pub items : List ItemAt
    pub merge : IsMerge histories items
    pub run : Of w (weave (taken ++ items) unused) (taken ++ items) unused
    pub is : ds ≡ decided w (weave (taken ++ items) unused)

  -- ---- the next item is taken

  pub taken_back : (w : W) (histories : List (List Item)) (unused : List (List AgentEntry)) (server : ℕ) (item : Item) (rest : List Item) (ds : List D)
      → server < length histories → history_of histories server ≡ item ∷ rest → IsLeast (slice_set histories server rest) server item
      → IsLeft w (at_server server item ∷ []) (slice_set histories server rest) unused ds → IsLeft w [] histories unused ds
  taken_back w histories unused server item rest ds low at least left = search (picked, arith)

  pub taken_on : (w : W) (histories : List (List Item)) (unused : List (List AgentEntry)) (server : ℕ) (item : Item) (rest : List Item) (ds : List D)
      → server < length histories → history_of histories server ≡ item ∷ rest → IsLeast histories server item
      → IsLeft w [] histories unused ds → IsLeft w (at_server server item ∷ []) (slice_set histories server rest) unused ds
  taken_on w histories unused server item rest ds low at least left = search (picks, arith)

  -- ---- an entry without a stamp

  -- what is so of the event that the next entry of an agent spells, for it to be played, and for these entries to be left of the agent's
  pub record Plays (w : W) (unused : List (List AgentEntry)) (agent : ℕ) (y : AgentEntry) (ys : List AgentEntry) (event : Event) (rest : List AgentEntry) : Type 0 where
    pub there : agent < length unused
    pub at : transcript_of unused agent ≡ y ∷ ys
    pub other : is_asked y ≡ false
    pub spells : event_of agent y ≡ Some event
    pub of : agent_of event ≡ Some agent
    pub sense_is : sense w event ≡ true
    pub quiet : serves w event ≡ None
    pub silent : decides w event ≡ None
    pub told : transcript_of unused agent ≡ puts w event ++ rest
    pub past : (ys ≡ rest) ⊎ ((outcome : EndedJob) × (ys ≡ Ended outcome ∷ rest))

  fits : (w : W) (unused : List (List AgentEntry)) (agent : ℕ) (y : AgentEntry) (ys : List AgentEntry) (event : Event) (rest : List AgentEntry) (items : List ItemAt) → Plays w unused agent y ys event rest
      → Fits next sense serves puts decides w event agent items items unused rest
  fits w unused agent y ys event rest items plays = search arith

  spelt : (w : W) (taken : List ItemAt) (histories : List (List Item)) (unused : List (List AgentEntry)) (agent : ℕ) (y : AgentEntry) (ys : List AgentEntry) (event : Event) (rest : List AgentEntry) (items : List ItemAt)
      → IsTurn taken histories unused agent → Plays w unused agent y ys event rest → IsMerge histories items → weave (taken ++ items) unused ≡ event ∷ weave (taken ++ items) (slice_set unused agent rest)
  spelt w taken histories unused agent y ys event rest items turn plays merge =
      turn y ys plays.at plays.other items merge ∙ ap (λ o. cons_option o (weave (taken ++ items) (slice_set unused agent ys))) plays.spells
      ∙ ap (λ es. event ∷ es) (same_after unused agent ys rest plays.there plays.past (taken ++ items))

  decided_after : (w : W) (event : Event) (events : List Event) → decides w event ≡ None → decided w (event ∷ events) ≡ decided (next w event) events
  decided_after w event events silent = ap (λ o. cons_option o (decided (next w event) events)) silent

  pub entry_back : (w : W) (taken : List ItemAt) (histories : List (List Item)) (unused : List (List AgentEntry)) (agent : ℕ) (y : AgentEntry) (ys : List AgentEntry) (event : Event) (rest : List AgentEntry) (ds : List D)
      → IsTurn taken histories unused agent → Plays w unused agent y ys event rest → IsLeft (next w event) taken histories (slice_set unused agent rest) ds → IsLeft w taken histories unused ds
  entry_back w taken histories unused agent y ys event rest ds turn plays left =
      let e = spelt w taken histories unused agent y ys event rest left.items turn plays left.merge in
      record {
        items = left.items;
        merge = left.merge;
        run = subst (λ es. Of w es (taken ++ left.items) unused) (sym e)
            (goes_back next sense serves puts decides w event agent _ (taken ++ left.items) (taken ++ left.items) unused rest (fits w unused agent y ys event rest (taken ++ left.items) plays) left.run);
        is = left.is ∙ sym (decided_after w event _ plays.silent) ∙ sym (ap (λ es. decided w es) e);
      }

  pub entry_on : (w : W) (taken : List ItemAt) (histories : List (List Item)) (unused : List (List AgentEntry)) (agent : ℕ) (y : AgentEntry) (ys : List AgentEntry) (event : Event) (rest : List AgentEntry) (ds : List D)
      → IsTurn taken histories unused agent → Plays w unused agent y ys event rest → IsLeft w taken histories unused ds → IsLeft (next w event) taken histories (slice_set unused agent rest) ds
  entry_on w taken histories unused agent y ys event rest ds turn plays left =
      let e = spelt w taken histories unused agent y ys event rest left.items turn plays left.merge in
      record {
        items = left.items;
        merge = left.merge;
        run = goes_on next sense serves puts decides w event agent _ (taken ++ left.items) (taken ++ left.items) unused rest (fits w unused agent y ys event rest (taken ++ left.items) plays)
            (subst (λ es. Of w es (taken ++ left.items) unused) e left.run);
        is = left.is ∙ ap (λ es. decided w es) e ∙ decided_after w event _ plays.silent;
      }

  -- it begins the rest of the run
  entry_first : (w : W) (taken : List ItemAt) (histories : List (List Item)) (unused : List (List AgentEntry)) (agent : ℕ) (y : AgentEntry) (ys : List AgentEntry) (event : Event) (ds : List D)
      → IsTurn taken histories unused agent → transcript_of unused agent ≡ y ∷ ys → is_asked y ≡ false → event_of agent y ≡ Some event → (left : IsLeft w taken histories unused ds)
      → (events : List Event) × Of w (event ∷ events) (taken ++ left.items) unused
  entry_first w taken histories unused agent y ys event ds turn at other spells left = (
    weave (taken ++ left.items) (slice_set unused agent ys),
    subst (λ es. Of w es (taken ++ left.items) unused)
        (turn y ys at other left.items left.merge ∙ ap (λ o. cons_option o (weave (taken ++ left.items) (slice_set unused agent ys))) spells) left.run,
  )

  pub senseless : (w : W) (taken : List ItemAt) (histories : List (List Item)) (unused : List (List AgentEntry)) (agent : ℕ) (y : AgentEntry) (ys : List AgentEntry) (event : Event) (ds : List D)
      → IsTurn taken histories unused agent → transcript_of unused agent ≡ y ∷ ys → is_asked y ≡ false → event_of agent y ≡ Some event → sense w event ≡ false → ¬ (IsLeft w taken histories unused ds)
  senseless w taken histories unused agent y ys event ds turn at other spells none left =
      let h = entry_first w taken histories unused agent y ys event ds turn at other spells left in
      no_sense next sense serves puts decides w event h.0 (taken ++ left.items) unused none h.1

  -- it has sense, and what it puts down begins the agent's transcript
  pub told_so : (w : W) (taken : List ItemAt) (histories : List (List Item)) (unused : List (List AgentEntry)) (agent : ℕ) (y : AgentEntry) (ys : List AgentEntry) (event : Event) (ds : List D)
      → IsTurn taken histories unused agent → transcript_of unused agent ≡ y ∷ ys → is_asked y ≡ false → event_of agent y ≡ Some event → agent_of event ≡ Some agent → IsLeft w taken histories unused ds
      → (sense w event ≡ true) × ((rest : List AgentEntry) × (transcript_of unused agent ≡ puts w event ++ rest))
  told_so w taken histories unused agent y ys event ds turn at other spells of left =
      let h = entry_first w taken histories unused agent y ys event ds turn at other spells left in
      (h.1.sense_is.0, puts_first next sense serves puts decides w event agent h.0 (taken ++ left.items) unused of h.1)

  -- ---- an entry with a stamp

  pub asked_back : (w : W) (one : ItemAt) (histories : List (List Item)) (unused : List (List AgentEntry)) (agent server stamp : ℕ) (ys rest : List AgentEntry) (ds : List D)
      → one.item.agent ≡ Some agent → agent < length unused → transcript_of unused agent ≡ Asked server stamp ∷ ys → sense w (Step agent) ≡ true → serves w (Step agent) ≡ Some one
      → transcript_of unused agent ≡ puts w (Step agent) ++ rest → (ys ≡ rest) ⊎ ((outcome : EndedJob) × (ys ≡ Ended outcome ∷ rest))
      → IsLeft (next w (Step agent)) [] histories (slice_set unused agent rest) ds → IsLeft w (one ∷ []) histories unused (cons_option (decides w (Step agent)) ds)
  asked_back w one histories unused agent server stamp ys rest ds of low at sense_is served told past left =
      let e : weave (one ∷ left.items) unused ≡ Step agent ∷ weave left.items (slice_set unused agent rest) =
      weave_asked one left.items unused agent server stamp ys of at ∙ ap (λ es. Step agent ∷ es) (same_after unused agent ys rest low past left.items) in
      record {
        items = left.items;
        merge = left.merge;
        run = subst (λ es. Of w es (one ∷ left.items) unused) (sym e) (goes_back next sense serves puts decides w (Step agent) agent _ (one ∷ left.items) left.items unused rest
            (record { of = refl; there = low; sense_is = sense_is; served = ap (λ o. cons_option o left.items) (sym served); told = told }) left.run);
        is = ap (λ xs. cons_option (decides w (Step agent)) xs) left.is ∙ sym (ap (λ es. decided w es) e);
      }

  pub asked_on : (w : W) (one : ItemAt) (histories : List (List Item)) (unused : List (List AgentEntry)) (agent server stamp : ℕ) (ys rest : List AgentEntry) (ds : List D)
      → one.item.agent ≡ Some agent → agent < length unused → transcript_of unused agent ≡ Asked server stamp ∷ ys → sense w (Step agent) ≡ true → serves w (Step agent) ≡ Some one
      → transcript_of unused agent ≡ puts w (Step agent) ++ rest → (ys ≡ rest) ⊎ ((outcome : EndedJob) × (ys ≡ Ended outcome ∷ rest))
      → IsLeft w (one ∷ []) histories unused ds → (later : List D) × (ds ≡ cons_option (decides w (Step agent)) later) × IsLeft (next w (Step agent)) [] histories (slice_set unused agent rest) later
  asked_on w one histories unused agent server stamp ys rest ds of low at sense_is served told past left =
      let e : weave (one ∷ left.items) unused ≡ Step agent ∷ weave left.items (slice_set unused agent rest) =
      weave_asked one left.items unused agent server stamp ys of at ∙ ap (λ es. Step agent ∷ es) (same_after unused agent ys rest low past left.items) in (
        decided (next w (Step agent)) (weave left.items (slice_set unused agent rest)),
        left.is ∙ ap (λ es. decided w es) e,
        record {
          items = left.items;
          merge = left.merge;
          run = goes_on next sense serves puts decides w (Step agent) agent _ (one ∷ left.items) left.items unused rest
              (record { of = refl; there = low; sense_is = sense_is; served = ap (λ o. cons_option o left.items) (sym served); told = told })
              (subst (λ es. Of w es (one ∷ left.items) unused) e left.run);
          is = refl;
        },
      )

  -- it has sense, what it puts down begins the agent's transcript, and what it serves is the item
  pub asked_so : (w : W) (one : ItemAt) (histories : List (List Item)) (unused : List (List AgentEntry)) (agent server stamp : ℕ) (ys : List AgentEntry) (ds : List D)
      → one.item.agent ≡ Some agent → transcript_of unused agent ≡ Asked server stamp ∷ ys → IsLeft w (one ∷ []) histories unused ds
      → (sense w (Step agent) ≡ true) × ((rest : List AgentEntry) × (transcript_of unused agent ≡ puts w (Step agent) ++ rest)) × ((what : ItemAt) → serves w (Step agent) ≡ Some what → one ≡ what)
  asked_so w one histories unused agent server stamp ys ds of at left = search arith

  -- once no items are left it has sense, and serves nothing
  pub rest_so : (w : W) (histories : List (List Item)) (unused : List (List AgentEntry)) (agent server stamp : ℕ) (ys : List AgentEntry) (ds : List D)
      → AreAllPlayed histories → ((i : ℕ) → i < agent → transcript_of unused i ≡ []) → agent < length unused → transcript_of unused agent ≡ Asked server stamp ∷ ys → IsLeft w [] histories unused ds
      → (sense w (Step agent) ≡ true) × ((rest : List AgentEntry) × (transcript_of unused agent ≡ puts w (Step agent) ++ rest)) × ((what : ItemAt) → serves w (Step agent) ≡ Some what → ⊥)
  rest_so w histories unused agent server stamp ys ds empty before low at left =
      let none : left.items ≡ [] = merge_none histories left.items empty left.merge in
      let events : List Event = weave [] (slice_set unused agent ys) in
      let run : Of w (Step agent ∷ events) [] unused = subst (λ es. Of w es [] unused) (weave_rest unused agent (Asked server stamp) ys before low at) (subst (λ xs. Of w (weave xs unused) xs unused) none left.run) in (
        run.sense_is.0,
        puts_first next sense serves puts decides w (Step agent) agent events [] unused refl run,
        λ what is. let h = serves_first next sense serves puts decides w (Step agent) events [] unused what is run in no_cons what h.0 h.1,
      )

  -- ---- the operator's item

  pub operated_back : (w : W) (one : ItemAt) (event : Event) (histories : List (List Item)) (unused : List (List AgentEntry)) (ds : List D) → one.item.agent ≡ None → operated one.server one.item.request.value ≡ event ∷ []
      → agent_of event ≡ None → sense w event ≡ true → serves w event ≡ Some one → decides w event ≡ None
      → IsLeft (next w event) [] histories unused ds → IsLeft w (one ∷ []) histories unused ds
  operated_back w one event histories unused ds of spells none sense_is served silent left = search arith

  pub operated_on : (w : W) (one : ItemAt) (event : Event) (histories : List (List Item)) (unused : List (List AgentEntry)) (ds : List D) → one.item.agent ≡ None → operated one.server one.item.request.value ≡ event ∷ []
      → agent_of event ≡ None → sense w event ≡ true → serves w event ≡ Some one → decides w event ≡ None
      → IsLeft w (one ∷ []) histories unused ds → IsLeft (next w event) [] histories unused ds
  operated_on w one event histories unused ds of spells none sense_is served silent left = search arith

  -- ---- what is never left

  pub ended_first : ((w : W) (event : Event) (what : ItemAt) → serves w event ≡ Some what → what.item.agent ≡ asker event)
      → ((w : W) (event : Event) (outcome : EndedJob) (rest : List AgentEntry) → puts w event ≢ Ended outcome ∷ rest)
      → (w : W) (taken : List ItemAt) (histories : List (List Item)) (unused : List (List AgentEntry)) (agent : ℕ) (outcome : EndedJob) (rest : List AgentEntry) (ds : List D)
      → transcript_of unused agent ≡ Ended outcome ∷ rest → ¬ (IsLeft w taken histories unused ds)
  ended_first asks each w taken histories unused agent outcome rest ds at left = search (refuting.no_end_first, arith)

  pub nothing_of : ((w : W) (event : Event) (what : ItemAt) → serves w event ≡ Some what → what.item.agent ≡ asker event) → (w : W) (one : ItemAt) (histories : List (List Item)) (unused : List (List AgentEntry)) (agent : ℕ) (ds : List D)
      → one.item.agent ≡ Some agent → transcript_of unused agent ≡ [] → ¬ (IsLeft w (one ∷ []) histories unused ds)
  nothing_of asks w one histories unused agent ds of none left = refuting.none_left next sense serves puts decides asks w one left.items unused agent of none left.run

  pub unlike : ((w : W) (event : Event) (what : ItemAt) → serves w event ≡ Some what → what.item.agent ≡ asker event) → (P : ItemAt → Type 0)
      → ((w : W) (event : Event) (what : ItemAt) → serves w event ≡ Some what → P what) → (w : W) (one : ItemAt) (histories : List (List Item)) (unused : List (List AgentEntry))
      (ds : List D)
      → ¬ (P one) → ¬ (IsLeft w (one ∷ []) histories unused ds)
  unlike asks P each w one histories unused ds not left = refuting.never_served next sense serves puts decides asks P each w (weave (one ∷ left.items) unused) one left.items unused not left.run

  -- ---- nothing is left

  pub all_done : (w : W) (histories : List (List Item)) (unused : List (List AgentEntry)) → AreAllPlayed histories → ((agent : ℕ) → transcript_of unused agent ≡ []) → IsLeft w [] histories unused []
  all_done w histories unused empty none = search (weave_empty, none_merge, arith)
