use Rattle.txn_core.proofs.Vocabulary.{rules, ◌≡◌, ℕ, List, ◌∷◌, true, false, Some, refl, ap, sym, subst, ◌∙◌, drop, IfOk, IfErr, OnErr, IsTrue, slice_get, IfOk-weaker, is_prepared, Lost, On, Replied, phase_of, proposing, GoesBy, IsStep}
use Rattle.txn_core.proofs.Vocabulary.{IsUntouched, fixed_by, replied, Phase, Gathering, Fetching, Widening, Deciding, Finishing, TransactionRun, Step, give_up, request_of, tell_end, to_widen, FitsAsked, by_taking, IsReachedBy}
use Rattle.txn_core.proofs.Handling.{late_step, untouched_on}
use Rattle.txn_core.proofs.Passing.{in_place, phase_at, proposing_first, proposing_none, prepares_on, prepares_not, tells}
use Rattle.txn_core.proofs.Replies.{replied_where_asked, widened_where_asked, replied_decided, replied_told, gathering_shows, widening_shows}
use Rattle.txn_core.proofs.Wanting.{deciding_wants, gathering_wants_asked, widening_wants_asked}
use Rattle.txn_core.proofs.transaction_run.TransactionRun.on_reply.Goals as goal

pub on_held-requires-clause-reached : goal.on_held-requires-clause-reached
on_held-requires-clause-reached c =
    let at = Gathering c.in-Gathering.number in
    let here : TransactionRun = record { task = c.self.inside.task; suites = c.self.inside.suites.pairs; phase = at } in
    let back : here ≡ c.args.self.now = in_place c.args.self.now _ at c.self.view_is (ap phase_of c.in-Gathering.is) in
    subst (λ one. IsReachedBy c.args.resources.now.fixed_parts one c.args.resources.now.progress) (sym back) c.requires.ready.reached

pub on_held-requires-clause-shown : goal.on_held-requires-clause-shown
on_held-requires-clause-shown c =
    let resources = c.args.resources.now in
    let at = Gathering c.in-Gathering.number in
    let here : TransactionRun = record { task = c.self.inside.task; suites = c.self.inside.suites.pairs; phase = at } in
    let back : here ≡ c.args.self.now = in_place c.args.self.now _ at c.self.view_is (ap phase_of c.in-Gathering.is) in
    gathering_shows (fixed_by resources) here resources.cache.entries c.args.said.now c.in-Gathering.number refl
    (subst (λ one. FitsAsked (request_of (fixed_by resources) one) (Replied c.args.said.now)) (sym back) c.requires.fits)

pub returns-in-Gathering-clause-ok : goal.returns-in-Gathering-clause-ok
returns-in-Gathering-clause-ok c =
    let resources = c.args.resources.now in
    let at = Gathering c.in-Gathering.number in
    let here : TransactionRun = record { task = c.self.inside.task; suites = c.self.inside.suites.pairs; phase = at } in
    let back : here ≡ c.args.self.now = in_place c.args.self.now _ at c.self.view_is (ap phase_of c.in-Gathering.is) in
    let Goes : Step → Type 0 = λ step. IfOk c.on_held.result (λ flow. IsStep resources step flow c.on_held.new.self c.on_held.new.resources) in
    subst (λ one. Goes (replied resources one c.args.said.now)) back
    (subst Goes (sym (replied_where_asked (fixed_by resources) here resources.cache.entries c.args.said.now c.in-Gathering.number refl)) c.on_held.ensures.ok)

pub returns-in-Gathering-clause-err : goal.returns-in-Gathering-clause-err
returns-in-Gathering-clause-err c =
    let at = Gathering c.in-Gathering.number in
    let back = in_place c.args.self.now _ at c.self.view_is (ap phase_of c.in-Gathering.is) in
    subst (λ one. OnErr c.on_held.result (IsUntouched c.args.resources.now one c.on_held.new.self c.on_held.new.resources)) back c.on_held.ensures.err

pub returns-in-Gathering-clause-memory : goal.returns-in-Gathering-clause-memory
returns-in-Gathering-clause-memory c =
    let fixed = fixed_by c.args.resources.now in
    let at = Gathering c.in-Gathering.number in
    let here : TransactionRun = record { task = c.self.inside.task; suites = c.self.inside.suites.pairs; phase = at } in
    let back : here ≡ c.args.self.now = in_place c.args.self.now _ at c.self.view_is (ap phase_of c.in-Gathering.is) in
    subst (λ one. IfErr c.on_held.result (λ _. IsTrue (by_taking (request_of fixed one) (Replied c.args.said.now)))) back
    (gathering_wants_asked fixed here c.args.said.now c.in-Gathering.number c.on_held.result refl c.on_held.ensures.asked c.on_held.ensures.memory)

pub on_given-requires-clause-reached : goal.on_given-requires-clause-reached
on_given-requires-clause-reached c =
    let at = Fetching c.in-Fetching.number in
    let back = in_place c.args.self.now _ at c.self.view_is (ap phase_of c.in-Fetching.is) in
    subst (λ one. IsReachedBy c.args.resources.now.fixed_parts one c.args.resources.now.progress) (sym back) c.requires.ready.reached

pub on_widened-requires : goal.on_widened-requires
on_widened-requires c =
    let resources = c.args.resources.now in
    let with' = c.in-Widening in
    let left = to_widen (drop with'.after with'.granted.changes) in
    let at = Widening (with'.number ∷ left) with'.granted in
    let here : TransactionRun = record { task = c.self.inside.task; suites = c.self.inside.suites.pairs; phase = at } in
    let back : here ≡ c.args.self.now = in_place c.args.self.now _ at c.self.view_is (ap phase_of with'.is) in
    record {
      shown =
          widening_shows (fixed_by resources) here resources.cache.entries c.args.said.now with'.number left with'.granted refl
          (subst (λ one. FitsAsked (request_of (fixed_by resources) one) (Replied c.args.said.now)) (sym back) c.requires.fits);
    }

pub returns-in-Widening-clause-ok : goal.returns-in-Widening-clause-ok
returns-in-Widening-clause-ok c =
    let resources = c.args.resources.now in
    let with' = c.in-Widening in
    let left = to_widen (drop with'.after with'.granted.changes) in
    let at = Widening (with'.number ∷ left) with'.granted in
    let is : c.args.self.now.phase ≡ at = phase_at c.args.self.now _ at c.self.view_is (ap phase_of with'.is) in
    let here : TransactionRun = record { task = c.self.inside.task; suites = c.self.inside.suites.pairs; phase = at } in
    let back : here ≡ c.args.self.now = in_place c.args.self.now _ at c.self.view_is (ap phase_of with'.is) in
    IfOk-weaker c.on_widened.result _ _
    (λ flow widened.
    let Goes : TransactionRun → Type 0 = λ one. GoesBy (replied resources one c.args.said.now) flow c.on_widened.new.self resources.cache.entries in
    late_step resources c.requires.ready.unused c.args.self.now c.args.said.now at flow c.on_widened.new.self is tt
    (subst Goes back (widened_where_asked (fixed_by resources) here resources.cache.entries c.args.said.now with'.number left with'.granted flow c.on_widened.new.self refl widened)))
    c.on_widened.ensures.ok

pub returns-in-Widening-clause-memory : goal.returns-in-Widening-clause-memory
returns-in-Widening-clause-memory c =
    let fixed = fixed_by c.args.resources.now in
    let with' = c.in-Widening in
    let left = to_widen (drop with'.after with'.granted.changes) in
    let at = Widening (with'.number ∷ left) with'.granted in
    let here : TransactionRun = record { task = c.self.inside.task; suites = c.self.inside.suites.pairs; phase = at } in
    let back : here ≡ c.args.self.now = in_place c.args.self.now _ at c.self.view_is (ap phase_of with'.is) in
    subst (λ one. IfErr c.on_widened.result (λ _. IsTrue (by_taking (request_of fixed one) (Replied c.args.said.now)))) back
    (widening_wants_asked fixed here c.args.said.now with'.number c.on_widened.result left with'.granted refl c.on_widened.ensures.asked c.on_widened.ensures.memory)

pub returns-in-Widening-clause-err : goal.returns-in-Widening-clause-err
returns-in-Widening-clause-err c =
    let with' = c.in-Widening in
    let at = Widening (with'.number ∷ to_widen (drop with'.after with'.granted.changes)) with'.granted in
    let back = in_place c.args.self.now _ at c.self.view_is (ap phase_of with'.is) in
    untouched_on c.args.resources.now c.args.self.now c.on_widened.new.self c.on_widened.result (subst (λ one. OnErr c.on_widened.result (c.on_widened.new.self ≡ one)) back c.on_widened.ensures.err) c.requires.ready.reached

pub returns-in_default-clause-ok : goal.returns-in_default-clause-ok
returns-in_default-clause-ok c =
    let resources = c.args.resources.now in
    let entries = resources.cache.entries in
    let with' = c.in-Proposing in
    let at = proposing with'.servers with'.field-1 in
    let none = proposing_none with'.servers with'.field-1 (sym c.first.ensures ∙ c.in_default.is) in
    let is : c.args.self.now.phase ≡ Deciding with'.field-1 = phase_at c.args.self.now _ at c.self.view_is (ap phase_of with'.is) ∙ none in
    let here : TransactionRun = record { task = c.self.inside.task; suites = c.self.inside.suites.pairs; phase = at } in
    let back : here ≡ c.args.self.now = in_place c.args.self.now _ at c.self.view_is (ap phase_of with'.is) in
    IfOk-weaker c.on_verdict.result _ _
    (λ flow steps.
    let Goes : Step → Type 0 = λ step. GoesBy step flow c.on_verdict.new.self entries in
    late_step resources c.requires.ready.unused c.args.self.now c.args.said.now (Deciding with'.field-1) flow c.on_verdict.new.self is tt
    (subst (λ one. Goes (replied resources one c.args.said.now)) back (subst Goes (sym (replied_decided (fixed_by resources) here entries c.args.said.now with'.field-1 none)) (steps entries))))
    c.on_verdict.ensures.ok

pub returns-in_default-clause-memory : goal.returns-in_default-clause-memory
returns-in_default-clause-memory c =
    let with' = c.in-Proposing in
    let at = proposing with'.servers with'.field-1 in
    let is : c.args.self.now.phase ≡ Deciding with'.field-1 =
    phase_at c.args.self.now _ at c.self.view_is (ap phase_of with'.is) ∙ proposing_none with'.servers with'.field-1 (sym c.first.ensures ∙ c.in_default.is) in
    deciding_wants (fixed_by c.args.resources.now) c.args.self.now c.args.said.now with'.field-1 c.on_verdict.result is c.on_verdict.ensures.memory

pub returns-in_default-clause-err : goal.returns-in_default-clause-err
returns-in_default-clause-err c =
    let with' = c.in-Proposing in
    let at = proposing with'.servers with'.field-1 in
    let back = in_place c.args.self.now _ at c.self.view_is (ap phase_of with'.is) in
    untouched_on c.args.resources.now c.args.self.now c.on_verdict.new.self c.on_verdict.result (subst (λ one. OnErr c.on_verdict.result (c.on_verdict.new.self ≡ one)) back c.on_verdict.ensures.err) c.requires.ready.reached

pub returns-then-not-matches-clause-ok : goal.returns-then-not-matches-clause-ok
returns-then-not-matches-clause-ok c =
    let resources = c.args.resources.now in
    let now = c.args.self.now in
    let with' = c.in-Proposing in
    let server = c.in-Some-first.server in
    let at = proposing with'.servers with'.field-1 in
    let is : now.phase ≡ at = phase_at now _ at c.self.view_is (ap phase_of with'.is) in
    let first : slice_get with'.servers 0 ≡ Some server = sym c.first.ensures ∙ c.in-Some-first.is in
    let holds : is_prepared c.args.said.now ≡ false = search rules in
    let back = in_place now _ at c.self.view_is (ap phase_of with'.is) in
    late_step resources c.requires.ready.unused now c.args.said.now _ c.give_up.result c.give_up.new.self (is ∙ proposing_first with'.servers with'.field-1 server first) tt
    (prepares_not (fixed_by resources) now resources.cache.entries c.args.said.now with'.servers with'.field-1 server is first c.give_up.result c.give_up.new.self holds
    (subst (λ (one : TransactionRun). GoesBy (give_up one.task resources.cache.entries one.suites (Lost server)) c.give_up.result c.give_up.new.self resources.cache.entries) back (c.give_up.ensures resources.cache.entries)))

pub returns-else-not-matches-clause-ok : goal.returns-else-not-matches-clause-ok
returns-else-not-matches-clause-ok c =
    let resources = c.args.resources.now in
    let now = c.args.self.now in
    let with' = c.in-Proposing in
    let server = c.in-Some-first.server in
    let at = proposing with'.servers with'.field-1 in
    let is : now.phase ≡ at = phase_at now _ at c.self.view_is (ap phase_of with'.is) in
    let first : slice_get with'.servers 0 ≡ Some server = sym c.first.ensures ∙ c.in-Some-first.is in
    let holds : is_prepared c.args.said.now ≡ true = search rules in
    let here : List ℕ → TransactionRun = λ left. record { task = c.self.inside.task; suites = c.self.inside.suites.pairs; phase = proposing left with'.field-1 } in
    let Goes : TransactionRun → Type 0 = λ after. GoesBy (replied resources now c.args.said.now) On after resources.cache.entries in
    late_step resources c.requires.ready.unused now c.args.said.now _ On (here c.pass.new.self) (is ∙ proposing_first with'.servers with'.field-1 server first) tt
    (subst (λ left. Goes (here left)) (sym c.pass.ensures)
    (subst (λ (one : TransactionRun). Goes (record one { phase = proposing (drop 1 with'.servers) with'.field-1 })) (sym c.self.view_is)
    (prepares_on (fixed_by resources) now resources.cache.entries c.args.said.now with'.servers with'.field-1 server is first holds)))

pub returns-in-Finishing-clause-ok : goal.returns-in-Finishing-clause-ok
returns-in-Finishing-clause-ok c =
    let resources = c.args.resources.now in
    let now = c.args.self.now in
    let with' = c.in-Finishing in
    let told = c.tell_next in
    let at = Finishing (with'.server ∷ with'.left) with'.verdict with'.ending in
    let is : now.phase ≡ at = phase_at now _ at c.self.view_is (ap phase_of with'.is) in
    let then' : Phase = Finishing (told.new.server ∷ told.new.left) with'.verdict told.new.ending in
    let here : TransactionRun = record { task = c.self.inside.task; suites = c.self.inside.suites.pairs; phase = then' } in
    let Goes : Step → TransactionRun → Type 0 = λ step after. GoesBy step told.result after resources.cache.entries in
    late_step resources c.requires.ready.unused now c.args.said.now at told.result here is tt
    (subst (λ step. Goes step here) (sym (replied_told (fixed_by resources) now resources.cache.entries c.args.said.now with'.server with'.left with'.verdict with'.ending is))
    (subst (λ (one : TransactionRun). Goes (tell_end now.task resources.cache.entries now.suites with'.verdict with'.ending with'.left) (record one { phase = then' })) (sym c.self.view_is)
    (tells now.task resources.cache.entries now.suites with'.verdict with'.left with'.ending told.result told.new.server told.new.left told.new.ending told.ensures)))
