use Rattle.server_lock.proofs.Vocabulary.{rules, ◌≡◌, ◌∙◌, ◌<◌, List, [], ◌∷◌, ◌++◌, length, cond, None, Some, sym, ap, subst, arith, answer_of, served, State, Item, given_to, item_of, max_items, IsKept, end_of}
use Rattle.server_lock.proofs.Legal.{kept_more, never_full}
use Rattle.server_lock.proofs.locked.Locked.keep.Goals as goal

pub invariant_of-self-2 : goal.invariant_of-self-2
invariant_of-self-2 c =
    let request = c.args.request.now in
    let history = c.self.inside.items.items in
    let server : State = c.self.inside.server.state in
    let reply = c.evaluate.new.reply in
    let full = never_full _ _ _ c.in_ok-step.ensures.full in
    let room : length history < max_items = omega (arith, c.self.inside.items.ok.0, c.len.ensures, c.if-len-ge-MAX_ITEMS.false) in
    let copied : c.in_ok-copy.copy ≡ reply.value = search rules in
    let asked : c.in_ok-asked.asked ≡ request = search rules in
    let item : Item = record { stamp = reply.stamp; agent = c.args.agent; request = c.in_ok-asked.asked; reply = c.in_ok-copy.copy } in
    let same : item ≡ item_of c.args.agent request reply = λ i. record { stamp = reply.stamp; agent = c.args.agent; request = asked i; reply = copied i } in
    let items : c.push_reserved.new.self.items ≡ history ++ item_of c.args.agent request reply ∷ [] =
    c.push_reserved.ensures.items
    ∙ (ap (λ (xs : List Item). xs ++ item ∷ []) c.reserve.ensures.items
    ∙ ap (λ (last : Item). history ++ last ∷ []) same) in
    let leaves : c.apply.new.self.state ≡ served server request = c.apply.ensures ∙ (c.in_ok-step.ensures.step.gives ∙ ap (λ (st : State). served st request) c.in_ok-step.ensures.same) in
    subst (λ (xs : List Item). IsKept c.self.inside.number c.self.inside.settings xs c.apply.new.self.state) (sym items)
    (kept_more c.self.inside.number c.self.inside.settings history server c.apply.new.self.state c.args.agent request reply c.self.invariant room full c.in_ok-step.ensures.reply leaves)

pub returns-clause-reply : goal.returns-clause-reply
returns-clause-reply c =
    let request = c.args.request.now in
    let server : State = c.self.inside.server.state in
    let reply = c.evaluate.new.reply in
    let full = never_full _ _ _ c.in_ok-step.ensures.full in
    let at_end : server ≡ end_of c.args.self.now = c.self.invariant.at_end ∙ ap end_of c.self.view_is in
    let given : given_to server request ≡ Some reply = ap (λ b. cond b None (Some (answer_of server request))) full ∙ ap Some (sym c.in_ok-step.ensures.reply) in
    subst (λ (st : State). given_to st request ≡ Some reply) at_end given
