use Rattle.agent_pool.proofs.Vocabulary.{rules, inl, inr, ◌≡◌, ◌<◌, ℕ, List, ◌∷◌, [], length, slice_index, Err, ap, sym, subst, ◌∙◌, IfSome, Option, Stale}
use Rattle.agent_pool.proofs.Vocabulary.{Held, next_of, Standing, AsksNobody, known_after}
use Rattle.agent_pool.specs.Transcripts.{GoesOn, Learns, begins}
use Rattle.agent_pool.proofs.Leaving.{answer_fits, delivery_asks, did_lack, did_stick, does_by, goes_by, heard_begins, heard_in, known_long, learned_by, stale_seen}
use Rattle.agent_pool.proofs.player.Player.step.Goals as goal

pub returns-then-is_err : goal.returns-then-is_err
returns-then-is_err g c = did_lack _ _ _ _ _ (search rules) (search rules) (search rules)

pub returns-in-Err : goal.returns-in-Err
returns-in-Err g c = did_lack _ _ _ _ _ (search rules) (search rules) (search rules)

pub returns-in_default : goal.returns-in_default
returns-in_default g c =
    let same : c.self.inside.agent ≡ c.args.self.now.agent = search rules in
    did_stick _ _ _ _ _ _ (search rules) (search rules) (search rules) (search rules)
    (inl (subst (λ (s : Standing). AsksNobody c.args.context.now.servers.now.servers (next_of s.fixed s.state)) same (c.in-Ok.ensures.none (search rules))))

pub returns-in_default-delivery_from : goal.returns-in_default-delivery_from
returns-in_default-delivery_from g c =
    let answer = c.ask-pass.result.1 in
    let none = sym c.delivery_from.ensures ∙ c.in_default-delivery_from.is in
    did_stick _ _ _ _ _ _ (search rules) (search rules) (search rules) (search rules)
    (inr (stale_seen c.in-Some.server answer.before c.in-Some.request answer.reply c.args.pass _ none
    (λ long e. c.ask-pass.ensures.stale.0 (subst (λ (n : ℕ). answer.reply ≡ Err (Stale n)) (c.ask-pass.ensures.told.stale long e) e)) (search rules)))

pub invariant_of-self-2 : goal.invariant_of-self-2
invariant_of-self-2 g c =
    let delivery = c.in-Some-delivery_from.delivery in
    let answer = c.ask-pass.result.1 in
    let asks = delivery_asks c.in-Some.server answer.reply delivery (sym c.delivery_from.ensures ∙ c.in-Some-delivery_from.is) in
    let h = c.hear-came.ensures in
    record {
      number = h.1 ∙ c.self.invariant.number;
      counted = h.2 ∙ c.self.invariant.counted ∙ sym (heard_begins c.self.inside.number c.args.begun delivery c.self.inside.agent c.reserve.new.self.items c.hear-came.new.agent
          c.hear-came.new.entries.items c.hear-came.result asks h ∙ ap begins c.reserve.ensures.items);
      known = ap length c.learn.ensures.known ∙ known_long c.in-Some.server c.stamp_in-stamp.result c.self.inside.known.items ∙ c.self.invariant.known;
    }

pub returns : goal.returns
returns g c =
    let delivery = c.in-Some-delivery_from.delivery in
    let answer = c.ask-pass.result.1 in
    let is = sym c.delivery_from.ensures ∙ c.in-Some-delivery_from.is in
    let mine : c.self.inside.known.items ≡ c.args.self.now.known = search rules in
    let goes = goes_by c.in-Some.server answer.before answer.reply delivery c.args.pass is c.ask-pass.ensures.front c.ask-pass.ensures.rises in
    heard_in _ c.args.begun c.self.inside.number delivery c.args.self.now
    (record { agent = c.hear-came.new.agent; entries = c.hear-came.new.entries.items; known = c.learn.new.known.items }) c.self.inside.agent c.reserve.new.self.items
    c.args.pass c.ask-pass.result.0 c.hear-came.result
    (search rules) (search rules) (search rules) (search rules)
    (delivery_asks c.in-Some.server answer.reply delivery is) (subst (λ (q : Held). GoesOn (delivery.entry ∷ []) c.args.pass q) (sym c.ask-pass.ensures.pass) goes)
    (subst (λ (ks : List ℕ). Learns ks (delivery.entry ∷ []) c.learn.new.known.items) mine
    (learned_by c.in-Some.server answer.reply delivery c.self.inside.known.items c.learn.new.known.items is c.learn.ensures.there
    (subst (λ (told : Option ℕ). IfSome told (λ stamp. slice_index c.self.inside.known.items c.in-Some.server < stamp)) c.stamp_in-stamp.ensures c.learn.ensures.later)
    (c.learn.ensures.known ∙ ap (λ (told : Option ℕ). known_after c.self.inside.known.items c.in-Some.server told) c.stamp_in-stamp.ensures)))
    (does_by c.self.inside.agent.fixed c.self.inside.agent.state c.in-Some.server c.in-Some.request answer.reply delivery is (search rules) c.ask-pass.ensures.fits) c.hear-came.ensures

pub hear-came-requires-clause-fits : goal.hear-came-requires-clause-fits
hear-came-requires-clause-fits g c =
    answer_fits c.in-Some.server c.in-Some.request c.ask-pass.result.1.reply c.in-Some-delivery_from.delivery _ (sym c.delivery_from.ensures ∙ c.in-Some-delivery_from.is) (search rules) c.ask-pass.ensures.fits
