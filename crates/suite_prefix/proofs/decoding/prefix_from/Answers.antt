use Rattle.suite_prefix.proofs.Vocabulary.{◌≡◌, [], length, rules, refl, subst, ap, ◌∙◌, IsTrue, nil_from_length, entries_rise, is_canonical, Shape, MakeLists}
use Rattle.suite_prefix.proofs.Judged.{canonical_parts, spells}
use Rattle.suite_prefix.proofs.decoding.prefix_from.Goals as goal

pub lists_from-requires-clause-rise : goal.lists_from-requires-clause-rise
lists_from-requires-clause-rise c =
    let canonical : IsTrue (is_canonical c.args.parts.now) = search rules in
    ap (λ (shape : Shape). entries_rise shape.entries) c.parts.view_is ∙ (canonical_parts c.args.parts.now canonical).rises

pub lists_from-requires-clause-default_rises : goal.lists_from-requires-clause-default_rises
lists_from-requires-clause-default_rises c =
    let canonical : IsTrue (is_canonical c.args.parts.now) = search rules in
    ap (λ (shape : Shape). entries_rise shape.default) c.parts.view_is ∙ (canonical_parts c.args.parts.now canonical).default_rises

pub returns-then-not-is_empty-clause-error : goal.returns-then-not-is_empty-clause-error
returns-then-not-is_empty-clause-error c =
    let canonical : IsTrue (is_canonical c.args.parts.now) = search rules in
    let accepted : MakeLists c.args.parts.now.entries c.args.parts.now.default = subst (λ (shape : Shape). MakeLists shape.entries shape.default) c.parts.view_is (c.in_ok-lists.ensures.accepted.0 refl) in
    let spelled = spells c.args.parts.now c.requires canonical (c.in-Some.ensures.sound.0 refl) accepted in
    (canonical, (spelled, search rules))

pub returns-in_default-lists-clause-error : goal.returns-in_default-lists-clause-error
returns-in_default-lists-clause-error c =
    let canonical : IsTrue (is_canonical c.args.parts.now) = search rules in
    let accepted : MakeLists c.args.parts.now.entries c.args.parts.now.default = subst (λ (shape : Shape). MakeLists shape.entries shape.default) c.parts.view_is (c.in_ok-lists.ensures.accepted.0 refl) in
    let spelled = spells c.args.parts.now c.requires canonical (c.in-Some.ensures.sound.0 refl) accepted in
    let none : length c.args.rest.now ≡ 0 = search rules in
    let ended : c.args.rest.now ≡ [] = nil_from_length c.args.rest.now none in
    record { canonical = canonical; copy = spelled; ended = ended }

pub returns-clause-whole : goal.returns-clause-whole
returns-clause-whole c =
    let canonical : IsTrue (is_canonical c.args.parts.now) = search rules in
    let accepted : MakeLists c.args.parts.now.entries c.args.parts.now.default = subst (λ (shape : Shape). MakeLists shape.entries shape.default) c.parts.view_is (c.in_ok-lists.ensures.accepted.0 refl) in
    let spelled = spells c.args.parts.now c.requires canonical (c.in-Some.ensures.sound.0 refl) accepted in
    let none : length c.args.rest.now ≡ 0 = search rules in
    let ended : c.args.rest.now ≡ [] = nil_from_length c.args.rest.now none in
    record { canonical = canonical; copy = spelled; ended = ended }
