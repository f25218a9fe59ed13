use Rattle.std.proofs.Common.{◌∙◌, ap, sym}
use Rattle.script_text.proofs.PhraseLemmas.{next_phrase_of}
use Rattle.script_text.proofs.phrases.Phrases.next_phrase.Goals as goal

pub returns-in-Some : goal.returns-in-Some
returns-in-Some c =
    sym (ap (λ left. left.later) c.self.view_is)
    ∙ next_phrase_of c.self.inside.rest.now c.in-Some.rest.now c.in-Some.field-0-0.now c.in-Some.ensures (ap (λ left. left.here) c.self.view_is ∙ c.requires)
