use Rattle.run_certify.proofs.Vocabulary.{◌∙◌, ap, sym, subst, rules, List, ◌<◌, length, slice_set, AgentEntry, transcript_of}
use Rattle.run_certify.proofs.Lists.{at_place, set_place, there}
use Rattle.run_certify.proofs.unused.Unused.next.Goals as goal

pub returns-clause-used : goal.returns-clause-used
returns-clause-used c =
    let items = c.self.inside.transcripts.items in
    let low : c.args.agent < length items = search rules in
    let later = c.in_ok-entry.later.now in record {
      rest = later;
      there = subst (λ (us : List (List AgentEntry)). c.args.agent < length us) c.self.view_is (there (λ transcript. transcript.now) items c.args.agent low);
      first = ap (λ (us : List (List AgentEntry)). transcript_of us c.args.agent) (sym c.self.view_is)
          ∙ at_place (λ transcript. transcript.now) items c.args.agent c.index.result.now low (sym c.index.ensures) ∙ c.in_ok-entry.ensures.cases.0;
      set = set_place (λ transcript. transcript.now) items c.args.agent c.in_ok-entry.later ∙ ap (λ (us : List (List AgentEntry)). slice_set us c.args.agent later) c.self.view_is;
    }
