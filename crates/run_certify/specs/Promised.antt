-- What is promised of what is certified.
use Rattle.std.specs.Prelude.{◌≡◌, List, ◌++◌}
use Rattle.suite_prefix.specs.SettingsRules.{Opening}
use Rattle.run_core.specs.declared.event.Event.{Event}
use Rattle.server_lock.specs.declared.item.Item.{Item}
use Rattle.law_headline.specs.Premises.{CanBe}
use Rattle.law_headline.specs.Promises.{IsPromised}
use Rattle.run_certify.specs.declared.entry.AgentEntry.{AgentEntry}
use Rattle.run_certify.specs.Certified.{IsCertified}
use Rattle.run_certify.specs.Weaves.{weave}

-- Of the run that histories and transcripts spell, where they are certified, all that is promised of a run, at each of its moments: after those of its
-- events that came before some later ones. It is then a run that there can be, of which each law of the runs that there can be speaks.
abbrev pub CertifiedIsPromised : Opening → List (List Item) → List (List AgentEntry) → Type 0
CertifiedIsPromised given histories transcripts =
    (certified : IsCertified given histories transcripts) (before later : List Event) → weave certified.items transcripts ≡ before ++ later
    → CanBe given before × IsPromised given before
