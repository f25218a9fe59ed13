use Rattle.acl_text.proofs.RoundTrip.{short_text_spells}
use Rattle.acl_text.proofs.laws.short_text_spells_its_lists.Goals as goal

pub returns : goal.returns
returns c = short_text_spells
