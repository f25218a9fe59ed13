use Rattle.acl_text.proofs.RoundTrip.{long_text_spells}
use Rattle.acl_text.proofs.laws.long_text_spells_its_lists.Goals as goal

pub returns : goal.returns
returns c = long_text_spells
