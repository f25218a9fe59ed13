-- What a player shows, and what holds of its fields.
use Rattle.std.specs.Prelude.{◌≡◌, length}
use Rattle.agent_pool.specs.declared.player.Player.TheInside.{Inside}
use Rattle.agent_pool.specs.Transcripts.{Played, begins, most_numbers}

abbrev pub played_of : Inside → Played
played_of fields = record { agent = fields.agent; entries = fields.entries.items; known = fields.known.items }

-- its agent has its number, and began as many jobs as are begun in its transcript; of each server something is known
pub record IsPlayer (fields : Inside) : Type 0 where
  pub number : fields.agent.state.index ≡ fields.number
  pub counted : fields.agent.state.count ≡ begins fields.entries.items
  pub known : length fields.known.items ≡ most_numbers
