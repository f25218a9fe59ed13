-- A world that was played has as many servers and agents as it opened with.
use Rattle.run_certify.proofs.Vocabulary.{◌≡◌, List, length, Option, Opening, Job, World, so_many, IsPlayed, arith}

pub counts : (given : Opening) (world : World) (jobs : List (Option Job)) → IsPlayed given world jobs → (length world.servers ≡ given.servers) × (length world.agents ≡ given.agents)
counts given world jobs played = search (so_many given played.events, arith)
