-- What was shown before anything was told.
use Rattle.std.proofs.Common.{◌≡◌, ℕ, zero, suc, refl, replicate, slice_index}

pub unseen : (servers server : ℕ) → slice_index (replicate servers 0) server ≡ 0
unseen zero server = refl
unseen (suc servers) zero = refl
unseen (suc servers) (suc server) = unseen servers server
