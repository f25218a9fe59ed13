-- What a prepared transaction leaves of a suite once it is decided.
use Rattle.std.specs.Prelude.{ℕ}
use Rattle.rep_core.specs.declared.request.Take.{Take}

pub record Intention : Type 0 where
  pub t : ℕ
  pub take : Take
