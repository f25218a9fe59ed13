-- What a transaction asks while it gathers.
use Rattle.txn_core.proofs.Vocabulary.{◌≡◌, ℕ, Bool, Option, Some, ap, same_Some, LockMode, Request, GatheredSuite, Task, asked_for, arith, fetched_for}
use Rattle.rep_core.specs.declared.request.Request.TheVariants as request

pub asks_same : (a b : ℕ) (x y : Request) → ◌≡◌ {A = Option (ℕ × Request)} (Some (a, x)) (Some (b, y)) → x ≡ y
asks_same a b x y is = ap (λ (pair : ℕ × Request). pair.1) (same_Some (a, x) (b, y) is)

-- what holds of polls and upgrades holds of what a collector asks
pub asked_as : (p : Request → Bool) (b : Bool) (task : Task) (number : ℕ) (found : Option GatheredSuite) (server : ℕ) (asked : Request) → ((mode : LockMode) → p (request.Poll task.t number mode) ≡ b) → p (request.Upgrade task.t number) ≡ b
    → asked_for task number found ≡ Some (server, asked) → p asked ≡ b
asked_as p b task number found server asked h7 h8 h9 = search arith

-- what holds of fetches holds of what is asked for a content
pub fetched_as : (p : Request → Bool) (b : Bool) (task : Task) (number : ℕ) (found : Option GatheredSuite) (server : ℕ) (asked : Request) → p (request.Fetch task.t number) ≡ b
    → fetched_for task number found ≡ Some (server, asked) → p asked ≡ b
fetched_as p b task number found server asked h7 h8 = search arith
