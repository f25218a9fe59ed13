-- Homes go round: of as many jobs in a row as there are servers one has each server as its home.
use Rattle.law_run_recovers.proofs.Vocabulary.{◌≡◌, ⊎_elim, ℕ, ◌+◌, ◌*◌, ◌-◌, ◌<◌, ◌≤◌, ◌⊎◌, ap, ◌∙◌, arith, ◌%◌, ◌/◌, mod-lt, add-mod_right, Opening, home_of, fixed_of, HomesGoRound}
use Rattle.std.proofs.lemmas.Nat.{div-add-mod', mod-mul-add}

place_of : (place index : ℕ) → index < 64 → (64 * place + index) / 64 ≡ place
place_of place index small = omega arith

-- so many jobs later the home is this many servers on
pub home_later : (given : Opening) (agent count more : ℕ) → agent < 64 → home_of (fixed_of given).service (64 * (count + more) + agent) ≡ (agent + count + more) % given.servers
home_later given agent count more small = search arith

-- from a rest to a greater one, and to a smaller one, past the end
record Reaches (a n server : ℕ) : Type 0 where
  more : ℕ
  few : more < n
  is : (a + more) % n ≡ server

on : (a n server p r : ℕ) → p + r ≡ a → r ≤ server → server < n → (p + server) % n ≡ server → Reaches a n server
on a n server p r is le small rest = record { more = server - r; few = omega (arith, le, small); is = ap (λ sum. sum % n) (to a p r is le) ∙ rest }
  where
    to : (a p r : ℕ) → p + r ≡ a → r ≤ server → a + (server - r) ≡ p + server
    to a p r is le = omega (arith, is, le)

sweep_run : (a n server p r : ℕ) → p + r ≡ a → server < r → r < n → (p + server) % n ≡ server → Reaches a n server
sweep_run a n server p r is less small rest =
    record { more = server + n - r; few = omega (arith, less, small); is = ap (λ sum. sum % n) (to a p r is less small) ∙ add-mod_right (p + server) n ∙ rest }
  where
    to : (a p r : ℕ) → p + r ≡ a → server < r → r < n → a + (server + n - r) ≡ p + server + n
    to a p r is less small = omega (arith, is, less, small)

le_or : (a b : ℕ) → (a ≤ b) ⊎ (b < a)
le_or a b = grind arith

reaches : (a n server : ℕ) → server < n → Reaches a n server
reaches a n server small =
    let some : 0 < n = omega (arith, small) in
    let parts = div-add-mod' a n in
    let rest = mod-mul-add (a / n) n server small in
    ⊎_elim
    (λ le. on a n server (a / n * n) (a % n) parts le small rest)
    (λ less. sweep_run a n server (a / n * n) (a % n) parts less (mod-lt a some) rest)
    (le_or (a % n) server)

pub homes_go_round : HomesGoRound
homes_go_round given agent count server few small = search (reaches (agent + count) given.servers server small, home_later, arith)
