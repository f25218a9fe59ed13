-- What is told of servers, one server more.
use Rattle.suite_session.proofs.Vocabulary.{◌≡◌, ℕ, suc, ◌+◌, List, [], ◌∷◌, ◌++◌, None, ap, arith, refl, root, server_at, Opening, standing_at, standing_line}
use Rattle.suite_session.proofs.Vocabulary.{locks_by, named_by, room_line, Copies, newer, Sought, Side}
use Rattle.run_core.specs.Worlds.{World}
use Rattle.suite_session.specs.Copies.{standing_lines}
use Rattle.suite_session.specs.HeldLocks.{locks_text}
use Rattle.suite_session.specs.Places.{named_in, room_lines}
use Rattle.suite_session.specs.Rows.{newest}

one_more : (count : ℕ) → count + 1 ≡ suc count
one_more count = omega arith

-- ---- the newest copies of a suite

pub newest_more : (one : Side) (copies : Copies) (suite count : ℕ) → newest one copies suite (count + 1) ≡ newer one (newest one copies suite count) (copies count suite)
unfolding newest
newest_more one copies suite count = ap (newest one copies suite) (one_more count)

pub none_newest : (one : Side) (copies : Copies) (suite : ℕ) → newest one copies suite 0 ≡ None
unfolding newest
none_newest one copies suite = refl

-- ---- copies

pub standing_more : (text : List ℕ) (sought : Sought) (world : World) (count : ℕ)
    → standing_lines text sought world (count + 1) ≡ standing_lines text sought world count ++ standing_line text sought (standing_at world sought.suite count)
unfolding standing_lines
standing_more text sought world count = ap (standing_lines text sought world) (one_more count)

pub none_standing : (text : List ℕ) (sought : Sought) (world : World) → standing_lines text sought world 0 ≡ []
unfolding standing_lines
none_standing text sought world = refl

-- ---- locks

pub locks_more : (given : Opening) (world : World) (count : ℕ) → locks_text given world (count + 1) ≡ locks_text given world count ++ locks_by given world count (server_at world count)
unfolding locks_text
locks_more given world count = ap (locks_text given world) (one_more count)

pub none_locked : (given : Opening) (world : World) → locks_text given world 0 ≡ []
unfolding locks_text
none_locked given world = refl

-- ---- places

pub named_more : (world : World) (count number : ℕ) → named_in world count (number + 1) ≡ named_in world count number ++ named_by world count (server_at world number)
unfolding named_in
named_more world count number = ap (named_in world count) (one_more number)

pub root_named : (world : World) (count : ℕ) → named_in world count 0 ≡ root ∷ []
unfolding named_in
root_named world count = refl

pub room_more : (named : List ℕ) (world : World) (count : ℕ) → room_lines named world (count + 1) ≡ room_lines named world count ++ room_line named count (server_at world count)
unfolding room_lines
room_more named world count = ap (room_lines named world) (one_more count)

pub no_room : (named : List ℕ) (world : World) → room_lines named world 0 ≡ []
unfolding room_lines
no_room named world = refl
