-- What can be told of servers, by what is known of each; and how many suites a history asks for.
use Rattle.run_certify.proofs.Vocabulary.{◌≡◌, ℕ, zero, suc, Bool, true, false, List, [], ◌∷◌, map, refl, arith, slice_index_or, list_all, ◌||◌, Item, AgentEntry, can_all_be_told, can_be_full, can_be_told, can_be_told_by}

-- ---- what is told

at_server : (histories : List (List Item)) (server : ℕ) → slice_index_or (map can_be_full histories) server false ≡ can_be_full (slice_index_or histories server [])
at_server [] server = refl
at_server (history ∷ histories) zero = refl
at_server (history ∷ histories) (suc server) = at_server histories server

told_by : (histories : List (List Item)) (entry : AgentEntry) → can_be_told_by (map can_be_full histories) entry ≡ can_be_told histories entry
told_by histories entry = search (at_server, arith)

pub all_told : (full : List Bool) (histories : List (List Item)) (transcripts : List (List AgentEntry)) → full ≡ map can_be_full histories
    → list_all (λ entries. list_all (λ entry. can_be_told_by full entry) entries) transcripts ≡ can_all_be_told histories transcripts
all_told full histories transcripts same = search (told_by, arith)

-- ---- how many suites are asked for

either : (a b : Bool) → b ≡ true → (a || b) ≡ true
either a b h2 = search arith

neither : (a b : Bool) → a ≡ false → b ≡ false → (a || b) ≡ false
neither a b h2 h3 = search arith
