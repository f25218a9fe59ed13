-- A text whose items are all read spells what they say.
use Rattle.acl_text.proofs.Vocabulary.{◌≡◌, ℕ, ◌+◌, List, [], ◌∷◌, Option, None, Result, Ok, Err, map, refl, ap, filter_map, cons_option, ItemFault, SidedEntry, Access, Default, arith, SpelledIsRead, entries_of, Tables, Spells, readings}
use Rattle.acl_text.proofs.Vocabulary.{first_item_fault, entry_said, said_in}

abbrev Reading : Type 0
Reading = Result (Option SidedEntry) ItemFault

all_said : (n : ℕ) (read : List Reading) → first_item_fault n read ≡ None → read ≡ map Ok (map entry_said read)
all_said n [] none = refl
all_said n (Ok said ∷ more) none = ap (λ rest. Ok said ∷ rest) (all_said (n + 1) more none)
all_said n (Err fault ∷ more) none = cc

entries_said : (read : List Reading) → filter_map (λ entry. entry) (map entry_said read) ≡ filter_map entry_said read
entries_said [] = refl
entries_said (first ∷ more) = ap (cons_option (entry_said first)) (entries_said more)

pub spelled_from_faultless : (text : List ℕ) (names : Tables) → first_item_fault 1 (readings text names) ≡ None
    → Spells text names (entries_of Access (said_in text names)) (entries_of Default (said_in text names))
spelled_from_faultless text names none = search (all_said, entries_said, arith)

-- a text that spells entries has no item at fault, and says these entries
no_item_fault : (n : ℕ) (said : List (Option SidedEntry)) → first_item_fault n (map Ok said) ≡ None
no_item_fault n [] = refl
no_item_fault n (first ∷ said) = no_item_fault (n + 1) said

said_again : (said : List (Option SidedEntry)) → filter_map entry_said (map Ok said) ≡ filter_map (λ entry. entry) said
said_again [] = refl
said_again (first ∷ said) = ap (cons_option first) (said_again said)

pub spelled_is_read : SpelledIsRead
spelled_is_read text names access default spelled = search (no_item_fault, said_again, arith)
