-- A course goes alike on rows that agree where they are known.
use Rattle.file_exec.proofs.Vocabulary.{◌≡◌, ℕ, true, false, cond, [], ◌∷◌, Option, Some, refl, sym, ap, ◌∙◌, not, ◌==◌, ◌&&◌, ◌||◌, Row, arith, LockMode, Exclusive, Edit, Course, Give, Refuse, Look, Read, Set, Hold, Know, Edits, changed, seen}
use Rattle.file_exec.proofs.Vocabulary.{sets_content, is_set, content_in, head, looked, content_read, unless_set, needs, ending, KnownSuite, Known, known_of, row_in, known_rows, is_held, is_opened, first_unmet, Heard, heard, IsSoAt, AgreesWith}

-- ---- edits of rows that look the same

head_changed : (edit : Edit) (a b : Option Row) → head a ≡ head b → head (changed edit a) ≡ head (changed edit b)
head_changed edit a b h3 = search arith

pub head_seen : (edits : Edits) (suite : ℕ) (a b : Option Row) → head a ≡ head b → head (seen edits suite a) ≡ head (seen edits suite b)
head_seen [] suite a b same = same
head_seen (e ∷ edits) suite a b same = search (head_changed, head_seen edits suite a b same, arith)

-- a content that was set is the same
content_changed : (edit : Edit) (a b : Option Row) → head a ≡ head b → (sets_content edit ≡ false → content_in a ≡ content_in b) → content_in (changed edit a) ≡ content_in (changed edit b)
content_changed edit a b h3 h4 = search arith

pub content_seen : (edits : Edits) (suite : ℕ) (a b : Option Row) → head a ≡ head b → is_set edits suite ≡ true → content_in (seen edits suite a) ≡ content_in (seen edits suite b)
content_seen [] suite a b same set = cc
content_seen (e ∷ edits) suite a b same set =
    elim (e.0 == suite) as (λ here. ((here && sets_content e.1) || is_set edits suite) ≡ true
    → content_in (cond here (changed e.1 (seen edits suite a)) (seen edits suite a)) ≡ content_in (cond here (changed e.1 (seen edits suite b)) (seen edits suite b))) [
      | true ↦ λ set. content_changed e.1 (seen edits suite a) (seen edits suite b) (head_seen edits suite a b same) (λ no. content_seen edits suite a b same (ap (λ b. b || is_set edits suite) (sym no) ∙ set))
      | false ↦ λ set. content_seen edits suite a b same set
    ] set

-- ---- courses

-- what a course does on some rows after some edits
abbrev Goes : {A E : Type 0} → Known → (ℕ → Option Row) → Edits → Course A E → Heard A E
Goes known rows edits course = heard (first_unmet known (needs rows edits course)) (ending rows edits course)

-- a suite that is held shows the same, and one that is opened is the same
pub held_head : (mode : LockMode) (known : Option KnownSuite) (row : Option Row) → IsSoAt known row → is_held mode known ≡ true → head (row_in known) ≡ head row
held_head mode known row h3 h4 = search arith

pub opened_same : (known : Option KnownSuite) (row : Option Row) → IsSoAt known row → is_opened known ≡ true → row_in known ≡ row
opened_same known row h2 h3 = search arith

-- each suite whose content was set shows the same
abbrev SameWhereSet : Known → (ℕ → Option Row) → Edits → Type 0
SameWhereSet known rows edits = (suite : ℕ) → is_set edits suite ≡ true → head (known_rows known suite) ≡ head (rows suite)

set_more : (known : Known) (rows : ℕ → Option Row) (edits : Edits) (suite : ℕ) (edit : Edit) → SameWhereSet known rows edits → head (known_rows known suite) ≡ head (rows suite) → SameWhereSet known rows ((suite, edit) ∷ edits)
set_more known rows edits suite edit same here q set = search arith

pub goes_alike : {A E : Type 0} (known : Known) (rows : ℕ → Option Row) → AgreesWith known rows → (edits : Edits) → SameWhereSet known rows edits → (course : Course A E)
    → Goes known (known_rows known) edits course ≡ Goes known rows edits course
goes_alike known rows agrees edits same (Give given) = refl
goes_alike known rows agrees edits same (Refuse why) = refl
goes_alike known rows agrees edits same (Set suite edit later) =
    elim (is_held Exclusive (known_of known suite)) as (λ b. is_held Exclusive (known_of known suite) ≡ b
    → heard (cond (not b) (Some (Hold suite Exclusive)) (first_unmet known (needs (known_rows known) ((suite, edit) ∷ edits) later)))
    (ending (known_rows known) ((suite, edit) ∷ edits) later) ≡ heard
    (cond (not b) (Some (Hold suite Exclusive)) (first_unmet known (needs rows ((suite, edit) ∷ edits) later))) (ending rows ((suite, edit) ∷ edits) later)) [
      | true ↦ λ held. goes_alike known rows agrees ((suite, edit) ∷ edits) (set_more known rows edits suite edit same (held_head Exclusive (known_of known suite) (rows suite) (agrees suite) held)) later
      | false ↦ λ _. refl
    ] refl
goes_alike known rows agrees edits same (Look suite mode later) =
    elim (is_held mode (known_of known suite)) as (λ b. is_held mode (known_of known suite) ≡ b
    → heard (cond (not b) (Some (Hold suite mode)) (first_unmet known (needs (known_rows known) edits (later (looked (known_rows known) edits suite)))))
    (ending (known_rows known) edits (later (looked (known_rows known) edits suite))) ≡ heard
    (cond (not b) (Some (Hold suite mode)) (first_unmet known (needs rows edits (later (looked rows edits suite))))) (ending rows edits (later (looked rows edits suite)))) [
      | true ↦ λ held.
          goes_alike known rows agrees edits same (later (looked (known_rows known) edits suite))
          ∙ ap (λ row. Goes known rows edits (later row)) (head_seen edits suite (known_rows known suite) (rows suite) (held_head mode (known_of known suite) (rows suite) (agrees suite) held))
      | false ↦ λ _. refl
    ] refl
goes_alike known rows agrees edits same (Read suite later) =
    elim (is_set edits suite) as (λ b. is_set edits suite ≡ b
    → heard (first_unmet known (unless_set b suite (needs (known_rows known) edits (later (content_read (known_rows known) edits suite)))))
    (ending (known_rows known) edits (later (content_read (known_rows known) edits suite))) ≡ heard
    (first_unmet known (unless_set b suite (needs rows edits (later (content_read rows edits suite))))) (ending rows edits (later (content_read rows edits suite)))) [
      | true ↦ λ set.
          goes_alike known rows agrees edits same (later (content_read (known_rows known) edits suite))
          ∙ ap (λ content. Goes known rows edits (later content)) (content_seen edits suite (known_rows known suite) (rows suite) (same suite set) set)
      | false ↦ λ _. elim (is_opened (known_of known suite)) as (λ b. is_opened (known_of known suite) ≡ b
          → heard (cond (not b) (Some (Know suite)) (first_unmet known (needs (known_rows known) edits (later (content_read (known_rows known) edits suite)))))
          (ending (known_rows known) edits (later (content_read (known_rows known) edits suite))) ≡ heard
          (cond (not b) (Some (Know suite)) (first_unmet known (needs rows edits (later (content_read rows edits suite)))))
          (ending rows edits (later (content_read rows edits suite)))) [
            | true ↦ λ opened.
                goes_alike known rows agrees edits same (later (content_read (known_rows known) edits suite))
                ∙ ap (λ row. Goes known rows edits (later (content_in (seen edits suite row)))) (opened_same (known_of known suite) (rows suite) (agrees suite) opened)
            | false ↦ λ _. refl
          ] refl
    ] refl
