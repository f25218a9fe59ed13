-- The executor round by round: each round opens one content more that is to be had without asking.
use Rattle.txn_core.proofs.Vocabulary.{◌≡◌, ◌+◌, ℕ, List, [], ◌∷◌, ◌++◌, length, Option, Some, None, refl, sym, ap, subst, ◌∙◌, arith, option_map, nat_cmp, IsOrdered, Content, Knowledge, opened_suite, ReadPoint, GatheredSuite, suite_of, known_of}
use Rattle.txn_core.proofs.Vocabulary.{Fixed, Task, Gathered, heard_on, open_needed, opened, answer_of, opened_first, opened_at, opened_by, opened_all, free_of, to_open, IsPlayed, Outcome as Executed}
use Rattle.txn_core.proofs.Kept.{keeps_all, free_kept, Keeps}
use Rattle.txn_core.proofs.Openings.{known_opened}

-- ---- one content

pub longer : (list : List (ℕ × Content)) (one : ℕ × Content) → length (list ++ one ∷ []) ≡ length list + 1
longer [] one = refl
longer (x ∷ list) one = let rest = longer list one in omega (arith, rest)

opened_last : (task : Task) (list : List (ℕ × Content)) (one : ℕ × Content) (all : Gathered) → opened_all task (list ++ one ∷ []) all ≡ opened_by task (opened_all task list all) one
opened_last task [] one all = refl
opened_last task (x ∷ list) one all = opened_last task list one (opened_by task all x)

-- what becomes of all that was gathered
pub opens : (task : Task) (all : Gathered) (number : ℕ) (content : Content) (suite : GatheredSuite) (first : Option ReadPoint) → suite_of all.suites number ≡ Some suite → suite.first ≡ first
    → opened_by task all (number, content) ≡ opened_first task all number content suite first
opens task all number content suite first is was = ap (opened_at task all number content) is ∙ ap (opened_first task all number content suite) was

needed_opened : (task : Task) (all : Gathered) (heard : Executed) → open_needed task all heard ≡ option_map (opened_by task all) (to_open task all heard)
needed_opened task all heard = search arith

to_open_kept : (task : Task) (all more : Gathered) → Keeps all more → (heard : Executed) → to_open task more heard ≡ to_open task all heard
to_open_kept task all more h3 heard = search arith

-- ---- what is known with it

known_more : (task : Task) (all : Gathered) (number : ℕ) (content : Content) → IsOrdered nat_cmp all.suites → free_of task all.cache number (suite_of all.suites number) ≡ Some content
    → opened_suite (known_of all.suites) number content ≡ known_of (opened_by task all (number, content)).suites
known_more task all number content ordered = search (known_opened, opens, arith)

free_needed : (task : Task) (all : Gathered) (heard : Executed) (one : ℕ × Content) → to_open task all heard ≡ Some one → free_of task all.cache one.0 (suite_of all.suites one.0) ≡ Some one.1
free_needed task all heard one h4 = search arith

-- ---- rounds

-- so many rounds are left, and what is known is what was gathered with the contents so far
pub record IsPlaying (fixed : Fixed) (task : Task) (all : Gathered) (list : List (ℕ × Content)) (known : Knowledge) : Type 0 where
  pub left : ℕ
  pub enough : left + length list ≡ length all.suites
  pub goes_on : opened (length all.suites) fixed task all ≡ opened left fixed task (opened_all task list all)
  pub is_known : known ≡ record { service = fixed.service; suites = known_of (opened_all task list all).suites }

pub playing_starts : (fixed : Fixed) (task : Task) (all : Gathered) (known : Knowledge) (list : List (ℕ × Content)) → list ≡ [] → known ≡ record { service = fixed.service; suites = known_of all.suites } → IsPlaying fixed task all list known
playing_starts fixed task all known list none is =
    subst (λ list. IsPlaying fixed task all list known) (sym none) (record { left = length all.suites; enough = omega arith; goes_on = refl; is_known = is })

module _ (fixed : Fixed) (task : Task) (all : Gathered) (list : List (ℕ × Content)) (known : Knowledge) (playing : IsPlaying fixed task all list known) (heard : Executed) (is : heard ≡ answer_of task known) where
  abbrev some : Gathered
  some = opened_all task list all

  heard_is : heard ≡ heard_on fixed task some.suites
  heard_is = is ∙ ap (answer_of task) playing.is_known

  -- a content more
  module _ (one : ℕ × Content) (free : to_open task all heard ≡ Some one) (ordered : IsOrdered nat_cmp all.suites) where
    abbrev more : Gathered
    more = opened_by task some one

    kept : Keeps all some
    kept = keeps_all task list all

    needed : open_needed task some (heard_on fixed task some.suites) ≡ Some more
    needed = grind (heard_is, needed_opened, to_open_kept, kept, arith)

    known_then : opened_suite known.suites one.0 one.1 ≡ known_of (opened_all task (list ++ one ∷ []) all).suites
    known_then = search (known_more, free_kept, kept, free_needed, opened_last, arith)

    sweep_run : (left : ℕ) → left + length list ≡ length all.suites → opened (length all.suites) fixed task all ≡ opened left fixed task some → (length list ≡ length all.suites → ⊥)
        → (then' : Knowledge) → then'.service ≡ known.service → then'.suites ≡ opened_suite known.suites one.0 one.1 → IsPlaying fixed task all (list ++ one ∷ []) then'
    sweep_run left h1 h2 h3 then' h5 h6 = search (longer, needed, opened_last, known_then, arith)

    pub playing_more : (length list ≡ length all.suites → ⊥) → (then' : Knowledge) → then'.service ≡ known.service → then'.suites ≡ opened_suite known.suites one.0 one.1
        → (next : List (ℕ × Content)) → next ≡ list ++ one ∷ [] → IsPlaying fixed task all next then'
    playing_more short then' service suites next is = search (sweep_run, arith)

  -- or nothing is to be had without asking
  pub playing_stops : to_open task all heard ≡ None → IsPlayed fixed task all list heard
  playing_stops none = record { gathered = ends playing.left playing.goes_on; answer = heard_is }
    where
      needed_none : open_needed task some (heard_on fixed task some.suites) ≡ None
      needed_none = search (heard_is, needed_opened, to_open_kept, keeps_all, arith)

      ends : (left : ℕ) → opened (length all.suites) fixed task all ≡ opened left fixed task some → opened (length all.suites) fixed task all ≡ some
      ends left h1 = search (needed_none, arith)
