-- How far a transaction came, and how it goes on from there.
use Rattle.file_exec.proofs.Vocabulary.{◌≡◌, ℕ, ◌+◌, ◌<◌, ◌≤◌, Bool, true, false, Option, Some, None, List, [], ◌∷◌, ◌++◌, length, get_or, take, drop, Result, Ok, arith, refl, sym, ap, subst, ◌∙◌, cond, not, ◌&&◌, take-append-drop, take_more}
use Rattle.file_exec.proofs.Vocabulary.{drop_more, length-take, Identity, same_names, same_names_decides, Kind, Answer, Op, Refusal, Why, Service, Row, root, Course, Give, ◌>>=◌, at_place, Edits, Ended, Known, known_of, opened_suite, Heard, Done}
use Rattle.file_exec.proofs.Vocabulary.{is_given, exec_of, KnownSuite, MoreKnown, FitsRow, operation, play, walk, Reached, walked, walked_next, IsReached, UnbegunIsReached, ReachedStays, is_of_kind, fits_row, takes, TakingTellsMore, run, then_run}
use Rattle.file_exec.proofs.Vocabulary.{Runs, LeadsTo, only_reads, from_root, point_after, WalkPoint}
use Rattle.file_exec.proofs.Meeting.{opening_meets}
use Rattle.file_exec.proofs.More.{done_stays}
use Rattle.file_exec.proofs.Playing.{named, run_at_place, parts, one_more, begins, begun_first}
use Rattle.file_exec.proofs.Running.{runs_in_turn, followed_runs}

pub unbegun_is_reached : UnbegunIsReached
unbegun_is_reached service known t caller ops = record { done = refl; led = refl }

-- what a course came to from nothing stays so
run_stays : {A E : Type 0} (less more : Known) (course : Course A E) (result : Result (Ended A) E) → MoreKnown less more → run less [] course ≡ Done result → run more [] course ≡ Done result
run_stays less more course result is_more is = sym (followed_runs more [] course) ∙ done_stays less more course result is_more (followed_runs less [] course ∙ is)

module _ (service : Service) (t : ℕ) (caller : Identity) (ops : List Op) (reached : Reached) where
  -- the operations before the place, and then the walk of the next one
  abbrev so_far : Course (List Answer × ℕ) Refusal
  so_far = ◌>>=◌ (play service [] t 0 caller (take reached.at ops)) (λ answers. ◌>>=◌ (at_place reached.at (walk caller root (take reached.depth (walked_next (drop reached.at ops))))) (λ suite. Give (answers, suite)))

  abbrev walk_so_far : Course ℕ Why
  walk_so_far = walk caller root (take reached.depth (walked_next (drop reached.at ops)))

  abbrev with_walk : List Answer → ℕ → Course (List Answer × ℕ) Refusal
  with_walk answers suite = Give (answers, suite)

  abbrev came : Result (Ended (List Answer × ℕ)) Refusal
  came = Ok (record { given = (reached.answers, reached.suite); edits = reached.edits })

  -- where the operations were done, what is left is the walk
  walk_left : (known : Known) → run known [] (play service [] t 0 caller (take reached.at ops)) ≡ Done (Ok (record { given = reached.answers; edits = reached.edits }))
      → run known [] so_far ≡ then_run known (with_walk reached.answers) (named reached.at (run known reached.edits walk_so_far))
  walk_left known done = search (runs_in_turn, run_at_place, arith)

  walked_to : (known : Known) (heard : Heard ℕ Why) → then_run known (with_walk reached.answers) (named reached.at heard) ≡ Done came → heard ≡ Done (Ok (record { given = reached.suite; edits = reached.edits }))
  walked_to known heard h2 = search arith

  stays : (less more : Known) → MoreKnown less more → IsReached service less t caller ops reached → IsReached service more t caller ops reached
  stays less more is_more is =
      let done = run_stays less more (play service [] t 0 caller (take reached.at ops)) (Ok (record { given = reached.answers; edits = reached.edits })) is_more is.done in
      let all = walk_left less is.done ∙ ap (λ heard. then_run less (with_walk reached.answers) (named reached.at heard)) is.led in
      record {
        done = done;
        led = walked_to more (run more reached.edits walk_so_far) (sym (walk_left more done) ∙ run_stays less more so_far came is_more all);
      }

pub reached_stays : ReachedStays
reached_stays service less more t caller ops reached is_more is = stays service t caller ops reached less more is_more is

-- ---- the operations that are left

module _ (service : Service) (known : Known) (t : ℕ) (caller : Identity) (ops : List Op) (reached : Reached) (is : IsReached service known t caller ops reached) where
  -- they come to what all come to
  pub plays_on : reached.at ≤ length ops → run known reached.edits (play service reached.answers t reached.at caller (drop reached.at ops)) ≡ run known [] (play service [] t 0 caller ops)
  plays_on within =
      sym (ap (then_run known (λ answers. play service answers t reached.at caller (drop reached.at ops))) is.done)
      ∙ sym (parts known service t caller [] [] 0 reached.at (take reached.at ops) (drop reached.at ops) (so_many within))
      ∙ ap (λ ops. run known [] (play service [] t 0 caller ops)) (take-append-drop reached.at ops)
    where
      so_many : reached.at ≤ length ops → reached.at ≡ 0 + length (take reached.at ops)
      so_many within = grind (arith, length-take)

  module _ (op : Op) (below : reached.at < length ops) (is_op : op ≡ get_or ops reached.at op) where
    -- of them one is the next
    next_is : drop reached.at ops ≡ op ∷ drop (reached.at + 1) ops
    next_is = drop_more ops reached.at op below ∙ ap (λ op. op ∷ drop (reached.at + 1) ops) (sym is_op)

    pub plays_next : run known reached.edits (play service reached.answers t reached.at caller (op ∷ drop (reached.at + 1) ops)) ≡ run known [] (play service [] t 0 caller ops)
    plays_next = ap (λ left. run known reached.edits (play service reached.answers t reached.at caller left)) (sym next_is) ∙ plays_on (omega arith)

    -- or be done, and the walk of the one after it led to a suite
    pub done_too : (answer : Answer) (after : Edits) (point : WalkPoint) → Runs (λ answer. answer) (Ok answer) known reached.edits after (operation service t reached.at caller op)
        → LeadsTo known after caller (walked_next (drop (reached.at + 1) ops)) point
        → IsReached service known t caller ops (record { at = reached.at + 1; answers = reached.answers ++ answer ∷ []; edits = after; suite = point.suite; depth = point.depth })
    done_too answer after point gave leads = record {
      done = ap (λ ops. run known [] (play service [] t 0 caller ops)) (take_more ops reached.at op below ∙ ap (λ op. take reached.at ops ++ op ∷ []) (sym is_op))
          ∙ parts known service t caller [] [] 0 reached.at (take reached.at ops) (op ∷ []) (grind (arith, length-take))
          ∙ ap (then_run known (λ answers. play service answers t reached.at caller (op ∷ []))) is.done
          ∙ one_more known service t caller reached.edits after reached.answers reached.at op [] answer gave;
      led = leads;
    }

-- ---- an operation that sets nothing leaves its walk to the next one

module _ (known : Known) (caller : Identity) (before after : Edits) (op : Op) (point : WalkPoint) (unset : only_reads op.action ≡ true → after ≡ before) (leads : LeadsTo known before caller (walked op) point) where
  pub leads_after : (later : List Op) → LeadsTo known after caller (walked_next later) (point_after point op later)
  leads_after [] = refl
  leads_after (next ∷ later) = of (only_reads op.action) (same_names (walked op) (walked next)) refl refl
    where
      of : (reads alike : Bool) → only_reads op.action ≡ reads → same_names (walked op) (walked next) ≡ alike → LeadsTo known after caller (walked next) (cond (reads && alike) point from_root)
      of true true reads alike =
          subst (λ edits. LeadsTo known edits caller (walked next) point) (sym (unset reads))
          (subst (λ names. LeadsTo known before caller names point) ((same_names_decides (walked op) (walked next)).0 alike) leads)
      of true false reads alike = refl
      of false alike reads is = refl

-- ---- memory is asked for only once the first operation gave something

module _ (service : Service) (known : Known) (t : ℕ) (caller : Identity) (ops : List Op) (reached : Reached) (is : IsReached service known t caller ops reached) where
  pub given_first : (op : Op) → reached.at < length ops → op ≡ get_or ops reached.at op → is_given (run known reached.edits (operation service t reached.at caller op)) ≡ true
      → is_given (exec_of service known t caller (take 1 ops)) ≡ true
  given_first op below is_op given = begins known service t caller ops reached.edits reached.at reached.at op unbegun begun refl below is_op given
    where
      none_set : (ops : List Op) → run known [] (play service [] t 0 caller (take 0 ops)) ≡ Done (Ok (record { given = reached.answers; edits = reached.edits })) → reached.edits ≡ []
      none_set ops done = search arith

      unbegun : reached.at ≡ 0 → reached.edits ≡ []
      unbegun none = none_set ops (ap (λ at. run known [] (play service [] t 0 caller (take at ops))) (sym none) ∙ is.done)

      begun : 0 < reached.at → is_given (exec_of service known t caller (take 1 ops)) ≡ true
      begun some = begun_first known service t caller ops reached.at (record { given = reached.answers; edits = reached.edits }) some (omega arith) is.done

-- ---- to open a suite

same_kind : (a b : Kind) → is_of_kind a b ≡ true → a ≡ b
same_kind a b h2 = search arith

pub taking_tells_more : TakingTellsMore
taking_tells_more known suite content may = of (known_of known suite) refl may
  where
    left : (a b : Bool) → (not a && b) ≡ true → a ≡ false
    left a b h2 = search arith

    right : (a b : Bool) → (not a && b) ≡ true → b ≡ true
    right a b h2 = search arith

    fits : (row : Option Row) → fits_row row content ≡ true → FitsRow row content
    fits row h1 = search (same_kind, arith)

    of : (held : Option KnownSuite) → known_of known suite ≡ held → takes held content ≡ true → MoreKnown known (opened_suite known suite content)
    of (Some held) was may =
        (opening_meets known suite held content was (left held.opened (fits_row held.row content) may) (fits held.row (right held.opened (fits_row held.row content) may))).more_known
    of None was may = cc
