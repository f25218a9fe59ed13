-- What was served, in the order of time: a link, and the world without a network.
use Rattle.std.proofs.Common.{◌≡◌, ℕ, List, [], ◌∷◌, ◌++◌, Option, Some, None, refl, sym, ap, ◌∙◌}
use Rattle.std.proofs.lemmas.List.{append_assoc, append_cancel_right}
use Rattle.at_most_once.specs.declared.message.NumberedQuestion.{NumberedQuestion}
use Rattle.at_most_once.specs.declared.session.Serving.{Serving}
use Rattle.at_most_once.specs.declared.session.CallDecision.{CallDecision}
use Rattle.at_most_once.specs.declared.session.CallDecision.TheVariants.{Serve, Repeat, Refuse}
use Rattle.at_most_once.specs.Session.{decision}
use Rattle.at_most_once.specs.Link.{System, Done, Link, Event, Ask, Send, Arrive, Hear, GiveUp, Restart, Crash, Meanwhile, happens, session, repeated, arrived_by, serves_by, serves}
use Rattle.at_most_once.specs.Atomic.{Atomic, Atom, does, done, serving}
use Rattle.at_most_once.specs.Atomic as atomic

module _ {State Q R : Type 0} where
  repeated_serves : (w : Link State Q R) (number : ℕ) (kept : Option (Serving R)) → (repeated w number kept).served ≡ w.served
  repeated_serves w number None = refl
  repeated_serves w number (Some last) = refl

  arrived_serves : (system : System State Q R) (w : Link State Q R) (server : ℕ) (m : NumberedQuestion Q) (d : CallDecision) → (arrived_by system w server m d).served ≡ serves_by system w m d ++ w.served
  arrived_serves system w server m Serve = refl
  arrived_serves system w server m Repeat = repeated_serves w m.number (w.last server)
  arrived_serves system w server m (Refuse refusal) = refl

  -- what an event serves stands before what was served
  event_serves : (system : System State Q R) (w : Link State Q R) (event : Event State Q R) → (happens system w event).served ≡ serves system w event ++ w.served
  event_serves system w (Ask question boot) = refl
  event_serves system w Send = refl
  event_serves system w (Arrive m) = arrived_serves system w (system.home m.question) m (decision (session w (system.home m.question)) m.boot m.number)
  event_serves system w (Hear reply) = refl
  event_serves system w GiveUp = refl
  event_serves system w (Restart number) = refl
  event_serves system w (Crash server boot kept) = refl
  event_serves system w (Meanwhile state) = refl

  atom_serves : (system : System State Q R) (a : Atomic State Q R) (atom : Atom State Q) → (does system a atom).served ≡ serving system a atom ++ a.served
  atom_serves system a (atomic.Step number question) = refl
  atom_serves system a (atomic.GiveUp number question) = refl
  atom_serves system a (atomic.Deliver number question) = refl
  atom_serves system a (atomic.Restart number) = refl
  atom_serves system a (atomic.Crash server) = refl
  atom_serves system a (atomic.Meanwhile state) = refl

  -- all that atoms serve
  abbrev pub atoms_serve : System State Q R → Atomic State Q R → List (Atom State Q) → List (Done Q R)
  atoms_serve system a [] = []
  atoms_serve system a (atom ∷ earlier) = serving system (done system a earlier) atom ++ atoms_serve system a earlier

  all_served : (system : System State Q R) (a : Atomic State Q R) (atoms : List (Atom State Q)) → (done system a atoms).served ≡ atoms_serve system a atoms ++ a.served
  all_served system a [] = refl
  all_served system a (atom ∷ earlier) =
      let first : List (Done Q R) = serving system (done system a earlier) atom in
      atom_serves system (done system a earlier) atom ∙ ap (λ (l : List (Done Q R)). first ++ l) (all_served system a earlier) ∙ sym (append_assoc first (atoms_serve system a earlier) a.served)

  -- atoms that follow an event serve what it serves
  pub same_servings : (system : System State Q R) (w : Link State Q R) (event : Event State Q R) (a : Atomic State Q R) (atoms : List (Atom State Q)) → a.served ≡ w.served
      → (done system a atoms).served ≡ (happens system w event).served → atoms_serve system a atoms ≡ serves system w event
  same_servings system w event a atoms before after =
      append_cancel_right (atoms_serve system a atoms) (serves system w event) w.served
      (ap (λ (l : List (Done Q R)). atoms_serve system a atoms ++ l) (sym before) ∙ sym (all_served system a atoms) ∙ after ∙ event_serves system w event)
