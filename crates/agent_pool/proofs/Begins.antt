-- Begins of a transcript, what a pass does beside it, and what its agent knows.
use Rattle.agent_pool.proofs.Vocabulary.{◌≡◌, ℕ, ◌+◌, List, [], ◌∷◌, ◌++◌, subst, arith, slice_set, Held, after_item, AgentEntry, Begun, Asked, Forgot, Ended}
use Rattle.run_certify.specs.declared.entry.AgentEntry.TheVariants.{Lacked}
use Rattle.agent_pool.specs.Transcripts.{GoesOn, Learns, begins}

pub begins-append : (xs ys : List AgentEntry) → begins (xs ++ ys) ≡ begins xs + begins ys
begins-append [] ys = omega arith
begins-append (Begun job ∷ xs) ys = let e = begins-append xs ys in omega arith
begins-append (Asked server stamp ∷ xs) ys = begins-append xs ys
begins-append (Lacked server lack ∷ xs) ys = begins-append xs ys
begins-append (Forgot site ∷ xs) ys = begins-append xs ys
begins-append (Ended outcome ∷ xs) ys = begins-append xs ys

pub goes-append : (xs ys : List AgentEntry) (a b c : Held) → GoesOn xs a b → GoesOn ys b c → GoesOn (xs ++ ys) a c
goes-append [] ys a b c x y = subst (λ (p : Held). GoesOn ys p c) x y
goes-append (Begun job ∷ xs) ys a b c x y = goes-append xs ys a b c x y
goes-append (Asked server stamp ∷ xs) ys a b c x y = (x.0, x.1, x.2, goes-append xs ys (after_item a server x.0 stamp) b c x.3 y)
goes-append (Lacked server lack ∷ xs) ys a b c x y = goes-append xs ys a b c x y
goes-append (Forgot site ∷ xs) ys a b c x y = goes-append xs ys a b c x y
goes-append (Ended outcome ∷ xs) ys a b c x y = goes-append xs ys a b c x y

pub learns-append : (xs ys : List AgentEntry) (a b c : List ℕ) → Learns a xs b → Learns b ys c → Learns a (xs ++ ys) c
learns-append [] ys a b c x y = subst (λ (known : List ℕ). Learns known ys c) x y
learns-append (Begun job ∷ xs) ys a b c x y = learns-append xs ys a b c x y
learns-append (Asked server stamp ∷ xs) ys a b c x y = (x.0, x.1, learns-append xs ys (slice_set a server stamp) b c x.2 y)
learns-append (Lacked server lack ∷ xs) ys a b c x y = learns-append xs ys a b c x y
learns-append (Forgot site ∷ xs) ys a b c x y = learns-append xs ys a b c x y
learns-append (Ended outcome ∷ xs) ys a b c x y = learns-append xs ys a b c x y
