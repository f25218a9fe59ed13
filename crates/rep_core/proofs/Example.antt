-- A run after which a server has a copy that a transaction changed, and one after which a server that is down has an exclusive lock
-- that is prepared.
use Rattle.rep_core.proofs.Vocabulary.{true, ◌<◌, List, [], ◌∷◌, ◌++◌, refl, sym, ◌∙◌, inl, lit<, arith, nat_cmp, false≢true, All-nil, All-cons, Representative, Configuration, IsValid, Prefix, Folder, PrefixFits, closed_lists, Opening, Exclusive}
use Rattle.rep_core.proofs.Vocabulary.{Intention, Lock, Part, Request, Stamped, reached, SomeServerStands, TakeFits, RequestFits, OpeningFits, SomeCopyIsChanged}
use Rattle.std.specs.FinSet.{empty, contains-empty}
use Rattle.std.specs.List.{IsDistinct}
use Rattle.rep_core.specs.declared.request.Take.TheVariants as take
use Rattle.rep_core.specs.declared.request.Request.TheVariants as request
use Rattle.rep_core.specs.declared.reply.Verdict.TheVariants as verdict
use Rattle.rep_core.proofs.Members.{contains_from}
use Rattle.rep_core.proofs.Validity.{closed_acls, nobody}

votes : Configuration
votes = record { reps = (0, 1) ∷ []; r = 1; w = 1 }

settings : Opening
unfolding votes
settings = record {
  servers = 1;
  agents = 1;
  c0 = votes;
  root_owner = 0;
  root_group = 0;
  root_acl = closed_lists;
  budget = 0;
  quota = 0;
  slots = 0;
  old = empty;
}

polled : Stamped Request
polled = record { stamp = 0; value = request.Poll 5 0 Exclusive }

-- ---- a copy

valid_votes : IsValid votes
unfolding votes IsDistinct
valid_votes = search arith

next_prefix : Prefix
unfolding votes
next_prefix = record { pver = 2; kind = Folder; owner = 0; group = 0; acl = closed_lists; votes = votes }

next_fits : PrefixFits next_prefix
unfolding next_prefix votes
next_fits = record { acl = closed_acls; votes = valid_votes; pver = lit< tt; owner = lit< tt; group = lit< tt; qualifiers = nobody; r = lit< tt; w = lit< tt }

settings_fit : OpeningFits settings
unfolding settings votes
settings_fit = record {
  accepted = record {
    some_servers = (omega arith, omega arith);
    some_agents = (omega arith, omega arith);
    known_servers = All-cons (λ (rep : Representative). rep.0 < 1) (0, 1) [] (lit< tt) (All-nil (λ (rep : Representative). rep.0 < 1));
    budget_fits = omega arith;
    quota_fits = omega arith;
    slots_fit = omega arith;
    old_known = λ server there. absurd (false≢true (sym (contains-empty nat_cmp server) ∙ there));
    old_fits = λ server there. absurd (false≢true (sym (contains-empty nat_cmp server) ∙ there));
  };
  root = record { acl = closed_acls; votes = valid_votes; pver = lit< tt; owner = lit< tt; group = lit< tt; qualifiers = nobody; r = lit< tt; w = lit< tt };
}

new_part : Part
new_part = record { suite = 0; mode = Exclusive; take = take.Prefix next_prefix }

prepared : Stamped Request
prepared = record { stamp = 0; value = request.Prepare 5 (new_part ∷ []) }

finished : Stamped Request
finished = record { stamp = 0; value = request.Finish 5 (verdict.Answered []) }

abbrev fits : Stamped Request → Type 0
fits asked = RequestFits asked.value

abbrev part_fits : Part → Type 0
part_fits part = TakeFits part.take

pub some_copy_is_changed : SomeCopyIsChanged
unfolding votes polled settings next_prefix new_part prepared finished
some_copy_is_changed = record {
  index = 0;
  given = settings;
  asked = polled ∷ prepared ∷ finished ∷ [];
  opening_fits = settings_fit;
  requests_fit = All-cons fits polled (prepared ∷ finished ∷ []) tt (All-cons fits prepared (finished ∷ []) (All-cons part_fits new_part [] next_fits (All-nil part_fits)) (All-cons fits finished [] tt (All-nil fits)));
  suite = 0;
  changed = refl;
}

-- ---- a lock

asked : List (Stamped Request)
asked = polled ∷ prepared ∷ record { stamp = 0; value = request.Resolve 4 } ∷ []

crash : List (Stamped Request)
crash = record { stamp = 0; value = request.Crash } ∷ []

held : Lock
held = record { t = 5; suite = 0; mode = Exclusive; prepared = true }

kept : Intention
kept = record { t = 5; take = take.Prefix next_prefix }

pub some_server_stands : SomeServerStands
unfolding votes next_prefix new_part polled prepared asked crash settings held kept
some_server_stands = record {
  index = 0;
  given = settings;
  asked = asked;
  lock = held;
  there = contains_from (reached 0 settings asked).locks held (inl refl);
  prepared = refl;
  exclusive = refl;
  intention = kept;
  intended = contains_from (reached 0 settings asked).store.intentions (0, kept) (inl refl);
  ended = 4;
  verdict = verdict.Aborted;
  recorded = refl;
  waiting = 7;
  busy = refl;
  crash = crash;
  still_there = contains_from (reached 0 settings (asked ++ crash)).locks held (inl refl);
  down = refl;
}
