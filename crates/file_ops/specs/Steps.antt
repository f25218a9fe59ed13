-- Steps that may be refused, one after the other: the first refusal is the answer.
use Rattle.std.specs.Prelude.{Option, Some, None, Result, Ok, Err}

-- what the second step gives of what the first one gave
abbrev pub ◌>>=◌ : {A B E : Type 0} → Result A E → (A → Result B E) → Result B E
◌>>=◌ (Ok given) next = next given
◌>>=◌ (Err why) next = Err why

-- the second step, where the first one is not refused
abbrev pub ◌>>◌ : {A B E : Type 0} → Result A E → Result B E → Result B E
◌>>◌ (Ok given) next = next
◌>>◌ (Err why) next = Err why

-- what is there, or a refusal where nothing is
abbrev pub found_or : {A E : Type 0} → Option A → E → Result A E
found_or (Some given) why = Ok given
found_or None why = Err why

-- what was found, seen as something else
abbrev pub ok_map : {A B E : Type 0} → (A → B) → Result A E → Result B E
ok_map see (Ok given) = Ok (see given)
ok_map see (Err why) = Err why
