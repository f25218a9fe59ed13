-- What a step does to a server, and what room it has to have for it.
use Rattle.std.specs.Prelude.{◌≡◌, ◌-◌, ◌<◌, ◌≤◌, true, false, [], ◌∷◌, ◌++◌, length, None}
use Rattle.std.specs.List.{list_all}
use Rattle.std.specs.Ordering.{nat_cmp}
use Rattle.std.specs.Vec.{vec_len, vec_capacity}
use Rattle.sorted_map.specs.SortedMap.{insert}
use Rattle.rep_core.specs.declared.server.Server.TheInside.{Inside}
use Rattle.rep_core.specs.declared.step.Change.{Change}
use Rattle.rep_core.specs.declared.step.Change.TheVariants as change
use Rattle.rep_core.specs.Locks.{in_the_way, locked, with_prepared, released, broken}
use Rattle.rep_core.specs.Store.{is_sound_part, overfills, intended, finished}
use Rattle.rep_core.specs.Service.{denied, after_crash}
use Rattle.rep_core.specs.State.{State}
use Rattle.rep_core.specs.Roomed.{Roomed}
use Rattle.rep_core.specs.code.ByAgent.{room_for}
use Rattle.rep_core.specs.code.Planning.{planned_of}
use Rattle.rep_core.specs.code.ServerFields.{state_of}

-- a server with its room
abbrev pub roomed_of : Inside → Roomed
roomed_of fields = record {
  state = state_of fields;
  locks = fields.locks.room;
  verdicts = fields.verdicts.rooms;
  audit = vec_capacity fields.audit - vec_len fields.audit;
  intentions = fields.store.room;
}

-- what a change makes of a server, but for its stamp
abbrev pub applied : Change → State → State
applied change.Nothing st = st
applied (change.Lock t suite mode) st = record st { locks = locked t suite mode st.locks }
applied (change.Keep t parts planned) st = record st { store = intended t parts.now st.store; locks = with_prepared t parts.now st.locks }
applied (change.Record t verdict) st = record st { verdicts = insert nat_cmp st.verdicts t verdict }
applied (change.Deny item) st = record st { verdicts = insert nat_cmp st.verdicts item.t (denied item); audit = st.audit ++ item ∷ [] }
applied (change.Finish t answered) st = record st { store = finished t answered st.store; locks = released t st.locks }
applied (change.Unlock t suite) st = record st { locks = broken t suite st.locks }
applied change.Crash st = after_crash st
applied change.Return st = record st { up = true }

-- there is room for it, and nothing in the way of a lock
abbrev pub HasRoom : Change → Roomed → Type 0
HasRoom (change.Lock t suite mode) server = (0 < server.locks) × (in_the_way t suite mode server.state.locks ≡ None)
HasRoom (change.Keep t parts planned) server =
    (list_all (is_sound_part server.state.store) parts.now ≡ true) × (overfills t server.state.store parts.now ≡ false) × (length parts.now ≤ server.intentions)
    × (planned.items ≡ planned_of server.state.store.c0 server.state.store.copies t parts.now)
HasRoom (change.Record t verdict) server = 0 < room_for t server.verdicts
HasRoom (change.Deny item) server = (0 < room_for item.t server.verdicts) × (0 < server.audit)
HasRoom _ server = Unit {0}
