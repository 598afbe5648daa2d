-- The schedule as the code keeps it.
use Rattle.std.specs.Prelude.{ℕ, zero, suc, ◌+◌, ◌≡◌, ◌≤◌, Bool, slice_get, slice_set, List, [], ◌∷◌, map, Option, Some, None}
use Rattle.std.specs.List.{AllByRecursion}
use Rattle.std.specs.Option.{option_map}
use Rattle.arj_journal.specs.declared.body.Body.{Body}
use Rattle.arj_journal.specs.declared.event.Event.{Event}
use Rattle.arj_progrun.specs.Client.{Ask, Client, asking, hears, turned}
use Rattle.arj_progrun.specs.Events.{ask_of}
use Rattle.arj_progrun.specs.Levels.{client_of}
use Rattle.arj_progrun.specs.Schedule.{Standing, Turning, is_by}
use Rattle.arj_progrun.specs.declared.client.Client.{Client as kept_client}
use Rattle.arj_progrun.specs.declared.schedule.Given.{Given}
use Rattle.arj_progrun.specs.declared.schedule.Given.TheVariants as given
use Rattle.arj_progrun.specs.declared.schedule.Schedule.{Schedule}
use Rattle.arj_text.specs.Label.{name}

-- the programs as they are kept
abbrev pub clients_of : List kept_client → List Client
clients_of cs = map client_of cs

-- the schedule as it is kept
abbrev pub standing_of : Schedule → Standing
standing_of s = record { clients = clients_of s.clients.items; called = map name s.called.items; state = s.state }

-- the program has begun no more actions, nor waited longer, than this
abbrev pub IsWithin : ℕ → kept_client → Type 0
IsWithin turn c = (c.begun ≤ turn) × (c.waited ≤ turn)

-- so have all of them
abbrev pub AreWithin : ℕ → Schedule → Type 0
AreWithin turn s = AllByRecursion (IsWithin turn) s.clients.items

-- what was given asks this
abbrev pub given_ask : Given → Option Ask
given_ask given.Nothing = None
given_ask (given.Own e) = Some (ask_of e)
given_ask (given.By at e) = Some (ask_of e)

-- by which program
abbrev pub given_by : Given → Option ℕ
given_by (given.By at e) = Some at
given_by _ = None

-- a turn, of these
abbrev pub turning : Given → Schedule → Turning
turning g s = record { ask = given_ask g; by = given_by g; now = standing_of s }

-- so many of the programs, of which the first has this place, hear a line
abbrev pub first_hear : Option ℕ → ℕ → Body → ℕ → List Client → List Client
first_hear by at b zero cs = cs
first_hear by at b (suc n) [] = []
first_hear by at b (suc n) (c ∷ cs) = hears b (is_by by at) c ∷ first_hear by (at + 1) b n cs

-- The program at this place heard a line.
abbrev pub Hears : ℕ → Body → Bool → List kept_client → List kept_client → Type 0
Hears at b own before after =
    (was : kept_client) × (is : kept_client) × (slice_get before at ≡ Some was) × (after ≡ slice_set before at is) ×
    (client_of is ≡ hears b own (client_of was))

-- The program at this place asked for this event, or for none.
abbrev pub Asks : ℕ → Option Event → List kept_client → List kept_client → Type 0
Asks at event before after =
    (was : kept_client) × (is : kept_client) × (slice_get before at ≡ Some was) × (after ≡ slice_set before at is) ×
    (asking (option_map ask_of event) (client_of is) ≡ turned (client_of was))
