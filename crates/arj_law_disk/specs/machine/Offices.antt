-- Several objects with the naming node's half, and the view of one of them: of naming's memory the incarnation, the actions
-- told of and the confirmed tops are shared; locks, grants, lists and answers each object has for itself.
use Rattle.std.specs.Prelude.{◌≡◌, ℕ, ◌+◌, List, [], ◌∷◌, Bool, true, false, ◌==◌, ◌&&◌, if◌then◌else◌, ⊤}
use Rattle.arj_law_disk.specs.machine.Names.{Names}

-- the names of an object after its local act, or as they were
abbrev pub chosen : Bool → Names → Names → Names
chosen true new old = new
chosen false new old = old
