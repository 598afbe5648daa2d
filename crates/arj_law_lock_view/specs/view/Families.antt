-- Each list of actions that were begun has its places in the machine.
use Rattle.std.specs.Prelude.{suc, List, [], ◌∷◌, if◌then◌else◌}
use Rattle.arj_protocol.specs.Words.{Kind, front, last_uid, uid_eq, uids_of}
use Rattle.arj_protocol.specs.Words.kind
use Rattle.arj_protocol.specs.Order.{uid_number}
use Rattle.arj_law_lock.specs.machine.Actions.{Act, Root, Sub}
use Rattle.arj_law_parts.specs.parts.Actions.{Action, AreBegun, act_of, paths_of}
use Rattle.arj_law_lock_view.specs.view.Acts.{Acts}
use Rattle.arj_law_lock_view.specs.view.Telling.{AreOneTree}

-- where an action of this kind stands: a serializing one is a unit, a nested one and a constituent stand below their parent, any other is
-- the top of a unit of its own
abbrev pub place_of : Acts → Action → Kind → Act
place_of act a kind.Serial = Root (uid_number (act_of a))
place_of act a kind.Nested = Sub (act (last_uid (front (uids_of a.path)))) (suc (uid_number (act_of a)))
place_of act a kind.Constituent = Sub (act (last_uid (front (uids_of a.path)))) (suc (uid_number (act_of a)))
place_of act a _ = Sub (Root (uid_number (act_of a))) 0

-- the places of actions, the newest one first; who wasn't begun is a top alone
abbrev pub acts_of : List Action → Acts
acts_of [] u = Sub (Root (uid_number u)) 0
acts_of (a ∷ acts) u = if uid_eq (act_of a) u then place_of (acts_of acts) a a.kind else acts_of acts u

-- Actions that were begun are one tree with these places.
abbrev pub FamiliesAreTrees : Type 0
FamiliesAreTrees = (acts : List Action) → AreBegun acts → AreOneTree (record { begun = acts; paths = paths_of acts; act = acts_of acts })
