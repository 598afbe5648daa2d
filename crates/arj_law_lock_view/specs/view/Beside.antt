-- What a server's steps leave seen beside it, and what leaves a server seen, in the machine of one object.
use Rattle.std.specs.Prelude.{◌≡◌, ◌≢◌, ℕ}
use Rattle.arj_protocol.specs.Words.{Message}
use Rattle.arj_protocol.specs.Coord.{Coord}
use Rattle.arj_protocol.specs.Named.{Named}
use Rattle.arj_protocol.specs.Server.{Server}
use Rattle.arj_law_lock.specs.machine.Actions.{In}
use Rattle.arj_law_lock.specs.machine.State as machine
use Rattle.arj_law_lock.specs.machine.State.{State}
use Rattle.arj_law_lock_view.specs.view.Acts.{Acts}
use Rattle.arj_law_lock_view.specs.view.Copies.{Codes}
use Rattle.arj_law_lock_view.specs.view.Handling.{OnlyServing}
use Rattle.arj_law_lock_view.specs.view.Inputs.{SeesWhole}
use Rattle.arj_law_lock_view.specs.view.Named.{Place, SeesNamed}
use Rattle.arj_law_lock_view.specs.view.Telling.{Sees, View}

-- also with its includes, its commits under way and the units that are over,
abbrev pub WholesStaySeen : Type 0
WholesStaySeen = (v : View) (m : Message) (act : Acts) (code : Codes) (x : ℕ) (c : Coord) (S T : State) → OnlyServing v m S T →
    SeesWhole act code x c S → SeesWhole act code x c T

-- the object at naming,
abbrev pub NamedStaysSeen : Type 0
NamedStaysSeen = (v : View) (m : Message) (act : Acts) (x : ℕ) (n : Place) (o : Named) (S T : State) → OnlyServing v m S T →
    SeesNamed act x n o S → SeesNamed act x n o T

-- and the servers of other nodes.
abbrev pub OtherServersStaySeen : Type 0
OtherServersStaySeen = (v w : View) (m : Message) (s : Server) (S T : State) → w.node ≢ v.node → OnlyServing v m S T → Sees w s S →
    Sees w s T

-- A server is left seen by all that leaves the machine's server as it was, and unsends no message: what coordinators and naming do.
abbrev pub ServersStaySeen : Type 0
ServersStaySeen = (v : View) (s : Server) (S T : State) → T.server v.node ≡ S.server v.node →
    ((z : machine.Message) → In z S.net → In z T.net) → Sees v s S → Sees v s T
