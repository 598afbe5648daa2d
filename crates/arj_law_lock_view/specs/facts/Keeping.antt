-- That the plan of a commit which is called has what the top's unit keeps.
use Rattle.std.specs.Prelude.{◌≢◌, ℕ, List}
use Rattle.arj_protocol.specs.Words.{Uid}
use Rattle.arj_protocol.specs.Words.kind
use Rattle.arj_protocol.specs.Coord.{Coord, Doing}
use Rattle.arj_protocol.specs.Tree.{Branch}
use Rattle.arj_law_runs.specs.addresses.Binds.{KnowsBinds}
use Rattle.arj_law_lock.specs.machine.State.{State}
use Rattle.arj_law_parts.specs.parts.Copies.{Paths}
use Rattle.arj_promise.specs.Runs.{Post}
use Rattle.arj_law_lock_view.specs.view.Acting.{IsFreeToEnd}
use Rattle.arj_law_lock_view.specs.view.Acts.{Acts}
use Rattle.arj_law_lock_view.specs.view.Calling.{IsReached}
use Rattle.arj_law_lock_view.specs.view.Copies.{Codes}
use Rattle.arj_law_lock_view.specs.view.Inputs.{SeesWhole, plan_now}
use Rattle.arj_law_lock_view.specs.view.Plans.{AreKept}

-- Of a called object the plan of a top that may commit has the binding that its unit keeps, its server and the incarnation that was heard.
abbrev pub PlansHaveKept : Type 0
PlansHaveKept = (act : Acts) (code : Codes) (paths : Paths) (x : ℕ) (sent : List Post) (node : ℕ) (c : Coord) (u : Uid) (b : Branch)
    (d : Doing) (S : State)
    → IsReached S → IsFreeToEnd act paths c u b d → b.kind ≢ kind.Serial → KnowsBinds sent node c → SeesWhole act code x c S →
    AreKept x (act u) (plan_now b c) S
