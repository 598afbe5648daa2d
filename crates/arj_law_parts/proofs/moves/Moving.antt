-- Whatever each handler keeps holds after moves; and the run of a script is one of moves.
use Rattle.arj_law_parts.proofs.Words
use Words.{◌≡◌, List, [], ◌∷◌, ◌++◌, refl, Header, World, format, world_from, run_all, run_event, Seen, Move, all_moved, as_moves, moved}
use Words.{world_by}
use Rattle.arj_law_parts.proofs.Terms.{Asked, Holds, KeepsAsked}
use Rattle.arj_law_parts.proofs.moves.Happens.{arms_hold, event_asked, first_asked}
use Rattle.arj_promise.specs.Runs.{Run, run_of}

-- ---- what is kept

module _ (hd : Header) (P : Seen → Type 0) (keeps : KeepsAsked hd P) where
  pub move_asked : (m : Move) (w : World) → Holds hd P w → Holds hd P (moved m w)
  move_asked m w h = arms_hold hd P [] (run_event m.asked (record w { arms = m.falls }))
      (event_asked hd P keeps m.asked (record w { arms = m.falls }) (arms_hold hd P m.falls w h))

  pub moves_go_on : (ms : List Move) (w : World) → Holds hd P w → Holds hd P (all_moved ms w)
  moves_go_on [] w h = h
  moves_go_on (m ∷ ms) w h = moves_go_on ms (moved m w) (move_asked m w h)

-- from wherever a run begins
pub moves_asked : (hd : Header) (P : Seen → Type 0) → KeepsAsked hd P → (r : Run hd) → Holds hd P (world_by hd r)
moves_asked hd P keeps r = moves_go_on hd P keeps r.moves (world_from hd r.start) (first_asked hd r.start P r.formed keeps)

-- ---- more moves behind

pub more_moves : (ms ns : List Move) (w : World) → all_moved (ms ++ ns) w ≡ all_moved ns (all_moved ms w)
more_moves [] ns w = refl
more_moves (m ∷ ms) ns w = more_moves ms ns (moved m w)

-- ---- scripts

pub scripts_move : (es : List Asked) (w : World) → all_moved (as_moves es w) (record w { arms = [] }) ≡ record (run_all es w) { arms = [] }
scripts_move [] w = refl
scripts_move (e ∷ es) w = scripts_move es (run_event e w)

-- a script's world is that of its moves, but for the stops that are armed at its end
pub scripts_are_moves : (hd : Header) (es : List Asked) → world_by hd (run_of hd es) ≡ record (run_all es (format hd)) { arms = [] }
scripts_are_moves hd es = scripts_move es (format hd)
