-- What each handler keeps holds after each turn.
use Rattle.std.proofs.Common.{List, [], ◌∷◌}
use Rattle.arj_law_runs.proofs.coordinators.RunCoords.{IsSo, holds_named, keeps_names, names_are_kept}
use Rattle.arj_law_parts.specs.steps.Named.{AreNamed, HasNames}
use Rattle.arj_protocol.specs.Words.{Header}
use Rattle.arj_protocol.specs.World.{World, format, run_event}
use Rattle.arj_law_parts.specs.moves.Keeps.{Holds, Keeps}
use Rattle.arj_start.specs.Start.{fresh}
use Rattle.arj_promise.specs.Runs.{Seen}
use Rattle.arj_promise.specs.Starts.{fresh_is_formed}
use Rattle.arj_law_parts.proofs.moves.Happens.{arms_hold, event_holds, first_holds}
use Rattle.arj_world.specs.Turns.{Turn, all_turned, asked, turned, with_arms}

module _ (hd : Header) (P : Seen → Type 0) (keeps : Keeps hd P) where
  pub turn_holds : (t : Turn) (w : World) → Holds hd P w → Holds hd P (turned t w)
  turn_holds t w h =
      let v = with_arms t.falls w in
      arms_hold hd P [] (run_event (asked t.event) v) (event_holds hd P keeps (asked t.event) v (arms_hold hd P t.falls w h))

  all_hold : (ts : List Turn) (w : World) → Holds hd P w → Holds hd P (all_turned ts w)
  all_hold [] w h = h
  all_hold (t ∷ ts) w h = all_hold ts (turned t w) (turn_holds t w h)

  pub turns_hold : (ts : List Turn) → Holds hd P (all_turned ts (format hd))
  turns_hold ts = all_hold ts (format hd) (first_holds hd fresh P (fresh_is_formed hd) keeps)

-- coordinators know their labels
pub turns_named : (hd : Header) (ts : List Turn) → AreNamed (all_turned ts (format hd))
turns_named hd ts = holds_named hd (all_turned ts (format hd)) (turns_hold hd (IsSo HasNames names_are_kept) (keeps_names hd) ts)
