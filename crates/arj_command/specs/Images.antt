-- What a run of `image` shows.
use Rattle.std.specs.Prelude.{◌≡◌, ℕ, true, List, ◌++◌, Option, Some}
use Rattle.arj_audit.specs.Calm.{IsCalm}
use Rattle.arj_command.specs.Facts.{Facts, behind}
use Rattle.arj_command.specs.Outcome.{Around, CameShows, Said, world_of}
use Rattle.arj_core.specs.declared.node.Core as core
use Rattle.arj_disk.specs.declared.disk.Disk as disk
use Rattle.arj_image.specs.declared.image.Image.{Image}
use Rattle.arj_journal.specs.declared.body.Line.{Line}
use Rattle.arj_law_nodes.specs.nodes.Readings.{Reads}
use Rattle.arj_loop.specs.Replayed.{CameTo, EndsSo, IsCutShort, answer}
use Rattle.arj_loop.specs.declared.ending.End.{End}
use Rattle.arj_nodes.specs.AllNodes.{task}
use Rattle.arj_nodes.specs.AsMachine.{all_nodes}
use Rattle.arj_nodes.specs.declared.all_nodes.AllNodes.{AllNodes}
use Rattle.arj_saved.specs.Files.{is_quiet}
use Rattle.arj_saving.specs.Saved.{AllStopped, HasImage, HasUp, Saves, header_of, script_events, stopped_header}
use Rattle.arj_saving.specs.Stops.{ComesSoFar, MeetsLimit, Moment, crashes, moment}
use Rattle.arj_script.specs.Input.{events_of}

-- Behind a script whose nodes are up behind it, what was run with crashes of these shows what is promised.
abbrev pub CrashesShow : {C D : Type 0} (c : core.Ghosts C) (d : disk.Ghosts D) → Reads → (given : _) (first : List D) (before : Moment D (AllNodes C))
    (ups : List ℕ) → HasUp (all_nodes c d) given first before ups → List ℕ → Moment D (AllNodes C) → List Line → Type 0
CrashesShow c d read given first before ups u done now journal =
    let s = u.script in
    let m = now in
    Facts c d read (task first (header_of (all_nodes c d) given first before s) (script_events (all_nodes c d) given first before s ++ crashes done))
    (behind m.machine m.rack journal)

-- What a run of `image` shows, at each status.
pub record ImageHeadline {C D : Type 0} (c : core.Ghosts C) (d : disk.Ghosts D) (read : Reads) (w : Around D) (says : Said C) : Type 0 where
  pub nodes : Option (AllNodes C)
  -- which bytes came, what the status means, what was run and stopped, and that the sink took the image's text, or one line
  pub run : Saves (all_nodes c d) d w.before w.after (answer says.status says.why says.journal nodes)
  -- the world that is handed out
  pub world_is : says.world ≡ world_of nodes
  -- what the script's events show, where its run ended before its end, and where memory cut it short
  pub ended : (end : End) (journal : List Line) (all : AllNodes C) →
      (let b = w.before in let a = w.after in
      (e : EndsSo (all_nodes c d) run.given b.rack a.rack end journal) → (let at = e.at in at.machine) ≡ Some all →
      (let r = e.reached in let s = r.stage in Facts c d read (task b.rack s.header (events_of s.forms)) (behind all a.rack journal)))
  pub cut : (journal : List Line) →
      (let b = w.before in let a = w.after in
      (r : CameTo (all_nodes c d) run.given b.rack a.rack 5 journal) → IsCutShort (all_nodes c d) run.given b.rack a.rack 5 journal r →
      CameShows c d read run.given b.rack a.rack 5 journal r)
  -- what they and the crashes behind them show: where all nodes were stopped, where a limit was met, and where memory was wanting
  pub stopped : (then : Moment D (AllNodes C)) →
      (let b = w.before in
      (s : AllStopped (all_nodes c d) run.given b.rack then) → CrashesShow c d read run.given b.rack s.before s.ups s.up s.ups then then.journal)
  -- and where all were stopped: with nothing prepared and no record among its files the image is calm, so that a run can go on from it
  pub calm : (then : Moment D (AllNodes C)) (image : Image) →
      (let b = w.before in let a = w.after in
      (s : AllStopped (all_nodes c d) run.given b.rack then) →
      HasImage (all_nodes c d) d (stopped_header (all_nodes c d) run.given b.rack then s) then a.rack image →
      is_quiet (let i = image in i.files) ≡ true → IsCalm image)
  pub limited : (before : Moment D (AllNodes C)) (ups : List ℕ) (machine : AllNodes C) →
      (let b = w.before in let a = w.after in
      (u : HasUp (all_nodes c d) run.given b.rack before ups) → (l : MeetsLimit (all_nodes c d) ups before (moment a.rack machine says.journal)) →
      CrashesShow c d read run.given b.rack before ups u l.done (moment a.rack machine l.lines) says.journal)
  pub short : (before : Moment D (AllNodes C)) (ups : List ℕ) (rack : List D) →
      (let b = w.before in
      (u : HasUp (all_nodes c d) run.given b.rack before ups) → (s : ComesSoFar (all_nodes c d) ups before rack) →
      CrashesShow c d read run.given b.rack before ups u s.done s.now (let n = s.now in n.journal))
