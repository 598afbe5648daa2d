-- What a run of `image` leaves and answers, status by status.
use Rattle.std.specs.Prelude.{◌≡◌, ◌≢◌, ◌≤◌, ◌<◌, ◌⊎◌, ℕ, List, [], ◌∷◌, ◌++◌, length, take, Option, Some}
use Rattle.arj_disk.specs.declared.disk.Disk as disk
use Rattle.arj_image.specs.Written.{image_by, image_forms, image_text}
use Rattle.arj_image.specs.declared.image.Image.{Image}
use Rattle.arj_image.specs.declared.image.NodeFile.{NodeFile}
use Rattle.arj_image.specs.declared.limits.TheConstants.{FILE_LINES, IMAGE_LINES}
use Rattle.arj_io.specs.Told.{Takes}
use Rattle.arj_journal.specs.LineText.{line_text}
use Rattle.arj_journal.specs.declared.body.Body.TheVariants as body
use Rattle.arj_journal.specs.declared.body.Line.{Line}
use Rattle.arj_journal.specs.declared.body.Which.TheVariants as which
use Rattle.arj_journal.specs.declared.event.Event.{Event}
use Rattle.arj_journal.specs.declared.header.Header.{Header}
use Rattle.arj_loop.specs.Input.{Arrived, Came, script_of, source_view}
use Rattle.arj_loop.specs.Replayed.{Answer, CameTo, EndsSo, IsCutShort, Outside}
use Rattle.arj_loop.specs.Running.{Held, Reached, hand, held_by, status_of, why_of}
use Rattle.arj_loop.specs.declared.ending.BadLine.{BadLine}
use Rattle.arj_loop.specs.declared.ending.End.{End}
use Rattle.arj_loop.specs.declared.ending.End.TheVariants as ending
use Rattle.arj_loop.specs.declared.machine.Machine.{Ghosts}
use Rattle.arj_saving.specs.Gathered.{AreFilesOf, HaveBeenRead, node_files}
use Rattle.arj_saving.specs.Stops.{ComesSoFar, HasCrashed, MeetsLimit, Moment, last_sent, moment, up_nodes}
use Rattle.arj_script.specs.Input.{events_of}
use Rattle.arj_world.specs.Disks.{HasStopped, HaveNotStopped}

-- ---- what is run

-- The whole script that came was run, from these disks on, to this moment.
pub record RanScript {D M : Type 0} (m : Ghosts M D) (given : Arrived) (first : List D) (now : Moment D M) : Type 0 where
  pub count : ℕ
  pub reached : Reached m first now.rack (script_of given) (hand (Some now.machine) count now.journal) ending.Whole

-- its header
abbrev pub header_of : {D M : Type 0} (m : Ghosts M D) (given : Arrived) (first : List D) (now : Moment D M) → RanScript m given first now → Header
header_of m given first now s = let r = s.reached in let t = r.stage in t.header

-- its events
abbrev pub script_events : {D M : Type 0} (m : Ghosts M D) (given : Arrived) (first : List D) (now : Moment D M) →
    RanScript m given first now → List Event
script_events m given first now s = let r = s.reached in let t = r.stage in events_of t.forms

-- The whole script was run, and these nodes are up behind it.
pub record HasUp {D M : Type 0} (m : Ghosts M D) (given : Arrived) (first : List D) (now : Moment D M) (ups : List ℕ) : Type 0 where
  pub script : RanScript m given first now
  pub ups_are : ups ≡ up_nodes now.journal (let h = header_of m given first now script in h.nodes)

-- The whole script was run, and behind it all nodes that were up were crashed: none is up any more.
pub record AllStopped {D M : Type 0} (m : Ghosts M D) (given : Arrived) (first : List D) (now : Moment D M) : Type 0 where
  pub before : Moment D M
  pub ups : List ℕ
  pub up : HasUp m given first before ups
  pub crashed : HasCrashed m ups before now
  pub down : up_nodes now.journal (let u = up in let h = header_of m given first before u.script in h.nodes) ≡ []

-- the header
abbrev pub stopped_header : {D M : Type 0} (m : Ghosts M D) (given : Arrived) (first : List D) (now : Moment D M) →
    AllStopped m given first now → Header
stopped_header m given first now s = let u = s.up in header_of m given first s.before u.script

-- ---- images

-- an image has no more lines than `audit` reads
abbrev pub IsShort : Image → Type 0
IsShort i = (length (image_forms i) ≤ IMAGE_LINES) × (length i.files ≤ FILE_LINES)

-- it has more
abbrev pub IsLong : Image → Type 0
IsLong i = (IMAGE_LINES < length (image_forms i)) ⊎ (FILE_LINES < length i.files)

-- the image of a run with this header and this count of events, of these lines and these files
abbrev pub image_of : Header → ℕ → List Line → List NodeFile → Image
image_of header events lines files = image_by header (events, last_sent lines 0) lines files

-- A run whose nodes were stopped has this image: its header, the counts of its events and frames, its journal, and the files of its nodes' disks,
-- which were read since. None of the disks was stopped.
pub record HasImage {D M : Type 0} (m : Ghosts M D) (d : disk.Ghosts D) (header : Header) (now : Moment D M) (after : List D) (i : Image) : Type 0 where
  pub files : List NodeFile
  pub files_are : AreFilesOf (node_files d.file now.rack) header.nodes files
  pub image_is : i ≡ image_of header (m.steps now.machine) now.journal files
  pub read : HaveBeenRead d header.nodes now.rack after
  pub unstopped : HaveNotStopped d now.rack after

-- the line that says that an image has too many lines
abbrev pub too_many : ℕ → Line
too_many number = record { event = number; body = body.Limit which.Lines }

-- What is said of an image with a status: its text at 0; at 6 that it is too long, by a line more of the journal.
pub record SaysImage (i : Image) (journal : List Line) (text : List ℕ) (status : ℕ) : Type 0 where
  pub whole : status ≡ 0 → IsShort i × (journal ≡ i.journal) × (text ≡ image_text i)
  pub long : status ≡ 6 → IsLong i × (journal ≡ i.journal ++ too_many i.events ∷ []) × (text ≡ line_text (too_many i.events))
  pub only : (status ≡ 0) ⊎ (status ≡ 6)

-- ---- what is said

-- The text is that of the journal's last line.
pub record SaysLast (journal : List Line) (text : List ℕ) : Type 0 where
  pub front : List Line
  pub last : Line
  pub cut : journal ≡ front ++ last ∷ []
  pub text_is : text ≡ line_text last

-- The run of the script ended so, with this status, and the journal's last line is said.
pub record SaysEnd {D M : Type 0} (m : Ghosts M D) (given : Arrived) (first : List D) (now : Held D M) (why : Option BadLine) (said : List ℕ × ℕ) : Type 0 where
  pub end : End
  pub status_is : said.1 ≡ status_of end
  pub only : (said.1 ≡ 2) ⊎ (said.1 ≡ 6)
  pub why_is : why ≡ why_of end
  pub ends : EndsSo m given first now.rack end now.journal
  pub machine_is : now.machine ≡ (let at = ends.at in at.machine)
  pub last : SaysLast now.journal said.0

-- The whole script was run, and a limit was met as its nodes were crashed: the journal's last line, which says so, is said.
pub record SaysLimit {D M : Type 0} (m : Ghosts M D) (given : Arrived) (first : List D) (now : Held D M) (text : List ℕ) : Type 0 where
  pub before : Moment D M
  pub ups : List ℕ
  pub up : HasUp m given first before ups
  pub machine : M
  pub machine_is : now.machine ≡ Some machine
  pub limit : MeetsLimit m ups before (moment now.rack machine now.journal)
  pub last : SaysLast now.journal text

-- The whole script was run, its nodes were stopped, and this is said of the image.
pub record SaysSaved {D M : Type 0} (m : Ghosts M D) (d : disk.Ghosts D) (given : Arrived) (first : List D) (now : Held D M) (said : List ℕ × ℕ) : Type 0 where
  pub then : Moment D M
  pub run : AllStopped m given first then
  pub machine : now.machine ≡ Some then.machine
  pub image : Image
  pub has : HasImage m d (stopped_header m given first then run) then now.rack image
  pub says : SaysImage image now.journal said.0 said.1

-- what is said with a status: of the image at 0 or 6; at 2, 3, 6 or 7 how the script's run ended; or at 6 that a limit was met behind it
abbrev pub Says : {D M : Type 0} → Ghosts M D → disk.Ghosts D → Arrived → List D → Held D M → Option BadLine → List ℕ × ℕ → Type 0
Says m d given first now why said =
    SaysSaved m d given first now said
    ⊎ (SaysEnd m given first now why said ⊎ ((said.1 ≡ 6) × SaysLimit m given first now said.0))

-- ---- where nothing is said

-- A read failed, and the lines whose ends were read by then were run.
pub record IsCutOff {D M : Type 0} (m : Ghosts M D) (given : Arrived) (first : List D) (now : Held D M) : Type 0 where
  pub ends : EndsSo m given first now.rack ending.Fault now.journal
  pub machine_is : now.machine ≡ (let at = ends.at in at.machine)

-- A disk was stopped while it was formatted.
pub record StopsAtFormat {D M : Type 0} (m : Ghosts M D) (given : Arrived) (first : List D) (now : Held D M) : Type 0 where
  pub ends : EndsSo m given first now.rack ending.Format now.journal
  pub machine_is : now.machine ≡ (let at = ends.at in at.machine)

-- The whole script was run, its nodes were stopped, and a disk was stopped while it was read.
pub record StopsAtFiles {D M : Type 0} (m : Ghosts M D) (d : disk.Ghosts D) (given : Arrived) (first : List D) (now : Held D M) : Type 0 where
  pub then : Moment D M
  pub run : AllStopped m given first then
  pub machine : now.machine ≡ Some then.machine
  pub journal : now.journal ≡ then.journal
  pub read : HaveBeenRead d (let h = stopped_header m given first then run in h.nodes) then.rack now.rack
  pub stopped : HasStopped d then.rack now.rack

-- The whole script was run, and behind it nodes were crashed so far; the disks may have been read since.
pub record StopsSoFar {D M : Type 0} (m : Ghosts M D) (d : disk.Ghosts D) (given : Arrived) (first after : List D) : Type 0 where
  pub before : Moment D M
  pub ups : List ℕ
  pub up : HasUp m given first before ups
  pub rack : List D
  pub comes : ComesSoFar m ups before rack
  pub read : HaveBeenRead d (let h = header_of m given first before (let u = up in u.script) in h.nodes) rack after

-- how far it came where memory was wanting: the run of the script was cut short, or it had ended, or nodes were crashed behind it so far
abbrev pub WantsMemory : {D M : Type 0} → Ghosts M D → disk.Ghosts D → Arrived → List D → List D → Type 0
WantsMemory m d given first after =
    ((journal : List Line) × (run : CameTo m given first after 5 journal) × IsCutShort m given first after 5 journal run)
    ⊎ (((end : End) × (journal : List Line) × EndsSo m given first after end journal) ⊎ StopsSoFar m d given first after)

-- ---- status by status

-- what a run leaves, by what is outside of it and what it answers
abbrev pub left_by : {D M : Type 0} → Outside D → Answer M → Held D M
left_by after answer = held_by after.rack answer.machine answer.journal

-- A run of `image`: which bytes came, and status by status what that means, what it leaves, and what the sink took.
pub record Saves {D M : Type 0} (m : Ghosts M D) (d : disk.Ghosts D) (before after : Outside D) (answer : Answer M) : Type 0 where
  pub given : Arrived
  pub reads : Came (source_view before.left before.faults) (source_view after.left after.faults) given
  -- the sink took the text of the run's image, or the one line that is said in its place
  pub image : answer.status ≡ 0 →
      (text : List ℕ) × SaysSaved m d given before.rack (left_by after answer) (text, 0) × Takes before.taken text after.taken
  pub bad : answer.status ≡ 2 →
      (text : List ℕ) × SaysEnd m given before.rack (left_by after answer) answer.why (text, 2) × Takes before.taken text after.taken
  pub limit : answer.status ≡ 6 →
      (text : List ℕ) × Says m d given before.rack (left_by after answer) answer.why (text, 6) × Takes before.taken text after.taken
  -- a write failed: the sink took a front of what is said with another status
  pub front : answer.status ≡ 4 →
      (said : List ℕ × ℕ) × (count : ℕ) × Says m d given before.rack (left_by after answer) answer.why said
      × Takes before.taken (take count said.0) after.taken
  -- a read failed, a disk was stopped, or memory was wanting: the sink took nothing
  pub fault : answer.status ≡ 3 → IsCutOff m given before.rack (left_by after answer)
  pub stopped : answer.status ≡ 7 →
      StopsAtFormat m given before.rack (left_by after answer) ⊎ StopsAtFiles m d given before.rack (left_by after answer)
  pub memory : answer.status ≡ 5 → WantsMemory m d given before.rack after.rack
  pub unsaid : (answer.status ≡ 3) ⊎ ((answer.status ≡ 5) ⊎ (answer.status ≡ 7)) → after.taken ≡ before.taken
  -- these aren't answered
  pub never : (answer.status ≢ 1) × (answer.status ≢ 8)
