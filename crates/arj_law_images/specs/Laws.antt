-- What images of runs are, in the words of the audit.
use Rattle.std.specs.Prelude.{◌≡◌, ℕ, true, false, List, ◌++◌, map}
use Rattle.arj_audit.specs.Calm.{IsCalm}
use Rattle.arj_book.specs.Order.{KeepsOrder}
use Rattle.arj_clean.specs.Clean.{AreClean}
use Rattle.arj_disk.specs.declared.slot.Role.TheVariants.{Names}
use Rattle.arj_image.specs.declared.image.Image.{Image}
use Rattle.arj_journal.specs.declared.event.Event.TheVariants as event
use Rattle.arj_model.specs.Last.{first_values, is_among}
use Rattle.arj_model.specs.Refusals.{is_down, is_node}
use Rattle.arj_past.specs.Past.{HoldPast, IsOfHeader}
use Rattle.arj_promise.specs.Runs.{IsInForm, Move, Run, from_format, journal_by, world_by}
use Rattle.arj_protocol.specs.Words.{Header}
use Rattle.arj_reading.specs.Readable.{Readable}
use Rattle.arj_rest.specs.Nodes.{NodesFit, are_few, are_listed, lines_fit}
use Rattle.arj_saved.specs.Files.{are_in_place}
use Rattle.arj_saved.specs.Saved.{disks_of}
use Rattle.arj_start.specs.Start.{fresh}
use Rattle.arj_law_images.specs.Images.{AreDown, IsImageOf}

-- ---- the journal

-- the journal of every run in form, wherever it begins, keeps the order of the lock book
abbrev pub RunsKeepOrder : Type 0
RunsKeepOrder = (hd : Header) (r : Run hd) → IsInForm hd r → KeepsOrder (first_values hd) (journal_by hd r)

-- that of an image can be read as a run
abbrev pub ImagesAreReadable : Type 0
ImagesAreReadable = (hd : Header) (ms : List Move) (image : Image) → IsInForm hd (from_format hd ms) → IsImageOf hd ms image →
    Readable image.header image.journal

-- and it keeps that order
abbrev pub ImagesKeepOrder : Type 0
ImagesKeepOrder = (hd : Header) (ms : List Move) (image : Image) → IsInForm hd (from_format hd ms) → IsImageOf hd ms image →
    KeepsOrder (first_values image.header) image.journal

-- the journal of every run in form, wherever it begins, lists a store for each object, and none twice
abbrev pub RunsListStores : Type 0
RunsListStores = (hd : Header) (r : Run hd) → IsInForm hd r → are_listed hd (journal_by hd r) ≡ true

-- and so does that of an image
abbrev pub ImagesListStores : Type 0
ImagesListStores = (hd : Header) (ms : List Move) (image : Image) → IsInForm hd (from_format hd ms) → IsImageOf hd ms image →
    are_listed image.header image.journal ≡ true

-- ---- the nodes

-- the counts of an image aren't too great, and its lines fit them and the files
abbrev pub ImagesFit : Type 0
ImagesFit = (hd : Header) (ms : List Move) (image : Image) → IsInForm hd (from_format hd ms) → IsImageOf hd ms image →
    (are_few image ≡ true) × (lines_fit image ≡ true)

-- behind a run from a format crashes of all nodes that its journal says are up leave each node down, where no limit is met
abbrev pub CrashesStopAll : Type 0
CrashesStopAll = (hd : Header) (ms crashes : List Move) (ups : List ℕ) → IsInForm hd (from_format hd (ms ++ crashes)) →
    map (λ (m : Move). let a = m.asked in a.event) crashes ≡ map event.Crash ups
    → ((n : ℕ) → is_node hd n ≡ true → is_down fresh (journal_by hd (from_format hd ms)) n ≡ false → is_among ups n ≡ true)
    → (let w = world_by hd (from_format hd (ms ++ crashes)) in w.over) ≡ false → AreDown (world_by hd (from_format hd (ms ++ crashes)))

-- where its journal says that each node is down, and no limit was met, each node of a run from a format is
abbrev pub JournalsTellWhoIsDown : Type 0
JournalsTellWhoIsDown = (hd : Header) (ms : List Move) → IsInForm hd (from_format hd ms) →
    (let w = world_by hd (from_format hd ms) in w.over) ≡ false
    → ((n : ℕ) → is_node hd n ≡ true → is_down fresh (journal_by hd (from_format hd ms)) n ≡ true) → AreDown (world_by hd (from_format hd ms))

-- where each node is down, all of it fits, and each node is halted, with its incarnation
abbrev pub StoppedNodesFit : Type 0
StoppedNodesFit = (hd : Header) (ms : List Move) (image : Image) → IsInForm hd (from_format hd ms) → IsImageOf hd ms image →
    AreDown (world_by hd (from_format hd ms)) → NodesFit image

-- ---- the disks

-- the disks are clean
abbrev pub ImagesAreClean : Type 0
ImagesAreClean = (hd : Header) (ms : List Move) (image : Image) → IsInForm hd (from_format hd ms) → IsImageOf hd ms image →
    AreClean image.header image.journal (disks_of image.files)

-- each object state that a node holds is of an object of the header, and one that the object had
abbrev pub ImagesHoldPast : Type 0
ImagesHoldPast = (hd : Header) (ms : List Move) (image : Image) → IsInForm hd (from_format hd ms) → IsImageOf hd ms image →
    HoldPast image.header image.journal (disks_of image.files)

-- and node 1 has entries of the header's objects alone
abbrev pub ImagesNameObjects : Type 0
ImagesNameObjects = (hd : Header) (ms : List Move) (image : Image) → IsInForm hd (from_format hd ms) → IsImageOf hd ms image →
    IsOfHeader (let h = image.header in h.objects) (disks_of image.files 1) Names

-- ---- all of it

-- where each node is down, and only files of what is committed are there, each in its grammar, a run can go on from the image
abbrev pub StoppedImagesAreCalm : Type 0
StoppedImagesAreCalm = (hd : Header) (ms : List Move) (image : Image) → IsInForm hd (from_format hd ms) → IsImageOf hd ms image →
    AreDown (world_by hd (from_format hd ms)) → are_in_place image.files ≡ true → IsCalm image

-- so it is behind a run from a format and crashes of all nodes that its journal says are up, where no limit is met
abbrev pub CrashedImagesAreCalm : Type 0
CrashedImagesAreCalm = (hd : Header) (ms crashes : List Move) (ups : List ℕ) (image : Image) → IsInForm hd (from_format hd (ms ++ crashes)) →
    map (λ (m : Move). let a = m.asked in a.event) crashes ≡ map event.Crash ups
    → ((n : ℕ) → is_node hd n ≡ true → is_down fresh (journal_by hd (from_format hd ms)) n ≡ false → is_among ups n ≡ true)
    → (let w = world_by hd (from_format hd (ms ++ crashes)) in w.over) ≡ false → IsImageOf hd (ms ++ crashes) image
    → are_in_place image.files ≡ true → IsCalm image
