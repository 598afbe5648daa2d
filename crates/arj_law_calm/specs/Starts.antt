-- With what a run goes on from an image.
use Rattle.std.specs.Prelude.{◌-◌, ◌<◌, ℕ, List, length}
use Rattle.std.specs.Option.{unwrap_or}
use Rattle.arj_audit.specs.Calm.{IsCalm}
use Rattle.arj_image.specs.Written.{ImageInForm}
use Rattle.arj_image.specs.declared.image.Image.{Image}
use Rattle.arj_image.specs.declared.image.NodeFile.{NodeFile}
use Rattle.arj_promise.specs.Runs.{HeaderFits}
use Rattle.arj_reading.specs.Readable.{Readable}
use Rattle.arj_saved.specs.Files.{inc_at}
use Rattle.arj_start.specs.Start.{Start}
use Rattle.arj_text.specs.declared.label.Label.{Label}
use Rattle.arj_law_calm.specs.Leaves.{IsLeft}
use Rattle.arj_law_calm.specs.Next.{next_header}

-- the incarnations that a node had before that of its file
abbrev pub incs_before : List NodeFile → ℕ → ℕ
incs_before files n = unwrap_or (inc_at files n) 0 - 1

-- A start is one of an image: it is one that its journal left, after the incarnations of its files, with its counts and these labels.
abbrev pub IsStartOf : Image → List Label → Start → Type 0
IsStartOf image given st = IsLeft image.header image.journal (incs_before image.files) given (image.events, image.frames) st

-- the header of a run that goes on from a calm image fits
abbrev pub CalmHeadersFit : Type 0
CalmHeadersFit = (image : Image) → ImageInForm image → length image.journal < 4294967296 → Readable image.header image.journal
    → IsCalm image → HeaderFits (next_header image.header image.journal)

-- each calm image has one, whichever labels were given
abbrev pub CalmImagesAreStarts : Type 0
CalmImagesAreStarts = (image : Image) (given : List Label) → ImageInForm image → length image.journal < 4294967296
    → Readable image.header image.journal → IsCalm image → (st : Start) × IsStartOf image given st
