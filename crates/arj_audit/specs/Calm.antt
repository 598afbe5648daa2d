-- What is so of an image.
use Rattle.std.specs.Prelude.{◌≡◌, List, true, MatchBool}
use Rattle.arj_audit.specs.declared.findings.Findings.{Findings}
use Rattle.arj_book.specs.Order.{KeepsOrder}
use Rattle.arj_clean.specs.Clean.{AreClean}
use Rattle.arj_disk.specs.declared.slot.Role.TheVariants.{Names}
use Rattle.arj_image.specs.declared.image.Image.{Image}
use Rattle.arj_journal.specs.declared.body.Line.{Line}
use Rattle.arj_journal.specs.declared.header.Header.{Header}
use Rattle.arj_model.specs.Disks.{Disks}
use Rattle.arj_model.specs.Last.{first_values}
use Rattle.arj_model.specs.Serial.{Serial}
use Rattle.arj_past.specs.Past.{HoldPast, IsOfHeader}
use Rattle.arj_rest.specs.Nodes.{NodesFit, are_listed}
use Rattle.arj_saved.specs.Files.{are_in_place, is_quiet}
use Rattle.arj_saved.specs.Saved.{disks_of}

-- The nodes of an image are stopped: the counts, the lines and the files fit each other, and each node is halted; only files of what is
-- committed are there, in their grammars; node 1 has entries of the header's objects alone; and each object has a listed store, and
-- none twice.
pub record IsStopped (image : Image) : Type 0 where
  pub nodes : NodesFit image
  pub files : are_in_place image.files ≡ true
  pub entries : (let h = image.header in IsOfHeader h.objects (disks_of image.files 1) Names)
  pub listed : are_listed image.header image.journal ≡ true

-- The journal keeps the lock book, and each object state that a node holds is one that its object had behind some of the committed tops.
pub record IsTrue (header : Header) (lines : List Line) (disks : Disks) : Type 0 where
  pub book : KeepsOrder (first_values header) lines
  pub past : HoldPast header lines disks

-- A run can go on from an image whose journal can be read as a run: its nodes are stopped, its disks are clean, and they are true to
-- the journal.
pub record IsCalm (image : Image) : Type 0 where
  pub stopped : IsStopped image
  pub clean : AreClean image.header image.journal (disks_of image.files)
  pub true_to : IsTrue image.header image.journal (disks_of image.files)

-- What is found of an image is so, and what isn't found isn't.
pub record HasFindings (image : Image) (f : Findings) : Type 0 where
  pub serial : MatchBool f.serial (Serial (first_values image.header) image.journal) (Serial (first_values image.header) image.journal → ⊥)
  pub clean : MatchBool f.clean (AreClean image.header image.journal (disks_of image.files)) (AreClean image.header image.journal (disks_of image.files) → ⊥)
  pub quiet : f.quiet ≡ is_quiet image.files
  pub calm : MatchBool f.calm (IsCalm image) (IsCalm image → ⊥)
