-- What makes an image calm.
use Rattle.std.proofs.Common.{◌≡◌, List, Bool, true, false, sym}
use Rattle.std.specs.Prelude.{MatchBool}
use Rattle.arj_audit.specs.Calm.{IsCalm, IsStopped, IsTrue}
use Rattle.arj_book.specs.Order.{KeepsOrder}
use Rattle.arj_clean.specs.Clean.{AreClean}
use Rattle.arj_disk.specs.declared.slot.Role.TheVariants.{Names}
use Rattle.arj_image.specs.declared.image.Image.{Image}
use Rattle.arj_journal.specs.declared.body.Line.{Line}
use Rattle.arj_journal.specs.declared.header.Header.{Header}
use Rattle.arj_law.proofs.Common.{never}
use Rattle.arj_model.specs.Disks.{Disks}
use Rattle.arj_model.specs.Last.{first_values}
use Rattle.arj_past.specs.Past.{HoldPast, IsOfHeader}
use Rattle.arj_rest.specs.Nodes.{NodesFit, are_listed}
use Rattle.arj_saved.specs.Files.{are_in_place}
use Rattle.arj_saved.specs.Saved.{disks_of}

-- where all but the listed stores is as it is to be
pub stopped_test : (b : Bool) (image : Image) → NodesFit image → are_in_place image.files ≡ true →
    (let h = image.header in IsOfHeader h.objects (disks_of image.files 1) Names) → b ≡ are_listed image.header image.journal
    → MatchBool b (IsStopped image) (IsStopped image → ⊥)
stopped_test true image nodes files entries is = record { nodes = nodes; files = files; entries = entries; listed = sym is }
stopped_test false image nodes files entries is = λ s. never (are_listed image.header image.journal) s.listed (sym is)

pub true_test : (b : Bool) (header : Header) (lines : List Line) (disks : Disks) → KeepsOrder (first_values header) lines →
    MatchBool b (HoldPast header lines disks) (HoldPast header lines disks → ⊥) → MatchBool b (IsTrue header lines disks) (IsTrue header lines disks → ⊥)
true_test true header lines disks book past = record { book = book; past = past }
true_test false header lines disks book other = λ t. other t.past

pub calm_test : (b : Bool) (image : Image) → IsStopped image → AreClean image.header image.journal (disks_of image.files) →
    MatchBool b (IsTrue image.header image.journal (disks_of image.files)) (IsTrue image.header image.journal (disks_of image.files) → ⊥)
    → MatchBool b (IsCalm image) (IsCalm image → ⊥)
calm_test true image stopped clean truth = record { stopped = stopped; clean = clean; true_to = truth }
calm_test false image stopped clean other = λ calm. other calm.true_to
