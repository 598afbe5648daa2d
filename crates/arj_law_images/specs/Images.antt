-- The image of a run of the protocol.
use Rattle.std.specs.Prelude.{◌≡◌, ℕ, List, [], None, Some}
use Rattle.arj_image.specs.declared.image.Image.{Image}
use Rattle.arj_model.specs.Refusals.{last_frame}
use Rattle.arj_promise.specs.Disks.{DisksAre}
use Rattle.arj_promise.specs.Runs.{Move, from_format, journal_by, see, world_by}
use Rattle.arj_protocol.specs.Step.{Node}
use Rattle.arj_protocol.specs.Tree.{at_place}
use Rattle.arj_protocol.specs.Words.{Header}
use Rattle.arj_protocol.specs.World.{World}
use Rattle.arj_saved.specs.Saved.{disks_of}

-- The image is that of the run from a format with these moves: its header, the counts of its events and frames, and its journal; and its files
-- say what the nodes have on disk.
pub record IsImageOf (hd : Header) (ms : List Move) (image : Image) : Type 0 where
  pub header : image.header ≡ hd
  pub journal : image.journal ≡ journal_by hd (from_format hd ms)
  pub events : image.events ≡ (let w = world_by hd (from_format hd ms) in w.event)
  pub frames : image.frames ≡ last_frame image.journal
  pub disks : DisksAre (see [] (world_by hd (from_format hd ms))) (disks_of image.files)

-- each node is down
abbrev pub AreDown : World → Type 0
AreDown w = (n : ℕ) (m : Node) → at_place n w.nodes ≡ Some m → m.live ≡ None
