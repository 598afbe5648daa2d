use Rattle.std.proofs.Common.{◌∙◌, [], sym, ap}
use Rattle.arj_disk.specs.Says.{uid_in}
use Rattle.arj_store.proofs.Bytes.{uid_back}
use Rattle.arj_segment_file.proofs.rows.uid_of.Goals as goal

pub returns : goal.returns
returns c = sym (uid_back c.from_bytes.result [] c.from_bytes.ensures.fits) ∙ ap uid_in (c.from_bytes.ensures.bytes ∙ c.copy_from_slice.ensures.after)
