use Rattle.arj_image.proofs.Taking.{file_takes}
use Rattle.arj_image.proofs.reader.files.Goals as goal

pub returns-clause-ok : goal.returns-clause-ok
returns-clause-ok c = file_takes c.args.place.now c.args.bytes.now c.next_file.new.files c.requires c.in_ok-next_file.ensures.ok
