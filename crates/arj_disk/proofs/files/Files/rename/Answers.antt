use Rattle.std.proofs.Common.{◌≡◌, ◌∙◌, rules, sym, Some}
use Rattle.std.proofs.lemmas.Bool.{not-false}
use Rattle.arj_disk.specs.Stored.{stored}
use Rattle.arj_disk.proofs.Sames.{is_slot, slot_same, renamed_itself}
use Rattle.arj_disk.proofs.files.Files.rename.Goals as goal

pub returns-else-ne-clause-ok : goal.returns-else-ne-clause-ok
returns-else-ne-clause-ok c =
    let same = slot_same c.args.from c.args.to (not-false (is_slot c.args.from c.args.to) (sym c.ne.ensures ∙ c.if-ne.false)) in
    let there : stored c.args.self.now c.args.from ≡ Some c.in_ok-file.file = search rules in
    renamed_itself (stored c.args.self.now) (stored c.insert.new.self) c.args.from c.args.to c.in_ok-file.file same there c.in_ok-insert.ensures.ok
