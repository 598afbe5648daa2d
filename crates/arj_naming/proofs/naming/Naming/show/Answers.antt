use Rattle.std.proofs.Common.{◌≡◌, ◌∙◌, false, None, sym, subst}
use Rattle.std.specs.Prelude.{is_some}
use Rattle.arj_base.specs.Uid.{entry}
use Rattle.arj_disk.specs.FileMap.{FileMap}
use Rattle.arj_disk.specs.declared.slot.Role.TheVariants.{Names}
use Rattle.arj_naming.specs.Entries.{AreEntries}
use Rattle.arj_naming.specs.Kept.{Kept}
use Rattle.arj_naming.proofs.Showing.{none_is, read_shown}
use Rattle.arj_protocol.specs.Effect.{holder_of}
use Rattle.arj_naming.proofs.naming.Naming.show.Goals as goal

pub returns-clause-done : goal.returns-clause-done
returns-clause-done g c =
    let o = g.O.ObjectStore in
    let file : FileMap = g.D.Disk.file c.args.disk.now in
    let now = c.args.self.now in
    let none : is_some c.holder.result ≡ false = cc (c.is_some.ensures, c.if-is_some.false) in
    let free : holder_of (entry c.args.x) now.pair ≡ None = sym (c.holder.ensures file c.requires) ∙ none_is c.holder.result none in
    let good : AreEntries now.pair = subst (λ (k : Kept g.row.O.Denot). AreEntries k.pair) c.self.view_is c.are_entries.ensures in
    c.in_ok-say_read.ensures
    ∙ read_shown (o.pair file Names) now.pair c.args.x c.in_ok-read.read c.args.out.now c.requires.pair good (g.met.O.ObjectStore.sound Names file c.requires.formed).once free c.in_ok-read.ensures.answer
