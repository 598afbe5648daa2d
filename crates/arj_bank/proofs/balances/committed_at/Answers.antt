-- one disk was read
use Rattle.std.proofs.Common.{subst, sym, ◌∙◌}
use Rattle.arj_bank.proofs.Ending.{if_ok_so}
use Rattle.arj_bank.proofs.Reading.{files_of, files_stay, is_one, no_files_of, packs_none}
use Rattle.arj_bank.specs.Balances.{held_by, node_files}
use Rattle.arj_store.specs.Pair.{Packs}
use Rattle.arj_store.specs.declared.answer.StoreFault.TheVariants.{Stopped}
use Rattle.arj_gen.specs.declared.bank.TheConstants.{NODES}
use Rattle.arj_world.proofs.Disks.{moved_call, unstopped_ok}
use Rattle.arj_bank.proofs.balances.committed_at.Goals as goal

pub returns-clause-files : goal.returns-clause-files
returns-clause-files g c =
    files_stay g.D.Disk.file c.args.node c.args.rack.now c.disk.result.now c.look.new.disk c.disk.ensures.value c.look.ensures.files

pub returns-clause-moved : goal.returns-clause-moved
returns-clause-moved g c =
    let one = is_one c.args.node (sym c.is_number.ensures ∙ c.if-not-is_number.false) in
    moved_call g.D.Disk NODES c.args.node c.args.rack.now c.disk.result.now c.look.new.disk c.look.result Stopped one.0 one.1 c.disk.ensures.value c.look.ensures.counts

pub returns-clause-unstopped : goal.returns-clause-unstopped
returns-clause-unstopped g c =
    let one = is_one c.args.node (sym c.is_number.ensures ∙ c.if-not-is_number.false) in
    unstopped_ok g.D.Disk c.args.node c.args.rack.now c.disk.result.now c.look.new.disk c.look.result Stopped one.0 c.disk.ensures.value c.look.ensures.counts

pub returns-clause-packs : goal.returns-clause-packs
returns-clause-packs g c =
    let one = files_of g.D.Disk.file c.args.node c.args.rack.now c.disk.result.now (sym c.is_number.ensures ∙ c.if-not-is_number.false) c.disk.ensures.value in
    if_ok_so c.look.result (λ state. Packs (held_by g.O.ObjectStore (g.D.Disk.file c.disk.result.now) c.args.role c.args.uid) state) (λ state. Packs (held_by g.O.ObjectStore (node_files g.D.Disk.file c.args.rack.now c.args.node) c.args.role c.args.uid) state)
    (λ state. subst (λ f. Packs (held_by g.O.ObjectStore f c.args.role c.args.uid) state) (sym one)) c.look.ensures.state
