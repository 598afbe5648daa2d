use Rattle.std.proofs.Common.{◌≡◌, ap, ◌∙◌, subst, List}
use Rattle.std.specs.Option.{option_to_list}
use Rattle.arj_record.specs.Records.{Records, undo_calls, restored, image}
use Rattle.arj_record.specs.Scene.{Call, Told}
use Rattle.arj_record.proofs.Ended.{undo_no_more, undo_releases}
use Rattle.arj_record.proofs.Passes.{undo_is}
use Rattle.arj_record.proofs.Undone.{restored_once}
use Rattle.arj_record.proofs.list.RecordList.undo.Goals as goal

pub returns-clause-calls : goal.returns-clause-calls
returns-clause-calls g c =
    let P : List (Call g.row.V.Denot) → Type 0 = λ calls. Told g.S.Scene.step c.args.scene.now calls c.undo_all.new.scene in
    let same = ap (λ l. l.records) c.self.view_is in
    subst P (undo_is c.args.action c.self.inside.items.items c.self.invariant.1 ∙ ap (λ rs. undo_calls c.args.action rs) same) c.undo_all.ensures

pub returns-clause-once : goal.returns-clause-once
returns-clause-once g c =
    λ x. subst (λ (l : Records g.row.V.Denot). restored x (undo_calls c.args.action l.records) ≡ option_to_list (image x l.records)) c.self.view_is (restored_once c.args.action x c.self.inside.items.items c.self.invariant.1)

pub returns-clause-locks : goal.returns-clause-locks
returns-clause-locks g c = undo_releases c.args.self.records c.args.action

pub returns-clause-no_more : goal.returns-clause-no_more
returns-clause-no_more g c = λ x. undo_no_more c.args.self.records c.args.action x
