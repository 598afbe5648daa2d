use Rattle.std.proofs.Common.{◌≡◌, cond, is_some, [], ◌∷◌, ap, ◌∙◌, subst, List}
use Rattle.arj_record.specs.Records.{Records, keep_calls, raised, found}
use Rattle.arj_record.specs.Scene.{Call, Told}
use Rattle.arj_record.proofs.Ended.{keep_no_more, keep_passes}
use Rattle.arj_record.proofs.Passes.{keep_is}
use Rattle.arj_record.proofs.Undone.{raised_once}
use Rattle.arj_record.proofs.list.RecordList.keep.Goals as goal

pub returns-clause-calls : goal.returns-clause-calls
returns-clause-calls g c =
    let P : List (Call g.row.V.Denot) → Type 0 = λ calls. Told g.S.Scene.step c.args.scene.now calls c.keep_all.new.scene in
    let same = ap (λ l. l.records) c.self.view_is in
    subst P (keep_is c.args.action c.self.inside.items.items c.self.invariant.1 ∙ ap (λ rs. keep_calls c.args.action rs) same) c.keep_all.ensures

pub returns-clause-once : goal.returns-clause-once
returns-clause-once g c =
    λ x. subst (λ (l : Records g.row.V.Denot). raised x (keep_calls c.args.action l.records) ≡ cond (is_some (found 3 x l.records)) (c.args.action ∷ []) []) c.self.view_is (raised_once c.args.action x c.self.inside.items.items c.self.invariant.1)

pub returns-clause-locks : goal.returns-clause-locks
returns-clause-locks g c = keep_passes c.args.self.records c.args.action

pub returns-clause-no_more : goal.returns-clause-no_more
returns-clause-no_more g c = λ x. keep_no_more c.args.self.records c.args.action x
