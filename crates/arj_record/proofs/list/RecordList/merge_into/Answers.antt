use Rattle.std.proofs.Common.{ap, ◌∙◌, subst, length, arith}
use Rattle.arj_record.specs.Records.{Records, found, combined, merged, IsArranged}
use Rattle.arj_record.proofs.Added.{found-gathered, length-gathered}
use Rattle.arj_record.proofs.Merged.{gathered_is}
use Rattle.arj_record.proofs.list.RecordList.merge_into.Goals as goal

pub returns-clause-records : goal.returns-clause-records
returns-clause-records g c =
    let parent = c.args.parent.now.records in
    let arranged = subst (λ (l : Records g.row.V.Denot). IsArranged l.records) c.parent.view_is c.parent.invariant.1 in
    c.hand_all.ensures.records ∙ (gathered_is c.self.inside.items.items parent c.self.invariant.1 arranged ∙ ap (λ (l : Records g.row.V.Denot). merged parent l.records) c.self.view_is)

pub returns-clause-each : goal.returns-clause-each
returns-clause-each g c =
    λ order x.
    let parent = c.args.parent.now.records in
    let arranged = subst (λ (l : Records g.row.V.Denot). IsArranged l.records) c.parent.view_is c.parent.invariant.1 in
    ap (λ rs. found order x rs) c.hand_all.ensures.records
    ∙ (found-gathered order x c.self.inside.items.items parent c.self.invariant.1 arranged ∙ ap (λ (l : Records g.row.V.Denot). combined (found order x parent) (found order x l.records)) c.self.view_is)

pub returns-clause-grows : goal.returns-clause-grows
returns-clause-grows g c =
    omega (arith, ap length c.hand_all.ensures.records, length-gathered c.self.inside.items.items c.args.parent.now.records, ap (λ (l : Records g.row.V.Denot). length l.records) c.self.view_is)
