use Rattle.std.proofs.Common.{[], ◌∷◌, ap, sym, ◌∙◌, subst, length, arith}
use Rattle.arj_record.specs.Records.{Records, found, combined, IsArranged}
use Rattle.arj_record.proofs.Added.{arranged_added, found-added, length-added}
use Rattle.arj_record.proofs.list.RecordList.add.Goals as goal

pub invariant_of-self : goal.invariant_of-self
invariant_of-self g c =
    (omega (arith, ap length c.put_in.ensures.items, length-added c.args.item c.self.inside.items.items, ap (λ (l : Records g.row.V.Denot). l.spare) c.self.view_is), subst IsArranged (sym c.put_in.ensures.items) (arranged_added c.args.item c.self.inside.items.items c.self.invariant.1))

pub returns-clause-each : goal.returns-clause-each
returns-clause-each g c =
    λ order x.
    ap (λ rs. found order x rs) c.put_in.ensures.items
    ∙ (found-added order x c.args.item c.self.inside.items.items c.self.invariant.1 ∙ ap (λ (l : Records g.row.V.Denot). combined (found order x l.records) (found order x (c.args.item ∷ []))) c.self.view_is)

pub returns-clause-spare : goal.returns-clause-spare
returns-clause-spare g c =
    omega (arith, ap length c.put_in.ensures.items, length-added c.args.item c.self.inside.items.items, ap (λ (l : Records g.row.V.Denot). l.spare) c.self.view_is)

pub returns-clause-grows : goal.returns-clause-grows
returns-clause-grows g c =
    omega (arith, ap length c.put_in.ensures.items, length-added c.args.item c.self.inside.items.items, ap (λ (l : Records g.row.V.Denot). length l.records) c.self.view_is)
