use Rattle.std.proofs.Common.{None, cond, ap, sym, ◌∙◌, subst, length, arith}
use Rattle.arj_base.specs.Uid.{uid_eq}
use Rattle.arj_record.specs.Records.{Records, found, IsArranged}
use Rattle.arj_record.proofs.Added.{arranged_forgotten, found-forgotten, length-forgotten}
use Rattle.arj_record.proofs.list.RecordList.forget.Goals as goal

pub invariant_of-self : goal.invariant_of-self
invariant_of-self g c =
    (omega (arith, ap length c.take_out.ensures.items, length-forgotten c.args.object c.self.inside.items.items), subst IsArranged (sym c.take_out.ensures.items) (arranged_forgotten c.args.object c.self.inside.items.items c.self.invariant.1))

pub returns-clause-each : goal.returns-clause-each
returns-clause-each g c =
    λ order x.
    ap (λ rs. found order x rs) c.take_out.ensures.items
    ∙ (found-forgotten order x c.args.object c.self.inside.items.items ∙ ap (λ (l : Records g.row.V.Denot). cond (uid_eq x c.args.object) None (found order x l.records)) c.self.view_is)

pub returns-clause-spare : goal.returns-clause-spare
returns-clause-spare g c =
    omega (arith, ap length c.take_out.ensures.items, length-forgotten c.args.object c.self.inside.items.items, ap (λ (l : Records g.row.V.Denot). l.spare) c.self.view_is)

pub returns-clause-shrinks : goal.returns-clause-shrinks
returns-clause-shrinks g c =
    omega (arith, ap length c.take_out.ensures.items, length-forgotten c.args.object c.self.inside.items.items, ap (λ (l : Records g.row.V.Denot). length l.records) c.self.view_is)
