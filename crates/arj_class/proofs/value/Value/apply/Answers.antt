use Rattle.std.proofs.Common.{◌≡◌, ◌↔◌, None, IsErrOf, subst}
use Rattle.arj_class.specs.declared.op.ApplyFault.TheVariants.{WrongOp}
use Rattle.arj_class.specs.Table.{own_class}
use Rattle.arj_class.proofs.Keeping.{class_mode_is}
use Rattle.arj_class.proofs.value.Value.apply.Goals as goal

pub returns-in_default-clause-wrong_op : goal.returns-in_default-clause-wrong_op
returns-in_default-clause-wrong_op c =
    let mode = class_mode_is (own_class c.args.self.now) c.args.op.now c.in_default.not-Create c.in_default.not-Destroy in
    subst (λ mode. IsErrOf c.apply_there.result WrongOp ↔ (mode ≡ None)) mode c.apply_there.ensures.wrong_op
