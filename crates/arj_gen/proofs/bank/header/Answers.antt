-- the header of the bank is in form
use Rattle.std.proofs.Common.{subst, sym}
use Rattle.arj_base.specs.declared.state.Format.TheVariants as format
use Rattle.arj_journal.specs.ScriptForm.{HeaderInForm}
use Rattle.arj_gen.specs.Bank.{bank_header}
use Rattle.arj_gen.proofs.Counts.{bank_fits}
use Rattle.arj_gen.proofs.bank.header.Goals as goal

pub returns-clause-form : goal.returns-clause-form
returns-clause-form c = subst (λ os. HeaderInForm (record { nodes = 5; objects = os; format = format.Two })) (sym c.in_ok-objects.ensures) bank_fits
