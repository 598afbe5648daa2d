-- Plans in form: what is asked by them is in form.
use Rattle.std.specs.Prelude.{⊤}
use Rattle.std.specs.List.{AllByRecursion}
use Rattle.arj_journal.specs.ScriptForm.{HeaderInForm}
use Rattle.arj_prog.specs.declared.plan.Plan.{Plan}
use Rattle.arj_prog.specs.declared.plan.Program.{Program}
use Rattle.arj_prog.specs.Listing.{Listing, End, Do, Print, If, Block, Fail}
use Rattle.arj_text.specs.Fields.{OpTextInForm, ShortInForm, WordInForm}

-- the objects and operations of statements are in form
abbrev pub StatementsInForm : Listing → Type 0
StatementsInForm End = ⊤
StatementsInForm (Do x op rest) = ShortInForm x × OpTextInForm op × StatementsInForm rest
StatementsInForm (Print x op rest) = ShortInForm x × OpTextInForm op × StatementsInForm rest
StatementsInForm (If x op answer first second rest) =
    ShortInForm x × OpTextInForm op × StatementsInForm first × StatementsInForm second × StatementsInForm rest
StatementsInForm (Block retry body rest) = StatementsInForm body × StatementsInForm rest
StatementsInForm (Fail rest) = StatementsInForm rest

-- so are a program's, and its node is a number of 32 bits
abbrev pub ProgramInForm : Program → Type 0
ProgramInForm p = WordInForm p.node × StatementsInForm p.body

-- A plan's header and its programs are in form.
pub record PlanInForm (plan : Plan) : Type 0 where
  pub header : HeaderInForm plan.header
  pub programs : AllByRecursion ProgramInForm plan.programs
