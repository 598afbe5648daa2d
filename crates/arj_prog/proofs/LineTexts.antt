-- Which lines of the programs have no text among those that were tried.
use Rattle.std.proofs.Common.{◌≢◌, ℕ, List, false, None, refl}
use Rattle.std.specs.Prelude.{codes}
use Rattle.std.specs.Fmt.{decimal}
use Rattle.std.proofs.lemmas.Bool.{both_ways}
use Rattle.arj_journal.specs.declared.header.ObjectLine.{ObjectLine}
use Rattle.arj_text.specs.Fields.{IsRead, IsWithin, behind}
use Rattle.arj_prog.specs.declared.said.Said.{Said}
use Rattle.arj_prog.specs.declared.said.Said.TheVariants as said
use Rattle.arj_prog.specs.Lines.{CallInForm, HeadInForm, IsBareSaid, IsCallSaid, SaidInForm, TestInForm, asked_text, head_text, said_text}
use Rattle.arj_prog.specs.Lines.{test_text}

pub no_calling : (os : List ObjectLine) (bytes : List ℕ) → IsRead (CallInForm os) (behind (codes "do ") asked_text) bytes None →
    IsRead (CallInForm os) (behind (codes "print ") asked_text) bytes None →
    IsRead (TestInForm os) (behind (codes "if ") test_text) bytes None → IsRead (IsCallSaid os) said_text bytes None
no_calling os bytes does prints tests = λ s h e. cases s h e
  where
    cases : (s : Said) → IsCallSaid os s → bytes ≢ said_text s
    cases (said.Do x op) h e = does (x, op) h.0 e
    cases (said.Print x op) h e = prints (x, op) h.0 e
    cases (said.If x op answer) h e = tests (x, op, answer) h.0 e
    cases _ h e = both_ways false refl h.1

pub no_said : (os : List ObjectLine) (bytes : List ℕ) → IsRead IsBareSaid said_text bytes None →
    IsRead (IsCallSaid os) said_text bytes None → IsRead (IsWithin 0 9) (behind (codes "block ") decimal) bytes None →
    IsRead HeadInForm (behind (codes "prog ") head_text) bytes None → IsRead (SaidInForm os) said_text bytes None
no_said os bytes bares calls blocks heads = λ s h e. cases s h e
  where
    cases : (s : Said) → SaidInForm os s → bytes ≢ said_text s
    cases (said.Prog label node retry) h e = heads (label, node, retry) h e
    cases (said.Do x op) h e = calls (said.Do x op) (h, refl) e
    cases (said.Print x op) h e = calls (said.Print x op) (h, refl) e
    cases (said.If x op answer) h e = calls (said.If x op answer) (h, refl) e
    cases said.Else h e = bares said.Else refl e
    cases (said.Block retry) h e = blocks retry h e
    cases said.End h e = bares said.End refl e
    cases said.Fail h e = bares said.Fail refl e
    cases said.Run h e = bares said.Run refl e
