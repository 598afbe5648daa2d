use Rattle.std.proofs.Common.{sym, subst}
use Rattle.std.specs.Prelude.{MatchBool}
use Rattle.std.proofs.lemmas.Result.{IfOk-weaker}
use Rattle.arj_audit.proofs.Calms.{calm_test}
use Rattle.arj_audit.specs.Calm.{IsCalm, IsStopped, IsTrue}
use Rattle.arj_clean.specs.Clean.{AreClean}
use Rattle.arj_reading.specs.Reading.{HasRead}
use Rattle.arj_saved.specs.Saved.{disks_of}
use Rattle.arj_audit.proofs.calm.is_calm.Goals as goal

pub returns-then-not-clean : goal.returns-then-not-clean
returns-then-not-clean c = λ saved header lines has clean calm.
    let no : AreClean c.args.image.now.header c.args.image.now.journal (disks_of c.args.image.now.files) → ⊥ = rw c.if-not-clean.true at clean in no calm.clean

pub returns-then-not-stopped : goal.returns-then-not-stopped
returns-then-not-stopped c = λ saved header lines has clean calm.
    let no : IsStopped c.args.image.now → ⊥ = rw c.if-not-stopped.true at (c.in_ok-stopped.ensures saved header lines) in no calm.stopped

pub returns : goal.returns
returns c = λ saved header lines has clean.
    let image = c.args.image.now in
    let disks = disks_of image.files in
    let are : AreClean image.header image.journal disks = rw c.if-not-clean.false at clean in
    let stopped : IsStopped image = rw c.if-not-stopped.false at (c.in_ok-stopped.ensures saved header lines) in
    IfOk-weaker c.is_true.result (λ b. MatchBool b (IsTrue c.args.saved.now.header.now c.args.saved.now.lines.now disks) (IsTrue c.args.saved.now.header.now c.args.saved.now.lines.now disks → ⊥))
    (λ b. MatchBool b (IsCalm image) (IsCalm image → ⊥))
    (λ b truth. calm_test b image stopped are (subst (λ h. MatchBool b (IsTrue h image.journal disks) (IsTrue h image.journal disks → ⊥)) header
    (subst (λ ls. MatchBool b (IsTrue c.args.saved.now.header.now ls disks) (IsTrue c.args.saved.now.header.now ls disks → ⊥)) lines truth)))
    (c.is_true.ensures image.files saved (subst (λ ls. HasRead ls c.args.reading.now) (sym lines) has))
