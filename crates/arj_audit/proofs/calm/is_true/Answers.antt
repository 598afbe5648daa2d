use Rattle.std.specs.Prelude.{MatchBool}
use Rattle.std.proofs.lemmas.Result.{IfOk-weaker}
use Rattle.arj_audit.proofs.Calms.{true_test}
use Rattle.arj_audit.specs.Calm.{IsTrue}
use Rattle.arj_book.specs.Order.{KeepsOrder}
use Rattle.arj_model.specs.Last.{first_values}
use Rattle.arj_past.specs.Past.{HoldPast}
use Rattle.arj_saved.specs.Saved.{disks_of}
use Rattle.arj_audit.proofs.calm.is_true.Goals as goal

pub returns-then-not-ordered : goal.returns-then-not-ordered
returns-then-not-ordered c = λ files saved has t.
    let no : KeepsOrder (first_values c.args.saved.now.header.now) c.args.saved.now.lines.now → ⊥ = rw c.if-not-ordered.true at (c.in_ok-ordered.ensures saved.readable has) in no t.book

pub returns : goal.returns
returns c = λ files saved has.
    let header = c.args.saved.now.header.now in
    let lines = c.args.saved.now.lines.now in
    let book : KeepsOrder (first_values header) lines = rw c.if-not-ordered.false at (c.in_ok-ordered.ensures saved.readable has) in
    IfOk-weaker c.do_hold_past.result (λ b. MatchBool b (HoldPast header lines (disks_of files)) (HoldPast header lines (disks_of files) → ⊥))
    (λ b. MatchBool b (IsTrue header lines (disks_of files)) (IsTrue header lines (disks_of files) → ⊥)) (λ b past. true_test b header lines (disks_of files) book past)
    (c.do_hold_past.ensures files saved)
