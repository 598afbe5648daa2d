use Rattle.std.proofs.Common.{◌≡◌, ◌∙◌, Some, ap}
use Rattle.std.specs.Prelude.{MatchBool}
use Rattle.std.proofs.lemmas.Result.{IfOk-weaker}
use Rattle.arj_base.specs.State.{StateInForm, state_bytes}
use Rattle.arj_clean.proofs.Held.{none_held}
use Rattle.arj_disk.specs.declared.slot.Role.TheVariants.{Store}
use Rattle.arj_model.specs.Disks.{held}
use Rattle.arj_past.proofs.Pasts.{held_past}
use Rattle.arj_past.specs.Past.{HoldsPast, IsPast}
use Rattle.arj_saved.specs.Saved.{disks_of}
use Rattle.arj_past.proofs.past.does_hold_past.Goals as goal

pub returns-in-None : goal.returns-in-None
returns-in-None c = λ files o saved is are bytes e.
    let shown = c.held.ensures.shown files saved.segments in
    absurd (none_held (held (disks_of files c.args.node) Store c.object_uid.result) bytes (rw c.in-None.is at shown)
    (ap (held (disks_of files c.args.node) Store) c.object_uid.ensures ∙ e))

pub returns-in-Some : goal.returns-in-Some
returns-in-Some c = λ files o saved is are.
    let header = c.args.saved.now.header.now in
    let lines = c.args.saved.now.lines.now in
    let s = c.in-Some.state.now in
    let shown : Some (state_bytes s) ≡ held (disks_of files c.args.node) Store c.object_uid.result = rw c.in-Some.is at (c.held.ensures.shown files saved.segments) in
    let form : StateInForm s = rw c.in-Some.is at (c.held.ensures.in_form files saved.segments) in
    IfOk-weaker c.is_past.result (λ b. MatchBool b (IsPast header lines c.args.x (state_bytes s)) (IsPast header lines c.args.x (state_bytes s) → ⊥))
    (λ b. MatchBool b (HoldsPast header lines (disks_of files c.args.node) c.args.x) (HoldsPast header lines (disks_of files c.args.node) c.args.x → ⊥))
    (λ b test. held_past b header lines (disks_of files c.args.node) c.args.x (state_bytes s) (shown ∙ ap (held (disks_of files c.args.node) Store) c.object_uid.ensures) test)
    (c.is_past.ensures o saved.readable is are form)
