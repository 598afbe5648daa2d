use Rattle.std.proofs.Common.{◌≡◌, ◌∙◌, Some, ap}
use Rattle.arj_base.specs.State.{StateInForm, state_bytes}
use Rattle.arj_base.specs.Uid.{entry}
use Rattle.arj_clean.proofs.Held.{held_test, none_held}
use Rattle.arj_disk.specs.declared.slot.Role.TheVariants.{Names}
use Rattle.arj_model.specs.Disks.{held}
use Rattle.arj_model.specs.Last.{entry_state}
use Rattle.arj_saved.specs.Saved.{disks_of}
use Rattle.arj_clean.proofs.clean.is_entry_held.Goals as goal

pub returns-in-None : goal.returns-in-None
returns-in-None c = λ files saved is.
    none_held (held (disks_of files 1) Names (entry c.args.x)) (state_bytes (entry_state c.args.saved.now.header.now c.args.saved.now.lines.now c.args.x))
    (rw c.in-None.is at (c.held.ensures.shown files saved.segments) ∙ ap (held (disks_of files 1) Names) c.entry_uid.ensures)

pub returns-in-Some : goal.returns-in-Some
returns-in-Some c = λ files saved is.
    let s = c.in-Some.state.now in
    let shown : Some (state_bytes s) ≡ held (disks_of files 1) Names c.entry_uid.result = rw c.in-Some.is at (c.held.ensures.shown files saved.segments) in
    let form : StateInForm s = rw c.in-Some.is at (c.held.ensures.in_form files saved.segments) in
    held_test c.is_entry.result (state_bytes s) (state_bytes (entry_state c.args.saved.now.header.now c.args.saved.now.lines.now c.args.x)) (held (disks_of files 1) Names (entry c.args.x))
    (shown ∙ ap (held (disks_of files 1) Names) c.entry_uid.ensures) (c.is_entry.ensures c.args.saved.now.lines.now is form)
