use Rattle.std.proofs.Common.{◌≡◌, ◌∙◌, Some, sym, subst}
use Rattle.std.specs.Prelude.{MatchBool}
use Rattle.std.proofs.lemmas.Result.{IfOk-weaker}
use Rattle.arj_base.specs.State.{state_bytes}
use Rattle.arj_base.specs.Uid.{entry}
use Rattle.arj_changes.specs.Stores.{IsEntry}
use Rattle.arj_clean.proofs.Held.{doubted_object, object_test, other_entry}
use Rattle.arj_clean.specs.Clean.{IsObjectClean, StoresHoldLast}
use Rattle.arj_disk.specs.declared.slot.Role.TheVariants.{Names}
use Rattle.arj_model.specs.Actions.{acts}
use Rattle.arj_model.specs.Disks.{InDoubt, held}
use Rattle.arj_model.specs.Last.{entry_state}
use Rattle.arj_saved.specs.Saved.{disks_of}
use Rattle.arj_standing.specs.Begun.{AreBegun}
use Rattle.arj_clean.proofs.clean.is_object_clean.Goals as goal

pub returns-then-named : goal.returns-then-named
returns-then-named c = λ files o saved is.
    let doubt : InDoubt (disks_of files 1) Names c.entry_uid.result = rw c.if-named.true at (c.is_named-named.ensures files saved.pendings) in
    doubted_object c.args.saved.now.header.now c.args.saved.now.lines.now (disks_of files) c.args.x (subst (InDoubt (disks_of files 1) Names) c.entry_uid.ensures doubt)

pub returns-then-not-same : goal.returns-then-not-same
returns-then-not-same c = λ files o saved is.
    let header = c.args.saved.now.header.now in
    let lines = c.args.saved.now.lines.now in
    let stands = saved.stands in
    let sure : InDoubt (disks_of files 1) Names c.entry_uid.result → ⊥ = rw c.if-named.false at (c.is_named-named.ensures files saved.pendings) in
    let entry_is : IsEntry header lines c.args.x c.in_ok-entry.entry =
    c.in_ok-entry.ensures lines (subst (AreBegun (acts lines)) (sym c.as_slice.ensures.value) stands.begun) stands.changes in
    let other : held (disks_of files 1) Names (entry c.args.x) ≡ Some (state_bytes (entry_state header lines c.args.x)) → ⊥ =
    rw c.if-not-same.true at (c.is_entry_held-same.ensures files saved entry_is) in
    other_entry header lines (disks_of files) c.args.x (λ d. sure (subst (InDoubt (disks_of files 1) Names) (sym c.entry_uid.ensures) d)) other

pub returns : goal.returns
returns c = λ files o saved is.
    let header = c.args.saved.now.header.now in
    let lines = c.args.saved.now.lines.now in
    let stands = saved.stands in
    let sure : InDoubt (disks_of files 1) Names c.entry_uid.result → ⊥ = rw c.if-named.false at (c.is_named-named.ensures files saved.pendings) in
    let entry_is : IsEntry header lines c.args.x c.in_ok-entry.entry =
    c.in_ok-entry.ensures lines (subst (AreBegun (acts lines)) (sym c.as_slice.ensures.value) stands.begun) stands.changes in
    let same : held (disks_of files 1) Names (entry c.args.x) ≡ Some (state_bytes (entry_state header lines c.args.x)) =
    rw c.if-not-same.false at (c.is_entry_held-same.ensures files saved entry_is) in
    IfOk-weaker c.are_stores_clean.result
    (λ b. MatchBool b (StoresHoldLast header lines (disks_of files) c.args.x c.as_slice-2.result.now) (StoresHoldLast header lines (disks_of files) c.args.x c.as_slice-2.result.now → ⊥))
    (λ b. MatchBool b (IsObjectClean header lines (disks_of files) c.args.x) (IsObjectClean header lines (disks_of files) c.args.x → ⊥))
    (λ b stores. object_test b header lines (disks_of files) c.args.x (λ d. sure (subst (InDoubt (disks_of files 1) Names) (sym c.entry_uid.ensures) d)) same
    (subst (λ ss. MatchBool b (StoresHoldLast header lines (disks_of files) c.args.x ss) (StoresHoldLast header lines (disks_of files) c.args.x ss → ⊥)) (c.as_slice-2.ensures.value ∙ entry_is.stores) stores))
    (c.are_stores_clean.ensures files o saved is)
