use Rattle.std.proofs.Common.{◌≡◌, ◌≢◌, ◌∙◌, Some, ap, sym, subst}
use Rattle.std.specs.Prelude.{MatchBool}
use Rattle.std.proofs.lemmas.Result.{IfOk-weaker}
use Rattle.arj_base.specs.State.{StateInForm, state_bytes}
use Rattle.arj_base.specs.Uid.{object}
use Rattle.arj_clean.proofs.Held.{doubted_store, held_test, holds_test, none_held}
use Rattle.arj_clean.specs.Clean.{HoldsLast}
use Rattle.arj_clean.specs.States.{state_with}
use Rattle.arj_disk.specs.declared.slot.Role.TheVariants.{Store}
use Rattle.arj_model.specs.Disks.{InDoubt, held}
use Rattle.arj_model.specs.Last.{last_state}
use Rattle.arj_saved.specs.Saved.{disks_of}
use Rattle.arj_clean.proofs.clean.is_store_clean.Goals as goal

pub returns-then-named : goal.returns-then-named
returns-then-named c = λ files saved last.
    let doubt : InDoubt (disks_of files c.args.store) Store c.object_uid.result = rw c.if-named.true at (c.is_named-named.ensures files saved.pendings) in
    doubted_store c.args.saved.now.header.now c.args.saved.now.lines.now (disks_of files) c.args.x c.args.store (subst (InDoubt (disks_of files c.args.store) Store) c.object_uid.ensures doubt)

pub returns-in-None : goal.returns-in-None
returns-in-None c = λ files saved last h.
    let sure : InDoubt (disks_of files c.args.store) Store c.object_uid.result → ⊥ = rw c.if-named.false at (c.is_named-named.ensures files saved.pendings) in
    let shown = c.held.ensures.shown files saved.segments in
    none_held (held (disks_of files c.args.store) Store (object c.args.x)) (state_bytes (last_state c.args.saved.now.header.now c.args.saved.now.lines.now c.args.x))
    (rw c.in-None.is at shown ∙ ap (held (disks_of files c.args.store) Store) c.object_uid-2.ensures)
    (h (λ d. sure (subst (InDoubt (disks_of files c.args.store) Store) (sym c.object_uid.ensures) d)))

pub returns-in-Some : goal.returns-in-Some
returns-in-Some c = λ files saved last.
    let header = c.args.saved.now.header.now in
    let lines = c.args.saved.now.lines.now in
    let s = c.in-Some.state.now in
    let w = state_with header.format c.args.x c.args.last.now.value c.args.last.now.version c.args.last.now.writer in
    let sure : InDoubt (disks_of files c.args.store) Store c.object_uid.result → ⊥ = rw c.if-named.false at (c.is_named-named.ensures files saved.pendings) in
    let shown : Some (state_bytes s) ≡ held (disks_of files c.args.store) Store c.object_uid-2.result = rw c.in-Some.is at (c.held.ensures.shown files saved.segments) in
    let form : StateInForm s = rw c.in-Some.is at (c.held.ensures.in_form files saved.segments) in
    let same : w ≡ last_state header lines c.args.x = λ i. state_with header.format c.args.x (last.value i) (last.version i) (last.writer i) in
    IfOk-weaker c.is_state.result (λ is. MatchBool is (state_bytes s ≡ state_bytes w) (state_bytes s ≢ state_bytes w))
    (λ is. MatchBool is (HoldsLast header lines (disks_of files) c.args.x c.args.store) (HoldsLast header lines (disks_of files) c.args.x c.args.store → ⊥))
    (λ is test. holds_test is header lines (disks_of files) c.args.x c.args.store (λ d. sure (subst (InDoubt (disks_of files c.args.store) Store) (sym c.object_uid.ensures) d))
    (held_test is (state_bytes s) (state_bytes (last_state header lines c.args.x)) (held (disks_of files c.args.store) Store (object c.args.x))
    (shown ∙ ap (held (disks_of files c.args.store) Store) c.object_uid-2.ensures)
    (subst (λ v. MatchBool is (state_bytes s ≡ state_bytes v) (state_bytes s ≢ state_bytes v)) same test)))
    (c.is_state.ensures form)
