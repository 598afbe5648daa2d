use Rattle.std.proofs.Common.{◌≡◌, ◌∙◌, refl, sym, ap, subst, Some, None}
use Rattle.std.specs.Prelude.{option_copied}
use Rattle.arj_disk.specs.Says.{new_of}
use Rattle.arj_segment_file.specs.Format.{states_in}
use Rattle.arj_store.specs.Pair.{Packs}
use Rattle.arj_segment.specs.Says.{place, segments, state_in}
use Rattle.arj_segment.proofs.Held.{held_at}
use Rattle.arj_segment.proofs.refusals.read_held.Goals as goal

pub returns-in_default-2-clause-state : goal.returns-in_default-2-clause-state
returns-in_default-2-clause-state g c =
    let at : place (segments (g.D.Disk.file c.args.disk.now) c.args.role) c.args.uid ≡ Some c.in-Some.number.now =
    sym c.requires ∙ sym c.get.ensures ∙ ap option_copied c.in-Some.is in
    subst (λ o. Packs o None) (sym (held_at (segments (g.D.Disk.file c.args.disk.now) c.args.role) c.args.uid c.in-Some.number.now at ∙ ap (state_in c.args.uid) (sym c.in_ok-bytes.ensures.bytes ∙ c.in_default-2.is))) refl

pub returns-in_default-packed_in-clause-state : goal.returns-in_default-packed_in-clause-state
returns-in_default-packed_in-clause-state g c =
    let at : place (segments (g.D.Disk.file c.args.disk.now) c.args.role) c.args.uid ≡ Some c.in-Some.number.now =
    sym c.requires ∙ sym c.get.ensures ∙ ap option_copied c.in-Some.is in
    subst (λ o. Packs o None) (sym (held_at (segments (g.D.Disk.file c.args.disk.now) c.args.role) c.args.uid c.in-Some.number.now at ∙ ap (state_in c.args.uid) (sym c.in_ok-bytes.ensures.bytes ∙ c.in-Some-2.is)
    ∙ ap (λ bytes. new_of (states_in bytes) c.args.uid) (sym c.as_slice.ensures) ∙ c.in_default-packed_in.ensures)) refl

pub returns-clause-state : goal.returns-clause-state
returns-clause-state g c =
    let at : place (segments (g.D.Disk.file c.args.disk.now) c.args.role) c.args.uid ≡ Some c.in-Some.number.now =
    sym c.requires ∙ sym c.get.ensures ∙ ap option_copied c.in-Some.is in
    subst (λ o. Packs o c.in_ok-state.state) (sym (held_at (segments (g.D.Disk.file c.args.disk.now) c.args.role) c.args.uid c.in-Some.number.now at ∙ ap (state_in c.args.uid) (sym c.in_ok-bytes.ensures.bytes ∙ c.in-Some-2.is)
    ∙ ap (λ bytes. new_of (states_in bytes) c.args.uid) (sym c.as_slice.ensures) ∙ c.in-Some-packed_in.ensures)) c.in_ok-state.ensures
