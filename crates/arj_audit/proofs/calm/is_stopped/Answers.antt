use Rattle.std.proofs.Common.{◌≡◌, ◌∙◌, ap, sym, subst, true}
use Rattle.std.specs.Prelude.{MatchBool}
use Rattle.std.proofs.lemmas.Result.{IfOk-weaker}
use Rattle.arj_audit.proofs.Calms.{stopped_test}
use Rattle.arj_audit.specs.Calm.{IsStopped}
use Rattle.arj_disk.specs.declared.slot.Role.TheVariants.{Names}
use Rattle.arj_law.proofs.Common.{never}
use Rattle.arj_past.specs.Past.{IsOfHeader}
use Rattle.arj_rest.specs.Nodes.{NodesFit, are_listed}
use Rattle.arj_saved.specs.Files.{are_in_place}
use Rattle.arj_saved.specs.Saved.{disks_of}
use Rattle.arj_audit.proofs.calm.is_stopped.Goals as goal

pub returns-then-not-fit : goal.returns-then-not-fit
returns-then-not-fit c = λ saved header lines s.
    let no : NodesFit c.args.image.now → ⊥ = rw c.if-not-fit.true at c.do_nodes_fit-fit.ensures in no s.nodes

pub returns-then-not-in_place : goal.returns-then-not-in_place
returns-then-not-in_place c = λ saved header lines s.
    never (are_in_place c.args.image.now.files) s.files (sym (sym c.if-not-in_place.true ∙ c.in_ok-in_place.ensures ∙ ap are_in_place c.as_slice.ensures))

pub returns-then-not-entries : goal.returns-then-not-entries
returns-then-not-entries c = λ saved header lines s.
    let image = c.args.image.now in
    let no : IsOfHeader c.as_slice-2.result.now (disks_of image.files 1) Names → ⊥ = rw c.if-not-entries.true at (c.is_of_header-entries.ensures image.files saved.segments) in
    no (subst (λ os. IsOfHeader os (disks_of image.files 1) Names) (sym (c.as_slice-2.ensures ∙ ap (λ h. h.objects) header)) s.entries)

pub returns : goal.returns
returns c = λ saved header lines.
    let image = c.args.image.now in
    let nodes : NodesFit image = rw c.if-not-fit.false at c.do_nodes_fit-fit.ensures in
    let files : are_in_place image.files ≡ true = sym (sym c.if-not-in_place.false ∙ c.in_ok-in_place.ensures ∙ ap are_in_place c.as_slice.ensures) in
    let held : IsOfHeader c.as_slice-2.result.now (disks_of image.files 1) Names = rw c.if-not-entries.false at (c.is_of_header-entries.ensures image.files saved.segments) in
    let entries = subst (λ os. IsOfHeader os (disks_of image.files 1) Names) (c.as_slice-2.ensures ∙ ap (λ h. h.objects) header) held in
    IfOk-weaker c.are_listed.result (λ b. b ≡ are_listed c.args.saved.now.header.now c.args.saved.now.lines.now) (λ b. MatchBool b (IsStopped image) (IsStopped image → ⊥))
    (λ b is. stopped_test b image nodes files entries (is ∙ (λ i. are_listed (header i) (lines i))))
    (c.are_listed.ensures image.files saved)
