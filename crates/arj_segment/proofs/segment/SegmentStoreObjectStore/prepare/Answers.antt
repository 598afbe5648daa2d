use Rattle.std.proofs.Common.{◌≡◌, ◌⊎◌, ◌≤◌, ◌∙◌, length, map, sym, subst, inr, None}
use Rattle.std.specs.Prelude.{Contains}
use Rattle.std.specs.List.{AllByRecursion}
use Rattle.arj_base.specs.State.{state_bytes}
use Rattle.arj_base.specs.declared.limits.TheConstants.{MOST_BYTES}
use Rattle.arj_disk.specs.Formed.{AtMost}
use Rattle.arj_disk.specs.Says.{OnlyOfRole}
use Rattle.arj_disk.specs.declared.limits.TheConstants.{MOST_KNOWN, MOST_PREPARED}
use Rattle.arj_store.proofs.Ends.{on_err}
use Rattle.arj_store.proofs.Prepares.{none_kept}
use Rattle.arj_store.proofs.Refusals.{clear_all}
use Rattle.arj_store.specs.Pair.{Adds, AreDistinct, InDoubt, IsClear, IsKnown, IsRefused, uid_of}
use Rattle.arj_store.specs.Table.{at}
use Rattle.arj_segment.specs.Formed.{IsFormed}
use Rattle.arj_segment.specs.Kept.{Keeps}
use Rattle.arj_segment.specs.Says.{pair_of, pend}
use Rattle.arj_segment.proofs.Ended.{no_action}
use Rattle.arj_segment.proofs.Prepped.{all_free, answers_refusal, fault_on}
use Rattle.arj_segment.proofs.segment.SegmentStoreObjectStore.prepare.Goals as goal

pub refusal-requires-clause-sizes : goal.refusal-requires-clause-sizes
refusal-requires-clause-sizes g c =
    subst (AllByRecursion (λ s. length (state_bytes s) ≤ MOST_BYTES)) (sym c.as_slice-states.ensures) c.requires.sizes

pub returns-in-Some-clause-answer : goal.returns-in-Some-clause-answer
returns-in-Some-clause-answer g c =
    let first : pend (g.D.Disk.file c.args.disk.now) c.args.self.now.role c.args.act ≡ None =
    no_action (g.D.Disk.file c.args.disk.now) c.args.self.now.role (at c.args.self.now.kept.actions) (at c.args.self.now.kept.holdings) c.requires.keeps.pending c.args.act (none_kept c.get.result (at c.args.self.now.kept.actions c.args.act) c.get.ensures (sym c.is_some.ensures ∙ c.if-is_some.false)) in
    let refused : IsRefused (pair_of (g.D.Disk.file c.args.disk.now) c.args.self.now.role) c.args.act c.args.states.now c.in-Some.refusal =
    subst (λ ss. IsRefused (pair_of (g.D.Disk.file c.args.disk.now) c.args.self.now.role) c.args.act ss c.in-Some.refusal) c.as_slice-states.ensures (rw c.in-Some.is at c.in_ok-refusal.ensures.answer) in
    answers_refusal c.args.self.now.role (g.D.Disk.file c.args.disk.now) (g.D.Disk.file c.refusal.new.disk) c.args.act c.args.states.now c.in-Some.refusal first refused c.refusal.ensures.files

pub returns-in-Some-clause-clear : goal.returns-in-Some-clause-clear
returns-in-Some-clause-clear g c none clear =
    let refused : IsRefused (pair_of (g.D.Disk.file c.args.disk.now) c.args.self.now.role) c.args.act c.args.states.now c.in-Some.refusal =
    subst (λ ss. IsRefused (pair_of (g.D.Disk.file c.args.disk.now) c.args.self.now.role) c.args.act ss c.in-Some.refusal) c.as_slice-states.ensures (rw c.in-Some.is at c.in_ok-refusal.ensures.answer) in
    absurd (clear_all (pair_of (g.D.Disk.file c.args.disk.now) c.args.self.now.role) c.args.act c.args.states.now c.in-Some.refusal clear refused)

pub returns-in-Some-clause-keeps : goal.returns-in-Some-clause-keeps
returns-in-Some-clause-keeps g c =
    subst (λ f. Keeps c.args.self.now.role c.args.self.now.kept f) (sym c.refusal.ensures.files) c.requires.keeps

pub returns-in-Some-clause-formed : goal.returns-in-Some-clause-formed
returns-in-Some-clause-formed g c = subst (λ f. IsFormed f c.args.self.now.role) (sym c.refusal.ensures.files) c.requires.formed

pub returns-in_err-refusal-clause-formed : goal.returns-in_err-refusal-clause-formed
returns-in_err-refusal-clause-formed g c = subst (λ f. IsFormed f c.args.self.now.role) (sym c.refusal.ensures.files) c.requires.formed

pub put_pending-requires-clause-formed : goal.put_pending-requires-clause-formed
put_pending-requires-clause-formed g c = subst (λ f. IsFormed f c.args.self.now.role) (sym c.refusal.ensures.files) c.requires.formed

pub put_pending-requires-clause-keeps : goal.put_pending-requires-clause-keeps
put_pending-requires-clause-keeps g c =
    subst (λ f. Keeps c.args.self.now.role c.args.self.now.kept f) (sym c.refusal.ensures.files) c.requires.keeps

pub put_pending-requires-clause-first : goal.put_pending-requires-clause-first
put_pending-requires-clause-first g c =
    let first : pend (g.D.Disk.file c.args.disk.now) c.args.self.now.role c.args.act ≡ None =
    no_action (g.D.Disk.file c.args.disk.now) c.args.self.now.role (at c.args.self.now.kept.actions) (at c.args.self.now.kept.holdings) c.requires.keeps.pending c.args.act (none_kept c.get.result (at c.args.self.now.kept.actions c.args.act) c.get.ensures (sym c.is_some.ensures ∙ c.if-is_some.false)) in
    subst (λ f. pend f c.args.self.now.role c.args.act ≡ None) (sym c.refusal.ensures.files) first

pub put_pending-requires-clause-free : goal.put_pending-requires-clause-free
put_pending-requires-clause-free g c =
    let clear : AllByRecursion (IsClear (pair_of (g.D.Disk.file c.args.disk.now) c.args.self.now.role) c.args.act) c.args.states.now =
    subst (AllByRecursion (IsClear (pair_of (g.D.Disk.file c.args.disk.now) c.args.self.now.role) c.args.act)) c.as_slice-states.ensures (rw c.in_default.is at c.in_ok-refusal.ensures.answer) in
    subst (λ f. AllByRecursion (λ s. InDoubt (pair_of f c.args.self.now.role) s.uid →
    ⊥) c.as_slice-states.result.now) (sym c.refusal.ensures.files)
    (subst (AllByRecursion (λ s. InDoubt (pair_of (g.D.Disk.file c.args.disk.now) c.args.self.now.role) s.uid →
    ⊥)) (sym c.as_slice-states.ensures) (all_free (pair_of (g.D.Disk.file c.args.disk.now) c.args.self.now.role) c.args.act c.args.states.now clear))

pub put_pending-requires-clause-states : goal.put_pending-requires-clause-states
put_pending-requires-clause-states g c = subst (AreDistinct c.args.self.now.role) (sym c.as_slice-states.ensures) c.requires.states

pub put_pending-requires-clause-count : goal.put_pending-requires-clause-count
put_pending-requires-clause-count g c = subst (λ ss. length ss ≤ MOST_PREPARED) (sym c.as_slice-states.ensures) c.requires.count

pub put_pending-requires-clause-sizes : goal.put_pending-requires-clause-sizes
put_pending-requires-clause-sizes g c =
    subst (AllByRecursion (λ s. length (state_bytes s) ≤ MOST_BYTES)) (sym c.as_slice-states.ensures) c.requires.sizes

pub put_pending-requires-clause-few : goal.put_pending-requires-clause-few
put_pending-requires-clause-few g c =
    subst (λ f. AtMost MOST_KNOWN (λ u. IsKnown (pair_of f c.args.self.now.role) u ⊎ Contains (map uid_of c.as_slice-states.result.now) u)) (sym c.refusal.ensures.files)
    (subst (λ ss. AtMost MOST_KNOWN (λ u. IsKnown (pair_of (g.D.Disk.file c.args.disk.now) c.args.self.now.role) u ⊎ Contains (map uid_of ss) u)) (sym c.as_slice-states.ensures) c.requires.few)

pub returns-in_err-put_pending-clause-fault : goal.returns-in_err-put_pending-clause-fault
returns-in_err-put_pending-clause-fault g c =
    let first : pend (g.D.Disk.file c.args.disk.now) c.args.self.now.role c.args.act ≡ None =
    no_action (g.D.Disk.file c.args.disk.now) c.args.self.now.role (at c.args.self.now.kept.actions) (at c.args.self.now.kept.holdings) c.requires.keeps.pending c.args.act (none_kept c.get.result (at c.args.self.now.kept.actions c.args.act) c.get.ensures (sym c.is_some.ensures ∙ c.if-is_some.false)) in
    let clear : AllByRecursion (IsClear (pair_of (g.D.Disk.file c.args.disk.now) c.args.self.now.role) c.args.act) c.args.states.now =
    subst (AllByRecursion (IsClear (pair_of (g.D.Disk.file c.args.disk.now) c.args.self.now.role) c.args.act)) c.as_slice-states.ensures (rw c.in_default.is at c.in_ok-refusal.ensures.answer) in
    on_err _ (fault_on c.args.self.now.role (g.D.Disk.file c.args.disk.now) (g.D.Disk.file c.refusal.new.disk) (g.D.Disk.file c.put_pending.new.disk) c.args.act c.args.states.now c.as_slice-states.result.now first clear c.as_slice-states.ensures c.refusal.ensures.files c.in_err-put_pending.ensures.fault)

pub returns-in_err-put_pending-clause-others : goal.returns-in_err-put_pending-clause-others
returns-in_err-put_pending-clause-others g c =
    subst (λ f. OnlyOfRole c.args.self.now.role f (g.D.Disk.file c.put_pending.new.disk)) c.refusal.ensures.files c.put_pending.ensures.others

pub returns-clause-answer : goal.returns-clause-answer
returns-clause-answer g c =
    let first : pend (g.D.Disk.file c.args.disk.now) c.args.self.now.role c.args.act ≡ None =
    no_action (g.D.Disk.file c.args.disk.now) c.args.self.now.role (at c.args.self.now.kept.actions) (at c.args.self.now.kept.holdings) c.requires.keeps.pending c.args.act (none_kept c.get.result (at c.args.self.now.kept.actions c.args.act) c.get.ensures (sym c.is_some.ensures ∙ c.if-is_some.false)) in
    let clear : AllByRecursion (IsClear (pair_of (g.D.Disk.file c.args.disk.now) c.args.self.now.role) c.args.act) c.args.states.now =
    subst (AllByRecursion (IsClear (pair_of (g.D.Disk.file c.args.disk.now) c.args.self.now.role) c.args.act)) c.as_slice-states.ensures (rw c.in_default.is at c.in_ok-refusal.ensures.answer) in
    inr (record {
      first = first;
      clear = clear;
      adds =
          (subst (λ f. Adds (pair_of f c.args.self.now.role) (pair_of (g.D.Disk.file c.put_pending.new.disk) c.args.self.now.role) c.args.act c.args.states.now) c.refusal.ensures.files (subst (λ ss. Adds (pair_of (g.D.Disk.file c.refusal.new.disk) c.args.self.now.role) (pair_of (g.D.Disk.file c.put_pending.new.disk) c.args.self.now.role) c.args.act ss) c.as_slice-states.ensures c.in_ok-put_pending.ensures.added));
    })

pub returns-clause-others : goal.returns-clause-others
returns-clause-others g c =
    subst (λ f. OnlyOfRole c.args.self.now.role f (g.D.Disk.file c.put_pending.new.disk)) c.refusal.ensures.files c.put_pending.ensures.others
