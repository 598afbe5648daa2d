use Rattle.std.proofs.Common.{◌∙◌, ◌==◌, length, sym, ap, subst}
use Rattle.arj_naming.specs.Entries.{IsOnce}
use Rattle.arj_naming.proofs.Confirms.{answered, ready, not_none, none_left}
use Rattle.arj_naming.proofs.Marked.{entries_once, wanted_once}
use Rattle.arj_protocol.specs.Confirm.{wanted, confirms}
use Rattle.arj_naming.proofs.memory.Memory.confirm_new.Goals as goal

pub lock_all-requires-clause-once : goal.lock_all-requires-clause-once
lock_all-requires-clause-once c =
    subst IsOnce (sym (c.as_slice-5.ensures.value ∙ (c.in_ok-wanted.ensures ∙ (λ i. wanted c.args.top (c.as_slice.ensures i) (c.as_slice-2.ensures i) c.args.self.now.entries))))
    (wanted_once c.args.top c.args.m.now.excluded c.args.m.now.included c.args.self.now.entries c.args.m.now.objects c.requires.single.once)

pub returns-then-is_empty-clause-ready : goal.returns-then-is_empty-clause-ready
returns-then-is_empty-clause-ready c =
    let m = c.args.m.now in
    let xs_are = c.as_slice-5.ensures.value ∙ (c.in_ok-wanted.ensures ∙ (λ i. wanted c.args.top (c.as_slice.ensures i) (c.as_slice-2.ensures i) c.args.self.now.entries)) in
    answered m.head.path c.args.top m.objects m.excluded m.included c.args.self.now.entries c.args.self.now.part c.requires.top c.as_slice-5.result.now xs_are c.args.states c.requires.states (sym c.refused.ensures ∙ c.in_default.is)
    c.lock_all.new.out c.args.out.now c.confirm.new.self (none_left c.args.states (sym (c.is_empty.ensures ∙ ap (λ ss. length ss == 0) c.as_slice-6.ensures) ∙ c.if-is_empty.true))
    (c.in_ok-confirm.ensures ∙ ap (confirms c.args.top) c.in_ok-lock_all.ensures.part) c.in_ok-lock_all.ensures.lines

pub returns-clause-ready : goal.returns-clause-ready
returns-clause-ready c =
    let m = c.args.m.now in
    let xs_are = c.as_slice-5.ensures.value ∙ (c.in_ok-wanted.ensures ∙ (λ i. wanted c.args.top (c.as_slice.ensures i) (c.as_slice-2.ensures i) c.args.self.now.entries)) in
    ready m.head.path c.args.top m.objects m.excluded m.included c.args.self.now.entries c.args.self.now.part c.requires.top c.as_slice-5.result.now xs_are c.args.states c.requires.states (sym c.refused.ensures ∙ c.in_default.is)
    c.args.out.now c.lock_all.new.out c.lock_all.new.self (not_none c.args.states (sym (c.is_empty.ensures ∙ ap (λ ss. length ss == 0) c.as_slice-6.ensures) ∙ c.if-is_empty.false))
    c.requires.first c.requires.new (entries_once c.args.top m.excluded m.included c.args.self.now.entries m.objects c.requires.single.once) c.requires.single.few c.in_ok-lock_all.ensures.part c.in_ok-lock_all.ensures.lines
