use Rattle.std.proofs.Common.{◌≡◌, ◌∙◌, [], sym}
use Rattle.std.specs.Prelude.{option_map}
use Rattle.arj_naming.proofs.Pendings.{either_none, put_more}
use Rattle.arj_naming.specs.Back.{prepared_as, prepared_in}
use Rattle.arj_protocol.specs.Confirm.{pending_of}
use Rattle.arj_protocol.specs.Effect.{either}
use Rattle.arj_protocol.specs.Order.{at_uid}
use Rattle.arj_naming.proofs.entries.Entries.pending.Goals as goal

pub loop-action-preserved : goal.loop-action-preserved
loop-action-preserved c = λ u.
    let act = c.in-Some.action.now in
    let states = c.in-Some.states.now in
    let next = c.next.new.self in
    let old = at_uid u c.loop-action.pending.entries in
    put_more act states next u old (at_uid u c.put_states.new.pending.entries) (option_map prepared_as (pending_of u c.args.self.now.pend))
    (c.in_ok-put_states.ensures u ∙ (λ i. either old (prepared_in act (c.as_slice.ensures i) u)))
    ((λ i. either old (option_map prepared_as (pending_of u (sym c.in-Some.ensures.steps i)))) ∙ c.loop-action.invariant u)

pub returns : goal.returns
returns c = λ u.
    let old = at_uid u c.loop-action.pending.entries in
    let none : c.loop-action.action-iterator ≡ [] = c.in-None.ensures.steps.0 in
    sym (either_none old) ∙ ((λ i. either old (option_map prepared_as (pending_of u (sym none i)))) ∙ c.loop-action.invariant u)
