use Rattle.std.proofs.Common.{List, ap, ◌∙◌, ◌++◌, ◌∷◌, []}
use Rattle.arj_base.specs.Path.{uids_of}
use Rattle.arj_protocol.specs.Coord.{Said}
use Rattle.arj_root.proofs.Noted.{asked_call, call_again, call_new, calls_noted}
use Rattle.arj_root.proofs.calls.Calls.note.Goals as goal

pub returns-then-has-clause-noted : goal.returns-then-has-clause-noted
returns-then-has-clause-noted c =
    let s : Said = record { path = uids_of c.args.path.now; x = c.args.x } in
    call_again s c.args.self.now (asked_call c.self.inside.by_object c.self.inside.said.items c.args.self.now s c.last.result c.has.result c.self.view_is c.self.invariant c.last.ensures c.has.ensures ∙ c.if-has.true)

pub invariant_of-self-2 : goal.invariant_of-self-2
invariant_of-self-2 c =
    let s : Said = record { path = uids_of c.args.path.now; x = c.args.x } in
    calls_noted c.self.inside.by_object c.add.new.self c.self.inside.said.items c.push_reserved.new.self.items s c.self.invariant c.in_ok-add.ensures.added
    (c.push_reserved.ensures.items ∙ (λ i. c.reserve.ensures.items i ++ record { path = c.in_ok-trail.ensures i; x = c.args.x } ∷ []))

pub returns-clause-noted : goal.returns-clause-noted
returns-clause-noted c =
    let s : Said = record { path = uids_of c.args.path.now; x = c.args.x } in
    call_new s c.self.inside.said.items c.args.self.now c.push_reserved.new.self.items
    (asked_call c.self.inside.by_object c.self.inside.said.items c.args.self.now s c.last.result c.has.result c.self.view_is c.self.invariant c.last.ensures c.has.ensures ∙ c.if-has.false)
    c.self.view_is (c.push_reserved.ensures.items ∙ (λ i. c.reserve.ensures.items i ++ record { path = c.in_ok-trail.ensures i; x = c.args.x } ∷ []))
