use Rattle.std.proofs.Common.{◌≡◌, List, ap, ◌∙◌, ◌++◌, ◌∷◌, [], refl, true, false}
use Rattle.arj_base.specs.Path.{uids_of}
use Rattle.arj_protocol.specs.Coord.{Went}
use Rattle.arj_root.specs.Noted.{HasSends}
use Rattle.arj_root.proofs.Noted.{asked_send, send_again, send_new, sends_noted, sends_kept}
use Rattle.arj_root.proofs.sends.Sends.note_other.Goals as goal

pub returns-then-has-clause-noted : goal.returns-then-has-clause-noted
returns-then-has-clause-noted c =
    let w : Went = record { path = uids_of c.args.path.now; node = c.args.node; invoke = false } in
    send_again w c.args.self.now (asked_send c.self.inside.others c.self.inside.went.items c.args.self.now w c.from.result c.last.result c.has.result c.self.view_is c.self.invariant.1 c.from.ensures c.last.ensures c.has.ensures ∙ c.if-has.true)

pub invariant_of-self-2 : goal.invariant_of-self-2
invariant_of-self-2 c =
    let w : Went = record { path = uids_of c.args.path.now; node = c.args.node; invoke = false } in
    let items : c.push_reserved.new.self.items ≡ c.self.inside.went.items ++ w ∷ [] =
    c.push_reserved.ensures.items ∙ (λ i. c.reserve.ensures.items i ++ record { path = c.in_ok-trail.ensures i; node = c.args.node; invoke = false } ∷ []) in
    let own : HasSends false c.add.new.self c.push_reserved.new.self.items =
    sends_noted c.self.inside.others c.add.new.self c.self.inside.went.items c.push_reserved.new.self.items w c.from-2.result c.self.invariant.1 c.from-2.ensures c.in_ok-add.ensures.added items in
    let kept : HasSends true c.self.inside.invokes c.push_reserved.new.self.items =
    sends_kept true c.self.inside.invokes c.self.inside.went.items c.push_reserved.new.self.items w refl c.self.invariant.0 items in
    (kept, own)

pub returns-clause-noted : goal.returns-clause-noted
returns-clause-noted c =
    let w : Went = record { path = uids_of c.args.path.now; node = c.args.node; invoke = false } in
    send_new w c.self.inside.went.items c.args.self.now c.push_reserved.new.self.items
    (asked_send c.self.inside.others c.self.inside.went.items c.args.self.now w c.from.result c.last.result c.has.result c.self.view_is c.self.invariant.1 c.from.ensures c.last.ensures c.has.ensures ∙ c.if-has.false)
    c.self.view_is (c.push_reserved.ensures.items ∙ (λ i. c.reserve.ensures.items i ++ record { path = c.in_ok-trail.ensures i; node = c.args.node; invoke = false } ∷ []))
