-- feed after feed
use Rattle.std.proofs.Common.{◌++◌, ◌∙◌, arith, ap, append_assoc, length, length-append, sym, subst, take}
use Rattle.std.proofs.lemmas.Bool.{eqb-true}
use Rattle.arj_script.specs.Input.{AtRunEnd}
use Rattle.arj_loop.specs.Input.{arrived}
use Rattle.arj_loop.specs.Running.{HasEnded, IsGoing, work}
use Rattle.arj_loop.proofs.Sessions.{ended_lines_more, piece_more, piece_whole}
use Rattle.arj_loop.proofs.session.Session.piece.Goals as goal

pub feed-requires-clause-going : goal.feed-requires-clause-going
feed-requires-clause-going g c =
    let r = c.requires.going in
    let i = c.loop-rest.invariant.taken in
    (r.0, r.1, r.2 ++ i.0, i.2 r.0 r.1 r.2 r.3)

pub loop-rest-preserved : goal.loop-rest-preserved
loop-rest-preserved g c =
    let i = c.loop-rest.invariant.taken in
    let rest = c.loop-rest.rest.now in
    record {
      taken = (
        i.0 ++ take c.in-Ok.count rest,
        piece_more c.args.piece.now i.0 rest c.in-Ok.count i.1,
        λ first before used going. subst (λ bs. IsGoing g.M.Machine first before bs (work c.feed.new.rack c.feed.new.self c.feed.new.journal (g.K.Sink.taken c.feed.new.sink))) (append_assoc used i.0 (take c.in-Ok.count rest))
            (c.in-Ok.ensures.went first before (used ++ i.0) (i.2 first before used going)),
      );
      steady = c.in-Ok.ensures.steady ∙ c.loop-rest.invariant.steady;
    }

pub returns-in-Err-clause-ended : goal.returns-in-Err-clause-ended
returns-in-Err-clause-ended g c first before used earlier going few no_more =
    let i = c.loop-rest.invariant.taken in
    let rest = c.loop-rest.rest.now in
    subst (λ bs. HasEnded g.M.Machine first before (arrived bs earlier AtRunEnd) (work c.feed.new.rack c.feed.new.self c.feed.new.journal (g.K.Sink.taken c.feed.new.sink)) c.in-Err.end) (append_assoc used i.0 rest ∙ ap (λ bs. used ++ bs) (sym i.1))
    (c.in-Err.ensures.ended first before (used ++ i.0) earlier (i.2 first before used going) (omega (arith, few, ap length i.1, length-append i.0 rest)) (omega (arith, no_more, ended_lines_more used i.0)))

pub returns-clause-went : goal.returns-clause-went
returns-clause-went g c first before used going =
    let i = c.loop-rest.invariant.taken in
    subst (λ bs. IsGoing g.M.Machine first before (used ++ bs) (work c.loop-rest.rack c.loop-rest.self c.loop-rest.journal (g.K.Sink.taken c.loop-rest.sink))) (piece_whole c.args.piece.now i.0 c.loop-rest.rest.now i.1 (eqb-true (length c.loop-rest.rest.now) 0 (sym c.is_empty.ensures ∙ c.loop-rest-test.false)))
    (i.2 first before used going)
