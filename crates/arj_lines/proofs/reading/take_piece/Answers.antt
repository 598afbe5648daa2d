-- feed after feed
use Rattle.std.proofs.Common.{◌++◌, ◌∙◌, arith, ap, append_assoc, length, length-append, sym, subst, take}
use Rattle.std.proofs.lemmas.Bool.{eqb-true}
use Rattle.arj_loop.proofs.Sessions.{piece_more, piece_whole}
use Rattle.arj_script.specs.Input.{AtRunEnd}
use Rattle.arj_lines.specs.Going.{IsGoing}
use Rattle.arj_lines.specs.Reading.{EndsSo, input}
use Rattle.arj_lines.proofs.reading.take_piece.Goals as goal

pub feed-requires-clause-going : goal.feed-requires-clause-going
feed-requires-clause-going g c =
    let r = c.requires.going in
    let i = c.loop-rest.invariant.taken in
    (r.0 ++ i.0, i.2 r.0 r.1)

pub loop-rest-preserved : goal.loop-rest-preserved
loop-rest-preserved g c =
    let i = c.loop-rest.invariant.taken in
    let rest = c.loop-rest.rest.now in
    record {
      taken = (
        i.0 ++ take c.in-Ok.count rest,
        piece_more c.args.piece.now i.0 rest c.in-Ok.count i.1,
        λ used going. subst (λ bs. IsGoing g.T.Taker bs c.feed.new.cutter c.feed.new.taker) (append_assoc used i.0 (take c.in-Ok.count rest)) (c.in-Ok.ensures.went (used ++ i.0) (i.2 used going)),
      );
      most = omega (arith, c.in-Ok.ensures.less, c.loop-rest.invariant.most);
      less = λ _. omega (arith, c.in-Ok.ensures.less, c.loop-rest.invariant.most);
    }

pub returns-in-Err-clause-ended : goal.returns-in-Err-clause-ended
returns-in-Err-clause-ended g c used going few =
    let i = c.loop-rest.invariant.taken in
    let rest = c.loop-rest.rest.now in
    subst (λ bs. EndsSo g.T.Taker (input bs AtRunEnd) c.feed.new.taker c.in-Err.ending) (append_assoc used i.0 rest ∙ ap (λ bs. used ++ bs) (sym i.1))
    (c.in-Err.ensures.ended (used ++ i.0) (i.2 used going) (omega (arith, few, ap length i.1, length-append i.0 rest)))

pub returns-clause-went : goal.returns-clause-went
returns-clause-went g c used going =
    let i = c.loop-rest.invariant.taken in
    subst (λ bs. IsGoing g.T.Taker (used ++ bs) c.loop-rest.cutter c.loop-rest.taker) (piece_whole c.args.piece.now i.0 c.loop-rest.rest.now i.1 (eqb-true (length c.loop-rest.rest.now) 0 (sym c.is_empty.ensures ∙ c.loop-rest-test.false)))
    (i.2 used going)

pub returns-clause-less : goal.returns-clause-less
returns-clause-less g c some =
    c.loop-rest.invariant.less (omega (arith, some, eqb-true (length c.loop-rest.rest.now) 0 (sym c.is_empty.ensures ∙ c.loop-rest-test.false)))
