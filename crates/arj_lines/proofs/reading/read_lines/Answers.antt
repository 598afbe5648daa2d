-- read after read
use Rattle.std.proofs.Common.{◌++◌, ◌∙◌, ◌≤◌, [], arith, length, refl, take}
use Rattle.std.proofs.lemmas.List.{length-take-le}
use Rattle.arj_io.proofs.Told.{gives_more}
use Rattle.arj_loop.proofs.Sessions.{gives_nothing}
use Rattle.arj_loop.specs.Input.{source_view}
use Rattle.arj_script.specs.Input.{AtEnd, AtFault, AtRunEnd}
use Rattle.arj_lines.specs.Reading.{input}
use Rattle.arj_lines.proofs.Goings.{gave_end, gave_fault, gave_some, going_first}
use Rattle.arj_lines.proofs.reading.read_lines.Goals as goal

pub returns-in_default : goal.returns-in_default
returns-in_default g c =
    let view = source_view (g.S.Source.left c.args.source.now) (g.S.Source.faults c.args.source.now) in
    record { ended = (input [] AtRunEnd, gave_some view view [] (gives_nothing (g.S.Source.left c.args.source.now)) refl, tt) }

pub loop-count-init : goal.loop-count-init
loop-count-init g c = record {
  used = ([], going_first g.T.Taker c.in-Ok.cutter c.args.taker.now c.most_bytes.result c.in-Ok.ensures c.most_bytes.ensures.is (omega (arith, c.most_bytes.auto)) c.requires.first, gives_nothing (g.S.Source.left c.args.source.now));
  no_fault = refl;
}

pub returns-in_default-read : goal.returns-in_default-read
returns-in_default-read g c =
    let i = c.loop-count.invariant.used in
    record {
      ended = (
        input i.0 AtFault,
        gave_fault (source_view (g.S.Source.left c.args.source.now) (g.S.Source.faults c.args.source.now)) (source_view (g.S.Source.left c.loop-count.source) (g.S.Source.faults c.loop-count.source)) (source_view (g.S.Source.left c.read.new.self) (g.S.Source.faults c.read.new.self)) i.0 i.2 c.in_default-read.ensures.kept c.loop-count.invariant.no_fault c.in_default-read.ensures.failed,
        (refl, let going = i.1 in going.stands),
      );
    }

pub returns-then-count-eq0 : goal.returns-then-count-eq0
returns-then-count-eq0 g c =
    let i = c.loop-count.invariant.used in
    let r = c.in-Ok-read.ensures in
    record {
      ended = (
        input i.0 AtEnd,
        gave_end (source_view (g.S.Source.left c.args.source.now) (g.S.Source.faults c.args.source.now)) (source_view (g.S.Source.left c.loop-count.source) (g.S.Source.faults c.loop-count.source)) (source_view (g.S.Source.left c.read.new.self) (g.S.Source.faults c.read.new.self)) i.0 c.read.new.buf c.in-Ok-read.count c.if-count-eq0.true i.2 r.moved r.end (r.steady ∙ c.loop-count.invariant.no_fault),
        c.take_last.ensures i.0 i.1,
      );
    }

pub loop-count-preserved : goal.loop-count-preserved
loop-count-preserved g c =
    let i = c.loop-count.invariant.used in
    let r = c.in-Ok-read.ensures in
    let piece = take c.in-Ok-read.count c.read.new.buf in
    record {
      used = (i.0 ++ piece, c.in-Ok-take_piece.ensures.went i.0 i.1, gives_more _ _ _ i.0 piece i.2 r.moved);
      no_fault = r.steady ∙ c.loop-count.invariant.no_fault;
    }

pub loop-count-smaller : goal.loop-count-smaller
loop-count-smaller g c =
    c.in-Ok-take_piece.ensures.less (omega (arith, c.if-count-eq0.false, length-take-le c.in-Ok-read.count c.read.new.buf c.in-Ok-read.ensures.within))

pub returns-in-Err : goal.returns-in-Err
returns-in-Err g c =
    let i = c.loop-count.invariant.used in
    let r = c.in-Ok-read.ensures in
    let piece = take c.in-Ok-read.count c.read.new.buf in
    let few : length piece ≤ 512 = omega (arith, length-take-le c.in-Ok-read.count c.read.new.buf r.within, r.within, c.read.auto.buf) in
    record {
      ended = (
        input (i.0 ++ piece) AtRunEnd,
        gave_some (source_view (g.S.Source.left c.args.source.now) (g.S.Source.faults c.args.source.now)) (source_view (g.S.Source.left c.read.new.self) (g.S.Source.faults c.read.new.self)) (i.0 ++ piece) (gives_more _ _ _ i.0 piece i.2 r.moved) (r.steady ∙ c.loop-count.invariant.no_fault),
        c.in-Err.ensures.ended i.0 i.1 few,
      );
    }
