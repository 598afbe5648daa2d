use Rattle.std.proofs.Common.{rules, ◌≡◌, ◌<◌, ◌+◌, ◌∙◌, ◌++◌, ap, sym, subst, length, slice_index_or, take, drop, append_assoc}
use Rattle.arj_view_data.specs.Behind.{StandsBehind}
use Rattle.arj_view_data.specs.Texts.{line_behind, lines_behind}
use Rattle.arj_standing.proofs.Filters.{take_next}
use Rattle.arj_view_data.proofs.Lines.{all_taken, next_line}
use Rattle.arj_view_data.proofs.run.put_run.Goals as goal

pub loop-line-preserved : goal.loop-line-preserved
loop-line-preserved c =
    let lines = c.args.lines.now in
    let header = c.args.header.now in
    let i = c.loop-line.line-index in
    let line = c.line-item.result in
    let lt : i < length lines = search rules in
    let is : line ≡ slice_index_or lines i line = search rules in
    let few : length (take i lines) + 1 < 18446744073709551616 = search rules in
    let now : StandsBehind (take (i + 1) lines) c.take.new.self =
    subst (λ ls. StandsBehind ls c.take.new.self) (sym (take_next lines i line lt is)) (c.in_ok-take.ensures (take i lines) c.loop-line.invariant.standing few) in
    let rest = lines_behind header (take (i + 1) lines) (drop (i + 1) lines) in
    record {
      told =
          ap (λ out. out ++ rest) (c.in_ok-put_line_behind.ensures (take (i + 1) lines) now)
          ∙ append_assoc c.loop-line.out (line_behind header (take (i + 1) lines) line) rest
          ∙ ap (λ told. c.loop-line.out ++ told) (sym (next_line header lines i line lt is))
          ∙ c.loop-line.invariant.told;
      standing = now;
    }

pub returns : goal.returns
returns c =
    let whole : c.loop-line.line-index ≡ length c.args.lines.now = search rules in
    all_taken c.args.header.now c.args.lines.now c.loop-line.line-index c.loop-line.out whole ∙ c.loop-line.invariant.told
