use Rattle.std.proofs.Common.{rules, ◌≡◌, ◌<◌, ◌≤◌, ◌+◌, ◌∙◌, ◌++◌, ap, sym, subst, length, slice_index_or, take, drop, append_assoc}
use Rattle.std.proofs.Common.{nat_lt}
use Rattle.arj_standing.proofs.Filters.{take_next}
use Rattle.arj_last.proofs.Cuts.{readable_here}
use Rattle.arj_last.proofs.Lines.{all_told, next_states}
use Rattle.arj_last.specs.Behind.{StandsBehind}
use Rattle.arj_last.specs.Told.{states_behind, states_from}
use Rattle.arj_last.proofs.whole.put_states.Goals as goal

pub loop-at-preserved : goal.loop-at-preserved
loop-at-preserved c =
    let lines = c.args.lines.now in
    let header = c.args.header.now in
    let i = c.loop-at.at in
    let line = c.index-lines-at.result in
    let lt : i < length lines = search rules in
    let is : line ≡ slice_index_or lines i line = search rules in
    let few : length (take i lines) + 1 < 18446744073709551616 = search rules in
    let upto = take (i + 1) lines in
    let now : StandsBehind upto c.take.new.self =
    subst (λ ls. StandsBehind ls c.take.new.self) (sym (take_next lines i line lt is)) (c.in_ok-take.ensures
    (take i lines) c.loop-at.invariant.standing few) in
    let rest = states_from header upto (drop (i + 1) lines) in
    record {
      told = λ e.
          ap (λ out. out ++ rest) (c.in_ok-put_states_behind.ensures now ((λ j. nat_lt i (e j)) ∙ readable_here header lines i lt))
          ∙ append_assoc c.loop-at.out (states_behind header upto line.body) rest
          ∙ ap (λ text. c.loop-at.out ++ text) (sym (next_states header lines i line lt is))
          ∙ c.loop-at.invariant.told e;
      standing = now;
    }

pub returns : goal.returns
returns c = λ e.
    let le : length c.args.lines.now ≤ c.loop-at.at = search rules in
    all_told c.args.header.now c.args.lines.now c.loop-at.at c.loop-at.out le ∙ c.loop-at.invariant.told e
