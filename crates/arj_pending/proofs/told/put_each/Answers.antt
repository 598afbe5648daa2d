use Rattle.std.proofs.Common.{rules, ◌≡◌, ◌<◌, ◌≤◌, ◌+◌, ◌∙◌, ◌++◌, ap, sym, subst, length, slice_index_or, take, drop, append_assoc}
use Rattle.std.proofs.Common.{arith}
use Rattle.arj_standing.proofs.Filters.{take_next}
use Rattle.arj_pending.proofs.Lines.{all_told, next_pendings, so_many}
use Rattle.arj_pending.specs.Behind.{StandsBehind}
use Rattle.arj_pending.specs.Told.{pending_behind, pendings_from}
use Rattle.arj_pending.proofs.told.put_each.Goals as goal

pub loop-at-init : goal.loop-at-init
loop-at-init c = record { told = search rules; standing = c.new-standing.ensures c.args.flags.now }

pub loop-at-preserved : goal.loop-at-preserved
loop-at-preserved c =
    let lines = c.args.lines.now in
    let header = c.args.header.now in
    let flags = c.args.flags.now in
    let i = c.loop-at.at in
    let line = c.index-lines-at.result in
    let lt : i < length lines = search rules in
    let is : line ≡ slice_index_or lines i line = search rules in
    let few : length (take i lines) + 1 < 18446744073709551616 = search rules in
    let upto = take (i + 1) lines in
    let now : StandsBehind flags upto c.take.new.self =
    subst (λ ls. StandsBehind flags ls c.take.new.self) (sym (take_next lines i line lt is)) (c.in_ok-take.ensures
    (take i lines) c.loop-at.invariant.standing few) in
    let rest = pendings_from flags header upto (drop (i + 1) lines) in
    record {
      told =
          ap (λ out. out ++ rest) (c.in_ok-put_behind.ensures flags upto now (sym (so_many lines (i + 1) (omega (arith, lt)))))
          ∙ append_assoc c.loop-at.out (pending_behind flags header upto line.body) rest
          ∙ ap (λ text. c.loop-at.out ++ text) (sym (next_pendings flags header lines i line lt is))
          ∙ c.loop-at.invariant.told;
      standing = now;
    }

pub returns : goal.returns
returns c =
    let le : length c.args.lines.now ≤ c.loop-at.at = search rules in
    all_told c.args.flags.now c.args.header.now c.args.lines.now c.loop-at.at c.loop-at.out le ∙ c.loop-at.invariant.told
