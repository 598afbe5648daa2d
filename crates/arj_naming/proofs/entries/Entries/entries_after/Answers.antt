use Rattle.std.proofs.Common.{◌∙◌, ◌++◌, ◌+◌, ◌<◌, [], length, get_or, ap, sym, subst, drop}
use Rattle.std.specs.List.{cons_option}
use Rattle.std.proofs.lemmas.List.{drop_more, append_assoc}
use Rattle.arj_naming.proofs.Confirms.{more_entries}
use Rattle.arj_protocol.specs.Confirm.{entries_after, entry_after}
use Rattle.arj_protocol.specs.Effect.{held_at}
use Rattle.arj_base.specs.Uid.{entry}
use Rattle.arj_naming.proofs.entries.Entries.entries_after.Goals as goal

pub loop-x-preserved : goal.loop-x-preserved
loop-x-preserved c =
    let i = c.loop-x.x-index in
    let xs = c.args.m.now.objects in
    let same = c.as_slice-x-items.ensures in
    let within : i < length xs = subst (λ ys. i < length ys) same c.loop-x-test.true in
    let rest = entries_after c.args.top (drop (i + 1) xs) c.args.m.now.excluded c.args.m.now.included c.args.self.now in
    record {
      states = ap (λ ss. ss ++ rest) c.in_ok-push_some.ensures.states
          ∙ (append_assoc c.loop-x.states (cons_option c.in_ok-state.state []) rest
          ∙ (ap (λ ss. c.loop-x.states ++ ss) (more_entries c.in_ok-state.state rest ∙ (ap (λ o. cons_option o rest) c.in_ok-state.ensures.state
          ∙ (λ j. cons_option (entry_after c.args.top c.args.m.now.excluded c.args.m.now.included (get_or (same j) i (0, 0)).0 (held_at (entry (get_or (same j) i (0, 0)).0) c.args.self.now)) rest)))
          ∙ ((λ j. c.loop-x.states ++ entries_after c.args.top (sym (drop_more xs i (0, 0) within) j) c.args.m.now.excluded c.args.m.now.included c.args.self.now) ∙ c.loop-x.invariant.states)));
      new = c.in_ok-push_some.ensures.new c.loop-x.invariant.new;
    }
