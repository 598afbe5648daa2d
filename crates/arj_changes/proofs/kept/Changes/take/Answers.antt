use Rattle.std.proofs.Common.{rules, ◌≡◌, ◌∙◌, ◌+◌, ap, sym}
use Rattle.std.proofs.lemmas.List.{length_push}
use Rattle.arj_model.specs.Actions.{acts}
use Rattle.arj_model.specs.Last.{excluded_of, included_of}
use Rattle.arj_changes.specs.Kept.{is_ended, is_found, join_of, leave_of}
use Rattle.arj_changes.proofs.Longer.{called_more, committed_more, found_more, map_more}
use Rattle.arj_changes.proofs.Paths.{called_is, committed_is, join_is, leave_is}
use Rattle.arj_changes.proofs.kept.Changes.take.Goals as goal

pub returns : goal.returns
returns c = λ lines begun has few.
    let line = c.args.line.now in
    let body = line.body in
    let us = acts lines in
    let bs = c.args.begun.now in
    let old = c.args.self.now in
    let one : c.saturating_add-self.result ≡ old.count + 1 = search rules in
    record {
      count = one ∙ ap (λ n. n + 1) has.count ∙ sym (length_push lines line);
      leaves = c.in_ok-put.ensures ∙ map_more excluded_of leave_of lines line old.leaves.items c.leave_in.result has.leaves (c.leave_in.ensures ∙ leave_is us bs begun body);
      joins = c.in_ok-put-2.ensures ∙ map_more included_of join_of lines line old.joins.items c.in_ok-join.join has.joins (c.in_ok-join.ensures ∙ join_is us bs begun body);
      called = c.in_ok-put-3.ensures ∙ called_more lines line old.called.items c.called_in-called.result old.count has.count has.called (c.called_in-called.ensures ∙ called_is us bs begun old.count body);
      committed = committed_more lines line c.committed_in.result (is_ended old) _ (c.committed_in.ensures ∙ committed_is us bs begun body) c.in_ok-note_number.ensures has.committed;
      found = found_more lines line c.found_in.result (is_found old) _ (c.found_in.ensures us) c.in_ok-note_found.ensures has.found;
    }
