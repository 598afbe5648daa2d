use Rattle.std.proofs.Common.{rules, ◌≡◌, ◌<◌, ◌++◌, ◌∙◌, [], sym, length, slice_index_or}
use Rattle.std.specs.List.{cons_option}
use Rattle.arj_changes.specs.Kept.{is_ended, is_found}
use Rattle.arj_model.specs.Calls.{tops}
use Rattle.arj_model.specs.Serial.{serial_key}
use Rattle.arj_last.proofs.Survive.{keys_more}
use Rattle.arj_last.specs.Survivors.{survives_by}
use Rattle.arj_last.proofs.keys.keys_of.Goals as goal

pub loop-at-preserved : goal.loop-at-preserved
loop-at-preserved c = λ lines has writes.
    let all = c.args.all.now in
    let i = c.loop-at.at in
    let w = c.index-all-at.result in
    let lt : i < length all = search rules in
    let is : w ≡ slice_index_or all i w = search rules in
    let test = survives_by (is_ended c.args.changes.now) (is_found c.args.changes.now) in
    c.in_ok-put_key.ensures
    ∙ (λ j. c.loop-at.invariant lines has writes j ++ cons_option (c.in_ok-key.ensures lines has writes j) [])
    ∙ sym (keys_more (serial_key (tops lines)) test all i w lt is)
