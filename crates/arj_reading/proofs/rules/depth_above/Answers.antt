use Rattle.std.proofs.Common.{rules, ◌≡◌, List, Option, Some, None, length, ℕ, ◌+◌, ◌-◌, ◌*◌, ◌<◌, ◌≤◌, ◌/◌, ◌%◌, Bool, true, false, nat_eq}
use Rattle.std.proofs.Common.{nat_lt, [], ◌∷◌, ◌++◌, slice_index_or, slice_set, bit_and, bit_or, Fits, w8, w32, w64, Bor, MutBor}
use Rattle.std.specs.Option.{option_copied, option_map}
use Rattle.arj_journal.specs.declared.body.Line.{Line as line_type}
use Rattle.arj_text.specs.Label.{name}
use Rattle.arj_model.specs.Actions.{acts, ended}
use Rattle.arj_start.specs.Kinds.{is_serial as is_serial_kind}
use Rattle.arj_model.specs.Actions.{path, upwards}
use Rattle.arj_model.specs.Last.{object_line}
use Rattle.arj_reading.specs.Readable.{answer_rule as rule_of_answer}
use Rattle.arj_reading.specs.Readable.{begin_rule as rule_of_begin}
use Rattle.arj_reading.specs.Readable.{body_rule as rule_of_body}
use Rattle.arj_reading.specs.Readable.{call_rule as rule_of_call}
use Rattle.arj_reading.specs.Readable.{called}
use Rattle.arj_reading.specs.Readable.{committed_rule as rule_of_committed}
use Rattle.arj_reading.specs.Readable.{end_rule as rule_of_end}
use Rattle.arj_reading.specs.Readable.{ended_rule as rule_of_ended}
use Rattle.arj_reading.specs.Readable.{has_parent as may_have_parent}
use Rattle.arj_reading.specs.Readable.{is_alone as has_no_parent}
use Rattle.arj_start.specs.Kinds.{is_constituent as is_constituent_kind}
use Rattle.arj_reading.specs.Readable.{is_parent_of}
use Rattle.arj_reading.specs.Readable.{is_top as is_top_kind}
use Rattle.arj_reading.specs.Readable.{known, label_of, line_rule, met, named, named_rule}
use Rattle.arj_reading.specs.Readable.{object_rule as rule_of_object}
use Rattle.arj_reading.specs.Readable.{of_begun}
use Rattle.arj_reading.specs.Readable.{recovered_rule as rule_of_recovered}
use Rattle.arj_reading.specs.Reading.{HasRead, capped}
use Rattle.arj_reading.proofs.rules.depth_above.Goals as goal
use Rattle.std.proofs.Common.{◌∙◌, ap, sym}
use Rattle.arj_reading.specs.Reading.{action_of}
use Rattle.arj_reading.proofs.Numbers.{are_numbered, found_above, none_above}

pub returns-in-None : goal.returns-in-None
returns-in-None c =
    λ lines has. ap (λ p. capped (length p)) (sym (none_above (acts lines) c.args.kind (option_map name c.args.parent.now) (sym (c.above.ensures lines has) ∙ c.in-None.is)))

pub returns-in-None-kept : goal.returns-in-None-kept
returns-in-None-kept c = λ lines has.
    let f = found_above (acts lines) (are_numbered lines) c.args.kind (option_map name c.args.parent.now) c.in-Some.number c.args.reading.now.list.items c.kept.result has.list c.kept.ensures (sym (c.above.ensures lines has) ∙ c.in-Some.is) in
    let never : None ≡ Some (action_of f.0 f.1 (upwards (option_map name c.args.parent.now) c.args.kind (path (acts lines)))) =
    sym c.in-None-kept.is ∙ f.2 in absurd (cc never)

pub returns-in-Some-kept : goal.returns-in-Some-kept
returns-in-Some-kept c = λ lines has.
    let f = found_above (acts lines) (are_numbered lines) c.args.kind (option_map name c.args.parent.now) c.in-Some.number c.args.reading.now.list.items c.kept.result has.list c.kept.ensures (sym (c.above.ensures lines has) ∙ c.in-Some.is) in
    let same : Some c.in-Some-kept.action ≡ Some (action_of f.0 f.1 (upwards (option_map name c.args.parent.now) c.args.kind (path (acts lines)))) = sym c.in-Some-kept.is ∙ f.2 in
    let one : c.in-Some-kept.action ≡ action_of f.0 f.1 (upwards (option_map name c.args.parent.now) c.args.kind (path (acts lines))) =
    cc same in ap (λ a. a.depth) one
