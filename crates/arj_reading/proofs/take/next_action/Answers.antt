use Rattle.std.proofs.Common.{rules, ◌≡◌, ◌≢◌, ◌+◌, ℕ, List, [], ◌∷◌, ◌++◌, Option, Some, None, length, OnOk, is_some, if◌then◌else◌, ◌-◌}
use Rattle.std.proofs.Common.{◌*◌, ◌<◌, ◌≤◌, ◌/◌, ◌%◌, Bool, true, false, nat_eq, nat_lt, slice_index_or, slice_set, bit_and, bit_or, Fits}
use Rattle.std.proofs.Common.{w8, w32, w64, Bor, MutBor}
use Rattle.std.specs.BTreeMap.{get}
use Rattle.std.specs.Option.{option_map}
use Rattle.std.specs.Ordering.{nat_cmp}
use Rattle.arj_base.specs.Order.{uid_order}
use Rattle.arj_base.specs.declared.uid.Uid.{Uid as uid_type}
use Rattle.arj_journal.specs.declared.body.Line.{Line as line_type}
use Rattle.arj_text.specs.declared.label.Label.{Label as label_type}
use Rattle.arj_text.specs.Label.{name, label_cmp}
use Rattle.arj_model.specs.Actions.{Act, acts, committed_of, ended_of, path_in, recovered_of}
use Rattle.arj_start.specs.Kinds.{is_serial}
use Rattle.arj_reading.specs.Readable.{called_of}
use Rattle.arj_reading.specs.Reading.{HasRead, above_in, action_of, capped, found_with, known_with, labelled_with, listed_with, marked}
use Rattle.arj_reading.specs.Reading.{next_of, noted, said_at}
use Rattle.arj_reading.proofs.take.next_action.Goals as goal
use Rattle.std.proofs.Common.{◌∙◌, ap, sym}
use Rattle.arj_model.specs.Actions.{path, upwards}
use Rattle.arj_reading.proofs.Numbers.{alone_is, are_numbered, below_is, found_above, length_actions}

pub returns-in-None : goal.returns-in-None
returns-in-None c = λ lines a has id kind uid parent.
    let count : c.len-number.result ≡ length c.args.reading.now.list.items = search rules in
    c.action_alone.ensures a (id ∙ sym (length_actions (acts lines)) ∙ sym (ap length has.list) ∙ sym count) kind uid
    ∙ alone_is (acts lines) a c.args.kind (option_map name c.args.parent.now) kind parent (sym (c.above.ensures lines has) ∙ c.in-None.is)

pub returns-in-None-kept : goal.returns-in-None-kept
returns-in-None-kept c = λ lines a has id kind uid parent.
    let f = found_above (acts lines) (are_numbered lines) c.args.kind (option_map name c.args.parent.now) c.in-Some.at c.args.reading.now.list.items c.kept.result has.list c.kept.ensures (sym (c.above.ensures lines has) ∙ c.in-Some.is) in
    let never : None ≡ Some (action_of f.0 f.1 (upwards (option_map name c.args.parent.now) c.args.kind (path (acts lines)))) =
    sym c.in-None-kept.is ∙ f.2 in absurd (cc never)

pub returns-in-Some-kept : goal.returns-in-Some-kept
returns-in-Some-kept c = λ lines a has id kind uid parent.
    let above_is : above_in (acts lines) c.args.kind (option_map name c.args.parent.now) ≡ Some c.in-Some.at =
    sym (c.above.ensures lines has) ∙ c.in-Some.is in
    let f = found_above (acts lines) (are_numbered lines) c.args.kind (option_map name c.args.parent.now) c.in-Some.at c.args.reading.now.list.items c.kept.result has.list c.kept.ensures above_is in
    let same : Some c.in-Some-kept.parent ≡ Some (action_of f.0 f.1 (upwards (option_map name c.args.parent.now) c.args.kind (path (acts lines)))) = sym c.in-Some-kept.is ∙ f.2 in
    let count : c.len-number.result ≡ length c.args.reading.now.list.items = search rules in
    c.action_below.ensures a f.0 f.1 (upwards (option_map name c.args.parent.now) c.args.kind (path (acts lines))) (id ∙ sym (length_actions (acts lines)) ∙ sym (ap length has.list) ∙ sym count) kind uid (cc same) f.3
    ∙ below_is (acts lines) a c.args.kind (option_map name c.args.parent.now) c.in-Some.at kind parent above_is
