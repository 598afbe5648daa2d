use Rattle.std.proofs.Common.{rules, ◌≡◌, ◌≢◌, ◌+◌, ℕ, List, [], ◌∷◌, ◌++◌, Option, Some, None, length, OnOk, is_some, if◌then◌else◌, ◌-◌}
use Rattle.std.proofs.Common.{◌*◌, ◌<◌, ◌≤◌, ◌/◌, ◌%◌, Bool, true, false, nat_eq, nat_lt, slice_index_or, slice_set, bit_and, bit_or, Fits}
use Rattle.std.proofs.Common.{w8, w32, w64, Bor, MutBor}
use Rattle.std.specs.BTreeMap.{get}
use Rattle.std.specs.Option.{option_map}
use Rattle.std.specs.Ordering.{nat_cmp}
use Rattle.arj_base.specs.Order.{uid_order}
use Rattle.arj_base.specs.declared.uid.Uid.{Uid as uid_type}
use Rattle.arj_journal.specs.declared.body.Line.{Line as line_type}
use Rattle.arj_text.specs.declared.label.Label.{Label as label_type}
use Rattle.arj_text.specs.Label.{name, label_cmp}
use Rattle.arj_model.specs.Actions.{Act, acts, committed_of, ended_of, path_in, recovered_of}
use Rattle.arj_start.specs.Kinds.{is_serial}
use Rattle.arj_reading.specs.Readable.{called_of}
use Rattle.arj_reading.specs.Reading.{HasRead, above_in, action_of, capped, found_with, known_with, labelled_with, listed_with, marked}
use Rattle.arj_reading.specs.Reading.{next_of, noted, said_at}
use Rattle.arj_reading.proofs.take.begin.Goals as goal
use Rattle.std.proofs.Common.{◌∙◌, ap, sym, cond}
use Rattle.std.proofs.lemmas.Map.Text.{is_eq-slice_cmp}

pub returns-clause-labels : goal.returns-clause-labels
returns-clause-labels c = λ q.
    let count : c.len-number.result ≡ length c.args.reading.now.list.items = search rules in
    c.in_ok-insert.ensures.updates.0 q
    ∙ (λ i. cond (is_eq-slice_cmp (name c.in-Some.next.label) (name q) i) (Some (count i)) (get label_cmp c.args.reading.now.labels q))
    ∙ ap (λ o. labelled_with o (length c.args.reading.now.list.items) (get label_cmp c.args.reading.now.labels q) q) (sym c.in-Some.is)
