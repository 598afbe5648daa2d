use Rattle.std.proofs.Common.{rules, ◌≡◌, List, slice_get, ℕ, ◌+◌, ◌-◌, ◌*◌, ◌<◌, ◌≤◌, length, ◌/◌, ◌%◌, Bool, true, false, nat_eq, nat_lt}
use Rattle.std.proofs.Common.{[], ◌∷◌, ◌++◌, slice_index_or, slice_set, bit_and, bit_or, Fits, w8, w32, w64, Bor, MutBor}
use Rattle.std.specs.Option.{option_map}
use Rattle.arj_journal.specs.declared.body.Line.{Line}
use Rattle.arj_text.specs.Label.{name}
use Rattle.arj_model.specs.Actions.{acts, ended, has_end}
use Rattle.arj_reading.specs.Readable.{called, known, named}
use Rattle.arj_reading.specs.Reading.{HasRead, above_in}
use Rattle.arj_reading.proofs.lookup.known_by.Goals as goal
use Rattle.std.proofs.Common.{◌∙◌, ap, sym}
use Rattle.arj_reading.proofs.Numbers.{are_numbered, by_uid, named_here}

pub returns : goal.returns
returns c = λ lines has.
    c.named_at.ensures ∙ ap (λ xs. named_here c.in_ok-number.field-0.now (slice_get xs c.in_ok-number.field-0.now)) has.list
    ∙ by_uid (acts lines) (are_numbered lines) c.args.uid.now c.in_ok-number.field-0.now (sym (has.uids c.args.uid.now) ∙ sym c.in_ok-number.ensures.value)
