use Rattle.std.proofs.Common.{rules, ◌≡◌, List, slice_get, ℕ, ◌+◌, ◌-◌, ◌*◌, ◌<◌, ◌≤◌, length, ◌/◌, ◌%◌, Bool, true, false, nat_eq, nat_lt}
use Rattle.std.proofs.Common.{[], ◌∷◌, ◌++◌, slice_index_or, slice_set, bit_and, bit_or, Fits, w8, w32, w64, Bor, MutBor}
use Rattle.std.specs.Option.{option_map}
use Rattle.arj_journal.specs.declared.body.Line.{Line}
use Rattle.arj_text.specs.Label.{name}
use Rattle.arj_model.specs.Actions.{acts, ended, has_end}
use Rattle.arj_reading.specs.Readable.{called, known, named}
use Rattle.arj_reading.specs.Reading.{HasRead, above_in}
use Rattle.arj_reading.proofs.lookup.is_called.Goals as goal
use Rattle.std.proofs.Common.{◌∙◌, ap}
use Rattle.std.specs.Prelude.{is_some}
use Rattle.arj_reading.proofs.Numbers.{first_has}

pub returns : goal.returns
returns c = λ lines has. c.contains_key.ensures ∙ ap is_some (has.called_at c.args.named.number) ∙ first_has (called lines) c.args.named.number
