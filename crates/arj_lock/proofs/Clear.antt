-- Where a request meets no conflict, whoever conflicts is on its path.
use Rattle.std.proofs.Common.{◌≡◌, List, Option, None, Some, ◌∙◌, ap, refl}
use Rattle.arj_base.specs.declared.mode.Mode.{Mode}
use Rattle.arj_base.specs.declared.uid.Uid.{Uid}
use Rattle.std.specs.Option.{option_map}
use Rattle.arj_base.specs.Rows.{Row, first_conflict, last_uid}
use Rattle.arj_base.specs.Uid.{uid_eq}
use Rattle.arj_base.proofs.Uids.{uid_same}
use Rattle.arj_lock.specs.Requests.{IsClear, conflict_with}
use Rattle.arj_lock.proofs.Exclusion.{on_path}
use Rattle.arj_lock.proofs.Members.{in_from}

-- holder and mode of a row
abbrev pub named : Row → Uid × Mode
named row = (last_uid row.holder, row.mode)

-- where none is named, there is none
pub no_conflict : (o : Option Row) → option_map named o ≡ None → o ≡ None
no_conflict None none = refl
no_conflict (Some row) none = cc

pub is_clear : (path : List Uid) (object : Uid) (mode : Mode) (rows : List Row) → conflict_with path object mode rows ≡ None →
    IsClear path object mode rows
is_clear path object mode rows none = λ r there same conflict.
    on_path (record {
      object = object;
      holder = path;
      tops = 1;
      mode =
          mode;
    }) r rows (no_conflict (first_conflict path object mode rows) none) (in_from r rows there) (ap (λ u. uid_eq u object) same ∙ uid_same object) conflict
