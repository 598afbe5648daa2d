-- The actions that labels name.
use Rattle.std.specs.Prelude.{Option, Some, None, option_map}
use Rattle.arj_protocol.specs.Coord.{Coord, number_of, uid_at}
use Rattle.arj_protocol.specs.Words.{Uid, Label}

-- the action with a label, where one is given
abbrev pub uid_of_label : Option Label → Coord → Option Uid
uid_of_label None c = None
uid_of_label (Some l) c = option_map (λ k. uid_at k c) (number_of l c)
