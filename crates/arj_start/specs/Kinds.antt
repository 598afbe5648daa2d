-- Tests of an action's kind.
use Rattle.std.specs.Prelude.{Bool, true, false}
use Rattle.arj_journal.specs.declared.body.Kind.{Kind}
use Rattle.arj_journal.specs.declared.body.Kind.TheVariants as kind

-- a serializing action
abbrev pub is_serial : Kind → Bool
is_serial kind.Serial = true
is_serial _ = false

-- a constituent of a serializing action
abbrev pub is_constituent : Kind → Bool
is_constituent kind.Constituent = true
is_constituent _ = false
