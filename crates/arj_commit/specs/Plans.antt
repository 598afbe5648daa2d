-- A plan that has heard more.
use Rattle.std.specs.Prelude.{List}
use Rattle.arj_base.specs.declared.state.ObjectState.{ObjectState}
use Rattle.arj_protocol.specs.Commit.{Plan, with_states}

-- These states changed too.
abbrev pub with_changed : List ObjectState → Plan → Plan
with_changed more p = record p { changed = with_states more p.changed }
