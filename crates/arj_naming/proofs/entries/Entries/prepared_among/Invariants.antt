use Rattle.std.proofs.Common.{◌≡◌, ◌&&◌, ◌++◌, not, filter}
use Rattle.arj_base.specs.Uid.{uid_eq}
use Rattle.arj_protocol.specs.Effect.{is_prepared}
use Rattle.arj_naming.proofs.entries.Entries.prepared_among.Given as goal

-- the actions so far, and those of the set that are left
abbrev pub invariant-loop-act : goal.invariant-loop-act
invariant-loop-act l =
    l.actions ++ filter (λ act. not (uid_eq act l.but) && is_prepared act l.self) l.act-iterator ≡ filter (λ act. not (uid_eq act l.but) && is_prepared act l.self) l.set.keys
