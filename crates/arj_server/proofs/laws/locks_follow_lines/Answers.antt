use Rattle.std.proofs.Common.{◌∙◌}
use Rattle.arj_base.specs.Uid.{object}
use Rattle.arj_journal.specs.declared.body.Part.TheVariants as part
use Rattle.arj_protocol.specs.Laws.{server_rows}
use Rattle.arj_server.specs.Calls.{activated, invoked, told, voted}
use Rattle.arj_server.proofs.Said.{rows_said}
use Rattle.arj_server.proofs.laws.locks_follow_lines.Goals as goal

pub returns-clause-activate : goal.returns-clause-activate
returns-clause-activate c =
    λ h n x m s.
    c.server_locks_follow_lines.ensures.activate h n x m.head.path m.binding m.state s
    ∙ rows_said h n part.Server (object x) (activated n m s).outs (server_rows x s)

pub returns-clause-invoke : goal.returns-clause-invoke
returns-clause-invoke c =
    λ h n x m s path ends.
    c.server_locks_follow_lines.ensures.invoke h n x m.head m.x m.binding m.server_inc m.ends m.op s path ends
    ∙ rows_said h n part.Server (object x) (invoked n m s).outs (server_rows x s)

pub returns-clause-vote : goal.returns-clause-vote
returns-clause-vote c =
    λ h n x m s ends.
    c.server_locks_follow_lines.ensures.vote h n x m.head.path m.server_inc m.objects m.ends s ends
    ∙ rows_said h n part.Server (object x) (voted n m s).outs (server_rows x s)

pub returns-clause-told : goal.returns-clause-told
returns-clause-told c =
    λ h n x m s ends.
    c.server_locks_follow_lines.ensures.told h n x m.ends s ends ∙ rows_said h n part.Server (object x) (told n m s).outs (server_rows x s)
