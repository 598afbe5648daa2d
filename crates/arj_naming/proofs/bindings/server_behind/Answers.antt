use Rattle.std.proofs.Common.{◌≤◌, ◌-◌, ◌∙◌, sym, drop, length, arith}
use Rattle.std.proofs.lemmas.List.{length-drop}
use Rattle.arj_naming.proofs.Turns.{no_more}
use Rattle.arj_naming.proofs.bindings.server_behind.Goals as goal

pub returns : goal.returns
returns c =
    let rest = drop (c.loop-i.i - 1) c.args.servers.now in
    let short : length rest ≤ 1 =
    omega (arith, length-drop (c.loop-i.i - 1) c.args.servers.now, c.loop-i.invariant.first, c.loop-i-test.false) in
    c.first_server.ensures ∙ (sym (no_more c.args.last c.args.servers.now rest short) ∙ c.loop-i.invariant.rest)
