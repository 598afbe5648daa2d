use Rattle.std.proofs.Common.{[], length, sym, ◌∙◌, ap, arith}
use Rattle.std.proofs.lemmas.Bool.Decides.{nat_tests}
use Rattle.arj_entry.proofs.Cuts.{stores_behind, entry_once}
use Rattle.arj_entry.proofs.entry.Entry.restore.Goals as goal

-- no list of stores behind the servers
pub returns-in_default-take_nodes-clause-none : goal.returns-in_default-take_nodes-clause-none
returns-in_default-take_nodes-clause-none c _ w same =
    let behind = stores_behind w c.in-Some.servers.now c.in-Some.behind.now c.args.payload.now c.in-Some.ensures.cut same in
    c.in_default-take_nodes.ensures.cut w.stores [] (sym behind.1)

-- bytes behind the stores
pub returns-then-not-is_empty-clause-none : goal.returns-then-not-is_empty-clause-none
returns-then-not-is_empty-clause-none c _ w same =
    let whole = entry_once w c.in-Some.servers.now c.in-Some-take_nodes.stores.now c.in-Some.behind.now c.in-Some-take_nodes.behind.now c.args.payload.now c.in-Some.ensures.cut c.in-Some-take_nodes.ensures.cut same in
    grind (arith, nat_tests, ap length whole.2)

pub returns-clause-only : goal.returns-clause-only
returns-clause-only c w same =
    let whole = entry_once w c.in-Some.servers.now c.in-Some-take_nodes.stores.now c.in-Some.behind.now c.in-Some-take_nodes.behind.now c.args.payload.now c.in-Some.ensures.cut c.in-Some-take_nodes.ensures.cut same in
    let servers = whole.0 ∙ sym c.in_ok-servers.ensures in
    let stores = whole.1 ∙ sym c.in_ok-stores.ensures in
    λ i. record { servers = servers i; stores = stores i }
