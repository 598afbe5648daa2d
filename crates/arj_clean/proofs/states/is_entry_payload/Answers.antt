use Rattle.arj_clean.proofs.Payloads.{payload_test}
use Rattle.arj_clean.proofs.states.is_entry_payload.Goals as goal

pub returns-in-Some : goal.returns-in-Some
returns-in-Some c = payload_test c.is_list.result c.args.payload.now c.args.servers.now c.args.stores.now c.in-Some.rest.now c.in-Some.ensures c.is_list.ensures
