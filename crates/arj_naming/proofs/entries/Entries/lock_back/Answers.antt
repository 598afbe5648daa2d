use Rattle.std.proofs.Common.{◌≡◌, ◌∙◌, ap, Some}
use Rattle.std.specs.Prelude.{option_map}
use Rattle.arj_naming.proofs.Pendings.{lock_of, mode_of}
use Rattle.arj_protocol.specs.Confirm.{mode_back, pending_of}
use Rattle.arj_protocol.specs.Order.{at_uid}
use Rattle.arj_naming.proofs.entries.Entries.lock_back.Goals as goal

pub returns : goal.returns
returns c =
    let p = c.in_ok-pending.pending.now in
    let stores = c.args.stores.now in
    let found : Some p ≡ at_uid c.args.uid c.args.pending.now.entries = c.in_ok-pending.ensures.value in
    (λ i. Some (p.action, (c.mode_back.ensures ∙ (λ j. mode_back (c.as_slice.ensures j) stores)) i))
    ∙ (ap (option_map (lock_of stores)) found ∙ mode_of stores (pending_of c.args.uid c.args.self.now.pend) (at_uid c.args.uid c.args.pending.now.entries) (c.requires c.args.uid))
