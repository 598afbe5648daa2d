use Rattle.std.proofs.Common.{◌≡◌, ◌∙◌, sym, subst}
use Rattle.arj_disk.specs.declared.slot.Role.TheVariants.{Store}
use Rattle.arj_node.specs.Acting.{first_here}
use Rattle.arj_parts.proofs.FirstHere.{first_parts, first_stands}
use Rattle.arj_parts.specs.Kept.{StandsOn}
use Rattle.arj_protocol.specs.Server.{new_server}
use Rattle.arj_serve.proofs.Roles.{store_stays}
use Rattle.arj_serve.specs.Kept as serve
use Rattle.arj_parts.proofs.beginnings.first.Goals as goal

pub format_inc-requires-clause-store : goal.format_inc-requires-clause-store
format_inc-requires-clause-store g c =
    let one = g.D.Disk.file c.format.new.disk in
    let two = g.D.Disk.file c.first_naming.new.disk in
    (g.met.O.ObjectStore.stays Store one two (store_stays one two c.in_ok-naming.ensures.others) c.in_ok-store.ensures.formed).0

pub returns-clause-stands : goal.returns-clause-stands
returns-clause-stands g c =
    let n = c.args.number in
    let hd = c.args.header.now in
    let three = g.D.Disk.file c.format_inc.new.disk in
    let services : serve.Kept g.row.O.Denot =
    record { number = n; server = new_server 1; naming = c.in_ok-naming.naming; store = c.in_ok-store.store } in
    let services_are : services ≡ c.new-2.result =
    (λ i. record {
      number = n;
      server = sym c.new.ensures i;
      naming = c.in_ok-naming.naming;
      store =
          c.in_ok-store.store;
    }) ∙ sym c.new-2.ensures in
    let are : first_parts g.O.ObjectStore g.met.O.ObjectStore.keeps_on g.met.O.ObjectStore.stays (g.D.Disk.file c.args.disk.now) (g.D.Disk.file c.format.new.disk) (g.D.Disk.file c.first_naming.new.disk) three n hd c.requires.empty c.in_ok-store.ensures.others c.in_ok-naming.ensures.others
    c.in_ok-store.ensures.formed c.in_ok-store.ensures.pair c.in_ok-store.store c.in_ok-store.ensures.role c.in_ok-store.ensures.keeps c.in_ok-naming.naming ≡ record { services = c.new-2.result; coord = c.new-3.result; records = c.new-4.result } =
    (λ i. record { services = services_are i; coord = sym c.new-3.ensures i; records = sym c.new-4.ensures i }) in
    subst (λ p. StandsOn g.O.ObjectStore n p three (first_here hd n)) are
    (first_stands g.O.ObjectStore g.met.O.ObjectStore.keeps_on g.met.O.ObjectStore.stays (g.D.Disk.file c.args.disk.now) (g.D.Disk.file c.format.new.disk) (g.D.Disk.file c.first_naming.new.disk) three n hd c.requires.empty c.in_ok-store.ensures.others c.in_ok-naming.ensures.others
    c.in_ok-store.ensures.formed c.in_ok-store.ensures.pair c.in_ok-store.store c.in_ok-store.ensures.role c.in_ok-store.ensures.keeps c.in_ok-naming.naming
    c.requires.form c.in_ok-naming.ensures.has c.in_ok-naming.ensures.pair c.in_ok-naming.ensures.gives c.in_ok-naming.ensures.formed c.in_ok-format_inc.ensures.formed c.in_ok-format_inc.ensures.first c.in_ok-format_inc.ensures.roles)
