use Rattle.std.proofs.Common.{◌≡◌, rules, subst}
use Rattle.std.specs.BTreeMap.{keys}
use Rattle.arj_disk.specs.Disk.{Lists}
use Rattle.arj_disk.specs.Stored.{stored}
use Rattle.arj_disk.proofs.Order.{keys_are_names}
use Rattle.arj_disk.proofs.files.Files.names.Goals as goal

pub returns : goal.returns
returns c =
    let all : keys c.args.self.now.map ≡ c.loop-slot.names = search rules in
    subst (λ names. Lists (stored c.args.self.now) names) all (keys_are_names c.args.self.now c.keys-slot-items.ensures.ordered)
