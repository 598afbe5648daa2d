use Rattle.std.proofs.Common.{◌∙◌}
use Rattle.arj_naming.proofs.Quiet.{all_changed}
use Rattle.arj_naming.proofs.Servers.{all_told, still_bound}
use Rattle.arj_protocol.specs.Named.{hello_named}
use Rattle.arj_naming.proofs.bound.hello_all.Goals as goal

pub returns : goal.returns
returns c =
    let node = c.args.node in
    let inc = c.args.inc in
    let old = c.args.objects.now.entries in
    let bound = c.args.bound.now.entries in
    let new = c.hello_under.new.objects.entries in
    let are = all_changed (hello_named node inc) old new c.hello_under.ensures.keys c.requires.sorted (λ q. c.hello_under.ensures.at q ∙ all_told node inc old bound c.requires.bound q) in
    record {
      objects = are;
      bound =
          still_bound node inc old bound c.requires.bound new c.hello_under.new.bound.entries are c.hello_under.ensures.bound;
    }
