use Rattle.arj_naming.proofs.Indexed.{touched_back}
use Rattle.arj_naming.proofs.Servers.{bound_back}
use Rattle.arj_naming.proofs.part.Part.recovered.Goals as goal

pub invariant_of-result : goal.invariant_of-result
invariant_of-result c =
    let d = c.args.entries.now in
    let m = c.in_ok-objects.objects.entries in
    record {
      sorted = c.in_ok-touched.ensures.sorted;
      touched = touched_back c.in_ok-touched.touched.entries d m c.in_ok-touched.ensures.touched d.held c.in_ok-objects.ensures.objects;
      bound = bound_back d m c.new.result.entries c.in_ok-objects.ensures.objects;
    }
