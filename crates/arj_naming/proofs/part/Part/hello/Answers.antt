use Rattle.std.proofs.Common.{sym, subst}
use Rattle.std.proofs.lemmas.Map.Made.{keys_of-map_values}
use Rattle.std.specs.List.Sorted.{IsStrictlySortedBy}
use Rattle.std.specs.Map.{keys_of}
use Rattle.std.specs.Ordering.{nat_cmp}
use Rattle.arj_naming.proofs.Apart.{apart_told}
use Rattle.arj_naming.proofs.Quiet.{still_touched}
use Rattle.arj_naming.specs.Touched.{AreTouched, is_touched}
use Rattle.arj_protocol.specs.Named.{hello_named}
use Rattle.arj_naming.proofs.part.Part.hello.Goals as goal

pub invariant_of-self : goal.invariant_of-self
invariant_of-self c =
    let node = c.args.m.now.node in
    let inc = c.args.m.now.inc in
    let f = hello_named node inc in
    let m = c.self.inside.objects.entries in
    let acts = c.self.inside.touched.entries in
    record {
      sorted = subst (λ es. IsStrictlySortedBy nat_cmp (keys_of es)) (sym c.hello_all.ensures.objects) (subst (IsStrictlySortedBy nat_cmp) (sym (keys_of-map_values f m)) c.self.invariant.sorted);
      touched = λ u. subst (λ es. AreTouched u es (is_touched acts u)) (sym c.hello_all.ensures.objects) (still_touched f u (apart_told u node inc) m (is_touched acts u) (c.self.invariant.touched u));
      bound = c.hello_all.ensures.bound;
    }
