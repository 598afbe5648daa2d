use Rattle.std.proofs.Common.{◌∙◌, ap, sym, subst}
use Rattle.std.proofs.lemmas.Map.Made.{keys_of-map_values}
use Rattle.std.specs.List.Sorted.{IsStrictlySortedBy}
use Rattle.std.specs.Map.{keys_of}
use Rattle.std.specs.Ordering.{nat_cmp}
use Rattle.arj_naming.proofs.Apart.{apart_later}
use Rattle.arj_naming.proofs.Quiet.{still_touched}
use Rattle.arj_naming.proofs.Servers.{ended_live}
use Rattle.arj_naming.specs.Bound.{live_at}
use Rattle.arj_naming.specs.Touched.{AreTouched, is_touched}
use Rattle.arj_protocol.specs.Named.{end_named}
use Rattle.arj_protocol.specs.Naming.{end_locks}
use Rattle.arj_naming.proofs.part.Part.end.Goals as goal

pub returns : goal.returns
returns c =
    (λ i. record {
      inc = c.self.inside.counter.inc;
      count = c.self.inside.counter.count;
      objects = c.end_under.ensures i;
      confirmed =
          c.drop_uid.ensures i;
      told = c.in_ok-insert.ensures.keys i;
    }) ∙ ap (end_locks c.args.action c.args.end) c.self.view_is

pub invariant_of-self-2 : goal.invariant_of-self-2
invariant_of-self-2 c =
    let u = c.args.action in
    let f = end_named u c.args.end in
    let m = c.self.inside.objects.entries in
    let acts = c.self.inside.touched.entries in
    let es = c.end_under.new.objects.entries in
    record {
      sorted = subst (λ es. IsStrictlySortedBy nat_cmp (keys_of es)) (sym c.end_under.ensures) (subst (IsStrictlySortedBy nat_cmp) (sym (keys_of-map_values f m)) c.self.invariant.sorted);
      touched = λ v. c.tidy.ensures v (c.tidy_all.ensures v (subst (λ es. AreTouched v es (is_touched acts v)) (sym c.end_under.ensures) (still_touched f v (apart_later u v c.args.end) m (is_touched acts v) (c.self.invariant.touched v))));
      bound = λ q l live. c.self.invariant.bound q l (sym (ended_live u c.args.end m q) ∙ (ap (live_at q) (sym c.end_under.ensures) ∙ live));
    }
