use Rattle.std.proofs.Common.{◌≡◌, ◌∙◌, ◌++◌, ◌∷◌, ℕ, map, ap, sym, subst}
use Rattle.std.proofs.lemmas.List.{append_assoc}
use Rattle.std.specs.Cmp.{nat_cmp_total}
use Rattle.std.specs.List.{AllByRecursion, flat_map}
use Rattle.std.specs.List.Sorted.{IsStrictlySortedBy}
use Rattle.std.specs.Map.{keys_of}
use Rattle.std.specs.Ordering.{nat_cmp}
use Rattle.arj_base.specs.Order.{uid_order}
use Rattle.arj_base.specs.declared.state.ObjectState.{ObjectState}
use Rattle.arj_base.specs.declared.uid.Uid.{Uid}
use Rattle.arj_naming.specs.Entries.{IsEntryState}
use Rattle.arj_naming.specs.Said.{said}
use Rattle.arj_naming.proofs.Appended.{entry_goes}
use Rattle.arj_naming.proofs.Cuts.{said_append}
use Rattle.arj_naming.proofs.Recovered.{by_number}
use Rattle.arj_protocol.specs.Confirm.{back_lines, named_back}
use Rattle.arj_protocol.specs.Effect.{Pair}
use Rattle.arj_protocol.specs.Named.{Named}
use Rattle.arj_naming.proofs.entries.Entries.objects_back.Goals as goal

pub object_of-requires : goal.object_of-requires
object_of-requires c =
    (subst (AllByRecursion (λ (e : Uid × ObjectState). IsEntryState e.0 e.1)) c.in-Some.ensures.steps c.loop-uid.invariant.left).0.state.object

pub loop-uid-preserved-in_ok-insert : goal.loop-uid-preserved-in_ok-insert
loop-uid-preserved-in_ok-insert c =
    let d = c.args.self.now in
    let back = named_back d in
    let u = c.in-Some.uid.now in
    let s = c.in-Some.held.now in
    let next = c.next.new.self in
    let lines_of = flat_map (λ (e : ℕ × Named). back_lines e.1) in
    let step : c.loop-uid.uid-iterator ≡ (u, s) ∷ next = c.in-Some.ensures.steps in
    let left = subst (AllByRecursion (λ (e : Uid × ObjectState). IsEntryState e.0 e.1)) step c.loop-uid.invariant.left in
    let all = subst (λ (p : Pair). AllByRecursion (λ (e : Uid × ObjectState). IsEntryState e.0 e.1) p.held) c.self.view_is c.self.invariant.entries.held in
    let sorted = subst (λ (p : Pair). IsStrictlySortedBy uid_order (keys_of p.held)) c.self.view_is c.iter-uid-items.ensures.ordered in
    let said_here = back_lines (back (u, s)).1 in
    let said_then = lines_of (map back next) in
    record {
      objects = ap (λ os. os ++ map back next) c.in_ok-insert.ensures.entries
          ∙ entry_goes nat_cmp nat_cmp_total c.loop-uid.objects.entries c.object_of.result c.in_ok-object.object (map back c.loop-uid.uid-iterator) (map back next) (map back d.held) c.loop-uid.invariant.objects
          (ap (map back) step ∙ (λ i. (sym c.object_of.ensures i, sym c.in_ok-object.ensures.object i) ∷ map back next)) (by_number d d.held all sorted);
      lines = (λ i. c.in_ok-object.ensures.lines i ++ said said_then)
          ∙ (append_assoc c.loop-uid.out (said said_here) (said said_then)
          ∙ (ap (λ ls. c.loop-uid.out ++ ls) (sym (said_append said_here said_then)) ∙ ((λ i. c.loop-uid.out ++ said (lines_of (map back (sym step i)))) ∙ c.loop-uid.invariant.lines)));
      left = left.1;
    }

pub loop-uid-preserved : goal.loop-uid-preserved
loop-uid-preserved c =
    let d = c.args.self.now in
    let back = named_back d in
    let u = c.in-Some.uid.now in
    let s = c.in-Some.held.now in
    let next = c.next.new.self in
    let lines_of = flat_map (λ (e : ℕ × Named). back_lines e.1) in
    let step : c.loop-uid.uid-iterator ≡ (u, s) ∷ next = c.in-Some.ensures.steps in
    let left = subst (AllByRecursion (λ (e : Uid × ObjectState). IsEntryState e.0 e.1)) step c.loop-uid.invariant.left in
    let all = subst (λ (p : Pair). AllByRecursion (λ (e : Uid × ObjectState). IsEntryState e.0 e.1) p.held) c.self.view_is c.self.invariant.entries.held in
    let sorted = subst (λ (p : Pair). IsStrictlySortedBy uid_order (keys_of p.held)) c.self.view_is c.iter-uid-items.ensures.ordered in
    let said_here = back_lines (back (u, s)).1 in
    let said_then = lines_of (map back next) in
    record {
      objects = ap (λ os. os ++ map back next) c.in_ok-insert.ensures.entries
          ∙ entry_goes nat_cmp nat_cmp_total c.loop-uid.objects.entries c.object_of.result c.in_ok-object.object (map back c.loop-uid.uid-iterator) (map back next) (map back d.held) c.loop-uid.invariant.objects
          (ap (map back) step ∙ (λ i. (sym c.object_of.ensures i, sym c.in_ok-object.ensures.object i) ∷ map back next)) (by_number d d.held all sorted);
      lines = (λ i. c.in_ok-object.ensures.lines i ++ said said_then)
          ∙ (append_assoc c.loop-uid.out (said said_here) (said said_then)
          ∙ (ap (λ ls. c.loop-uid.out ++ ls) (sym (said_append said_here said_then)) ∙ ((λ i. c.loop-uid.out ++ said (lines_of (map back (sym step i)))) ∙ c.loop-uid.invariant.lines)));
      left = left.1;
    }
