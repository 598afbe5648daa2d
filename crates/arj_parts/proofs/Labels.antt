-- What a coordinator does about the action that a label names.
use Rattle.std.proofs.Common.{◌≡◌, ◌++◌, List, refl, sym, subst, None}
use Rattle.std.proofs.lemmas.List.{append-nil}
use Rattle.std.specs.Prelude.{IfSome}
use Rattle.arj_node.specs.Acting.{asked_of}
use Rattle.arj_node.specs.declared.act.Act.{Act}
use Rattle.arj_parts.specs.Named.{IsAfter, NamesOne}
use Rattle.arj_protocol.specs.Ask.{actor}
use Rattle.arj_protocol.specs.Coord.{Coord}
use Rattle.arj_protocol.specs.Effect.{Did, Effect, Intent}
use Rattle.arj_protocol.specs.Step.{acts, branch_named, on_branch}
use Rattle.arj_protocol.specs.Tree.{Branch, branch_of}
use Rattle.arj_protocol.specs.Words.{Uid, Label}

-- with no such action it does nothing
pub none_does : (f : Branch → Did Coord) (l : Label) (c : Coord) (outs : List Effect) → branch_named l c ≡ None →
    IsAfter (on_branch f c (branch_named l c)) c outs outs
none_does f l c outs none =
    subst (λ o. IsAfter (on_branch f c o) c outs outs) (sym none) (record { part = refl; outs = sym (append-nil outs) })

-- what it does about the action's branch
pub named_does : (f : Branch → Did Coord) (l : Label) (c now : Coord) (u : Uid) (before after : List Effect) → NamesOne l c u
    → IfSome (branch_of u c.tree) (λ b. now ≡ (f b).part) → IfSome (branch_of u c.tree) (λ b. after ≡ before ++ (f b).outs) →
    IsAfter (on_branch f c (branch_named l c)) now before after
named_does f l c now u before after names part outs = subst (λ o. IsAfter (on_branch f c o) now before after) (sym names.is) (record {
  part = subst (λ o. IfSome o (λ b. now ≡ (f b).part)) names.of part;
  outs = subst (λ o. IfSome o (λ b. after ≡ before ++ (f b).outs)) names.of outs;
})

-- what it does about the action's Uid
pub acts_does : (f : Uid → Did Coord) (l : Label) (c now : Coord) (u : Uid) (before after : List Effect) → NamesOne l c u
    → now ≡ (f u).part → after ≡ before ++ (f u).outs → IsAfter (on_branch (λ b. f (actor b.path)) c (branch_named l c)) now before after
acts_does f l c now u before after names part outs =
    subst (λ o. IsAfter (on_branch (λ b. f (actor b.path)) c o) now before after) (sym names.is)
    (subst (λ w. IsAfter (f w) now before after) (sym names.actor_is) (record { part = part; outs = outs }))

-- it is this act that is done
pub same_act : (records : List (Uid × Intent)) (c now : Coord) (before after : List Effect) (act this : Act) → act ≡ this →
    IsAfter (acts (asked_of this) records c) now before after → IsAfter (acts (asked_of act) records c) now before after
same_act records c now before after act this is = subst (λ a. IsAfter (acts (asked_of a) records c) now before after) (sym is)
