use Rattle.std.proofs.Common.{◌≡◌, ◌∙◌, ap, rules, sym}
use Rattle.std.proofs.lemmas.Result.{IfOk-weaker, on_ok_weaker}
use Rattle.arj_bind.specs.Heard.{heard_in, hears}
use Rattle.arj_coord.proofs.InPlace.{answered_first, answered_there, found_there, none_there, shown}
use Rattle.arj_protocol.specs.Coord.{Root, keeping_of}
use Rattle.arj_protocol.specs.Tree.{root_of}
use Rattle.arj_protocol.specs.Words.{Path}
use Rattle.arj_coord.proofs.coord.Coord.answered.Goals as goal

pub returns-in-Some-clause-came : goal.returns-in-Some-clause-came
returns-in-Some-clause-came c =
    let s = c.args.steps in
    let same : c.root-root.result ≡ root_of s.path = c.root-root.ensures ∙ ap (λ (p : Path). root_of p) c.path.ensures in
    IfOk-weaker c.answered.result _ _
    (λ step is. is ∙ ap (λ (r : Root). let h = hears c.args.free (keeping_of s.x r) s (heard_in c.args.from c.args.message.value s) in h.came)
    (found_there (root_of s.path) c.root-root.result c.args.self.now (shown c.self.inside) c.in-Some.has.now same c.self.view_is (sym c.in-Some.ensures.value)))
    c.answered.ensures.came

pub returns-in-Some-clause-part : goal.returns-in-Some-clause-part
returns-in-Some-clause-part c =
    let s = c.args.steps in
    let same : c.root-root.result ≡ root_of s.path = c.root-root.ensures ∙ ap (λ (p : Path). root_of p) c.path.ensures in
    on_ok_weaker c.answered.result
    (λ moved. answered_there s c.args.free (heard_in c.args.from c.args.message.value s) c.root-root.result c.args.self.now (shown c.self.inside) c.in-Some.has.now c.answered.new.self
    (c.get_mut.follows.lender c.answered.new.self).entries same c.self.view_is (sym c.in-Some.ensures.value) c.get_mut.ensures.ordered (c.get_mut.follows.holds c.answered.new.self).0 moved)
    c.answered.ensures.root

pub returns-in-Ok-clause-came : goal.returns-in-Ok-clause-came
returns-in-Ok-clause-came c =
    let s = c.args.steps in
    let same : c.root-root.result ≡ root_of s.path = c.root-root.ensures ∙ ap (λ (p : Path). root_of p) c.path.ensures in
    c.in_ok-step.ensures.came
    ∙ ap (λ (r : Root). let h = hears c.args.free (keeping_of s.x r) s (heard_in c.args.from c.args.message.value s) in h.came)
    (none_there (root_of s.path) c.root-root.result c.args.self.now (shown c.self.inside) c.new-has.result same c.self.view_is (sym c.in_default.ensures.value) c.new-has.ensures)

pub returns-in-Ok-clause-part : goal.returns-in-Ok-clause-part
returns-in-Ok-clause-part c =
    let s = c.args.steps in
    let same : c.root-root.result ≡ root_of s.path = c.root-root.ensures ∙ ap (λ (p : Path). root_of p) c.path.ensures in
    let left : c.get_mut.follows.lender-at-none.entries ≡ c.self.inside.roots.entries = search rules in
    answered_first s c.args.free (heard_in c.args.from c.args.message.value s) c.root-root.result c.args.self.now (shown c.self.inside) c.add_root.new.self c.new-has.result c.answered-2.new.self
    c.get_mut.follows.lender-at-none.entries same c.self.view_is (sym c.in_default.ensures.value) left c.new-has.ensures c.in_ok-step.ensures.root c.in-Ok.ensures
