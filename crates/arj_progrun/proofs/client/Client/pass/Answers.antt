-- the next statement is left behind
use Rattle.std.proofs.Common.{◌∙◌, [], ap, sym, subst, append-nil}
use Rattle.arj_progrun.proofs.Passing.{pass_block, pass_top}
use Rattle.arj_progrun.proofs.Stacks.{none_stacked, stacked_more}
use Rattle.arj_progrun.specs.Levels.{IsPassed, client_of, level_of, rest_of, stacked}
use Rattle.arj_progrun.proofs.client.Client.pass.Goals as goal

pub returns-in_default : goal.returns-in_default
returns-in_default c =
    let old = c.args.self.now in
    let same = sym (append-nil c.pop.new.self.items) ∙ sym c.in_default.ensures.items in
    subst (λ bs. IsPassed (client_of old) c.in_ok-front.front (record (client_of old) {
      top = level_of c.pass.new.self;
      blocks =
          stacked bs [];
    })) (sym same)
    (pass_top (client_of old) c.in_ok-front.front (level_of c.pass.new.self) (rest_of c.pass.new.self.rest.items)
    (none_stacked old.blocks c.in_default.ensures.cases.0) c.in_ok-front.ensures.front c.in_ok-front.ensures.others)

pub returns : goal.returns
returns c =
    let old = c.args.self.now in
    subst (λ bs. IsPassed (client_of old) c.in_ok-found.found (record (client_of old) { blocks = bs }))
    (sym (ap (λ ks. stacked ks []) c.in_ok-push.ensures.items ∙ stacked_more c.pop.new.self.items c.pass-2.new.self []))
    (pass_block (client_of old) c.in_ok-found.found (level_of c.in-Some.block) (level_of c.pass-2.new.self)
    (stacked c.pop.new.self.items []) (rest_of c.pass-2.new.self.rest.items)
    (ap (λ ks. stacked ks []) c.in-Some.ensures.items
    ∙ stacked_more c.pop.new.self.items c.in-Some.block []) c.in_ok-found.ensures.front c.in_ok-found.ensures.others)
