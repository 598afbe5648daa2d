use Rattle.std.proofs.Common.{◌∙◌, ◌∷◌, ◌++◌, [], lit<, refl, sym, ap, subst}
use Rattle.arj_journal.specs.declared.limits.TheConstants.{SERVERS, STORES}
use Rattle.arj_text.specs.Fields.{NodesInForm, NumberInForm}
use Rattle.arj_part_tests.proofs.beginnings.object.Goals as goal

-- the counter is at 0, its one server is node 1, and its stores are those that were given
pub returns-clause-form : goal.returns-clause-form
returns-clause-form c = (
  record {
    number = c.requires.number;
    value = subst NumberInForm (sym c.new.ensures) (lit< tt);
    servers = subst (NodesInForm 2 SERVERS) (sym (c.in_ok-push.ensures.ok ∙ ap (λ ns. ns ++ 1 ∷ []) c.new-servers.ensures)) refl;
    stores = subst (NodesInForm 2 STORES) (sym (c.in_ok-extend.ensures.ok ∙ ap (λ ns. ns ++ c.args.stores.now) c.new-nodes.ensures)) c.requires.stores;
  },
  refl,
)
