use Rattle.std.proofs.Common.{◌≡◌, sym, ap, ◌∙◌, ◌++◌, ◌∷◌, [], unwrap_or}
use Rattle.std.proofs.lemmas.Result.{on_ok_weaker, on_err_weaker}
use Rattle.arj_base.specs.Path.{uids_of}
use Rattle.arj_root.proofs.Maps.{put_back, written_back}
use Rattle.arj_root.specs.Noted.{Index, indexed, listed}
use Rattle.arj_root.proofs.index.Index.add.Goals as goal

pub returns-in-Some-clause-added : goal.returns-in-Some-clause-added
returns-in-Some-clause-added c =
    let m = c.self.inside.paths.entries in
    let k = c.args.number in
    let p = uids_of c.args.path.now in
    let found : c.in-Some.paths.now ≡ listed k m = ap (λ o. unwrap_or o []) c.in-Some.ensures.value in
    on_ok_weaker c.push.result (λ is. put_back k m (c.get_mut.follows.lender c.push.new.self).entries c.in-Some.paths.now c.push.new.self (listed k m ++ p ∷ [])
    (sym c.in-Some.ensures.value) c.get_mut.ensures.ordered (c.get_mut.follows.holds c.push.new.self).0 (is ∙ (λ i. found i ++ c.in_ok-trail.ensures i ∷ []))
    ∙ ap (λ (m2 : Index). indexed k p m2) c.self.view_is) c.push.ensures.ok

pub returns-in-Some-clause-kept : goal.returns-in-Some-clause-kept
returns-in-Some-clause-kept c =
    on_err_weaker c.push.result (λ is. written_back c.args.number c.self.inside.paths.entries c.args.self.now (c.get_mut.follows.lender c.push.new.self).entries c.in-Some.paths.now c.push.new.self c.self.view_is
    (sym c.in-Some.ensures.value) (c.get_mut.follows.holds c.push.new.self).0 is) c.push.ensures.err
