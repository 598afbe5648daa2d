use Rattle.std.proofs.Common.{◌≡◌, rules, sym, ap, ◌∙◌, ◌++◌, ◌∷◌, [], unwrap_or}
use Rattle.std.proofs.lemmas.Result.{on_ok_weaker, on_err_weaker}
use Rattle.arj_protocol.specs.Order.{put_number}
use Rattle.arj_root.proofs.Maps.{put_back, written_back}
use Rattle.arj_root.specs.Placed.{Places, with_place, placed}
use Rattle.arj_root.proofs.places.Places.add.Goals as goal

pub returns-in-Some-clause-added : goal.returns-in-Some-clause-added
returns-in-Some-clause-added c =
    let m = c.self.inside.places.entries in
    let k = c.args.x in
    let found : c.in-Some.places.now ≡ placed k m = ap (λ o. unwrap_or o []) c.in-Some.ensures.value in
    on_ok_weaker c.push.result (λ is. put_back k m (c.get_mut.follows.lender c.push.new.self).entries c.in-Some.places.now c.push.new.self (placed k m ++ (c.args.top, c.args.place) ∷ [])
    (sym c.in-Some.ensures.value) c.get_mut.ensures.ordered (c.get_mut.follows.holds c.push.new.self).0 (is ∙ ap (λ es. es ++ (c.args.top, c.args.place) ∷ []) found)
    ∙ ap (λ (m2 : Places). with_place k c.args.top c.args.place m2) c.self.view_is) c.push.ensures.ok

pub returns-in-Some-clause-kept : goal.returns-in-Some-clause-kept
returns-in-Some-clause-kept c =
    on_err_weaker c.push.result (λ is. written_back c.args.x c.self.inside.places.entries c.args.self.now (c.get_mut.follows.lender c.push.new.self).entries c.in-Some.places.now c.push.new.self c.self.view_is
    (sym c.in-Some.ensures.value) (c.get_mut.follows.holds c.push.new.self).0 is) c.push.ensures.err

pub returns-clause-added : goal.returns-clause-added
returns-clause-added c =
    let m = c.self.inside.places.entries in
    let k = c.args.x in
    let none : [] ≡ placed k m = ap (λ o. unwrap_or o []) c.in_default.ensures.value in
    let same : c.get_mut.follows.lender-at-none.entries ≡ m = search rules in
    c.in_ok-insert.ensures.entries
    ∙ (λ i. put_number k ((c.in_ok-push.ensures.ok ∙ ap (λ es. es ++ (c.args.top, c.args.place) ∷ []) (c.new-places.ensures ∙ none)) i) (same i))
    ∙ ap (λ (m2 : Places). with_place k c.args.top c.args.place m2) c.self.view_is
