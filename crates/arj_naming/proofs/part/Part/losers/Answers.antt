use Rattle.std.proofs.Common.{◌≡◌, ◌∙◌, [], ap, sym, subst}
use Rattle.std.proofs.lemmas.Result.{IfOk-weaker}
use Rattle.std.specs.List.{list_any}
use Rattle.arj_base.specs.Rows.{is_on}
use Rattle.arj_base.specs.declared.uid.Uid.{Uid}
use Rattle.arj_naming.proofs.Apart.{no_loser}
use Rattle.arj_naming.proofs.Quiet.{any_touched}
use Rattle.arj_naming.specs.Touched.{AreTouched, any_of, is_in_set}
use Rattle.arj_protocol.specs.Named.{Named}
use Rattle.arj_protocol.specs.Naming.{loses, loses_row}
use Rattle.arj_naming.proofs.part.Part.losers.Goals as goal

pub returns-in-Some : goal.returns-in-Some
returns-in-Some c =
    let u = c.args.action in
    let m = c.self.inside.objects.entries in
    let xs = c.in-Some.xs.now.keys in
    IfOk-weaker c.all_losers.result (λ losers. (act : Uid) →
    is_on losers.keys act ≡ any_of (λ (o : Named). list_any (loses u act) o.rows) m xs)
    (λ losers. (act : Uid) → is_on losers.keys act ≡ loses_row u act c.args.self.now)
    (λ losers is act. is act
    ∙ (any_touched u (λ (o : Named). list_any (loses u act) o.rows) m xs c.self.invariant.sorted (subst (λ s. AreTouched u m (λ x. is_in_set x s)) (sym c.in-Some.ensures.value) (c.self.invariant.touched u)) (λ o apart. no_loser u act o.rows apart.rows)
    ∙ ap (loses_row u act) c.self.view_is)) c.all_losers.ensures

pub returns-in-None : goal.returns-in-None
returns-in-None c = λ act.
    let u = c.args.action in
    let m = c.self.inside.objects.entries in
    ap (λ ks. is_on ks act) c.new.ensures.empty
    ∙ (any_touched u (λ (o : Named). list_any (loses u act) o.rows) m [] c.self.invariant.sorted (subst (λ s. AreTouched u m (λ x. is_in_set x s)) (sym c.in-None.ensures.value) (c.self.invariant.touched u)) (λ o apart. no_loser u act o.rows apart.rows)
    ∙ ap (loses_row u act) c.self.view_is)
