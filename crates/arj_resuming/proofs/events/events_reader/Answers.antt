use Rattle.std.proofs.Common.{◌≡◌, ◌∙◌, ap, subst}
use Rattle.std.specs.Prelude.{codes}
use Rattle.arj_script.specs.Grammar.{HasForm, Objects, next_place}
use Rattle.arj_resuming.proofs.Behind.{begins, runs}
use Rattle.arj_resuming.proofs.events.events_reader.Goals as goal

pub returns : goal.returns
returns c =
    let a = c.in-Ok.ensures.taken in
    let h = begins a.0 (subst (λ p. HasForm p (codes "nodes 1") a.0) c.new-reader.ensures a.1) in
    let at : c.line.new.self ≡ Objects h.0 = a.3 ∙ ap (λ p. next_place p a.0) c.new-reader.ensures ∙ h.1 in
    let b = c.in-Ok-line.ensures.taken in
    b.3 ∙ ap (λ p. next_place p b.0) at ∙ runs h.0 b.0 (subst (λ p. HasForm p (codes "run") b.0) at b.1)
