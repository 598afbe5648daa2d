use Rattle.std.proofs.Common.{rules, ◌≡◌, ◌≤◌, ◌∙◌, ◌+◌, ◌++◌, ◌==◌, ◌&&◌, Some, ap, drop, false, get_or, length, not, sym, take, true}
use Rattle.arj_last.proofs.Counts.{no_write}
use Rattle.arj_last.specs.declared.picked.Wrote.{Wrote}
use Rattle.arj_past.proofs.Pasts.{front_all, front_on, front_over}
use Rattle.arj_past.specs.Rows.{front_from, left_by, was}
use Rattle.arj_past.proofs.front.front.Goals as goal

pub loop-at-preserved : goal.loop-at-preserved
loop-at-preserved c =
    let ws = c.args.wrotes.now in
    let i = c.loop-at.at in
    let again = c.was-again.ensures in
    let free : (not (was c.loop-at.last (get_or ws i no_write).top) && (c.loop-at.left == 0)) ≡ false =
    sym (sym c.if-is_beyond.false ∙ c.is_beyond.ensures ∙ ap (λ b. not b && (c.loop-at.left == 0)) again) in
    ap (λ n. take (i + 1) ws ++ front_from (λ (w : Wrote). w.top) (Some (get_or ws i no_write).top) n (drop (i + 1) ws)) (c.left_by-left.ensures ∙ ap (λ b. left_by b c.loop-at.left) again)
    ∙ sym (front_on (λ (w : Wrote). w.top) ws i no_write c.loop-at.last c.loop-at.left c.loop-at-test.true free) ∙ c.loop-at.invariant

pub returns-then-is_beyond : goal.returns-then-is_beyond
returns-then-is_beyond c =
    let ws = c.args.wrotes.now in
    let i = c.loop-at.at in
    let over : (not (was c.loop-at.last (get_or ws i no_write).top) && (c.loop-at.left == 0)) ≡ true =
    sym (sym c.if-is_beyond.true ∙ c.is_beyond.ensures ∙ ap (λ b. not b && (c.loop-at.left == 0)) c.was-again.ensures) in
    sym (front_over (λ (w : Wrote). w.top) ws i no_write c.loop-at.last c.loop-at.left c.loop-at-test.true over) ∙ c.loop-at.invariant

pub returns : goal.returns
returns c =
    let ends : length c.args.wrotes.now ≤ c.loop-at.at = search rules in
    sym (front_all (λ (w : Wrote). w.top) c.args.wrotes.now c.loop-at.at c.loop-at.last c.loop-at.left ends) ∙ c.loop-at.invariant
