use Rattle.std.proofs.Common.{rules, ◌<◌, ◌≤◌, ◌+◌, ◌∙◌, ◌||◌, ◌==◌, ap, sym, subst, cond, get_or, take}
use Rattle.std.proofs.lemmas.List.{take_more}
use Rattle.arj_last.proofs.Counts.{count_more, few, has_more, no_write}
use Rattle.arj_last.specs.Survivors.{count_wrotes, has_wrote}
use Rattle.arj_last.proofs.counting.count.Goals as goal

pub loop-wrote-preserved : goal.loop-wrote-preserved
loop-wrote-preserved c =
    let ws = c.args.wrotes.now in
    let i = c.loop-wrote.wrote-index in
    let w = get_or ws i no_write in
    let next = take_more ws i no_write c.loop-wrote-test.true in
    let before = c.loop-wrote.invariant in
    let n = c.loop-wrote.count in
    let room : n + 1 < 18446744073709551616 = search rules in
    let known = c.is_noted.ensures ∙ before.tops w.top in
    record {
      count = c.counted-count.ensures room ∙ (λ j. cond (known j) (before.count j) (before.count j + 1))
          ∙ sym (count_more (take i ws) w) ∙ ap count_wrotes (sym next);
      few = subst (λ m. m ≤ i + 1) (sym (c.counted-count.ensures room)) (few c.is_noted.result n i before.few);
      tops = λ top. c.in_ok-note_number.ensures top ∙ (λ j. before.tops top j || (w.top == top)) ∙ sym (has_more (take i ws) w top)
          ∙ ap (λ vs. has_wrote vs top) (sym next);
    }
