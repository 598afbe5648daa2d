-- behind all transfers
use Rattle.std.proofs.Common.{◌≡◌, ◌∷◌, ◌++◌, ◌∙◌, [], ap, arith, codes, length, sym}
use Rattle.std.proofs.lemmas.List.{length-map}
use Rattle.std.proofs.lemmas.Bool.Decides.{nat_tests}
use Rattle.arj_gen.specs.Bank.{lines_of_first}
use Rattle.arj_gen.proofs.Counts.{all_counted}
use Rattle.arj_journal.specs.ScriptText.{event_text}
use Rattle.arj_gen.proofs.bank.events.Goals as goal

pub returns-clause-texts : goal.returns-clause-texts
returns-clause-texts c =
    let all : c.loop-k.k ≡ 200 = (let test = c.loop-k-test.false in let most = c.loop-k.auto.k-end in grind (arith, nat_tests)) in
    c.in_ok-put.ensures.texts ∙ ap (λ ls. ls ++ codes "quiesce" ∷ []) (c.loop-k.invariant.texts ∙ ap (lines_of_first c.args.n) all)

pub returns-clause-count : goal.returns-clause-count
returns-clause-count c = sym (length-map c.put.new.events event_text) ∙ (ap length (returns-clause-texts c) ∙ all_counted c.args.n)
