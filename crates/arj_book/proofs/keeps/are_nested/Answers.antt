use Rattle.std.proofs.Common.{◌≡◌, [], map}
use Rattle.std.specs.Prelude.{MatchBool}
use Rattle.std.proofs.lemmas.Result.{IfOk-weaker}
use Rattle.arj_book.proofs.Keys.{freed_test}
use Rattle.arj_book.specs.Kept.{call_in_lines, keys_freed}
use Rattle.arj_model.specs.Nested.{FreedInOrder}
use Rattle.arj_book.proofs.keeps.are_nested.Goals as goal

pub returns : goal.returns
returns c = λ readable keys.
    let lines = c.args.lines.now in
    IfOk-weaker c.are_freed.result (λ is. is ≡ keys_freed (call_in_lines lines) [] (map (λ k. k.items) c.args.keys.now))
    (λ is. MatchBool is (FreedInOrder lines) (FreedInOrder lines → ⊥)) (λ is e. freed_test c.args.header.now lines (c.readable_calls_can_be_run.ensures c.args.header.now lines readable) (c.readable_tops_have_own_keys.ensures c.args.header.now lines readable) is _ keys e) c.are_freed.ensures
