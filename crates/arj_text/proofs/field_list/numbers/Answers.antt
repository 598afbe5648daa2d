use Rattle.std.proofs.lemmas.Result.{IfOk-weaker}
use Rattle.arj_text.proofs.ListItems.{number_no_comma, numbers_read}
use Rattle.arj_text.proofs.field_list.numbers.Goals as goal

pub items-requires-clause-no_comma : goal.items-requires-clause-no_comma
items-requires-clause-no_comma c = number_no_comma

pub returns : goal.returns
returns c = IfOk-weaker c.items.result _ _ (λ found read. numbers_read c.args.most c.args.bytes.now found c.if-is_text.ensures read) c.items.ensures
