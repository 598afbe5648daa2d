use Rattle.std.proofs.Common.{List, sym, subst, ◌∙◌}
use Rattle.std.specs.List.Sorted.{IsStrictlySortedBy}
use Rattle.std.specs.Map.{keys_of}
use Rattle.arj_coord.proofs.Deferred.{deferred_is}
use Rattle.arj_protocol.specs.Effect.{Intent}
use Rattle.arj_protocol.specs.Words.{Uid, uid_order}
use Rattle.arj_coord.proofs.records.Records.is_deferred_without.Goals as goal

pub returns : goal.returns
returns c =
    c.is_deferred_but.ensures
    ∙ sym (deferred_is c.args.without c.args.root c.args.node c.args.self.now (subst (λ (es : List (Uid × Intent)). IsStrictlySortedBy uid_order (keys_of es)) c.self.view_is c.len-count.ensures.ordered))
