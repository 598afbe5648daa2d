use Rattle.std.proofs.Common.{◌∙◌, ◌∷◌, ◌++◌, ◌+◌, ap, sym, map, drop}
use Rattle.std.proofs.lemmas.List.{drop_more}
use Rattle.arj_coord.proofs.Appended.{put_next}
use Rattle.arj_intent.specs.Records.{entry_of}
use Rattle.arj_protocol.specs.Effect as protocol
use Rattle.arj_coord.proofs.records.Records.of_found.Goals as goal

pub loop-intent-preserved : goal.loop-intent-preserved
loop-intent-preserved c =
    let i = c.loop-intent.intent-index in
    let all = c.args.found.now in
    let s = c.intent-item.result in
    let rest = drop (i + 1) all in
    let left = ap (map entry_of) (drop_more all i s c.loop-intent-test.true ∙ ap (λ t. t ∷ rest) (sym c.intent-item.is)) ∙ ap (λ (r : protocol.Intent). (s.top, r) ∷ map entry_of rest) (sym c.in_ok-record_of.ensures) in
    ap (λ es. es ++ map entry_of rest) c.in_ok-insert.ensures.entries
    ∙ put_next c.loop-intent.by_top.entries (map entry_of (drop i all)) (map entry_of rest) (map entry_of all) s.top _ c.loop-intent.invariant left c.requires
