use Rattle.std.proofs.Common.{◌∙◌, ap, sym, arith, Ok}
use Rattle.arj_msg.proofs.HeadLaws.{reads_path}
use Rattle.arj_msg.proofs.head.PathField.read.Goals as goal

pub path_with-requires : goal.path_with-requires
path_with-requires c =
    let got = reads_path c.args.bytes.now c.in_ok-count.count c.from.result c.min.result c.in_ok-count.rest.now c.in_ok-uids.uids c.as_slice.result.now c.in_ok-uids.rest.now c.in_ok-tops.tops c.in_ok-tops.rest.now (λ i. omega (arith, c.type_inv.bytes i))
    c.from.ensures c.min.ensures c.as_slice.ensures c.in_ok-count.ensures c.in_ok-uids.ensures c.in_ok-tops.ensures in
    record { some = got.some; most = got.most; one_top = got.one_top; two_tops = got.two_tops; within = got.within }

pub returns : goal.returns
returns c =
    let got = reads_path c.args.bytes.now c.in_ok-count.count c.from.result c.min.result c.in_ok-count.rest.now c.in_ok-uids.uids c.as_slice.result.now c.in_ok-uids.rest.now c.in_ok-tops.tops c.in_ok-tops.rest.now (λ i. omega (arith, c.type_inv.bytes i))
    c.from.ensures c.min.ensures c.as_slice.ensures c.in_ok-count.ensures c.in_ok-uids.ensures c.in_ok-tops.ensures in
    got.read ∙ ap (λ p. Ok (p, c.in_ok-tops.rest.now)) (sym c.path_with.ensures)
