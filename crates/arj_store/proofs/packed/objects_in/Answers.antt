use Rattle.std.proofs.Common.{◌<◌, ◌∙◌, ◌++◌, ◌∷◌, [], ap, arith, length}
use Rattle.arj_store.proofs.Bytes.{object_next, objects_all, length_is, count_is}
use Rattle.arj_store.proofs.packed.objects_in.Goals as goal

pub uid_at-requires : goal.uid_at-requires
uid_at-requires c =
    let is = c.requires.1 in omega (arith, length_is c.requires.0 is.0 c.args.bytes.now is.4 is.2, count_is c.requires.0 is.0 c.args.bytes.now is.4 is.2)

pub loop-i-preserved : goal.loop-i-preserved
loop-i-preserved c =
    let is = c.requires.1 in
    let within : c.loop-i.i < length is.0 = omega (arith, count_is c.requires.0 is.0 c.args.bytes.now is.4 is.2) in
    c.in_ok-push.ensures.ok ∙ ap (λ us. us ++ c.uid_at.result ∷ []) c.loop-i.invariant ∙ object_next c.requires.0 is.0 c.args.bytes.now is.4 is.2 c.loop-i.i c.uid_at.result within c.uid_at.ensures.bytes c.uid_at.ensures.fits

pub returns : goal.returns
returns c = let is =
    c.requires.1 in c.loop-i.invariant ∙ objects_all c.requires.0 is.0 c.args.bytes.now is.4 is.2 c.loop-i.i (omega (arith, count_is c.requires.0 is.0 c.args.bytes.now is.4 is.2))
