use Rattle.std.proofs.Common.{◌∙◌, ◌++◌, ◌+◌, ap, sym, subst, drop, get_or}
use Rattle.std.proofs.lemmas.List.{drop_more, append_assoc}
use Rattle.arj_naming.specs.Entries.{IsOnce}
use Rattle.arj_naming.specs.Said.{said}
use Rattle.arj_naming.proofs.Confirms.{still_free}
use Rattle.arj_naming.proofs.Cuts.{said_append}
use Rattle.arj_naming.proofs.Firsts.{head_none, tail_none}
use Rattle.arj_protocol.specs.Confirm.{first_of_each, lock_all, lock_in, refused_exclude}
use Rattle.arj_protocol.specs.Order.{at_number}
use Rattle.arj_naming.proofs.part.Part.lock_all.Goals as goal

pub lock_in-requires : goal.lock_in-requires
lock_in-requires c =
    head_none (refused_exclude c.args.path.now c.loop-x.self) c.args.xs.now c.loop-x.x-index 0 c.loop-x-test.true c.loop-x.invariant.free

pub loop-x-preserved : goal.loop-x-preserved
loop-x-preserved c =
    let p = c.args.path.now in
    let i = c.loop-x.x-index in
    let n = c.loop-x.self in
    let x = get_or c.args.xs.now i 0 in
    let rest = drop (i + 1) c.args.xs.now in
    let more = drop_more c.args.xs.now i 0 c.loop-x-test.true in
    let did = lock_in x p n (at_number x n.objects) in
    let once = subst IsOnce more c.loop-x.invariant.once in
    record {
      part = (λ j. (lock_all rest p (c.in_ok-lock_in.ensures.part j)).part) ∙ ((λ j. (lock_all (sym more j) p n).part) ∙ c.loop-x.invariant.part);
      lines = (λ j. c.in_ok-lock_in.ensures.lines j ++ said (lock_all rest p (c.in_ok-lock_in.ensures.part j)).outs)
          ∙ (append_assoc c.loop-x.out (said did.outs) (said (lock_all rest p did.part).outs)
          ∙ (ap (λ ls. c.loop-x.out ++ ls) (sym (said_append did.outs (lock_all rest p did.part).outs)) ∙ ((λ j. c.loop-x.out ++ said (lock_all (sym more j) p n).outs) ∙ c.loop-x.invariant.lines)));
      free = (λ j. first_of_each (refused_exclude p (c.in_ok-lock_in.ensures.part j)) rest) ∙ still_free p x rest n (at_number x n.objects) once.0 (tail_none (refused_exclude p n) c.args.xs.now i 0 c.loop-x-test.true c.loop-x.invariant.free);
      once = once.1;
    }
