-- A kind with the word would have been found.
use Rattle.std.proofs.Common.{◌≡◌, Some, None, sym, ◌∙◌, subst, arith}
use Rattle.std.specs.Prelude.{find}
use Rattle.std.specs.Str.{bytes_eq}
use Rattle.std.proofs.lemmas.List.{drop_all}
use Rattle.arj_journal_reader.proofs.spelled.one_of.Goals as goal

pub returns : goal.returns
returns g c a fits e =
    let known : find (λ j. bytes_eq (g.K.Spelled.spelling j) c.args.bytes.now) g.K.Spelled.kinds ≡ Some a =
    subst (λ bs. find (λ j. bytes_eq (g.K.Spelled.spelling j) bs) g.K.Spelled.kinds ≡ Some a) (sym e) (g.met.K.Spelled.known a) in
    let left = drop_all c.loop-kind.kind-index c.all-every.result.now (omega arith) in
    let never : None ≡ Some a =
    subst (λ ks. find (λ j. bytes_eq (g.K.Spelled.spelling j) c.args.bytes.now) ks ≡ find (λ j. bytes_eq (g.K.Spelled.spelling j) c.args.bytes.now) g.K.Spelled.kinds) left c.loop-kind.invariant ∙ known in
    cc
