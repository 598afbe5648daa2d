use Rattle.std.proofs.Common.{◌≡◌, List, ℕ, ◌++◌, ◌∙◌, ap, sym, rules, Ok}
use Rattle.arj_base.specs.declared.uid.Uid.{Uid}
use Rattle.arj_base.specs.Uid.{uid_bytes, UidFits}
use Rattle.arj_msg.specs.Fields.{uid}
use Rattle.arj_msg.proofs.FieldLaws.{uid_lawful}
use Rattle.arj_msg.proofs.number.UidField.read.Goals as goal

uid_at : (bytes rest : List ℕ) (u : Uid) → UidFits u → bytes ≡ uid_bytes u ++ rest → uid.read bytes ≡ Ok (u, rest)
unfolding uid
uid_at bytes rest u fits is = ap uid.read is ∙ uid_lawful.again u rest fits

pub returns : goal.returns
returns c =
    let front : c.args.bytes.now ≡ c.in-Some.uid.now ++ c.in-Some.rest.now = search rules in
    uid_at c.args.bytes.now c.in-Some.rest.now c.from_bytes.result c.from_bytes.ensures.fits (front ∙ ap (λ xs. xs ++ c.in-Some.rest.now) (sym c.from_bytes.ensures.bytes))
