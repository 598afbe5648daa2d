use Rattle.std.proofs.Common.{◌≡◌, ◌-◌, ◌∙◌, List, ap, arith, length, suc, take}
use Rattle.std.proofs.Math.Seq.{take-length}
use Rattle.arj_base.specs.Rows.{last_uid}
use Rattle.arj_base.specs.declared.uid.Uid.{Uid}
use Rattle.arj_base.proofs.Paths.{last_taken}
use Rattle.arj_root.proofs.trail.Trail.last.Goals as goal

-- the Uid at the last place
pub returns-in-len1-up : goal.returns-in-len1-up
returns-in-len1-up c =
    let us : List Uid = c.as_slice.result.now in
    let whole : suc (length us - 1) ≡ length us = omega (arith, c.in-len1-up.len_at_least) in
    last_taken us (length us - 1) (omega (arith, c.in-len1-up.len_at_least)) ∙ ap (λ n. last_uid (take n us)) whole
    ∙ ap last_uid (take-length us ∙ c.as_slice.ensures)
