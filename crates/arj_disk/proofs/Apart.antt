-- Files of one role are none of the other's.
use Rattle.std.proofs.Common.{◌≡◌, ◌≢◌, ◌∙◌, sym, ap, Some, None}
use Rattle.arj_disk.specs.declared.slot.Role.{Role}
use Rattle.arj_disk.specs.FileMap.{FileMap}
use Rattle.arj_disk.specs.Says.{slot_role, OnlyOfRole, SameOfRole}

inside : (r s : Role) → Some r ≡ Some s → r ≡ s
inside r s e = cc

pub others_stay : (r s : Role) (old new : FileMap) → r ≢ s → OnlyOfRole r old new → SameOfRole s old new
others_stay r s old new other only q is =
    only q (λ e. other (inside r s (sym e ∙ is))) (λ e. let never : None ≡ Some s = sym (ap slot_role e) ∙ is in absurd (cc never))
