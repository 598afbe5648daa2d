-- Names that the comparison tells equal are the same.
use Rattle.std.proofs.Common.{◌≡◌, ◌∙◌, Bool, true, ◌==◌, ◌&&◌, ℕ, List, refl, sym, ap, Some}
use Rattle.std.proofs.lemmas.Bool.{eqb-true, and_parts}
use Rattle.arj_base.proofs.Uids.{uid_is}
use Rattle.arj_base.specs.Uid.{uid_eq}
use Rattle.arj_disk.specs.Disk.{Renames, Writes}
use Rattle.arj_disk.specs.FileMap.{FileMap}
use Rattle.arj_disk.specs.contracts.slot.RolePartialEq.TheImpl as role_eqs
use Rattle.arj_disk.specs.contracts.slot.SlotPartialEq.TheImpl as slot_eqs
use Rattle.arj_disk.specs.declared.slot.Role.{Role}
use Rattle.arj_disk.specs.declared.slot.Role.TheVariants.{Store, Names}
use Rattle.arj_disk.specs.declared.slot.Slot.{Slot}
use Rattle.arj_disk.specs.declared.slot.Slot.TheVariants.{Incarnation, Tmp, Committed, Shadow, Prepared, Intent, Pending, Segment}

abbrev pub is_role : Role → Role → Bool
is_role = (role_eqs.ghosts).eq

abbrev pub is_slot : Slot → Slot → Bool
is_slot = (slot_eqs.ghosts).eq

role_same : (r s : Role) → is_role r s ≡ true → r ≡ s
role_same Store Store e = refl
role_same Store Names e = cc
role_same Names Store e = cc
role_same Names Names e = refl

pub slot_same : (a b : Slot) → is_slot a b ≡ true → a ≡ b
slot_same Incarnation Incarnation e = refl
slot_same Tmp Tmp e = refl
slot_same (Committed u) (Committed w) e = ap Committed (uid_is u w e)
slot_same (Shadow u) (Shadow w) e = ap Shadow (uid_is u w e)
slot_same (Prepared r u) (Prepared s w) e =
    let both = and_parts (is_role r s) (uid_eq u w) e in λ i. Prepared (role_same r s both.0 i) (uid_is u w both.1 i)
slot_same (Intent u) (Intent w) e = ap Intent (uid_is u w e)
slot_same (Pending r u) (Pending s w) e =
    let both = and_parts (is_role r s) (uid_eq u w) e in λ i. Pending (role_same r s both.0 i) (uid_is u w both.1 i)
slot_same (Segment r j) (Segment s k) e =
    let both = and_parts (is_role r s) (j == k) e in λ i. Segment (role_same r s both.0 i) (eqb-true j k both.1 i)
slot_same a b e = cc

-- a file that gets its own name stays
pub renamed_itself : (old new : FileMap) (from to : Slot) (bytes : List ℕ) → from ≡ to → old from ≡ Some bytes → Writes old new to bytes →
    Renames old new from to
renamed_itself old new from to bytes same is written = record {
  here = written.here ∙ sym is;
  gone = λ other. absurd (other same);
  others = λ q _ other. written.others q other;
}
