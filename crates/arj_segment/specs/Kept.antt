-- What the segment store keeps of the files of its role.
use Rattle.std.proofs.Common.{sym, subst}
use Rattle.arj_disk.specs.declared.slot.Role.{Role}
use Rattle.arj_disk.specs.FileMap.{FileMap}
use Rattle.arj_disk.specs.Says.{SameOfRole}
use Rattle.arj_store.specs.Table.{at}
use Rattle.arj_segment.specs.declared.kept.Kept.{Kept}
use Rattle.arj_segment.specs.Says.{pend, segments}
use Rattle.arj_segment.specs.Stays.{same_pend, same_segments}
use Rattle.arj_segment.specs.Tables.{KeepsPend, KeepsPlaces}

-- what is in memory is what the files of the role say
pub record Keeps (role : Role) (kept : Kept) (file : FileMap) : Type 0 where
  pub pending : KeepsPend (pend file role) (at kept.actions) (at kept.holdings)
  pub committed : KeepsPlaces (segments file role) (at kept.places) kept.numbers

-- it still is where the files of the role are as before
pub keeps_on : (role : Role) (kept : Kept) (old new : FileMap) → SameOfRole role old new → Keeps role kept old → Keeps role kept new
keeps_on role kept old new same keeps = record {
  pending = subst (λ f. KeepsPend f (at kept.actions) (at kept.holdings)) (sym (same_pend role old new same)) keeps.pending;
  committed = subst (λ f. KeepsPlaces f (at kept.places) kept.numbers) (sym (same_segments role old new same)) keeps.committed;
}
