use Rattle.std.proofs.Common.{ℕ, ◌<◌, List, arith, ap, length, sym, subst}
use Rattle.std.proofs.lemmas.Bool.Decides.{nat_tests}
use Rattle.arj_disk.specs.Disk.{Puts, PutsOrNot}
use Rattle.arj_disk.specs.declared.slot.Slot.TheVariants.{Segment}
use Rattle.arj_store.specs.Pair.{SamePair}
use Rattle.arj_store.specs.Table.{at}
use Rattle.arj_segment.specs.Formed.{IsFormed}
use Rattle.arj_segment.specs.Says.{pair_of, pend, segments}
use Rattle.arj_segment.specs.Steps.{AreGone, IsMerged, RemovesSome}
use Rattle.arj_segment.specs.Tables.{AreNumbers, KeepsPend, KeepsPlaces}
use Rattle.arj_segment.proofs.Changes.{pair_itself}
use Rattle.arj_segment.proofs.Merged.{put_or_not, removed_formed, removed_others, removed_pair, removed_pend, removed_places}
use Rattle.arj_segment.proofs.Puts.{segment_others}
use Rattle.arj_segment.proofs.merging.merge.Goals as goal

pub merged_file-requires-clause-numbers : goal.merged_file-requires-clause-numbers
merged_file-requires-clause-numbers g c =
    subst (AreNumbers (segments (g.D.Disk.file c.args.disk.now) c.args.role)) (sym c.as_slice-2.ensures) c.requires.keeps.committed.numbers_are

pub returns-in_err-number-clause-pair : goal.returns-in_err-number-clause-pair
returns-in_err-number-clause-pair g c =
    subst (λ f. SamePair (pair_of (g.D.Disk.file c.args.disk.now) c.args.role) (pair_of f c.args.role)) (sym c.merged_file.ensures.files) (pair_itself c.args.role (g.D.Disk.file c.args.disk.now))

pub returns-in_err-number-clause-formed : goal.returns-in_err-number-clause-formed
returns-in_err-number-clause-formed g c = subst (λ f. IsFormed f c.args.role) (sym c.merged_file.ensures.files) c.requires.formed

pub returns-in_err-put-clause-pair : goal.returns-in_err-put-clause-pair
returns-in_err-put-clause-pair g c =
    let bytes : List ℕ = c.as_slice-3.result.now in
    let m : IsMerged c.args.role (g.D.Disk.file c.args.disk.now) c.args.kept.now.numbers c.in_ok-number.number bytes =
    subst (λ ks. IsMerged c.args.role (g.D.Disk.file c.args.disk.now) ks c.in_ok-number.number bytes) c.as_slice-2.ensures (subst (λ b. IsMerged c.args.role (g.D.Disk.file c.args.disk.now) c.as_slice-2.result.now c.in_ok-number.number b) (sym c.as_slice-3.ensures) c.in_ok-number.ensures.merged) in
    let puts : PutsOrNot (g.D.Disk.file c.args.disk.now) (g.D.Disk.file c.put.new.disk) (Segment c.args.role c.in_ok-number.number) bytes =
    subst (λ f. PutsOrNot f (g.D.Disk.file c.put.new.disk) (Segment c.args.role c.in_ok-number.number) bytes) c.merged_file.ensures.files c.put.ensures.files in
    let same = ap length c.as_slice.ensures in
    let some : 0 < length c.args.kept.now.numbers = grind (arith, nat_tests, same) in
    (put_or_not c.args.role (g.D.Disk.file c.args.disk.now) c.requires.formed c.args.kept.now.numbers c.requires.keeps.committed.numbers_are c.in_ok-number.number bytes m (g.D.Disk.file c.put.new.disk) puts some).1

pub returns-in_err-put-clause-formed : goal.returns-in_err-put-clause-formed
returns-in_err-put-clause-formed g c =
    let bytes : List ℕ = c.as_slice-3.result.now in
    let m : IsMerged c.args.role (g.D.Disk.file c.args.disk.now) c.args.kept.now.numbers c.in_ok-number.number bytes =
    subst (λ ks. IsMerged c.args.role (g.D.Disk.file c.args.disk.now) ks c.in_ok-number.number bytes) c.as_slice-2.ensures (subst (λ b. IsMerged c.args.role (g.D.Disk.file c.args.disk.now) c.as_slice-2.result.now c.in_ok-number.number b) (sym c.as_slice-3.ensures) c.in_ok-number.ensures.merged) in
    let puts : PutsOrNot (g.D.Disk.file c.args.disk.now) (g.D.Disk.file c.put.new.disk) (Segment c.args.role c.in_ok-number.number) bytes =
    subst (λ f. PutsOrNot f (g.D.Disk.file c.put.new.disk) (Segment c.args.role c.in_ok-number.number) bytes) c.merged_file.ensures.files c.put.ensures.files in
    let same = ap length c.as_slice.ensures in
    let some : 0 < length c.args.kept.now.numbers = grind (arith, nat_tests, same) in
    (put_or_not c.args.role (g.D.Disk.file c.args.disk.now) c.requires.formed c.args.kept.now.numbers c.requires.keeps.committed.numbers_are c.in_ok-number.number bytes m (g.D.Disk.file c.put.new.disk) puts some).0

pub returns-in_err-put-clause-others : goal.returns-in_err-put-clause-others
returns-in_err-put-clause-others g c =
    let bytes : List ℕ = c.as_slice-3.result.now in
    let puts : PutsOrNot (g.D.Disk.file c.args.disk.now) (g.D.Disk.file c.put.new.disk) (Segment c.args.role c.in_ok-number.number) bytes =
    subst (λ f. PutsOrNot f (g.D.Disk.file c.put.new.disk) (Segment c.args.role c.in_ok-number.number) bytes) c.merged_file.ensures.files c.put.ensures.files in
    segment_others c.args.role c.in_ok-number.number (g.D.Disk.file c.args.disk.now) (g.D.Disk.file c.put.new.disk) puts.others

pub returns-in_err-remove_segments-clause-pair : goal.returns-in_err-remove_segments-clause-pair
returns-in_err-remove_segments-clause-pair g c =
    let bytes : List ℕ = c.as_slice-3.result.now in
    let m : IsMerged c.args.role (g.D.Disk.file c.args.disk.now) c.args.kept.now.numbers c.in_ok-number.number bytes =
    subst (λ ks. IsMerged c.args.role (g.D.Disk.file c.args.disk.now) ks c.in_ok-number.number bytes) c.as_slice-2.ensures (subst (λ b. IsMerged c.args.role (g.D.Disk.file c.args.disk.now) c.as_slice-2.result.now c.in_ok-number.number b) (sym c.as_slice-3.ensures) c.in_ok-number.ensures.merged) in
    let puts : Puts (g.D.Disk.file c.args.disk.now) (g.D.Disk.file c.put.new.disk) (Segment c.args.role c.in_ok-number.number) bytes =
    subst (λ f. Puts f (g.D.Disk.file c.put.new.disk) (Segment c.args.role c.in_ok-number.number) bytes) c.merged_file.ensures.files c.in_ok-put.ensures.ok in
    let removes : RemovesSome c.args.role c.args.kept.now.numbers (g.D.Disk.file c.put.new.disk) (g.D.Disk.file c.remove_segments.new.disk) = subst (λ ks. RemovesSome c.args.role ks (g.D.Disk.file c.put.new.disk) (g.D.Disk.file c.remove_segments.new.disk)) c.as_slice-4.ensures c.remove_segments.ensures.files in
    removed_pair c.args.role (g.D.Disk.file c.args.disk.now) c.requires.formed c.args.kept.now.numbers c.requires.keeps.committed.numbers_are c.in_ok-number.number bytes m (g.D.Disk.file c.put.new.disk) (g.D.Disk.file c.remove_segments.new.disk) puts.others puts.here removes

pub returns-in_err-remove_segments-clause-formed : goal.returns-in_err-remove_segments-clause-formed
returns-in_err-remove_segments-clause-formed g c =
    let bytes : List ℕ = c.as_slice-3.result.now in
    let m : IsMerged c.args.role (g.D.Disk.file c.args.disk.now) c.args.kept.now.numbers c.in_ok-number.number bytes =
    subst (λ ks. IsMerged c.args.role (g.D.Disk.file c.args.disk.now) ks c.in_ok-number.number bytes) c.as_slice-2.ensures (subst (λ b. IsMerged c.args.role (g.D.Disk.file c.args.disk.now) c.as_slice-2.result.now c.in_ok-number.number b) (sym c.as_slice-3.ensures) c.in_ok-number.ensures.merged) in
    let puts : Puts (g.D.Disk.file c.args.disk.now) (g.D.Disk.file c.put.new.disk) (Segment c.args.role c.in_ok-number.number) bytes =
    subst (λ f. Puts f (g.D.Disk.file c.put.new.disk) (Segment c.args.role c.in_ok-number.number) bytes) c.merged_file.ensures.files c.in_ok-put.ensures.ok in
    let removes : RemovesSome c.args.role c.args.kept.now.numbers (g.D.Disk.file c.put.new.disk) (g.D.Disk.file c.remove_segments.new.disk) = subst (λ ks. RemovesSome c.args.role ks (g.D.Disk.file c.put.new.disk) (g.D.Disk.file c.remove_segments.new.disk)) c.as_slice-4.ensures c.remove_segments.ensures.files in
    let same = ap length c.as_slice.ensures in
    let some : 0 < length c.args.kept.now.numbers = grind (arith, nat_tests, same) in
    removed_formed c.args.role (g.D.Disk.file c.args.disk.now) c.requires.formed c.args.kept.now.numbers c.requires.keeps.committed.numbers_are c.in_ok-number.number bytes m (g.D.Disk.file c.put.new.disk) (g.D.Disk.file c.remove_segments.new.disk) puts.others puts.here removes some

pub returns-in_err-remove_segments-clause-others : goal.returns-in_err-remove_segments-clause-others
returns-in_err-remove_segments-clause-others g c =
    let bytes : List ℕ = c.as_slice-3.result.now in
    let m : IsMerged c.args.role (g.D.Disk.file c.args.disk.now) c.args.kept.now.numbers c.in_ok-number.number bytes =
    subst (λ ks. IsMerged c.args.role (g.D.Disk.file c.args.disk.now) ks c.in_ok-number.number bytes) c.as_slice-2.ensures (subst (λ b. IsMerged c.args.role (g.D.Disk.file c.args.disk.now) c.as_slice-2.result.now c.in_ok-number.number b) (sym c.as_slice-3.ensures) c.in_ok-number.ensures.merged) in
    let puts : Puts (g.D.Disk.file c.args.disk.now) (g.D.Disk.file c.put.new.disk) (Segment c.args.role c.in_ok-number.number) bytes =
    subst (λ f. Puts f (g.D.Disk.file c.put.new.disk) (Segment c.args.role c.in_ok-number.number) bytes) c.merged_file.ensures.files c.in_ok-put.ensures.ok in
    let removes : RemovesSome c.args.role c.args.kept.now.numbers (g.D.Disk.file c.put.new.disk) (g.D.Disk.file c.remove_segments.new.disk) = subst (λ ks. RemovesSome c.args.role ks (g.D.Disk.file c.put.new.disk) (g.D.Disk.file c.remove_segments.new.disk)) c.as_slice-4.ensures c.remove_segments.ensures.files in
    removed_others c.args.role (g.D.Disk.file c.args.disk.now) c.requires.formed c.args.kept.now.numbers c.requires.keeps.committed.numbers_are c.in_ok-number.number bytes m (g.D.Disk.file c.put.new.disk) (g.D.Disk.file c.remove_segments.new.disk) puts.others puts.here removes

pub returns-in_err-all_in_one-clause-pair : goal.returns-in_err-all_in_one-clause-pair
returns-in_err-all_in_one-clause-pair g c =
    let bytes : List ℕ = c.as_slice-3.result.now in
    let m : IsMerged c.args.role (g.D.Disk.file c.args.disk.now) c.args.kept.now.numbers c.in_ok-number.number bytes =
    subst (λ ks. IsMerged c.args.role (g.D.Disk.file c.args.disk.now) ks c.in_ok-number.number bytes) c.as_slice-2.ensures (subst (λ b. IsMerged c.args.role (g.D.Disk.file c.args.disk.now) c.as_slice-2.result.now c.in_ok-number.number b) (sym c.as_slice-3.ensures) c.in_ok-number.ensures.merged) in
    let puts : Puts (g.D.Disk.file c.args.disk.now) (g.D.Disk.file c.put.new.disk) (Segment c.args.role c.in_ok-number.number) bytes =
    subst (λ f. Puts f (g.D.Disk.file c.put.new.disk) (Segment c.args.role c.in_ok-number.number) bytes) c.merged_file.ensures.files c.in_ok-put.ensures.ok in
    let removes : RemovesSome c.args.role c.args.kept.now.numbers (g.D.Disk.file c.put.new.disk) (g.D.Disk.file c.remove_segments.new.disk) = subst (λ ks. RemovesSome c.args.role ks (g.D.Disk.file c.put.new.disk) (g.D.Disk.file c.remove_segments.new.disk)) c.as_slice-4.ensures c.remove_segments.ensures.files in
    removed_pair c.args.role (g.D.Disk.file c.args.disk.now) c.requires.formed c.args.kept.now.numbers c.requires.keeps.committed.numbers_are c.in_ok-number.number bytes m (g.D.Disk.file c.put.new.disk) (g.D.Disk.file c.remove_segments.new.disk) puts.others puts.here removes

pub returns-in_err-all_in_one-clause-formed : goal.returns-in_err-all_in_one-clause-formed
returns-in_err-all_in_one-clause-formed g c =
    let bytes : List ℕ = c.as_slice-3.result.now in
    let m : IsMerged c.args.role (g.D.Disk.file c.args.disk.now) c.args.kept.now.numbers c.in_ok-number.number bytes =
    subst (λ ks. IsMerged c.args.role (g.D.Disk.file c.args.disk.now) ks c.in_ok-number.number bytes) c.as_slice-2.ensures (subst (λ b. IsMerged c.args.role (g.D.Disk.file c.args.disk.now) c.as_slice-2.result.now c.in_ok-number.number b) (sym c.as_slice-3.ensures) c.in_ok-number.ensures.merged) in
    let puts : Puts (g.D.Disk.file c.args.disk.now) (g.D.Disk.file c.put.new.disk) (Segment c.args.role c.in_ok-number.number) bytes =
    subst (λ f. Puts f (g.D.Disk.file c.put.new.disk) (Segment c.args.role c.in_ok-number.number) bytes) c.merged_file.ensures.files c.in_ok-put.ensures.ok in
    let removes : RemovesSome c.args.role c.args.kept.now.numbers (g.D.Disk.file c.put.new.disk) (g.D.Disk.file c.remove_segments.new.disk) = subst (λ ks. RemovesSome c.args.role ks (g.D.Disk.file c.put.new.disk) (g.D.Disk.file c.remove_segments.new.disk)) c.as_slice-4.ensures c.remove_segments.ensures.files in
    let same = ap length c.as_slice.ensures in
    let some : 0 < length c.args.kept.now.numbers = grind (arith, nat_tests, same) in
    removed_formed c.args.role (g.D.Disk.file c.args.disk.now) c.requires.formed c.args.kept.now.numbers c.requires.keeps.committed.numbers_are c.in_ok-number.number bytes m (g.D.Disk.file c.put.new.disk) (g.D.Disk.file c.remove_segments.new.disk) puts.others puts.here removes some

pub returns-in_err-all_in_one-clause-others : goal.returns-in_err-all_in_one-clause-others
returns-in_err-all_in_one-clause-others g c =
    let bytes : List ℕ = c.as_slice-3.result.now in
    let m : IsMerged c.args.role (g.D.Disk.file c.args.disk.now) c.args.kept.now.numbers c.in_ok-number.number bytes =
    subst (λ ks. IsMerged c.args.role (g.D.Disk.file c.args.disk.now) ks c.in_ok-number.number bytes) c.as_slice-2.ensures (subst (λ b. IsMerged c.args.role (g.D.Disk.file c.args.disk.now) c.as_slice-2.result.now c.in_ok-number.number b) (sym c.as_slice-3.ensures) c.in_ok-number.ensures.merged) in
    let puts : Puts (g.D.Disk.file c.args.disk.now) (g.D.Disk.file c.put.new.disk) (Segment c.args.role c.in_ok-number.number) bytes =
    subst (λ f. Puts f (g.D.Disk.file c.put.new.disk) (Segment c.args.role c.in_ok-number.number) bytes) c.merged_file.ensures.files c.in_ok-put.ensures.ok in
    let removes : RemovesSome c.args.role c.args.kept.now.numbers (g.D.Disk.file c.put.new.disk) (g.D.Disk.file c.remove_segments.new.disk) = subst (λ ks. RemovesSome c.args.role ks (g.D.Disk.file c.put.new.disk) (g.D.Disk.file c.remove_segments.new.disk)) c.as_slice-4.ensures c.remove_segments.ensures.files in
    removed_others c.args.role (g.D.Disk.file c.args.disk.now) c.requires.formed c.args.kept.now.numbers c.requires.keeps.committed.numbers_are c.in_ok-number.number bytes m (g.D.Disk.file c.put.new.disk) (g.D.Disk.file c.remove_segments.new.disk) puts.others puts.here removes

pub returns-clause-pair : goal.returns-clause-pair
returns-clause-pair g c =
    let bytes : List ℕ = c.as_slice-3.result.now in
    let m : IsMerged c.args.role (g.D.Disk.file c.args.disk.now) c.args.kept.now.numbers c.in_ok-number.number bytes =
    subst (λ ks. IsMerged c.args.role (g.D.Disk.file c.args.disk.now) ks c.in_ok-number.number bytes) c.as_slice-2.ensures (subst (λ b. IsMerged c.args.role (g.D.Disk.file c.args.disk.now) c.as_slice-2.result.now c.in_ok-number.number b) (sym c.as_slice-3.ensures) c.in_ok-number.ensures.merged) in
    let puts : Puts (g.D.Disk.file c.args.disk.now) (g.D.Disk.file c.put.new.disk) (Segment c.args.role c.in_ok-number.number) bytes =
    subst (λ f. Puts f (g.D.Disk.file c.put.new.disk) (Segment c.args.role c.in_ok-number.number) bytes) c.merged_file.ensures.files c.in_ok-put.ensures.ok in
    let removes : RemovesSome c.args.role c.args.kept.now.numbers (g.D.Disk.file c.put.new.disk) (g.D.Disk.file c.remove_segments.new.disk) = subst (λ ks. RemovesSome c.args.role ks (g.D.Disk.file c.put.new.disk) (g.D.Disk.file c.remove_segments.new.disk)) c.as_slice-4.ensures c.remove_segments.ensures.files in
    removed_pair c.args.role (g.D.Disk.file c.args.disk.now) c.requires.formed c.args.kept.now.numbers c.requires.keeps.committed.numbers_are c.in_ok-number.number bytes m (g.D.Disk.file c.put.new.disk) (g.D.Disk.file c.remove_segments.new.disk) puts.others puts.here removes

pub returns-clause-formed : goal.returns-clause-formed
returns-clause-formed g c =
    let bytes : List ℕ = c.as_slice-3.result.now in
    let m : IsMerged c.args.role (g.D.Disk.file c.args.disk.now) c.args.kept.now.numbers c.in_ok-number.number bytes =
    subst (λ ks. IsMerged c.args.role (g.D.Disk.file c.args.disk.now) ks c.in_ok-number.number bytes) c.as_slice-2.ensures (subst (λ b. IsMerged c.args.role (g.D.Disk.file c.args.disk.now) c.as_slice-2.result.now c.in_ok-number.number b) (sym c.as_slice-3.ensures) c.in_ok-number.ensures.merged) in
    let puts : Puts (g.D.Disk.file c.args.disk.now) (g.D.Disk.file c.put.new.disk) (Segment c.args.role c.in_ok-number.number) bytes =
    subst (λ f. Puts f (g.D.Disk.file c.put.new.disk) (Segment c.args.role c.in_ok-number.number) bytes) c.merged_file.ensures.files c.in_ok-put.ensures.ok in
    let removes : RemovesSome c.args.role c.args.kept.now.numbers (g.D.Disk.file c.put.new.disk) (g.D.Disk.file c.remove_segments.new.disk) = subst (λ ks. RemovesSome c.args.role ks (g.D.Disk.file c.put.new.disk) (g.D.Disk.file c.remove_segments.new.disk)) c.as_slice-4.ensures c.remove_segments.ensures.files in
    let same = ap length c.as_slice.ensures in
    let some : 0 < length c.args.kept.now.numbers = grind (arith, nat_tests, same) in
    removed_formed c.args.role (g.D.Disk.file c.args.disk.now) c.requires.formed c.args.kept.now.numbers c.requires.keeps.committed.numbers_are c.in_ok-number.number bytes m (g.D.Disk.file c.put.new.disk) (g.D.Disk.file c.remove_segments.new.disk) puts.others puts.here removes some

pub returns-clause-others : goal.returns-clause-others
returns-clause-others g c =
    let bytes : List ℕ = c.as_slice-3.result.now in
    let m : IsMerged c.args.role (g.D.Disk.file c.args.disk.now) c.args.kept.now.numbers c.in_ok-number.number bytes =
    subst (λ ks. IsMerged c.args.role (g.D.Disk.file c.args.disk.now) ks c.in_ok-number.number bytes) c.as_slice-2.ensures (subst (λ b. IsMerged c.args.role (g.D.Disk.file c.args.disk.now) c.as_slice-2.result.now c.in_ok-number.number b) (sym c.as_slice-3.ensures) c.in_ok-number.ensures.merged) in
    let puts : Puts (g.D.Disk.file c.args.disk.now) (g.D.Disk.file c.put.new.disk) (Segment c.args.role c.in_ok-number.number) bytes =
    subst (λ f. Puts f (g.D.Disk.file c.put.new.disk) (Segment c.args.role c.in_ok-number.number) bytes) c.merged_file.ensures.files c.in_ok-put.ensures.ok in
    let removes : RemovesSome c.args.role c.args.kept.now.numbers (g.D.Disk.file c.put.new.disk) (g.D.Disk.file c.remove_segments.new.disk) = subst (λ ks. RemovesSome c.args.role ks (g.D.Disk.file c.put.new.disk) (g.D.Disk.file c.remove_segments.new.disk)) c.as_slice-4.ensures c.remove_segments.ensures.files in
    removed_others c.args.role (g.D.Disk.file c.args.disk.now) c.requires.formed c.args.kept.now.numbers c.requires.keeps.committed.numbers_are c.in_ok-number.number bytes m (g.D.Disk.file c.put.new.disk) (g.D.Disk.file c.remove_segments.new.disk) puts.others puts.here removes

pub returns-clause-keeps : goal.returns-clause-keeps
returns-clause-keeps g c =
    let bytes : List ℕ = c.as_slice-3.result.now in
    let m : IsMerged c.args.role (g.D.Disk.file c.args.disk.now) c.args.kept.now.numbers c.in_ok-number.number bytes =
    subst (λ ks. IsMerged c.args.role (g.D.Disk.file c.args.disk.now) ks c.in_ok-number.number bytes) c.as_slice-2.ensures (subst (λ b. IsMerged c.args.role (g.D.Disk.file c.args.disk.now) c.as_slice-2.result.now c.in_ok-number.number b) (sym c.as_slice-3.ensures) c.in_ok-number.ensures.merged) in
    let puts : Puts (g.D.Disk.file c.args.disk.now) (g.D.Disk.file c.put.new.disk) (Segment c.args.role c.in_ok-number.number) bytes =
    subst (λ f. Puts f (g.D.Disk.file c.put.new.disk) (Segment c.args.role c.in_ok-number.number) bytes) c.merged_file.ensures.files c.in_ok-put.ensures.ok in
    let removes : RemovesSome c.args.role c.args.kept.now.numbers (g.D.Disk.file c.put.new.disk) (g.D.Disk.file c.remove_segments.new.disk) = subst (λ ks. RemovesSome c.args.role ks (g.D.Disk.file c.put.new.disk) (g.D.Disk.file c.remove_segments.new.disk)) c.as_slice-4.ensures c.remove_segments.ensures.files in
    record {
      pending = subst (λ t. KeepsPend (pend (g.D.Disk.file c.remove_segments.new.disk) c.args.role) (at t) (at c.all_in_one.new.kept.holdings)) (sym c.all_in_one.ensures.actions)
          (subst (λ t. KeepsPend (pend (g.D.Disk.file c.remove_segments.new.disk) c.args.role) (at c.args.kept.now.actions) (at t)) (sym c.all_in_one.ensures.holdings)
          (removed_pend c.args.role (g.D.Disk.file c.args.disk.now) c.requires.formed c.args.kept.now.numbers c.requires.keeps.committed.numbers_are c.in_ok-number.number bytes m (g.D.Disk.file c.put.new.disk) (g.D.Disk.file c.remove_segments.new.disk) puts.others puts.here removes (at c.args.kept.now.actions) (at c.args.kept.now.holdings) c.requires.keeps.pending));
      committed = subst (λ ks. KeepsPlaces (segments (g.D.Disk.file c.remove_segments.new.disk) c.args.role) (at c.all_in_one.new.kept.places) ks) (sym c.in_ok-all_in_one.ensures.numbers)
          (removed_places c.args.role (g.D.Disk.file c.args.disk.now) c.requires.formed c.args.kept.now.numbers c.requires.keeps.committed.numbers_are c.in_ok-number.number bytes m (g.D.Disk.file c.put.new.disk) (g.D.Disk.file c.remove_segments.new.disk) puts.others puts.here removes (subst (λ ks. AreGone c.args.role ks (g.D.Disk.file c.remove_segments.new.disk)) c.as_slice-4.ensures c.in_ok-remove_segments.ensures.ok) (at c.args.kept.now.places) (at c.all_in_one.new.kept.places)
          c.requires.keeps.committed.places_are c.in_ok-all_in_one.ensures.ok);
    }

pub returns-clause-few : goal.returns-clause-few
returns-clause-few g c = let one = ap length c.in_ok-all_in_one.ensures.numbers in omega (arith, one)
