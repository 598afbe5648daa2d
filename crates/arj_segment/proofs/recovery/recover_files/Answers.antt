use Rattle.std.proofs.Common.{◌≡◌, sym, subst}
use Rattle.arj_base.specs.declared.uid.Uid.{Uid}
use Rattle.arj_store.specs.Table.{at}
use Rattle.arj_segment.specs.Formed.{IsFormed}
use Rattle.arj_segment.specs.Says.{held, place, segments}
use Rattle.arj_segment.specs.Tables.{AreNumbers, Unpacks}
use Rattle.arj_segment.proofs.Found.{are_numbers}
use Rattle.arj_segment.proofs.recovery.recover_files.Goals as goal

pub gather-requires-clause-formed : goal.gather-requires-clause-formed
gather-requires-clause-formed g c = subst (λ file. IsFormed file c.args.role) (sym c.read_pendings.ensures.files) c.requires.formed

pub gather-requires-clause-numbers : goal.gather-requires-clause-numbers
gather-requires-clause-numbers g c =
    subst (λ file. AreNumbers (segments file c.args.role) c.as_slice.result.now) (sym c.read_pendings.ensures.files)
    (subst (AreNumbers (segments (g.D.Disk.file c.args.disk.now) c.args.role)) (sym c.as_slice.ensures)
    (are_numbers (g.D.Disk.file c.args.disk.now) c.args.role c.args.names.now c.in_ok-numbers.numbers c.requires.lists c.in_ok-numbers.ensures.there c.in_ok-numbers.ensures.only c.in_ok-numbers.ensures.below c.in_ok-numbers.ensures.rises))

pub returns-clause-keeps : goal.returns-clause-keeps
returns-clause-keeps g c = record {
  pending = c.in_ok-pends.ensures.keeps;
  committed = record {
    places_are = subst (λ file. (u : Uid) →
        at c.in_ok-gathered.gathered.places u ≡ place (segments file c.args.role) u) c.read_pendings.ensures.files c.in_ok-gathered.ensures.places;
    numbers_are =
        are_numbers (g.D.Disk.file c.args.disk.now) c.args.role c.args.names.now c.in_ok-numbers.numbers c.requires.lists c.in_ok-numbers.ensures.there c.in_ok-numbers.ensures.only c.in_ok-numbers.ensures.below c.in_ok-numbers.ensures.rises;
  };
}

pub returns-clause-found : goal.returns-clause-found
returns-clause-found g c = c.in_ok-found.ensures (g.D.Disk.file c.args.disk.now)
    (subst (λ file. (u : Uid) →
    Unpacks u (held file c.args.role u) (at c.in_ok-gathered.gathered.states u)) c.read_pendings.ensures.files c.in_ok-gathered.ensures.states) c.in_ok-pends.ensures.pends
