-- Bindings at naming are of its incarnation, where few were made.
use Rattle.arj_law_parts.proofs.Words.{◌≤◌, ◌<◌, ◌+◌, ℕ, arith, Header, Seen}
use Rattle.arj_law_disk_view.proofs.Terms
use Terms.{KnowsFew, kept_both, keeps_given, IsGood, Keeps, RecordsAreFree, AllKnowTops, AllNameOwn, AreGoodCounted}
use Rattle.arj_law_lock_view.proofs.{facts.GoodNaming.objects_keep, records.Free.records_free, records.Free.records_run_on}
use Rattle.arj_law_lock_view.specs.{facts.Uppers.ObjectsAreHeld, records.Runs.RecordsRun}
use Rattle.arj_law_runs.proofs.{calls.MadeLines.counts_are_said, coordinators.RunCoords.all_keep_so, coordinators.RunUses.tops_are_kept}
use Rattle.arj_law_runs.specs.{calls.Bindings.AreSaid, calls.Bindings.bindings_made, coordinators.Uses.KnowsTops}

-- where few bindings were made, those at naming are its own
pub names_own : (M : Seen) → AreGoodCounted M → KnowsFew M → AllNameOwn M
names_own M good few k n t o there live named =
    let held : ObjectsAreHeld M = good.1.0 in
    let up = held.2 k n there in
    let h = up.live t o live named in
    let low : o.count ≤ bindings_made M.lines = good.1.1 k n there t o live named in
    let small : bindings_made M.lines < 4294967295 = few.0 in
    record {
      objects = λ y z at. let g = h.objects y z at in record {
        live = λ l is. let c = g.recorded l.binding (g.live l is) in
            record { of = c.0; short = short (let b = l.binding in b.count) o.count (bindings_made M.lines) c.1 low small };
        made = λ u m is. let c = (g.made u m is).1 in
            record { of = c.0; short = short (let b = m.binding in b.count) o.count (bindings_made M.lines) c.1 low small };
      };
      next = next o.count (bindings_made M.lines) low small;
    }
  where
    short : (a b c : ℕ) → a ≤ b → b ≤ c → c < 4294967295 → a < 4294967296
    short a b c i j less = omega (arith, i, j, less)

    next : (b c : ℕ) → b ≤ c → c < 4294967295 → b + 1 < 4294967296
    next b c j less = omega (arith, j, less)

pub good_counted : (hd : Header) → Keeps hd AreGoodCounted
good_counted hd = kept_both hd (λ M. (IsGood M × AllKnowTops M) × RecordsRun M) (λ M. ObjectsAreHeld M × AreSaid M)
    (kept_both hd (λ M. IsGood M × AllKnowTops M) RecordsRun (all_keep_so KnowsTops tops_are_kept hd)
    (keeps_given hd (λ M. IsGood M × AllKnowTops M) RecordsRun (records_run_on hd)))
    (keeps_given hd (λ M. (IsGood M × AllKnowTops M) × RecordsRun M) (λ M. ObjectsAreHeld M × AreSaid M)
    (kept_both hd ObjectsAreHeld AreSaid (objects_keep hd) (keeps_given hd ObjectsAreHeld AreSaid (counts_are_said hd))))

-- new Records are of tops that have no entry of the object prepared
pub records_free_in : (M : Seen) → AreGoodCounted M → KnowsFew M → RecordsAreFree M
records_free_in M good few = let w = good.0.1.1 few.0 in records_free M few w.1
