-- What is kept in whole runs, and which objects are called in them.
use Rattle.arj_law_parts.proofs.Words.{Contains, ℕ, List, in_from, Header, World, world_by, Seen}
use Rattle.arj_law_serial.proofs.Terms
use Terms.{Placed, Inclusion, included, Action, Keeping, KnowsFew, moves_keep, KeepsOf, HasObject, IsCalled, IsIncluded, KnowsWhole}
use Rattle.arj_law_serial.proofs.whole
use whole.{Of.of_both, Of.of_more, Whole.whole_of}
use whole.CalledWalks.{called_there, calls_keep, included_there}
use Rattle.arj_law_serial.specs.whole.Runs.{RunsCallObjects, RunsIncludeObjects}

-- what is known of the protocol is kept with a relation that is kept beside it
pub kept_beside : (hd : Header) (x : ℕ) → HasObject hd x → (E : List Action → Seen → Type 0) → KeepsOf hd
    (λ begun M. KnowsFew M × KnowsWhole x begun M) E → KeepsOf hd (λ begun M. KnowsFew M) (λ begun M. KnowsWhole x begun M × E begun M)
kept_beside hd x has E kept = of_both hd (λ begun M. KnowsFew M) (KnowsWhole x) E
    (of_more hd (λ begun M. KnowsFew M) (λ begun M. KnowsFew M × E begun M) (KnowsWhole x) (λ begun M h. h.0) (whole_of hd x has)) kept

-- ---- objects that are called

pub kept_call_objects : (hd : Header) (w : World) → Keeping hd w → (x : ℕ) → IsCalled x w.lines → HasObject hd x
kept_call_objects hd w keeping x called =
    let h = keeping _ (calls_keep hd) in
    let z = h.holds.1 in
    called_there hd x w.lines z.lines called

pub kept_include_objects : (hd : Header) (w : World) → Keeping hd w → (i : Placed Inclusion) → Contains (included w.lines) i →
    IsIncluded hd i.it
kept_include_objects hd w keeping i there =
    let h = keeping _ (calls_keep hd) in
    let z = h.holds.1 in
    included_there hd w.lines z.lines i (in_from i (included w.lines) there)

pub runs_call_objects : RunsCallObjects
runs_call_objects hd r = kept_call_objects hd (world_by hd r) (moves_keep hd r)

pub runs_include_objects : RunsIncludeObjects
runs_include_objects hd r = kept_include_objects hd (world_by hd r) (moves_keep hd r)
