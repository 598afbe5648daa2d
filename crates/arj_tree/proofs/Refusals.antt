-- The faults of the tree among the refusals of the protocol.
use Rattle.std.proofs.Common.{◌≡◌, Bool, true, false, refl, [], ◌∷◌}
use Rattle.std.specs.Option.{option_map}
use Rattle.arj_protocol.specs.Step.{first_reason}
use Rattle.arj_tree.specs.Faults.{number_of, first_fault}
use Rattle.arj_tree.specs.declared.fault.TreeFault.TheVariants as fault

-- the refusals of a beginning, where none waits
pub begins : (ended waits wrong doomed deep many : Bool) → waits ≡ false
    → first_reason ((6, ended) ∷ (7, waits) ∷ (10, wrong) ∷ (12, doomed) ∷ (15, deep) ∷ (16, many) ∷ [])
    ≡ option_map number_of (first_fault ((fault.Ended, ended) ∷ (fault.WrongParent, wrong) ∷ (fault.Doomed, doomed) ∷ (fault.TooDeep, deep) ∷ (fault.TooMany, many) ∷ []))
begins true waits wrong doomed deep many free = refl
begins false waits true doomed deep many free = rw free refl
begins false waits false true deep many free = rw free refl
begins false waits false false true many free = rw free refl
begins false waits false false false true free = rw free refl
begins false waits false false false false free = rw free refl

-- of a call
pub calls : (ended waits serial doomed unknown lacks many : Bool) → waits ≡ false → unknown ≡ false → lacks ≡ false
    → first_reason ((6, ended) ∷ (7, waits) ∷ (11, serial) ∷ (12, doomed) ∷ (13, unknown) ∷ (14, lacks) ∷ (16, many) ∷ [])
    ≡ option_map number_of (first_fault ((fault.Ended, ended) ∷ (fault.NoCalls, serial) ∷ (fault.Doomed, doomed) ∷ (fault.TooMany, many) ∷ []))
calls true waits serial doomed unknown lacks many free known has = refl
calls false waits true doomed unknown lacks many free known has = rw free refl
calls false waits false true unknown lacks many free known has = rw free refl
calls false waits false false unknown lacks true free known has = rw (free, known, has) refl
calls false waits false false unknown lacks false free known has = rw (free, known, has) refl

-- of an include
pub includes : (ended waits serial doomed unknown many : Bool) → waits ≡ false → unknown ≡ false
    → first_reason ((6, ended) ∷ (7, waits) ∷ (11, serial) ∷ (12, doomed) ∷ (13, unknown) ∷ (16, many) ∷ [])
    ≡ option_map number_of (first_fault ((fault.Ended, ended) ∷ (fault.NoCalls, serial) ∷ (fault.Doomed, doomed) ∷ (fault.TooMany, many) ∷ []))
includes true waits serial doomed unknown many free known = refl
includes false waits true doomed unknown many free known = rw free refl
includes false waits false true unknown many free known = rw free refl
includes false waits false false unknown true free known = rw (free, known) refl
includes false waits false false unknown false free known = rw (free, known) refl

-- of a commit
pub commits : (ended waits open_child : Bool) → waits ≡ false
    → first_reason ((6, ended) ∷ (7, waits) ∷ (9, open_child) ∷ []) ≡ option_map number_of (first_fault ((fault.Ended, ended) ∷ (fault.OpenChildren, open_child) ∷ []))
commits true waits open_child free = refl
commits false waits true free = rw free refl
commits false waits false free = rw free refl

-- of an abort
pub aborts : (ended waits : Bool) → waits ≡ false →
    first_reason ((6, ended) ∷ (7, waits) ∷ []) ≡ option_map number_of (first_fault ((fault.Ended, ended) ∷ (fault.OpenChildren, false) ∷ []))
aborts true waits free = refl
aborts false waits free = rw free refl
