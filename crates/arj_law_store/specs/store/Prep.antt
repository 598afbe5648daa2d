-- A store's answer to a prepare, as the protocol has it.
use Rattle.arj_protocol.specs.Effect as protocol
use Rattle.arj_store.specs.declared.answer.Prep.{Prep}
use Rattle.arj_store.specs.declared.answer.Prep.TheVariants as prep

-- an answer of the store as one of the protocol
abbrev pub prep_of : Prep → protocol.Prep
prep_of prep.Prepared = protocol.Ready
prep_of (prep.InDoubt uid holder) = protocol.InDoubt uid holder
prep_of (prep.Old uid held) = protocol.Old uid held
prep_of (prep.Already uid act) = protocol.Already uid
