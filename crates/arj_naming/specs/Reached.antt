-- What a Confirm came to in memory.
use Rattle.arj_naming.specs.Confirming.{IsAnswered, IsReady, Reached}
use Rattle.arj_naming.specs.declared.stage.Ready.{Ready}
use Rattle.arj_naming.specs.declared.stage.Ready.TheVariants as ready
use Rattle.arj_protocol.specs.Effect.{Pair, Served}
use Rattle.arj_protocol.specs.Naming.{Naming}
use Rattle.arj_protocol.specs.Words.{Uid, ConfirmedReply}

-- it is answered, or its entries are ready to be prepared
abbrev pub IsReached : Served Naming ConfirmedReply → Uid → Pair → Reached → Ready → Type 0
IsReached r top d reached (ready.Answer answer) = IsAnswered r reached answer
IsReached r top d reached (ready.Prepare states) = IsReady r top d reached states
