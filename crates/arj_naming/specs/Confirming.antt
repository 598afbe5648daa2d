-- How far a Confirm comes in memory, before the store is asked.
use Rattle.std.specs.Prelude.{◌≡◌, ◌≤◌, false, ⊤, List, [], ◌∷◌, ◌++◌, length, Option, Some, None}
use Rattle.arj_journal.specs.declared.body.Line.{Line}
use Rattle.arj_naming.specs.Entries.{AreOfEntries}
use Rattle.arj_naming.specs.Said.{said}
use Rattle.arj_protocol.specs.Confirm.{prepared_by}
use Rattle.arj_protocol.specs.Effect.{Effect, Say, Send, Do, Pair, Did, Served, is_prepared, prepare_answer}
use Rattle.arj_protocol.specs.Naming.{Naming}
use Rattle.arj_protocol.specs.Words.{Uid, ObjectState, ConfirmedReply, nobody}
use Rattle.arj_protocol.specs.Words.confirmed
use Rattle.arj_protocol.specs.Words.mode
use Rattle.arj_store.specs.declared.answer.Prep.{Prep}
use Rattle.arj_store.specs.declared.answer.Prep.TheVariants as prep

-- effects that are lines, and nothing else
abbrev pub AreLines : List Effect → Type 0
AreLines [] = ⊤
AreLines (Say b ∷ es) = AreLines es
AreLines (Send to m ∷ es) = ⊥
AreLines (Do w ∷ es) = ⊥

-- where a call stands before the store is asked: the part, and the lines before the call and now
pub record Reached : Type 0 where
  pub part : Naming
  pub before : List Line
  pub lines : List Line

-- it is answered, and nothing is prepared
pub record IsAnswered (r : Served Naming ConfirmedReply) (reached : Reached) (answer : Option ConfirmedReply) : Type 0 where
  pub part : reached.part ≡ r.part
  pub lines : reached.lines ≡ reached.before ++ said r.outs
  pub reply : answer ≡ r.reply
  pub nothing_done : AreLines r.outs

-- all checks are passed, and the store is asked to prepare these states
pub record IsReady (r : Served Naming ConfirmedReply) (top : Uid) (d : Pair) (reached : Reached) (states : List ObjectState) : Type 0 where
  pub outs : List Effect
  pub only_lines : AreLines outs
  pub is : r ≡ prepared_by top states (record { part = reached.part; outs = outs }) (prepare_answer top states d)
  pub lines : reached.lines ≡ reached.before ++ said outs
  pub first : is_prepared top d ≡ false
  pub states_are : AreOfEntries states
  pub few : length states ≤ 255

-- what is done with an answer, without it
abbrev pub did_of : Served Naming ConfirmedReply → Did Naming
did_of r = record { part = r.part; outs = r.outs }

-- the store is asked to prepare states
abbrev pub prepare_by : Uid → List ObjectState → Pair → Naming → Served Naming ConfirmedReply
prepare_by top states d n = prepared_by top states (record { part = n; outs = [] }) (prepare_answer top states d)

-- the reply where the store refuses the states of a top
abbrev pub refusal_by : Uid → Prep → Option ConfirmedReply
refusal_by top prep.Prepared = None
refusal_by top (prep.InDoubt uid holder) = Some (confirmed.Conflict holder mode.Write)
refusal_by top (prep.Already uid act) = Some (confirmed.Conflict top mode.Write)
refusal_by top (prep.Old uid held) = Some (confirmed.Conflict nobody mode.Write)
