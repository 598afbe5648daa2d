-- What an operation on an active object may be given, and what it leaves.
use Rattle.std.specs.Prelude.{◌≡◌, ℕ, true, List, [], ◌∷◌, Option, None, Some}
use Rattle.arj_base.specs.declared.mode.Mode.{Mode}
use Rattle.arj_base.specs.declared.path.Path.{Path}
use Rattle.arj_base.specs.declared.state.ObjectState.{ObjectState}
use Rattle.arj_base.specs.declared.uid.Uid.{Uid}
use Rattle.arj_base.specs.Path.{uids_of}
use Rattle.arj_base.specs.Rows.{last_uid, first_conflict}
use Rattle.arj_base.specs.Uid.{object}
use Rattle.arj_class.specs.declared.op.Op.{Op}
use Rattle.arj_class.specs.declared.value.Value.{Value}
use Rattle.arj_class.specs.Forms.{FormatHolds, OpInForm, ValueInForm, payload_of}
use Rattle.arj_class.specs.Table.{class_of, own_class, has_op, op_mode, answer_of}
use Rattle.arj_protocol.specs.Copy.{Copy, current, run_copy}
use Rattle.arj_protocol.specs.Effect.{Effect, Say}
use Rattle.arj_protocol.specs.Words.body
use Rattle.arj_manager.specs.declared.ran.Ran.{Ran}

-- the line of a lock that was granted or rose, at node n, none where the action had it already
abbrev pub grant_said : ℕ → Uid → Uid → Option Mode → List Effect
grant_said n action x None = []
grant_said n action x (Some mode) = Say (body.Granted n action x mode) ∷ []

-- the value of a state: of its class, held by its format, and saved to its payload
abbrev pub IsValueOf : ObjectState → Value → Type 0
IsValueOf s v = (class_of v ≡ s.class) × ValueInForm v × FormatHolds s.format v × (payload_of v ≡ s.payload)

-- the operation is one of the object's class, and no lock is against it
pub record MayRun (p : Path) (x : ℕ) (op : Op) (c : Copy) : Type 0 where
  pub form : OpInForm op
  pub has : has_op (own_class (current c.base c.stack)) op ≡ true
  pub free : first_conflict (uids_of p) (object x) (op_mode op) c.rows ≡ None

-- the operation was done, as the protocol does it
pub record IsRun (p : Path) (x : ℕ) (op : Op) (old new : Copy) (ran : Ran) : Type 0 where
  pub part : new ≡ (run_copy 0 p x op old).part
  pub lines : (n : ℕ) → (run_copy n p x op old).outs ≡ grant_said n (last_uid (uids_of p)) (object x) ran.granted
  pub answer : ran.answer ≡ answer_of op (current old.base old.stack)
