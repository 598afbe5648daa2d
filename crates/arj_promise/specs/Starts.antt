-- With what a run may begin: a format's disks, or those that an earlier run left once all its actions had ended.
use Rattle.std.specs.Prelude.{Contains, false, if◌then◌else◌, refl, ℕ, ◌+◌, ◌<◌, ◌≡◌, ◌≢◌, ◌⊎◌}
use Rattle.std.specs.List.{AllByRecursion}
use Rattle.std.proofs.Common.{arith, inl}
use Rattle.arj_base.specs.State.{StateInForm}
use Rattle.arj_base.specs.Uid.{UidFits, nobody, object}
use Rattle.arj_base.specs.declared.state.ObjectState.{ObjectState}
use Rattle.arj_base.specs.declared.uid.Uid.{Uid}
use Rattle.arj_base.specs.declared.limits.TheConstants.{LAST_VERSION}
use Rattle.arj_class.specs.Table.{own_class}
use Rattle.arj_journal.specs.declared.header.Header.{Header}
use Rattle.arj_journal.specs.declared.header.ObjectLine.{ObjectLine}
use Rattle.arj_msg.specs.Sendable.{StateSends}
use Rattle.arj_start.specs.Start.{Mark, Start, fresh}
use Rattle.arj_protocol.specs.Order.{has}
use Rattle.arj_protocol.specs.Step.{state_by}
use Rattle.arj_protocol.specs.Values.{state_value}
use Rattle.arj_start.specs.Limits.{last_inc, most_events, most_labels}
use Rattle.arj_text.specs.Fields.{AreBytes}

-- the first incarnation in which actions of the run begin at this node: that on its disk where it is up, and else the next one
abbrev pub next_inc : Start → ℕ → ℕ
next_inc st n = if st.up n then st.incs n + 1 else st.incs n + 2

-- no action that begins in the run has this Uid
abbrev pub IsPast : Start → Uid → Type 0
IsPast st u = (u ≡ nobody) ⊎ (u.inc < next_inc st u.node)

-- a state from before the one with this mark: of a lower version, and by another writer
pub record IsBefore (s : ObjectState) (m : Mark) : Type 0 where
  pub below : s.version < m.version
  pub other : s.writer ≢ m.writer

-- An older state, at a store: of an object of the header that isn't listed there, and the object's last state or from before it.
pub record IsOlder (hd : Header) (st : Start) (at : ℕ × ObjectState) : Type 0 where
  pub line : ObjectLine
  pub there : Contains hd.objects line
  pub of : at.1.uid ≡ object line.x
  pub class : own_class (state_value at.1) ≡ own_class line.value
  pub form : StateInForm at.1
  pub unlisted : has line.stores at.0 ≡ false
  pub was : (at.1 ≡ state_by hd.format (st.marks.states line.x) line) ⊎ IsBefore at.1 (st.marks.states line.x)
  pub past : IsPast st at.1.writer
  pub bytes : AreBytes at.1.payload
  pub restores : StateSends at.1

-- two states of one object are the same where they have one version, or one writer
pub record AreOne (s t : ObjectState) : Type 0 where
  pub version : s.uid ≡ t.uid → s.version ≡ t.version → s ≡ t
  pub writer : s.uid ≡ t.uid → s.writer ≡ t.writer → s ≡ t

-- A start is formed: who wrote what is held has ended, and has a Uid in form; versions and incarnations leave room for those of a run; older
-- states aren't from after it; and of one object there is one of each version, and one of each writer.
pub record IsFormed (hd : Header) (st : Start) : Type 0 where
  pub states : (x : ℕ) → IsPast st (let m = st.marks.states x in m.writer)
  pub entries : (x : ℕ) → IsPast st (let m = st.marks.entries x in m.writer)
  pub writers : (x : ℕ) → UidFits (let m = st.marks.states x in m.writer) × UidFits (let m = st.marks.entries x in m.writer)
  pub short : (x : ℕ) → (let m = st.marks.states x in m.version) + most_labels < LAST_VERSION
  pub brief : (x : ℕ) → (let m = st.marks.entries x in m.version) + most_labels < LAST_VERSION
  pub incs : (n : ℕ) → st.incs n + 1 + most_events < last_inc
  pub older : AllByRecursion (IsOlder hd st) st.older
  pub one : AllByRecursion (λ (a : ℕ × ObjectState). AllByRecursion (λ (b : ℕ × ObjectState). AreOne a.1 b.1) st.older) st.older

-- so is the start at a format
abbrev pub fresh_is_formed : (hd : Header) → IsFormed hd fresh
fresh_is_formed hd = record {
  states = λ x. inl refl;
  entries = λ x. inl refl;
  writers = λ x. ((omega arith, omega arith, omega arith), (omega arith, omega arith, omega arith));
  short = λ x. omega arith;
  brief = λ x. omega arith;
  incs = λ n. omega arith;
  older = tt;
  one = tt;
}
