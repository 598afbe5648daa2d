-- Of each decided top the journal says what it excluded and what it included, by the disk machine of the object.
use Rattle.std.specs.Prelude.{◌≡◌, ◌&&◌, ℕ, List, true, not, None, Some}
use Rattle.arj_base.specs.Rows.{is_on}
use Rattle.arj_protocol.specs.Words.{Uid, first_uid}
use Rattle.arj_protocol.specs.Order.{has, uid_number}
use Rattle.arj_protocol.specs.Step.{Node}
use Rattle.arj_model.specs.Actions.{Act, act_in, path, uids}
use Rattle.arj_law_disk.specs.machine.Effects.{World}
use Rattle.arj_law_disk.specs.machine.State.{Done, decided, is_sealed, target}
use Rattle.arj_law_disk.specs.machine.Words as disk
use Rattle.arj_law_disk.specs.machine.Words.{In}
use Rattle.arj_promise.specs.Runs.{Seen}
use Rattle.arj_law_runs.specs.journal.Book.{book}
use Rattle.arj_law_serial.specs.joint.Joined.{IsRecordedAt}
use Rattle.arj_law_serial.specs.joint.Joins.{AreRising, has_included}
use Rattle.arj_law_serial.specs.joint.Marked.{was_marked}
use Rattle.arj_law_serial.specs.joint.Ordered.{AreDim, AreStill}

-- A top whose prepare step has ended, in the disk machine of the object: the journal says of it exactly the stores that are its targets and
-- gave no Yes; its commit was called, with a plan that includes exactly the stores of its surviving includes, each once, in increasing
-- order; and it has its root at the head of its path.
pub record IsMarkedSo (x : ℕ) (W : World) (M : Seen) (u : Uid) : Type 0 where
  pub begun : W.disk.begun (uid_number u) ≡ true
  pub ended : is_sealed (W.disk.stage (uid_number u)) ≡ true
  pub act : Act
  pub named : act_in (let B = book M.lines in B.acts) act.label ≡ Some act
  pub uid : act.uid ≡ u
  pub marks : (s : ℕ) → was_marked M.lines act.label x s ≡ (target (W.disk.plan (uid_number u)) s && not (W.disk.got (uid_number u) s))
  pub root : W.disk.root (uid_number u) ≡ uid_number (first_uid (uids (path (let B = book M.lines in B.acts) act.label)))
  pub called : is_on (let B = book M.lines in B.called) u ≡ true
  pub rising : AreRising (let p = W.disk.plan (uid_number u) in p.joins)
  pub joins : (s : ℕ) → has (let p = W.disk.plan (uid_number u) in p.joins) s ≡ has_included (book M.lines) u x s

-- each of these that counts and didn't write includes a store
abbrev pub AreJoiners : List Done → Type 0
AreJoiners ds = (d : Done) → In d ds → d.counts ≡ true → (let p = d.plan in p.writes) ≡ None →
    (s : ℕ) × (disk.has s (let p = d.plan in p.joins) ≡ true)

-- So it is of each top that is decided, at a node that is there, of each that has a record, and of each whose commit ended without one;
-- decided tops that count and didn't write include a store, and those that don't count have taken no Yes and were confirmed as ones that
-- change nothing.
pub record AreMarkedSo (x : ℕ) (W : World) (M : Seen) : Type 0 where
  pub decisions : (u : Uid) (n : Node) → M.nodes u.node ≡ Some n → decided W.disk (uid_number u) ≡ true → IsMarkedSo x W M u
  pub records : (u : Uid) → IsRecordedAt M u → IsMarkedSo x W M u
  pub bares : (u : Uid) → W.disk.bare (uid_number u) ≡ true → IsMarkedSo x W M u
  pub joiners : AreJoiners W.disk.tops
  pub still : AreStill W.disk.tops
  pub dim : AreDim W.disk
