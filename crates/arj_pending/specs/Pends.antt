-- What nodes may hold, prepared for actions, line by line.
use Rattle.std.specs.Prelude.{◌≡◌, ℕ, ◌+◌, List, [], ◌∷◌, ◌++◌, map, filter, find, Bool, true, false, ◌==◌, ◌&&◌, ◌||◌, not}
use Rattle.std.specs.Prelude.{if◌then◌else◌, Option, Some, None}
use Rattle.std.specs.List.{list_any}
use Rattle.arj_base.specs.declared.uid.Uid.{Uid}
use Rattle.arj_base.specs.Uid.{uid_eq}
use Rattle.arj_journal.specs.declared.body.Body.{Body}
use Rattle.arj_journal.specs.declared.body.Body.TheVariants as body
use Rattle.arj_journal.specs.declared.body.Line.{Line}
use Rattle.arj_journal.specs.declared.body.Role.TheVariants as role
use Rattle.arj_model.specs.Actions.{Act, acts_after}
use Rattle.arj_pending.specs.Commits.{commits_after, delivered_after, is_under_way, prepares_after}
use Rattle.arj_pending.specs.Crashes.{is_crash_in}
use Rattle.arj_pending.specs.declared.kept.Commit.{Commit}
use Rattle.arj_pending.specs.declared.kept.Delivery.{Delivery}
use Rattle.arj_pending.specs.declared.kept.Pend.{Pend}
use Rattle.arj_pending.specs.declared.kept.Prepare.{Prepare}
use Rattle.arj_pending.specs.declared.kept.Prepares.{Prepares}

-- it is of this node and action
abbrev pub is_pend : ℕ → Uid → Pend → Bool
is_pend n u d = (d.node == n) && uid_eq d.action u

-- those of other nodes and actions
abbrev pub without : ℕ → Uid → List Pend → List Pend
without n u ds = filter (λ d. not (is_pend n u d)) ds

-- the frame, where it was delivered in this event
abbrev pub frame_in : ℕ → Option Delivery → Option ℕ
frame_in event None = None
frame_in event (Some d) = if d.event == event then Some d.frame else None

-- the Prepare to this node with this frame
abbrev pub prepare_to : ℕ → Option ℕ → List Prepare → Option Prepare
prepare_to n None ps = None
prepare_to n (Some k) ps = find (λ p. (p.frame == k) && (p.to == n)) ps

-- the Prepare may be one of this commit: its sender is the top's node, where the commit was under way then
abbrev pub may_carry : Option Prepare → Commit → Bool
may_carry None c = false
may_carry (Some p) c = (p.from == (let u = c.top in u.node)) && is_under_way p.at c

-- At this place the node may be at the preparation for this commit: it is of its own, or of the Prepare that it has got last.
abbrev pub may_prepare : ℕ → ℕ → Option Prepare → Commit → Bool
may_prepare n at got c = (((let u = c.top in u.node) == n) && is_under_way at c) || may_carry got c

-- so it is, and the node holds nothing for it yet
abbrev pub is_new : ℕ → ℕ → Option Prepare → List Pend → Commit → Bool
is_new n at got ds c = may_prepare n at got c && not (list_any (is_pend n c.top) ds)

-- what the node may hold for a commit, where it stopped
abbrev pub unsaid : ℕ → Commit → Pend
unsaid n c = record { node = n; action = c.top; said = false }

-- what a node may hold besides where it stops at this place
abbrev pub unsaid_at : ℕ → ℕ → Option Prepare → List Pend → List Commit → List Pend
unsaid_at n at got ds cs = map (unsaid n) (filter (is_new n at got ds) cs)

-- What stands behind a part of a journal: called commits, Prepares, the last delivered frame, and what nodes may hold.
pub record Behind : Type 0 where
  pub commits : List Commit
  pub prepares : List Prepare
  pub delivered : Option Delivery
  pub pends : List Pend

-- What nodes may hold after a line of this event, at this place: what a line says is prepared, until it is done; where a node stops, other
-- than by a crash, what it may have been at; and nothing where every node is idle.
abbrev pub pends_after : List Bool → ℕ → ℕ → Body → Behind → List Pend
pends_after flags event at (body.Prepared n u role.Store) b = without n u b.pends ++ record { node = n; action = u; said = true } ∷ []
pends_after flags event at (body.Done n u role.Store e) b = without n u b.pends
pends_after flags event at (body.Halted n) b =
    if is_crash_in flags event then b.pends
    else b.pends ++ unsaid_at n at (prepare_to n (frame_in event b.delivered) b.prepares) b.pends b.commits
pends_after flags event at (body.Quiet true) b = []
pends_after flags event at _ b = b.pends

-- what stands behind a line at this place, where these actions had begun
abbrev pub behind_line : List Bool → List Act → ℕ → Line → Behind → Behind
behind_line flags us at line b = record {
  commits = commits_after us at line.body b.commits;
  prepares = prepares_after at line.body b.prepares;
  delivered = delivered_after line.event line.body b.delivered;
  pends = pends_after flags line.event at line.body b;
}

-- what stands behind these lines, from this on
abbrev pub behind_from : List Bool → List Act → ℕ → Behind → List Line → Behind
behind_from flags us at b [] = b
behind_from flags us at b (line ∷ lines) = behind_from flags (acts_after us line.body) (at + 1) (behind_line flags us at line b) lines

-- what stands behind a journal, of a script with these flags of crashes
abbrev pub behind : List Bool → List Line → Behind
behind flags lines = behind_from flags [] 0 (record { commits = []; prepares = []; delivered = None; pends = [] }) lines

-- This is what is kept.
abbrev pub kept : Prepares → Behind
kept p = record { commits = p.commits.items; prepares = p.prepares.items; delivered = p.delivered; pends = p.pends.items }

-- This is kept of these lines.
pub record ArePrepared (flags : List Bool) (lines : List Line) (p : Prepares) : Type 0 where
  pub commits : p.commits.items ≡ (let b = behind flags lines in b.commits)
  pub prepares : p.prepares.items ≡ (let b = behind flags lines in b.prepares)
  pub delivered : p.delivered ≡ (let b = behind flags lines in b.delivered)
  pub pends : p.pends.items ≡ (let b = behind flags lines in b.pends)

-- all else that is kept stays
pub record AreOthers (old new : Prepares) : Type 0 where
  pub commits : new.commits ≡ old.commits
  pub prepares : new.prepares ≡ old.prepares
  pub delivered : new.delivered ≡ old.delivered
