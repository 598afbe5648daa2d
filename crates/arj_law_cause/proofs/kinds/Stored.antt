-- Each store that the journal lists, where no prepared action names its state, holds the last state, also while the object's entry is in doubt.
use Rattle.arj_law_parts.proofs.Words
use Words.{[], ◌≡◌, ◌∙◌, ℕ, true, Some, None, ap, sym, is_some, Header, Line, List, Node, Seen, held_at, holder_of, object, see}
use Rattle.arj_law_disk_view.proofs.Terms.{effective_by}
use Rattle.arj_law_serial.proofs.Terms
use Terms.{AreDecided, AreRight, BeginsSo, HaveForm, HeaderFits, Keeping, Kinds, Packed, SeesDisks, SeesStore, World}
use Terms.{decided as decides, first_values, has, is_among}
use Terms.{last, last_entry, new_book, object_line, packed, packed_entry, place_free, servers_of_line}
use Rattle.arj_law_serial.proofs.joint.Clean as cleaned
use Rattle.arj_law_serial.proofs.joint.NamedTops.{AreLockTied}
use Rattle.arj_law_serial.proofs.order.{Cleaning.has_among, Cleaning.held_some, Cleaning.state_same, Contents.one_state}
use Rattle.arj_law_serial.proofs.order.{Entries.entry_is_last, Entries.stores_back, Ties.Ties}
use Rattle.arj_model.specs.Last.{entry_from, last_from, listed}
use Rattle.arj_protocol.specs.World as world

-- a listed store holds the last state, where it isn't in doubt
abbrev pub AreLasting : Header → List Line → ℕ → Seen → Type 0
AreLasting hd lines x M = (m : Node) (s : ℕ) → M.nodes s ≡ Some m → is_among (listed hd lines x) s ≡ true →
    holder_of (object x) (let d = m.disk in d.store) ≡ None →
    held_at (object x) (let d = m.disk in d.store) ≡ Some (last_from hd M.start.marks lines x)

-- what such a store will hold is what it holds
module _ (hd : Header) (lines : List Line) (right : AreRight new_book lines) (tied : Ties (first_values hd) lines) (x : ℕ)
    (kinds : Kinds) (W : World) (M : Seen) (sees : SeesDisks x kinds W M) (decided : AreDecided hd lines x W.disk.tops)
    (begins : BeginsSo hd M.start.marks x W.disk) (form : HaveForm hd x M) where
  entry_same : last_entry W.disk ≡ packed_entry (entry_from hd M.start.marks lines x)
  entry_same = entry_is_last hd lines x W.disk.first_entry W.disk.tops decided M.start.marks begins.entry

  pub lasting : AreLasting hd lines x M
  lasting m s there among free =
      let o : SeesStore x s m.disk.store W.disk = sees.stores s m there in
      let p = o.pair in
      let core = let w = sees.whole in w.core in
      let on : has s (let e = last_entry W.disk in e.content) ≡ true = ap (λ (q : Packed). has s q.content) entry_same
      ∙ ap (has s) (stores_back (servers_of_line (object_line hd x)) (listed hd lines x)) ∙ has_among s (listed hd lines x) ∙ among in
      let clear = place_free (object x) m.disk.store packed (W.disk.held s) (W.disk.pend s) p free in
      let will : W.disk.held s ≡ Some (last W.disk) = ap (λ h. effective_by (decides W.disk) Some h (W.disk.held s)) (sym clear)
      ∙ core.effective.store s on in
      let held = held_some (held_at (object x) m.disk.store) (packed (last_from hd M.start.marks lines x)) packed
      (p.held_is ∙ will ∙ ap Some (state_same hd lines right tied x kinds W M sees decided begins form)) in
      held.1 ∙ ap Some (one_state held.0 (last_from hd M.start.marks lines x) held.2 (p.keyed (object x) held.0 held.1))

-- in each world that is reached
pub lasting_of : (hd : Header) (w : world.World) (keeping : Keeping hd w) → HeaderFits hd → (tied : AreLockTied hd w.lines)
    (held : cleaned.Held hd w) → cleaned.Decides hd w held → (x : ℕ) → is_some (object_line hd x) ≡ true →
    AreLasting hd w.lines x (see [] w)
lasting_of hd w keeping form tied held decide x there =
    let h = cleaned.ordered_of hd w x (held x there) in
    let o = h.holds in
    let b = o.begun in
    let j = b.journalled in
    let all = lasting hd w.lines (cleaned.right hd w keeping form tied held decide) (cleaned.ties hd w keeping form tied held decide) x
    j.tops j.machine (see h.sent w) j.sees (cleaned.decided hd w keeping form tied held decide x there) b.begins
    (cleaned.formed hd w keeping form tied held decide x there) in
    λ m s is among free. all m s is among free
