-- An action that a coordinator ends without a commit: the machine lets it go.
use Rattle.arj_law_parts.proofs.Words
use Words.{◌≡◌, ◌≢◌, ◌⊎◌, ℕ, ◌==◌, ◌&&◌, List, [], ◌∷◌, true, Option, Some, None, refl, sym, ◌∙◌, ap, subst, if◌then◌else◌, AllByRecursion}
use Words.{Uid, End, Coord, Doing, Root, Idle, doing_of, Disk, Intent, ended, Parts, with_coord, at_uid, uid_number, Branch, branch_of}
use Words.{ended_at, at_place, Seen}
use Words.order
use Rattle.arj_law_disk_view.proofs.Terms
use Terms.{World, after, is_gone, put_same, put_other, never_some, up, SeesRecords, Stills, Kinds, SeesDisks, SeesCoord, SeesNotes}
use Terms.{KnowsRoot, KnowsNow}
use Terms.machine
use Terms.disk
use Rattle.arj_law_disk_view.proofs.view
use view.{DecidingSteps.actions_may_halt, Frames.node_here, Later.effects_are_later}
use view.Doings.{doing_here, doing_other, doing_tree}
use view.Ended.{HasEnded, tree_ended, ended_coord, ended_noted, calm_seen}
use view.Notes.{doing_telling, doing_roots, notes_later}
use view.TopFrames.{branch_at, apart_number}

module _ (c : Coord) (u : Uid) (b : Branch) (q : Doing) (how : End) (found : branch_of u c.tree ≡ Some b)
    (at_work : doing_of u c ≡ Some q) where
  abbrev c0 : Coord
  c0 = record c { tree = ended_at u how c.tree }

  first : HasEnded u b how c.tree (ended_at u how c.tree)
  first = tree_ended u b how c.tree found

  pub one_tree : HasEnded u b how c.tree (ended u how c).tree
  one_tree = subst (λ v. HasEnded u b how c.tree v) (sym (doing_tree u (λ (r : Doing). record r { now = Idle }) c0)) first

  doing_first : (w : Uid) → doing_of w c0 ≡ doing_of w c
  doing_first w = let en : HasEnded u b how c.tree (ended_at u how c.tree) = first in
      λ i. if (w.node == en.node i) && (w.inc == en.inc i) then at_place w.num c.doings else None

  pub one_doing : doing_of u (ended u how c) ≡ Some (record q { now = Idle })
  one_doing = doing_here u (λ (r : Doing). record r { now = Idle }) c0 q (doing_first u ∙ at_work)

  pub one_doings : (w : Uid) → w ≢ u → doing_of w (ended u how c) ≡ doing_of w c
  one_doings w other = doing_other u w (λ (r : Doing). record r { now = Idle }) c0 q (doing_first u ∙ at_work) other ∙ doing_first w

  pub one_telling : (ended u how c).telling ≡ c.telling
  one_telling = doing_telling u (λ (r : Doing). record r { now = Idle }) c0

  pub one_roots : (ended u how c).roots ≡ c.roots
  one_roots = doing_roots u (λ (r : Doing). record r { now = Idle }) c0

  pub one_noted : (x : ℕ) (intents : List (Uid × Intent)) (W : World) → at_uid u intents ≡ None → SeesNotes x intents c W →
      SeesNotes x intents (ended u how c) W
  one_noted x intents W none n = ended_noted x intents c (ended u how c) W u b how n found one_tree
      (λ w other. ap (λ ts. at_uid w ts) one_telling) one_doings (λ i there. absurd (never_some there none))
      (λ r is. own r (let e : ◌≡◌ {A = Option Doing} (Some (record q { now = Idle })) (Some r) = sym one_doing ∙ is in cc e))
      (subst (λ rs. AllByRecursion (λ (r : ℕ × Root). KnowsRoot x W r.1) rs) (sym one_roots) n.roots)
    where
      own : (r : Doing) → record q { now = Idle } ≡ r → ((m : ℕ) → order.has r.took m ≡ true →
          (disk.decided W.disk (uid_number u) ≡ true) ⊎ (W.disk.bare (uid_number u) ≡ true)) × KnowsNow x W r.now
      own r same = (
        λ m on. n.taken u q m at_work (ap (λ (z : Doing). order.has z.took m) same ∙ on),
        subst (λ (z : Doing). KnowsNow x W z.now) same tt,
      )

  -- the machine lets it go
  pub one_halts : (x k : ℕ) (tops : Kinds) (W : World) (M : Seen) (d : Disk) (t : Parts) → at_uid u d.intents ≡ None →
      (W.disk.bare (uid_number u) ≡ true → ⊥) → SeesDisks x tops W (up k d (with_coord t c) M) →
      SeesDisks x tops (after W (machine.Halt (uid_number u))) (up k d (with_coord t (ended u how c)) M)
  one_halts x k tops W M d t none whole s = calm_seen x k tops W M d (with_coord t c) u (machine.Halt (uid_number u)) d.intents (ended u how
      c) s here tt refl halts.0 refl stages (λ w other. refl) halts.1 (λ m n apart r. record { sorted = r.sorted; own = r.own; is = r.is })
      (ended_coord x k d.inc tops c (ended u how c) W.disk V.disk u b how mine found one_tree one_doings stages refl refl refl
      (ap is_gone (put_same (uid_number u) disk.Gone W.disk.stage)) (λ w other. refl) (λ bare r is. absurd (whole bare)))
      (one_noted x d.intents V none (notes_later x W V (effects_are_later W (machine.Halt (uid_number u) ∷ []) (tt, tt) s.whole) d.intents c
      (s.notes k (record { number = k; disk = d; live = Some (with_coord t c) }) (with_coord t c)
      (node_here M k (record { number = k; disk = d; live = Some (with_coord t c) })) refl)))
    where
      V : World
      V = after W (machine.Halt (uid_number u))

      mine : SeesCoord x k d.inc tops c W.disk
      mine = s.coords k (record { number = k; disk = d; live = Some (with_coord t c) }) (with_coord t c)
          (node_here M k (record { number = k; disk = d; live = Some (with_coord t c) })) refl

      here : u.node ≡ k
      here = (branch_at u c b found).0 ∙ mine.node

      records : SeesRecords k d.intents W.disk
      records = s.records k (record { number = k; disk = d; live = Some (with_coord t c) })
          (node_here M k (record { number = k; disk = d; live = Some (with_coord t c) }))

      halts : Stills W (machine.Halt (uid_number u)) × SeesRecords k d.intents (after W (machine.Halt (uid_number u))).disk
      halts = actions_may_halt k W (uid_number u) d.intents records

      stages : (w : Uid) → w ≢ u → (after W (machine.Halt (uid_number u))).disk.stage (uid_number w) ≡ W.disk.stage (uid_number w)
      stages w other = put_other (uid_number u) disk.Gone W.disk.stage (uid_number w) (apart_number u w other)
