-- A top that used nothing is decided, walked through at its coordinator.
use Rattle.arj_law_parts.proofs.Words
use Words.{◌≡◌, ◌≢◌, ◌⊎◌, ℕ, ◌&&◌, ◌||◌, List, [], ◌∷◌, ◌++◌, true, false, Option, Some, None, refl, sym, ◌∙◌, ap, subst, map, append-nil}
use Words.{if◌then◌else◌, not, is_some, filter, Uid, End, ObjectState, Used, participants, has_record, included_of, changed_of}
use Words.{Coord, Doing, Idle, doing_of, Disk, Do, PutIntent, says, say_for, decided, decided_told, record_work, tell, tell_all, Parts}
use Words.{with_coord, at_uid, number_set, uid_number, AreAll, Branch, branch_of, is_open_branch, root_of, Seen, is_empty}
use Words.body
use Words.ending
use Words.commit
use Words.order
use Rattle.arj_law_disk_view.proofs.Terms
use Terms.{World, after, Meaning, is_gone, never, never_some, some_is, put_same, put_other, up, Walks, Up, UsesNothing, SeesRecords, Stills}
use Terms.{nodes_of, KnowsCoord, Among, plan_at, plan_by, used_at, Kinds, SeesDisks, SeesCoord, SeesNotes, IsSeenByDisks, IsLater, KnowsNow}
use Terms.machine
use Terms.mail
use Terms.disk
use Rattle.arj_law_disk_view.proofs.view
use view.{AbortWalks.top_open, ActionAborts.dead_told, DecidingSteps.actions_may_halt, Frames.node_here, Later.effects_are_later}
use view.{Notes.notes_later}
use view.DecidedCoord.{decided_tree, decided_doings, decided_tellings, decided_doing, decided_roots}
use view.Ended.{HasEnded, ended_coord, ended_noted, calm_seen}
use view.HeardWalks.{is_say, say_walk}
use view.TellWalks.{Goes, aborted}
use view.TopFrames.{branch_at, apart_number}
use Rattle.arj_law_disk_view.specs.view.Coordinating.{UnusedAreDecided}

module _ (x : ℕ) (tops : Kinds) (e k : ℕ) (d : Disk) (t : Parts) (act : Uid) (b : Branch) (p : commit.Plan) (M : Seen)
    (knows : KnowsCoord tops d.intents t.coord) (found : branch_of act t.coord.tree ≡ Some b) (unended : b.ended ≡ None)
    (top : tops.is_top (uid_number act) ≡ true) (nothing : UsesNothing p) (W : World) (sees : SeesDisks x tops W (up k d t M)) where
  at_work : doing_of act t.coord ≡ Some (knows.at_work act b found).0
  at_work = (knows.at_work act b found).1

  abbrev C : Coord
  C = decided act p t.coord

  abbrev V : World
  V = after W (machine.Halt (uid_number act))

  mine : SeesCoord x k d.inc tops t.coord W.disk
  mine =
      sees.coords k (record { number = k; disk = d; live = Some t }) t (node_here M k (record { number = k; disk = d; live = Some t })) refl

  records : SeesRecords k d.intents W.disk
  records = sees.records k (record { number = k; disk = d; live = Some t }) (node_here M k (record { number = k; disk = d; live = Some t }))

  notes : SeesNotes x d.intents t.coord W
  notes =
      sees.notes k (record { number = k; disk = d; live = Some t }) t (node_here M k (record { number = k; disk = d; live = Some t })) refl

  here : act.node ≡ k
  here = (branch_at act t.coord b found).0 ∙ mine.node

  none : at_uid act d.intents ≡ None
  none = knows.unrecorded act (ap is_open_branch found ∙ ap (λ (o : Option End). not (is_some o)) unended)

  nobody : participants p ≡ []
  nobody = λ i. number_set (number_set (map (λ (u : Used). u.server) (filter (λ (u : Used). u.called) (nothing.used i)))
      ++ nothing.prepared i ++ (if nothing.confirmed i then 1 ∷ [] else []))

  unrecorded : has_record p ≡ false
  unrecorded = λ i. not (is_empty (nothing.prepared i)) || (nothing.confirmed i && not (is_empty p.excluded && is_empty (included_of p)))

  halts : Stills W (machine.Halt (uid_number act)) × SeesRecords k d.intents (after W (machine.Halt (uid_number act))).disk
  halts = actions_may_halt k W (uid_number act) d.intents records

  stages : (w : Uid) → w ≢ act → (after W (machine.Halt (uid_number act))).disk.stage (uid_number w) ≡ W.disk.stage (uid_number w)
  stages w other = put_other (uid_number act) disk.Gone W.disk.stage (uid_number w) (apart_number act w other)

  later : IsLater W V
  later = effects_are_later W (machine.Halt (uid_number act) ∷ []) (tt, tt) sees.whole

  own : (r : Doing) → record (knows.at_work act b found).0 { now = Idle; took = participants p } ≡ r → ((n : ℕ) → order.has r.took n
      ≡ true → (disk.decided V.disk (uid_number act) ≡ true) ⊎ (V.disk.bare (uid_number act) ≡ true)) × KnowsNow x V r.now
  own r same = (
    λ n on. absurd (nobody_in n (ap (λ ns. order.has ns n) (sym nobody ∙ ap (λ (z : Doing). z.took) same) ∙ on)),
    subst (λ (z : Doing). KnowsNow x V z.now) same tt,
  )
    where
      nobody_in : (n : ℕ) → order.has [] n ≡ true → ⊥
      nobody_in n on = cc on

  seen : SeesDisks x tops V (up k d (with_coord t C) M)
  seen = calm_seen x k tops W M d t act (machine.Halt (uid_number act)) d.intents C sees here tt refl halts.0 refl stages (λ w other. refl)
      halts.1 (λ m n apart r. record { sorted = r.sorted; own = r.own; is = r.is })
      (ended_coord x k d.inc tops t.coord C W.disk V.disk act b ending.Commit mine found tree_now
      (decided_doings t.coord act b (knows.at_work act b found).0 p found at_work) stages refl refl refl
      (ap is_gone (put_same (uid_number act) disk.Gone W.disk.stage)) (λ w other. refl) (λ bare r is. absurd (not_bare bare)))
      (ended_noted x d.intents t.coord C V act b ending.Commit (notes_later x W V later d.intents t.coord notes) found tree_now
      (decided_tellings t.coord act b (knows.at_work act b found).0 p found at_work)
      (decided_doings t.coord act b (knows.at_work act b found).0 p found at_work)
      (λ i there. absurd (never_some there none))
      (λ r is. own r (some_is (decided_doing t.coord act b (knows.at_work act b found).0 p found at_work) is))
      (decided_roots t.coord act b (knows.at_work act b found).0 p found at_work x W V notes.roots
      (λ st among of. absurd (unchanged st among)) later (λ w writes. absurd (unwritten w writes))))
    where
      not_bare : W.disk.bare (uid_number act) ≡ true → ⊥
      not_bare bare = let n = mine.bare act b (knows.at_work act b found).0 found at_work bare in never_some n.committed unended

      tree_now : HasEnded act b ending.Commit t.coord.tree C.tree
      tree_now = decided_tree t.coord act b (knows.at_work act b found).0 p found at_work

      unchanged : (st : ObjectState) → Among st p.changed → ⊥
      unchanged st among = subst (λ ss. Among st ss) nothing.changed among

      unwritten : (w : disk.Packed) → (plan_at x p).writes ≡ Some w → ⊥
      unwritten w writes = never_some writes (λ i. (plan_by (used_at x (nothing.used i)) (changed_of x p)).writes)

  may : (n : ℕ) → Meaning V.disk (mail.ToldAbort (uid_number act) n)
  may n = dead_told V.disk (uid_number act) n (ap is_gone (put_same (uid_number act) disk.Gone W.disk.stage))
      (records.is act here ∙ ap nodes_of none)
      (λ bare. never (sees.whole.core.bare.gone (uid_number act) bare) (top_open x tops W.disk (uid_number act) b.kind
      (let r = (knows.at_work act b found).0 in r.now) top (mine.working act b (knows.at_work act b found).0 found unended at_work)))

  told_is : (root : Uid) (ns : List ℕ) → map (decided_told root act p) ns ≡ tell_all root false ((act, ending.Abort) ∷ []) ns
  told_is root [] = refl
  told_is root (n ∷ ns) = λ i. (if order.has (nobody i) n then tell root (has_record p) ((act, ending.Commit) ∷ []) n else tell root false
      ((act, ending.Abort) ∷ []) n) ∷ told_is root ns i

  line_says : AreAll is_say (says act body.Committed t.coord)
  line_says = by (doing_of act t.coord)
    where
      by : (o : Option Doing) → AreAll is_say (say_for body.Committed o)
      by None = refl
      by (Some r) = refl

  goes : Goes x k tops e d t C V.disk (map (decided_told (root_of p.path) act p) p.sent)
  goes = subst (λ es. Goes x k tops e d t C V.disk es) (append-nil (tell_all (root_of p.path) false ((act, ending.Abort) ∷ []) p.sent) ∙ sym
      (told_is (root_of p.path) p.sent)) (aborted x k tops e d t C V.disk act (root_of p.path) [] (λ N U same s. (U, s)) top may p.sent)

  pub unused_walks : Walks (IsSeenByDisks x tops) e k (record_work act p ++ says act body.Committed t.coord
      ++ map (decided_told (root_of p.path) act p) p.sent) (Up (IsSeenByDisks x tops) k (with_coord t C)) d M
  unused_walks = subst (λ c. Walks (IsSeenByDisks x tops) e k
      ((if c then Do (PutIntent act (record { root = root_of p.path; nodes = participants p })) ∷ [] else []) ++ says act body.Committed
      t.coord ++ map (decided_told (root_of p.path) act p) p.sent) (Up (IsSeenByDisks x tops) k (with_coord t C)) d M)
      (sym unrecorded) (say_walk x k tops e (with_coord t C) (with_coord t C) (says act body.Committed t.coord)
      (map (decided_told (root_of p.path) act p) p.sent) d V line_says (λ N s. goes N V refl s) M seen)

pub unused_are_decided : UnusedAreDecided
unused_are_decided x tops e k d t act b p M knows found unended top path nothing W sees =
    subst (λ a. Walks (IsSeenByDisks x tops) e k (record_work a p ++ says a body.Committed t.coord ++ map
    (decided_told (root_of p.path) a p) p.sent) (Up (IsSeenByDisks x tops) k (with_coord t (decided a p t.coord))) d M) (sym path)
    (unused_walks x tops e k d t act b p M knows found unended top nothing W sees)
